use Rattle.std.proofs.Common.{◌≡◌, take, min}
use Rattle.vic_script.specs.Words.{number_of}
use Rattle.vic_text.proofs.word.wide.Given as goal

-- the number of the digits so far, or the last of a type that is wider
abbrev pub invariant-loop-b : goal.invariant-loop-b
invariant-loop-b l = l.n ≡ min (number_of (take l.b-index l.digits)) 18446744073709551615
