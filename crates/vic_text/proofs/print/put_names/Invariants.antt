use Rattle.std.proofs.Common.{◌≡◌, ◌++◌, take}
use Rattle.std.specs.List.{flat_map}
use Rattle.vic_script.specs.Words.{space, bytes_word}
use Rattle.vic_text.proofs.print.put_names.Given as goal

-- the names so far are printed
abbrev pub invariant-loop-name : goal.invariant-loop-name
invariant-loop-name l = l.out ≡ l.initial.out ++ flat_map (λ k. space ++ bytes_word k) (take l.name-index l.name-items)
