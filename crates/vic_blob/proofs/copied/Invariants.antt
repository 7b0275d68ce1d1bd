use Rattle.std.proofs.Common.{◌≡◌, take}
use Rattle.vic_blob.proofs.copied.Given as goal

abbrev pub invariant-loop-content : goal.invariant-loop-content
invariant-loop-content l = l.made.items ≡ take l.content-index l.contents
