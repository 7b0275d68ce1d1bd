-- A part that was read is in the grammar.
use Rattle.std.proofs.Common.{◌≡◌, ℕ, List, Some, Result, Ok, Err, ap, sym, ◌∙◌}
use Rattle.std.specs.Prelude.{IfOk}
use Rattle.vic_prune.specs.declared.pruned.Pruned.{Pruned}
use Rattle.vic_prune.specs.Parts.{part}
use Rattle.vic_proof.specs.Faults.{GivesPart}
use Rattle.vic_proof.specs.declared.reading.ProofFault.{ProofFault}
use Rattle.vic_dict.specs.Lists.{AreBytes}
use Rattle.vic_wire.specs.Parts.{Part, PartFault, IsPart, part_at, if_read, read_part}
use Rattle.vic_spellings.proofs.SpelledParts.{part_takes}

pub in_grammar : (bytes : List ℕ) (t : Part) → AreBytes bytes → part_at bytes ≡ Ok t → IsPart t
unfolding read_part
in_grammar bytes t fits e = (part_takes bytes t fits (ap if_read e)).0

pub given : (r : Result Pruned ProofFault) (bytes : List ℕ) → AreBytes bytes → GivesPart part r (part_at bytes) → IfOk r (λ p. IsPart (part p))
given (Ok p) bytes fits e = in_grammar bytes (part p) fits e
given (Err e) bytes fits f = tt
