use Rattle.std.proofs.Common.{◌≡◌, ◌++◌}
use Rattle.vic_wire.specs.Parts.{read_part}
use Rattle.vic_laws.specs.Meanings.{texts_of_each, one_to, nodes_of, parts_of}
use Rattle.vic_view.specs.Transcripts.{transcript_group, transcript_history}
use Rattle.vic_apart.proofs.listing.put_parts.Given as goal

abbrev pub invariant-loop-stand : goal.invariant-loop-stand
invariant-loop-stand l = l.texts ≡ l.initial.texts ++ texts_of_each (λ i. texts_of_each (λ bytes. nodes_of (read_part bytes)) (parts_of (transcript_group l.t) i (transcript_history l.t))) (one_to l.stand-index)
