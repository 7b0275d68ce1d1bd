use Rattle.std.proofs.Common.{◌≡◌, ◌++◌}
use Rattle.vic_rules.specs.History.{path}
use Rattle.vic_laws.specs.Meanings.{texts_of_each, one_to, chain_texts_up}
use Rattle.vic_view.specs.Transcripts.{transcript_group, transcript_history}
use Rattle.vic_apart.proofs.listing.put_paths.Given as goal

abbrev pub invariant-loop-stand : goal.invariant-loop-stand
invariant-loop-stand l = l.texts ≡ l.initial.texts ++ texts_of_each (λ i. chain_texts_up (transcript_group l.t) (path (transcript_group l.t) i (transcript_history l.t))) (one_to l.stand-index)
