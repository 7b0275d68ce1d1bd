use Rattle.std.proofs.Common.{◌≡◌, ◌++◌}
use Rattle.vic_dict.specs.Lists.{front}
use Rattle.vic_rules.specs.History.{standing, path}
use Rattle.vic_rules.specs.Trust.{node_texts_left}
use Rattle.vic_laws.specs.Meanings.{texts_of_each, one_to, zero_to}
use Rattle.vic_view.specs.Transcripts.{transcript_group, transcript_history}
use Rattle.vic_apart.proofs.listing.put_sealed.Given as goal

abbrev pub invariant-loop-stand : goal.invariant-loop-stand
invariant-loop-stand l =
    l.texts ≡ l.initial.texts ++ texts_of_each (λ i. texts_of_each (λ n. node_texts_left (transcript_group l.t) (transcript_history l.t) (front n (path (transcript_group l.t) i (transcript_history l.t)))) (zero_to (standing (transcript_group l.t) i (transcript_history l.t)).sealed)) (one_to l.stand-index)
