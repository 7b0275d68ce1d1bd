use Rattle.vic_view.specs.Transcripts.{transcript_group}
use Rattle.vic_apart.proofs.Chained.{Chained}
use Rattle.vic_apart.proofs.chains.put_chain_texts.Given as goal

abbrev pub invariant-loop-place : goal.invariant-loop-place
invariant-loop-place l = Chained (transcript_group l.t) l.initial.texts l.texts l.last.bytes l.path l.place-index
