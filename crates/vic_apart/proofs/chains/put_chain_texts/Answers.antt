use Rattle.std.proofs.Common.{ap, ◌∙◌}
use Rattle.vic_wire.specs.Hashes.{hash}
use Rattle.vic_view.specs.Transcripts.{transcript_group}
use Rattle.vic_apart.proofs.Chained.{chained_start, chained_next}
use Rattle.vic_apart.proofs.chains.put_chain_texts.Goals as goal

pub loop-place-init : goal.loop-place-init
loop-place-init c =
    chained_start (transcript_group c.args.t.now) c.args.texts.now c.hash_of-last.result.bytes c.as_slice-2.result.now c.args.path.now c.requires (c.as_slice-2.ensures ∙ c.in_ok-genesis_text_of.ensures) c.hash_of-last.ensures

pub loop-place-preserved : goal.loop-place-preserved
loop-place-preserved c =
    chained_next (transcript_group c.args.t.now) c.args.texts.now c.loop-place.texts c.push.new.self c.loop-place.last.bytes c.hash_of-last-in-loop-place.result.bytes c.in_ok-text.text
    c.args.path.now c.loop-place.place-index c.place-item.result c.loop-place-test.true c.place-item.is c.loop-place.invariant
    c.in_ok-text.ensures
    (c.hash_of-last-in-loop-place.ensures ∙ ap hash c.as_slice-in-loop-place.ensures) c.in_ok-push.ensures.ok
