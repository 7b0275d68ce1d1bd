use Rattle.std.proofs.Common.{◌≡◌, ◌∷◌, ◌∙◌, ap, ℕ, List, [], take, reverse}
use Rattle.vic_wire.specs.Hashes.{hash, chain}
use Rattle.vic_wire.specs.Texts.{chain_text}
use Rattle.vic_view.specs.Transcripts.{transcript_group}
use Rattle.vic_view.proofs.Replays.{entries}
use Rattle.vic_view.proofs.Hashing.{genesis_is, chain_is, hash_first, hash_next, spelled_next}
use Rattle.vic_view.proofs.forgery.hashes_along.Goals as goal

pub loop-place-init : goal.loop-place-init
loop-place-init c =
    let first : c.genesis-last.result.bytes ≡ chain (transcript_group c.args.t.now) [] = c.genesis-last.ensures ∙ genesis_is (transcript_group c.args.t.now) in
    record {
      spelled = c.requires;
      hashes = hash_first (transcript_group c.args.t.now) c.args.places.now c.new-hashes.result c.push.new.self c.genesis-last.result c.new-hashes.ensures c.in_ok-push.ensures.ok first;
      last = first;
    }

pub loop-place-preserved : goal.loop-place-preserved
loop-place-preserved c =
    let g = transcript_group c.args.t.now in
    let ps = c.args.places.now in
    let i = c.loop-place.place-index in
    let made : c.chain_step-last.result.bytes ≡ chain g (c.place-item.result.entry ∷ reverse (entries (take i ps))) =
    c.chain_step-last.ensures ∙ ap (λ (b : List ℕ). hash (chain_text b c.place-item.result.entry)) c.loop-place.invariant.last ∙ chain_is g c.place-item.result.entry (reverse (entries (take i ps))) in
    let next = hash_next g ps i c.place-item.result c.loop-place.hashes c.push-in-loop-place.new.self c.chain_step-last.result c.loop-place-test.true c.place-item.is c.loop-place.invariant.hashes made c.in_ok-push-2.ensures.ok in
    record {
      spelled = spelled_next ps i c.place-item.result c.loop-place-test.true c.place-item.is c.loop-place.invariant.spelled;
      hashes = next.0;
      last = next.1;
    }
