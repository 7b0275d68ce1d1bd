use Rattle.std.proofs.Common.{◌≡◌, true, false, List, ℕ, ap, sym, ◌∙◌}
use Rattle.vic_wire.specs.Hashes.{hash}
use Rattle.vic_apart.specs.ByHash.{text_under, is_other, first_of, if_here}
use Rattle.vic_apart.proofs.Seen.{seen_next, seen_clash}
use Rattle.vic_apart.proofs.by_hash.are_texts_apart.Goals as goal

pub returns-then-branch : goal.returns-then-branch
returns-then-branch c =
    let h = c.hash_of-hash.result.bytes in
    let other : is_other (text_under c.loop-text.seen h) c.text-item.result ≡ true =
    ap (is_other (text_under c.loop-text.seen h)) (sym c.as_slice-in-loop-text.ensures) ∙ sym c.in_ok-insert.ensures.clash ∙ c.if-branch.true in
    seen_clash c.args.texts.now c.loop-text.text-index c.text-item.result c.loop-text-test.true c.text-item.is (text_under c.loop-text.seen) h
    (c.hash_of-hash.ensures ∙ ap hash c.as_slice.ensures) c.loop-text.invariant other

pub loop-text-preserved : goal.loop-text-preserved
loop-text-preserved c =
    let h = c.hash_of-hash.result.bytes in
    let other : is_other (text_under c.loop-text.seen h) c.text-item.result ≡ false =
    ap (is_other (text_under c.loop-text.seen h)) (sym c.as_slice-in-loop-text.ensures) ∙ sym c.in_ok-insert.ensures.clash ∙ c.if-branch.false in
    seen_next c.args.texts.now c.loop-text.text-index c.text-item.result c.loop-text-test.true c.text-item.is (text_under c.loop-text.seen) (text_under c.insert.new.self) h
    (c.hash_of-hash.ensures ∙ ap hash c.as_slice.ensures) c.loop-text.invariant other
    (λ q. c.in_ok-insert.ensures.ok q ∙ ap (λ (t : List ℕ). first_of (text_under c.loop-text.seen q) (if_here h q t)) c.as_slice-in-loop-text.ensures)
