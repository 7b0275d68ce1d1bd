use Rattle.std.proofs.Common.{◌≡◌, ◌++◌, ℕ, List, length, ap, ◌∙◌, arith}
use Rattle.vic_wire.specs.Parts.{read_part}
use Rattle.vic_laws.specs.Meanings.{texts_of_each, one_to, nodes_of, parts_of}
use Rattle.vic_view.specs.Transcripts.{transcript_group, transcript_history}
use Rattle.vic_apart.proofs.Standing.{stand_at}
use Rattle.vic_apart.proofs.Gathered.{client_next}
use Rattle.vic_apart.proofs.listing.put_parts.Goals as goal

pub loop-stand-preserved : goal.loop-stand-preserved
loop-stand-preserved c =
    let g = transcript_group c.args.t.now in
    let h = transcript_history c.args.t.now in
    let i = c.loop-stand.stand-index in
    let f = λ (bytes : List ℕ). nodes_of (read_part bytes) in
    client_next (λ k. texts_of_each f (parts_of g k h)) i c.args.texts.now c.loop-stand.texts c.put_parts_of.new.texts (texts_of_each f c.as_slice.result.now)
    c.loop-stand.invariant c.in_ok-put_parts_of.ensures
    (ap (texts_of_each f) (c.as_slice.ensures ∙ (stand_at g h g.count c.args.all.now i c.stand-item.result c.requires.stands c.loop-stand-test.true c.stand-item.is).parts))

pub returns : goal.returns
returns c =
    let g = transcript_group c.args.t.now in
    let h = transcript_history c.args.t.now in
    let size : length c.args.all.now ≡ c.args.t.now.count = c.requires.stands.size in
    let all : c.loop-stand.stand-index ≡ c.args.t.now.count = omega (arith, c.loop-stand-test.false, c.loop-stand.auto.stand-index-end) in
    c.loop-stand.invariant ∙ ap (λ (n : ℕ). c.args.texts.now ++ texts_of_each (λ k. texts_of_each (λ (bytes : List ℕ). nodes_of (read_part bytes)) (parts_of g k h)) (one_to n)) all
