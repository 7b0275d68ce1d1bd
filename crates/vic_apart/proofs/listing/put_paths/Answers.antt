use Rattle.std.proofs.Common.{◌≡◌, ◌++◌, ◌+◌, ℕ, length, ap, sym, subst, ◌∙◌, arith}
use Rattle.std.specs.List.{AllByRecursion}
use Rattle.vic_rules.specs.History.{path}
use Rattle.vic_laws.specs.Meanings.{texts_of_each, one_to, chain_texts_up}
use Rattle.vic_view.specs.Transcripts.{transcript_group, transcript_history}
use Rattle.vic_view.specs.Making.{IsPlaceEntry}
use Rattle.vic_view.specs.Plain.{prefix_of}
use Rattle.vic_apart.proofs.Standing.{stand_at}
use Rattle.vic_apart.proofs.Leaving.{path_is, path_entries}
use Rattle.vic_apart.proofs.Gathered.{client_next}
use Rattle.vic_apart.proofs.listing.put_paths.Goals as goal

pub put_chain_texts-requires : goal.put_chain_texts-requires
put_chain_texts-requires c =
    let g = transcript_group c.args.t.now in
    let h = transcript_history c.args.t.now in
    let i = c.loop-stand.stand-index in
    subst (AllByRecursion IsPlaceEntry) (sym c.as_slice.ensures)
    (path_entries g h c.requires.lawful (i + 1) c.stand-item.result (stand_at g h g.count c.args.all.now i c.stand-item.result c.requires.stands c.loop-stand-test.true c.stand-item.is))

pub loop-stand-preserved : goal.loop-stand-preserved
loop-stand-preserved c =
    let g = transcript_group c.args.t.now in
    let h = transcript_history c.args.t.now in
    let i = c.loop-stand.stand-index in
    client_next (λ k. chain_texts_up g (path g k h)) i c.args.texts.now c.loop-stand.texts c.put_chain_texts.new.texts (chain_texts_up g (prefix_of c.as_slice.result.now))
    c.loop-stand.invariant c.in_ok-put_chain_texts.ensures
    (ap (chain_texts_up g) (ap prefix_of c.as_slice.ensures
    ∙ path_is g h c.requires.lawful (i + 1) c.stand-item.result (stand_at g h g.count c.args.all.now i c.stand-item.result c.requires.stands c.loop-stand-test.true c.stand-item.is)))

pub returns : goal.returns
returns c =
    let g = transcript_group c.args.t.now in
    let h = transcript_history c.args.t.now in
    let size : length c.args.all.now ≡ c.args.t.now.count = c.requires.stands.size in
    let all : c.loop-stand.stand-index ≡ c.args.t.now.count = omega (arith, c.loop-stand-test.false, c.loop-stand.auto.stand-index-end) in
    c.loop-stand.invariant ∙ ap (λ (n : ℕ). c.args.texts.now ++ texts_of_each (λ k. chain_texts_up g (path g k h)) (one_to n)) all
