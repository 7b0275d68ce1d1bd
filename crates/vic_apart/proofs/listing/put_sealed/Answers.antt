use Rattle.std.proofs.Common.{◌≡◌, ◌++◌, ◌+◌, ℕ, length, ap, refl, ◌∙◌, arith}
use Rattle.vic_dict.specs.Lists.{front}
use Rattle.vic_rules.specs.History.{standing, path}
use Rattle.vic_rules.specs.Trust.{node_texts_left}
use Rattle.vic_laws.specs.Meanings.{texts_of_each, one_to, zero_to}
use Rattle.vic_view.specs.Transcripts.{transcript_group, transcript_history}
use Rattle.vic_apart.specs.Sealed.{left_texts, paths_in}
use Rattle.vic_apart.proofs.Standing.{stand_at}
use Rattle.vic_apart.proofs.Leaving.{path_entries, few_places, sealed_within, left_is}
use Rattle.vic_apart.proofs.Gathered.{client_next}
use Rattle.vic_apart.proofs.listing.put_sealed.Goals as goal

pub put_left_texts-requires-clause-entries : goal.put_left_texts-requires-clause-entries
put_left_texts-requires-clause-entries c =
    let g = transcript_group c.args.t.now in
    let h = transcript_history c.args.t.now in
    let i = c.loop-stand.stand-index in
    path_entries g h c.requires.lawful (i + 1) c.stand-item.result (stand_at g h g.count c.args.all.now i c.stand-item.result c.requires.stands c.loop-stand-test.true c.stand-item.is)

pub put_left_texts-requires-clause-few : goal.put_left_texts-requires-clause-few
put_left_texts-requires-clause-few c =
    let g = transcript_group c.args.t.now in
    let h = transcript_history c.args.t.now in
    let i = c.loop-stand.stand-index in
    few_places g h c.requires.lawful (i + 1) c.stand-item.result (stand_at g h g.count c.args.all.now i c.stand-item.result c.requires.stands c.loop-stand-test.true c.stand-item.is)

pub put_left_texts-requires-clause-within : goal.put_left_texts-requires-clause-within
put_left_texts-requires-clause-within c =
    let g = transcript_group c.args.t.now in
    let h = transcript_history c.args.t.now in
    let i = c.loop-stand.stand-index in
    sealed_within g h c.requires.lawful (i + 1) c.stand-item.result (stand_at g h g.count c.args.all.now i c.stand-item.result c.requires.stands c.loop-stand-test.true c.stand-item.is)

pub loop-stand-preserved : goal.loop-stand-preserved
loop-stand-preserved c =
    let g = transcript_group c.args.t.now in
    let h = transcript_history c.args.t.now in
    let i = c.loop-stand.stand-index in
    let s = c.stand-item.result in
    client_next (λ k. texts_of_each (λ n. node_texts_left g h (front n (path g k h))) (zero_to (standing g k h).sealed)) i c.args.texts.now c.loop-stand.texts c.put_left_texts.new.texts
    (texts_of_each (left_texts (paths_in c.args.all.now) s.path) (zero_to s.sealed))
    c.loop-stand.invariant c.in_ok-put_left_texts.ensures
    (left_is g h c.requires.lawful c.args.all.now c.args.all.now refl c.requires.stands (i + 1) s (stand_at g h g.count c.args.all.now i s c.requires.stands c.loop-stand-test.true c.stand-item.is))

pub returns : goal.returns
returns c =
    let g = transcript_group c.args.t.now in
    let h = transcript_history c.args.t.now in
    let size : length c.args.all.now ≡ c.args.t.now.count = c.requires.stands.size in
    let all : c.loop-stand.stand-index ≡ c.args.t.now.count = omega (arith, c.loop-stand-test.false, c.loop-stand.auto.stand-index-end) in
    c.loop-stand.invariant ∙ ap (λ (m : ℕ). c.args.texts.now ++ texts_of_each (λ k. texts_of_each (λ n. node_texts_left g h (front n (path g k h))) (zero_to (standing g k h).sealed)) (one_to m)) all
