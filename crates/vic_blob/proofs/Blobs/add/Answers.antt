use Rattle.std.proofs.Common.{[], ◌≡◌, ◌+◌, ◌∷◌, ◌++◌, length, Some, None, ap, sym, ◌∙◌, subst, arith}
use Rattle.std.specs.BTreeMap.{get, is_at}
use Rattle.std.specs.Map.{lookup}
use Rattle.std.specs.Vec.{vec_len}
use Rattle.std.specs.Option.{MatchOption}
use Rattle.std.specs.Ordering.{nat_cmp, is_eq}
use Rattle.std.specs.Prelude.{cond}
use Rattle.vic_rules.specs.Objects.{content_hash}
use Rattle.std.specs.Cmp.Lexicographic.{slice_cmp}
use Rattle.vic_blob.specs.Keeping.{IsSound, IsRoom}
use Rattle.vic_blob.proofs.Indexed.{sound_more, sound_same, popped}
use Rattle.vic_blob.proofs.Blobs.add.Goals as goal

-- src/lib.rt:106:17
pub invariant_of-self-in-Ok : goal.invariant_of-self-in-Ok
invariant_of-self-in-Ok c =
    let updates = c.in-Ok.ensures.updates in
    let room = c.requires.room in
    let items = c.in_ok-push.ensures.items in
    let view = c.self.view_is in
    let len = c.len-len.ensures in
    let place : c.len-place.result ≡ length c.self.inside.contents.items = grind arith in
    let hash = c.requires.hash in
    subst (λ xs. IsSound xs c.insert.new.self (c.self.inside.bytes + c.len-len.result)) (sym items)
    (subst (λ n. IsSound (c.self.inside.contents.items ++ c.args.content ∷ []) c.insert.new.self (c.self.inside.bytes + n)) (sym len)
    (sound_more c.self.inside.contents.items c.args.content c.self.inside.places c.insert.new.self c.self.inside.bytes c.self.invariant
    (subst (λ xs. IsRoom xs c.args.content) (sym view) room) c.requires.small
    (λ q. updates.0 q ∙ (ap (λ h. cond (is_eq (slice_cmp nat_cmp h q)) (Some c.len-place.result) (get (slice_cmp nat_cmp) c.self.inside.places q)) hash
    ∙ ap (λ n. cond (is_eq (slice_cmp nat_cmp (content_hash c.args.content) q)) (Some n) (get (slice_cmp nat_cmp) c.self.inside.places q)) place))))

-- src/lib.rt:109:21
pub invariant_of-self-in-Err : goal.invariant_of-self-in-Err
invariant_of-self-in-Err c =
    let err = c.in-Err.ensures.err in
    let items = c.pop-undone.ensures.items in
    let cases = c.pop-undone.ensures.cases in
    let pushed = c.in_ok-push.ensures.items in
    let count : length c.push.new.self.items ≡ vec_len c.push.new.self = grind arith in
    let some : MatchOption c.pop-undone.result (length c.push.new.self.items ≡ 0) (λ x. Unit {0}) = elim c.pop-undone.result as (λ o. MatchOption o (vec_len c.push.new.self ≡ 0 × vec_len c.pop-undone.new.self ≡ 0) (λ x. vec_len c.pop-undone.new.self + 1 ≡ vec_len c.push.new.self) → MatchOption o (length c.push.new.self.items ≡ 0) (λ x. Unit {0})) [ None ↦ (λ k. count ∙ k.0) | Some x ↦ (λ k. tt) ] cases in
    let same : c.pop-undone.new.self.items ≡ c.self.inside.contents.items = popped c.self.inside.contents.items c.pop-undone.new.self.items c.args.content c.pop-undone.result (length c.push.new.self.items) (sym pushed ∙ items) (ap length pushed) some in
    subst (λ xs. IsSound xs c.insert.new.self c.self.inside.bytes) (sym same)
    (sound_same c.self.inside.contents.items c.self.inside.places c.insert.new.self c.self.inside.bytes c.self.invariant (λ q. ap (λ es. lookup (is_at (slice_cmp nat_cmp q)) es) err))
