use Rattle.std.proofs.Common.{ap, sym, ◌∙◌, subst}
use Rattle.std.specs.BTreeMap.{is_at}
use Rattle.std.specs.Map.{lookup}
use Rattle.std.specs.Ordering.{nat_cmp}
use Rattle.std.specs.Cmp.Lexicographic.{slice_cmp}
use Rattle.vic_blob.specs.Keeping.{IsSound}
use Rattle.vic_blob.proofs.Indexed.{sound_same}
use Rattle.vic_blob.proofs.Blobs.copy.Goals as goal

pub invariant_of-result : goal.invariant_of-result
invariant_of-result c =
    let old = c.self.inside in
    let same = sound_same old.contents.items old.places c.in_ok-places.places old.bytes c.self.invariant (λ q. ap (λ es. lookup (is_at (slice_cmp nat_cmp q)) es) c.in_ok-places.ensures) in
    subst (λ xs. IsSound xs c.in_ok-places.places old.bytes) (sym (c.in_ok-contents.ensures ∙ c.deref.ensures.value)) same
