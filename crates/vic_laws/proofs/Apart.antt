-- Where a test finds no collision, there is none.
use Rattle.std.specs.Prelude.{◌≡◌, ◌≢◌, ℕ, Bool, true, false, not, ◌&&◌, ◌||◌, List, [], ◌∷◌}
use Rattle.std.specs.List.{list_all}
use Rattle.std.specs.Str.{bytes_eq}
use Rattle.std.proofs.Common.{refl, ap, subst, sym, ◌∙◌, inl, inr, true≢false}
use Rattle.std.proofs.lemmas.Bool.{and_parts, or_cases, false_from_ne_true}
use Rattle.std.proofs.lemmas.Slice.Eq.{bytes_eq-Decides}
use Rattle.vic_dict.specs.Lists.{IsIn}
use Rattle.vic_wire.specs.Hashes.{hash}
use Rattle.vic_laws.specs.Meanings.{listed_texts, is_apart, are_apart, ApartIs}
use Rattle.vic_laws.proofs.Words.{all_true, all_at, bytes_same}
use Rattle.vic_laws.proofs.Meanings.{listed_tells}

abbrev Apart : List ℕ → List ℕ → Type 0
Apart t u = t ≢ u → hash t ≡ hash u → ⊥

turned : (t u : List ℕ) → Apart t u → Apart u t
turned t u a differ same = a (λ e. differ (sym e)) (sym same)

apart_shown : (t u : List ℕ) → is_apart t u ≡ true → Apart t u
apart_shown t u h differ same = elim (or_cases (bytes_eq t u) (not (bytes_eq (hash t) (hash u))) h) [
  | inl e ↦ differ (bytes_same t u e)
  | inr n ↦ (let equal : bytes_eq (hash t) (hash u) ≡ true = (bytes_eq-Decides (hash t) (hash u)).1 same in true≢false (sym n ∙ ap not equal))
]

pair_apart : (ts : List (List ℕ)) → are_apart ts ≡ true → (t u : List ℕ) → IsIn ts t → IsIn ts u → Apart t u
pair_apart [] h t u i j = absurd i
pair_apart (x ∷ ts) h t u (inl e) (inl f) = λ differ same. differ (sym e ∙ f)
pair_apart (x ∷ ts) h t u (inl e) (inr j) =
    subst (λ w. Apart w u) e (all_at (Apart x) ts u (all_true (is_apart x) (Apart x) (apart_shown x) ts (and_parts _ _ h).0) j)
pair_apart (x ∷ ts) h t u (inr i) (inl f) =
    turned u t (subst (λ w. Apart w t) f (all_at (Apart x) ts t (all_true (is_apart x) (Apart x) (apart_shown x) ts (and_parts _ _ h).0) i))
pair_apart (x ∷ ts) h t u (inr i) (inr j) = pair_apart ts (and_parts _ _ h).1 t u i j

-- two texts of a list that are different and have one hash
record TwoOf (ts : List (List ℕ)) : Type 0 where
  one : List ℕ
  other : List ℕ
  has_one : IsIn ts one
  has_other : IsIn ts other
  differ : one ≢ other
  same : hash one ≡ hash other

not_apart : (t u : List ℕ) → is_apart t u ≡ false → (t ≢ u) × (hash t ≡ hash u)
not_apart t u e =
    let parts = or_false (bytes_eq t u) (not (bytes_eq (hash t) (hash u))) e in
    ((λ same. true≢false (sym ((bytes_eq-Decides t u).1 same) ∙ parts.0)), bytes_same (hash t) (hash u) (not_false (bytes_eq (hash t) (hash u)) parts.1))
  where
    or_false : (a b : Bool) → (a || b) ≡ false → (a ≡ false) × (b ≡ false)
    or_false false false h = (refl, refl)
    or_false false true h = absurd (true≢false h)
    or_false true b h = absurd (true≢false h)

    not_false : (a : Bool) → not a ≡ false → a ≡ true
    not_false true h = refl
    not_false false h = absurd (true≢false h)

found_with : (t : List ℕ) (ts : List (List ℕ)) → list_all (is_apart t) ts ≡ false → (u : List ℕ) × IsIn ts u × (is_apart t u ≡ false)
found_with t [] h = absurd (true≢false h)
found_with t (u ∷ ts) h = now (is_apart t u) refl (found_with t ts)
  where
    now : (b : Bool) → is_apart t u ≡ b → (list_all (is_apart t) ts ≡ false → (w : List ℕ) × IsIn ts w × (is_apart t w ≡ false)) → (w : List ℕ) × IsIn (u ∷ ts) w × (is_apart t w ≡ false)
    now false e later = (u, inl refl, e)
    now true e later = let r = later (ap (λ b. b && list_all (is_apart t) ts) (sym e) ∙ h) in (r.0, inr r.1, r.2)

found_two : (ts : List (List ℕ)) → are_apart ts ≡ false → TwoOf ts
found_two [] h = absurd (true≢false h)
found_two (t ∷ ts) h = now (list_all (is_apart t) ts) refl (found_two ts)
  where
    now : (b : Bool) → list_all (is_apart t) ts ≡ b → (are_apart ts ≡ false → TwoOf ts) → TwoOf (t ∷ ts)
    now false e later =
        let r = found_with t ts e in
        let n = not_apart t r.0 r.2 in
        record { one = t; other = r.0; has_one = inl refl; has_other = inr r.1; differ = n.0; same = n.1 }
    now true e later =
        let r = later (ap (λ b. b && are_apart ts) (sym e) ∙ h) in
        record { one = r.one; other = r.other; has_one = inr r.has_one; has_other = inr r.has_other; differ = r.differ; same = r.same }

pub apart_tells : ApartIs
apart_tells g h lawful = (
  (λ e.
      let r = found_two (listed_texts g h) e in
      record {
        one = r.one;
        other = r.other;
        one_listed = (listed_tells g h lawful r.one).1 r.has_one;
        other_listed = (listed_tells g h lawful r.other).1 r.has_other;
        differ = r.differ;
        same_hash = r.same;
      }),
  (λ c. false_from_ne_true (are_apart (listed_texts g h))
      (λ apart. pair_apart (listed_texts g h) apart c.one c.other ((listed_tells g h lawful c.one).0 c.one_listed) ((listed_tells g h lawful c.other).0 c.other_listed) c.differ c.same_hash)),
)
