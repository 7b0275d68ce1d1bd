-- Contents that the server keeps, and the references to them.
use Rattle.std.proofs.Common.{◌≡◌, ℕ, Bool, true, false, ◌&&◌, ◌||◌, List, [], ◌∷◌, length, Option, Some, inl, inr, refl, sym, ap, ◌∙◌}
use Rattle.std.specs.Prelude.{if◌then◌else◌}
use Rattle.std.specs.List.{find, list_any}
use Rattle.std.specs.Str.{bytes_eq}
use Rattle.std.proofs.lemmas.Bool.{eq-eqb}
use Rattle.std.proofs.lemmas.Slice.Eq.{bytes_eq-Decides}
use Rattle.vic_dict.specs.declared.op.Op.{Op}
use Rattle.vic_dict.specs.Lists.{IsIn}
use Rattle.vic_dict.specs.declared.op.Op.TheVariants as op
use Rattle.vic_wire.specs.Texts.{content_text}
use Rattle.vic_wire.specs.Hashes.{hash}
use Rattle.vic_rules.specs.Objects.{content_hash, is_reference, hash_in, length_in, is_content_of}
use Rattle.vic_order.specs.Order.{is_kept}

abbrev pub has : List ℕ → List ℕ → Bool
has h c = bytes_eq (hash (content_text c)) h

abbrev pub kept_by : List (List ℕ) → List ℕ → Option (List ℕ)
kept_by contents h = find (has h) contents

-- the content that is kept under a hash has this length
pub record IsKept (contents : List (List ℕ)) (h : List ℕ) (len : ℕ) : Type 0 where
  pub content : List ℕ
  pub found : kept_by contents h ≡ Some content
  pub long : length content ≡ len

-- a put stores a reference of a content that is kept
abbrev pub Refers : List (List ℕ) → Op → Type 0
Refers contents (op.Put k v) = (is_reference v ≡ true) × IsKept contents (hash_in v) (length_in v)
Refers contents (op.Get k) = Unit {0}
Refers contents (op.Del k) = Unit {0}
Refers contents (op.List p) = Unit {0}

pub refers_more : (contents more : List (List ℕ)) → ((h : List ℕ) (len : ℕ) → IsKept contents h len → IsKept more h len) → (o : Op) → Refers contents o → Refers more o
refers_more contents more keeps (op.Put k v) r = (r.0, keeps (hash_in v) (length_in v) r.1)
refers_more contents more keeps (op.Get k) r = r
refers_more contents more keeps (op.Del k) r = r
refers_more contents more keeps (op.List p) r = r

-- what is found is in the list
pub found_in : (f : List ℕ → Bool) (xs : List (List ℕ)) (c : List ℕ) → find f xs ≡ Some c → IsIn xs c × (f c ≡ true)
found_in f [] c e = absurd cc
found_in f (x ∷ xs) c e = by_test (f x) refl (λ k. found_in f xs c k)
  where
    by_test : (b : Bool) → f x ≡ b → (find f xs ≡ Some c → IsIn xs c × (f c ≡ true)) → IsIn (x ∷ xs) c × (f c ≡ true)
    by_test true t rest = let k : Some x ≡ Some c = sym (ap (λ b. if b then Some x else find f xs) t) ∙ e in let same : x ≡ c = cc in (inl same, ap f (sym same) ∙ t)
    by_test false t rest = let r = rest (sym (ap (λ b. if b then Some x else find f xs) t) ∙ e) in (inr r.0, r.1)

any_found : (f : List ℕ → Bool) (xs : List (List ℕ)) (c : List ℕ) → find f xs ≡ Some c → list_any f xs ≡ true
any_found f [] c e = absurd cc
any_found f (x ∷ xs) c e = elim (f x) as (λ b. (if b then Some x else find f xs) ≡ Some c → (b || list_any f xs) ≡ true) [
  | true ↦ λ k. refl
  | false ↦ λ k. any_found f xs c k
] e

-- a content of a new hash hides none that is kept
pub kept_more : (contents : List (List ℕ)) (c : List ℕ) → is_kept contents (content_hash c) ≡ false → (h : List ℕ) (len : ℕ) → IsKept contents h len → IsKept (c ∷ contents) h len
kept_more contents c new h len k = record {
  content = k.content;
  found = by_test (has h c) refl;
  long = k.long;
}
  where
    by_test : (b : Bool) → has h c ≡ b → (if has h c then Some c else kept_by contents h) ≡ Some k.content
    by_test true e =
        let same : content_hash c ≡ h = (bytes_eq-Decides (content_hash c) h).0 e in
        let there : is_kept contents (content_hash c) ≡ true = ap (is_kept contents) same ∙ any_found (has h) contents k.content k.found in absurd cc
    by_test false e = ap (λ b. if b then Some c else kept_by contents h) e ∙ k.found

-- and it is kept itself
pub kept_here : (contents : List (List ℕ)) (c : List ℕ) → IsKept (c ∷ contents) (content_hash c) (length c)
kept_here contents c = record {
  content = c;
  found = ap (λ b. if b then Some c else kept_by contents (content_hash c)) ((bytes_eq-Decides (content_hash c) (content_hash c)).1 refl);
  long = refl;
}

found_hash : (h : List ℕ) (xs : List (List ℕ)) (c : List ℕ) → kept_by xs h ≡ Some c → has h c ≡ true
found_hash h [] c e = absurd cc
found_hash h (x ∷ xs) c e = by_test (has h x) refl (λ f. found_hash h xs c f)
  where
    by_test : (b : Bool) → has h x ≡ b → (kept_by xs h ≡ Some c → has h c ≡ true) → has h c ≡ true
    by_test true t rest = let k : Some x ≡ Some c = sym (ap (λ b. if b then Some x else kept_by xs h) t) ∙ e in let same : x ≡ c = cc in ap (has h) (sym same) ∙ t
    by_test false t rest = rest (sym (ap (λ b. if b then Some x else kept_by xs h) t) ∙ e)

-- the content that is kept is the one that is wanted
pub kept_wanted : (contents : List (List ℕ)) (h : List ℕ) (len : ℕ) (k : IsKept contents h len) → is_content_of h len k.content ≡ true
kept_wanted contents h len k =
    ap (λ b. b && bytes_eq (content_hash k.content) h) (eq-eqb (length k.content) len k.long) ∙ found_hash h contents k.content k.found

-- a content of this hash is found where one is kept
pub found_there : (f : List ℕ → Bool) (xs : List (List ℕ)) → list_any f xs ≡ true → (c : List ℕ) × (find f xs ≡ Some c)
found_there f [] e = absurd cc
found_there f (x ∷ xs) e = elim (f x) as (λ b. (b || list_any f xs) ≡ true → (c : List ℕ) × ((if b then Some x else find f xs) ≡ Some c)) [
  | true ↦ λ k. (x, refl)
  | false ↦ λ k. found_there f xs k
] e
