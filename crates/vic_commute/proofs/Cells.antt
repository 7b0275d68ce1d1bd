-- The table of conflicts, cell by cell.
use Rattle.std.proofs.Common.{◌≡◌, ℕ, Bool, true, false, ◌||◌, List, ◌↔◌, refl, sym, ◌∙◌, drop, length}
use Rattle.std.specs.Prelude.{nat_eq}
use Rattle.std.specs.Str.{bytes_eq}
use Rattle.std.specs.List.{starts_with}
use Rattle.std.proofs.lemmas.Slice.Eq.{bytes_eq-Decides, starts_is}
use Rattle.std.proofs.lemmas.Bool.Decides.{Decides-eqb}
use Rattle.vic_commute.specs.Commutes.{ConflictTable, BeginsWith}

or-false : (b : Bool) → (b || false) ≡ b
or-false true = refl
or-false false = refl

or-itself : (a b : Bool) → a ≡ b → (a || b) ≡ b
or-itself true true e = refl
or-itself true false e = e
or-itself false b e = refl

same : (k q : List ℕ) → (bytes_eq k q ≡ true) ↔ (k ≡ q)
same k q = ((bytes_eq-Decides k q).0, (bytes_eq-Decides k q).1)

-- one side looks at the other's key
same_left : (k q : List ℕ) → ((bytes_eq q k || false) ≡ true) ↔ (k ≡ q)
same_left k q =
    ((λ t. sym ((bytes_eq-Decides q k).0 (sym (or-false (bytes_eq q k)) ∙ t))), (λ e. or-false (bytes_eq q k) ∙ (bytes_eq-Decides q k).1 (sym e)))

either_true : (a b : Bool) (P : Type 0) → (a ≡ true → P) → (b ≡ true → P) → (a || b) ≡ true → P
either_true true b P f g t = f refl
either_true false b P f g t = g t

or-true : (a b : Bool) → a ≡ true → (a || b) ≡ true
or-true true b e = refl
or-true false b e = absurd cc

-- both sides do
same_both : (k q : List ℕ) → ((bytes_eq q k || bytes_eq k q) ≡ true) ↔ (k ≡ q)
same_both k q = (
  (λ t. either_true (bytes_eq q k) (bytes_eq k q) (k ≡ q) (λ a. sym ((bytes_eq-Decides q k).0 a)) ((bytes_eq-Decides k q).0) t),
  (λ e. or-true (bytes_eq q k) (bytes_eq k q) ((bytes_eq-Decides q k).1 (sym e))),
)

pub begins : (k p : List ℕ) → (starts_with nat_eq k p ≡ true) ↔ BeginsWith k p
begins k p =
    let told = starts_is Decides-eqb k p (starts_with nat_eq k p) refl in
    ((λ t. (drop (length p) k, told.0 t)), (λ b. told.1 b.0 b.1))

begins_left : (k p : List ℕ) → ((starts_with nat_eq k p || false) ≡ true) ↔ BeginsWith k p
begins_left k p =
    let told = begins k p in
    ((λ t. told.0 (sym (or-false (starts_with nat_eq k p)) ∙ t)), (λ b. or-false (starts_with nat_eq k p) ∙ told.1 b))

never : (false ≡ true) ↔ ⊥
never = ((λ t. absurd cc), (λ f. absurd f))

pub conflict_table : ConflictTable
conflict_table k q v w p r = record {
  put_put = same_both k q;
  put_get = same_left k q;
  put_del = same_both k q;
  put_list = begins_left k r;
  get_put = same k q;
  get_get = never;
  get_del = same k q;
  get_list = never;
  del_put = same_both k q;
  del_get = same_left k q;
  del_del = same_both k q;
  del_list = begins_left k r;
  list_put = begins q p;
  list_get = never;
  list_del = begins q p;
  list_list = never;
}
