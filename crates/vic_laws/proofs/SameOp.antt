-- The tests of equality find what is equal; and the search for the least position finds it.
use Rattle.std.proofs.Common.{◌≡◌, ℕ, zero, suc, ◌-◌, ◌<◌, ◌≤◌, ◌⊎◌, inl, inr, Bool, true, false, ◌&&◌, List, [], ◌∷◌, length, drop, Option, Some, None, bytes_eq, nat_eq, nat_lt, if◌then◌else◌, refl, sym, ◌∙◌, ap, subst, arith, ltb-true, lt-ltb, Decides, true≢false}
use Rattle.std.proofs.lemmas.Bool.{and_parts, and_from}
use Rattle.std.proofs.lemmas.Bool.Decides.{Decides-eqb}
use Rattle.vic_dict.specs.declared.op.Op.{Op}
use Rattle.vic_dict.specs.declared.op.Op.TheVariants as op
use Rattle.vic_dict.specs.declared.op.Entry.{Entry}
use Rattle.vic_dict.specs.Lists.{front, newest}
use Rattle.vic_rules.specs.Client.{same_op, same_entry, least_above, or_this}
use Rattle.vic_laws.proofs.Words.{op_same, entry_same}
use Rattle.vic_laws.specs.OrderClaims.{SameOpIs, SameEntryIs, PassesAt, IsLeastAbove, LeastAboveIs, NoneAboveIs}
use Rattle.vic_laws.proofs.Growth.{front_whole}
use Rattle.vic_commute.proofs.Commuting.{own_key}

-- an operation passes the test with itself
pub op_same_itself : (a : Op) → same_op a a ≡ true
op_same_itself (op.Put k v) = and_from (bytes_eq k k) (bytes_eq v v) (own_key k) (own_key v)
op_same_itself (op.Get k) = own_key k
op_same_itself (op.Del k) = own_key k
op_same_itself (op.List k) = own_key k

-- the test of two operations finds what is equal, and nothing else
pub same_op_tells : SameOpIs
same_op_tells a b = (op_same a b, λ e. subst (λ (x : Op). same_op a x ≡ true) e (op_same_itself a))

-- an entry passes the test with itself
pub entry_same_itself : (a : Entry) → same_entry a a ≡ true
entry_same_itself a =
    and_from (nat_eq a.client a.client) (nat_eq a.seq a.seq && same_op a.op a.op) ((Decides-eqb a.client a.client).1 refl)
    (and_from (nat_eq a.seq a.seq) (same_op a.op a.op) ((Decides-eqb a.seq a.seq).1 refl) (op_same_itself a.op))

-- and so does the test of two entries
pub same_entry_tells : SameEntryIs
same_entry_tells a b = (entry_same a b, λ e. subst (λ (x : Entry). same_entry a x ≡ true) e (entry_same_itself a))

-- the test decides whether two entries are equal
pub same_entry-Decides : (a b : Entry) → Decides (same_entry a b) (a ≡ b)
same_entry-Decides a b = same_entry_tells a b

-- ---- fronts of a path

-- a front below the newest item doesn't have it
pub front_below : {X : Type 0} (u : ℕ) (x : X) (xs : List X) → u ≤ length xs → front u (x ∷ xs) ≡ front u xs
front_below u x xs le =
    let e : suc (length xs) - u ≡ suc (length xs - u) = omega arith in
    ap (λ (k : ℕ). drop k (x ∷ xs)) e

-- ---- the least position

passes_above : (test : ℕ → Entry → Bool) (e : Entry) (path : List Entry) (u : ℕ) → PassesAt test path u → PassesAt test (e ∷ path) u
passes_above test e path u h = record {
  within = let w : u ≤ length path = h.within in omega arith;
  entry = h.entry;
  there = ap newest (front_below u e path h.within) ∙ h.there;
  passes = h.passes;
}

passes_below : (test : ℕ → Entry → Bool) (e : Entry) (path : List Entry) (u : ℕ) → u ≤ length path → PassesAt test (e ∷ path) u → PassesAt test path u
passes_below test e path u le h = record {
  within = le;
  entry = h.entry;
  there = ap newest (sym (front_below u e path le)) ∙ h.there;
  passes = h.passes;
}

passes_newest : (test : ℕ → Entry → Bool) (e : Entry) (path : List Entry) → test (suc (length path)) e ≡ true → PassesAt test (e ∷ path) (suc (length path))
passes_newest test e path h = record {
  within = omega arith;
  entry = e;
  there = ap newest (front_whole (suc (length path)) (e ∷ path) (omega arith));
  passes = h;
}

some_entry : (a b : Entry) → ◌≡◌ {A = Option Entry} (Some a) (Some b) → a ≡ b
some_entry a b e = cc

-- what passes at the newest position is the newest entry
newest_passes : (test : ℕ → Entry → Bool) (e : Entry) (path : List Entry) (u : ℕ) → length path < u → PassesAt test (e ∷ path) u → test (suc (length path)) e ≡ true
newest_passes test e path u lt h =
    let there : ◌≡◌ {A = Option Entry} (Some e) (Some h.entry) = ap newest (sym (front_whole u (e ∷ path) lt)) ∙ h.there in
    let w : u ≤ suc (length path) = h.within in
    let at : u ≡ suc (length path) = omega arith in
    subst (λ n. test n e ≡ true) at (subst (λ (x : Entry). test u x ≡ true) (sym (some_entry e h.entry there)) h.passes)

-- what the search has found
abbrev Finds : ℕ → (ℕ → Entry → Bool) → List Entry → Option ℕ → Type 0
Finds base test path None = (u : ℕ) → base < u → PassesAt test path u → ⊥
Finds base test path (Some u) = IsLeastAbove base test path u

cases_top : (n u : ℕ) → (u ≤ n) ⊎ (n < u)
cases_top n u = grind arith

finds_more : (base : ℕ) (test : ℕ → Entry → Bool) (e : Entry) (path : List Entry) (o : Option ℕ) → Finds base test path o
    → (b : Bool) → (nat_lt base (suc (length path)) && test (suc (length path)) e) ≡ b
    → Finds base test (e ∷ path) (or_this o (if b then Some (suc (length path)) else None))
finds_more base test e path (Some u) f b eq = record {
  above = f.above;
  passes = passes_above test e path u f.passes;
  least = λ v bv vu s.
      let w : u ≤ length path = f.passes.within in
      f.least v bv vu (passes_below test e path v (omega arith) s);
}
finds_more base test e path None f true eq =
    let both = and_parts (nat_lt base (suc (length path))) (test (suc (length path)) e) eq in
    record {
      above = ltb-true base (suc (length path)) both.0;
      passes = passes_newest test e path both.1;
      least = λ v bv vu s. f v bv (passes_below test e path v (omega arith) s);
    }
finds_more base test e path None f false eq = λ u bu s.
    let within : u ≤ suc (length path) = s.within in
    let Goal : (u ≤ length path) ⊎ (length path < u) → Type 0 = λ c. ⊥ in
    elim (cases_top (length path) u) as Goal [
      | inl le ↦ f u bu (passes_below test e path u le s)
      | inr lt ↦ true≢false (sym (and_from (nat_lt base (suc (length path))) (test (suc (length path)) e) (lt-ltb base (suc (length path)) (omega arith)) (newest_passes test e path u lt s)) ∙ eq)
    ]

-- the search finds the least position, or there is none
pub least_above_finds : (base : ℕ) (test : ℕ → Entry → Bool) (path : List Entry) → Finds base test path (least_above base test path)
unfolding least_above
least_above_finds base test [] = λ u bu s. let w : u ≤ zero = s.within in omega arith
least_above_finds base test (e ∷ path) =
    finds_more base test e path (least_above base test path) (least_above_finds base test path) (nat_lt base (suc (length path)) && test (suc (length path)) e) refl

least_is_one : (base : ℕ) (test : ℕ → Entry → Bool) (path : List Entry) (u v : ℕ) → IsLeastAbove base test path u → IsLeastAbove base test path v → v ≡ u
least_is_one base test path u v a b =
    let bu : base < u = a.above in
    let bv : base < v = b.above in
    let not_less : v < u → ⊥ = λ lt. a.least v bv lt b.passes in
    let not_more : u < v → ⊥ = λ lt. b.least u bu lt a.passes in
    omega arith

told_some : (base : ℕ) (test : ℕ → Entry → Bool) (path : List Entry) (u : ℕ) (o : Option ℕ) → Finds base test path o → IsLeastAbove base test path u → o ≡ Some u
told_some base test path u None f least = absurd (f u least.above least.passes)
told_some base test path u (Some v) f least = ap Some (least_is_one base test path u v least f)

told_none : (base : ℕ) (test : ℕ → Entry → Bool) (path : List Entry) (o : Option ℕ) → Finds base test path o → ((u : ℕ) → base < u → PassesAt test path u → ⊥) → o ≡ None
told_none base test path None f all = refl
told_none base test path (Some v) f all = absurd (all v f.above f.passes)

-- a position is found exactly where it is the least
pub least_above_tells : LeastAboveIs
least_above_tells base test path u = (
  λ e. subst (Finds base test path) e (least_above_finds base test path),
  told_some base test path u (least_above base test path) (least_above_finds base test path),
)

-- and nothing exactly where there is none
pub none_above_tells : NoneAboveIs
none_above_tells base test path = (
  λ e. subst (Finds base test path) e (least_above_finds base test path),
  told_none base test path (least_above base test path) (least_above_finds base test path),
)
