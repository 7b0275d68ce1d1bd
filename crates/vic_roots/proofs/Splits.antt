-- Where the keys of a list of pairs part: they agree up to the split, and on either side of it there is one.
use Rattle.std.proofs.Common.{◌≡◌, ◌≢◌, ℕ, ◌^◌, ◌<◌, inl, inr, Bool, true, false, T, List, [], ◌∷◌, ◌++◌, length, arith, refl, sym, ap, subst, ◌∙◌, length-append}
use Rattle.std.proofs.lemmas.Bool.{cases_lt}
use Rattle.std.specs.FinMap.{is_sorted}
use Rattle.std.specs.FinMap.Entries.{is_sorted-where_key}
use Rattle.vic_dict.specs.Lists.{IsIn}
use Rattle.vic_wire.specs.Bits.{key_bits, key_bit, shared_front, same_bit}
use Rattle.vic_wire.specs.Trees.{Pair, common_bits, side}
use Rattle.vic_roots.proofs.Keys.{key_order}
use Rattle.vic_roots.proofs.Fronts.{IsFront, IsFront-itself, IsFront-trans, IsFront-length, IsFront-whole, IsFront-longer, IsFront-bit, IsFront-common_left, IsFront-common_right, IsFront-shared_front}
use Rattle.vic_roots.proofs.KeyBits.{same_from_front, length-key_bits}
use Rattle.vic_roots.proofs.Members.{HaveByteKeys, filter_fewer, first_apart, IsIn-from_filter, IsIn-filter}

-- the first bit at which two of the keys differ
abbrev pub split_at : List Pair → ℕ
split_at ps = length (common_bits ps)

-- the common bits are the front of each key's
pub common_front : (ps : List Pair) (p : Pair) → IsIn ps p → IsFront (common_bits ps) (key_bits p.0)
unfolding common_bits
common_front [] p h = absurd h
common_front (q ∷ []) p (inl is) = subst (λ (x : Pair). IsFront (key_bits q.0) (key_bits x.0)) is (IsFront-itself (key_bits q.0))
common_front (q ∷ []) p (inr h) = absurd h
common_front (q ∷ r ∷ ps) p (inl is) = subst (λ (x : Pair). IsFront (shared_front (key_bits q.0) (common_bits (r ∷ ps))) (key_bits x.0)) is (IsFront-common_left (key_bits q.0) (common_bits (r ∷ ps)))
common_front (q ∷ r ∷ ps) p (inr h) =
    IsFront-trans (shared_front (key_bits q.0) (common_bits (r ∷ ps))) (common_bits (r ∷ ps)) (key_bits p.0) (IsFront-common_right (key_bits q.0) (common_bits (r ∷ ps))) (common_front (r ∷ ps) p h)

-- and they are the longest such
pub common_longest : (cs : List Bool) (p : Pair) (ps : List Pair) → ((q : Pair) → IsIn (p ∷ ps) q → IsFront cs (key_bits q.0)) → IsFront cs (common_bits (p ∷ ps))
unfolding common_bits
common_longest cs p [] h = h p (inl refl)
common_longest cs p (q ∷ ps) h = IsFront-shared_front cs (key_bits p.0) (common_bits (q ∷ ps)) (h p (inl refl)) (common_longest cs q ps (λ r g. h r (inr g)))

-- below the split all keys agree
pub agree_below_split : (ps : List Pair) (p q : Pair) (j : ℕ) → IsIn ps p → IsIn ps q → j < split_at ps → key_bit p.0 j ≡ key_bit q.0 j
unfolding key_bit
agree_below_split ps p q j g h below =
    IsFront-bit (common_bits ps) (key_bits p.0) j (common_front ps p g) below
    ∙ sym (IsFront-bit (common_bits ps) (key_bits q.0) j (common_front ps q h) below)

-- of two different keys the first is longer than the common bits
longer_than_common : (ps : List Pair) (p q : Pair) → HaveByteKeys ps → IsIn ps p → IsIn ps q → p.0 ≢ q.0 → split_at ps < length (key_bits p.0)
longer_than_common ps p q keys g h apart =
    let front = common_front ps p g in
    elim (cases_lt (split_at ps) (length (key_bits p.0))) [
      | inl less ↦ less
      | inr more ↦ absurd (apart (same_from_front p.0 q.0 (keys p g).1 (keys q h).1
          (subst (λ cs. IsFront cs (key_bits q.0)) (IsFront-whole (common_bits ps) (key_bits p.0) front more) (common_front ps q h))))
    ]

-- in a list of two pairs at least, in order, each has another with another key
another : (p q : Pair) (ps : List Pair) (r : Pair) → T (is_sorted key_order (p ∷ q ∷ ps)) → IsIn (p ∷ q ∷ ps) r → (s : Pair) × IsIn (p ∷ q ∷ ps) s × (r.0 ≢ s.0)
another p q ps r in_order (inl is) = (q, inr (inl refl), λ e. first_apart p (q ∷ ps) q in_order (inl refl) (ap (λ (x : Pair). x.0) is ∙ e))
another p q ps r in_order (inr h) = (p, inl refl, λ e. first_apart p (q ∷ ps) r in_order h (sym e))

-- not all keys have the same bit at the split
pub not_all_same : (p q : Pair) (ps : List Pair) (b : Bool) → T (is_sorted key_order (p ∷ q ∷ ps)) → HaveByteKeys (p ∷ q ∷ ps)
    → ((r : Pair) → IsIn (p ∷ q ∷ ps) r → key_bit r.0 (split_at (p ∷ q ∷ ps)) ≡ b) → ⊥
unfolding key_bit
not_all_same p q ps b in_order keys same =
    let cs = common_bits (p ∷ q ∷ ps) in
    let front = common_longest (cs ++ b ∷ []) p (q ∷ ps) (λ r h.
    let other = another p q ps r in_order h in
    IsFront-longer cs (key_bits r.0) b (common_front (p ∷ q ∷ ps) r h) (longer_than_common (p ∷ q ∷ ps) r other.0 keys h other.1 other.2) (same r h)) in
    let longer = IsFront-length (cs ++ b ∷ []) cs front in
    let more = length-append cs (b ∷ []) in
    omega (arith, longer, more)

pub same_bit_is : (b c : Bool) → same_bit b c ≡ true → b ≡ c
same_bit_is true true e = refl
same_bit_is true false e = absurd (cc)
same_bit_is false true e = absurd (cc)
same_bit_is false false e = refl

pub same_bit-itself : (b : Bool) → same_bit b b ≡ true
same_bit-itself true = refl
same_bit-itself false = refl

-- each side of the split has fewer pairs than the whole
pub side_fewer : (p q : Pair) (ps : List Pair) (b : Bool) → T (is_sorted key_order (p ∷ q ∷ ps)) → HaveByteKeys (p ∷ q ∷ ps)
    → length (side b (split_at (p ∷ q ∷ ps)) (p ∷ q ∷ ps)) < length (p ∷ q ∷ ps)
side_fewer p q ps b in_order keys =
    let i = split_at (p ∷ q ∷ ps) in
    elim (filter_fewer (λ (r : Pair). same_bit (key_bit r.0 i) b) (p ∷ q ∷ ps)) [
      | inl fewer ↦ fewer
      | inr all ↦ absurd (not_all_same p q ps b in_order keys (λ r h. same_bit_is (key_bit r.0 i) b (all r h)))
    ]

-- the pairs on a side are pairs of the whole, and those with its bit
pub side_has : (b : Bool) (i : ℕ) (ps : List Pair) (p : Pair) → IsIn (side b i ps) p → IsIn ps p × (key_bit p.0 i ≡ b)
side_has b i ps p h = let both = IsIn-from_filter (λ (r : Pair). same_bit (key_bit r.0 i) b) ps p h in (both.0, same_bit_is (key_bit p.0 i) b both.1)

pub in_side : (b : Bool) (i : ℕ) (ps : List Pair) (p : Pair) → IsIn ps p → key_bit p.0 i ≡ b → IsIn (side b i ps) p
in_side b i ps p h e = IsIn-filter (λ (r : Pair). same_bit (key_bit r.0 i) b) ps p h (ap (λ (x : Bool). same_bit x b) e ∙ same_bit-itself b)

-- a side of pairs in order with byte keys is so too
pub sorted_side : (b : Bool) (i : ℕ) (ps : List Pair) → T (is_sorted key_order ps) → T (is_sorted key_order (side b i ps))
sorted_side b i ps h = is_sorted-where_key key_order (λ (k : List ℕ). same_bit (key_bit k i) b) ps h

pub byte_keys_of_side : (b : Bool) (i : ℕ) (ps : List Pair) → HaveByteKeys ps → HaveByteKeys (side b i ps)
byte_keys_of_side b i ps keys p h = keys p (side_has b i ps p h).0

-- the split lies within the bits of the first key, of which there are few
pub split_small : (p : Pair) (ps : List Pair) → HaveByteKeys (p ∷ ps) → split_at (p ∷ ps) < 2 ^ 16
split_small p ps keys =
    let within = IsFront-length (common_bits (p ∷ ps)) (key_bits p.0) (common_front (p ∷ ps) p (inl refl)) in
    let long = length-key_bits p.0 in
    let key = (keys p (inl refl)).0 in
    omega (arith, within, long, key.1)
