-- A grown tree is the tree of its pairs.
use Rattle.std.proofs.Common.{◌≡◌, ℕ, zero, suc, ◌+◌, ◌-◌, ◌<◌, ◌≤◌, Bool, true, false, cond, List, [], ◌∷◌, ◌++◌, length, refl, sym, ap, subst, ◌∙◌, arith, inl, inr, ◌⊎◌, ltb}
use Rattle.std.proofs.lemmas.List.{length-append}
use Rattle.std.proofs.lemmas.Bool.{ltb-true, ltb-false}
use Rattle.vic_wire.specs.Bits.{key_bits, key_bit, bit_of, same_bit, shared_front}
use Rattle.vic_dict.specs.Lists.{AreBytes}
use Rattle.vic_tree.specs.Grown.{AgreeBelow, PartsAt, HasKey, IsGrown}
use Rattle.vic_wire.specs.Trees.{Tree, Empty, Leaf, Inner, Stub, Pair, common_bits, side, tree_by, pairs_of}
use Rattle.vic_wire.proofs.KeyBits.{key_bit-later, key_bit-nothing, length-key_bits}
use Rattle.vic_tree.proofs.KeyOrder.{PartsAt-less}
use Rattle.vic_tree.proofs.Lists.{HasKey-left, HasKey-right, HasKey-cases, IsSorted, sorted-append, side-append, side-all, side-none}
use Rattle.vic_tree.proofs.KeyPrefixes.{true_first}

-- ---- agreement

pub agree-sym : (i : ℕ) (a b : List ℕ) → AgreeBelow i a b → AgreeBelow i b a
agree-sym i a b h = λ j p. sym (h j p)

pub agree-trans : (i : ℕ) (a b c : List ℕ) → AgreeBelow i a b → AgreeBelow i b c → AgreeBelow i a c
agree-trans i a b c h g = λ j p. h j p ∙ g j p

pub agree-less : (i n : ℕ) (a b : List ℕ) → i ≤ n → AgreeBelow n a b → AgreeBelow i a b
agree-less i n a b h g = λ j p. g j (omega arith)

-- ---- a grown tree

-- some key
pub some_key : (t : Tree) → IsGrown t → (k : List ℕ) × HasKey (pairs_of t) k
unfolding IsGrown
some_key Empty g = absurd g
some_key (Leaf k v) g = (k, inl refl)
some_key (Inner i l r) g = let s = some_key l g.0 in (s.0, HasKey-left (pairs_of l) (pairs_of r) s.0 s.1)
some_key (Stub root) g = absurd g

pub grown_bytes : (t : Tree) → IsGrown t → (k : List ℕ) → HasKey (pairs_of t) k → AreBytes k
unfolding IsGrown
grown_bytes Empty g k h = absurd g
grown_bytes (Leaf q v) g k (inl e) = subst AreBytes e g
grown_bytes (Leaf q v) g k (inr h) = absurd h
grown_bytes (Inner i l r) g k h = elim (HasKey-cases (pairs_of l) (pairs_of r) k h) [ inl a ↦ grown_bytes l g.0 k a | inr b ↦ grown_bytes r g.1 k b ]
grown_bytes (Stub root) g k h = absurd g

-- the keys of the sides have the sides' bits
pub left_bit : (i : ℕ) (l r : Tree) → IsGrown (Inner i l r) → (a : List ℕ) → HasKey (pairs_of l) a → key_bit a i ≡ false
unfolding IsGrown
left_bit i l r g a h = let s = some_key r g.1 in (g.2 a s.0 h s.1).left

pub right_bit : (i : ℕ) (l r : Tree) → IsGrown (Inner i l r) → (b : List ℕ) → HasKey (pairs_of r) b → key_bit b i ≡ true
unfolding IsGrown
right_bit i l r g b h = let s = some_key l g.0 in (g.2 s.0 b s.1 h).right

-- all keys below an Inner agree below its index
pub grown_agree : (i : ℕ) (l r : Tree) → IsGrown (Inner i l r) → (a b : List ℕ) → HasKey (pairs_of (Inner i l r)) a → HasKey (pairs_of (Inner i l r)) b → AgreeBelow i a b
unfolding IsGrown
grown_agree i l r g a b ha hb =
    elim (HasKey-cases (pairs_of l) (pairs_of r) a ha) [
      | inl la ↦ elim (HasKey-cases (pairs_of l) (pairs_of r) b hb) [
        | inl lb ↦ let s = some_key r g.1 in agree-trans i a s.0 b (g.2 a s.0 la s.1).same (agree-sym i b s.0 (g.2 b s.0 lb s.1).same)
        | inr rb ↦ (g.2 a b la rb).same
      ]
      | inr ra ↦ elim (HasKey-cases (pairs_of l) (pairs_of r) b hb) [
        | inl lb ↦ agree-sym i b a (g.2 b a lb ra).same
        | inr rb ↦ let s = some_key l g.0 in agree-trans i a s.0 b (agree-sym i s.0 a (g.2 s.0 a s.1 ra).same) (g.2 s.0 b s.1 rb).same
      ]
    ]

-- the pairs of a grown tree are sorted
pub grown_sorted : (t : Tree) → IsGrown t → IsSorted (pairs_of t)
unfolding IsGrown
grown_sorted Empty g = tt
grown_sorted (Leaf k v) g = tt
grown_sorted (Inner i l r) g =
    sorted-append (pairs_of l) (pairs_of r) (grown_sorted l g.0) (grown_sorted r g.1) (λ a b ha hb. PartsAt-less i a b (grown_bytes l g.0 a ha) (grown_bytes r g.1 b hb) (g.2 a b ha hb))
grown_sorted (Stub root) g = tt

pub grown_some : (t : Tree) → IsGrown t → 0 < length (pairs_of t)
unfolding IsGrown
grown_some Empty g = absurd g
grown_some (Leaf k v) g = omega arith
grown_some (Inner i l r) g = omega (arith, length-append (pairs_of l) (pairs_of r), grown_some l g.0)
grown_some (Stub root) g = absurd g

-- ---- the longest common prefix of bits

abbrev Starts : List Bool → List Bool → Type 0
Starts [] bs = Unit {0}
Starts (w ∷ ws) [] = ⊥
Starts (w ∷ ws) (b ∷ bs) = (w ≡ b) × Starts ws bs

starts_itself : (bs : List Bool) → Starts bs bs
starts_itself [] = tt
starts_itself (b ∷ bs) = (refl, starts_itself bs)

starts_common_left : (bs cs : List Bool) → Starts (shared_front bs cs) bs
starts_common_left [] cs = tt
starts_common_left (b ∷ bs) [] = tt
starts_common_left (b ∷ bs) (c ∷ cs) = elim (same_bit b c) as (λ t. Starts (cond t (b ∷ shared_front bs cs) []) (b ∷ bs)) [ true ↦ (refl, starts_common_left bs cs) | false ↦ tt ]

same_bit-true : (b c : Bool) → same_bit b c ≡ true → b ≡ c
same_bit-true true true e = refl
same_bit-true true false e = cc
same_bit-true false true e = cc
same_bit-true false false e = refl

same_bit-same : (b : Bool) → same_bit b b ≡ true
same_bit-same true = refl
same_bit-same false = refl

starts_common_right : (bs cs : List Bool) → Starts (shared_front bs cs) cs
starts_common_right [] cs = tt
starts_common_right (b ∷ bs) [] = tt
starts_common_right (b ∷ bs) (c ∷ cs) = elim (same_bit b c) as (λ t. same_bit b c ≡ t → Starts (cond t (b ∷ shared_front bs cs) []) (c ∷ cs)) [ true ↦ λ e. (same_bit-true b c e, starts_common_right bs cs) | false ↦ λ e. tt ] refl

starts_trans : (us vs ws : List Bool) → Starts us vs → Starts vs ws → Starts us ws
starts_trans [] vs ws h g = tt
starts_trans (u ∷ us) [] ws h g = absurd h
starts_trans (u ∷ us) (v ∷ vs) [] h g = absurd g
starts_trans (u ∷ us) (v ∷ vs) (w ∷ ws) h g = (h.0 ∙ g.0, starts_trans us vs ws h.1 g.1)

starts_common : (ws bs cs : List Bool) → Starts ws bs → Starts ws cs → Starts ws (shared_front bs cs)
starts_common [] bs cs h g = tt
starts_common (w ∷ ws) [] cs h g = absurd h
starts_common (w ∷ ws) (b ∷ bs) [] h g = absurd g
starts_common (w ∷ ws) (b ∷ bs) (c ∷ cs) h g =
    let e : same_bit b c ≡ true = ap (same_bit b) (sym g.0 ∙ h.0) ∙ same_bit-same b in
    subst (λ t. Starts (w ∷ ws) (cond t (b ∷ shared_front bs cs) [])) (sym e) (h.0, starts_common ws bs cs h.1 g.1)

starts_length : (ws bs : List Bool) → Starts ws bs → length ws ≤ length bs
starts_length [] bs h = omega arith
starts_length (w ∷ ws) [] h = absurd h
starts_length (w ∷ ws) (b ∷ bs) h = omega (arith, starts_length ws bs h.1)

starts_bit : (ws bs : List Bool) (i : ℕ) → Starts ws bs → i < length ws → bit_of ws i ≡ bit_of bs i
starts_bit [] bs i h g = absurd (omega arith)
starts_bit (w ∷ ws) [] i h g = absurd h
starts_bit (w ∷ ws) (b ∷ bs) zero h g = h.0
starts_bit (w ∷ ws) (b ∷ bs) (suc i) h g = starts_bit ws bs i h.1 (omega arith)

-- the first n bits
first_bits : ℕ → List Bool → List Bool
first_bits zero bs = []
first_bits (suc n) [] = []
first_bits (suc n) (b ∷ bs) = b ∷ first_bits n bs

length-first_bits : (n : ℕ) (bs : List Bool) → n ≤ length bs → length (first_bits n bs) ≡ n
unfolding first_bits
length-first_bits zero bs h = refl
length-first_bits (suc n) [] h = absurd (omega arith)
length-first_bits (suc n) (b ∷ bs) h = ap suc (length-first_bits n bs (omega arith))

starts_first : (n : ℕ) (bs cs : List Bool) → n ≤ length bs → n ≤ length cs → ((j : ℕ) → j < n → bit_of bs j ≡ bit_of cs j) → Starts (first_bits n bs) cs
unfolding first_bits
starts_first zero bs cs h g s = tt
starts_first (suc n) [] cs h g s = absurd (omega arith)
starts_first (suc n) (b ∷ bs) [] h g s = absurd (omega arith)
starts_first (suc n) (b ∷ bs) (c ∷ cs) h g s = (s 0 (omega arith), starts_first n bs cs (omega arith) (omega arith) (λ j p. s (suc j) (omega arith)))

pub starts_each : (ps : List Pair) (k : List ℕ) → HasKey ps k → Starts (common_bits ps) (key_bits k)
unfolding common_bits
starts_each [] k h = absurd h
starts_each (p ∷ []) k (inl e) = subst (λ q. Starts (key_bits p.0) (key_bits q)) e (starts_itself (key_bits p.0))
starts_each (p ∷ []) k (inr h) = absurd h
starts_each (p ∷ q ∷ ps) k (inl e) = subst (λ z. Starts (common_bits (p ∷ q ∷ ps)) (key_bits z)) e (starts_common_left (key_bits p.0) (common_bits (q ∷ ps)))
starts_each (p ∷ q ∷ ps) k (inr h) = starts_trans (common_bits (p ∷ q ∷ ps)) (common_bits (q ∷ ps)) (key_bits k) (starts_common_right (key_bits p.0) (common_bits (q ∷ ps))) (starts_each (q ∷ ps) k h)

starts_all : (ws : List Bool) (p : Pair) (ps : List Pair) → ((k : List ℕ) → HasKey (p ∷ ps) k → Starts ws (key_bits k)) → Starts ws (common_bits (p ∷ ps))
unfolding common_bits
starts_all ws p [] h = h p.0 (inl refl)
starts_all ws p (q ∷ ps) h = starts_common ws (key_bits p.0) (common_bits (q ∷ ps)) (h p.0 (inl refl)) (starts_all ws q ps (λ k g. h k (inr g)))

-- ---- where keys part they have bits

bit_within : (bs : List Bool) (i : ℕ) → bit_of bs i ≡ true → i < length bs
bit_within [] i e = absurd cc
bit_within (b ∷ bs) zero e = omega arith
bit_within (b ∷ bs) (suc i) e = omega (arith, bit_within bs i e)

pub right_within : (i : ℕ) (a b : List ℕ) → PartsAt i a b → i < length (key_bits b)
unfolding key_bit
right_within i a b p = bit_within (key_bits b) i p.right

ten : (x : ℕ) (xs : List ℕ) → length (key_bits (x ∷ xs)) ≡ 9 + length (key_bits xs)
ten x xs = omega (arith, length-key_bits (x ∷ xs), length-key_bits xs)

later : (i x y : ℕ) (xs ys : List ℕ) → PartsAt (9 + i) (x ∷ xs) (y ∷ ys) → PartsAt i xs ys
later i x y xs ys p = record {
  same = λ j h. sym (key_bit-later x xs j) ∙ p.same (9 + j) (omega arith) ∙ key_bit-later y ys j;
  left = sym (key_bit-later x xs i) ∙ p.left;
  right = sym (key_bit-later y ys i) ∙ p.right;
}

pub left_within : (a b : List ℕ) (i : ℕ) → PartsAt i a b → i < length (key_bits a)
left_within [] b zero p = omega (arith, length-key_bits [])
left_within [] [] (suc i) p = absurd (cross (sym (key_bit-nothing (suc i)) ∙ p.right))
  where
    cross : false ≡ true → ⊥
    cross e = cc
left_within [] (y ∷ ys) (suc i) p = absurd (cross (sym (key_bit-nothing 0) ∙ p.same 0 (omega arith) ∙ true_first y ys))
  where
    cross : false ≡ true → ⊥
    cross e = cc
left_within (x ∷ xs) [] i p = absurd (cross (sym (key_bit-nothing i) ∙ p.right))
  where
    cross : false ≡ true → ⊥
    cross e = cc
left_within (x ∷ xs) (y ∷ ys) i p = elim (cases i) [
  | inl h ↦ omega (arith, ten x xs, length-key_bits xs)
  | inr h ↦ omega (arith, ten x xs, left_within xs ys (i - 9) (later (i - 9) x y xs ys (subst (λ n. PartsAt n (x ∷ xs) (y ∷ ys)) h p)))
]
  where
    cases : (i : ℕ) → (i < 9) ⊎ (i ≡ 9 + (i - 9))
    cases i = grind arith

-- ---- the index of an Inner is the length of the longest common prefix

starts_key : (ps : List Pair) (i : ℕ) (k b : List ℕ) → AgreeBelow i b k → i ≤ length (key_bits b) → i ≤ length (key_bits k) → Starts (first_bits i (key_bits b)) (key_bits k)
unfolding key_bit
starts_key ps i k b s h g = starts_first i (key_bits b) (key_bits k) h g s

not_longer : (ps : List Pair) (i : ℕ) (a b : List ℕ) → HasKey ps a → HasKey ps b → PartsAt i a b → length (common_bits ps) ≤ i
unfolding key_bit
not_longer ps i a b ha hb p = by (ltb i (length (common_bits ps))) refl
  where
    cross : false ≡ true → ⊥
    cross e = cc

    by : (t : Bool) → ltb i (length (common_bits ps)) ≡ t → length (common_bits ps) ≤ i
    by true e = let h = ltb-true i (length (common_bits ps)) e in
        absurd (cross (sym p.left ∙ sym (starts_bit (common_bits ps) (key_bits a) i (starts_each ps a ha) h) ∙ starts_bit (common_bits ps) (key_bits b) i (starts_each ps b hb) h ∙ p.right))
    by false e = ltb-false i (length (common_bits ps)) e

within : (i : ℕ) (l r : Tree) → IsGrown (Inner i l r) → (k : List ℕ) → HasKey (pairs_of (Inner i l r)) k → i < length (key_bits k)
unfolding IsGrown
within i l r g k h = elim (HasKey-cases (pairs_of l) (pairs_of r) k h) [
  | inl a ↦ let s = some_key r g.1 in left_within k s.0 i (g.2 k s.0 a s.1)
  | inr b ↦ let s = some_key l g.0 in right_within i s.0 k (g.2 s.0 k s.1 b)
]

not_shorter : (ps : List Pair) (i : ℕ) → ((a b : List ℕ) → HasKey ps a → HasKey ps b → AgreeBelow i a b) → ((k : List ℕ) → HasKey ps k → i < length (key_bits k)) → 0 < length ps → i ≤ length (common_bits ps)
not_shorter [] i s w h = absurd (omega arith)
not_shorter (p ∷ ps) i s w h =
    let inside : i < length (key_bits p.0) = w p.0 (inl refl) in
    let start = starts_all (first_bits i (key_bits p.0)) p ps (λ k g. let in_k : i < length (key_bits k) = w k g in starts_key (p ∷ ps) i k p.0 (s p.0 k (inl refl) g) (omega arith) (omega arith)) in
    omega (arith, starts_length (first_bits i (key_bits p.0)) (common_bits (p ∷ ps)) start, length-first_bits i (key_bits p.0) (omega arith))

pub index_is : (i : ℕ) (l r : Tree) → IsGrown (Inner i l r) → length (common_bits (pairs_of l ++ pairs_of r)) ≡ i
unfolding IsGrown
index_is i l r g =
    let a = some_key l g.0 in let b = some_key r g.1 in
    let up = not_longer (pairs_of l ++ pairs_of r) i a.0 b.0 (HasKey-left (pairs_of l) (pairs_of r) a.0 a.1) (HasKey-right (pairs_of l) (pairs_of r) b.0 b.1) (g.2 a.0 b.0 a.1 b.1) in
    let low = not_shorter (pairs_of l ++ pairs_of r) i (grown_agree i l r g) (within i l r g) (grown_some (Inner i l r) g) in
    omega (arith, up, low)

-- ---- a grown tree is the tree of its pairs

tree_by-many : (n : ℕ) (ps : List Pair) → 2 ≤ length ps
    → tree_by (suc n) ps ≡ Inner (length (common_bits ps)) (tree_by n (side false (length (common_bits ps)) ps)) (tree_by n (side true (length (common_bits ps)) ps))
unfolding tree_by
tree_by-many n [] h = absurd (omega arith)
tree_by-many n (p ∷ []) h = absurd (omega arith)
tree_by-many n (p ∷ q ∷ ps) h = refl

same_false : (b : Bool) → b ≡ false → same_bit b false ≡ true
same_false b e = ap (λ c. same_bit c false) e

same_true : (b : Bool) → b ≡ true → same_bit b true ≡ true
same_true b e = ap (λ c. same_bit c true) e

other_false : (b : Bool) → b ≡ true → same_bit b false ≡ false
other_false b e = ap (λ c. same_bit c false) e

other_true : (b : Bool) → b ≡ false → same_bit b true ≡ false
other_true b e = ap (λ c. same_bit c true) e

pub append_nil : (ps : List Pair) → ps ++ [] ≡ ps
append_nil [] = refl
append_nil (p ∷ ps) = ap (λ xs. p ∷ xs) (append_nil ps)

pub left_side : (i : ℕ) (l r : Tree) → IsGrown (Inner i l r) → side false i (pairs_of l ++ pairs_of r) ≡ pairs_of l
left_side i l r g =
    side-append false i (pairs_of l) (pairs_of r)
    ∙ (λ j. side-all false i (pairs_of l) (λ k h. same_false _ (left_bit i l r g k h)) j ++ side-none false i (pairs_of r) (λ k h. other_false _ (right_bit i l r g k h)) j)
    ∙ append_nil (pairs_of l)

pub right_side : (i : ℕ) (l r : Tree) → IsGrown (Inner i l r) → side true i (pairs_of l ++ pairs_of r) ≡ pairs_of r
right_side i l r g =
    side-append true i (pairs_of l) (pairs_of r)
    ∙ (λ j. side-none true i (pairs_of l) (λ k h. other_true _ (left_bit i l r g k h)) j ++ side-all true i (pairs_of r) (λ k h. same_true _ (right_bit i l r g k h)) j)

pub tree_by-pairs_of : (t : Tree) → IsGrown t → (n : ℕ) → length (pairs_of t) ≤ n → tree_by n (pairs_of t) ≡ t
unfolding IsGrown tree_by
tree_by-pairs_of Empty g n h = absurd g
tree_by-pairs_of (Leaf k v) g zero h = absurd (omega arith)
tree_by-pairs_of (Leaf k v) g (suc n) h = refl
tree_by-pairs_of (Stub root) g n h = absurd g
tree_by-pairs_of (Inner i l r) g zero h = absurd (omega (arith, grown_some (Inner i l r) g))
tree_by-pairs_of (Inner i l r) g (suc n) h =
    let ps = pairs_of l ++ pairs_of r in
    let size = length-append (pairs_of l) (pairs_of r) in
    let one = grown_some l g.0 in let two = grown_some r g.1 in
    let e = index_is i l r g in
    tree_by-many n ps (omega arith)
    ∙ ap (λ m. Inner m (tree_by n (side false m ps)) (tree_by n (side true m ps))) e
    ∙ (λ j. Inner i (tree_by n (left_side i l r g j)) (tree_by n (right_side i l r g j)))
    ∙ (λ j. Inner i (tree_by-pairs_of l g.0 n (omega arith) j) (tree_by-pairs_of r g.1 n (omega arith) j))
