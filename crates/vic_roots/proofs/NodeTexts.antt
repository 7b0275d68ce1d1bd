-- Node texts are spelled one way, and trees of one root are equal or two of their texts collide.
use Rattle.std.proofs.Common.{◌≡◌, ℕ, ◌/◌, ◌%◌, ◌^◌, ◌<◌, ◌⊎◌, inl, inr, Bool, true, false, List, [], ◌∷◌, ◌++◌, length, arith, refl, sym, ap, ◌∙◌}
use Rattle.std.specs.Int.{w16, to_be_bytes}
use Rattle.std.specs.Str.{bytes_eq}
use Rattle.std.proofs.lemmas.Slice.Eq.{bytes_eq-Decides}
use Rattle.sha2.proofs.Facts256.{length-sha256}
use Rattle.vic_dict.specs.Lists.{IsIn}
use Rattle.vic_wire.specs.Texts.{empty_text, leaf_text, inner_text}
use Rattle.vic_wire.specs.Hashes.{hash}
use Rattle.vic_wire.specs.Trees.{Tree, Empty, Leaf, Inner, Stub, root_of, node_texts}
use Rattle.vic_roots.specs.Roots.{TextsCollide}
use Rattle.vic_roots.proofs.Members.{IsIn-append_left, IsIn-append_right}

-- texts of one length after one another tell both
pub append_tells : (xs ys us vs : List ℕ) → length xs ≡ length us → xs ++ ys ≡ us ++ vs → (xs ≡ us) × (ys ≡ vs)
append_tells [] ys [] vs long e = (refl, e)
append_tells [] ys (u ∷ us) vs long e = absurd (omega arith)
append_tells (x ∷ xs) ys [] vs long e = absurd (omega arith)
append_tells (x ∷ xs) ys (u ∷ us) vs long e =
    let rest = append_tells xs ys us vs (omega arith) (cc) in
    let first : x ≡ u = cc in
    (cc (first, rest.0), rest.1)

-- a leaf's text tells its key and its value
pub leaf_text_tells : (k v q w : List ℕ) → leaf_text k v ≡ leaf_text q w → (k ≡ q) × (v ≡ w)
leaf_text_tells k v q w e = append_tells k v q w (cc) (cc)

two_bytes_tell : (i j : ℕ) → i < 2 ^ 16 → j < 2 ^ 16 → i / 256 % 256 ≡ j / 256 % 256 → i % 256 ≡ j % 256 → i ≡ j
two_bytes_tell i j small_i small_j high low = omega arith

-- an inner node's text tells its index and the roots below
pub inner_text_tells : (i j : ℕ) (l r m s : List ℕ) → i < 2 ^ 16 → j < 2 ^ 16 → length l ≡ length m → inner_text i l r ≡ inner_text j m s → (i ≡ j) × (l ≡ m) × (r ≡ s)
inner_text_tells i j l r m s small_i small_j long e =
    let both = append_tells l r m s long (cc) in
    (two_bytes_tell i j small_i small_j (cc) (cc), both.0, both.1)

-- ---- trees of one root

-- a tree without stubs, of indices that fit two bytes
abbrev pub IsWhole : Tree → Type 0
IsWhole Empty = Unit {0}
IsWhole (Leaf k v) = Unit {0}
IsWhole (Inner i l r) = (i < 2 ^ 16) × IsWhole l × IsWhole r
IsWhole (Stub root) = ⊥

-- the text of the topmost node
abbrev pub top_text : Tree → List ℕ
top_text Empty = empty_text
top_text (Leaf k v) = leaf_text k v
top_text (Inner i l r) = inner_text i (root_of l) (root_of r)
top_text (Stub root) = []

pub root_of_whole : (t : Tree) → IsWhole t → root_of t ≡ hash (top_text t)
root_of_whole Empty h = refl
root_of_whole (Leaf k v) h = refl
root_of_whole (Inner i l r) h = refl
root_of_whole (Stub root) h = absurd h

pub top_text_in : (t : Tree) → IsWhole t → IsIn (node_texts t) (top_text t)
unfolding node_texts
top_text_in Empty h = inl refl
top_text_in (Leaf k v) h = inl refl
top_text_in (Inner i l r) h = inl refl
top_text_in (Stub root) h = absurd h

length-root : (root text : List ℕ) → root ≡ hash text → length root ≡ 32
length-root root text e = ap length e ∙ length-sha256 text

-- a root has 32 bytes
pub length-root_of : (t : Tree) → IsWhole t → length (root_of t) ≡ 32
length-root_of t h = length-root (root_of t) (top_text t) (root_of_whole t h)

same_or_collide : (a b : List (List ℕ)) (one other : List ℕ) (r : Bool) → bytes_eq one other ≡ r → IsIn a one → IsIn b other → hash one ≡ hash other → (one ≡ other) ⊎ TextsCollide a b
same_or_collide a b one other true is g h e = inl ((bytes_eq-Decides one other).0 is)
same_or_collide a b one other false is g h e =
    inr (record { one = one; other = other; one_in = inl g; other_in = inr h; differ = λ same. absurd (cc (is, (bytes_eq-Decides one other).1 same)); same_hash = e })

-- a member of each of two lists with one hash: they are one text, or the lists collide
pub one_text_or_collide : (a b : List (List ℕ)) (one other : List ℕ) → IsIn a one → IsIn b other → hash one ≡ hash other → (one ≡ other) ⊎ TextsCollide a b
one_text_or_collide a b one other = same_or_collide a b one other (bytes_eq one other) refl

in_either : (a b c d : List (List ℕ)) → ((x : List ℕ) → IsIn a x → IsIn c x) → ((x : List ℕ) → IsIn b x → IsIn d x) → (x : List ℕ) → IsIn a x ⊎ IsIn b x → IsIn c x ⊎ IsIn d x
in_either a b c d g h x (inl is) = inl (g x is)
in_either a b c d g h x (inr is) = inr (h x is)

-- lists with more members collide too
pub collide_more : (a b c d : List (List ℕ)) → ((x : List ℕ) → IsIn a x → IsIn c x) → ((x : List ℕ) → IsIn b x → IsIn d x) → TextsCollide a b → TextsCollide c d
collide_more a b c d g h t = record { one = t.one; other = t.other; one_in = in_either a b c d g h t.one t.one_in; other_in = in_either a b c d g h t.other t.other_in; differ = t.differ; same_hash = t.same_hash }

left_in : (i : ℕ) (l r : Tree) (x : List ℕ) → IsIn (node_texts l) x → IsIn (node_texts (Inner i l r)) x
unfolding node_texts
left_in i l r x h = inr (IsIn-append_left (node_texts l) (node_texts r) x h)

right_in : (i : ℕ) (l r : Tree) (x : List ℕ) → IsIn (node_texts r) x → IsIn (node_texts (Inner i l r)) x
unfolding node_texts
right_in i l r x h = inr (IsIn-append_right (node_texts l) (node_texts r) x h)

-- two trees are equal, or two of their node texts collide
abbrev pub IsOneOrCollides : Tree → Tree → Type 0
IsOneOrCollides s t = (s ≡ t) ⊎ TextsCollide (node_texts s) (node_texts t)

joined_inner : (i j : ℕ) (l r m s : Tree) → i ≡ j → IsOneOrCollides l m → IsOneOrCollides r s → IsOneOrCollides (Inner i l r) (Inner j m s)
joined_inner i j l r m s e (inl g) (inl h) = inl (cc (e, g, h))
joined_inner i j l r m s e (inl g) (inr t) = inr (collide_more (node_texts r) (node_texts s) (node_texts (Inner i l r)) (node_texts (Inner j m s)) (right_in i l r) (right_in j m s) t)
joined_inner i j l r m s e (inr t) h = inr (collide_more (node_texts l) (node_texts m) (node_texts (Inner i l r)) (node_texts (Inner j m s)) (left_in i l r) (left_in j m s) t)

-- the topmost texts are one, or texts collide
tops_tell : (s t : Tree) → IsWhole s → IsWhole t → root_of s ≡ root_of t → (top_text s ≡ top_text t) ⊎ TextsCollide (node_texts s) (node_texts t)
tops_tell s t g h e = one_text_or_collide (node_texts s) (node_texts t) (top_text s) (top_text t) (top_text_in s g) (top_text_in t h) (sym (root_of_whole s g) ∙ e ∙ root_of_whole t h)

-- the first numbers of two texts
same_first : (a b : ℕ) (xs ys : List ℕ) → a ∷ xs ≡ b ∷ ys → a ≡ b
same_first a b xs ys e = cc

unlike : (s t : Tree) → (top_text s ≡ top_text t → ⊥) → IsWhole s → IsWhole t → root_of s ≡ root_of t → IsOneOrCollides s t
unlike s t apart g h e =
    elim (tops_tell s t g h e) [
      | inl same ↦ absurd (apart same)
      | inr texts ↦ inr texts
    ]

empty_leaf : (k v : List ℕ) → empty_text ≡ leaf_text k v → ⊥
empty_leaf k v e = omega (arith, same_first 2 3 [] (length k ∷ k ++ v) e)

empty_inner : (i : ℕ) (l r : List ℕ) → empty_text ≡ inner_text i l r → ⊥
empty_inner i l r e = omega (arith, same_first 2 4 [] (to_be_bytes w16 i ++ l ++ r) e)

leaf_inner : (k v : List ℕ) (i : ℕ) (l r : List ℕ) → leaf_text k v ≡ inner_text i l r → ⊥
leaf_inner k v i l r e = omega (arith, same_first 3 4 (length k ∷ k ++ v) (to_be_bytes w16 i ++ l ++ r) e)

leaves_tell : (k v q w : List ℕ) → (leaf_text k v ≡ leaf_text q w) ⊎ TextsCollide (node_texts (Leaf k v)) (node_texts (Leaf q w)) → IsOneOrCollides (Leaf k v) (Leaf q w)
leaves_tell k v q w (inl same) = let both = leaf_text_tells k v q w same in inl (cc (both.0, both.1))
leaves_tell k v q w (inr texts) = inr texts

-- trees without stubs of one root are equal, or two of their node texts collide
pub trees_tell : (s t : Tree) → IsWhole s → IsWhole t → root_of s ≡ root_of t → IsOneOrCollides s t
trees_tell Empty Empty g h e = inl refl
trees_tell Empty (Leaf q w) g h e = unlike Empty (Leaf q w) (empty_leaf q w) g h e
trees_tell Empty (Inner j m u) g h e = unlike Empty (Inner j m u) (empty_inner j (root_of m) (root_of u)) g h e
trees_tell Empty (Stub root) g h e = absurd h
trees_tell (Leaf k v) Empty g h e = unlike (Leaf k v) Empty (λ same. empty_leaf k v (sym same)) g h e
trees_tell (Leaf k v) (Leaf q w) g h e = leaves_tell k v q w (tops_tell (Leaf k v) (Leaf q w) g h e)
trees_tell (Leaf k v) (Inner j m u) g h e = unlike (Leaf k v) (Inner j m u) (leaf_inner k v j (root_of m) (root_of u)) g h e
trees_tell (Leaf k v) (Stub root) g h e = absurd h
trees_tell (Inner i l r) Empty g h e = unlike (Inner i l r) Empty (λ same. empty_inner i (root_of l) (root_of r) (sym same)) g h e
trees_tell (Inner i l r) (Leaf q w) g h e = unlike (Inner i l r) (Leaf q w) (λ same. leaf_inner q w i (root_of l) (root_of r) (sym same)) g h e
trees_tell (Inner i l r) (Inner j m u) g h e =
    elim (tops_tell (Inner i l r) (Inner j m u) g h e) [
      | inl same ↦
          let long = length-root_of l g.1 ∙ sym (length-root_of m h.1) in
          let told = inner_text_tells i j (root_of l) (root_of r) (root_of m) (root_of u) g.0 h.0 long same in
          joined_inner i j l r m u told.0 (trees_tell l m g.1 h.1 told.1) (trees_tell r u g.2 h.2 told.2)
      | inr texts ↦ inr texts
    ]
trees_tell (Inner i l r) (Stub root) g h e = absurd h
trees_tell (Stub root) t g h e = absurd g
