-- More levels than a node can have read nothing else.
use Rattle.std.proofs.Common.{◌≡◌, ℕ, zero, suc, ◌+◌, ◌-◌, ◌<◌, ◌≤◌, Bool, true, false, ltb, leb, ◌&&◌, List, [], Result, Ok, Err, refl, ap, subst, ◌∙◌, arith}
use Rattle.std.specs.Prelude.{◌==◌, if◌then◌else◌}
use Rattle.std.specs.Int.{w16}
use Rattle.std.proofs.lemmas.Bool.{ltb-true, leb-true, and_parts}
use Rattle.vic_wire.specs.Trees.{Tree, Empty, Inner}
use Rattle.vic_wire.specs.Reading.{Read, ◌>>=◌, byte_at, number_at, if_allowed}
use Rattle.vic_wire.specs.Reading as reading
use Rattle.vic_wire.specs.Parts.{PartFault, PartRead, BadTag, IndexNotRising, ◌then◌, place, field, leaf_at, index_at, stub_at, node_at, tree_at}
use Rattle.vic_proof.specs.Nodes.{node_from, inner_from, after_byte}
use Rattle.vic_spellings.proofs.SpelledParts.{field_ok}

then_same : {A B : Type 0} (r : Result A PartFault) (f g : A → Result B PartFault) → ((x : A) → r ≡ Ok x → f x ≡ g x) → (r then f) ≡ (r then g)
then_same (Ok x) f g h = h x refl
then_same (Err d) f g h = refl

allowed_small : (b : Bool) (i x : ℕ × List ℕ) → if_allowed b i ≡ Ok x → (b ≡ true) × (i ≡ x)
allowed_small true i x e = (refl, cc)
allowed_small false i x e = absurd cc

index_small : (low : ℕ) (r : Read ℕ) (x : ℕ × List ℕ) → (r >>= (λ i. if_allowed (leb low i.0 && ltb i.0 2296) i)) ≡ Ok x → (low ≤ x.0) × (x.0 < 2296)
index_small low (Ok i) x e =
    let a = allowed_small (leb low i.0 && ltb i.0 2296) i x e in
    let g = and_parts (leb low i.0) (ltb i.0 2296) a.0 in
    subst (λ (y : ℕ × List ℕ). (low ≤ y.0) × (y.0 < 2296)) a.1 (leb-true low i.0 g.0, ltb-true i.0 2296 g.1)
index_small low (Err d) x e = absurd cc

abbrev right_of : ℕ → ℕ → ℕ → Tree × List ℕ → PartRead Tree
right_of all n i l = node_at all n (i + 1) l.1 then (λ r. Ok (Inner i l.0 r.0, r.1))

abbrev sides_of : ℕ → ℕ → ℕ × List ℕ → PartRead Tree
sides_of all n i = node_at all n (i.0 + 1) i.1 then right_of all n i.0

abbrev by_byte : ℕ → ℕ → ℕ → List ℕ → ℕ × List ℕ → PartRead Tree
by_byte all n low left tag =
    if tag.0 == 1 then leaf_at all tag.1
    else if tag.0 == 2 then field all tag.1 IndexNotRising (index_at low tag.1) then sides_of all n
    else if tag.0 == 3 then stub_at all tag.1
    else Err (BadTag (place all left))

same_kinds : (all low : ℕ) (left : List ℕ) (tag : ℕ × List ℕ) (x y : PartRead Tree) → x ≡ y
    → (if tag.0 == 1 then leaf_at all tag.1 else if tag.0 == 2 then x else if tag.0 == 3 then stub_at all tag.1 else Err (BadTag (place all left)))
    ≡ (if tag.0 == 1 then leaf_at all tag.1 else if tag.0 == 2 then y else if tag.0 == 3 then stub_at all tag.1 else Err (BadTag (place all left)))
same_kinds all low left tag x y e = ap (λ z. if tag.0 == 1 then leaf_at all tag.1 else if tag.0 == 2 then z else if tag.0 == 3 then stub_at all tag.1 else Err (BadTag (place all left))) e

pub same_levels : (all n m low : ℕ) (left : List ℕ) → low ≤ 2296 → 2297 ≤ n + low → 2297 ≤ m + low → node_at all n low left ≡ node_at all m low left
unfolding node_at
same_levels all zero m low left small a b = absurd (omega (arith, small, a))
same_levels all (suc n) zero low left small a b = absurd (omega (arith, small, b))
same_levels all (suc n) (suc m) low left small a b =
    then_same (field all left BadTag (byte_at left)) (by_byte all n low left) (by_byte all m low left) (λ tag e.
    same_kinds all low left tag _ _ (then_same (field all tag.1 IndexNotRising (index_at low tag.1)) (sides_of all n) (sides_of all m) (λ i f.
    let bounds = index_small low (number_at w16 tag.1) i (field_ok all tag.1 IndexNotRising (index_at low tag.1) i f) in
    let deeper : (rest : List ℕ) → node_at all n (i.0 + 1) rest ≡ node_at all m (i.0 + 1) rest =
    λ rest. same_levels all n m (i.0 + 1) rest (omega (arith, bounds.1)) (omega (arith, bounds.0, a)) (omega (arith, bounds.0, b)) in
    ap (λ r. r then right_of all n i.0) (deeper i.1)
    ∙ then_same (node_at all m (i.0 + 1) i.1) (right_of all n i.0) (right_of all m i.0) (λ l g. ap (λ r. r then (λ r. Ok (Inner i.0 l.0 r.0, r.1))) (deeper l.1)))))

levels_step : (all n low : ℕ) (left : List ℕ) → low ≤ 2296 → n ≡ 2296 - low → (tag : ℕ × List ℕ) → by_byte all n low left tag ≡ after_byte all low (place all left) tag.0 tag.1
unfolding after_byte inner_from node_from
levels_step all n low left small is tag =
    same_kinds all low left tag _ _ (then_same (field all tag.1 IndexNotRising (index_at low tag.1)) (sides_of all n) _ (λ i f.
    let bounds = index_small low (number_at w16 tag.1) i (field_ok all tag.1 IndexNotRising (index_at low tag.1) i f) in
    let deeper : (rest : List ℕ) → node_at all n (i.0 + 1) rest ≡ node_at all (2297 - (i.0 + 1)) (i.0 + 1) rest =
    λ rest. same_levels all n (2297 - (i.0 + 1)) (i.0 + 1) rest (omega (arith, bounds.1)) (omega (arith, bounds.0, is, small)) (omega (arith, bounds.1)) in
    ap (λ r. r then right_of all n i.0) (deeper i.1)
    ∙ then_same (node_at all (2297 - (i.0 + 1)) (i.0 + 1) i.1) (right_of all n i.0) _ (λ l g. ap (λ r. r then (λ r. Ok (Inner i.0 l.0 r.0, r.1))) (deeper l.1))))

-- a node is its byte and what that byte calls for
pub node_step : (all low : ℕ) (left : List ℕ) → low ≤ 2296 → node_from all low left ≡ (field all left BadTag (byte_at left) then (λ tag. after_byte all low (place all left) tag.0 tag.1))
unfolding node_from node_at
node_step all low left small =
    let one_more : 2297 - low ≡ suc (2296 - low) = omega (arith, small) in
    ap (λ n. node_at all n low left) one_more
    ∙ then_same (field all left BadTag (byte_at left)) (by_byte all (2296 - low) low left) (λ tag. after_byte all low (place all left) tag.0 tag.1) (λ tag e. levels_step all (2296 - low) low left small refl tag)

node_start : (all : ℕ) (left : List ℕ) → node_at all 2297 0 left ≡ node_from all 0 left
unfolding node_from
node_start all left = refl

-- a tree is a byte and what that byte calls for
pub tree_step : (all : ℕ) (left : List ℕ) → tree_at all left ≡ (field all left BadTag (byte_at left) then (λ tag. if tag.0 == 0 then Ok (Empty, tag.1) else after_byte all 0 (place all left) tag.0 tag.1))
unfolding tree_at
tree_step all left = by (byte_at left) refl
  where
    by : (r : Read ℕ) → byte_at left ≡ r → (field all left BadTag r then (λ tag. if tag.0 == 0 then Ok (Empty, tag.1) else node_at all 2297 0 left)) ≡ (field all left BadTag r then (λ tag. if tag.0 == 0 then Ok (Empty, tag.1) else after_byte all 0 (place all left) tag.0 tag.1))
    by (Err reading.Short) e = refl
    by (Err reading.Value) e = refl
    by (Ok tag) e =
        let node : node_at all 2297 0 left ≡ after_byte all 0 (place all left) tag.0 tag.1 =
        node_start all left ∙ node_step all 0 left (omega arith) ∙ ap (λ r. field all left BadTag r then (λ tag. after_byte all 0 (place all left) tag.0 tag.1)) e in
        ap (λ n. if tag.0 == 0 then Ok (Empty, tag.1) else n) node
