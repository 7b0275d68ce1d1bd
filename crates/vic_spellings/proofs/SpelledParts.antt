-- Parts: what is read is what was spelled, and what is spelled is read again.
use Rattle.std.proofs.Common.{◌≡◌, ℕ, zero, suc, ◌+◌, ◌<◌, ◌≤◌, Bool, true, false, cond, eqb, ltb, leb, ◌&&◌, List, [], ◌∷◌, ◌++◌, length, Some, Result, Ok, Err, refl, sym, ap, subst, ◌∙◌, append_assoc, arith, inl, inr}
use Rattle.std.specs.Prelude.{◌==◌, if◌then◌else◌}
use Rattle.std.specs.Int.{w16, to_be_bytes}
use Rattle.std.proofs.lemmas.Bool.{ltb-true, leb-true, lt-ltb, le-leb, eqb-true, and_parts}
use Rattle.std.proofs.lemmas.List.{nil_from_length, append-nil}
use Rattle.vic_dict.specs.Lists.{AreBytes}
use Rattle.vic_dict.specs.Dictionary.{IsKey}
use Rattle.vic_dict.proofs.ByteLists.{AreBytes-nil, AreBytes-tail, AreBytes-cons, AreBytes-append, AreBytes-first, AreBytes-second}
use Rattle.vic_wire.specs.Texts.{short_text}
use Rattle.vic_wire.specs.Trees.{Tree, Empty, Leaf, Inner, Stub}
use Rattle.vic_wire.specs.Reading.{Read, ◌>>=◌, byte_at, bytes_at, number_at, digest_at, if_allowed}
use Rattle.vic_wire.specs.Reading as reading
use Rattle.vic_wire.specs.Parts.{Part, IsNodeFrom, IsPart, node_field, part_text, PartFault, PartRead, BadTag, BadLength, IndexNotRising, ◌then◌, place, field, length_at, text_at, leaf_at, index_at, stub_at, node_at, tree_at, at_end, part_at, if_read, read_part}
use Rattle.vic_spellings.specs.Spellings.{PartHoldsBytes, PartsAreSpelled}
use Rattle.vic_spellings.proofs.Steps.{bind_ok, allowed_ok, chosen, Takes, Takes-then, Takes-cons}
use Rattle.vic_spellings.proofs.Bytes.{bytes-w16}
use Rattle.vic_spellings.proofs.Fields.{byte_takes, bytes_takes, bytes_again, w16_takes, w16_again, digest_takes, digest_again}

-- ---- steps

then_ok : {A B : Type 0} (r : Result A PartFault) (f : A → Result B PartFault) (y : B) → (r then f) ≡ Ok y → (x : A) × (r ≡ Ok x) × (f x ≡ Ok y)
then_ok (Ok x) f y e = (x, refl, e)
then_ok (Err d) f y e = absurd cc

then_again : {A B : Type 0} (r : Result A PartFault) (f : A → Result B PartFault) (x : A) → r ≡ Ok x → (r then f) ≡ f x
then_again r f x e = ap (λ q. q then f) e

pub field_ok : {A : Type 0} (all : ℕ) (left : List ℕ) (bad : ℕ → PartFault) (r : Read A) (x : A × List ℕ) → field all left bad r ≡ Ok x → r ≡ Ok x
field_ok all left bad (Ok y) x e = cc
field_ok all left bad (Err reading.Short) x e = absurd cc
field_ok all left bad (Err reading.Value) x e = absurd cc

field_again : {A : Type 0} (all : ℕ) (left : List ℕ) (bad : ℕ → PartFault) (r : Read A) (x : A × List ℕ) → r ≡ Ok x → field all left bad r ≡ Ok x
field_again all left bad r x e = ap (field all left bad) e

abbrev done : {A : Type 0} → A → Result A PartFault
done x = Ok x

done_is : {A : Type 0} (x y : A) → done x ≡ done y → x ≡ y
done_is x y e = cc

fails_not : {A : Type 0} (d : PartFault) (x : A) → ◌≡◌ {A = Result A PartFault} (Err d) (Ok x) → ⊥
fails_not d x e = absurd cc

-- ---- texts, leaves, indices, stubs

pub text_takes : (all low high : ℕ) (bytes : List ℕ) (x : List ℕ × List ℕ) → AreBytes bytes → text_at all low high bytes ≡ Ok x
    → Takes bytes (short_text x.0) x.1 × ((low ≤ length x.0) × (length x.0 ≤ high)) × AreBytes x.0
unfolding text_at
text_takes all low high bytes x fits e =
    let a = then_ok (field all bytes BadLength (length_at low high bytes)) (λ n. field all n.1 BadLength (bytes_at n.0 n.1)) x e in
    let n = bind_ok (byte_at bytes) (λ n. if_allowed (leb low n.0 && leb n.0 high) n) a.0 (field_ok all bytes BadLength (length_at low high bytes) a.0 a.1) in
    let b = allowed_ok (leb low n.0.0 && leb n.0.0 high) n.0 a.0 n.2 in
    let g = and_parts (leb low n.0.0) (leb n.0.0 high) b.0 in
    let first : (bytes ≡ a.0.0 ∷ a.0.1) × (a.0.0 < 256) × AreBytes a.0.1 = subst (λ (y : ℕ × List ℕ). (bytes ≡ y.0 ∷ y.1) × (y.0 < 256) × AreBytes y.1) b.1 (byte_takes bytes n.0 fits n.1) in
    let same : n.0.0 ≡ a.0.0 = ap (λ (y : ℕ × List ℕ). y.0) b.1 in
    let second = bytes_takes a.0.0 a.0.1 x first.2 (field_ok all a.0.1 BadLength (bytes_at a.0.0 a.0.1) x a.2) in
    let whole : bytes ≡ short_text x.0 ++ x.1 = first.0 ∙ ap (λ (t : List ℕ). a.0.0 ∷ t) second.0.parts ∙ ap (λ (n : ℕ). n ∷ (x.0 ++ x.1)) (sym second.1) in
    (record { parts = whole; rest_fits = second.0.rest_fits }, (omega (arith, second.1, same, leb-true low n.0.0 g.0), omega (arith, second.1, same, leb-true n.0.0 high g.1)), second.2)

pub text_again : (all low high : ℕ) (text rest : List ℕ) → low ≤ length text → length text ≤ high → text_at all low high (short_text text ++ rest) ≡ Ok (text, rest)
unfolding text_at
text_again all low high text rest least most =
    rw (le-leb _ _ least, le-leb _ _ most, bytes_again (length text) text rest refl) refl

pub leaf_takes : (all low : ℕ) (bytes : List ℕ) (x : Tree × List ℕ) → AreBytes bytes → leaf_at all bytes ≡ Ok x → Takes (1 ∷ bytes) (node_field x.0) x.1 × IsNodeFrom low x.0
unfolding leaf_at
leaf_takes all low bytes x fits e =
    let a = then_ok (text_at all 1 255 bytes) (λ k. text_at all 0 64 k.1 then (λ v. Ok (Leaf k.0 v.0, v.1))) x e in
    let b = then_ok (text_at all 0 64 a.0.1) (λ v. Ok (Leaf a.0.0 v.0, v.1)) x a.2 in
    let key = text_takes all 1 255 bytes a.0 fits a.1 in
    let value = text_takes all 0 64 a.0.1 b.0 key.0.rest_fits b.1 in
    let both = Takes-cons 1 bytes (short_text a.0.0 ++ short_text b.0.0) b.0.1 (Takes-then bytes (short_text a.0.0) a.0.1 (short_text b.0.0) b.0.1 key.0 value.0) in
    let made : Tree × List ℕ = (Leaf a.0.0 b.0.0, b.0.1) in
    subst (λ (y : Tree × List ℕ). Takes (1 ∷ bytes) (node_field y.0) y.1 × IsNodeFrom low y.0) (done_is made x b.2)
    (both, ((omega (arith, key.1.0), omega (arith, key.1.1)), omega (arith, value.1.1)))

pub leaf_again : (all : ℕ) (k v rest : List ℕ) → IsKey k → length v ≤ 64 → leaf_at all (short_text k ++ short_text v ++ rest) ≡ Ok (Leaf k v, rest)
unfolding leaf_at
leaf_again all k v rest key value =
    let first : text_at all 1 255 (short_text k ++ short_text v ++ rest) ≡ Ok (k, short_text v ++ rest) =
    ap (text_at all 1 255) (append_assoc (short_text k) (short_text v) rest) ∙ text_again all 1 255 k (short_text v ++ rest) (omega (arith, key.0)) (omega (arith, key.1)) in
    rw (first, text_again all 0 64 v rest (omega arith) (omega (arith, value))) refl

pub index_takes : (low : ℕ) (bytes : List ℕ) (x : ℕ × List ℕ) → AreBytes bytes → index_at low bytes ≡ Ok x → Takes bytes (to_be_bytes w16 x.0) x.1 × ((low ≤ x.0) × (x.0 < 2296))
index_takes low bytes x fits e =
    let a = bind_ok (number_at w16 bytes) (λ i. if_allowed (leb low i.0 && ltb i.0 2296) i) x e in
    let b = allowed_ok (leb low a.0.0 && ltb a.0.0 2296) a.0 x a.2 in
    let g = and_parts (leb low a.0.0) (ltb a.0.0 2296) b.0 in
    let t = w16_takes bytes a.0 fits a.1 in
    subst (λ (y : ℕ × List ℕ). Takes bytes (to_be_bytes w16 y.0) y.1 × ((low ≤ y.0) × (y.0 < 2296))) b.1 (t.0, (leb-true low a.0.0 g.0, ltb-true a.0.0 2296 g.1))

pub index_again : (low i : ℕ) (rest : List ℕ) → low ≤ i → i < 2296 → index_at low (to_be_bytes w16 i ++ rest) ≡ Ok (i, rest)
index_again low i rest least most = rw (w16_again i rest (omega (arith, most)), le-leb _ _ least, lt-ltb _ _ most) refl

pub stub_takes : (all low : ℕ) (bytes : List ℕ) (x : Tree × List ℕ) → AreBytes bytes → stub_at all bytes ≡ Ok x → Takes (3 ∷ bytes) (node_field x.0) x.1 × IsNodeFrom low x.0
unfolding stub_at
stub_takes all low bytes x fits e =
    let a = then_ok (field all bytes BadTag (digest_at bytes)) (λ root. Ok (Stub root.0.bytes, root.1)) x e in
    let t = digest_takes bytes a.0 fits (field_ok all bytes BadTag (digest_at bytes) a.0 a.1) in
    let made : Tree × List ℕ = (Stub a.0.0.bytes, a.0.1) in
    subst (λ (y : Tree × List ℕ). Takes (3 ∷ bytes) (node_field y.0) y.1 × IsNodeFrom low y.0) (done_is made x a.2) (Takes-cons 3 bytes a.0.0.bytes a.0.1 t.0, t.1)

pub stub_again : (all : ℕ) (root rest : List ℕ) → length root ≡ 32 → stub_at all (root ++ rest) ≡ Ok (Stub root, rest)
unfolding stub_at
stub_again all root rest long = rw (digest_again (record { bytes = root }) rest long) refl

-- ---- nodes

abbrev pub NodeTakes : ℕ → List ℕ → Tree × List ℕ → Type 0
NodeTakes low bytes x = Takes bytes (node_field x.0) x.1 × IsNodeFrom low x.0

inner_takes : (bytes : List ℕ) (low : ℕ) (i : ℕ × List ℕ) (l r x : Tree × List ℕ) → Takes bytes (to_be_bytes w16 i.0) i.1 × ((low ≤ i.0) × (i.0 < 2296))
    → NodeTakes (i.0 + 1) i.1 l → NodeTakes (i.0 + 1) l.1 r → (Inner i.0 l.0 r.0, r.1) ≡ x → NodeTakes low (2 ∷ bytes) x
inner_takes bytes low i l r x index left right is =
    let sides = Takes-then i.1 (node_field l.0) l.1 (node_field r.0) r.1 left.0 right.0 in
    let all = Takes-then bytes (to_be_bytes w16 i.0) i.1 (node_field l.0 ++ node_field r.0) r.1 index.0 sides in
    let spelled : to_be_bytes w16 i.0 ++ (node_field l.0 ++ node_field r.0) ≡ to_be_bytes w16 i.0 ++ node_field l.0 ++ node_field r.0 = sym (append_assoc (to_be_bytes w16 i.0) (node_field l.0) (node_field r.0)) in
    subst (λ (y : Tree × List ℕ). NodeTakes low (2 ∷ bytes) y) is
    (Takes-cons 2 bytes (to_be_bytes w16 i.0 ++ node_field l.0 ++ node_field r.0) r.1 (subst (λ t. Takes bytes t r.1) spelled all), (index.1.0, index.1.1, left.1, right.1))

abbrev after_right : ℕ → Tree × List ℕ → Tree × List ℕ → PartRead Tree
after_right i l r = Ok (Inner i l.0 r.0, r.1)

abbrev after_left : ℕ → ℕ → ℕ → Tree × List ℕ → PartRead Tree
after_left all levels i l = node_at all levels (i + 1) l.1 then after_right i l

abbrev after_index : ℕ → ℕ → ℕ × List ℕ → PartRead Tree
after_index all levels i = node_at all levels (i.0 + 1) i.1 then after_left all levels i.0

abbrev after_tag : ℕ → ℕ → ℕ → List ℕ → ℕ × List ℕ → PartRead Tree
after_tag all levels low left tag =
    if tag.0 == 1 then leaf_at all tag.1
    else if tag.0 == 2 then field all tag.1 IndexNotRising (index_at low tag.1) then after_index all levels
    else if tag.0 == 3 then stub_at all tag.1
    else Err (BadTag (place all left))

pub node_takes : (all levels low : ℕ) (bytes : List ℕ) (x : Tree × List ℕ) → AreBytes bytes → node_at all levels low bytes ≡ Ok x → NodeTakes low bytes x
unfolding node_at
node_takes all zero low bytes x fits e = absurd (fails_not (BadTag (place all bytes)) x e)
node_takes all (suc levels) low bytes x fits e =
    let tag = then_ok (field all bytes BadTag (byte_at bytes)) (after_tag all levels low bytes) x e in
    let t = byte_takes bytes tag.0 fits (field_ok all bytes BadTag (byte_at bytes) tag.0 tag.1) in
    let left = tag.0.1 in
    let kinds : NodeTakes low (tag.0.0 ∷ left) x = elim (chosen (eqb tag.0.0 1) (leaf_at all left) _ (Ok x) tag.2) [
      | inl h ↦ subst (λ n. NodeTakes low (n ∷ left) x) (sym (eqb-true tag.0.0 1 h.0)) (leaf_takes all low left x t.2 h.1)
      | inr h ↦ elim (chosen (eqb tag.0.0 2) (field all left IndexNotRising (index_at low left) then after_index all levels) _ (Ok x) h.1) [
        | inl g ↦
            let i = then_ok (field all left IndexNotRising (index_at low left)) (after_index all levels) x g.1 in
            let index = index_takes low left i.0 t.2 (field_ok all left IndexNotRising (index_at low left) i.0 i.1) in
            let l = then_ok (node_at all levels (i.0.0 + 1) i.0.1) (after_left all levels i.0.0) x i.2 in
            let on_left = node_takes all levels (i.0.0 + 1) i.0.1 l.0 index.0.rest_fits l.1 in
            let r = then_ok (node_at all levels (i.0.0 + 1) l.0.1) (after_right i.0.0 l.0) x l.2 in
            let on_right = node_takes all levels (i.0.0 + 1) l.0.1 r.0 on_left.0.rest_fits r.1 in
            subst (λ n. NodeTakes low (n ∷ left) x) (sym (eqb-true tag.0.0 2 g.0)) (inner_takes left low i.0 l.0 r.0 x index on_left on_right (done_is (Inner i.0.0 l.0.0 r.0.0, r.0.1) x r.2))
        | inr g ↦ elim (chosen (eqb tag.0.0 3) (stub_at all left) _ (Ok x) g.1) [
          | inl f ↦ subst (λ n. NodeTakes low (n ∷ left) x) (sym (eqb-true tag.0.0 3 f.0)) (stub_takes all low left x t.2 f.1)
          | inr f ↦ absurd (fails_not (BadTag (place all bytes)) x f.1)
        ]
      ]
    ] in
    subst (λ b. NodeTakes low b x) (sym t.0) kinds

pub node_again : (all levels low : ℕ) (t : Tree) (rest : List ℕ) → low ≤ 2296 → 2297 ≤ levels + low → IsNodeFrom low t → node_at all levels low (node_field t ++ rest) ≡ Ok (t, rest)
unfolding node_at
node_again all zero low t rest small enough h = absurd (omega (arith, small, enough))
node_again all (suc levels) low Empty rest small enough h = absurd h
node_again all (suc levels) low (Leaf k v) rest small enough h = leaf_again all k v rest h.0 h.1
node_again all (suc levels) low (Stub root) rest small enough h = stub_again all root rest h
node_again all (suc levels) low (Inner i l r) rest small enough h =
    let index : index_at low (to_be_bytes w16 i ++ (node_field l ++ (node_field r ++ rest))) ≡ Ok (i, node_field l ++ (node_field r ++ rest)) =
    index_again low i (node_field l ++ (node_field r ++ rest)) h.0 h.1 in
    let spelled : to_be_bytes w16 i ++ node_field l ++ node_field r ++ rest ≡ to_be_bytes w16 i ++ (node_field l ++ (node_field r ++ rest)) =
    simp append_assoc in
    let on_left = node_again all levels (i + 1) l (node_field r ++ rest) (omega (arith, h.1)) (omega (arith, h.0, enough)) h.2 in
    let on_right = node_again all levels (i + 1) r rest (omega (arith, h.1)) (omega (arith, h.0, enough)) h.3 in
    ap (λ b. after_tag all levels low (2 ∷ b) (2, b)) spelled
    ∙ then_again (field all (to_be_bytes w16 i ++ (node_field l ++ (node_field r ++ rest))) IndexNotRising (index_at low (to_be_bytes w16 i ++ (node_field l ++ (node_field r ++ rest))))) (after_index all levels) (i, node_field l ++ (node_field r ++ rest)) (field_again all (to_be_bytes w16 i ++ (node_field l ++ (node_field r ++ rest))) IndexNotRising (index_at low (to_be_bytes w16 i ++ (node_field l ++ (node_field r ++ rest)))) (i, node_field l ++ (node_field r ++ rest)) index)
    ∙ then_again (node_at all levels (i + 1) (node_field l ++ (node_field r ++ rest))) (after_left all levels i) (l, node_field r ++ rest) on_left
    ∙ then_again (node_at all levels (i + 1) (node_field r ++ rest)) (after_right i (l, node_field r ++ rest)) (r, rest) on_right

-- ---- whole parts

pub tree_takes : (all : ℕ) (bytes : List ℕ) (x : Tree × List ℕ) → AreBytes bytes → tree_at all bytes ≡ Ok x → Takes bytes (node_field x.0) x.1 × IsPart x.0
unfolding tree_at
tree_takes all bytes x fits e =
    let tag = then_ok (field all bytes BadTag (byte_at bytes)) (λ tag. if tag.0 == 0 then Ok (Empty, tag.1) else node_at all 2297 0 bytes) x e in
    let t = byte_takes bytes tag.0 fits (field_ok all bytes BadTag (byte_at bytes) tag.0 tag.1) in
    elim (chosen (eqb tag.0.0 0) (Ok (Empty, tag.0.1)) (node_at all 2297 0 bytes) (Ok x) tag.2) [
      | inl h ↦ subst (λ (y : Tree × List ℕ). Takes bytes (node_field y.0) y.1 × IsPart y.0) (done_is (Empty, tag.0.1) x h.1)
          (record { parts = t.0 ∙ ap (λ n. n ∷ tag.0.1) (eqb-true tag.0.0 0 h.0); rest_fits = t.2 }, tt)
      | inr h ↦ let n = node_takes all 2297 0 bytes x fits h.1 in (n.0, is_part x.0 n.1)
    ]
  where
    is_part : (t : Tree) → IsNodeFrom 0 t → IsPart t
    is_part Empty h = absurd h
    is_part (Leaf k v) h = h
    is_part (Inner i l r) h = h
    is_part (Stub root) h = h

pub tree_again : (all : ℕ) (t : Tree) (rest : List ℕ) → IsPart t → tree_at all (node_field t ++ rest) ≡ Ok (t, rest)
unfolding tree_at
tree_again all Empty rest h = refl
tree_again all (Leaf k v) rest h = node_again all 2297 0 (Leaf k v) rest (omega arith) (omega arith) h
tree_again all (Inner i l r) rest h = node_again all 2297 0 (Inner i l r) rest (omega arith) (omega arith) h
tree_again all (Stub root) rest h = node_again all 2297 0 (Stub root) rest (omega arith) (omega arith) h

end_ok : (all : ℕ) (x : Tree × List ℕ) (t : Part) → at_end all x ≡ Ok t → (x.1 ≡ []) × (x.0 ≡ t)
end_ok all x t e = by (length x.1 == 0) refl e
  where
    by : (b : Bool) → (length x.1 == 0) ≡ b → cond b (Ok x.0) (Err (PartFault.Trailing (place all x.1))) ≡ Ok t → (x.1 ≡ []) × (x.0 ≡ t)
    by true same e = (nil_from_length x.1 (eqb-true (length x.1) 0 same), done_is x.0 t e)
    by false same e = absurd (fails_not (PartFault.Trailing (place all x.1)) t e)

read_ok : (r : Result Part PartFault) (t : Part) → if_read r ≡ Some t → r ≡ Ok t
read_ok (Ok x) t e = cc
read_ok (Err d) t e = absurd cc

pub part_takes : (bytes : List ℕ) (t : Part) → AreBytes bytes → read_part bytes ≡ Some t → IsPart t × (bytes ≡ part_text t)
unfolding read_part part_at
part_takes bytes t fits e =
    let all = length bytes in
    let a = then_ok (field all bytes BadTag (byte_at bytes >>= (λ form. if_allowed (form.0 == 1) form))) (λ form. tree_at all form.1 then at_end all) t (read_ok (part_at bytes) t e) in
    let f = bind_ok (byte_at bytes) (λ form. if_allowed (form.0 == 1) form) a.0 (field_ok all bytes BadTag (byte_at bytes >>= (λ form. if_allowed (form.0 == 1) form)) a.0 a.1) in
    let g = allowed_ok (eqb f.0.0 1) f.0 a.0 f.2 in
    let form = byte_takes bytes f.0 fits f.1 in
    let rest_is : f.0.1 ≡ a.0.1 = ap (λ (y : ℕ × List ℕ). y.1) g.1 in
    let b = then_ok (tree_at all a.0.1) (at_end all) t a.2 in
    let x = tree_takes all a.0.1 b.0 (subst AreBytes rest_is form.2) b.1 in
    let last = end_ok all b.0 t b.2 in
    let tail : a.0.1 ≡ node_field t = x.0.parts ∙ ap (λ l. node_field b.0.0 ++ l) last.0 ∙ append-nil (node_field b.0.0) ∙ ap node_field last.1 in
    (subst IsPart last.1 x.1, form.0 ∙ (λ i. eqb-true f.0.0 1 g.0 i ∷ rest_is i) ∙ ap (λ l. 1 ∷ l) tail)

pub part_again : (t : Part) → IsPart t → read_part (part_text t) ≡ Some t
unfolding read_part part_at
part_again t h =
    let all = length (part_text t) in
    let tree : tree_at all (node_field t) ≡ Ok (t, []) = ap (tree_at all) (sym (append-nil (node_field t))) ∙ tree_again all t [] h in
    ap if_read (then_again (tree_at all (node_field t)) (at_end all) (t, []) tree)

-- ---- the spelling is bytes

pub node_in_bytes : (low : ℕ) (t : Tree) → IsNodeFrom low t → PartHoldsBytes t → AreBytes (node_field t)
node_in_bytes low Empty h b = absurd h
node_in_bytes low (Leaf k v) h b =
    AreBytes-cons 1 (short_text k ++ short_text v) (omega arith)
    (AreBytes-append (short_text k) (short_text v) (AreBytes-cons (length k) k (omega (arith, h.0.1)) b.0) (AreBytes-cons (length v) v (omega (arith, h.1)) b.1))
node_in_bytes low (Inner i l r) h b =
    AreBytes-cons 2 (to_be_bytes w16 i ++ node_field l ++ node_field r) (omega arith)
    (AreBytes-append (to_be_bytes w16 i ++ node_field l) (node_field r) (AreBytes-append (to_be_bytes w16 i) (node_field l) (bytes-w16 i) (node_in_bytes (i + 1) l h.2 b.0)) (node_in_bytes (i + 1) r h.3 b.1))
node_in_bytes low (Stub root) h b = AreBytes-cons 3 root (omega arith) b

pub node_holds_bytes : (t : Tree) → AreBytes (node_field t) → PartHoldsBytes t
node_holds_bytes Empty h = tt
node_holds_bytes (Leaf k v) h =
    let rest = AreBytes-tail 1 (short_text k ++ short_text v) h in
    (AreBytes-tail (length k) k (AreBytes-first (short_text k) (short_text v) rest), AreBytes-tail (length v) v (AreBytes-second (short_text k) (short_text v) rest))
node_holds_bytes (Inner i l r) h =
    let rest = AreBytes-tail 2 (to_be_bytes w16 i ++ node_field l ++ node_field r) h in
    (node_holds_bytes l (AreBytes-second (to_be_bytes w16 i) (node_field l) (AreBytes-first (to_be_bytes w16 i ++ node_field l) (node_field r) rest)), node_holds_bytes r (AreBytes-second (to_be_bytes w16 i ++ node_field l) (node_field r) rest))
node_holds_bytes (Stub root) h = AreBytes-tail 3 root h

part_in_bytes : (t : Part) → IsPart t → PartHoldsBytes t → AreBytes (part_text t)
part_in_bytes Empty h b = AreBytes-cons 1 (0 ∷ []) (omega arith) (AreBytes-cons 0 [] (omega arith) AreBytes-nil)
part_in_bytes (Leaf k v) h b = AreBytes-cons 1 (node_field (Leaf k v)) (omega arith) (node_in_bytes 0 (Leaf k v) h b)
part_in_bytes (Inner i l r) h b = AreBytes-cons 1 (node_field (Inner i l r)) (omega arith) (node_in_bytes 0 (Inner i l r) h b)
part_in_bytes (Stub root) h b = AreBytes-cons 1 (node_field (Stub root)) (omega arith) (node_in_bytes 0 (Stub root) h b)

some_is : {A : Type 0} (x y : A) → Some x ≡ Some y → x ≡ y
some_is x y e = cc

pub parts_are_spelled : PartsAreSpelled
parts_are_spelled = record {
  found = part_takes;
  again = part_again;
  once = λ t u f g e. some_is t u (sym (part_again t f) ∙ ap read_part e ∙ part_again u g);
  in_bytes = λ t h. (λ b. node_holds_bytes t (AreBytes-tail 1 (node_field t) b), part_in_bytes t h);
}
