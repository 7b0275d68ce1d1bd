-- What bytes are in front of which a frame, a broken length or neither stands.
use Rattle.std.proofs.Common.{◌≡◌, ℕ, ◌<◌, ◌≤◌, ◌⊎◌, zero, suc, Bool, true, false, ltb, leb, ◌&&◌, get_or, List, [], ◌∷◌, ◌++◌, length, take, drop, refl, sym, ap, ◌∙◌, inl, inr, arith}
use Rattle.std.specs.Int.{w32, to_be_bytes}
use Rattle.std.proofs.lemmas.Bool.{and_parts, ltb-true, ltb-false, leb-true, leb-false}
use Rattle.std.proofs.lemmas.List.{take-append-drop, length-drop, length-take-le}
use Rattle.std.proofs.lemmas.Nat.{be_bytes_4}
use Rattle.vic_dict.specs.Lists.{AreBytes}
use Rattle.vic_conn.specs.Frames.{Waits, Whole, Broken, is_length, front_of, frame_text}
use Rattle.vic_conn.specs.FrameLaws.{EndInside, FrontsAre}
use Rattle.vic_conn.proofs.Fronts.{size_of, decided, front_tested, HasWhole, whole_told, broken_told}

-- ---- the length field

bytes_first : (n : ℕ) (bytes : List ℕ) → AreBytes bytes → (i : ℕ) → get_or (take n bytes) i 0 < 256
bytes_first zero bytes fits i = omega arith
bytes_first (suc n) [] fits i = omega arith
bytes_first (suc n) (b ∷ bytes) fits zero = fits 0
bytes_first (suc n) (b ∷ bytes) fits (suc i) = bytes_first n bytes (λ j. fits (suc j)) i

field_text : (bytes : List ℕ) → AreBytes bytes → 4 ≤ length bytes → to_be_bytes w32 (size_of bytes) ≡ take 4 bytes
field_text bytes fits enough = be_bytes_4 (take 4 bytes) (size_of bytes) (length-take-le 4 bytes enough) (bytes_first 4 bytes fits) refl

-- bytes are their length field and the others
field_first : (bytes : List ℕ) → AreBytes bytes → 4 ≤ length bytes → bytes ≡ to_be_bytes w32 (size_of bytes) ++ drop 4 bytes
field_first bytes fits enough = sym (take-append-drop 4 bytes) ∙ ap (λ f. f ++ drop 4 bytes) (sym (field_text bytes fits enough))

allowed_length : (n : ℕ) → is_length n ≡ true → (0 < n) × (n ≤ 16777216)
allowed_length n e = let both = and_parts (ltb 0 n) (leb n 16777216) e in (ltb-true 0 n both.0, leb-true n 16777216 both.1)

refused_by : (n : ℕ) (b c : Bool) → ltb 0 n ≡ b → leb n 16777216 ≡ c → (b && c) ≡ false → (n ≡ 0) ⊎ (16777216 < n)
refused_by n false c eb ec e = let low : n ≤ 0 = ltb-false 0 n eb in inl (omega arith)
refused_by n true false eb ec e = inr (leb-false n 16777216 ec)
refused_by n true true eb ec e = absurd cc

-- ---- a whole frame

same_size : (bytes p behind : List ℕ) → HasWhole bytes p behind → size_of bytes ≡ length p
same_size bytes p behind h = sym (length-take-le (size_of bytes) (drop 4 bytes) h.there) ∙ ap length h.payload

whole_text : (bytes p behind : List ℕ) → AreBytes bytes → front_of bytes ≡ Whole p behind → bytes ≡ frame_text p ++ behind
whole_text bytes p behind fits e =
    let h = whole_told bytes p behind e in
    let size = size_of bytes in
    let rest = drop 4 bytes in
    let cut : rest ≡ p ++ behind = rw (← h.payload, ← h.rest) (sym (take-append-drop size rest)) in
    field_first bytes fits h.enough ∙ ap (λ n. to_be_bytes w32 n ++ rest) (same_size bytes p behind h) ∙ ap (λ r. to_be_bytes w32 (length p) ++ r) cut

whole_some : (bytes p behind : List ℕ) → front_of bytes ≡ Whole p behind → 0 < length p
whole_some bytes p behind e =
    let h = whole_told bytes p behind e in
    omega (arith, (allowed_length (size_of bytes) h.allowed).0, same_size bytes p behind h)

whole_most : (bytes p behind : List ℕ) → front_of bytes ≡ Whole p behind → length p ≤ 16777216
whole_most bytes p behind e =
    let h = whole_told bytes p behind e in
    omega (arith, (allowed_length (size_of bytes) h.allowed).1, same_size bytes p behind h)

-- ---- a broken length

broken_text : (bytes : List ℕ) (n : ℕ) → AreBytes bytes → front_of bytes ≡ Broken n → bytes ≡ to_be_bytes w32 n ++ drop 4 bytes
broken_text bytes n fits e =
    let h = broken_told bytes n e in
    field_first bytes fits h.enough ∙ ap (λ m. to_be_bytes w32 m ++ drop 4 bytes) h.size

broken_wrong : (bytes : List ℕ) (n : ℕ) → front_of bytes ≡ Broken n → (n ≡ 0) ⊎ (16777216 < n)
broken_wrong bytes n e =
    let h = broken_told bytes n e in
    refused_by n (ltb 0 n) (leb n 16777216) refl refl (ap is_length (sym h.size) ∙ h.refused)

-- ---- neither

waits_parts : (b c d : Bool) (p q : List ℕ) (n : ℕ) → decided b c d p q n ≡ Waits → (b ≡ true) ⊎ ((b ≡ false) × (c ≡ true) × (d ≡ true))
waits_parts true c d p q n e = inl refl
waits_parts false true true p q n e = inr (refl, refl, refl)
waits_parts false true false p q n e = absurd cc
waits_parts false false d p q n e = absurd cc

ends_inside : (bytes : List ℕ) → AreBytes bytes → 4 ≤ length bytes → is_length (size_of bytes) ≡ true → length (drop 4 bytes) < size_of bytes → EndInside bytes
ends_inside bytes fits enough allowed short =
    let bounds = allowed_length (size_of bytes) allowed in
    record {
      size = size_of bytes;
      begun = drop 4 bytes;
      text = field_first bytes fits enough;
      some = bounds.0;
      most = bounds.1;
      short = short;
    }

waits_where : (bytes : List ℕ) → AreBytes bytes → front_of bytes ≡ Waits → (length bytes < 4) ⊎ EndInside bytes
waits_where bytes fits e =
    let size = size_of bytes in
    let rest = drop 4 bytes in
    elim (waits_parts (ltb (length bytes) 4) (is_length size) (ltb (length rest) size) (take size rest) (drop size rest) size (sym (front_tested bytes) ∙ e)) [
      | inl missing ↦ inl (ltb-true _ _ missing)
      | inr w ↦ inr (ends_inside bytes fits (ltb-false _ _ w.0) w.1 (ltb-true _ _ w.2))
    ]

waits_short : (bytes : List ℕ) → front_of bytes ≡ Waits → length bytes < 16777220
waits_short bytes e =
    let size = size_of bytes in
    let rest = drop 4 bytes in
    elim (waits_parts (ltb (length bytes) 4) (is_length size) (ltb (length rest) size) (take size rest) (drop size rest) size (sym (front_tested bytes) ∙ e)) [
      | inl missing ↦ (let few = ltb-true (length bytes) 4 missing in omega (arith, few))
      | inr w ↦ (let most = (allowed_length size w.1).1 in let less = ltb-true (length rest) size w.2 in omega (arith, most, less, length-drop 4 bytes))
    ]

pub fronts_are : FrontsAre
fronts_are = record {
  whole = whole_text;
  some = whole_some;
  most = whole_most;
  broken = broken_text;
  wrong = broken_wrong;
  waits = waits_where;
  short = waits_short;
}
