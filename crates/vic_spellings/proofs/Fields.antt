-- Numbers, digests and short texts: what is read is what was spelled, and what is spelled is read again.
use Rattle.std.proofs.Common.{◌≡◌, ℕ, ◌^◌, ◌<◌, ◌≤◌, false, ltb, leb, ◌&&◌, List, [], ◌∷◌, ◌++◌, length, take, drop, Ok, refl, sym, ap, subst, ◌∙◌, arith}
use Rattle.std.specs.Int.{Width, w16, w32, byte_len, from_be_bytes, to_be_bytes}
use Rattle.std.proofs.lemmas.Bool.{ltb-true, ltb-false, le-ltb, leb-true, le-leb, and_parts}
use Rattle.std.proofs.lemmas.List.{take_at, drop_at, take-append-drop, length-append, length-take}
use Rattle.std.proofs.lemmas.Nat.{be_bytes_2, be_bytes_4, from_be_bytes-to_be_bytes_2, from_be_bytes-to_be_bytes_4}
use Rattle.vic_dict.specs.Lists.{AreBytes}
use Rattle.vic_dict.proofs.ByteLists.{AreBytes-tail, AreBytes-drop, AreBytes-take}
use Rattle.vic_wire.specs.declared.message.Digest32.{Digest32}
use Rattle.vic_wire.specs.Texts.{short_text}
use Rattle.vic_wire.specs.Messages.{IsDigest, IsNumber}
use Rattle.vic_wire.specs.Reading.{Short, ◌>>=◌, byte_at, bytes_at, number_at, if_allowed, digest_at, short_at}
use Rattle.vic_spellings.proofs.Steps.{bind_ok, guard_ok, allowed_ok, ok_is, Takes}

-- ---- a byte

pub byte_takes : (bytes : List ℕ) (x : ℕ × List ℕ) → AreBytes bytes → byte_at bytes ≡ Ok x → (bytes ≡ x.0 ∷ x.1) × (x.0 < 256) × AreBytes x.1
byte_takes [] x fits e = absurd cc
byte_takes (b ∷ bytes) x fits e = subst (λ (y : ℕ × List ℕ). (b ∷ bytes ≡ y.0 ∷ y.1) × (y.0 < 256) × AreBytes y.1) (ok_is (b, bytes) x e) (refl, fits 0, AreBytes-tail b bytes fits)

-- ---- so many bytes

pub bytes_takes : (n : ℕ) (bytes : List ℕ) (x : List ℕ × List ℕ) → AreBytes bytes → bytes_at n bytes ≡ Ok x → Takes bytes x.0 x.1 × (length x.0 ≡ n) × AreBytes x.0
bytes_takes n bytes x fits e =
    let g = guard_ok (ltb (length bytes) n) Short (take n bytes, drop n bytes) x e in
    let long : n ≤ length bytes = ltb-false _ _ g.0 in
    let len : length (take n bytes) ≡ n = omega (arith, length-take n bytes) in
    subst (λ (y : List ℕ × List ℕ). Takes bytes y.0 y.1 × (length y.0 ≡ n) × AreBytes y.0) g.1
    (record { parts = sym (take-append-drop n bytes); rest_fits = AreBytes-drop n bytes fits }, len, AreBytes-take n bytes fits)

pub bytes_again : (n : ℕ) (text rest : List ℕ) → length text ≡ n → bytes_at n (text ++ rest) ≡ Ok (text, rest)
bytes_again n text rest len =
    let long : ltb (length (text ++ rest)) n ≡ false = le-ltb _ _ (omega (arith, length-append text rest)) in
    rw (long, take_at text rest n len, drop_at text rest n len) refl

-- ---- numbers

pub record IsWide (w : Width) (limit : ℕ) : Type 0 where
  pub len : (n : ℕ) → length (to_be_bytes w n) ≡ byte_len w
  pub back : (bytes : List ℕ) → length bytes ≡ byte_len w → AreBytes bytes → to_be_bytes w (from_be_bytes w bytes) ≡ bytes
  pub again : (n : ℕ) → n < limit → from_be_bytes w (to_be_bytes w n) ≡ n
  pub below : (bytes : List ℕ) → AreBytes bytes → from_be_bytes w bytes < limit

pub wide16 : IsWide w16 (2 ^ 16)
wide16 = record {
  len = λ n. refl;
  back = λ bytes len fits. be_bytes_2 bytes _ len fits refl;
  again = λ n lt. from_be_bytes-to_be_bytes_2 n lt;
  below = λ bytes fits. omega (arith, fits 0, fits 1);
}

pub wide32 : IsWide w32 (2 ^ 32)
wide32 = record {
  len = λ n. refl;
  back = λ bytes len fits. be_bytes_4 bytes _ len fits refl;
  again = λ n lt. from_be_bytes-to_be_bytes_4 n lt;
  below = λ bytes fits. omega (arith, fits 0, fits 1, fits 2, fits 3);
}

pub number_takes : (w : Width) (limit : ℕ) (wide : IsWide w limit) (bytes : List ℕ) (x : ℕ × List ℕ) → AreBytes bytes → number_at w bytes ≡ Ok x → Takes bytes (to_be_bytes w x.0) x.1 × (x.0 < limit)
number_takes w limit wide bytes x fits e =
    let g = guard_ok (ltb (length bytes) (byte_len w)) Short (from_be_bytes w (take (byte_len w) bytes), drop (byte_len w) bytes) x e in
    let long : byte_len w ≤ length bytes = ltb-false _ _ g.0 in
    let n-is : from_be_bytes w (take (byte_len w) bytes) ≡ x.0 = ap (λ (p : ℕ × List ℕ). p.0) g.1 in
    let rest-is : drop (byte_len w) bytes ≡ x.1 = ap (λ (p : ℕ × List ℕ). p.1) g.1 in
    let front : to_be_bytes w x.0 ≡ take (byte_len w) bytes = rw (← n-is) (wide.back (take (byte_len w) bytes) (omega (arith, length-take (byte_len w) bytes)) (AreBytes-take (byte_len w) bytes fits)) in
    (record { parts = rw (front, ← rest-is) (sym (take-append-drop (byte_len w) bytes)); rest_fits = rw (← rest-is) (AreBytes-drop (byte_len w) bytes fits) }, rw (← n-is) (wide.below (take (byte_len w) bytes) (AreBytes-take (byte_len w) bytes fits)))

pub number_again : (w : Width) (limit : ℕ) (wide : IsWide w limit) (n : ℕ) (rest : List ℕ) → n < limit → number_at w (to_be_bytes w n ++ rest) ≡ Ok (n, rest)
number_again w limit wide n rest lt =
    let len = wide.len n in
    let long : ltb (length (to_be_bytes w n ++ rest)) (byte_len w) ≡ false = le-ltb _ _ (omega (arith, length-append (to_be_bytes w n) rest)) in
    rw (long, take_at (to_be_bytes w n) rest (byte_len w) len, drop_at (to_be_bytes w n) rest (byte_len w) len, wide.again n lt) refl

pub w16_takes : (bytes : List ℕ) (x : ℕ × List ℕ) → AreBytes bytes → number_at w16 bytes ≡ Ok x → Takes bytes (to_be_bytes w16 x.0) x.1 × (x.0 < 2 ^ 16)
w16_takes bytes x fits e = number_takes w16 (2 ^ 16) wide16 bytes x fits e

pub w16_again : (n : ℕ) (rest : List ℕ) → n < 2 ^ 16 → number_at w16 (to_be_bytes w16 n ++ rest) ≡ Ok (n, rest)
w16_again n rest lt = number_again w16 (2 ^ 16) wide16 n rest lt

pub w32_takes : (bytes : List ℕ) (x : ℕ × List ℕ) → AreBytes bytes → number_at w32 bytes ≡ Ok x → Takes bytes (to_be_bytes w32 x.0) x.1 × (x.0 < 2 ^ 32)
w32_takes bytes x fits e = number_takes w32 (2 ^ 32) wide32 bytes x fits e

pub w32_again : (n : ℕ) (rest : List ℕ) → n < 2 ^ 32 → number_at w32 (to_be_bytes w32 n ++ rest) ≡ Ok (n, rest)
w32_again n rest lt = number_again w32 (2 ^ 32) wide32 n rest lt

-- a number that isn't 0
pub positive_takes : (bytes : List ℕ) (x y : ℕ × List ℕ) → AreBytes bytes → number_at w32 bytes ≡ Ok x → if_allowed (ltb 0 x.0) x ≡ Ok y → Takes bytes (to_be_bytes w32 y.0) y.1 × IsNumber y.0
positive_takes bytes x y fits e f =
    let a = allowed_ok (ltb 0 x.0) x y f in
    let t = w32_takes bytes x fits e in
    subst (λ (z : ℕ × List ℕ). Takes bytes (to_be_bytes w32 z.0) z.1 × IsNumber z.0) a.1 (t.0, (ltb-true 0 x.0 a.0, t.1))

-- a byte from 1 up to a bound
pub within_takes : (most : ℕ) (bytes : List ℕ) (x y : ℕ × List ℕ) → AreBytes bytes → byte_at bytes ≡ Ok x → if_allowed (ltb 0 x.0 && leb x.0 most) x ≡ Ok y
    → (bytes ≡ y.0 ∷ y.1) × ((0 < y.0) × (y.0 ≤ most)) × AreBytes y.1
within_takes most bytes x y fits e f =
    let a = allowed_ok (ltb 0 x.0 && leb x.0 most) x y f in
    let tests = and_parts (ltb 0 x.0) (leb x.0 most) a.0 in
    let t = byte_takes bytes x fits e in
    subst (λ (z : ℕ × List ℕ). (bytes ≡ z.0 ∷ z.1) × ((0 < z.0) × (z.0 ≤ most)) × AreBytes z.1) a.1 (t.0, (ltb-true 0 x.0 tests.0, leb-true x.0 most tests.1), t.2)

-- ---- digests

pub digest_takes : (bytes : List ℕ) (x : Digest32 × List ℕ) → AreBytes bytes → digest_at bytes ≡ Ok x → Takes bytes x.0.bytes x.1 × IsDigest x.0 × AreBytes x.0.bytes
unfolding digest_at
digest_takes bytes x fits e =
    let a = bind_ok (bytes_at 32 bytes) (λ d. Ok (record { bytes = d.0 }, d.1)) x e in
    let t = bytes_takes 32 bytes a.0 fits a.1 in
    let made : Digest32 × List ℕ = (record { bytes = a.0.0 }, a.0.1) in
    subst (λ (y : Digest32 × List ℕ). Takes bytes y.0.bytes y.1 × IsDigest y.0 × AreBytes y.0.bytes) (ok_is made x a.2) t

pub digest_again : (d : Digest32) (rest : List ℕ) → IsDigest d → digest_at (d.bytes ++ rest) ≡ Ok (d, rest)
unfolding digest_at
digest_again d rest fits = rw (bytes_again 32 d.bytes rest fits) refl

-- ---- short texts: a length byte, and that many bytes

pub short_takes : (least most : ℕ) (bytes : List ℕ) (x : List ℕ × List ℕ) → AreBytes bytes → short_at least most bytes ≡ Ok x
    → Takes bytes (short_text x.0) x.1 × ((least ≤ length x.0) × (length x.0 ≤ most)) × AreBytes x.0
unfolding short_at
short_takes least most bytes x fits e =
    let a = bind_ok (byte_at bytes) (λ n. if_allowed (leb least n.0 && leb n.0 most) n >>= λ fit. bytes_at n.0 n.1) x e in
    let b = bind_ok (if_allowed (leb least a.0.0 && leb a.0.0 most) a.0) (λ fit. bytes_at a.0.0 a.0.1) x a.2 in
    let g = and_parts (leb least a.0.0) (leb a.0.0 most) (allowed_ok (leb least a.0.0 && leb a.0.0 most) a.0 b.0 b.1).0 in
    let first = byte_takes bytes a.0 fits a.1 in
    let second = bytes_takes a.0.0 a.0.1 x first.2 b.2 in
    let whole : bytes ≡ short_text x.0 ++ x.1 = first.0 ∙ ap (λ (t : List ℕ). a.0.0 ∷ t) second.0.parts ∙ ap (λ (n : ℕ). n ∷ (x.0 ++ x.1)) (sym second.1) in
    (record { parts = whole; rest_fits = second.0.rest_fits }, (omega (arith, second.1, leb-true least a.0.0 g.0), omega (arith, second.1, leb-true a.0.0 most g.1)), second.2)

pub short_again : (least most : ℕ) (text rest : List ℕ) → least ≤ length text → length text ≤ most → short_at least most (short_text text ++ rest) ≡ Ok (text, rest)
unfolding short_at
short_again least most text rest low high =
    rw (le-leb _ _ low, le-leb _ _ high, bytes_again (length text) text rest refl) refl
