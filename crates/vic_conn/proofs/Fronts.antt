-- How a stream goes on, by its length field and by how many bytes there are.
use Rattle.std.proofs.Common.{◌≡◌, ℕ, ◌+◌, ◌<◌, ◌≤◌, Bool, true, false, ltb, leb, ◌&&◌, List, length, take, drop, Ok, Err, if◌then◌else◌, refl, sym, ◌∙◌, ap, arith}
use Rattle.std.specs.Int.{w32, from_be_bytes}
use Rattle.std.proofs.lemmas.Bool.{ltb-false, le-ltb, lt-ltb, le-leb, lt-leb}
use Rattle.std.proofs.lemmas.List.{drop-drop, length-drop, length-take-le}
use Rattle.vic_wire.specs.Reading.{Read, FieldFault, Short, number_at, bytes_at}
use Rattle.vic_conn.specs.Frames.{Goes, Waits, Whole, Broken, is_length, on_payload, on_length, front_of}

-- the number that the first four bytes are
abbrev pub size_of : List ℕ → ℕ
size_of bytes = from_be_bytes w32 (take 4 bytes)

-- how it goes on by three tests: the length isn't whole, it is allowed, the payload isn't whole
abbrev pub decided : Bool → Bool → Bool → List ℕ → List ℕ → ℕ → Goes
decided true c d p q n = Waits
decided false true true p q n = Waits
decided false true false p q n = Whole p q
decided false false d p q n = Broken n

size_decided : (c d : Bool) (p q : List ℕ) (n : ℕ) → (if c then on_payload (if d then Err Short else Ok (p, q)) else Broken n) ≡ decided false c d p q n
size_decided true true p q n = refl
size_decided true false p q n = refl
size_decided false d p q n = refl

field_decided : (b : Bool) (n : ℕ) (rest : List ℕ) → on_length (if b then Err Short else Ok (n, rest)) ≡ decided b (is_length n) (ltb (length rest) n) (take n rest) (drop n rest) n
field_decided true n rest = refl
field_decided false n rest = size_decided (is_length n) (ltb (length rest) n) (take n rest) (drop n rest) n

-- how bytes go on, by the tests
abbrev pub tested : List ℕ → Goes
tested bytes = decided (ltb (length bytes) 4) (is_length (size_of bytes)) (ltb (length (drop 4 bytes)) (size_of bytes)) (take (size_of bytes) (drop 4 bytes)) (drop (size_of bytes) (drop 4 bytes)) (size_of bytes)

pub front_tested : (bytes : List ℕ) → front_of bytes ≡ tested bytes
unfolding front_of
front_tested bytes = field_decided (ltb (length bytes) 4) (size_of bytes) (drop 4 bytes)

-- ---- a whole frame

pub record HasWhole (bytes p behind : List ℕ) : Type 0 where
  pub enough : 4 ≤ length bytes
  pub allowed : is_length (size_of bytes) ≡ true
  pub there : size_of bytes ≤ length (drop 4 bytes)
  pub payload : take (size_of bytes) (drop 4 bytes) ≡ p
  pub rest : drop (size_of bytes) (drop 4 bytes) ≡ behind

whole_parts : (b c d : Bool) (p q x y : List ℕ) (n : ℕ) → decided b c d p q n ≡ Whole x y → (b ≡ false) × (c ≡ true) × (d ≡ false) × (p ≡ x) × (q ≡ y)
whole_parts true c d p q x y n e = absurd cc
whole_parts false true true p q x y n e = absurd cc
whole_parts false true false p q x y n e = (refl, refl, refl, cc, cc)
whole_parts false false d p q x y n e = absurd cc

whole_made : (b c d : Bool) (p q : List ℕ) (n : ℕ) → b ≡ false → c ≡ true → d ≡ false → decided b c d p q n ≡ Whole p q
whole_made true c d p q n eb ec ed = absurd cc
whole_made false true true p q n eb ec ed = absurd cc
whole_made false true false p q n eb ec ed = refl
whole_made false false d p q n eb ec ed = absurd cc

pub whole_told : (bytes p behind : List ℕ) → front_of bytes ≡ Whole p behind → HasWhole bytes p behind
whole_told bytes p behind e =
    let size = size_of bytes in
    let w = whole_parts (ltb (length bytes) 4) (is_length size) (ltb (length (drop 4 bytes)) size) (take size (drop 4 bytes)) (drop size (drop 4 bytes)) p behind size (sym (front_tested bytes) ∙ e) in
    record {
      enough = ltb-false _ _ w.0;
      allowed = w.1;
      there = ltb-false _ _ w.2;
      payload = w.3;
      rest = w.4;
    }

pub whole_is : (bytes p behind : List ℕ) → HasWhole bytes p behind → front_of bytes ≡ Whole p behind
whole_is bytes p behind h =
    let size = size_of bytes in
    let w = whole_made (ltb (length bytes) 4) (is_length size) (ltb (length (drop 4 bytes)) size) (take size (drop 4 bytes)) (drop size (drop 4 bytes)) size (le-ltb _ _ h.enough) h.allowed (le-ltb _ _ h.there) in
    let f = front_tested bytes in
    cc (f, w, h.payload, h.rest)

-- ---- a length that no frame has

pub record HasBroken (bytes : List ℕ) (n : ℕ) : Type 0 where
  pub enough : 4 ≤ length bytes
  pub refused : is_length (size_of bytes) ≡ false
  pub size : size_of bytes ≡ n

broken_parts : (b c d : Bool) (p q : List ℕ) (n m : ℕ) → decided b c d p q n ≡ Broken m → (b ≡ false) × (c ≡ false) × (n ≡ m)
broken_parts true c d p q n m e = absurd cc
broken_parts false true true p q n m e = absurd cc
broken_parts false true false p q n m e = absurd cc
broken_parts false false d p q n m e = (refl, refl, cc)

broken_made : (b c d : Bool) (p q : List ℕ) (n : ℕ) → b ≡ false → c ≡ false → decided b c d p q n ≡ Broken n
broken_made true c d p q n eb ec = absurd cc
broken_made false true d p q n eb ec = absurd cc
broken_made false false d p q n eb ec = refl

pub broken_told : (bytes : List ℕ) (n : ℕ) → front_of bytes ≡ Broken n → HasBroken bytes n
broken_told bytes n e =
    let size = size_of bytes in
    let w = broken_parts (ltb (length bytes) 4) (is_length size) (ltb (length (drop 4 bytes)) size) (take size (drop 4 bytes)) (drop size (drop 4 bytes)) size n (sym (front_tested bytes) ∙ e) in
    record {
      enough = ltb-false _ _ w.0;
      refused = w.1;
      size = w.2;
    }

pub broken_is : (bytes : List ℕ) (n : ℕ) → HasBroken bytes n → front_of bytes ≡ Broken n
broken_is bytes n h =
    let size = size_of bytes in
    let w = broken_made (ltb (length bytes) 4) (is_length size) (ltb (length (drop 4 bytes)) size) (take size (drop 4 bytes)) (drop size (drop 4 bytes)) size (le-ltb _ _ h.enough) h.refused in
    front_tested bytes ∙ w ∙ ap Broken h.size

-- ---- which lengths are allowed

pub zero_refused : (n : ℕ) → n ≡ 0 → is_length n ≡ false
zero_refused n e = rw e refl

pub long_refused : (n : ℕ) → 16777216 < n → is_length n ≡ false
long_refused n h = elim (ltb 0 n) as (λ b. (b && leb n 16777216) ≡ false) [ true ↦ lt-leb _ _ h | false ↦ refl ]

pub length_allowed : (n : ℕ) → 0 < n → n ≤ 16777216 → is_length n ≡ true
length_allowed n h g = rw (lt-ltb 0 n h, le-leb n 16777216 g) refl

-- ---- what a reader of fields learns

pub no_length : (bytes : List ℕ) (f : FieldFault) → number_at w32 bytes ≡ Err f → front_of bytes ≡ Waits
unfolding front_of
no_length bytes f e = ap on_length e

bad_size : (c : Bool) (r : Read (List ℕ)) (n : ℕ) → c ≡ false → (if c then on_payload r else Broken n) ≡ Broken n
bad_size true r n e = absurd cc
bad_size false r n e = refl

pub bad_length : (bytes rest : List ℕ) (n : ℕ) → number_at w32 bytes ≡ Ok (n, rest) → is_length n ≡ false → front_of bytes ≡ Broken n
unfolding front_of
bad_length bytes rest n e h = ap on_length e ∙ bad_size (is_length n) (bytes_at n rest) n h

on_size : (c : Bool) (r : Read (List ℕ)) (n : ℕ) → c ≡ true → (if c then on_payload r else Broken n) ≡ on_payload r
on_size true r n e = refl
on_size false r n e = absurd cc

pub good_length : (bytes rest : List ℕ) (n : ℕ) → number_at w32 bytes ≡ Ok (n, rest) → is_length n ≡ true → front_of bytes ≡ on_payload (bytes_at n rest)
unfolding front_of
good_length bytes rest n e h = ap on_length e ∙ on_size (is_length n) (bytes_at n rest) n h

-- ---- what stands behind a frame

pub whole_behind : (bytes p behind : List ℕ) → HasWhole bytes p behind → behind ≡ drop (4 + length p) bytes
whole_behind bytes p behind h =
    let size = size_of bytes in
    let same : length p ≡ size = ap length (sym h.payload) ∙ length-take-le size (drop 4 bytes) h.there in
    sym h.rest ∙ drop-drop size 4 bytes ∙ ap (λ n. drop (4 + n) bytes) (sym same)

pub whole_fits : (bytes p behind : List ℕ) → HasWhole bytes p behind → 4 + length p ≤ length bytes
whole_fits bytes p behind h =
    let size = size_of bytes in
    let same : length p ≡ size = ap length (sym h.payload) ∙ length-take-le size (drop 4 bytes) h.there in
    let enough = h.enough in
    let there = h.there in
    omega (arith, length-drop 4 bytes)
