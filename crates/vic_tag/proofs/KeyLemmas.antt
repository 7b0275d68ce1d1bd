-- Masked keys by index, and what decoding a key shows of its length.
use Rattle.std.proofs.Common.{◌≡◌, ℕ, ◌+◌, ◌-◌, ◌*◌, ◌<◌, ◌≤◌, ◌%◌, true, List, [], ◌∷◌, ◌++◌, length, get_or, replicate, Result, Ok, Err, chars, refl, sym, ap, ◌∙◌, arith, length-append, bit_xor, inl, inr, get_or-set_other, get_or-set_same, below_more, ◌≢◌, ◌⊎◌}
use Rattle.std.specs.Str.{IsAscii}
use Rattle.std.specs.List.{AllPass}
use Rattle.std.specs.Int.Bits.{xor_zero_r}
use Rattle.std.proofs.lemmas.Bool.{cases_lt}
use Rattle.std.proofs.lemmas.Grind.{same_number_lists}
use Rattle.std.proofs.lemmas.List.{get_or-map, get_or-replicate, get_or_append_left, get_or-append_right, length-replicate, length-map}
use Rattle.std.proofs.Math.ListN.{set}
use Rattle.std.proofs.lemmas.List.Elements.{All-head, All-tail}
use Rattle.std.proofs.lemmas.Str.{chars-IsAscii}
use Rattle.std.proofs.lemmas.Str.Ascii.{IsAscii-nil, IsAscii-cons}
use Rattle.hex.specs.declared.error.FromHexError.{FromHexError}
use Rattle.hex.specs.Hex.{decode_of, is_hex_digit}
use Rattle.hex.proofs.HexLemmas.{decode_pairs-ok, decode_of-even, decode_of-odd}
use Rattle.vic_wire.specs.Hashes.{masked_key}

-- the key with its zeros
abbrev filled : List ℕ → List ℕ
filled key = key ++ replicate (64 - length key) 0

length-filled : (key : List ℕ) → length key ≤ 64 → length (filled key) ≡ 64
length-filled key h =
    let zeros = length-replicate {A = ℕ} (64 - length key) 0 in
    omega (arith, length-append key (replicate (64 - length key) 0), zeros)

filled_below : (key : List ℕ) (k : ℕ) → k < length key → get_or (filled key) k 0 ≡ get_or key k 0
filled_below key k lt = get_or_append_left key (replicate (64 - length key) 0) 0 k lt

filled_above : (key : List ℕ) (k : ℕ) → length key ≤ k → k < 64 → get_or (filled key) k 0 ≡ 0
filled_above key k le lt =
    get_or-append_right key (replicate (64 - length key) 0) (length key) k 0 refl le
    ∙ get_or-replicate {A = ℕ} (64 - length key) (k - length key) 0 0 (omega arith)

-- a block that has the key's bytes joined with the mask, and then the mask, is the masked key
pub masked_from : (mask : ℕ) (key block : List ℕ) → length block ≡ 64 → length key ≤ 64
    → ((k : ℕ) → k < length key → get_or block k 0 ≡ bit_xor mask (get_or key k 0))
    → ((k : ℕ) → length key ≤ k → k < 64 → get_or block k 0 ≡ mask)
    → block ≡ masked_key mask key
masked_from mask key block whole short below above =
    let len = length-filled key short in
    let mapped = length-map (filled key) (bit_xor mask) in
    same_number_lists block (masked_key mask key) (whole ∙ sym len ∙ sym mapped) (λ k lt.
    let at = get_or-map (bit_xor mask) (filled key) k 0 0 (omega (arith, len, whole)) in
    elim (cases_lt k (length key)) [
      | inl inside ↦ below k inside ∙ ap (bit_xor mask) (sym (filled_below key k inside)) ∙ sym at
      | inr outside ↦
          let end : k < 64 = omega (arith, whole) in
          above k outside end ∙ sym (xor_zero_r mask) ∙ ap (bit_xor mask) (sym (filled_above key k outside end)) ∙ sym at
    ])

-- the same of a key under another name
pub masked_from_same : (mask : ℕ) (used key block : List ℕ) → used ≡ key → length block ≡ 64 → length key ≤ 64
    → ((k : ℕ) → k < length used → get_or block k 0 ≡ bit_xor mask (get_or used k 0))
    → ((k : ℕ) → length used ≤ k → k < 64 → get_or block k 0 ≡ mask)
    → block ≡ masked_key mask key
masked_from_same mask used key block same whole short below above =
    masked_from mask used block whole (omega (arith, ap length same)) below above ∙ ap (masked_key mask) same

-- one more byte is joined
pub join_more : (f : ℕ → ℕ) (block key : List ℕ) (i : ℕ) → i < length block
    → ((k : ℕ) → k < i → get_or block k 0 ≡ f (get_or key k 0))
    → (k : ℕ) → k < i + 1 → get_or (set block i (f (get_or key i 0))) k 0 ≡ f (get_or key k 0)
join_more f block key i lt before = below_more _ _
    (λ k h. let apart : k ≢ i = omega arith in rw get_or-set_other (before k h))
    (rw get_or-set_same)

-- what stands behind it stays
pub behind_stays : (block : List ℕ) (i v mask : ℕ)
    → ((k : ℕ) → i ≤ k → k < 64 → get_or block k 0 ≡ mask)
    → (k : ℕ) → i + 1 ≤ k → k < 64 → get_or (set block i v) k 0 ≡ mask
behind_stays block i v mask before k le lt =
    let apart : k ≢ i = omega arith in rw get_or-set_other (before k (omega arith) lt)

digit_is_ascii : (c : ℕ) → is_hex_digit c ≡ true → c < 128
digit_is_ascii c h = grind arith

digits_are_ascii : (text : List ℕ) → AllPass is_hex_digit text → IsAscii text
digits_are_ascii [] h = IsAscii-nil
digits_are_ascii (c ∷ cs) h =
    IsAscii-cons c cs (digit_is_ascii c (All-head (λ x. is_hex_digit x ≡ true) c cs h))
    (digits_are_ascii cs (All-tail (λ x. is_hex_digit x ≡ true) c cs h))

parity : (n : ℕ) → (n % 2 ≡ 0) ⊎ (n % 2 ≡ 1)
parity n = grind arith

differ : (bytes : List ℕ) {e : FromHexError} → ◌≡◌ {A = Result (List ℕ) FromHexError} (Ok bytes) (Err e) → ⊥
differ bytes h = cc h

-- a text that decodes has two characters for each byte
pub decoded_length : (text bytes : List ℕ) → decode_of text ≡ Ok bytes → length (chars text) ≡ 2 * length bytes
decoded_length text bytes h = elim (parity (length text)) [
  | inl even ↦
      let ok = decode_pairs-ok 0 text bytes (sym (decode_of-even text even) ∙ h) in
      ap length (chars-IsAscii text (digits_are_ascii text ok.0)) ∙ ok.1
  | inr odd ↦ absurd (differ bytes (sym h ∙ decode_of-odd text odd))
]
