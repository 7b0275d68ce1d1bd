-- Seals: what is read is what was spelled, and what is spelled is read again.
use Rattle.std.proofs.Common.{◌≡◌, ℕ, ◌^◌, ◌<◌, false, eqb, List, ◌++◌, replicate, Result, Ok, refl, sym, ap, subst, ◌∙◌, append_assoc, arith, inl, inr}
use Rattle.std.specs.Int.{w32, to_be_bytes}
use Rattle.std.proofs.lemmas.Bool.{eqb-true, eqb-false, cases_Bool}
use Rattle.sha2.proofs.Facts256.{length-sha256}
use Rattle.vic_dict.specs.Lists.{AreBytes}
use Rattle.vic_dict.proofs.ByteLists.{AreBytes-replicate}
use Rattle.vic_wire.specs.declared.message.Seal.{Seal}
use Rattle.vic_wire.specs.Texts.{empty_text}
use Rattle.vic_wire.specs.Hashes.{empty_root}
use Rattle.vic_wire.specs.Messages.{IsSeal, seal_field}
use Rattle.vic_wire.specs.Reading.{FieldFault, ◌>>=◌, number_at, digest_at, seal_after, seal_at}
use Rattle.vic_spellings.specs.Spellings.{HasBytes}
use Rattle.vic_spellings.proofs.Steps.{bind_ok, chosen, ok_is, Takes, Takes-then}
use Rattle.vic_spellings.proofs.Bytes.{bytes-sha256}
use Rattle.vic_spellings.proofs.Fields.{w32_takes, w32_again, digest_takes, digest_again}

-- the seal of position 0
abbrev pub first_seal : Seal
first_seal = record { position = 0; root = record { bytes = empty_root }; tag = record { bytes = replicate 32 0 } }

pub first_is_seal : IsSeal first_seal
first_is_seal = record { position = omega arith; root = length-sha256 empty_text; tag = refl; first = λ e. (refl, refl) }

abbrev sealed : ℕ → List ℕ → List ℕ → Seal
sealed p r t = record { position = p; root = record { bytes = r }; tag = record { bytes = t } }

same_sealed : (p q : ℕ) (r s t u : List ℕ) → p ≡ q → r ≡ s → t ≡ u → sealed p r t ≡ sealed q s u
same_sealed p q r s t u d e f = cc

-- a seal of position 0 is that one
pub is_first_seal : (s : Seal) → IsSeal s → s.position ≡ 0 → first_seal ≡ s
is_first_seal s fits e =
    let f = fits.first e in
    same_sealed 0 s.position empty_root s.root.bytes (replicate 32 0) s.tag.bytes (sym e) (sym f.0) (sym f.1)

-- how a seal above position 0 is spelled
pub later_field : (s : Seal) → eqb s.position 0 ≡ false → seal_field s ≡ to_be_bytes w32 s.position ++ (s.root.bytes ++ s.tag.bytes)
later_field s e = rw e refl

-- what a reader of seals took, behind the position
abbrev pub TakesSeal : ℕ → List ℕ → Seal × List ℕ → Type 0
TakesSeal position bytes x = Takes (to_be_bytes w32 position ++ bytes) (seal_field x.0) x.1 × IsSeal x.0 × HasBytes x.0

first_seal_takes : (bytes : List ℕ) → AreBytes bytes → TakesSeal 0 bytes (first_seal, bytes)
first_seal_takes bytes fits = (record { parts = refl; rest_fits = fits }, first_is_seal, (bytes-sha256 empty_text, AreBytes-replicate 32 0 (omega arith)))

later_seal_takes : (position : ℕ) (bytes : List ℕ) (x : Seal × List ℕ) → position < 2 ^ 32 → eqb position 0 ≡ false → AreBytes bytes
    → (digest_at bytes >>= (λ root. digest_at root.1 >>= (λ tag. Ok (record { position = position; root = root.0; tag = tag.0 }, tag.1)))) ≡ Ok x → TakesSeal position bytes x
later_seal_takes position bytes x lt above fits e =
    let a = bind_ok (digest_at bytes) (λ root. digest_at root.1 >>= (λ tag. Ok (record { position = position; root = root.0; tag = tag.0 }, tag.1))) x e in
    let b = bind_ok (digest_at a.0.1) (λ tag. Ok (record { position = position; root = a.0.0; tag = tag.0 }, tag.1)) x a.2 in
    let root = digest_takes bytes a.0 fits a.1 in
    let tag = digest_takes a.0.1 b.0 root.0.rest_fits b.1 in
    let both = Takes-then bytes a.0.0.bytes a.0.1 b.0.0.bytes b.0.1 root.0 tag.0 in
    let front : Takes (to_be_bytes w32 position ++ bytes) (to_be_bytes w32 position) bytes = record { parts = refl; rest_fits = fits } in
    let whole = Takes-then (to_be_bytes w32 position ++ bytes) (to_be_bytes w32 position) bytes (a.0.0.bytes ++ b.0.0.bytes) b.0.1 front both in
    let made : Seal × List ℕ = (record { position = position; root = a.0.0; tag = b.0.0 }, b.0.1) in
    let spelled : Takes (to_be_bytes w32 position ++ bytes) (seal_field made.0) made.1 = subst (λ (t : List ℕ). Takes (to_be_bytes w32 position ++ bytes) t b.0.1) (sym (later_field made.0 above)) whole in
    let is_seal : IsSeal made.0 = record { position = lt; root = root.1; tag = tag.1; first = λ h. absurd (eqb-false position 0 above h) } in
    subst (λ (y : Seal × List ℕ). TakesSeal position bytes y) (ok_is made x b.2) (spelled, is_seal, (root.2, tag.2))

pub seal_after_takes : (position : ℕ) (bytes : List ℕ) (x : Seal × List ℕ) → position < 2 ^ 32 → AreBytes bytes → seal_after position bytes ≡ Ok x → TakesSeal position bytes x
unfolding seal_after
seal_after_takes position bytes x lt fits e =
    let found : Result (Seal × List ℕ) FieldFault = Ok x in
    let none : Result (Seal × List ℕ) FieldFault = Ok (first_seal, bytes) in
    elim (chosen (eqb position 0) none (digest_at bytes >>= (λ root. digest_at root.1 >>= (λ tag. Ok (record { position = position; root = root.0; tag = tag.0 }, tag.1)))) found e) [
      | inl h ↦ subst (λ (n : ℕ). TakesSeal n bytes x) (sym (eqb-true position 0 h.0)) (subst (λ (y : Seal × List ℕ). TakesSeal 0 bytes y) (ok_is (first_seal, bytes) x h.1) (first_seal_takes bytes fits))
      | inr h ↦ later_seal_takes position bytes x lt h.0 fits h.1
    ]

pub seal_takes : (bytes : List ℕ) (x : Seal × List ℕ) → AreBytes bytes → seal_at bytes ≡ Ok x → Takes bytes (seal_field x.0) x.1 × IsSeal x.0 × HasBytes x.0
unfolding seal_at
seal_takes bytes x fits e =
    let a = bind_ok (number_at w32 bytes) (λ p. seal_after p.0 p.1) x e in
    let position = w32_takes bytes a.0 fits a.1 in
    subst (λ (bs : List ℕ). Takes bs (seal_field x.0) x.1 × IsSeal x.0 × HasBytes x.0) (sym position.0.parts) (seal_after_takes a.0.0 a.0.1 x position.1 position.0.rest_fits a.2)

-- ---- and again

first_seal_again : (rest : List ℕ) → seal_at (seal_field first_seal ++ rest) ≡ Ok (first_seal, rest)
unfolding seal_at seal_after
first_seal_again rest = rw (w32_again 0 rest (omega arith)) refl

later_seal_again : (s : Seal) (rest : List ℕ) → IsSeal s → eqb s.position 0 ≡ false → seal_at (to_be_bytes w32 s.position ++ (s.root.bytes ++ (s.tag.bytes ++ rest))) ≡ Ok (s, rest)
unfolding seal_at seal_after
later_seal_again s rest fits above =
    rw (w32_again s.position (s.root.bytes ++ (s.tag.bytes ++ rest)) fits.position, above, digest_again s.root (s.tag.bytes ++ rest) fits.root, digest_again s.tag rest fits.tag) refl

pub seal_again : (s : Seal) (rest : List ℕ) → IsSeal s → seal_at (seal_field s ++ rest) ≡ Ok (s, rest)
seal_again s rest fits =
    elim (cases_Bool (eqb s.position 0)) [
      | inl h ↦ subst (λ (t : Seal). seal_at (seal_field t ++ rest) ≡ Ok (t, rest)) (is_first_seal s fits (eqb-true s.position 0 h)) (first_seal_again rest)
      | inr h ↦
          let regrouped : seal_field s ++ rest ≡ to_be_bytes w32 s.position ++ (s.root.bytes ++ (s.tag.bytes ++ rest)) =
          ap (λ (t : List ℕ). t ++ rest) (later_field s h) ∙ append_assoc (to_be_bytes w32 s.position) (s.root.bytes ++ s.tag.bytes) rest ∙ ap (λ (t : List ℕ). to_be_bytes w32 s.position ++ t) (append_assoc s.root.bytes s.tag.bytes rest) in
          ap seal_at regrouped ∙ later_seal_again s rest fits h
    ]
