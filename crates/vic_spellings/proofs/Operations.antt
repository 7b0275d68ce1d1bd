-- Operations, one kind after the other: what is read is what was spelled, and what is spelled is read again.
use Rattle.std.proofs.Common.{◌≡◌, ℕ, cond, eqb, List, ◌∷◌, ◌++◌, Result, Ok, Err, refl, sym, ap, subst, ◌∙◌, append_assoc, arith, inl, inr}
use Rattle.std.proofs.lemmas.Bool.{eqb-true}
use Rattle.vic_dict.specs.Lists.{AreBytes}
use Rattle.vic_dict.specs.Dictionary.{Fits, AreBytesIn}
use Rattle.vic_dict.specs.declared.op.Op.{Op}
use Rattle.vic_dict.specs.declared.op.Op.TheVariants as op
use Rattle.vic_wire.specs.Texts.{short_text, op_text}
use Rattle.vic_wire.specs.Reading.{FieldFault, Value, ◌>>=◌, byte_at, short_at, put_at, get_at, del_at, list_at, op_of_kind, op_at}
use Rattle.vic_spellings.proofs.Steps.{bind_ok, chosen, ok_is, Takes, Takes-then, Takes-cons}
use Rattle.vic_spellings.proofs.Fields.{byte_takes, short_takes, short_again}

-- what a reader of operations took, behind the byte of the kind
abbrev pub TakesOp : ℕ → List ℕ → Op × List ℕ → Type 0
TakesOp kind bytes x = Takes (kind ∷ bytes) (op_text x.0) x.1 × Fits x.0 × AreBytesIn x.0

pub put_takes : (bytes : List ℕ) (x : Op × List ℕ) → AreBytes bytes → put_at bytes ≡ Ok x → TakesOp 1 bytes x
unfolding put_at
put_takes bytes x fits e =
    let a = bind_ok (short_at 1 255 bytes) (λ k. short_at 0 64 k.1 >>= λ v. Ok (op.Put k.0 v.0, v.1)) x e in
    let b = bind_ok (short_at 0 64 a.0.1) (λ v. Ok (op.Put a.0.0 v.0, v.1)) x a.2 in
    let k = short_takes 1 255 bytes a.0 fits a.1 in
    let v = short_takes 0 64 a.0.1 b.0 k.0.rest_fits b.1 in
    let both = Takes-cons 1 bytes _ _ (Takes-then bytes (short_text a.0.0) a.0.1 (short_text b.0.0) b.0.1 k.0 v.0) in
    let made : Op × List ℕ = (op.Put a.0.0 b.0.0, b.0.1) in
    subst (λ (y : Op × List ℕ). TakesOp 1 bytes y) (ok_is made x b.2) (both, ((omega (arith, k.1), omega (arith, k.1)), omega (arith, v.1)), (k.2, v.2))

pub get_takes : (bytes : List ℕ) (x : Op × List ℕ) → AreBytes bytes → get_at bytes ≡ Ok x → TakesOp 2 bytes x
unfolding get_at
get_takes bytes x fits e =
    let a = bind_ok (short_at 1 255 bytes) (λ k. Ok (op.Get k.0, k.1)) x e in
    let k = short_takes 1 255 bytes a.0 fits a.1 in
    let made : Op × List ℕ = (op.Get a.0.0, a.0.1) in
    subst (λ (y : Op × List ℕ). TakesOp 2 bytes y) (ok_is made x a.2) (Takes-cons 2 bytes _ _ k.0, (omega (arith, k.1), omega (arith, k.1)), k.2)

pub del_takes : (bytes : List ℕ) (x : Op × List ℕ) → AreBytes bytes → del_at bytes ≡ Ok x → TakesOp 3 bytes x
unfolding del_at
del_takes bytes x fits e =
    let a = bind_ok (short_at 1 255 bytes) (λ k. Ok (op.Del k.0, k.1)) x e in
    let k = short_takes 1 255 bytes a.0 fits a.1 in
    let made : Op × List ℕ = (op.Del a.0.0, a.0.1) in
    subst (λ (y : Op × List ℕ). TakesOp 3 bytes y) (ok_is made x a.2) (Takes-cons 3 bytes _ _ k.0, (omega (arith, k.1), omega (arith, k.1)), k.2)

pub list_takes : (bytes : List ℕ) (x : Op × List ℕ) → AreBytes bytes → list_at bytes ≡ Ok x → TakesOp 4 bytes x
unfolding list_at
list_takes bytes x fits e =
    let a = bind_ok (short_at 0 255 bytes) (λ k. Ok (op.List k.0, k.1)) x e in
    let k = short_takes 0 255 bytes a.0 fits a.1 in
    let made : Op × List ℕ = (op.List a.0.0, a.0.1) in
    subst (λ (y : Op × List ℕ). TakesOp 4 bytes y) (ok_is made x a.2) (Takes-cons 4 bytes _ _ k.0, omega (arith, k.1), k.2)

pub kind_takes : (kind : ℕ) (bytes : List ℕ) (x : Op × List ℕ) → AreBytes bytes → op_of_kind kind bytes ≡ Ok x → TakesOp kind bytes x
unfolding op_of_kind
kind_takes kind bytes x fits e =
    let none : Result (Op × List ℕ) FieldFault = Err Value in
    let at4 = cond (eqb kind 4) (list_at bytes) none in
    let at3 = cond (eqb kind 3) (del_at bytes) at4 in
    let at2 = cond (eqb kind 2) (get_at bytes) at3 in
    elim (chosen (eqb kind 1) (put_at bytes) at2 (Ok x) e) [
      | inl h ↦ subst (λ (n : ℕ). TakesOp n bytes x) (sym (eqb-true kind 1 h.0)) (put_takes bytes x fits h.1)
      | inr h1 ↦ elim (chosen (eqb kind 2) (get_at bytes) at3 (Ok x) h1.1) [
        | inl h ↦ subst (λ (n : ℕ). TakesOp n bytes x) (sym (eqb-true kind 2 h.0)) (get_takes bytes x fits h.1)
        | inr h2 ↦ elim (chosen (eqb kind 3) (del_at bytes) at4 (Ok x) h2.1) [
          | inl h ↦ subst (λ (n : ℕ). TakesOp n bytes x) (sym (eqb-true kind 3 h.0)) (del_takes bytes x fits h.1)
          | inr h3 ↦ elim (chosen (eqb kind 4) (list_at bytes) none (Ok x) h3.1) [
            | inl h ↦ subst (λ (n : ℕ). TakesOp n bytes x) (sym (eqb-true kind 4 h.0)) (list_takes bytes x fits h.1)
            | inr h4 ↦ absurd cc
          ]
        ]
      ]
    ]

pub op_takes : (bytes : List ℕ) (x : Op × List ℕ) → AreBytes bytes → op_at bytes ≡ Ok x → Takes bytes (op_text x.0) x.1 × Fits x.0 × AreBytesIn x.0
unfolding op_at
op_takes bytes x fits e =
    let a = bind_ok (byte_at bytes) (λ kind. op_of_kind kind.0 kind.1) x e in
    let first = byte_takes bytes a.0 fits a.1 in
    subst (λ (bs : List ℕ). Takes bs (op_text x.0) x.1 × Fits x.0 × AreBytesIn x.0) (sym first.0) (kind_takes a.0.0 a.0.1 x first.2 a.2)

-- ---- and again

pub put_again : (k v rest : List ℕ) → Fits (op.Put k v) → put_at ((short_text k ++ short_text v) ++ rest) ≡ Ok (op.Put k v, rest)
unfolding put_at
put_again k v rest fits =
    let regrouped : (short_text k ++ short_text v) ++ rest ≡ short_text k ++ (short_text v ++ rest) = append_assoc (short_text k) (short_text v) rest in
    ap put_at regrouped ∙ rw (short_again 1 255 k (short_text v ++ rest) (omega (arith, fits.0)) (omega (arith, fits.0)), short_again 0 64 v rest (omega arith) (omega (arith, fits.1))) refl

pub get_again : (k rest : List ℕ) → Fits (op.Get k) → get_at (short_text k ++ rest) ≡ Ok (op.Get k, rest)
unfolding get_at
get_again k rest fits = rw (short_again 1 255 k rest (omega (arith, fits)) (omega (arith, fits))) refl

pub del_again : (k rest : List ℕ) → Fits (op.Del k) → del_at (short_text k ++ rest) ≡ Ok (op.Del k, rest)
unfolding del_at
del_again k rest fits = rw (short_again 1 255 k rest (omega (arith, fits)) (omega (arith, fits))) refl

pub list_again : (p rest : List ℕ) → Fits (op.List p) → list_at (short_text p ++ rest) ≡ Ok (op.List p, rest)
unfolding list_at
list_again p rest fits = rw (short_again 0 255 p rest (omega arith) (omega (arith, fits))) refl

pub op_again : (o : Op) (rest : List ℕ) → Fits o → op_at (op_text o ++ rest) ≡ Ok (o, rest)
unfolding op_at op_of_kind
op_again (op.Put k v) rest fits = put_again k v rest fits
op_again (op.Get k) rest fits = get_again k rest fits
op_again (op.Del k) rest fits = del_again k rest fits
op_again (op.List p) rest fits = list_again p rest fits
