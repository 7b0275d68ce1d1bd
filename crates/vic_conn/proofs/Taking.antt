-- What a reader of fields that failed says of the stream.
use Rattle.std.proofs.Common.{◌≡◌, ℕ, true, List, Result, Ok, Err, refl, ap, ◌∙◌}
use Rattle.std.specs.Int.{w32}
use Rattle.vic_wire.specs.Reading.{FieldFault, number_at, bytes_at}
use Rattle.vic_fields.specs.declared.cut.CutFault.{CutFault}
use Rattle.vic_fields.specs.declared.cut.CutFault.TheVariants as cut
use Rattle.vic_fields.specs.Giving.{Fails}
use Rattle.vic_conn.specs.Frames.{Waits, Whole, is_length, on_payload, front_of}
use Rattle.vic_conn.proofs.Fronts.{no_length, good_length}

-- a fault of the fields that isn't want of memory is one that reading meets
met_fault : {Y : Type 0} (e : CutFault) (read : Result Y FieldFault) → Fails e read → (e ≡ cut.NoMemory → ⊥) → (f : FieldFault) × (read ≡ Err f)
met_fault cut.Short read h memory = (_, h)
met_fault cut.Value read h memory = (_, h)
met_fault cut.NoMemory read h memory = absurd (memory refl)

pub waits_for_length : (bytes : List ℕ) (e : CutFault) → Fails e (number_at w32 bytes) → (e ≡ cut.NoMemory → ⊥) → front_of bytes ≡ Waits
waits_for_length bytes e h memory =
    let met = met_fault e (number_at w32 bytes) h memory in
    no_length bytes met.0 met.1

pub waits_for_payload : (bytes rest : List ℕ) (n : ℕ) (e : CutFault) → number_at w32 bytes ≡ Ok (n, rest) → is_length n ≡ true → Fails e (bytes_at n rest) → (e ≡ cut.NoMemory → ⊥) → front_of bytes ≡ Waits
waits_for_payload bytes rest n e at allowed h memory =
    let met = met_fault e (bytes_at n rest) h memory in
    good_length bytes rest n at allowed ∙ ap on_payload met.1

-- and one that gave the payload
pub has_payload : (bytes rest p behind : List ℕ) (n : ℕ) → number_at w32 bytes ≡ Ok (n, rest) → is_length n ≡ true → bytes_at n rest ≡ Ok (p, behind) → front_of bytes ≡ Whole p behind
has_payload bytes rest p behind n at allowed given = good_length bytes rest n at allowed ∙ ap on_payload given
