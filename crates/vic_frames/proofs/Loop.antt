-- Reading tagged entries one after the other, as a loop does.
use Rattle.std.proofs.Common.{◌≡◌, ℕ, suc, ◌-◌, ◌+◌, ◌≤◌, ◌<◌, List, [], ◌∷◌, ◌++◌, Result, Ok, Err, refl, sym, ap, ◌∙◌, append_assoc, arith}
use Rattle.std.proofs.lemmas.List.{append-nil}
use Rattle.vic_wire.specs.declared.message.Tagged.{Tagged}
use Rattle.vic_wire.specs.Reading.{FieldFault, Short, Value, ◌>>=◌, tagged_at, tagged_list_at}
use Rattle.vic_fields.specs.declared.cut.CutFault.{CutFault}
use Rattle.vic_fields.specs.declared.cut.CutFault.TheVariants as cut
use Rattle.vic_fields.specs.Giving.{Fails}

-- what was read before, and what is still read
abbrev pub with_front : List Tagged → Result (List Tagged × List ℕ) FieldFault → Result (List Tagged × List ℕ) FieldFault
with_front front read = read >>= λ x. Ok (front ++ x.0, x.1)

regroup : (front : List Tagged) (t : Tagged) (read : Result (List Tagged × List ℕ) FieldFault) → with_front front (read >>= λ x. Ok (t ∷ x.0, x.1)) ≡ with_front (front ++ t ∷ []) read
regroup front t (Ok x) = ap (λ (ts : List Tagged). Ok (ts, x.1)) (simp append_assoc)
regroup front t (Err f) = refl

-- one more item was read
pub goes_on : (front : List Tagged) (count i : ℕ) (bytes : List ℕ) (t : Tagged) (after : List ℕ) (total : Result (List Tagged × List ℕ) FieldFault) → i < count → tagged_at bytes ≡ Ok (t, after)
    → with_front front (tagged_list_at (count - i) bytes) ≡ total → with_front (front ++ t ∷ []) (tagged_list_at (count - (i + 1)) after) ≡ total
unfolding tagged_list_at
goes_on front count i bytes t after total lt h so_far =
    let k : count - i ≡ suc (count - (i + 1)) = omega arith in
    let one : with_front front (tagged_list_at (count - i) bytes) ≡ with_front (front ++ t ∷ []) (tagged_list_at (count - (i + 1)) after) = rw (k, h) (regroup front t (tagged_list_at (count - (i + 1)) after)) in
    sym one ∙ so_far

faulty : (f : FieldFault) (front : List Tagged) (count i : ℕ) (bytes : List ℕ) (total : Result (List Tagged × List ℕ) FieldFault) → i < count → tagged_at bytes ≡ Err f
    → with_front front (tagged_list_at (count - i) bytes) ≡ total → total ≡ Err f
unfolding tagged_list_at
faulty f front count i bytes total lt h so_far =
    let k : count - i ≡ suc (count - (i + 1)) = omega arith in
    let one : with_front front (tagged_list_at (count - i) bytes) ≡ Err f = rw (k, h) refl in
    sym so_far ∙ one

-- an item was faulty
pub ends : (e : CutFault) (front : List Tagged) (count i : ℕ) (bytes : List ℕ) (total : Result (List Tagged × List ℕ) FieldFault) → i < count → Fails e (tagged_at bytes)
    → with_front front (tagged_list_at (count - i) bytes) ≡ total → Fails e total
ends cut.Short front count i bytes total lt h so_far = faulty Short front count i bytes total lt h so_far
ends cut.Value front count i bytes total lt h so_far = faulty Value front count i bytes total lt h so_far
ends cut.NoMemory front count i bytes total lt h so_far = tt

-- all items were read
pub is_done : (front : List Tagged) (count i : ℕ) (bytes : List ℕ) (total : Result (List Tagged × List ℕ) FieldFault) → count ≤ i → with_front front (tagged_list_at (count - i) bytes) ≡ total → total ≡ Ok (front, bytes)
unfolding tagged_list_at
is_done front count i bytes total le so_far =
    let k : count - i ≡ 0 = omega arith in
    let one : with_front front (tagged_list_at (count - i) bytes) ≡ Ok (front, bytes) = rw k (ap (λ (ts : List Tagged). Ok (ts, bytes)) (append-nil front)) in
    sym so_far ∙ one
