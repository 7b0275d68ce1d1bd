-- Clients that come in one after the other, and their key.
use Rattle.std.proofs.Common.{◌≡◌, ℕ, ◌+◌, List, [], ◌∷◌, ◌++◌, length, replicate, Option, None, Result, Ok, Err, codes, refl, sym, ap, subst, ◌∙◌, arith}
use Rattle.std.proofs.lemmas.List.{length-append}
use Rattle.std.specs.Prelude.{MatchOption}
use Rattle.std.specs.Str.{chars}
use Rattle.hex.specs.declared.error.FromHexError.{FromHexError}
use Rattle.hex.specs.Hex.{decode_of}
use Rattle.hex.proofs.OnLiterals.{hex_on_literals}
use Rattle.vic_tag.specs.declared.key.KeyFault.{KeyFault}
use Rattle.vic_tag.specs.Keys.{fault_in}
use Rattle.vic_drill.specs.Drills.{drill_group}
use Rattle.vic_run_drill.specs.declared.seat.Seat.{Seat}
use Rattle.vic_run_drill.specs.declared.seat.UnderWay.TheVariants as under
use Rattle.vic_run_drill.specs.Running.{requests, answers, SeatStands, HaveComeIn}
use Rattle.vic_run_drill.proofs.Rows.{get_more, replicate_push}

pub none_in : (size : ℕ) → HaveComeIn size 0 []
none_in size = record { count = refl; up = refl; down = refl; clients = λ k m there. absurd cc }

-- one more comes in
pub comes_in : (size n : ℕ) (ms new : List Seat) (m : Seat) → HaveComeIn size n ms → new ≡ ms ++ m ∷ [] → m.under_way ≡ under.Nothing → SeatStands (drill_group size) [] m (n + 1) → HaveComeIn size (n + 1) new
comes_in size n ms new m have is nothing stands =
    let P : Seat → ℕ → Type 0 = λ c j. SeatStands (drill_group size) [] c j in
    let place : n + 1 ≡ 1 + length ms = omega (arith, have.count) in
    let now : P m (1 + length ms) = subst (λ (j : ℕ). P m j) place stands in
    let turned : (k : ℕ) → k + 1 ≡ 1 + k = λ k. omega arith in
    subst (λ (xs : List Seat). HaveComeIn size (n + 1) xs) (sym is) (record {
      count = length-append ms (m ∷ []) ∙ ap (λ (k : ℕ). k + 1) have.count;
      up = replicate_push (λ (c : Seat). requests c.under_way) [] n ms m have.up (ap requests nothing);
      down = replicate_push (λ (c : Seat). answers c.under_way) [] n ms m have.down (ap answers nothing);
      clients = λ k c there. subst (λ (j : ℕ). P c j) (sym (turned k)) (get_more P 1 ms m (λ j b here. subst (λ (l : ℕ). P b l) (turned j) (have.clients j b here)) now k c there);
    })

-- what 64 zeros spell
abbrev pub zeros : List ℕ
zeros = codes "0000000000000000000000000000000000000000000000000000000000000000"

zeros_decode : decode_of zeros ≡ Ok (replicate 32 0)
unfolding hex_on_literals
zeros_decode = refl

zeros_fault : fault_in (chars zeros) ≡ None
unfolding chars
zeros_fault = refl

-- the key that they spell
pub zeros_spell : (key : List ℕ) → MatchOption (fault_in (chars zeros)) (decode_of zeros ≡ Ok key) (λ e. ◌≡◌ {A = Result (List ℕ) KeyFault} (Ok key) (Err e)) → key ≡ replicate 32 0
zeros_spell key are =
    let found : decode_of zeros ≡ Ok key = subst (λ (o : Option KeyFault). MatchOption o (decode_of zeros ≡ Ok key) (λ e. ◌≡◌ {A = Result (List ℕ) KeyFault} (Ok key) (Err e))) zeros_fault are in
    let same : ◌≡◌ {A = Result (List ℕ) FromHexError} (Ok key) (Ok (replicate 32 0)) = sym found ∙ zeros_decode in
    cc
