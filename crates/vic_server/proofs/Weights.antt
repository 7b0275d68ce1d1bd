-- How the weight of a dictionary changes with an operation.
use Rattle.std.proofs.Common.{◌≡◌, ℕ, ◌+◌, ◌*◌, ◌<◌, ◌≤◌, Bool, true, false, cond, List, [], ◌∷◌, length, get_or, set, Some, Ok, Err, refl, sym, ap, subst, ◌∙◌, arith}
use Rattle.std.specs.List.{sum_by, insert, remove}
use Rattle.std.specs.Prelude.{MatchResult, if◌then◌else◌}
use Rattle.std.proofs.lemmas.List.Sums.{sum_by-set, sum_by-insert, sum_by-remove, sum_by-cons}
use Rattle.std.proofs.lemmas.Cmp.{nat_list_cmp_total}
use Rattle.std.specs.FinMap as map
use Rattle.std.specs.FinMap.{entries-insert, same_entries_map, get-entries, len-entries}
use Rattle.vic_dict.specs.declared.op.Op.{Op}
use Rattle.vic_dict.specs.declared.op.Op.TheVariants as op
use Rattle.vic_dict.specs.Dictionary.{Dictionary, after}
use Rattle.vic_dict.specs.Rows.{Row, bytes_cmp, spot, IsTable}
use Rattle.vic_dict.proofs.Rows.{IsAt, IsGap, spotted, drops, drops_nothing, rows_of}
use Rattle.vic_order.specs.Order.{op_weight}
use Rattle.vic_server.specs.Keeping.{pairs_weight, pair_weight, held_weight, weight_freed}

same_rows : (d : Dictionary) → IsTable (map.entries d) → map.from_sorted (map.entries d) ≡ d
same_rows d t = same_entries_map _ _ (rows_of (map.entries d) t)

abbrev pub row_weight : Row → ℕ
row_weight p = length p.0 + length p.1 + 16

-- what is left of the rows once a key is gone
removed_rows : (d : Dictionary) (k : List ℕ) (rows : List Row) → IsTable (map.entries d) → IsTable rows → map.from_sorted {R = bytes_cmp} rows ≡ map.remove (map.from_sorted (map.entries d)) k → map.entries (map.remove d k) ≡ rows
removed_rows d k rows t u e = ap map.entries (ap (λ m. map.remove m k) (sym (same_rows d t)) ∙ sym e) ∙ rows_of rows u

-- a put takes the place of the pair that had the key
pub put_weighs : (d : Dictionary) (k v : List ℕ) → IsTable (map.entries d) → pairs_weight (map.insert d k v) + held_weight k (map.get d k) ≡ pairs_weight d + pair_weight k v
put_weighs d k v t =
    let es = map.entries d in
    let ins = entries-insert nat_list_cmp_total d k v in
    elim (spot k es) as (λ r. MatchResult r (IsAt k es) (IsGap k es) → pairs_weight (map.insert d k v) + held_weight k (map.get d k) ≡ pairs_weight d + pair_weight k v) [
      | Ok i ↦ λ at.
          let here : get_or es i ([], []) ≡ (k, (get_or es i ([], [])).1) = λ j. (at.key ([], []) j, (get_or es i ([], [])).1) in
          let found : held_weight k (map.get d k) ≡ pair_weight k (get_or es i ([], [])).1 = ap (held_weight k) (get-entries d k ∙ at.finds ([], [])) in
          let before : row_weight (get_or es i ([], [])) ≡ pair_weight k (get_or es i ([], [])).1 = ap row_weight here in
          let now : pairs_weight (map.insert d k v) ≡ sum_by row_weight (set es i (k, v)) = ap (sum_by row_weight) (ins ∙ at.puts v) in
          let sums = sum_by-set row_weight es i (k, v) ([], []) at.within in
          omega (arith, found, before, now, sums)
      | Err i ↦ λ gap.
          let none : held_weight k (map.get d k) ≡ 0 = ap (held_weight k) (get-entries d k ∙ gap.finds) in
          let now : pairs_weight (map.insert d k v) ≡ sum_by row_weight (insert es i (k, v)) = ap (sum_by row_weight) (ins ∙ gap.puts v) in
          let sums = sum_by-insert row_weight es i (k, v) in
          omega (arith, none, now, sums)
    ] (spotted k es t.rising)

-- a del takes away the pair of the key
pub del_weighs : (d : Dictionary) (k : List ℕ) → IsTable (map.entries d) → pairs_weight (map.remove d k) + held_weight k (map.get d k) ≡ pairs_weight d
del_weighs d k t =
    let es = map.entries d in
    elim (spot k es) as (λ r. spot k es ≡ r → MatchResult r (IsAt k es) (IsGap k es) → pairs_weight (map.remove d k) + held_weight k (map.get d k) ≡ pairs_weight d) [
      | Ok i ↦ λ e at.
          let here : get_or es i ([], []) ≡ (k, (get_or es i ([], [])).1) = λ j. (at.key ([], []) j, (get_or es i ([], [])).1) in
          let found : held_weight k (map.get d k) ≡ pair_weight k (get_or es i ([], [])).1 = ap (held_weight k) (get-entries d k ∙ at.finds ([], [])) in
          let before : row_weight (get_or es i ([], [])) ≡ pair_weight k (get_or es i ([], [])).1 = ap row_weight here in
          let gone = drops k es i t e in
          let now : pairs_weight (map.remove d k) ≡ sum_by row_weight (remove es i) = ap (sum_by row_weight) (removed_rows d k (remove es i) t gone.table gone.is) in
          let sums = sum_by-remove row_weight es i ([], []) at.within in
          omega (arith, found, before, now, sums)
      | Err i ↦ λ e gap.
          let none : held_weight k (map.get d k) ≡ 0 = ap (held_weight k) (get-entries d k ∙ gap.finds) in
          let gone = drops_nothing k es i t e in
          let now : pairs_weight (map.remove d k) ≡ sum_by row_weight es = ap (sum_by row_weight) (removed_rows d k es t gone.table gone.is) in
          omega (arith, none, now)
    ] refl (spotted k es t.rising)

-- what a done entry takes away
freed_weighs : (d : Dictionary) (o : Op) → IsTable (map.entries d) → pairs_weight (after d o) + weight_freed d o ≡ pairs_weight d + op_weight o
freed_weighs d (op.Put k v) t = put_weighs d k v t
freed_weighs d (op.Get k) t = refl
freed_weighs d (op.Del k) t = let law = del_weighs d k t in omega (arith, law)
freed_weighs d (op.List p) t = refl

-- what it loses when an entry is sealed: what a done one takes away, or the put that was aborted
abbrev pub freed_weight : Dictionary → Op → Bool → ℕ
freed_weight d o done = if done then weight_freed d o else op_weight o

-- the weight after an entry is sealed
pub sealed_weighs : (d : Dictionary) (o : Op) (done : Bool) → IsTable (map.entries d) → pairs_weight (cond done (after d o) d) + freed_weight d o done ≡ pairs_weight d + op_weight o
sealed_weighs d o true t = freed_weighs d o t
sealed_weighs d o false t = refl

-- the pair of a key weighs no more than all
pub pair_is_light : (d : Dictionary) (k v : List ℕ) (rows : List Row) → rows ≡ map.entries d → IsTable rows → Some v ≡ map.get d k → pair_weight k v ≤ pairs_weight d
pair_is_light d k v rows is t found =
    let law = del_weighs d k (subst IsTable is t) in
    let held : held_weight k (map.get d k) ≡ pair_weight k v = ap (held_weight k) (sym found) in
    omega (arith, law, held)

sixteen : (rows : List Row) → length rows * 16 ≤ sum_by row_weight rows
sixteen [] = omega arith
sixteen (p ∷ rows) = let rest = sixteen rows in let step = sum_by-cons row_weight p rows in omega (arith, rest, step)

-- each pair weighs 16 at least
pub pairs_are_few : (d : Dictionary) → map.len d * 16 ≤ pairs_weight d
pairs_are_few d = let law = sixteen (map.entries d) in let n = len-entries d in omega (arith, law, n)

-- what is light has few pairs
pub few_pairs : (d : Dictionary) → pairs_weight d ≤ 8388608 → map.len d < 4294967296
few_pairs d light = let law = pairs_are_few d in omega (arith, law, light)
