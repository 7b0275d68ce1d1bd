-- A window that is cut back.
use Rattle.std.proofs.Common.{◌≡◌, ℕ, suc, ◌-◌, ◌≤◌, drop, ap, arith}
use Rattle.vic_dict.specs.declared.op.Entry.{Entry}
use Rattle.vic_chain.specs.Held.{Held, held_length, held_with_entry, held_cut_to}

-- to its own length, it stays as it is
pub cut_whole : (w : Held) (n : ℕ) → n ≡ held_length w → held_cut_to w n ≡ w
cut_whole w n e = let none : held_length w - n ≡ 0 = omega (arith, e) in ap (λ (k : ℕ). record w { links = drop k w.links }) none

-- an entry that came onto it is gone
pub cut_extended : (w : Held) (e : Entry) (n : ℕ) → n ≤ held_length w → held_cut_to (held_with_entry w e) n ≡ held_cut_to w n
cut_extended w e n le =
    let more : held_length (held_with_entry w e) - n ≡ suc (held_length w - n) = omega (arith, le) in
    ap (λ (k : ℕ). record w { links = drop k (held_with_entry w e).links }) more
