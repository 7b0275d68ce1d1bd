-- A ticket is drawn.
use Rattle.std.proofs.Common.{◌≡◌, ℕ, ◌+◌, ◌%◌, ◌^◌, ◌<◌, ◌≤◌, cond, eqb, List, [], ◌∷◌, length, None, refl, sym, ap, ◌∙◌, arith}
use Rattle.std.proofs.Math.Nat.{mod-add-mod}
use Rattle.std.specs.Prelude.{slice_index, slice_set}
use mathlib.Core.Option.{none}
use Rattle.atomic_table.specs.Table.{Me, keeps, step, Allows}
use Rattle.vic_change.specs.declared.Change.{Change}
use Rattle.vic_turn.specs.declared.view.View.{View}
use Rattle.vic_turn.specs.Turns.{one_if, tickets_of, passes_of, Moment, Fits, Kept}
use Rattle.vic_turn.specs.Told.{with_ticket, Drew}
use Rattle.vic_turn.proofs.Histories.{cond_same, cond_other}
use Rattle.vic_turn.proofs.Views.{sum_by_at, knower_set, fits_set}

-- the moment after id has drawn
abbrev drawn : {F : Type 0} → Moment F → ℕ → Moment F
drawn m id = record { fixed = m.fixed; log = m.log; made = m.made; next = m.next + 1; now = m.now; away = m.away; owner = m.owner; holder = λ t. cond (eqb t m.next) id (m.holder t) }

module _ {X F : Type 0} (fixed_of : X → F) (changes_of : X → List Change) (fixed : F) (count : ℕ) where
  others_fit : (m : Moment F) (id j : ℕ) (u : View F) → Fits m j u → Fits (drawn m id) j u
  others_fit m id j u f = record {
    fixed = f.fixed;
    seen = f.seen;
    told = f.told;
    held = f.held;
    different = f.different;
    ticket = λ t e. let k = f.ticket t e in (cond_other t m.next id (m.holder t) (λ h. omega (arith, k.2)) ∙ k.0, k.1, omega (arith, k.2));
    a_pass = f.a_pass;
    known = f.known;
    maker = f.maker;
  }

  drawer_fits : (m : Moment F) (id : ℕ) (v : View F) → v.known ≡ None → 0 < length v.held → m.now ≤ m.next → Fits m id v → Fits (drawn m id) id (with_ticket v m.next)
  drawer_fits m id v no_known a_pass le f = record {
    fixed = f.fixed;
    seen = f.seen;
    told = f.told;
    held = f.held;
    different = f.different;
    ticket = λ t e. let same : m.next ≡ t = cc e in (ap (λ (n : ℕ). cond (eqb n m.next) id (m.holder n)) (sym same) ∙ cond_same m.next id (m.holder m.next), omega (arith, same, le), omega (arith, same));
    a_pass = omega (arith, a_pass);
    known = λ k e. absurd (cc (no_known, e));
    maker = f.maker;
  }

  pub draws : (slots id : ℕ) (me : Me X (View F)) → me.0.ticket ≡ None → me.0.known ≡ None → 0 < length me.0.held
      → Allows (Kept fixed_of changes_of fixed count) slots id me 0 (λ n. (n + 1) % 2 ^ 64) (Drew (step slots 0 1 0 none) me)
  draws slots id me no_ticket no_known a_pass s h long at bound =
      let m = h.m in
      let w = with_ticket me.0 m.next in
      let le : m.now ≤ m.next = omega (arith, h.tickets) in (
        w,
        keeps,
        tt,
        record {
          m = drawn m id;
          fixed_is = h.fixed_is;
          words = ap (λ ws. slice_set ws 0 ((slice_index ws 0 + 1) % 2 ^ 64)) h.words ∙ ap (λ (n : ℕ). n ∷ (m.now % 2 ^ 64) ∷ []) (mod-add-mod m.next (2 ^ 64) 1);
          tickets = omega (arith, h.tickets, sum_by_at tickets_of s.views id me.0 w at, ap one_if no_ticket);
          passes = omega (arith, h.passes, sum_by_at passes_of s.views id me.0 w at);
          few = h.few;
          fits = fits_set (drawn m id) s.views id w (λ j u apart e. others_fit m id j u (h.fits j u e)) (drawer_fits m id me.0 no_known a_pass le (h.fits id me.0 at));
          seats = h.seats;
          home = h.home;
          out = λ a. let o = h.out a in (o.0, knower_set s.views id me.0 w m.log at refl o.1);
        },
        (m.next, refl, ap (λ ws. slice_index ws 0) h.words),
      )
