-- The rule at the start, and at the end, where one view stands for all passes.
use Rattle.std.proofs.Common.{◌≡◌, ⊎_elim, ℕ, zero, suc, ◌<◌, ◌≤◌, List, [], ◌∷◌, length, None, refl, sym, ap, ◌∙◌, subst, arith, false}
use Rattle.std.proofs.lemmas.List.Sums.{sum_by-cons}
use mathlib.Core.Option.{some, some-injective, some-ne-none}
use mathlib.Core.Logic.{dite}
use mathlib.Core.List.{IsPrefix}
use native.Mathlib.Decide.{ℕ_discrete}
use lib.ListN.{get_elem?}
use Rattle.atomic_table.specs.Table.{State, opening, Final, Seen}
use Rattle.vic_change.specs.declared.Change.{Change}
use Rattle.vic_turn.specs.declared.view.View.{View}
use Rattle.vic_change.specs.Changes.{of_seat}
use Rattle.vic_turn.specs.Changes.{Each}
use Rattle.vic_turn.specs.Turns.{one_if, tickets_of, passes_of, Moment, Stands, Fits, Kept}
use Rattle.vic_turn.specs.Told.{opening_view, Settled}
use Rattle.vic_turn.proofs.Histories.{bool_cases, each_map}
use Rattle.vic_turn.proofs.Views.{sum_by_two}

module _ {X F : Type 0} (fixed_of : X → F) (changes_of : X → List Change) where
  pub begins : (y : X) (count : ℕ) → changes_of y ≡ [] → count ≤ 64 → Kept fixed_of changes_of (fixed_of y) count (opening (0 ∷ 0 ∷ []) (y ∷ []) (opening_view (fixed_of y)))
  begins y count empty few =
      let m : Moment F = record { fixed = fixed_of y; log = []; made = 0; next = 0; now = 0; away = false; owner = λ _. 0; holder = λ _. 0 } in
      let first : Fits m 0 (opening_view (fixed_of y)) = record {
        fixed = λ f e. cc e;
        seen = ([], refl);
        told = tt;
        held = tt;
        different = tt;
        ticket = λ t e. absurd (cc e);
        a_pass = omega arith;
        known = λ k e. absurd (cc e);
        maker = λ _. (refl, refl);
      } in
      record {
        m = m;
        fixed_is = refl;
        words = refl;
        tickets = omega (arith, sum_by-cons tickets_of (opening_view (fixed_of y)) []);
        passes = omega (arith, sum_by-cons passes_of (opening_view (fixed_of y)) []);
        few = (omega arith, few);
        fits = λ j u e. only j u first e;
        seats = tt;
        home = λ _. (y, refl, refl, empty);
        out = λ a. absurd (cc a);
      }
    where
      only : {m : Moment F} (j : ℕ) (u : View F) → Fits m 0 (opening_view (fixed_of y)) → get_elem? (opening_view (fixed_of y) ∷ []) j ≡ some u → Fits m j u
      only {m} zero u f e = subst (Fits m 0) (some-injective _ _ e) f
      only (suc j) u f e = absurd (some-ne-none u (sym e))

  pub closes : (fixed : F) (count : ℕ) (s : State X (View F)) (id : ℕ) (v : View F) → Kept fixed_of changes_of fixed count s → get_elem? s.views id ≡ some v → v.ticket ≡ None → count ≤ length v.held
      → (y : X) × (get_elem? s.homes 0 ≡ some (some y)) × Settled fixed_of changes_of fixed count v y
  closes fixed count s id v h at no_ticket all =
      let m = h.m in
      let f = h.fits id v at in
      let home : m.away ≡ false =
      ⊎_elim
      (λ a.
      let k = (h.out a).1 in
      let g = h.fits k.0 k.1 k.2 in
      let t = (g.known m.log k.3).1 in
      dite (ℕ_discrete id k.0)
      (λ e. let one : k.1 ≡ v = some-injective _ _ (sym k.2 ∙ subst (λ i. get_elem? s.views i ≡ some v) e at) in absurd (cc (no_ticket, ap (λ (u : View F). u.ticket) one, t)))
      (λ ne. absurd (omega (arith, sum_by_two passes_of s.views id k.0 v k.1 ne at k.2, h.passes, h.few, all, g.a_pass, ap one_if t))))
      (λ e. e)
      (bool_cases m.away)
      in
      let y = h.home home in (
        y.0,
        ap (λ hs. get_elem? hs 0) y.1,
        record {
          fixed_is = y.2 ∙ h.fixed_is;
          seen = subst (λ l. IsPrefix v.seen l) (sym y.3) f.seen;
          told = subst (λ l. Each (λ h'. IsPrefix h' l) v.told) (sym y.3) f.told;
          held = subst (λ l. Each (λ e. of_seat e.0 l ≡ e.1) v.held) (sym y.3) (each_map (Stands m id) (λ e. of_seat e.0 m.log ≡ e.1) (λ e st. st.3) v.held f.held);
          seats = subst (λ l. Each (λ c. (0 < c.seat) × (c.seat ≤ count)) l) (sym y.3) (each_map (λ c. (0 < c.seat) × (c.seat ≤ m.made)) (λ c. (0 < c.seat) × (c.seat ≤ count)) (λ c e. (e.0, omega (arith, e.1, h.few))) m.log h.seats);
        },
      )

  pub settles : (fixed : F) (count : ℕ) (words : List ℕ) (slots : List X) (id : ℕ) (v : View F) (r : X) → Final (Seen (Kept fixed_of changes_of fixed count) id v) words slots → v.ticket ≡ None → count ≤ length v.held → get_elem? slots 0 ≡ some r
      → Settled fixed_of changes_of fixed count v r
  settles fixed count words slots id v r f no_ticket all got =
      let c = closes fixed count f.0 id v f.1.0 f.1.1 no_ticket all in
      subst (Settled fixed_of changes_of fixed count v) (some-injective _ _ (sym (f.4 0 c.0 c.1) ∙ got)) c.2
