-- The end of a turn: the value comes home, and its new change is seen.
use Rattle.std.proofs.Common.{◌≡◌, ◌≢◌, ℕ, ◌+◌, ◌%◌, ◌^◌, ◌<◌, ◌≤◌, List, [], ◌∷◌, ◌++◌, length, get_or, Some, refl, sym, ap, ◌∙◌, subst, arith, false, append-nil}
use Rattle.std.proofs.Math.Nat.{mod-add-mod}
use Rattle.std.specs.Prelude.{slice_index, slice_set}
use mathlib.Core.Option.{some, none}
use mathlib.Core.List.{IsPrefix}
use Rattle.atomic_table.specs.Table.{Me, gives, step, rest, put_back, Allows}
use Rattle.vic_change.specs.declared.Change.{Change}
use Rattle.vic_turn.specs.declared.view.View.{View}
use Rattle.vic_change.specs.Changes.{of_seat}
use Rattle.vic_turn.specs.Changes.{Each}
use Rattle.vic_turn.specs.Turns.{AreDifferent, one_if, tickets_of, passes_of, Moment, Stands, Fits, Kept}
use Rattle.vic_turn.specs.Told.{lists_with_changes, turn_over, HandedOn}
use Rattle.vic_turn.proofs.Histories.{each_map, each_append, prefix_self, prefix_trans, append_cancel, of_seat-append, of_seat_own, of_seat_others}
use Rattle.vic_turn.proofs.Views.{sum_by_at, fits_set}

-- the moment after a turn that left this history
abbrev ended : {F : Type 0} → Moment F → List Change → Moment F
ended m log = record { fixed = m.fixed; log = log; made = m.made; next = m.next; now = m.now + 1; away = false; owner = m.owner; holder = m.holder }

module _ {X F : Type 0} (fixed_of : X → F) (changes_of : X → List Change) (fixed : F) (count : ℕ) where
  stands_still : (m : Moment F) (j id n : ℕ) (log d : List Change) → log ≡ m.log ++ d → Each (λ c. c.seat ≡ n) d → m.owner n ≡ id → j ≢ id
      → (e : ℕ × List Change) → Stands m j e → Stands (ended m log) j e
  stands_still m j id n log d is own owned apart e st =
      let other : e.0 ≢ n = λ h. apart (sym st.0 ∙ ap m.owner h ∙ owned) in
      (st.0, st.1, st.2, ap (of_seat e.0) is ∙ of_seat-append e.0 m.log d ∙ ap (λ l. of_seat e.0 m.log ++ l) (of_seat_others e.0 n d other own) ∙ append-nil (of_seat e.0 m.log) ∙ st.3)

  others_fit : (m : Moment F) (j id n : ℕ) (log d : List Change) → log ≡ m.log ++ d → Each (λ c. c.seat ≡ n) d → m.owner n ≡ id → m.holder m.now ≡ id → j ≢ id
      → (u : View F) → Fits m j u → Fits (ended m log) j u
  others_fit m j id n log d is own owned held apart u f =
      let longer : IsPrefix m.log log = (d, sym is) in
      record {
        fixed = f.fixed;
        seen = prefix_trans u.seen m.log log f.seen longer;
        told = each_map (λ h. IsPrefix h m.log) (λ h. IsPrefix h log) (λ h p. prefix_trans h m.log log p longer) u.told f.told;
        held = each_map (Stands m j) (Stands (ended m log) j) (stands_still m j id n log d is own owned apart) u.held f.held;
        ticket = λ t e. let k = f.ticket t e in let ne : m.now ≢ t = λ h. apart (sym k.0 ∙ ap m.holder (sym h) ∙ held) in (k.0, omega (arith, k.1, ne), k.2);
        different = f.different;
        a_pass = f.a_pass;
        known = λ k e. absurd (apart (sym (f.ticket m.now (f.known k e).1).0 ∙ held));
        maker = f.maker;
      }

  ender_fits : (m : Moment F) (id n : ℕ) (mine log d : List Change) (v : View F) → log ≡ m.log ++ d → Each (λ c. c.seat ≡ n) d → v.held ≡ (n, mine) ∷ [] → Fits m id v → Fits (ended m log) id (turn_over v log d)
  ender_fits m id n mine log d v is own only f =
      let longer : IsPrefix m.log log = (d, sym is) in
      let st = (subst (λ l. Each (Stands m id) l) only f.held).0 in
      let after : Stands (ended m log) id (n, mine ++ d) = (st.0, st.1, st.2, ap (of_seat n) is ∙ of_seat-append n m.log d ∙ (λ i. st.3 i ++ of_seat_own n d own i)) in
      record {
        fixed = f.fixed;
        seen = prefix_self log;
        told = each_map (λ h. IsPrefix h m.log) (λ h. IsPrefix h log) (λ h p. prefix_trans h m.log log p longer) v.told f.told;
        held = subst (λ l. Each (Stands (ended m log) id) (lists_with_changes d l)) (sym only) (after, tt);
        ticket = λ t e. absurd (cc e);
        different = subst (λ l. AreDifferent (lists_with_changes d l)) (sym only) (tt, tt);
        a_pass = omega arith;
        known = λ k e. absurd (cc e);
        maker = f.maker;
      }

  grown_as_long : (d : List Change) (es : List (ℕ × List Change)) → length (lists_with_changes d es) ≡ length es
  grown_as_long d [] = refl
  grown_as_long d (e ∷ es) = refl

  pub hands_on : (slots id : ℕ) (me : Me X (View F)) (y : X) (k d : List Change) (n : ℕ) (mine : List Change)
      → me.1 ≡ (0, y) ∷ [] → me.0.known ≡ Some k → changes_of y ≡ k ++ d → fixed_of y ≡ fixed → me.0.held ≡ (n, mine) ∷ [] → Each (λ c. c.seat ≡ n) d
      → Allows (Kept fixed_of changes_of fixed count) slots id me 1 (λ x. (x + 1) % 2 ^ 64) (HandedOn changes_of (step slots 1 1 0 none) me)
  hands_on slots id me y k d n mine has knows is fixed_is only own s h long at bound =
      let m = h.m in
      let f = h.fits id me.0 at in
      let known = f.known k knows in
      let log = changes_of y in
      let log_is : log ≡ m.log ++ d = is ∙ ap (λ l. l ++ d) known.0 in
      let held = (f.ticket m.now known.1).0 in
      let st = (subst (λ l. Each (Stands m id) l) only f.held).0 in
      let away = h.out known.2 in
      let w = turn_over me.0 log d in (
        w,
        gives,
        tt,
        record {
          m = ended m log;
          fixed_is = h.fixed_is;
          words = ap (λ ws. slice_set ws 1 ((slice_index ws 1 + 1) % 2 ^ 64)) h.words ∙ ap (λ (x : ℕ). (m.next % 2 ^ 64) ∷ x ∷ []) (mod-add-mod m.now (2 ^ 64) 1);
          tickets = omega (arith, h.tickets, sum_by_at tickets_of s.views id me.0 w at, ap one_if known.1);
          passes = omega (arith, h.passes, sum_by_at passes_of s.views id me.0 w at, grown_as_long d me.0.held);
          few = h.few;
          fits = fits_set (ended m log) s.views id w (λ j u apart e. others_fit m j id n log d log_is own st.0 held apart u (h.fits j u e)) (ender_fits m id n mine log d me.0 log_is own only f);
          seats = subst (λ l. Each (λ c. (0 < c.seat) × (c.seat ≤ m.made)) l) (sym log_is)
              (each_append (λ c. (0 < c.seat) × (c.seat ≤ m.made)) m.log d h.seats (each_map (λ c. c.seat ≡ n) (λ c. (0 < c.seat) × (c.seat ≤ m.made)) (λ c e. (omega (arith, st.1, e), omega (arith, st.2, e))) d own));
          home = λ _. (y, ap (λ l. put_back s.homes l) has ∙ ap (λ hs. slice_set hs 0 (some y)) away.0, fixed_is ∙ sym h.fixed_is, refl);
          out = λ a. absurd (cc a);
        },
        (λ y' k' d' has' knows' is'.
            let same_y : y ≡ y' = ap (λ (l : List (ℕ × X)). (get_or l 0 (0, y)).1) (sym has ∙ has') in
            let same_k : k ≡ k' = cc (knows, knows') in
            let same_d : d ≡ d' = append_cancel k d d' (sym is ∙ ap changes_of same_y ∙ is' ∙ ap (λ l. l ++ d') (sym same_k)) in
            λ i. (turn_over me.0 (changes_of (same_y i)) (same_d i), ap rest has i)),
      )
