-- A pass makes another, or a note, and takes one in.
use Rattle.std.proofs.Common.{◌≡◌, ◌≢◌, ℕ, ◌+◌, ◌<◌, ◌≤◌, cond, eqb, List, [], ◌∷◌, ◌++◌, length, set, Some, None, refl, sym, ap, ◌∙◌, subst, arith, true, false, length-append}
use mathlib.Core.Option.{some, none}
use mathlib.Core.List.{IsPrefix}
use lib.ListN.{get_elem?}
use Rattle.atomic_table.specs.Table.{Splits, Joins, Enters, step}
use Rattle.atomic_table.proofs.Lists.{set_else}
use Rattle.vic_change.specs.declared.Change.{Change}
use Rattle.vic_turn.specs.declared.view.View.{View}
use Rattle.vic_turn.specs.Changes.{Each}
use Rattle.vic_turn.specs.Turns.{AreDifferent, one_if, tickets_of, passes_of, Moment, Stands, Fits, Kept}
use Rattle.vic_turn.specs.Told.{Came, maker, made_pass, note_of, spent_view, joined_view}
use Rattle.vic_turn.proofs.Histories.{each_map, each_append, cond_same, cond_other, of_seat_none}
use Rattle.vic_turn.proofs.Views.{sum_by_at, sum_by_more, knower_set, knower_more, fits_set, fits_more}

-- the moment after a pass was made, which the view `new` stands for
abbrev dealt : {F : Type 0} → Moment F → ℕ → Moment F
dealt m new = record { fixed = m.fixed; log = m.log; made = m.made + 1; next = m.next; now = m.now; away = m.away; owner = λ n. cond (eqb n (m.made + 1)) new (m.owner n); holder = m.holder }

-- the moment after the view `other` was taken in by the view `id`
abbrev gathered : {F : Type 0} → Moment F → ℕ → ℕ → Moment F
gathered m id other = record { fixed = m.fixed; log = m.log; made = m.made; next = m.next; now = m.now; away = m.away; owner = λ n. cond (eqb (m.owner n) other) id (m.owner n); holder = m.holder }

module _ {X F : Type 0} (fixed_of : X → F) (changes_of : X → List Change) (fixed : F) (count : ℕ) where
  stands_still : (m : Moment F) (new j : ℕ) (e : ℕ × List Change) → Stands m j e → Stands (dealt m new) j e
  stands_still m new j e st = (cond_other e.0 (m.made + 1) new (m.owner e.0) (λ h. omega (arith, h, st.2)) ∙ st.0, st.1, omega (arith, st.2), st.3)

  others_fit : (m : Moment F) (new j : ℕ) (u : View F) → (u.makes ≡ true → ⊥) → Fits m j u → Fits (dealt m new) j u
  others_fit m new j u plain f = record {
    fixed = f.fixed;
    seen = f.seen;
    told = f.told;
    held = each_map (Stands m j) (Stands (dealt m new) j) (stands_still m new j) u.held f.held;
    ticket = f.ticket;
    different = f.different;
    a_pass = f.a_pass;
    known = f.known;
    maker = λ ne. absurd (plain ne);
  }

  maker_fits : (m : Moment F) (new id : ℕ) (v : View F) → id ≡ 0 → v.made ≡ m.made → Fits m id v → Fits (dealt m new) id (maker v)
  maker_fits m new id v first made f = record {
    fixed = f.fixed;
    seen = f.seen;
    told = f.told;
    held = each_map (Stands m id) (Stands (dealt m new) id) (stands_still m new id) v.held f.held;
    ticket = f.ticket;
    different = f.different;
    a_pass = f.a_pass;
    known = f.known;
    maker = λ _. (first, ap (λ (n : ℕ). n + 1) made);
  }

  made_fits : (m : Moment F) (new : ℕ) (id : ℕ) (v : View F) → v.made ≡ m.made → Each (λ c. (0 < c.seat) × (c.seat ≤ m.made)) m.log → Fits m id v → Fits (dealt m new) new (made_pass v)
  made_fits m new id v made seats f =
      let here : Stands (dealt m new) new (m.made + 1, []) = (cond_same (m.made + 1) new (m.owner (m.made + 1)), omega arith, omega arith, of_seat_none (m.made + 1) m.made m.log (omega arith) seats) in
      record {
        fixed = f.fixed;
        seen = (m.log, refl);
        told = tt;
        held = (subst (λ (n : ℕ). Stands (dealt m new) new (n + 1, [])) (sym made) here, tt);
        ticket = λ t e. absurd (cc e);
        different = (tt, tt);
        a_pass = omega arith;
        known = λ k e. absurd (cc e);
        maker = λ e. absurd (cc e);
      }

  pub deals : (id : ℕ) (v : View F) → v.makes ≡ true → v.made < count → Splits (Kept {X = X} fixed_of changes_of fixed count) id v (maker v) (made_pass v)
  deals id v makes room s h at =
      let m = h.m in
      let f = h.fits id v at in
      let mk = f.maker makes in
      let views = set s.views id (maker v) in
      let new = length views in
      record {
        m = dealt m new;
        fixed_is = h.fixed_is;
        words = h.words;
        tickets = omega (arith, h.tickets, sum_by_at tickets_of s.views id v (maker v) at, sum_by_more tickets_of views (made_pass v));
        passes = omega (arith, h.passes, sum_by_at passes_of s.views id v (maker v) at, sum_by_more passes_of views (made_pass v));
        few = (omega (arith, room, mk.1), h.few.1);
        fits = fits_more (dealt m new) views (made_pass v)
            (fits_set (dealt m new) s.views id (maker v)
            (λ j u apart e. others_fit m new j u (λ ne. apart (((h.fits j u e).maker ne).0 ∙ sym mk.0)) (h.fits j u e))
            (maker_fits m new id v mk.0 mk.1 f))
            (made_fits m new id v mk.1 h.seats f);
        seats = each_map (λ c. (0 < c.seat) × (c.seat ≤ m.made)) (λ c. (0 < c.seat) × (c.seat ≤ m.made + 1)) (λ c e. (e.0, omega (arith, e.1))) m.log h.seats;
        home = h.home;
        out = λ a. let o = h.out a in (o.0, knower_more views (made_pass v) m.log (knower_set s.views id v (maker v) m.log at refl o.1));
      }

  note_fits : (m : Moment F) (new id : ℕ) (v : View F) → Fits m id v → Fits m new (note_of v)
  note_fits m new id v f = record {
    fixed = f.fixed;
    seen = f.seen;
    told = tt;
    held = tt;
    ticket = λ t e. absurd (cc e);
    different = tt;
    a_pass = omega arith;
    known = λ k e. absurd (cc e);
    maker = λ e. absurd (cc e);
  }

  pub notes : (id : ℕ) (v : View F) → Splits (Kept {X = X} fixed_of changes_of fixed count) id v v (note_of v)
  notes id v s h at =
      let m = h.m in
      let f = h.fits id v at in
      let views = set s.views id v in
      record {
        m = m;
        fixed_is = h.fixed_is;
        words = h.words;
        tickets = omega (arith, h.tickets, sum_by_at tickets_of s.views id v v at, sum_by_more tickets_of views (note_of v));
        passes = omega (arith, h.passes, sum_by_at passes_of s.views id v v at, sum_by_more passes_of views (note_of v));
        few = h.few;
        fits = fits_more m views (note_of v) (fits_set m s.views id v (λ j u apart e. h.fits j u e) f) (note_fits m (length views) id v f);
        seats = h.seats;
        home = h.home;
        out = λ a. let o = h.out a in (o.0, knower_more views (note_of v) m.log (knower_set s.views id v v m.log at refl o.1));
      }

  gathered_others : (m : Moment F) (id other j : ℕ) (u : View F) → j ≢ other → Fits m j u → Fits (gathered m id other) j u
  gathered_others m id other j u apart f = record {
    fixed = f.fixed;
    seen = f.seen;
    told = f.told;
    held = each_map (Stands m j) (Stands (gathered m id other) j) (λ e st. (cond_other (m.owner e.0) other id (m.owner e.0) (λ h. apart (sym st.0 ∙ h)) ∙ st.0, st.1, st.2, st.3)) u.held f.held;
    ticket = f.ticket;
    different = f.different;
    a_pass = f.a_pass;
    known = f.known;
    maker = f.maker;
  }

  different_append : (m : Moment F) (id other : ℕ) → other ≢ id → (vs ws : List (ℕ × List Change)) → Each (Stands m id) vs → Each (Stands m other) ws → AreDifferent vs → AreDifferent ws → AreDifferent (vs ++ ws)
  different_append m id other apart [] ws sv sw dv dw = dw
  different_append m id other apart (e ∷ vs) ws sv sw dv dw = (
    each_append (λ d. d.0 ≢ e.0) vs ws dv.0 (each_map (Stands m other) (λ d. d.0 ≢ e.0) (λ d st h. apart (sym st.0 ∙ ap m.owner h ∙ sv.0.0)) ws sw),
    different_append m id other apart vs ws sv.1 sw dv.1 dw,
  )

  joined_fits : (m : Moment F) (id other : ℕ) (v w : View F) → other ≢ id → Fits m id v → Fits m other w → Fits (gathered m id other) id (joined_view v w)
  joined_fits m id other v w apart f g =
      let here = gathered_others m id other id v (λ h. apart (sym h)) f in
      record {
        fixed = f.fixed;
        seen = f.seen;
        told = each_append (λ h. IsPrefix h m.log) v.told (w.seen ∷ []) f.told (g.seen, tt);
        held = each_append (Stands (gathered m id other) id) v.held w.held here.held
            (each_map (Stands m other) (Stands (gathered m id other) id)
            (λ e st. (ap (λ (n : ℕ). cond (eqb n other) id n) st.0 ∙ cond_same other id other, st.1, st.2, st.3))
            w.held g.held);
        ticket = f.ticket;
        different = different_append m id other apart v.held w.held f.held g.held f.different g.different;
        a_pass = omega (arith, f.a_pass, length-append v.held w.held);
        known = f.known;
        maker = f.maker;
      }

  spent_fits : (m : Moment F) (other : ℕ) → Fits m other spent_view
  spent_fits m other = record {
    fixed = λ f e. absurd (cc e);
    seen = (m.log, refl);
    told = tt;
    held = tt;
    ticket = λ t e. absurd (cc e);
    different = tt;
    a_pass = omega arith;
    known = λ k e. absurd (cc e);
    maker = λ e. absurd (cc e);
  }

  pub visits : (slots : ℕ) (first : View F) → Enters (Kept {X = X} fixed_of changes_of fixed count) slots 1 (λ n w. Came {X = X} (step slots 1 0 0 none) (first, []) n (w, []))
  visits slots first s h long bound =
      let m = h.m in (
        spent_view,
        record {
          m = m;
          fixed_is = h.fixed_is;
          words = h.words;
          tickets = omega (arith, h.tickets, sum_by_more tickets_of s.views spent_view);
          passes = omega (arith, h.passes, sum_by_more passes_of s.views spent_view);
          few = h.few;
          fits = fits_more m s.views spent_view h.fits (spent_fits m (length s.views));
          seats = h.seats;
          home = h.home;
          out = λ a. let o = h.out a in (o.0, knower_more s.views spent_view m.log o.1);
        },
        refl,
      )

  pub gathers : (id : ℕ) (v : View F) (other : ℕ) (w : View F) → w.ticket ≡ None → w.known ≡ None → Joins (Kept {X = X} fixed_of changes_of fixed count) id v other w (joined_view v w) spent_view
  gathers id v other w no_ticket no_known s h at apart there =
      let m = h.m in
      let views = set s.views id (joined_view v w) in
      let was : get_elem? s.views other ≡ some w = sym (set_else s.views id other (joined_view v w) apart) ∙ there in
      let f = h.fits id v at in
      let g = h.fits other w was in
      record {
        m = gathered m id other;
        fixed_is = h.fixed_is;
        words = h.words;
        tickets = omega (arith, h.tickets, sum_by_at tickets_of s.views id v (joined_view v w) at, sum_by_at tickets_of views other w spent_view there, ap one_if no_ticket);
        passes = omega (arith, h.passes, sum_by_at passes_of s.views id v (joined_view v w) at, sum_by_at passes_of views other w spent_view there, length-append v.held w.held);
        few = h.few;
        fits = fits_set (gathered m id other) views other spent_view
            (λ j u ne e. fits_away j u ne e)
            (spent_fits (gathered m id other) other);
        seats = h.seats;
        home = h.home;
        out = λ a. let o = h.out a in (o.0, knower_set views other w spent_view m.log there (sym no_known) (knower_set s.views id v (joined_view v w) m.log at refl o.1));
      }
    where
      fits_away : (j : ℕ) (u : View F) → j ≢ other → get_elem? (set s.views id (joined_view v w)) j ≡ some u → Fits (gathered h.m id other) j u
      fits_away j u ne e =
          let was : get_elem? s.views other ≡ some w = sym (set_else s.views id other (joined_view v w) apart) ∙ there in
          let P : ℕ → View F → Type 0 = λ i x. i ≢ other → Fits (gathered h.m id other) i x in
          Rattle.std.proofs.Common.⊎_elim
          (λ (x : (j ≡ id) × (joined_view v w ≡ u)). subst (λ (y : ℕ × View F). Fits (gathered h.m id other) y.0 y.1) (λ i. (sym x.0 i, x.1 i)) (joined_fits h.m id other v w apart (h.fits id v at) (h.fits other w was)))
          (λ (x : (j ≢ id) × (get_elem? s.views j ≡ some u)). gathered_others h.m id other j u ne (h.fits j u x.1))
          (Rattle.atomic_table.proofs.Lists.at_set s.views id j (joined_view v w) u e)
