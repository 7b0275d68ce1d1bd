-- A look at the serving word: the turn has come, and the value goes out, or nothing happens.
use Rattle.std.proofs.Common.{◌≡◌, ⊎_elim, ℕ, ◌+◌, ◌%◌, ◌^◌, ◌<◌, List, [], ◌∷◌, set, Some, None, refl, sym, ap, ◌∙◌, subst, arith, true, false}
use Rattle.std.specs.Prelude.{slice_index, slice_set}
use mathlib.Core.Option.{some, none, some-injective}
use mathlib.Core.Logic.{dite}
use mathlib.Core.List.{IsPrefix}
use native.Mathlib.Decide.{ℕ_discrete}
use lib.ListN.{get_elem?}
use Rattle.atomic_table.specs.Table.{State, Me, keeps, takes, step, stepped, Allows}
use Rattle.atomic_table.proofs.Lists.{one_turn, set_again}
use Rattle.vic_change.specs.declared.Change.{Change}
use Rattle.vic_turn.specs.declared.view.View.{View}
use Rattle.vic_turn.specs.Turns.{tickets_of, passes_of, Moment, Fits, Kept}
use Rattle.vic_turn.specs.Told.{with_known, first_told, met_view, Looked, Met}
use Rattle.vic_turn.proofs.Histories.{bool_cases, longer_is, longer_begins}
use Rattle.vic_turn.proofs.Views.{sum_by_at, sum_by_mono, set_there, knower_set, fits_set}

-- the moment with the value out
abbrev taken : {F : Type 0} → Moment F → Moment F
taken m = record { fixed = m.fixed; log = m.log; made = m.made; next = m.next; now = m.now; away = true; owner = m.owner; holder = m.holder }

module _ {X F : Type 0} (fixed_of : X → F) (changes_of : X → List Change) (fixed : F) (count : ℕ) where
  -- a word read is as it was, and so is the slot
  same_table : (s : State X (View F)) (i id : ℕ) (me : Me X (View F)) → Kept fixed_of changes_of fixed count s → get_elem? s.views id ≡ some me.0 → set s.words i (slice_index s.words i) ≡ s.words
      → Kept fixed_of changes_of fixed count (stepped s i (slice_index s.words i) id me.1 me.0 keeps)
  same_table s i id me h at same =
      subst (Kept fixed_of changes_of fixed count)
      (λ k. record { words = sym same k; homes = s.homes; views = sym (set_again s.views id me.0 at) k })
      h

  -- fewer tickets are out than the words can tell apart
  few_tickets : (s : State X (View F)) (h : Kept fixed_of changes_of fixed count s) → h.m.next < h.m.now + 2 ^ 64
  few_tickets s h =
      let less = sum_by_mono tickets_of passes_of s.views (λ j u e. (h.fits j u e).a_pass) in
      omega (arith, h.tickets, less, h.passes, h.few)

  -- who holds the ticket that is served, and knows no history, finds the value at home
  at_home : (s : State X (View F)) (h : Kept fixed_of changes_of fixed count s) (id : ℕ) (v : View F) → get_elem? s.views id ≡ some v → v.ticket ≡ Some h.m.now → v.known ≡ None → h.m.away ≡ false
  at_home s h id v at ticket none_known =
      ⊎_elim
      (λ a.
      let k = (h.out a).1 in
      let theirs = (h.fits k.0 k.1 k.2).known h.m.log k.3 in
      let there = ((h.fits k.0 k.1 k.2).ticket h.m.now theirs.1).0 in
      let here = ((h.fits id v at).ticket h.m.now ticket).0 in
      let same : k.0 ≡ id = sym there ∙ here in
      let one : k.1 ≡ v = some-injective _ _ (sym k.2 ∙ subst (λ i. get_elem? s.views i ≡ some v) (sym same) at) in
      absurd (cc (none_known, ap (λ (u : View F). u.known) one, k.3)))
      (λ e. e)
      (bool_cases h.m.away)

  others_fit : (m : Moment F) (j : ℕ) (u : View F) → m.away ≡ false → Fits m j u → Fits (taken m) j u
  others_fit m j u home f = record {
    fixed = f.fixed;
    seen = f.seen;
    told = f.told;
    held = f.held;
    different = f.different;
    ticket = f.ticket;
    a_pass = f.a_pass;
    known = λ k e. absurd (cc (home, (f.known k e).2));
    maker = f.maker;
  }

  taker_fits : (m : Moment F) (id : ℕ) (v : View F) (k : List Change) → k ≡ m.log → v.ticket ≡ Some m.now → Fits m id v → Fits (taken m) id (with_known v k)
  taker_fits m id v k is ticket f = record {
    fixed = f.fixed;
    seen = f.seen;
    told = f.told;
    held = f.held;
    different = f.different;
    ticket = f.ticket;
    a_pass = f.a_pass;
    known = λ l e. let same : k ≡ l = cc e in (sym same ∙ is, ticket, refl);
    maker = f.maker;
  }

  pub looks : (slots id : ℕ) (me : Me X (View F)) (t : ℕ) → me.0.ticket ≡ Some t → me.0.known ≡ None → me.1 ≡ []
      → Allows (Kept fixed_of changes_of fixed count) slots id me 1 (λ n. n) (Looked fixed_of changes_of (step slots 1 0 0 none) me)
  looks slots id me t ticket none_known empty s h long at bound =
      dite (ℕ_discrete (slice_index s.words 1) (t % 2 ^ 64))
      (λ e.
      let m = h.m in
      let f = h.fits id me.0 at in
      let mine = f.ticket t ticket in
      let now : m.now ≡ t = one_turn m.now t (2 ^ 64) mine.1 (omega (arith, few_tickets s h, mine.2)) (sym (ap (λ ws. slice_index ws 1) h.words) ∙ e) in
      let served : me.0.ticket ≡ Some m.now = ticket ∙ ap Some (sym now) in
      let home = at_home s h id me.0 at served none_known in
      let y = h.home home in
      let w = with_known me.0 (changes_of y.0) in (
        w,
        takes 0 y.0,
        ap (λ hs. get_elem? hs 0) y.1,
        record {
          m = taken m;
          fixed_is = h.fixed_is;
          words = ap (λ ws. slice_set ws 1 (slice_index ws 1)) h.words;
          tickets = omega (arith, h.tickets, sum_by_at tickets_of s.views id me.0 w at);
          passes = omega (arith, h.passes, sum_by_at passes_of s.views id me.0 w at);
          few = h.few;
          fits = fits_set (taken m) s.views id w (λ j u apart a. others_fit m j u home (h.fits j u a)) (taker_fits m id me.0 (changes_of y.0) y.3 served f);
          seats = h.seats;
          home = λ a. absurd (cc a);
          out = λ a. (ap (λ hs. slice_set hs 0 none) y.1, (id, w, set_there s.views id me.0 w at, ap Some y.3));
        },
        (λ u ut. (
          (λ _. (y.0, ap (λ l. (w, (0, y.0) ∷ l)) empty, subst (λ l. IsPrefix me.0.seen l) (sym y.3) f.seen, (λ g fg. f.fixed g fg ∙ sym y.2))),
          (λ ne. absurd (ne (e ∙ ap (λ (n : ℕ). n % 2 ^ 64) (cc (ticket, ut))))),
        )),
      ))
      (λ ne. (
        me.0,
        keeps,
        tt,
        same_table s 1 id me h at (subst (λ ws. set ws 1 (slice_index ws 1) ≡ ws) (sym h.words) refl),
        (λ u ut. ((λ e. absurd (ne (e ∙ ap (λ (n : ℕ). n % 2 ^ 64) (cc (ut, ticket))))), (λ _. refl))),
      ))

  meeter_fits : (m : Moment F) (id : ℕ) (v : View F) → IsPrefix (first_told v.told) m.log → Fits m id v → Fits m id (met_view v)
  meeter_fits m id v told f = record {
    fixed = f.fixed;
    seen = longer_begins v.seen (first_told v.told) m.log f.seen told;
    told = tt;
    held = f.held;
    different = f.different;
    ticket = f.ticket;
    a_pass = f.a_pass;
    known = f.known;
    maker = f.maker;
  }

  first_begins : (m : Moment F) (id : ℕ) (v : View F) → Fits m id v → (hs : List (List Change)) → v.told ≡ hs → IsPrefix (first_told hs) m.log
  first_begins m id v f [] e = (m.log, refl)
  first_begins m id v f (x ∷ hs) e = (subst (λ l. Rattle.vic_turn.specs.Changes.Each (λ h. IsPrefix h m.log) l) e f.told).0

  pub meets : (slots id : ℕ) (me : Me X (View F)) → Allows (Kept fixed_of changes_of fixed count) slots id me 1 (λ n. n) (Met (step slots 1 0 0 none) me)
  meets slots id me s h long at bound =
      let m = h.m in
      let f = h.fits id me.0 at in
      let told = first_begins m id me.0 f me.0.told refl in
      let w = met_view me.0 in (
        w,
        keeps,
        tt,
        record {
          m = m;
          fixed_is = h.fixed_is;
          words = ap (λ ws. slice_set ws 1 (slice_index ws 1)) h.words;
          tickets = omega (arith, h.tickets, sum_by_at tickets_of s.views id me.0 w at);
          passes = omega (arith, h.passes, sum_by_at passes_of s.views id me.0 w at);
          few = h.few;
          fits = fits_set m s.views id w (λ j u apart a. h.fits j u a) (meeter_fits m id me.0 told f);
          seats = h.seats;
          home = h.home;
          out = λ a. let o = h.out a in (o.0, knower_set s.views id me.0 w m.log at refl o.1);
        },
        (refl, longer_is me.0.seen (first_told me.0.told) m.log f.seen told),
      )
