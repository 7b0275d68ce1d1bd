-- One whole turn: what is known when the value is handed on, and afterwards.
use Rattle.std.proofs.Common.{◌≡◌, ℕ, List, [], ◌∷◌, ◌++◌, get_or, Option, Some, None, Result, Ok, Err, refl, sym, ap, ◌∙◌, subst, append-nil}
use Rattle.std.specs.Prelude.{IfOk, OnErr}
use mathlib.Core.List.{IsPrefix}
use Rattle.atomic_table.specs.Table.{Me}
use Rattle.atomic_table.specs.Seated.{TableId}
use Rattle.vic_change.specs.declared.Change.{Change}
use Rattle.vic_turn.specs.declared.view.View.{View}
use Rattle.vic_change.specs.Changes.{change_added}
use Rattle.vic_turn.specs.Changes.{Each}
use Rattle.vic_turn.specs.Told.{lists_with_changes, with_ticket, with_known, turn_over, TurnCame}
use Rattle.vic_turn.specs.Passes.{first_list, pass_view, IsIdle, Applied, Hands, Answers, Refuses}
use Rattle.vic_turn.proofs.Histories.{prefix_trans}

each_added : (n : ℕ) (o : Option (ℕ × List ℕ)) → Each (λ c. c.seat ≡ n) (change_added n o)
each_added n None = tt
each_added n (Some c) = (refl, tt)

module _ {X F Y E : Type 0} (fixed_of : X → F) (changes_of : X → List Change) (replies : F → List Change → ℕ → List ℕ → Y) (records : F → List Change → ℕ → List ℕ → ℕ → Option (ℕ × List ℕ)) where
  -- what the value's step told, at the history k
  pub record Grew (fixed : F) (n who : ℕ) (payload : List ℕ) (k log : List Change) (result : Result Y E) : Type 0 where
    pub d : List Change
    pub is : log ≡ k ++ d
    pub own : Each (λ c. c.seat ≡ n) d
    pub reply : IfOk result (λ r. r ≡ replies fixed k who payload)
    pub change : IfOk result (λ _. d ≡ change_added n (records fixed k who payload n))
    pub refused : OnErr result (d ≡ [])

  grew : (n who : ℕ) (payload : List ℕ) (y z : X) (result : Result Y E) → Applied fixed_of changes_of replies records n who payload y result z → Grew (fixed_of y) n who payload (changes_of y) (changes_of z) result
  grew n who payload y z (Ok r) a = record { d = change_added n (records (fixed_of y) (changes_of y) who payload n); is = a.change; own = each_added n (records (fixed_of y) (changes_of y) who payload n); reply = a.reply; change = refl; refused = tt }
  grew n who payload y z (Err e) a = record { d = []; is = a.refused ∙ sym (append-nil (changes_of y)); own = tt; reply = tt; change = tt; refused = refl }

  -- the turn so far
  pub record Played (fixed : F) (n who : ℕ) (payload : List ℕ) (old now : Me X (View F)) (result : Result Y E) : Type 0 where
    pub z : X
    pub k : List Change
    pub t : ℕ
    pub has : now.1 ≡ (0, z) ∷ []
    pub view : now.0 ≡ with_known (with_ticket old.0 t) k
    pub fixed_is : fixed_of z ≡ fixed
    pub begins : IsPrefix old.0.seen k
    pub grew : Grew fixed n who payload k (changes_of z) result

  pub played : (fixed : F) (n who : ℕ) (payload : List ℕ) (old drew came now : Me X (View F)) (t : ℕ) (result : Result Y E)
      → old.0.fixed ≡ Some fixed → drew ≡ (with_ticket old.0 t, old.1) → TurnCame fixed_of changes_of drew came → now.0 ≡ came.0
      → ((y : X) × (z : X) × (came.1 ≡ (0, y) ∷ []) × (now.1 ≡ (0, z) ∷ []) × Applied fixed_of changes_of replies records n who payload y result z)
      → Played fixed n who payload old now result
  played fixed n who payload old drew came now t result of drew_is c same a =
      let y = c.0 in
      let z = a.1 in
      let one : a.0 ≡ y = ap (λ (l : List (ℕ × X)). (get_or l 0 (0, y)).1) (sym a.2 ∙ ap (λ (m : Me X (View F)). m.1) c.1) in
      let fixed_y : fixed ≡ fixed_of y = c.3 fixed (ap (λ (m : Me X (View F)). m.0.fixed) drew_is ∙ of) in
      let step = subst (λ (x : X). Applied fixed_of changes_of replies records n who payload x result z) one a.4 in
      record {
        z = z;
        k = changes_of y;
        t = t;
        has = a.3;
        view = same ∙ ap (λ (m : Me X (View F)). m.0) c.1 ∙ ap (λ (m : Me X (View F)). with_known m.0 (changes_of y)) drew_is;
        fixed_is = step.kept ∙ sym fixed_y;
        begins = subst (λ (m : Me X (View F)). IsPrefix m.0.seen (changes_of y)) drew_is c.2;
        grew = subst (λ (f : F). Grew f n who payload (changes_of y) (changes_of z) result) (sym fixed_y) (grew n who payload y z result step);
      }

  module _ (fixed : F) (n who : ℕ) (payload : List ℕ) (old now : Me X (View F)) (result : Result Y E) (idle : IsIdle n old) (p : Played fixed n who payload old now result) where
    pub may_hand_on : Hands fixed_of changes_of fixed now
    may_hand_on =
        let g = p.grew in
        (p.z, p.k, g.d, n, first_list old.0.held, p.has, ap (λ (v : View F). v.known) p.view, g.is, p.fixed_is, ap (λ (v : View F). v.held) p.view ∙ idle.4, g.own)

    module _ (new : Me X (View F)) (over : (y : X) (k d : List Change) → now.1 ≡ (0, y) ∷ [] → now.0.known ≡ Some k → changes_of y ≡ k ++ d → new ≡ (turn_over now.0 (changes_of y) d, [])) where
      after : new ≡ (turn_over (with_known (with_ticket old.0 p.t) p.k) (changes_of p.z) p.grew.d, [])
      after = over p.z p.k p.grew.d p.has (ap (λ (v : View F). v.known) p.view) p.grew.is ∙ ap (λ (v : View F). (turn_over v (changes_of p.z) p.grew.d, [])) p.view

      held_is : new.0.held ≡ (n, first_list old.0.held ++ p.grew.d) ∷ []
      held_is = ap (λ (m : Me X (View F)). m.0.held) after ∙ ap (lists_with_changes p.grew.d) idle.4

      pub idle_again : IsIdle n new
      idle_again = (
        ap (λ (m : Me X (View F)). m.1) after,
        ap (λ (m : Me X (View F)). m.0.ticket) after,
        ap (λ (m : Me X (View F)). m.0.known) after,
        ap (λ (m : Me X (View F)). m.0.told) after ∙ idle.3,
        held_is ∙ ap (λ l. (n, first_list l) ∷ []) (sym held_is),
      )

      pub same_fixed : old.0.fixed ≡ Some fixed → new.0.fixed ≡ Some fixed
      same_fixed of = ap (λ (m : Me X (View F)). m.0.fixed) after ∙ of

      seen_is : new.0.seen ≡ p.k ++ p.grew.d
      seen_is = ap (λ (m : Me X (View F)). m.0.seen) after ∙ p.grew.is

      mine_is : first_list new.0.held ≡ first_list old.0.held ++ p.grew.d
      mine_is = ap first_list held_is

      pub answers : (id id' : TableId) → IfOk result (Answers replies records fixed (pass_view id n old) who payload (pass_view id' n new))
      answers id id' = by_case result p.grew.reply p.grew.change
        where
          by_case : (r : Result Y E) → IfOk r (λ x. x ≡ replies fixed p.k who payload) → IfOk r (λ _. p.grew.d ≡ change_added n (records fixed p.k who payload n)) → IfOk r (Answers replies records fixed (pass_view id n old) who payload (pass_view id' n new))
          by_case (Ok x) reply change = (p.k, p.begins, reply, seen_is ∙ ap (λ l. p.k ++ l) change, mine_is ∙ ap (λ l. first_list old.0.held ++ l) change)
          by_case (Err e) reply change = tt

      pub refuses : (id id' : TableId) → OnErr result (Refuses (pass_view id n old) (pass_view id' n new))
      refuses id id' = by_case result p.grew.refused
        where
          by_case : (r : Result Y E) → OnErr r (p.grew.d ≡ []) → OnErr r (Refuses (pass_view id n old) (pass_view id' n new))
          by_case (Ok x) none = tt
          by_case (Err e) none = (prefix_trans old.0.seen p.k new.0.seen p.begins (p.grew.d, sym seen_is), mine_is ∙ ap (λ l. first_list old.0.held ++ l) none ∙ append-nil (first_list old.0.held))
