-- What a pass is after it met a note.
use Rattle.std.proofs.Common.{◌≡◌, ℕ, List, [], ◌∷◌, ◌++◌, Some, sym, ap, ◌∙◌, subst, append-nil}
use Rattle.atomic_table.specs.Table.{Me}
use Rattle.vic_change.specs.declared.Change.{Change}
use Rattle.vic_turn.specs.declared.view.View.{View}
use Rattle.vic_turn.specs.Told.{IsLonger, joined_view, first_told, met_view}
use Rattle.vic_turn.specs.Passes.{first_list, IsIdle, IsNote}

module _ {X F : Type 0} (n : ℕ) (old note both new : Me X (View F)) (idle : IsIdle n old) (plain : IsNote note) (join : both ≡ (joined_view old.0 note.0, old.1)) (told : (new ≡ (met_view both.0, both.1)) × IsLonger both.0.seen (first_told both.0.told) new.0.seen) where
  after : new ≡ (met_view (joined_view old.0 note.0), old.1)
  after = told.0 ∙ ap (λ (m : Me X (View F)). (met_view m.0, m.1)) join

  held_is : new.0.held ≡ old.0.held
  held_is = ap (λ (m : Me X (View F)). m.0.held) after ∙ ap (λ l. old.0.held ++ l) plain.3 ∙ append-nil old.0.held

  pub idle_still : IsIdle n new
  idle_still = (
    ap (λ (m : Me X (View F)). m.1) after ∙ idle.0,
    ap (λ (m : Me X (View F)). m.0.ticket) after ∙ idle.1,
    ap (λ (m : Me X (View F)). m.0.known) after ∙ idle.2,
    ap (λ (m : Me X (View F)). m.0.told) after,
    held_is ∙ idle.4 ∙ ap (λ l. (n, first_list l) ∷ []) (sym held_is),
  )

  pub same_fixed : (f : F) → old.0.fixed ≡ Some f → new.0.fixed ≡ Some f
  same_fixed f of = ap (λ (m : Me X (View F)). m.0.fixed) after ∙ of

  pub same_mine : first_list new.0.held ≡ first_list old.0.held
  same_mine = ap first_list held_is

  told_is : first_told both.0.told ≡ note.0.seen
  told_is = ap (λ (m : Me X (View F)). first_told m.0.told) join ∙ ap (λ l. first_told (l ++ note.0.seen ∷ [])) idle.3

  pub longer_seen : IsLonger old.0.seen note.0.seen new.0.seen
  longer_seen =
      let P : List Change × List Change → Type 0 = λ p. IsLonger p.0 p.1 new.0.seen in
      subst P (λ i. (ap (λ (m : Me X (View F)). m.0.seen) join i, told_is i)) told.1
