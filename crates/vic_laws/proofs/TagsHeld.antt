-- What a client takes came with the tags that it should.
use Rattle.std.specs.Prelude.{◌≡◌, ℕ, true, List, [], ◌∷◌, ◌++◌, Some, None}
use Rattle.std.proofs.Common.{refl, ap, subst, sym, ◌∙◌, inl, inr}
use Rattle.vic_dict.specs.declared.op.Entry.{Entry}
use Rattle.vic_dict.specs.Lists.{IsIn}
use Rattle.vic_wire.specs.declared.message.Seal.{Seal}
use Rattle.vic_wire.specs.declared.message.Tagged.{Tagged}
use Rattle.vic_wire.specs.declared.message.ToClient.{ToClient}
use Rattle.vic_wire.specs.declared.message.ToClient.TheVariants as say
use Rattle.vic_wire.specs.Texts.{invoke_text}
use Rattle.vic_wire.specs.Hashes.{Group, tag_of}
use Rattle.vic_rules.specs.declared.trace.Input.{Input}
use Rattle.vic_rules.specs.declared.trace.TraceStep.{TraceStep}
use Rattle.vic_rules.specs.Client.{Standing, Move, entries_of, seal_of, seal_text_on, is_tagged}
use Rattle.vic_rules.specs.History.{standing, path, move_of, AreSteps, IsStep}
use Rattle.vic_rules.specs.Trust.{answer_taken, answer_unless_halted}
use Rattle.vic_laws.specs.Claims.{TagsOf}
use Rattle.vic_laws.proofs.Words.{some_same, none_is_some, all_true, all_at, bytes_same}
use Rattle.vic_laws.proofs.Steps.{Passes, Sealing, Kind, is_quiet, is_called, is_replied, is_updated, is_listed}
use Rattle.vic_laws.proofs.StepKinds.{step_kind}
use Rattle.vic_laws.proofs.Standings.{standing_moved, earlier_steps}

tag_told : (key : List ℕ) (t : Tagged) → is_tagged key t ≡ true → t.tag.bytes ≡ tag_of key (invoke_text t.entry)
tag_told key t e = bytes_same t.tag.bytes (tag_of key (invoke_text t.entry)) e

-- the checks of tags and of the seal show the tags
tags_shown : (g : Group) (me : ℕ) (s : Standing) (p : List Entry) (m : ToClient) (seal : Seal) → seal_of m ≡ Some seal → Passes g me s m → Sealing g s p seal → TagsOf g p m
tags_shown g me s p m seal e passes sealing = record {
  entries = λ t i. all_at (λ u. u.tag.bytes ≡ tag_of g.key (invoke_text u.entry)) (entries_of m) t
      (all_true (is_tagged g.key) (λ u. u.tag.bytes ≡ tag_of g.key (invoke_text u.entry)) (tag_told g.key) (entries_of m) passes.tags) i;
  seal = λ z f apart. subst (λ y. (y.position ≡ 0 → ⊥) → y.tag.bytes ≡ tag_of g.key (seal_text_on g p y.position y.root.bytes)) (some_same (sym e ∙ f))
      (λ away. elim sealing.tag [ inl zero ↦ absurd (away zero) | inr held ↦ held ]) apart;
}

nothing_taken : (g : Group) (p : List Entry) (m : ToClient) → (seal_of m ≡ None) × (entries_of m ≡ []) → TagsOf g p m
nothing_taken g p m e = record {
  entries = λ t i. absurd (subst (λ ts. IsIn ts t) e.1 i);
  seal = λ s f apart. absurd (none_is_some (sym e.0 ∙ f));
}

kind_tags : (g : Group) (me : ℕ) (s : Standing) (i : Input) (v : Move) → Kind g me s i v → (m : ToClient) → answer_unless_halted v.next i ≡ Some m → TagsOf g v.next.path m
kind_tags g me s i v (is_quiet k) m e = nothing_taken g v.next.path m (k.seals_nothing m e)
kind_tags g me s i v (is_called k) m e = nothing_taken g v.next.path m (subst (λ x. (seal_of x ≡ None) × (entries_of x ≡ [])) (sym (k.takes m e)) (refl, refl))
kind_tags g me s i v (is_replied k) m e =
    subst (λ p. TagsOf g p m) (ap (λ w. w.next.path) (sym k.moved)) (subst (TagsOf g _) (some_same (sym k.takes ∙ e)) (tags_shown g me s _ (say.Reply k.seal k.entries k.bytes) k.seal refl k.passes k.sealing))
kind_tags g me s i v (is_updated k) m e =
    subst (λ p. TagsOf g p m) (ap (λ w. w.next.path) (sym k.moved)) (subst (TagsOf g _) (some_same (sym k.takes ∙ e)) (tags_shown g me s _ (say.Update k.seal k.bytes) k.seal refl k.passes k.sealing))
kind_tags g me s i v (is_listed k) m e =
    subst (λ p. TagsOf g p m) (ap (λ w. w.next.path) (sym k.moved)) (subst (TagsOf g _) (some_same (sym k.takes ∙ e)) (tags_shown g me s _ (say.Entries k.seal k.entries) k.seal refl k.passes k.sealing))

-- at each step the answer that was taken had the right tags
pub tags_at : (g : Group) (x : TraceStep) (past : List TraceStep) → IsStep g past x → (m : ToClient) → answer_taken g past x ≡ Some m → TagsOf g (path g x.client (x ∷ past)) m
unfolding answer_taken
tags_at g x past is m e = subst (λ s. TagsOf g s.path m) (sym (standing_moved g x.client x past refl))
    (kind_tags g x.client (standing g x.client past) x.input (move_of g past x) (step_kind g x.client (standing g x.client past) x.input is.may) m e)

pub tags_hold : (g : Group) (h : List TraceStep) → AreSteps g h → (later : List TraceStep) (x : TraceStep) (past : List TraceStep) → h ≡ later ++ x ∷ past
    → (m : ToClient) → answer_taken g past x ≡ Some m → TagsOf g (path g x.client (x ∷ past)) m
tags_hold g h steps later x past e m t = tags_at g x past (earlier_steps g later (x ∷ past) (subst (AreSteps g) e steps)).1 m t
