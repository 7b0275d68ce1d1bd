-- A client's own calls that aren't sealed are completed, each at its place of the path and with its status.
use Rattle.std.specs.Prelude.{◌≡◌, ℕ, ◌≤◌, ◌⊎◌, List, [], ◌∷◌, ◌++◌, length, Some}
use Rattle.std.specs.List.{AllByRecursion}
use Rattle.std.proofs.Common.{refl, subst, sym, ◌∙◌, inl, inr, le_refl}
use Rattle.std.proofs.lemmas.Bool.{cases_eq}
use Rattle.vic_dict.specs.declared.op.Entry.{Entry}
use Rattle.vic_dict.specs.Lists.{front}
use Rattle.vic_wire.specs.Hashes.{Group}
use Rattle.vic_rules.specs.declared.state.Own.{Own}
use Rattle.vic_rules.specs.declared.trace.TraceStep.{TraceStep}
use Rattle.vic_rules.specs.Client.{Standing, is_done}
use Rattle.vic_rules.specs.History.{standing, move_of, AreSteps, Completion, completions}
use Rattle.vic_rules.specs.Views.{confirmation}
use Rattle.vic_laws.proofs.Words.{all_append}
use Rattle.vic_laws.proofs.Steps.{Kind, is_quiet, is_called, is_replied, is_updated, is_listed, call_of}
use Rattle.vic_laws.proofs.Standings.{standing_moved, standing_kept}
use Rattle.vic_laws.proofs.Calls.{kind_of, completed_by, completion_joins}
use Rattle.vic_laws.proofs.Agreement.{confirmed_by}
use Rattle.vic_laws.proofs.Growth.{front_grows, front_whole, confirmed_stays, completions_grow, StandsWithin, Within, stands_within}

-- an own call stands at its position of the path, and is confirmed there with its status
pub record OwnConfirmed (me : ℕ) (cs : List Completion) (p : List Entry) (o : Own) : Type 0 where
  pub entry : Entry
  pub below : List Entry
  pub by : Completion
  pub is : front o.position p ≡ entry ∷ below
  pub client : entry.client ≡ me
  pub op : entry.op ≡ o.op
  pub found : confirmation cs (entry ∷ below) ≡ Some by
  pub done : is_done by.outcome ≡ o.done

own_stays : (me : ℕ) (ds cs : List Completion) (news p : List Entry) (o : Own) → OwnConfirmed me cs p o → o.position ≤ length p → OwnConfirmed me (ds ++ cs) (news ++ p) o
own_stays me ds cs news p o c le = record {
  entry = c.entry;
  below = c.below;
  by = c.by;
  is = front_grows news p o.position le ∙ c.is;
  client = c.client;
  op = c.op;
  found = confirmed_stays ds cs (c.entry ∷ c.below) c.by c.found;
  done = c.done;
}

pub own_stay : (me : ℕ) (ds cs : List Completion) (news p : List Entry) (own : List Own) → AllByRecursion (OwnConfirmed me cs p) own → AllByRecursion (StandsWithin (length p)) own
    → AllByRecursion (OwnConfirmed me (ds ++ cs) (news ++ p)) own
own_stay me ds cs news p [] a w = tt
own_stay me ds cs news p (o ∷ own) a w = (own_stays me ds cs news p o a.0 w.0.1, own_stay me ds cs news p own a.1 w.1)

abbrev AreConfirmed : ℕ → List Completion → Standing → Type 0
AreConfirmed me cs s = AllByRecursion (OwnConfirmed me cs s.path) s.own

-- the own calls after its own step, where the completions have grown
own_kept : (g : Group) (x : TraceStep) (past : List TraceStep) → AreSteps g (x ∷ past) → (ds : List Completion) → completions g (x ∷ past) ≡ ds ++ completions g past
    → AreConfirmed x.client (completions g past) (standing g x.client past) → Within (standing g x.client past)
    → Kind g x.client (standing g x.client past) x.input (move_of g past x)
    → AreConfirmed x.client (completions g (x ∷ past)) (move_of g past x).next
own_kept g x past steps ds more a w (is_quiet k) =
    subst (λ own. AllByRecursion (OwnConfirmed x.client (completions g (x ∷ past)) (move_of g past x).next.path) own) (sym k.own)
    (subst (λ p. AllByRecursion (OwnConfirmed x.client (completions g (x ∷ past)) p) (standing g x.client past).own) (sym k.path)
    (subst (λ cs. AreConfirmed x.client cs (standing g x.client past)) (sym more)
    (own_stay x.client ds (completions g past) [] (standing g x.client past).path (standing g x.client past).own a w.own)))
own_kept g x past steps ds more a w (is_called k) =
    subst (λ v. AreConfirmed x.client (completions g (x ∷ past)) v.next) (sym k.moved)
    (subst (λ cs. AreConfirmed x.client cs (standing g x.client past)) (sym more)
    (own_stay x.client ds (completions g past) [] (standing g x.client past).path (standing g x.client past).own a w.own))
own_kept g x past steps ds more a w (is_replied k) =
    let s = standing g x.client past in
    let p : List Entry = call_of x.client k.seq k.op ∷ (k.others ++ s.path) in
    subst (λ v. AreConfirmed x.client (completions g (x ∷ past)) v.next) (sym k.moved)
    (all_append (OwnConfirmed x.client (completions g (x ∷ past)) p) s.own _
    (subst (λ cs. AllByRecursion (OwnConfirmed x.client cs p) s.own) (sym more)
    (own_stay x.client ds (completions g past) (call_of x.client k.seq k.op ∷ k.others) s.path s.own a w.own)) (
      record {
        entry = call_of x.client k.seq k.op;
        below = k.others ++ s.path;
        by = completed_by k;
        is = front_whole (length p) p (le_refl (length p));
        client = refl;
        op = refl;
        found = confirmed_by g (x ∷ past) steps p (completed_by k) (completion_joins g past x steps.1 k) refl;
        done = refl;
      },
      tt,
    ))
own_kept g x past steps ds more a w (is_updated k) =
    let s = standing g x.client past in
    let b : AllByRecursion (OwnConfirmed x.client (completions g (x ∷ past)) s.path) s.own = subst (λ cs. AreConfirmed x.client cs s) (sym more) (own_stay x.client ds (completions g past) [] s.path s.own a w.own) in
    subst (λ v. AreConfirmed x.client (completions g (x ∷ past)) v.next) (sym k.moved) (subst (AllByRecursion (OwnConfirmed x.client (completions g (x ∷ past)) s.path)) k.own_is b).1
own_kept g x past steps ds more a w (is_listed k) =
    let s = standing g x.client past in
    subst (λ v. AreConfirmed x.client (completions g (x ∷ past)) v.next) (sym k.moved)
    (subst (λ cs. AllByRecursion (OwnConfirmed x.client cs (k.others ++ s.path)) s.own) (sym more)
    (own_stay x.client ds (completions g past) k.others s.path s.own a w.own))

-- each own call that isn't sealed is confirmed
pub own_confirmed : (g : Group) (h : List TraceStep) → AreSteps g h → (me : ℕ) → AreConfirmed me (completions g h) (standing g me h)
unfolding standing
own_confirmed g [] steps me = tt
own_confirmed g (x ∷ past) steps me = now (cases_eq x.client me) (own_confirmed g past steps.0 x.client) (own_confirmed g past steps.0 me)
  where
    more : (ds : List Completion) × (completions g (x ∷ past) ≡ ds ++ completions g past)
    more = completions_grow g (x ∷ []) past

    now : (x.client ≡ me) ⊎ (x.client ≡ me → ⊥) → AreConfirmed x.client (completions g past) (standing g x.client past) → AreConfirmed me (completions g past) (standing g me past)
        → AreConfirmed me (completions g (x ∷ past)) (standing g me (x ∷ past))
    now (inl e) mine other = subst (λ j. AreConfirmed j (completions g (x ∷ past)) (standing g j (x ∷ past))) e
        (subst (AreConfirmed x.client (completions g (x ∷ past))) (sym (standing_moved g x.client x past refl))
        (own_kept g x past steps more.0 more.1 mine (stands_within g past steps.0 x.client) (kind_of g past x steps.1)))
    now (inr e) mine other = subst (AreConfirmed me (completions g (x ∷ past))) (sym (standing_kept g me x past e))
        (subst (λ cs. AreConfirmed me cs (standing g me past)) (sym more.1)
        (own_stay me more.0 (completions g past) [] (standing g me past).path (standing g me past).own other (stands_within g past steps.0 me).own))
