-- What a client calls is what it was asked for, and it calls what it is asked for.
use Rattle.std.specs.Prelude.{◌≡◌, ℕ, suc, ◌+◌, Bool, List, [], ◌∷◌, Option, Some, None, if◌then◌else◌}
use Rattle.std.proofs.Common.{refl, ap, subst, sym, ◌∙◌, inl, inr, arith}
use Rattle.std.proofs.lemmas.Bool.{cases_eq, eq-eqb, ne_eqb}
use Rattle.vic_dict.specs.declared.op.Op.{Op}
use Rattle.vic_dict.specs.declared.op.Op.TheVariants as op
use Rattle.vic_wire.specs.declared.message.ToClient.TheVariants as say
use Rattle.vic_wire.specs.Hashes.{Group}
use Rattle.vic_rules.specs.declared.object.ObjectCall.TheVariants as object
use Rattle.vic_rules.specs.declared.trace.Input.{Input}
use Rattle.vic_rules.specs.declared.trace.Input.TheVariants as input
use Rattle.vic_rules.specs.declared.trace.TraceStep.{TraceStep}
use Rattle.vic_rules.specs.Objects.{content_hash, reference_text}
use Rattle.vic_rules.specs.Client.{Standing, Move, Sending, Invokes, Commits, Polls, Seals, Syncs, Keeps, Fetches, step}
use Rattle.vic_rules.specs.History.{standing, move_of, IsStep, AreSteps}
use Rattle.vic_rules.specs.Views.{AsksFor}
use Rattle.vic_rules.specs.Trust.{answer_taken}
use Rattle.vic_laws.specs.ByCases.{TakesAnswer}
use Rattle.vic_laws.specs.AskedClaims.{one_call, calls_made, StoresBefore, CallsAreAsked, CallsWhatItIsAsked, AskedAreCalled}
use Rattle.vic_laws.specs.Limits.{NothingIsOpen}
use Rattle.vic_laws.proofs.Standings.{standing_moved, standing_kept, earlier_steps}
use Rattle.vic_laws.proofs.Steps.{Kind, is_quiet, is_called, is_replied, is_updated, is_listed}
use Rattle.vic_laws.proofs.Calls.{kind_of, called_if}
use Rattle.vic_laws.proofs.Phases.{Puts, Together, at_rest}
use Rattle.vic_laws.proofs.ByCases.{took_is}
use Rattle.vic_laws.proofs.Endings.{ending_at}
use Rattle.vic_laws.proofs.Contents.{AskedToStore, keeping_asked, all_together, phased_at}

-- ---- how many calls a client made

-- what isn't a call counts as none
no_call : (o : Option Sending) → ((n : ℕ) (q : Op) → o ≡ Some (Invokes n q) → ⊥) → one_call o ≡ 0
no_call None none = refl
no_call (Some (Invokes n q)) none = absurd (none n q refl)
no_call (Some (Commits done)) none = refl
no_call (Some Polls) none = refl
no_call (Some Seals) none = refl
no_call (Some Syncs) none = refl
no_call (Some (Keeps content)) none = refl
no_call (Some (Fetches h)) none = refl

counted_by : (g : Group) (me : ℕ) (s : Standing) (i : Input) (v : Move) → Kind g me s i v → v.next.calls ≡ one_call v.sends + s.calls
counted_by g me s i v (is_quiet q) = let none : one_call v.sends ≡ 0 = no_call v.sends q.calls_nothing in let same : v.next.calls ≡ s.calls = q.calls in omega arith
counted_by g me s i v (is_called a) = subst (λ (m : Move). m.next.calls ≡ one_call m.sends + s.calls) (sym a.moved) (omega arith)
counted_by g me s i v (is_replied r) = subst (λ (m : Move). m.next.calls ≡ one_call m.sends + s.calls) (sym r.moved) (omega arith)
counted_by g me s i v (is_updated u) = subst (λ (m : Move). m.next.calls ≡ one_call m.sends + s.calls) (sym u.moved) (omega arith)
counted_by g me s i v (is_listed l) = subst (λ (m : Move). m.next.calls ≡ one_call m.sends + s.calls) (sym l.moved) (omega arith)

made_own : (g : Group) (x : TraceStep) (past : List TraceStep) → IsStep g past x → (standing g x.client past).calls ≡ calls_made g x.client past
    → (standing g x.client (x ∷ past)).calls ≡ calls_made g x.client (x ∷ past)
unfolding calls_made
made_own g x past is before =
    let v : Move = move_of g past x in
    let now : calls_made g x.client (x ∷ past) ≡ one_call v.sends + calls_made g x.client past =
    ap (λ (b : Bool). if b then one_call v.sends + calls_made g x.client past else calls_made g x.client past) (eq-eqb x.client x.client refl) in
    let calls : (standing g x.client (x ∷ past)).calls ≡ v.next.calls = ap (λ (s : Standing). s.calls) (standing_moved g x.client x past refl) in
    let one : v.next.calls ≡ one_call v.sends + (standing g x.client past).calls = counted_by g x.client (standing g x.client past) x.input v (kind_of g past x is) in
    omega arith

made_other : (g : Group) (me : ℕ) (x : TraceStep) (past : List TraceStep) → (x.client ≡ me → ⊥) → (standing g me past).calls ≡ calls_made g me past
    → (standing g me (x ∷ past)).calls ≡ calls_made g me (x ∷ past)
unfolding calls_made
made_other g me x past differ before =
    let now : calls_made g me (x ∷ past) ≡ calls_made g me past =
    ap (λ (b : Bool). if b then one_call (move_of g past x).sends + calls_made g me past else calls_made g me past) (ne_eqb x.client me differ) in
    ap (λ (s : Standing). s.calls) (standing_kept g me x past differ) ∙ (before ∙ sym now)

-- a client's count of its calls is how many of its steps called an operation
pub calls_are_made : (g : Group) (h : List TraceStep) → AreSteps g h → (me : ℕ) → (standing g me h).calls ≡ calls_made g me h
unfolding standing calls_made
calls_are_made g [] steps me = refl
calls_are_made g (x ∷ past) steps me = elim (cases_eq x.client me) [
  | inl same ↦ subst (λ (m : ℕ). (standing g m (x ∷ past)).calls ≡ calls_made g m (x ∷ past)) same (made_own g x past steps.1 (calls_are_made g past steps.0 x.client))
  | inr differ ↦ made_other g me x past differ (calls_are_made g past steps.0 me)
]

-- ---- each call was asked for

stored_before : (g : Group) (x : TraceStep) (past : List TraceStep) (o : Op) → AreSteps g past → Puts (standing g x.client past) o → StoresBefore past x.client o
stored_before g x past o steps p =
    let w : AskedToStore g past x.client p.name p.h p.len = keeping_asked g past steps x.client p.name p.h p.len p.alive p.keeping in
    record {
      between = w.between;
      asked = w.asked;
      before = w.past;
      since = w.is;
      quiet = w.quiet;
      owner = w.owner;
      name = p.name;
      content = w.content;
      stores = w.stores;
      is = p.is ∙ ap (op.Put p.name) (ap (λ (b : List ℕ). reference_text b p.len) w.hash_is ∙ ap (reference_text (content_hash w.content)) w.length_is);
    }

next_number : (g : Group) (x : TraceStep) (past : List TraceStep) → AreSteps g past → (standing g x.client past).calls + 1 ≡ suc (calls_made g x.client past)
next_number g x past steps = let same : (standing g x.client past).calls ≡ calls_made g x.client past = calls_are_made g past steps x.client in omega arith

pub calls_are_asked : CallsAreAsked
calls_are_asked g h lawful later x past is seq o sends =
    let now : AreSteps g (x ∷ past) = earlier_steps g later (x ∷ past) (subst (AreSteps g) is lawful.steps) in
    let called = called_if g x.client (standing g x.client past) x.input (move_of g past x) (kind_of g past x now.1) seq o sends in
    record {
      number = sym called.1.0 ∙ next_number g x past now.0;
      asked = elim ((phased_at g x past now).calls seq o sends) [ inl a ↦ inl a | inr p ↦ inr (stored_before g x past o now.0 p) ];
    }

-- ---- what is asked for is called

-- what a step sends by its input
sends_by : (g : Group) (past : List TraceStep) (x : TraceStep) (i : Input) → x.input ≡ i → (move_of g past x).sends ≡ (step g x.client (standing g x.client past) i).sends
sends_by g past x i e = ap (λ (j : Input). (step g x.client (standing g x.client past) j).sends) e

calls_now : (g : Group) (x : TraceStep) (past : List TraceStep) → AreSteps g past → (i : Input) (o : Op) → x.input ≡ i
    → (step g x.client (standing g x.client past) i).sends ≡ Some (Invokes ((standing g x.client past).calls + 1) o) → (move_of g past x).sends ≡ Some (Invokes (suc (calls_made g x.client past)) o)
calls_now g x past steps i o e sends = sends_by g past x i e ∙ (sends ∙ ap (λ (n : ℕ). Some (Invokes n o)) (next_number g x past steps))

-- a payload asks for nothing
kept_asks : (g : Group) (past : List TraceStep) (x : TraceStep) (o : Op) → TakesAnswer g past x say.Kept → AsksFor x.input o → ⊥
kept_asks g past x o t asks = subst (λ (i : Input). AsksFor i o) t.came asks

put_now : (g : Group) (x : TraceStep) (past : List TraceStep) → AreSteps g (x ∷ past) → answer_taken g past x ≡ Some say.Kept
    → (o : Op) × ((move_of g past x).sends ≡ Some (Invokes (suc (calls_made g x.client past)) o)) × StoresBefore past x.client o
unfolding answer_taken
put_now g x past steps it =
    let w = (ending_at g x past steps).kept it in (
      w.0,
      w.1 ∙ ap (λ (n : ℕ). Some (Invokes n w.0)) (next_number g x past steps.0),
      elim ((phased_at g x past steps).calls ((standing g x.client past).calls + 1) w.0 w.1) [
        | inl a ↦ absurd (kept_asks g past x w.0 ((took_is g past x say.Kept).0 it) a)
        | inr p ↦ stored_before g x past w.0 steps.0 p
      ],
    )

pub calls_what_it_is_asked : (g : Group) (x : TraceStep) (past : List TraceStep) → AreSteps g (x ∷ past) → CallsWhatItIsAsked g past x
unfolding step
calls_what_it_is_asked g x past steps = record {
  call = λ o e. calls_now g x past steps.0 (input.Call o) o e refl;
  load = λ name e. calls_now g x past steps.0 (input.Object (object.Load name)) (op.Get name) e refl;
  erase = λ name e. calls_now g x past steps.0 (input.Object (object.Erase name)) (op.Del name) e refl;
  names = λ prefix e. calls_now g x past steps.0 (input.Object (object.Names prefix)) (op.List prefix) e refl;
  store = λ name content e. sends_by g past x (input.Object (object.Store name content)) e;
  put = λ it. put_now g x past steps it;
}

pub asked_are_called : AskedAreCalled
asked_are_called g h lawful later x past is = calls_what_it_is_asked g x past (earlier_steps g later (x ∷ past) (subst (AreSteps g) is lawful.steps))

-- ---- what is open

pub nothing_is_open : NothingIsOpen
nothing_is_open g h lawful me e = at_rest (standing g me h).phase (subst (Together (standing g me h).phase) e (all_together g h lawful.steps me))
