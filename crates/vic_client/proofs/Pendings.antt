-- Steps that are pending.
use Rattle.std.proofs.Common.{if◌then◌else◌, Bool, ◌&&◌, true, false, IsTrue, true≢false, is_none, ◌≡◌, ℕ, ◌-◌, ◌≤◌, ◌<◌, List, [], ◌∷◌, ◌++◌, length, Result, Ok, Err, IfOk, Option, Some, None, refl, sym, ap, ◌∙◌, subst, arith, length-append}
use Rattle.std.proofs.lemmas.List.{length-take}
use Rattle.std.proofs.lemmas.Grind.{common_steps}
use Rattle.vic_dict.specs.declared.bytes.NoMemory.{NoMemory}
use Rattle.vic_dict.specs.declared.op.Outcome.{Outcome}
use Rattle.vic_dict.specs.declared.op.Outcome.TheVariants as outcome
use Rattle.vic_dict.specs.declared.op.Answer.{Answer}
use Rattle.vic_dict.specs.declared.op.Answer.TheVariants as answer
use Rattle.vic_rules.specs.declared.object.Phase.{Phase}
use Rattle.vic_rules.specs.declared.object.Phase.TheVariants as phase
use Rattle.vic_rules.specs.Objects.{ObjectStep, step_on_answer, is_reference, after_decision}
use Rattle.vic_wire.specs.declared.message.Digest32.{Digest32}
use Rattle.vic_chain.specs.Held.{Held, held_length, held_sealed_at, held_cut_to}
use Rattle.vic_rules.specs.declared.state.Own.{Own}
use Rattle.vic_rules.specs.declared.trace.Input.{Input}
use Rattle.vic_rules.specs.declared.trace.Input.TheVariants as input
use Rattle.vic_rules.specs.Client.{Standing, Move, move_to_halt, awaits_nothing}
use Rattle.vic_checks.specs.declared.state.State.{State}
use Rattle.vic_checks.specs.State.{StandsForState}
use Rattle.vic_client.specs.declared.pending.Effect.{Effect}
use Rattle.vic_client.specs.declared.pending.Effect.TheVariants as effect
use Rattle.vic_client.specs.declared.pending.Pending.{Pending}
use Rattle.vic_client.specs.Kept.{KeptClient, StandsFor, IsSameClient, is_idle, kept_move}
use Rattle.vic_client.specs.Kept.{kept_group}
use Rattle.vic_client.specs.Shows.{Shows}
use Rattle.vic_client.specs.Pending.{after_keeping, after_forgetting, but_newest, phase_turned, IsSoundKept, IsPendingOf, HasPending}
use Rattle.vic_client.specs.Sound.{OwnWithin, PhaseFits}
use Rattle.vic_client.specs.Hearing.{IsSoundState, kept_of_state, IsPendingIn, StandsIn, Hears}
use Rattle.vic_client.proofs.Moved.{payload_halted, own_grows, own_joins}

-- without the newest call that joined them, the own calls are as before
pub but_newest_joined : (own : List Own) (o : Own) → but_newest (own ++ o ∷ []) ≡ own
but_newest_joined own o = grind (arith, common_steps)

-- a client stays sound where its path grows and a call at its end joins the own calls
pub joined_sound : (old : State) (w : Held) (o : Own) → IsSoundState old → o.position ≡ held_length w → held_length old.window < held_length w
    → IsSoundState (record old { window = w; own = old.own ++ o ∷ [] })
joined_sound old w o sound end more = record {
  member = sound.member;
  awaited = sound.awaited;
  within = own_joins (held_length w) old.own o (own_grows (held_length old.window) (held_length w) old.own (omega arith) sound.within) (omega (arith, end));
  few = omega (arith, length-append old.own (o ∷ []), sound.few, more);
}

-- after a Reply: the window goes back to the old one, its seal can move, and a call at its end has joined the own calls
pub replies_pending : (old : State) (w : Held) (o : Own) (n position : ℕ) (root : Digest32) (turned : Option Phase) (calls : ℕ) (p : Phase) → IsSoundState old → PhaseFits calls p
    → PhaseFits calls (phase_turned p turned) → held_cut_to w n ≡ old.window
    → w.sealed ≤ position → position ≤ held_length w → o.position ≡ held_length w → held_length old.window < held_length w → w.sealed ≤ n
    → IsPendingIn old calls p (effect.Replies n position root turned) (record old { window = w; own = old.own ++ o ∷ [] })
replies_pending old w o n position root turned calls p sound fits after back above within end more cut =
    let size : held_length (held_sealed_at w position root.bytes) ≡ held_length w = omega (arith, length-take (held_length w - position) w.links) in
    let here = joined_sound old w o sound end more in
    let goes : after_forgetting (effect.Replies n position root turned) (kept_of_state (record old { window = w; own = old.own ++ o ∷ [] }) calls p) ≡ kept_of_state old calls p =
    ap (λ (x : Held). kept_of_state (record old { window = x; own = but_newest (old.own ++ o ∷ []) }) calls p) back
    ∙ ap (λ (l : List Own). kept_of_state (record old { own = l }) calls p) (but_newest_joined old.own o) in
    record {
      can = record {
        window = ((above, within), cut);
        keeps = (
          record {
            member = sound.member;
            awaited = tt;
            within = subst (λ (m : ℕ). OwnWithin m (old.own ++ o ∷ [])) (sym size) here.within;
            few = subst (λ (m : ℕ). length (old.own ++ o ∷ []) ≤ m) (sym size) here.few;
          },
          after,
        );
        forgets = subst (λ (k : KeptClient). IsSoundKept k) (sym goes) (sound, fits);
      };
      back = goes;
    }

-- a client that halts shows the move of a halt
pub hears_halts : (x : State) (p : Pending) (s : Standing) (v : Move) (k : ℕ) → p ≡ record { step = record { send = None; returned = Some (outcome.Halted k); object = None }; effect = effect.Halts k }
    → StandsForState x s → v ≡ move_to_halt s k → Hears x p x s v
hears_halts x p s v k is st halting =
    subst (λ (q : Pending). Hears x q x s v) (sym is) (subst (λ (m : Move). Hears x (record { step = record { send = None; returned = Some (outcome.Halted k); object = None }; effect = effect.Halts k }) x s m) (sym halting) (record {
      send = refl;
      returned = refl;
      object = refl;
      stands = record { path = st.path; sealed = st.sealed; root = st.root; own = st.own; awaiting = st.awaiting; calls = refl; phase = refl; halted = refl };
    }))

-- a client that can go back to the old one is the same client of the same group, and so is what it becomes
same_kept : (e : Effect) (old new : KeptClient) → after_forgetting e new ≡ old → IsSameClient old (after_keeping e new)
same_kept effect.Stays old new back = record { id = ap (λ (c : KeptClient). c.id) back; group = ap kept_group back }
same_kept (effect.Halts check) old new back = record { id = ap (λ (c : KeptClient). c.id) back; group = ap kept_group back }
same_kept (effect.Asks awaiting calls turned) old new back = record { id = ap (λ (c : KeptClient). c.id) back; group = ap kept_group back }
same_kept (effect.Awaits awaiting) old new back = record { id = ap (λ (c : KeptClient). c.id) back; group = ap kept_group back }
same_kept effect.Ends old new back = record { id = ap (λ (c : KeptClient). c.id) back; group = ap kept_group back }
same_kept (effect.Replies n position root turned) old new back = record { id = ap (λ (c : KeptClient). c.id) back; group = ap kept_group back }
same_kept (effect.Seals position root) old new back = record { id = ap (λ (c : KeptClient). c.id) back; group = ap kept_group back }
same_kept (effect.Lists n position root) old new back = record { id = ap (λ (c : KeptClient). c.id) back; group = ap kept_group back }

-- a step that is pending is one that its client has pending
pub has_pending : (was c : KeptClient) (p : Pending) (given : Input) → IsPendingOf was p c given → HasPending p.effect c
has_pending was c p given pends = record { was = was; step = p.step; given = given; pends = pends }

-- once it is kept, the client stands for where the move leads
pub stands_kept : (old mid new : KeptClient) (p : Pending) (given : Input) (s : Standing) → IsPendingOf old p mid given → new ≡ after_keeping p.effect mid → StandsFor old s
    → StandsFor new (kept_move old s given).next
stands_kept old mid new p given s pending is st =
    subst (λ (c : KeptClient). StandsFor c (kept_move old s given).next) (sym is) (pending.shows s st).stands

-- a halted client returns its number again, and stays
pub pending_halted : (c : KeptClient) (k : ℕ) (payload : List ℕ) → c.halted ≡ Some k → IsSoundKept c
    → IsPendingOf c (record { step = record { send = None; returned = Some (outcome.Halted k); object = None }; effect = effect.Stays }) c (input.Payload payload)
pending_halted c k payload is sound = record {
  can = record { window = tt; keeps = sound; forgets = sound };
  back = refl;
  same = record { id = refl; group = refl };
  shows = λ s st.
      let halted : s.halted ≡ Some k = st.halted ∙ is in
      subst (λ (v : Move). Shows c (record { send = None; returned = Some (outcome.Halted k); object = None }) c v) (sym (payload_halted (kept_group c) c.id s payload k halted)) (record {
        send = refl;
        returned = refl;
        object = refl;
        stands = record {
          path = st.path;
          sealed = st.sealed;
          root = st.root;
          own = st.own;
          awaiting = st.awaiting;
          calls = st.calls;
          phase = st.phase;
          halted = sym is;
        };
      });
}

pending_made : (old new : State) (p : Pending) (calls : ℕ) (turn : Phase) (given : Input) (v : Standing → Move) → IsPendingIn old calls turn p.effect new
    → ((s : Standing) → StandsIn old calls turn s → Hears old p new s (v s))
    → ((s : Standing) → s.halted ≡ None → kept_move (kept_of_state old calls turn) s given ≡ v s)
    → IsPendingOf (kept_of_state old calls turn) p (kept_of_state new calls turn) given
pending_made old new p calls turn given v pending shown is = record {
  can = pending.can;
  back = pending.back;
  same = same_kept p.effect (kept_of_state old calls turn) (kept_of_state new calls turn) pending.back;
  shows = λ s st.
      let at : StandsForState old s = record { path = st.path; sealed = st.sealed; root = st.root; own = st.own; awaiting = st.awaiting; halted = st.halted } in
      let here : Shows (kept_of_state old s.calls s.phase) p.step (after_keeping p.effect (kept_of_state new s.calls s.phase)) (v s) = shown s (record { state = at; calls = st.calls; phase = st.phase }) in
      let there : Shows (kept_of_state old calls turn) p.step (after_keeping p.effect (kept_of_state new calls turn)) (v s) =
      subst (λ (q : Phase). Shows (kept_of_state old calls q) p.step (after_keeping p.effect (kept_of_state new calls q)) (v s)) st.phase
      (subst (λ (n : ℕ). Shows (kept_of_state old n s.phase) p.step (after_keeping p.effect (kept_of_state new n s.phase)) (v s)) st.calls here) in
      subst (λ (m : Move). Shows (kept_of_state old calls turn) p.step (after_keeping p.effect (kept_of_state new calls turn)) m) (sym (is s st.halted)) there;
}

going_made : (r : Result Pending NoMemory) (old new : State) (calls : ℕ) (turn : Phase) (given : Input) (v : Standing → Move)
    → IfOk r (λ p. IsPendingIn old calls turn p.effect new)
    → ((s : Standing) → StandsIn old calls turn s → IfOk r (λ p. Hears old p new s (v s)))
    → ((s : Standing) → s.halted ≡ None → kept_move (kept_of_state old calls turn) s given ≡ v s)
    → IfOk r (λ p. IsPendingOf (kept_of_state old calls turn) p (kept_of_state new calls turn) given)
going_made (Ok p) old new calls turn given v pending shown is = pending_made old new p calls turn given v pending shown is
going_made (Err e) old new calls turn given v pending shown is = tt

-- what a client keeps, from its state, how often it called, how far its call on objects has come, and where it halted
abbrev pub kept_of : State → ℕ → Phase → Option ℕ → KeptClient
kept_of x calls turn halted = record (kept_of_state x calls turn) { halted = halted }

-- what is pending in the state of a client that hasn't halted is pending in the client, where the move is the one at what it is given
pub made_pending : (r : Result Pending NoMemory) (old new : State) (calls : ℕ) (turn : Phase) (halted : Option ℕ) (now : KeptClient) (given : Input) (v : Standing → Move)
    → kept_of old calls turn halted ≡ now → halted ≡ None → IfOk r (λ p. IsPendingIn old calls turn p.effect new)
    → ((s : Standing) → StandsIn old calls turn s → IfOk r (λ p. Hears old p new s (v s)))
    → ((s : Standing) → s.halted ≡ None → kept_move (kept_of old calls turn halted) s given ≡ v s)
    → IfOk r (λ p. IsPendingOf now p (kept_of new calls turn halted) given)
made_pending r old new calls turn halted now given v view none pending shown is =
    subst (λ (k : KeptClient). IfOk r (λ p. IsPendingOf k p (kept_of new calls turn halted) given)) view
    (subst (λ (h : Option ℕ). IfOk r (λ p. IsPendingOf (kept_of old calls turn h) p (kept_of new calls turn h) given)) (sym none)
    (going_made r old new calls turn given v pending shown is))

-- an idle client has not halted
pub idle_goes : (c : KeptClient) → IsTrue (is_idle c) → c.halted ≡ None
idle_goes c idle = none (awaits_nothing c.awaiting) c.halted idle
  where
    none : (b : Bool) (h : Option ℕ) → IsTrue (b && is_none h) → h ≡ None
    none true None t = refl
    none true (Some k) t = absurd (true≢false (sym t))
    none false h t = absurd (true≢false (sym t))

-- ---- calls on objects

-- wherever a decided call leaves a call on objects, a store whose content was sent can call its put
pub decided_fits : (calls : ℕ) (p : Phase) (o : Outcome) → PhaseFits calls p → PhaseFits calls (after_decision p o)
decided_fits calls phase.Closed o f = tt
decided_fits calls (phase.Keeping k h len) o f = f
decided_fits calls (phase.Fetching h len) o f = tt
decided_fits calls phase.Calling (outcome.Done a) f = answered_fits a
  where
    chosen : (b : Bool) (x y : ObjectStep) → PhaseFits calls x.0 → PhaseFits calls y.0 → PhaseFits calls (if◌then◌else◌ {A = ObjectStep} b x y).0
    chosen true x y p q = p
    chosen false x y p q = q

    answered_fits : (a : Answer) → PhaseFits calls (step_on_answer a).0
    answered_fits answer.Stored = tt
    answered_fits (answer.Found v) = chosen (is_reference v) _ _ tt tt
    answered_fits answer.NotFound = tt
    answered_fits answer.Removed = tt
    answered_fits answer.Absent = tt
    answered_fits (answer.Names names) = tt
decided_fits calls phase.Calling (outcome.Aborted u) f = tt
decided_fits calls phase.Calling (outcome.Refused r) f = tt
decided_fits calls phase.Calling (outcome.Halted k) f = tt
