-- What a client makes of a payload.
use Rattle.std.specs.Prelude.{◌≡◌, ℕ, List, [], ◌∷◌, ◌++◌, length, Option, Some, None}
use Rattle.vic_dict.specs.declared.op.Op.{Op}
use Rattle.vic_rules.specs.declared.object.Phase.{Phase}
use Rattle.vic_rules.specs.declared.state.Awaiting.{Awaiting}
use Rattle.vic_rules.specs.declared.state.Awaiting.TheVariants as awaits
use Rattle.vic_rules.specs.Client.{Standing, Move, decision, move_on_outcome, path_with_entries, is_done, verdict, verdict_on, move_on_verdict}
use Rattle.vic_wire.specs.declared.message.Seal.{Seal}
use Rattle.vic_wire.specs.declared.message.Tagged.{Tagged}
use Rattle.vic_wire.specs.declared.message.ToClient.{ToClient}
use Rattle.vic_wire.specs.Parts.{Part}
use Rattle.vic_wire.specs.Hashes.{Group}
use Rattle.vic_wire.specs.Reading.{read_answer}
use Rattle.vic_checks.specs.declared.state.State.{State}
use Rattle.vic_checks.specs.State.{below_last, StandsForState}
use Rattle.vic_client.specs.declared.pending.Effect.{Effect}
use Rattle.vic_client.specs.declared.pending.Pending.{Pending}
use Rattle.vic_client.specs.Kept.{KeptClient}
use Rattle.vic_client.specs.Shows.{Shows}
use Rattle.vic_client.specs.Sound.{IsSound}
use Rattle.vic_client.specs.Pending.{CanKeep, after_keeping, after_forgetting}

abbrev pub IsSoundState : State → Type 0
IsSoundState x = IsSound x.id x.count x.window x.own x.awaiting

-- what a client keeps that hasn't halted, from its state, how often it called, and how far its call on objects has come
abbrev pub kept_of_state : State → ℕ → Phase → KeptClient
kept_of_state x calls phase = record {
  id = x.id;
  count = x.count;
  mode = x.mode;
  key = x.key;
  window = x.window;
  own = x.own;
  awaiting = x.awaiting;
  calls = calls;
  phase = phase;
  halted = None;
}

-- what is kept stands for a client that hasn't halted, with these calls and this phase
pub record StandsIn (x : State) (n : ℕ) (p : Phase) (s : Standing) : Type 0 where
  pub state : StandsForState x s
  pub calls : s.calls ≡ n
  pub phase : s.phase ≡ p

-- the operation of the call that a Reply is awaited to
abbrev pub op_in : Awaiting → Option Op
op_in (awaits.Reply n o load) = Some o
op_in awaits.Nothing = None
op_in awaits.Turn = None
op_in awaits.Entries = None
op_in awaits.Kept = None
op_in (awaits.Content h n) = None

-- a step with this effect is pending in the state: it can be kept, and to forget it gives the old state back
pub record IsPendingIn (old : State) (calls : ℕ) (phase : Phase) (e : Effect) (new : State) : Type 0 where
  pub can : CanKeep e (kept_of_state new calls phase)
  pub back : after_forgetting e (kept_of_state new calls phase) ≡ kept_of_state old calls phase

-- the pending step shows the move, once it is kept
abbrev pub Hears : State → Pending → State → Standing → Move → Type 0
Hears old p new s v = Shows (kept_of_state old s.calls s.phase) p.step (after_keeping p.effect (kept_of_state new s.calls s.phase)) v

-- the move after a Reply to the call of this operation
abbrev pub reply_move : ℕ → Standing → Seal → List Tagged → Part → Op → Move
reply_move me s seal entries part o =
    let ends = decision me s (below_last s entries) seal.position part o in
    move_on_outcome s (path_with_entries s entries) seal.position seal.root.bytes (s.own ++ record { position = length (path_with_entries s entries); op = o; done = is_done ends } ∷ []) ends

-- the move at what a payload spells, by the verdict on it
abbrev pub judged_move : Group → ℕ → Standing → Option ToClient → Move
judged_move g me s m = move_on_verdict me s m (verdict_on g me s m)

-- the move that a client makes at a payload, if it hasn't halted
abbrev pub heard_move : Group → ℕ → Standing → List ℕ → Move
heard_move g me s payload = move_on_verdict me s (read_answer payload) (verdict g me s payload)
