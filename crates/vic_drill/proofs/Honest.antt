-- Every event of a drill leads on honestly.
use Rattle.std.proofs.Common.{◌≡◌, ℕ, ◌+◌, ◌<◌, ◌≤◌, ◌^◌, Bool, true, false, ◌&&◌, ◌||◌, List, [], ◌∷◌, length, Option, Some, None, is_none, if◌then◌else◌, refl, sym, ap, subst, ◌∙◌, arith, lit<, lit≤}
use Rattle.std.proofs.lemmas.Bool.{or_parts}
use Rattle.std.proofs.lemmas.List.{length-replicate}
use Rattle.vic_dict.specs.declared.op.Mode.TheVariants as mode
use Rattle.vic_wire.specs.Hashes.{Group, IsGroup}
use Rattle.vic_rules.specs.declared.state.Awaiting.TheVariants as awaits
use Rattle.vic_rules.specs.declared.trace.Input.{Input}
use Rattle.vic_rules.specs.declared.trace.Input.TheVariants as input
use Rattle.vic_rules.specs.Client.{Standing, IsIdle, awaits_nothing, request_of}
use Rattle.vic_rules.specs.History.{IsLawful, standing}
use Rattle.vic_wire.specs.Messages.{request_text, answer_text}
use Rattle.vic_order.specs.Order.{Ordered, Server, fresh_server, ready_member}
use Rattle.vic_order.specs.Serving.{by_rule}
use Rattle.vic_order.specs.Scenes.{Queue, Scene, queue_of, set_queue, server_at, server_of, standing_in, waits_in, after_step, after_serving_from, after_serving, after_taking_from, after_taking, payload_as_is, Event, Asks, Serves, Takes, Flips, Hears, Resends, Copies, Joins, after_event}
use Rattle.vic_order.specs.Honest.{IsHonestEvent, MayHonestly, scene_after, AreHonest, IsHonestRun}
use Rattle.vic_honest.proofs.Events.{after_event-group}
use Rattle.vic_honest.proofs.Worlds.{server_after, all_fit}
use Rattle.vic_honest.proofs.Standing.{Doing, Rests, Sends, Gets, up_by, down_by}
use Rattle.vic_honest.proofs.Knowing.{Does}
use Rattle.vic_honest.proofs.Known.{no_item}
use Rattle.vic_honest.specs.SafeRuns.{IsSafeRun}
use Rattle.vic_honest.proofs.Scenes.{plain_safe}
use Rattle.vic_honest.proofs.Runs.{run_knows, all_lawful}
use Rattle.vic_runs.proofs.Scenes.{step_by}
use Rattle.vic_runs.proofs.Tests.{waits_is}
use Rattle.vic_gen.specs.Drawing.{Drawing}
use Rattle.vic_gen.specs.declared.Act.{Act}
use Rattle.vic_gen.specs.declared.Act.TheVariants as act
use Rattle.vic_drill.specs.Drills.{DrillState, drill_at_start, drill_after_event, drill_after_act, waits_for, drill_after_delivery}
use Rattle.vic_drill.specs.Laws.{RunsHonestly}
use Rattle.vic_drill.specs.MayBe.{MayAct}
use Rattle.vic_drill.proofs.Waiting.{waits_not}
use Rattle.vic_drill.proofs.Called.{called-step}

-- ---- counts

-- no client was called and no step was made more than n times
abbrev pub Counts : Scene → ℕ → Type 0
Counts s n = ((i : ℕ) → (standing_in s i).calls ≤ n) × (length s.history ≤ n)

counts-after_step : (s : Scene) (i : ℕ) (given : Input) (n : ℕ) → IsLawful (after_step s i given).group (after_step s i given).history → Counts s n → Counts (after_step s i given) (n + 1)
unfolding after_step
counts-after_step s i given n lawful c = (λ j. omega (arith, c.0 j, called-step s.group s.history (step_by s.group i given s.history) lawful.steps j), omega (arith, c.1))

counts-same : (s : Scene) (n : ℕ) → Counts s n → Counts s (n + 1)
counts-same s n c = (λ j. omega (arith, c.0 j), omega (arith, c.1))

counts-after_taking_from : (s : Scene) (i : ℕ) (queue : Queue) (n : ℕ) → IsLawful (after_taking_from payload_as_is s i queue).group (after_taking_from payload_as_is s i queue).history → Counts s n → Counts (after_taking_from payload_as_is s i queue) (n + 1)
counts-after_taking_from s i [] n lawful c = counts-same s n c
counts-after_taking_from s i (payload ∷ rest) n lawful c = counts-after_step (record s { down = set_queue s.down i rest }) i (input.Payload payload) n lawful c

counts-after_serving_from : (s : Scene) (i : ℕ) (queue : Queue) (server : Option Server) (n : ℕ) → Counts s n → Counts (after_serving_from by_rule s i queue server) (n + 1)
counts-after_serving_from s i [] server n c = counts-same s n c
counts-after_serving_from s i (payload ∷ rest) None n c = counts-same s n c
counts-after_serving_from s i (payload ∷ rest) (Some server) n c = (λ j. omega (arith, c.0 j), omega (arith, c.1))

counts-after_event : (s : Scene) (m : Event) (n : ℕ) → IsHonestEvent m → IsLawful (after_event by_rule s m).group (after_event by_rule s m).history → Counts s n → Counts (after_event by_rule s m) (n + 1)
unfolding after_serving after_taking
counts-after_event s (Asks i given) n honest lawful c = counts-after_step s i given n lawful c
counts-after_event s (Serves i) n honest lawful c = counts-after_serving_from s i (queue_of s.up i) (server_at s.servers (server_of s.served_by i)) n c
counts-after_event s (Takes i) n honest lawful c = counts-after_taking_from s i (queue_of s.down i) n lawful c
counts-after_event s (Flips i k) n honest lawful c = absurd honest
counts-after_event s (Hears i payload) n honest lawful c = absurd honest
counts-after_event s (Resends i) n honest lawful c = absurd honest
counts-after_event s (Copies k t) n honest lawful c = absurd honest
counts-after_event s (Joins i k) n honest lawful c = absurd honest

-- ---- one event more

module _ (clients : ℕ) (d : DrillState) (n : ℕ) (r : RunsHonestly clients d n) (m : Event) (may : MayHonestly d.scene m) where
  abbrev g : Group
  g = d.scene.group

  same : (after_event by_rule d.scene m).group ≡ g
  same = after_event-group by_rule d.scene m

  is : after_event by_rule d.scene m ≡ scene_after g (m ∷ d.events)
  is = ap (λ t. after_event by_rule t m) r.run.is

  all : AreHonest g (m ∷ d.events)
  all = (r.run.may, subst (λ t. MayHonestly t m) r.run.is may)

  run : IsHonestRun (after_event by_rule d.scene m) (server_after g (m ∷ d.events)) (m ∷ d.events)
  run = record {
    group = subst IsGroup (sym same) r.run.group;
    may = subst (λ g. AreHonest g (m ∷ d.events)) (sym same) all;
    is = is ∙ ap (λ g. scene_after g (m ∷ d.events)) (sym same);
    one = ap (λ t. server_at t.servers 1) is ∙ ap (λ l. server_at l 1) (all_fit g r.run.group (m ∷ d.events) all).one.only;
  }

  pub drill_after_event-runs : RunsHonestly clients (drill_after_event m d) (n + 1)
  drill_after_event-runs =
      let counts : Counts (after_event by_rule d.scene m) (n + 1) =
      counts-after_event d.scene m n may.0 (all_lawful (after_event by_rule d.scene m) (server_after g (m ∷ d.events)) (m ∷ d.events) run) (r.called, r.steps) in
      record { drawing = r.drawing; group = same ∙ r.group; server = server_after g (m ∷ d.events); run = run; called = counts.0; steps = counts.1 }

-- what is drawn and how many calls were made is no part of the run
pub drawn-runs : (clients : ℕ) (d : DrillState) (n : ℕ) (drawing : Drawing) (calls : ℕ) → length drawing.acts ≡ clients → RunsHonestly clients d n → RunsHonestly clients (record d { drawing = drawing; calls = calls }) n
drawn-runs clients d n drawing calls many r = record { drawing = many; group = r.group; server = r.server; run = r.run; called = r.called; steps = r.steps }

pub more-runs : (clients : ℕ) (d : DrillState) (n m : ℕ) → n ≤ m → RunsHonestly clients d n → RunsHonestly clients d m
more-runs clients d n m more r =
    record { drawing = r.drawing; group = r.group; server = r.server; run = r.run; called = λ i. omega (arith, r.called i); steps = omega (arith, r.steps) }

pub drill_at_start-runs : (number clients : ℕ) → 0 < clients → clients ≤ 64 → RunsHonestly clients (drill_at_start number clients) 0
unfolding standing
drill_at_start-runs number clients some few = record {
  drawing = length-replicate clients 0;
  group = refl;
  server = fresh_server mode.Plain clients ready_member;
  run = record { group = record { count = (some, few); key = (lit< tt, lit≤ tt) }; may = tt; is = refl; one = refl };
  called = λ i. omega arith;
  steps = omega arith;
}

-- a drill's group has no objects, so all laws of honest runs hold of it
pub runs-safe : (clients : ℕ) (d : DrillState) (n : ℕ) (r : RunsHonestly clients d n) → IsSafeRun d.scene r.server d.events
runs-safe clients d n r = plain_safe d.scene r.server d.events (ap (λ g. g.mode) r.group) r.run

-- ---- a client for whom nothing waits is idle

rests-awaiting : (g : Group) (me : ℕ) (s : Server) (t : Standing) (seen newer : List Ordered) (up down : List (List ℕ)) (doing : Doing) → up ≡ [] → down ≡ [] → up ≡ up_by g me t doing → down ≡ down_by doing
    → Does g me s t seen newer doing → t.awaiting ≡ awaits.Nothing
rests-awaiting g me s t seen newer up down Rests e f up_is down_is does = does.0
rests-awaiting g me s t seen newer up down (Sends sending) e f up_is down_is does = absurd (no_item up (request_text (request_of g me t sending)) e up_is)
rests-awaiting g me s t seen newer up down (Gets m) e f up_is down_is does = absurd (no_item down (answer_text m) f down_is)

idle_by : (t : Standing) → t.awaiting ≡ awaits.Nothing → t.halted ≡ None → IsIdle t
idle_by t e f = ap (λ a. awaits_nothing a && is_none t.halted) e ∙ ap (λ h. true && is_none h) f

pub rests_idle : (s : Scene) (server : Server) (events : List Event) → IsSafeRun s server events → (me : ℕ) → 0 < me → me ≤ s.group.count → queue_of s.up me ≡ [] → queue_of s.down me ≡ [] → IsIdle (standing_in s me)
rests_idle s server events run me above upto none_up none_down =
    let c = (run_knows s server events run).clients me above upto in
    idle_by (standing_in s me) (rests-awaiting s.group me server (standing_in s me) c.seen c.newer (queue_of s.up me) (queue_of s.down me) c.doing none_up none_down c.up_is c.down_is c.does) c.keeps.going

-- ---- a client goes on, or acts

module _ (clients : ℕ) (d : DrillState) (n : ℕ) (r : RunsHonestly clients d n) (me : ℕ) (above : 0 < me) (upto : me ≤ clients) where
  upto_count : me ≤ d.scene.group.count
  upto_count = omega (arith, upto, ap (λ g. g.count) r.group)

  goes_by : (b c : Bool) → waits_in d.scene.up me ≡ b → waits_in d.scene.down me ≡ c → (b || c) ≡ true → RunsHonestly clients (if b then drill_after_event (Serves me) d else drill_after_event (Takes me) d) (n + 1)
  goes_by true c e f h = drill_after_event-runs clients d n r (Serves me) (tt, (above, upto_count, waits_is (queue_of d.scene.up me) e))
  goes_by false true e f h = drill_after_event-runs clients d n r (Takes me) (tt, (above, upto_count, waits_is (queue_of d.scene.down me) f))
  goes_by false false e f h = absurd cc

  pub drill_after_delivery-runs : waits_for d.scene me ≡ true → RunsHonestly clients (drill_after_delivery me d) (n + 1)
  drill_after_delivery-runs waits = goes_by (waits_in d.scene.up me) (waits_in d.scene.down me) refl refl waits

  pub rests-idle : waits_for d.scene me ≡ false → IsIdle (standing_in d.scene me)
  rests-idle none =
      let parts = or_parts (waits_in d.scene.up me) (waits_in d.scene.down me) none in
      rests_idle d.scene r.server d.events (runs-safe clients d n r) me above upto_count (waits_not d.scene.up me parts.0) (waits_not d.scene.down me parts.1)

  pub polls-runs : waits_for d.scene me ≡ false → RunsHonestly clients (drill_after_event (Asks me input.Poll) d) (n + 1)
  polls-runs none = drill_after_event-runs clients d n r (Asks me input.Poll) (tt, (above, upto_count, rests-idle none))

  pub drill_after_act-runs : waits_for d.scene me ≡ false → n + 1 < 2 ^ 32 → (a : Act) → MayAct a → RunsHonestly clients (drill_after_act me a d) (n + 1)
  drill_after_act-runs none few act.Poll may = polls-runs none
  drill_after_act-runs none few (act.Call o) may =
      let plain : d.scene.group.mode ≡ mode.Plain = ap (λ g. g.mode) r.group in
      let left : (standing_in d.scene me).calls + 1 < 2 ^ 32 = omega (arith, r.called me) in
      let next = drill_after_event-runs clients d n r (Asks me (input.Call o)) (tt, (above, upto_count, (rests-idle none, (plain, (may.fits, (may.bytes, left)))))) in
      drawn-runs clients (drill_after_event (Asks me (input.Call o)) d) (n + 1) d.drawing (d.calls + 1) r.drawing next
