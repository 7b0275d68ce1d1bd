-- What the code of a drill stands for, event by event.
use Rattle.std.proofs.Common.{◌≡◌, ℕ, ◌+◌, ◌<◌, ◌≤◌, ◌^◌, Bool, true, false, List, length, Option, Some, None, nat_lt, if◌then◌else◌, refl, sym, ap, subst, ◌∙◌, arith, slice_get, slice_set}
use Rattle.std.proofs.lemmas.List.{length-set}
use Rattle.vic_dict.specs.declared.op.Outcome.{Outcome}
use Rattle.vic_rules.specs.declared.trace.Input.TheVariants as input
use Rattle.vic_rules.specs.Client.{step, IsIdle}
use Rattle.vic_order.specs.Order.{Server}
use Rattle.vic_order.specs.Serving.{by_rule}
use Rattle.vic_order.specs.Scenes.{Queue, queue_of, standing_in, waits_in, Asks, Serves, Takes, after_step, after_event}
use Rattle.vic_gen.specs.declared.Act.{Act}
use Rattle.vic_gen.specs.declared.Act.TheVariants as act
use Rattle.vic_gen.specs.Drawing.{Drawing, act_of, drawing_after_act}
use Rattle.vic_drill.specs.Drills.{DrillState, drill_after_event, drill_after_act, drill_after_next_act, waits_for, drill_after_delivery}
use Rattle.vic_drill.specs.Laws.{RunsHonestly}
use Rattle.vic_drill.proofs.Acts.{act-may, drawing_after_act-acts}
use Rattle.vic_drill.proofs.Honest.{drawn-runs, drill_after_delivery-runs, polls-runs, drill_after_act-runs, rests-idle}
use Rattle.vic_run_drill.specs.declared.seat.Seat.{Seat}
use Rattle.vic_run_drill.specs.declared.seat.UnderWay.{UnderWay}
use Rattle.vic_run_drill.specs.declared.seat.UnderWay.TheVariants as under
use Rattle.vic_run_drill.specs.declared.seat.Went.{Went}
use Rattle.vic_run_drill.specs.declared.seat.Went.TheVariants as went
use Rattle.vic_run_drill.specs.declared.tally.Tally.{Tally}
use Rattle.vic_run_drill.specs.declared.run.Drill.{Drill}
use Rattle.vic_run_drill.specs.Running.{requests, is_under_way, SeatStands, step_at, Steps, input_of, calls_of, Goes, tally_with, ShowsScene, Stands, WentOn}
use Rattle.vic_run_drill.proofs.Showing.{uncounted, within, up_here, waits_here, stands_here, shows_asked, shows_taken, shows_served, shows_same}

-- whether a message went on, and how that is counted
abbrev pub has_gone : Went → Bool
has_gone went.Nowhere = false
has_gone went.Answered = true
has_gone (went.Taken returned) = true

abbrev pub tally_by : Tally → Went → Tally
tally_by t went.Nowhere = t
tally_by t went.Answered = t
tally_by t (went.Taken returned) = tally_with t returned

-- the code after one client's event: its seat was exchanged
pub record Leaves (r new : Drill) (k : ℕ) (m : Seat) (v : Server) (t : Tally) (next : Drawing) (made : ℕ) : Type 0 where
  pub seats : new.seats.items ≡ slice_set r.seats.items k m
  pub server : new.served.server ≡ v
  pub tally : new.tally ≡ t
  pub drawing : new.generator ≡ next
  pub calls : new.calls ≡ made

-- what it then stands for
pub stands_so : (r new : Drill) (k : ℕ) (m : Seat) (v : Server) (t : Tally) (drawing : Drawing) (calls : ℕ) (d : DrillState) (n : ℕ) → Leaves r new k m v t drawing calls → ShowsScene (slice_set r.seats.items k m) v t d.scene
    → drawing ≡ d.drawing → calls ≡ d.calls → RunsHonestly (length r.seats.items) d n → Stands new d n
stands_so r new k m v t drawing calls d n left scene drawn made runs = record {
  scene = subst (λ (ms : List Seat). ShowsScene ms new.served.server new.tally d.scene) (sym left.seats)
      (subst (λ (w : Server). ShowsScene (slice_set r.seats.items k m) w new.tally d.scene) (sym left.server)
      (subst (λ (u : Tally). ShowsScene (slice_set r.seats.items k m) v u d.scene) (sym left.tally) scene));
  drawing = left.drawing ∙ drawn;
  calls = left.calls ∙ made;
  runs = subst (λ (c : ℕ). RunsHonestly c d n) (sym (ap (λ (ms : List Seat). length ms) left.seats ∙ length-set r.seats.items k m)) runs;
}

module _ (r : Drill) (d : DrillState) (n : ℕ) (at : Stands r d n) (me k : ℕ) (m : Seat) (is : me ≡ k + 1) (there : slice_get r.seats.items k ≡ Some m) where
  above : 0 < me
  above = omega (arith, is)

  upto : me ≤ length r.seats.items
  upto = let lt = within r.seats.items r.served.server r.tally d.scene at.scene me k m is there in omega (arith, is, lt)

  pub waits : waits_for d.scene me ≡ is_under_way m.under_way
  waits = waits_here r.seats.items r.served.server r.tally d.scene at.scene me k m is there

  up : queue_of d.scene.up me ≡ requests m.under_way
  up = up_here r.seats.items r.served.server r.tally d.scene at.scene me k m is there

  pub seat_stands : SeatStands d.scene.group d.scene.history m me
  seat_stands = stands_here r.seats.items r.served.server r.tally d.scene at.scene me k m is there

  -- ---- its message goes on

  on_by : (new : Drill) (b : Bool) → waits_in d.scene.up me ≡ b → waits_for d.scene me ≡ true
      → (RunsHonestly (length r.seats.items) (if b then drill_after_event (Serves me) d else drill_after_event (Takes me) d) (n + 1) → Stands new (if b then drill_after_event (Serves me) d else drill_after_event (Takes me) d) (n + 1)) → WentOn new d n me true
  on_by new b e waiting f =
      let goes : drill_after_delivery me d ≡ (if b then drill_after_event (Serves me) d else drill_after_event (Takes me) d) = ap (λ (c : Bool). if c then drill_after_event (Serves me) d else drill_after_event (Takes me) d) e in
      let runs = drill_after_delivery-runs (length r.seats.items) d n at.runs me above upto waiting in
      (waiting, subst (λ (x : DrillState). Stands new x (n + 1)) (sym goes) (f (subst (λ (x : DrillState). RunsHonestly (length r.seats.items) x (n + 1)) goes runs)))

  pub went_on : (new : Drill) (c : Seat) (v : Server) (w : Went) → Goes d.scene.group d.scene.history me m c r.served.server v w → Leaves r new k c v (tally_by r.tally w) r.generator r.calls → WentOn new d n me (has_gone w)
  went_on new c v went.Nowhere goes left = (
    waits ∙ ap is_under_way goes.0,
    stands_so r new k c v r.tally r.generator r.calls d n left
        (subst (λ (w : Server). ShowsScene (slice_set r.seats.items k c) w r.tally d.scene) (sym goes.1.1) (shows_same r.seats.items r.served.server r.tally d.scene at.scene me k m is there c goes.1.0))
        at.drawing at.calls at.runs,
  )
  went_on new c v went.Answered goes left =
      let payload : List ℕ = goes.0 in
      on_by new true (ap (λ (q : Queue). nat_lt 0 (length q)) (up ∙ ap requests goes.1.0)) (waits ∙ ap is_under_way goes.1.0)
      (λ runs. stands_so r new k c v r.tally r.generator r.calls (drill_after_event (Serves me) d) (n + 1) left
      (subst (λ (w : Server). ShowsScene (slice_set r.seats.items k c) w r.tally (after_event by_rule d.scene (Serves me))) (sym goes.1.1.1)
      (shows_served r.seats.items r.served.server r.tally d.scene at.scene me k m is there payload c goes.1.0 goes.1.1.0))
      at.drawing at.calls runs)
  went_on new c v (went.Taken returned) goes left =
      let payload : List ℕ = goes.0 in
      let shown = shows_taken r.seats.items r.served.server r.tally d.scene at.scene me k m is there payload c goes.1.0 goes.1.1.1.0 in
      on_by new false (ap (λ (q : Queue). nat_lt 0 (length q)) (up ∙ ap requests goes.1.0)) (waits ∙ ap is_under_way goes.1.0)
      (λ runs. stands_so r new k c v (tally_with r.tally returned) r.generator r.calls (drill_after_event (Takes me) d) (n + 1) left
      (subst (λ (w : Server). ShowsScene (slice_set r.seats.items k c) w (tally_with r.tally returned) (after_event by_rule d.scene (Takes me))) (sym goes.1.1.0)
      (subst (λ (o : Option Outcome). ShowsScene (slice_set r.seats.items k c) r.served.server (tally_with r.tally o) (after_event by_rule d.scene (Takes me))) (sym goes.1.1.1.1) shown))
      at.drawing at.calls runs)

  -- ---- it acts

  module _ (none : waits_for d.scene me ≡ false) where
    resting : (u : UnderWay) → is_under_way u ≡ false → u ≡ under.Nothing
    resting under.Nothing e = refl
    resting (under.Request payload) e = absurd cc
    resting (under.Answer payload) e = absurd cc

    pub rests : m.under_way ≡ under.Nothing
    rests = resting m.under_way (sym waits ∙ none)

    pub is_idle : IsIdle (standing_in d.scene me)
    is_idle = rests-idle (length r.seats.items) d n at.runs me above upto none

    -- a client that is asked for something returns nothing
    asked_returns : (a : Act) → (step_at d.scene.group d.scene.history me (input_of a)).returned ≡ None
    unfolding step
    asked_returns act.Poll = refl
    asked_returns (act.Call o) = refl

    pub shows_act : (a : Act) (c : Seat) → Steps d.scene.group d.scene.history me (input_of a) c → ShowsScene (slice_set r.seats.items k c) r.served.server r.tally (after_step d.scene me (input_of a))
    shows_act a c next =
        subst (λ (t : Tally). ShowsScene (slice_set r.seats.items k c) r.served.server t (after_step d.scene me (input_of a))) (ap (λ (o : Option Outcome). tally_with r.tally o) (asked_returns a) ∙ uncounted r.tally)
        (shows_asked r.seats.items r.served.server r.tally d.scene at.scene me k m is there (input_of a) c rests next)

    acts_by : (new : Drill) (a : Act) (c : Seat) (drawing : Drawing) → Steps d.scene.group d.scene.history me (input_of a) c → Leaves r new k c r.served.server r.tally drawing (r.calls + calls_of a)
        → RunsHonestly (length r.seats.items) (drill_after_act me a (record d { drawing = drawing })) (n + 1) → Stands new (drill_after_act me a (record d { drawing = drawing })) (n + 1)
    acts_by new act.Poll c drawing next left runs =
        stands_so r new k c r.served.server r.tally drawing (r.calls + 0) (drill_after_act me act.Poll (record d { drawing = drawing })) (n + 1) left (shows_act act.Poll c next) refl (let same : r.calls ≡ d.calls = at.calls in omega (arith, same)) runs
    acts_by new (act.Call o) c drawing next left runs =
        stands_so r new k c r.served.server r.tally drawing (r.calls + 1) (drill_after_act me (act.Call o) (record d { drawing = drawing })) (n + 1) left (shows_act (act.Call o) c next) refl (let same : r.calls ≡ d.calls = at.calls in omega (arith, same)) runs

    pub acted_next : (new : Drill) (a : Act) (c : Seat) (drawing : Drawing) → n + 1 < 2 ^ 32 → d.calls + 1 < 2 ^ 32 → a ≡ act_of d.drawing me (d.calls + 1) → drawing ≡ drawing_after_act d.drawing me
        → Steps d.scene.group d.scene.history me (input_of a) c → Leaves r new k c r.served.server r.tally drawing (r.calls + calls_of a) → Stands new (drill_after_next_act me d) (n + 1)
    acted_next new a c drawing few calls_few drawn moved next left =
        let e : DrillState = record d { drawing = drawing_after_act d.drawing me } in
        let so : RunsHonestly (length r.seats.items) e n = drawn-runs (length r.seats.items) d n (drawing_after_act d.drawing me) d.calls (drawing_after_act-acts d.drawing me ∙ at.runs.drawing) at.runs in
        let may = act-may d.drawing me (d.calls + 1) calls_few in
        let runs : RunsHonestly (length r.seats.items) (drill_after_next_act me d) (n + 1) = drill_after_act-runs (length r.seats.items) e n so me above upto none few (act_of d.drawing me (d.calls + 1)) may in
        let made : Stands new (drill_after_act me a (record d { drawing = drawing })) (n + 1) =
        acts_by new a c drawing next left
        (subst (λ (x : Drawing). RunsHonestly (length r.seats.items) (drill_after_act me a (record d { drawing = x })) (n + 1)) (sym moved)
        (subst (λ (b : Act). RunsHonestly (length r.seats.items) (drill_after_act me b e) (n + 1)) (sym drawn) runs)) in
        subst (λ (b : Act). Stands new (drill_after_act me b e) (n + 1)) drawn (subst (λ (x : Drawing). Stands new (drill_after_act me a (record d { drawing = x })) (n + 1)) moved made)

    pub polled : (new : Drill) (c : Seat) → Steps d.scene.group d.scene.history me input.Poll c → Leaves r new k c r.served.server r.tally r.generator r.calls → Stands new (drill_after_event (Asks me input.Poll) d) (n + 1)
    polled new c next left =
        stands_so r new k c r.served.server r.tally r.generator r.calls (drill_after_event (Asks me input.Poll) d) (n + 1) left (shows_act act.Poll c next) at.drawing at.calls (polls-runs (length r.seats.items) d n at.runs me above upto none)
