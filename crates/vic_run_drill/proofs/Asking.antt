-- What a client of a drill may be asked for, and what may be counted.
use Rattle.std.proofs.Common.{◌≡◌, ℕ, ◌+◌, ◌<◌, ◌≤◌, ◌^◌, Bool, false, ◌&&◌, List, length, Option, Some, is_none, IsTrue, refl, sym, ap, subst, ◌∙◌, arith, slice_get, get_or}
use Rattle.std.proofs.lemmas.List.Sums.{count_by-le-length}
use Rattle.std.proofs.lemmas.Option.{slice_get_read}
use Rattle.vic_dict.specs.declared.op.Outcome.{Outcome}
use Rattle.vic_dict.specs.declared.op.Mode.TheVariants as mode
use Rattle.vic_wire.specs.Hashes.{Group}
use Rattle.vic_rules.specs.declared.state.Awaiting.{Awaiting}
use Rattle.vic_rules.specs.declared.trace.TraceStep.{TraceStep}
use Rattle.vic_rules.specs.Client.{awaits_nothing, IsIdle}
use Rattle.vic_client.specs.Kept.{is_idle as is_idle_kept}
use Rattle.vic_order.specs.Scenes.{standing_in}
use Rattle.vic_gen.specs.Drawing.{Drawing, next_drawing}
use Rattle.vic_drill.specs.Drills.{DrillState, waits_for, ends_done, ends_aborted, ends_refused, count_of}
use Rattle.vic_drill.proofs.Honest.{drawn-runs}
use Rattle.vic_run_drill.specs.declared.seat.Seat.{Seat}
use Rattle.vic_run_drill.specs.declared.run.Drill.{Drill}
use Rattle.vic_run_drill.specs.Running.{SeatStands, CanCount, Stands, IsGoing}
use Rattle.vic_run_drill.proofs.Going.{seat_stands, is_idle}

-- there are no more of them than steps
counts_few : (ends : Option Outcome → Bool) (h : List TraceStep) (t n : ℕ) → t ≡ count_of ends h → length h ≤ n → n + 1 < 2 ^ 32 → t + 1 < 2 ^ 32
counts_few ends h t n is steps few =
    let most : count_of ends h ≤ length h = count_by-le-length (λ (x : TraceStep). ends x.returned) h in
    omega (arith, is, steps, few, most)

pub can_count : (r : Drill) → IsGoing r → CanCount r.tally
can_count r g =
    let d : DrillState = g.0 in
    let n : ℕ = g.1.0 in
    let at : Stands r d n = g.1.1.1 in (
      counts_few ends_done d.scene.history r.tally.done n at.scene.done at.runs.steps g.1.1.0,
      (
        counts_few ends_aborted d.scene.history r.tally.aborted n at.scene.aborted at.runs.steps g.1.1.0,
        counts_few ends_refused d.scene.history r.tally.refused n at.scene.refused at.runs.steps g.1.1.0,
      ),
    )

-- there are at most 64 clients, and as many are drawn from
pub few_seats : (r : Drill) (d : DrillState) (n : ℕ) → Stands r d n → length r.seats.items ≤ 64
few_seats r d n at = let count = at.scene.count in let few = at.runs.run.group.count.1 in omega (arith, count, few)

pub drawn_from : (r : Drill) (d : DrillState) (n : ℕ) → Stands r d n → length r.generator.acts ≡ length r.seats.items
drawn_from r d n at = ap (λ (x : Drawing). length x.acts) at.drawing ∙ at.runs.drawing

-- the client can act
pub record CanAct (m : Seat) : Type 0 where
  pub idle : IsTrue (is_idle_kept m.client)
  pub plain : m.client.mode ≡ mode.Plain
  pub few : m.client.calls + 1 < 2 ^ 32

pub can_act : (r : Drill) (d : DrillState) (n me k : ℕ) (m : Seat) → n + 1 < 2 ^ 32 → Stands r d n → waits_for d.scene me ≡ false → me ≡ k + 1 → slice_get r.seats.items k ≡ Some m → CanAct m
can_act r d n me k m few at none is there =
    let so : SeatStands d.scene.group d.scene.history m me = seat_stands r d n at me k m is there in
    let idle : IsIdle (standing_in d.scene me) = is_idle r d n at me k m is there none in
    let called : (standing_in d.scene me).calls ≤ n = at.runs.called me in
    let calls : (standing_in d.scene me).calls ≡ m.client.calls = so.stands.calls in
    record {
      idle = subst (λ (a : Awaiting). IsTrue (awaits_nothing a && is_none m.client.halted)) so.stands.awaiting
          (subst (λ (o : Option ℕ). IsTrue (awaits_nothing (standing_in d.scene me).awaiting && is_none o)) so.stands.halted idle);
      plain = ap (λ (g : Group). g.mode) (so.group ∙ at.runs.group);
      few = omega (arith, few, called, calls);
    }

-- a client was drawn
pub drawn_stands : (r : Drill) (d : DrillState) (n : ℕ) (x : Drawing) → Stands r d n → x ≡ next_drawing r.generator → Stands (record r { generator = x }) (record d { drawing = next_drawing d.drawing }) n
drawn_stands r d n x at is = record {
  scene = at.scene;
  drawing = is ∙ ap next_drawing at.drawing;
  calls = at.calls;
  runs = drawn-runs (length r.seats.items) d n (next_drawing d.drawing) d.calls at.runs.drawing at.runs;
}

-- the seat at a place
pub seat_there : (xs ys : List Seat) (k : ℕ) (m : Seat) → ys ≡ xs → k < length ys → m ≡ get_or ys k m → slice_get xs k ≡ Some m
seat_there xs ys k m same lt is = ap (λ (zs : List Seat). slice_get zs k) (sym same) ∙ slice_get_read ys (length ys) k m refl lt is
