use Rattle.std.proofs.Common.{◌≡◌, ℕ, ◌+◌, ◌-◌, ◌<◌, ◌≤◌, List, length, true, false, Some, sym, ap, ◌∙◌, arith, slice_get}
use Rattle.vic_drill.specs.Drills.{waits_for, first_waiting}
use Rattle.vic_run_drill.specs.declared.seat.Seat.{Seat}
use Rattle.vic_run_drill.proofs.Asking.{seat_there}
use Rattle.vic_run_drill.proofs.Going.{waits}
use Rattle.vic_run_drill.proofs.Phases.{first_none, first_one, first_end}
use Rattle.vic_run_drill.proofs.run.Drill.first_waiting.Goals as goal

pub returns-then-waits : goal.returns-then-waits
returns-then-waits c = λ d n at.
    let r = c.args.self.now in
    let items : List Seat = c.deref-seat-items.result.now in
    let p : ℕ = c.loop-place.place in
    let lt : p < length items = omega (arith, c.loop-place-test.true) in
    let there : slice_get r.seats.items p ≡ Some c.seat-item.result = seat_there r.seats.items items p c.seat-item.result c.deref-seat-items.ensures.value lt c.seat-item.is in
    let turned : 1 + p ≡ p + 1 = omega arith in
    let some : waits_for d.scene (1 + p) ≡ true = waits r d n at (1 + p) p c.seat-item.result turned there ∙ sym c.waits.ensures ∙ c.if-waits.true in
    let count : length r.seats.items ≡ d.scene.group.count = at.scene.count in
    let same : length items ≡ length r.seats.items = ap (λ (ms : List Seat). length ms) c.deref-seat-items.ensures.value in
    c.loop-place.invariant d n at
    ∙ first_one d.scene (1 + p) (d.scene.group.count - p) (d.scene.group.count - (p + 1)) some (omega (arith, lt, count, same))
    ∙ ap (λ (j : ℕ). Some j) turned

pub loop-place-preserved : goal.loop-place-preserved
loop-place-preserved c = λ d n at.
    let r = c.args.self.now in
    let items : List Seat = c.deref-seat-items.result.now in
    let p : ℕ = c.loop-place.place in
    let lt : p < length items = omega (arith, c.loop-place-test.true) in
    let there : slice_get r.seats.items p ≡ Some c.seat-item.result = seat_there r.seats.items items p c.seat-item.result c.deref-seat-items.ensures.value lt c.seat-item.is in
    let turned : 1 + p ≡ p + 1 = omega arith in
    let none : waits_for d.scene (1 + p) ≡ false = waits r d n at (1 + p) p c.seat-item.result turned there ∙ sym c.waits.ensures ∙ c.if-waits.false in
    let count : length r.seats.items ≡ d.scene.group.count = at.scene.count in
    let same : length items ≡ length r.seats.items = ap (λ (ms : List Seat). length ms) c.deref-seat-items.ensures.value in
    let next : (1 + p) + 1 ≡ 1 + (p + 1) = omega arith in
    c.loop-place.invariant d n at
    ∙ first_none d.scene (1 + p) (d.scene.group.count - p) (d.scene.group.count - (p + 1)) none (omega (arith, lt, count, same))
    ∙ ap (λ (j : ℕ). first_waiting d.scene j (d.scene.group.count - (p + 1))) next

pub returns : goal.returns
returns c = λ d n at.
    let r = c.args.self.now in
    let items : List Seat = c.deref-seat-items.result.now in
    let p : ℕ = c.loop-place.place in
    let end : length items ≤ p = omega (arith, c.loop-place-test.false) in
    let count : length r.seats.items ≡ d.scene.group.count = at.scene.count in
    let same : length items ≡ length r.seats.items = ap (λ (ms : List Seat). length ms) c.deref-seat-items.ensures.value in
    c.loop-place.invariant d n at ∙ first_end d.scene (1 + p) (d.scene.group.count - p) (omega (arith, end, count, same))
