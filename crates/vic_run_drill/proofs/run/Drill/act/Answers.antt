use Rattle.std.proofs.Common.{◌≡◌, ℕ, ◌+◌, ◌-◌, ◌<◌, ◌^◌, length, Some, refl, ap, ◌∙◌, arith, slice_get}
use Rattle.std.specs.Vec.{with_item}
use Rattle.vic_gen.specs.Drawing.{Drawing, act_of, drawing_after_act}
use Rattle.vic_run_drill.specs.declared.seat.Seat.{Seat}
use Rattle.vic_run_drill.specs.declared.run.Drill.{Drill}
use Rattle.vic_run_drill.proofs.Asking.{seat_there, can_act}
use Rattle.vic_run_drill.proofs.Going.{seat_stands, acted_next}
use Rattle.vic_run_drill.proofs.run.Drill.act.Goals as goal

pub act-requires-2-clause-idle : goal.act-requires-2-clause-idle
act-requires-2-clause-idle c =
    let r : Drill = c.args.self.now in
    let k : ℕ = c.from-place.result - 1 in
    let lt : k < length r.seats.items = omega (arith, c.from-place.ensures, c.requires.some, c.requires.known) in
    let there = seat_there r.seats.items r.seats.items k c.index_mut.result.now refl lt c.index_mut.ensures.value in
    let g = c.requires.rests in
    (can_act r g.0 g.1.0 c.args.who k c.index_mut.result.now g.1.1.0 g.1.1.1.0 g.1.1.1.1 (omega (arith, c.from-place.ensures, c.requires.some)) there).idle

pub act-requires-2-clause-plain : goal.act-requires-2-clause-plain
act-requires-2-clause-plain c =
    let r : Drill = c.args.self.now in
    let k : ℕ = c.from-place.result - 1 in
    let lt : k < length r.seats.items = omega (arith, c.from-place.ensures, c.requires.some, c.requires.known) in
    let there = seat_there r.seats.items r.seats.items k c.index_mut.result.now refl lt c.index_mut.ensures.value in
    let g = c.requires.rests in
    (can_act r g.0 g.1.0 c.args.who k c.index_mut.result.now g.1.1.0 g.1.1.1.0 g.1.1.1.1 (omega (arith, c.from-place.ensures, c.requires.some)) there).plain

pub act-requires-2-clause-few : goal.act-requires-2-clause-few
act-requires-2-clause-few c =
    let r : Drill = c.args.self.now in
    let k : ℕ = c.from-place.result - 1 in
    let lt : k < length r.seats.items = omega (arith, c.from-place.ensures, c.requires.some, c.requires.known) in
    let there = seat_there r.seats.items r.seats.items k c.index_mut.result.now refl lt c.index_mut.ensures.value in
    let g = c.requires.rests in
    (can_act r g.0 g.1.0 c.args.who k c.index_mut.result.now g.1.1.0 g.1.1.1.0 g.1.1.1.1 (omega (arith, c.from-place.ensures, c.requires.some)) there).few

pub returns : goal.returns
returns c = λ d n few at none.
    let r : Drill = c.args.self.now in
    let who : ℕ = c.args.who in
    let k : ℕ = c.from-place.result - 1 in
    let m : Seat = c.index_mut.result.now in
    let is : who ≡ k + 1 = omega (arith, c.from-place.ensures, c.requires.some) in
    let lt : k < length r.seats.items = omega (arith, c.from-place.ensures, c.requires.some, c.requires.known) in
    let there : slice_get r.seats.items k ≡ Some m = seat_there r.seats.items r.seats.items k m refl lt c.index_mut.ensures.value in
    let did = c.in_ok-act.ensures in
    let new : Drill = record r { seats = with_item r.seats k c.act-2.new.self; generator = c.act.new.self; calls = r.calls + c.calls_in.result } in
    let next = c.in_ok-act-2.ensures.ok d.scene.group d.scene.history who (seat_stands r d n at who k m is there) in
    let calls_few : d.calls + 1 < 2 ^ 32 = let same = at.calls in omega (arith, same, c.requires.few) in
    acted_next r d n at who k m is there none new c.in_ok-act.act c.act-2.new.self c.act.new.self few calls_few
    (did.act ∙ ap (λ (x : Drawing). act_of x who (r.calls + 1)) at.drawing ∙ ap (λ (j : ℕ). act_of d.drawing who (j + 1)) at.calls)
    (did.ok ∙ ap (λ (x : Drawing). drawing_after_act x who) at.drawing) next
    (record { seats = refl; server = refl; tally = refl; drawing = refl; calls = ap (λ (j : ℕ). r.calls + j) c.calls_in.ensures })
