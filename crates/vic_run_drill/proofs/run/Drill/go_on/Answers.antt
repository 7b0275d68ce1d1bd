use Rattle.std.proofs.Common.{◌≡◌, ℕ, ◌+◌, ◌-◌, ◌<◌, length, Some, refl, subst, arith, slice_get}
use Rattle.std.specs.Vec.{with_item}
use Rattle.vic_run_drill.specs.declared.seat.Seat.{Seat}
use Rattle.vic_run_drill.specs.declared.seat.Went.{Went}
use Rattle.vic_run_drill.specs.declared.seat.Went.TheVariants as went
use Rattle.vic_run_drill.specs.declared.run.Drill.{Drill}
use Rattle.vic_run_drill.specs.Running.{Goes}
use Rattle.vic_run_drill.proofs.Asking.{seat_there}
use Rattle.vic_run_drill.proofs.Going.{seat_stands, went_on}
use Rattle.vic_run_drill.proofs.run.Drill.go_on.Goals as goal

pub returns-in-Nowhere : goal.returns-in-Nowhere
returns-in-Nowhere c = λ d n at.
    let r : Drill = c.args.self.now in
    let who : ℕ = c.args.who in
    let k : ℕ = c.from-place.result - 1 in
    let m : Seat = c.index_mut.result.now in
    let is : who ≡ k + 1 = omega (arith, c.from-place.ensures, c.requires.some) in
    let lt : k < length r.seats.items = omega (arith, c.from-place.ensures, c.requires.some, c.requires.known) in
    let there : slice_get r.seats.items k ≡ Some m = seat_there r.seats.items r.seats.items k m refl lt c.index_mut.ensures.value in
    let v = c.go_on.new.served.server in
    let goes = c.in_ok-go_on.ensures.ok d.scene.group d.scene.history (seat_stands r d n at who k m is there) in
    let new : Drill = record r { seats = with_item r.seats k c.go_on.new.self; served = c.go_on.new.served } in
    went_on r d n at who k m is there new c.go_on.new.self v went.Nowhere
    (subst (λ (w : Went). Goes d.scene.group d.scene.history who m c.go_on.new.self r.served.server v w) c.in-Nowhere.is goes)
    (record { seats = refl; server = refl; tally = refl; drawing = refl; calls = refl })

pub returns-in-Answered : goal.returns-in-Answered
returns-in-Answered c = λ d n at.
    let r : Drill = c.args.self.now in
    let who : ℕ = c.args.who in
    let k : ℕ = c.from-place.result - 1 in
    let m : Seat = c.index_mut.result.now in
    let is : who ≡ k + 1 = omega (arith, c.from-place.ensures, c.requires.some) in
    let lt : k < length r.seats.items = omega (arith, c.from-place.ensures, c.requires.some, c.requires.known) in
    let there : slice_get r.seats.items k ≡ Some m = seat_there r.seats.items r.seats.items k m refl lt c.index_mut.ensures.value in
    let v = c.go_on.new.served.server in
    let goes = c.in_ok-go_on.ensures.ok d.scene.group d.scene.history (seat_stands r d n at who k m is there) in
    let new : Drill = record r { seats = with_item r.seats k c.go_on.new.self; served = c.go_on.new.served } in
    went_on r d n at who k m is there new c.go_on.new.self v went.Answered
    (subst (λ (w : Went). Goes d.scene.group d.scene.history who m c.go_on.new.self r.served.server v w) c.in-Answered.is goes)
    (record { seats = refl; server = refl; tally = refl; drawing = refl; calls = refl })

pub returns-in-Taken : goal.returns-in-Taken
returns-in-Taken c = λ d n at.
    let r : Drill = c.args.self.now in
    let who : ℕ = c.args.who in
    let k : ℕ = c.from-place.result - 1 in
    let m : Seat = c.index_mut.result.now in
    let is : who ≡ k + 1 = omega (arith, c.from-place.ensures, c.requires.some) in
    let lt : k < length r.seats.items = omega (arith, c.from-place.ensures, c.requires.some, c.requires.known) in
    let there : slice_get r.seats.items k ≡ Some m = seat_there r.seats.items r.seats.items k m refl lt c.index_mut.ensures.value in
    let v = c.go_on.new.served.server in
    let goes = c.in_ok-go_on.ensures.ok d.scene.group d.scene.history (seat_stands r d n at who k m is there) in
    let new : Drill = record r { seats = with_item r.seats k c.go_on.new.self; served = c.go_on.new.served; tally = c.count.new.self } in
    went_on r d n at who k m is there new c.go_on.new.self v (went.Taken c.in-Taken.returned)
    (subst (λ (w : Went). Goes d.scene.group d.scene.history who m c.go_on.new.self r.served.server v w) c.in-Taken.is goes)
    (record { seats = refl; server = refl; tally = c.count.ensures; drawing = refl; calls = refl })
