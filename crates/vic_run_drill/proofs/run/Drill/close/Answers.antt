use Rattle.std.proofs.Common.{◌≡◌, ℕ, ◌+◌, ◌-◌, ◌<◌, length, refl, sym, subst, ◌∙◌, arith}
use Rattle.std.specs.Vec.{with_item}
use Rattle.vic_drill.specs.Drills.{DrillState}
use Rattle.vic_run_drill.specs.declared.run.Drill.{Drill}
use Rattle.vic_run_drill.specs.Running.{Stands, WentOn, Closes}
use Rattle.vic_run_drill.proofs.Asking.{seat_there, can_act}
use Rattle.vic_run_drill.proofs.Going.{seat_stands, polled}
use Rattle.vic_run_drill.proofs.Phases.{first_bounds, first_closes, closes_no_more, closes_by_poll, owner_rests, if_ok_map}
use Rattle.vic_run_drill.proofs.run.Drill.close.Goals as goal

pub go_on-requires-clause-some : goal.go_on-requires-clause-some
go_on-requires-clause-some c = let g = c.requires in (first_bounds g.0 c.in-Some.who (c.first_waiting.ensures g.0 g.1.0 g.1.1.1 ∙ c.in-Some.is)).0

pub go_on-requires-clause-known : goal.go_on-requires-clause-known
go_on-requires-clause-known c =
    let g = c.requires in
    let upto = (first_bounds g.0 c.in-Some.who (c.first_waiting.ensures g.0 g.1.0 g.1.1.1 ∙ c.in-Some.is)).1 in
    let count = g.1.1.1.scene.count in
    omega (arith, upto, count)

pub returns-in-Some : goal.returns-in-Some
returns-in-Some c = λ d n at.
    if_ok_map c.go_on.result (WentOn c.go_on.new.self d n c.in-Some.who) (Closes c.go_on.new.self d n)
    (λ b went. first_closes c.go_on.new.self d n c.in-Some.who b (c.first_waiting.ensures d n at ∙ c.in-Some.is) went) (c.go_on.ensures d n at)

pub returns-in_default-owner_of_next : goal.returns-in_default-owner_of_next
returns-in_default-owner_of_next c = λ d n at.
    (closes_no_more c.args.self.now d n at (c.first_waiting.ensures d n at ∙ c.in_default.is) (sym c.owner_of_next.ensures ∙ c.in_default-owner_of_next.is), at)

pub overflow_sub-place : goal.overflow_sub-place
overflow_sub-place c =
    let g = c.requires in
    let who = owner_rests c.args.self.now g.0 g.1.0 g.1.1.1 (c.first_waiting.ensures g.0 g.1.0 g.1.1.1 ∙ c.in_default.is) c.in-Some-owner_of_next.owner (sym c.owner_of_next.ensures ∙ c.in-Some-owner_of_next.is) in
    let low = who.0.0 in
    omega (arith, c.from-place.ensures, low)

pub index_mut-requires : goal.index_mut-requires
index_mut-requires c =
    let g = c.requires in
    let who = owner_rests c.args.self.now g.0 g.1.0 g.1.1.1 (c.first_waiting.ensures g.0 g.1.0 g.1.1.1 ∙ c.in_default.is) c.in-Some-owner_of_next.owner (sym c.owner_of_next.ensures ∙ c.in-Some-owner_of_next.is) in
    let low = who.0.0 in
    let high = who.0.1 in
    let ok = c.args.self.now.seats.ok in
    omega (arith, c.from-place.ensures, low, high, ok)

pub act-requires-clause-idle : goal.act-requires-clause-idle
act-requires-clause-idle c =
    let g = c.requires in
    let r : Drill = c.args.self.now in
    let k : ℕ = c.from-place.result - 1 in
    let who = owner_rests r g.0 g.1.0 g.1.1.1 (c.first_waiting.ensures g.0 g.1.0 g.1.1.1 ∙ c.in_default.is) c.in-Some-owner_of_next.owner (sym c.owner_of_next.ensures ∙ c.in-Some-owner_of_next.is) in
    let low = who.0.0 in
    let high = who.0.1 in
    let lt : k < length r.seats.items = omega (arith, c.from-place.ensures, low, high) in
    let there = seat_there r.seats.items r.seats.items k c.index_mut.result.now refl lt c.index_mut.ensures.value in
    (can_act r g.0 g.1.0 c.in-Some-owner_of_next.owner k c.index_mut.result.now g.1.1.0 g.1.1.1 who.1 (omega (arith, c.from-place.ensures, low)) there).idle

pub act-requires-clause-plain : goal.act-requires-clause-plain
act-requires-clause-plain c =
    let g = c.requires in
    let r : Drill = c.args.self.now in
    let k : ℕ = c.from-place.result - 1 in
    let who = owner_rests r g.0 g.1.0 g.1.1.1 (c.first_waiting.ensures g.0 g.1.0 g.1.1.1 ∙ c.in_default.is) c.in-Some-owner_of_next.owner (sym c.owner_of_next.ensures ∙ c.in-Some-owner_of_next.is) in
    let low = who.0.0 in
    let high = who.0.1 in
    let lt : k < length r.seats.items = omega (arith, c.from-place.ensures, low, high) in
    let there = seat_there r.seats.items r.seats.items k c.index_mut.result.now refl lt c.index_mut.ensures.value in
    (can_act r g.0 g.1.0 c.in-Some-owner_of_next.owner k c.index_mut.result.now g.1.1.0 g.1.1.1 who.1 (omega (arith, c.from-place.ensures, low)) there).plain

pub act-requires-clause-few : goal.act-requires-clause-few
act-requires-clause-few c =
    let g = c.requires in
    let r : Drill = c.args.self.now in
    let k : ℕ = c.from-place.result - 1 in
    let who = owner_rests r g.0 g.1.0 g.1.1.1 (c.first_waiting.ensures g.0 g.1.0 g.1.1.1 ∙ c.in_default.is) c.in-Some-owner_of_next.owner (sym c.owner_of_next.ensures ∙ c.in-Some-owner_of_next.is) in
    let low = who.0.0 in
    let high = who.0.1 in
    let lt : k < length r.seats.items = omega (arith, c.from-place.ensures, low, high) in
    let there = seat_there r.seats.items r.seats.items k c.index_mut.result.now refl lt c.index_mut.ensures.value in
    (can_act r g.0 g.1.0 c.in-Some-owner_of_next.owner k c.index_mut.result.now g.1.1.0 g.1.1.1 who.1 (omega (arith, c.from-place.ensures, low)) there).few

pub returns : goal.returns
returns c = λ d n at.
    let r : Drill = c.args.self.now in
    let k : ℕ = c.from-place.result - 1 in
    let owner : ℕ = c.in-Some-owner_of_next.owner in
    let none = c.first_waiting.ensures d n at ∙ c.in_default.is in
    let next = sym c.owner_of_next.ensures ∙ c.in-Some-owner_of_next.is in
    let who = owner_rests r d n at none owner next in
    let low = who.0.0 in
    let high = who.0.1 in
    let lt : k < length r.seats.items = omega (arith, c.from-place.ensures, low, high) in
    let is : owner ≡ k + 1 = omega (arith, c.from-place.ensures, low) in
    let there = seat_there r.seats.items r.seats.items k c.index_mut.result.now refl lt c.index_mut.ensures.value in
    let new : Drill = record r { seats = with_item r.seats k c.act.new.self } in
    let stepped = c.in_ok-act.ensures.ok d.scene.group d.scene.history owner (seat_stands r d n at owner k c.index_mut.result.now is there) in
    subst (λ (x : DrillState). Stands new x (n + 1)) (sym (closes_by_poll r d n at none owner next))
    (polled r d n at owner k c.index_mut.result.now is there who.1 new c.act.new.self stepped (record { seats = refl; server = refl; tally = refl; drawing = refl; calls = refl }))
