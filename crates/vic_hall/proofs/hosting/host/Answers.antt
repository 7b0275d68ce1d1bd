use Rattle.std.proofs.Common.{ℕ, map, arith, ap, subst, sym, ◌∙◌, refl}
use Rattle.vic_order.specs.Order.{Server}
use Rattle.vic_ports.specs.Causes.{Rose}
use Rattle.vic_hall.specs.Hosting.{lines}
use Rattle.vic_hall.specs.Runs.{IsRun}
use Rattle.vic_hall.proofs.Visits.{as_many, numbers_of, fresh_jobs, visited}
use Rattle.vic_hall.proofs.hosting.host.Goals as goal

pub seat_all-requires-clause-room : goal.seat_all-requires-clause-room
seat_all-requires-clause-room g c = omega (arith, as_many (λ p. p.number) c.in-Ok.passes c.args.connections c.in-Ok.ensures.numbers, c.in-Ok-with_capacity.ensures.capacity)

pub serve_all-served-requires-clause-room : goal.serve_all-served-requires-clause-room
serve_all-served-requires-clause-room g c κs within =
    let many = as_many (λ p. p.number) c.in-Ok.passes c.args.connections c.in-Ok.ensures.numbers in
    (omega (arith, many, c.in-Ok-seat_all.ensures.room, c.in-Ok-with_capacity-2.ensures.capacity), omega (arith, many, c.in-Ok-seat_all.ensures.room, c.in-Ok-with_capacity-3.ensures.capacity))

pub serve_all-served-requires-clause-fresh : goal.serve_all-served-requires-clause-fresh
serve_all-served-requires-clause-fresh g c κs within = fresh_jobs c.in-Ok.hall c.in-Ok-seat_all.jobs.items c.in-Ok.passes c.in-Ok-seat_all.ensures.passes c.in-Ok.ensures.passes

pub serve_all-served-requires-clause-numbers : goal.serve_all-served-requires-clause-numbers
serve_all-served-requires-clause-numbers g c κs within = numbers_of c.in-Ok-seat_all.jobs.items c.in-Ok.passes c.args.connections c.in-Ok.hall.count c.in-Ok-seat_all.ensures.passes c.in-Ok.ensures.numbers c.in-Ok.ensures.count

pub dismiss-unserved-requires-clause-room : goal.dismiss-unserved-requires-clause-room
dismiss-unserved-requires-clause-room g c =
    let many = as_many (λ p. p.number) c.in-Ok.passes c.args.connections c.in-Ok.ensures.numbers in
    (omega (arith, many, c.in-Err.ensures.room, c.in-Ok-with_capacity-2.ensures.capacity), omega (arith, many, c.in-Err.ensures.room, c.in-Ok-with_capacity-3.ensures.capacity))

pub returns-in-Ok-seat_all : goal.returns-in-Ok-seat_all
returns-in-Ok-seat_all g c =
    let r = c.serve_all-served.ensures.run in
    let came = map (λ j. g.D.Line.Link.told j.link) c.in-Ok-seat_all.jobs.items in
    let by_count = subst (λ (n : ℕ). IsRun n c.in-Ok.hall.fixed.opening (lines came r.0) c.serve_all-served.result.1.items c.serve_all-served.result.0) c.in-Ok.ensures.count r.1.1 in (
      c.serve_all-served.ensures.faults ∙ c.in-Ok-seat_all.ensures.faults,
      (
        lines came r.0,
        (
          visited came r.0 (g.D.Doors.lines c.args.doors.now) (g.D.Doors.lines c.seat_all.new.doors) (g.D.Doors.lines c.serve_all-served.new.doors) c.in-Ok-seat_all.ensures.lines r.1.0 (r.1.1.back ∙ sym r.1.1.came),
          subst (λ (s : Server). IsRun c.args.connections s (lines came r.0) c.serve_all-served.result.1.items c.serve_all-served.result.0) c.in-Ok.ensures.opening by_count,
        ),
      ),
    )

pub returns-in-Err : goal.returns-in-Err
returns-in-Err g c =
    let came = map (λ j. g.D.Line.Link.told j.link) c.in-Err.jobs.items in (
      subst (λ (n : ℕ). Rose (g.D.Doors.faults c.args.doors.now) n) (sym c.dismiss-unserved.ensures.faults) c.in-Err.ensures.faults,
      (came, visited came came (g.D.Doors.lines c.args.doors.now) (g.D.Doors.lines c.seat_all.new.doors) (g.D.Doors.lines c.dismiss-unserved.new.doors) c.in-Err.ensures.lines c.dismiss-unserved.ensures.lines refl),
    )
