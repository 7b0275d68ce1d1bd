use Rattle.std.proofs.Common.{List, ℕ, Option, Ok, Err, subst}
use Rattle.vic_gate.specs.Workers.{Handles, by_hello}
use Rattle.vic_gate.proofs.Going.{going_more, worked_none, worked_last}
use Rattle.vic_gate.proofs.worker.work.Goals as goal

pub returns-in-Err-clause-worked : goal.returns-in-Err-clause-worked
returns-in-Err-clause-worked g c =
    worked_none by_hello (g.D.Desk.answers c.args.desk.now) (g.L.Link.told c.args.link.now) c.args.pass.now (g.L.Link.told c.loop.link) (g.L.Link.told c.next_frame.new.link) c.loop.pass c.loop.greeted c.loop.reader c.next_frame.new.reader c.in-Err.end
    c.loop.invariant.going c.in-Err.ensures

pub returns-in-Err-handle-clause-worked : goal.returns-in-Err-handle-clause-worked
returns-in-Err-handle-clause-worked g c =
    let given = subst (λ (p : List ℕ). Handles by_hello (g.D.Desk.answers c.args.desk.now) c.loop.greeted c.loop.pass p (g.L.Link.told c.next_frame.new.link) (Err c.in-Err-handle.end) (g.L.Link.told c.handle.new.link) c.handle.new.pass) c.as_slice-taken.ensures c.in-Err-handle.ensures.given in
    worked_last by_hello (g.D.Desk.answers c.args.desk.now) (g.L.Link.told c.args.link.now) c.args.pass.now (g.L.Link.told c.loop.link) (g.L.Link.told c.next_frame.new.link) (g.L.Link.told c.handle.new.link) c.loop.pass c.handle.new.pass c.loop.greeted
    c.loop.reader c.next_frame.new.reader c.in-Ok.payload c.in-Err-handle.end c.loop.invariant.going c.in-Ok.ensures given

pub loop-preserved : goal.loop-preserved
loop-preserved g c =
    let given = subst (λ (p : List ℕ). Handles by_hello (g.D.Desk.answers c.args.desk.now) c.loop.greeted c.loop.pass p (g.L.Link.told c.next_frame.new.link) (Ok c.in-Ok-handle.next) (g.L.Link.told c.handle.new.link) c.handle.new.pass) c.as_slice-taken.ensures c.in-Ok-handle.ensures.given in
    record {
      owns = c.in-Ok-handle.ensures.owns;
      going = going_more by_hello (g.D.Desk.answers c.args.desk.now) (g.L.Link.told c.args.link.now) c.args.pass.now (g.L.Link.told c.loop.link) (g.L.Link.told c.next_frame.new.link) (g.L.Link.told c.handle.new.link) c.loop.pass c.handle.new.pass c.loop.greeted
          c.in-Ok-handle.next c.loop.reader c.next_frame.new.reader c.in-Ok.payload c.loop.invariant.going c.in-Ok.ensures given;
      can = (tt, tt);
    }
