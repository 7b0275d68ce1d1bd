use Rattle.vic_group.proofs.Honest.{stands_line}
use Rattle.vic_group.proofs.world.World.apply.Goals as goal

pub returns-clause-honest : goal.returns-clause-honest
returns-clause-honest g c n at honest =
    stands_line g.S.Serve.state g.S.Serve.rule c.args.self.now c.do_line.new.self n c.args.line.now c.do_line.result c.new-out.result c.do_line.new.out c.requires c.line_bytes.ensures c.do_line.ensures at honest

pub returns-in_err-do_line-clause-honest : goal.returns-in_err-do_line-clause-honest
returns-in_err-do_line-clause-honest g c n at honest =
    stands_line g.S.Serve.state g.S.Serve.rule c.args.self.now c.do_line.new.self n c.args.line.now c.do_line.result c.new-out.result c.do_line.new.out c.requires c.line_bytes.ensures c.do_line.ensures at honest
