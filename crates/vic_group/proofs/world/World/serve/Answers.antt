use Rattle.vic_group.specs.World.{states}
use Rattle.vic_group.proofs.Doing.{serve_goes, member_at}
use Rattle.vic_group.proofs.world.World.serve.Goals as goal

pub returns-clause-ok : goal.returns-clause-ok
returns-clause-ok g c = λ s shows.
    let w = c.args.self.now in
    let m = c.index_mut.result.now in
    let at = member_at w.members.items c.args.place m c.requires.within c.index_mut.ensures.value in
    serve_goes g.S.Serve.rule w.transcript w.members.items (states g.S.Serve.state w.servers) (states g.S.Serve.state c.serve_oldest.new.servers) s c.args.who c.args.place m c.serve_oldest.new.self c.serve_oldest.result shows c.requires.place at c.requires.within
    c.serve_oldest.ensures.rests c.serve_oldest.ensures.served
