use Rattle.vic_group.specs.World.{states}
use Rattle.vic_group.proofs.Scenes.{stands_here}
use Rattle.vic_group.proofs.Doing.{member_at, heard_if}
use Rattle.vic_group.proofs.world.World.hear.Goals as goal

pub returns-clause-ok : goal.returns-clause-ok
returns-clause-ok g c = λ s shows.
    let w = c.args.self.now in
    let vs = states g.S.Serve.state w.servers in
    let m = c.index_mut.result.now in
    let at = member_at w.members.items c.args.place m c.requires.within c.index_mut.ensures.value in
    let stands = stands_here w.transcript w.members.items vs s c.args.who c.args.place m shows c.requires.place at in
    let took = c.take.ensures in
    heard_if c.take.result w.transcript c.take.new.transcript w.members.items vs s c.args.who c.args.place m c.take.new.self c.args.payload c.args.out.now c.take.new.out shows c.requires.place at c.requires.within
    (took.acts s.group s.history c.args.who stands) (took.joins s.group s.history c.args.who stands) (took.out s.group s.history c.args.who stands)
