use Rattle.std.proofs.Common.{◌≡◌, take, drop, refl, arith}
use Rattle.std.proofs.lemmas.Grind.{common_steps}
use Rattle.vic_ports.proofs.Fronts.{leaves_front}
use Rattle.vic_ports.proofs.memory_link.MemoryLink.take_front.Goals as goal

pub returns-clause-given : goal.returns-clause-given
returns-clause-given c =
    let front : take c.copy_front-n.result c.copy_front-n.new.into ≡ take c.copy_front-n.result (drop c.args.self.now.taken c.args.self.now.bytes) = grind (arith, common_steps) in
    (c.copy_front-n.ensures.some, c.copy_front-n.ensures.fits, leaves_front c.args.self.now.taken c.copy_front-n.result c.args.self.now.bytes _ front, refl, refl)
