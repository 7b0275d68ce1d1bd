use Rattle.std.proofs.Common.{arith, sym}
use Rattle.vic_group.specs.Playing.{scene_of}
use Rattle.vic_group.proofs.Playing.{may_of, follows_none}
use Rattle.vic_group.proofs.play.do_line.Goals as goal

pub try_text-requires-clause-may : goal.try_text-requires-clause-may
try_text-requires-clause-may c = λ l e. may_of c.args.world.now c.args.number l c.requires.shows c.requires.reached c.requires.few

pub returns-in-None : goal.returns-in-None
returns-in-None c =
    follows_none c.args.behind c.args.number (scene_of c.args.world.now) c.args.text.now c.try_text.new.world c.args.out.now c.try_text.new.out (omega (arith, c.if-behind-gt-LONGEST_SCRIPT.false))
    c.requires.reached c.requires.few (rw (sym c.in-None.is) c.in_ok-kind.ensures)
