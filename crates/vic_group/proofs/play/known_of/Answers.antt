use Rattle.std.proofs.Common.{arith}
use Rattle.vic_script.specs.Run.{script_limit}
use Rattle.vic_group.proofs.Playing.{known_all}
use Rattle.vic_group.proofs.play.known_of.Goals as goal

pub returns-then-script-le-LONGEST_SCRIPT : goal.returns-then-script-le-LONGEST_SCRIPT
returns-then-script-le-LONGEST_SCRIPT c = known_all script_limit c.args.script.now (omega (arith, c.if-script-le-LONGEST_SCRIPT.true))
