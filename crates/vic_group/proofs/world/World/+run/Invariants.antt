use Rattle.vic_group.proofs.world.World.+run.Given as goal

abbrev pub decreases-run : goal.decreases-run
decreases-run g l = l.left
