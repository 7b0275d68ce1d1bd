use Rattle.std.proofs.Common.{List, sym, subst}
use Rattle.vic_run_drill.specs.declared.seat.Seat.{Seat}
use Rattle.vic_run_drill.specs.Running.{HaveComeIn}
use Rattle.vic_run_drill.proofs.Entering.{none_in, comes_in}
use Rattle.vic_run_drill.proofs.opening.entered_all.Goals as goal

pub loop-i-init : goal.loop-i-init
loop-i-init c = subst (λ (ms : List Seat). HaveComeIn c.args.count 0 ms) (sym c.new-made.ensures.items) (none_in c.args.count)

pub loop-i-preserved : goal.loop-i-preserved
loop-i-preserved c =
    comes_in c.args.count c.loop-i.i c.loop-i.made.items c.push.new.self.items c.in_ok-entered.field-0 c.loop-i.invariant c.in_ok-push.ensures.items c.in_ok-entered.ensures.nothing c.in_ok-entered.ensures.stands
