use Rattle.vic_group.proofs.Entering.{enters}
use Rattle.vic_group.proofs.opening.entered_all.Goals as goal

pub loop-i-preserved : goal.loop-i-preserved
loop-i-preserved c =
    let m = c.in_ok-entered.field-0 in
    let came = c.in_ok-entered.ensures in
    enters (record { mode = c.args.mode; count = c.args.count; key = c.args.key.now }) c.loop-i.i c.loop-i.made.items c.push.new.self.items m c.loop-i.invariant c.in_ok-push.ensures.items came.up came.down came.server came.stands
