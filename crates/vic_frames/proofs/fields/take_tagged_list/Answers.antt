use Rattle.std.proofs.Common.{◌≡◌, ◌++◌, ◌∷◌, []}
use Rattle.std.proofs.lemmas.Result.{err_from_is_err_and}
use Rattle.vic_wire.specs.Reading.{tagged_list_at}
use Rattle.vic_frames.proofs.Loop.{goes_on, ends, is_done}
use Rattle.vic_frames.proofs.fields.take_tagged_list.Goals as goal

pub returns-in_err-item : goal.returns-in_err-item
returns-in_err-item c =
    let p = err_from_is_err_and c.from_residual.result c.from_residual.ensures.1 in
    rw (p.1, p.2) (ends c.in_err-item.field-0.0 c.loop.items c.args.count c.loop.counter c.loop.cut (tagged_list_at c.args.count c.args.cut.now) c.loop-test.true c.in_err-item.ensures c.loop.invariant)

pub loop-preserved : goal.loop-preserved
loop-preserved c =
    let e : c.push.new.self ≡ c.loop.items ++ c.in_ok-item.item ∷ [] = c.in_ok-push.ensures.ok in
    rw e (goes_on c.loop.items c.args.count c.loop.counter c.loop.cut c.in_ok-item.item c.take_tagged.new.cut (tagged_list_at c.args.count c.args.cut.now) c.loop-test.true c.in_ok-item.ensures c.loop.invariant)

pub returns : goal.returns
returns c = is_done c.loop.items c.args.count c.loop.counter c.loop.cut (tagged_list_at c.args.count c.args.cut.now) c.loop-test.false c.loop.invariant
