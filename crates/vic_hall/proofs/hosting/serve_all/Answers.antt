use Rattle.std.proofs.Common.{map}
use Rattle.vic_hall.proofs.Visits.{own_passes, passes_back, ran}
use Rattle.vic_hall.proofs.hosting.serve_all.Goals as goal

pub close-requires-clause-count : goal.close-requires-clause-count
close-requires-clause-count g c = passes_back c.args.jobs.items c.work_all-jobs.result.items c.dismiss-passes.result.0 c.args.hall.count c.dismiss-passes.ensures.passes c.work_all-jobs.ensures.len c.requires.numbers

pub close-requires-clause-own : goal.close-requires-clause-own
close-requires-clause-own g c = own_passes c.args.hall c.work_all-jobs.result.items c.dismiss-passes.result.0 c.dismiss-passes.ensures.passes c.work_all-jobs.ensures.own

pub returns-clause-run : goal.returns-clause-run
returns-clause-run g c = (
  map (λ j. g.D.Line.Link.told j.link) c.work_all-jobs.result.items,
  (
    c.dismiss-passes.ensures.lines,
    ran g.D.Line.Link.told c.args.hall c.args.jobs.items c.work_all-jobs.result.items c.dismiss-passes.result.0 c.dismiss-passes.result.1.items c.close.result c.close.ensures.opening c.close.ensures.history
        c.requires.numbers c.requires.fresh c.work_all-jobs.ensures.len c.work_all-jobs.ensures.each c.dismiss-passes.ensures.passes c.dismiss-passes.ensures.ends c.close.ensures.own c.close.ensures.seen c.close.ensures.seats,
  ),
)
