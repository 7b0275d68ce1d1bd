use Rattle.std.proofs.Common.{List, ℕ, map, string_bytes, subst}
use Rattle.vic_cli.specs.Output.{given_by, text_bytes, Finishes}
use Rattle.vic_cli.specs.Serving.{serve_words, opened_by}
use Rattle.vic_cli.proofs.Serving.{plans_kept, same_kept, some_kept, serve_complete}
use Rattle.vic_cli.proofs.serve.run_serve.Goals as goal

pub returns-clause-ends : goal.returns-clause-ends
returns-clause-ends g c =
    let d = opened_by g.D.Doors.lines g.D.Doors.faults c.args.doors.now c.plan-composed.new.doors in
    let w = given_by g.K.Sink.held g.K.Sink.faults c.args.sink.now c.finish-status.new.sink in
    let p = c.plan-composed.result in
    let finished = subst (λ (text : List ℕ). Finishes p.composed.status text w c.finish-status.result) c.as_slice.ensures c.finish-status.ensures in (
      p.composed.status,
      (
        text_bytes p.composed.text,
        (
          plans_kept (serve_words (map string_bytes c.args.words.now)) d p.served c.keep.result p.composed.status (text_bytes p.composed.text) c.plan-composed.ensures.plans c.plan-composed.ensures.served
              (same_kept p.served c.keep.result c.finish-status.result c.keep.ensures.ok c.keep.ensures.none),
          finished,
        ),
      ),
    )

pub returns-clause-kept : goal.returns-clause-kept
returns-clause-kept g c =
    let w = given_by g.K.Sink.held g.K.Sink.faults c.args.sink.now c.finish-status.new.sink in
    let p = c.plan-composed.result in
    let finished = subst (λ (text : List ℕ). Finishes p.composed.status text w c.finish-status.result) c.as_slice.ensures c.finish-status.ensures in
    some_kept p.served c.keep.result p.composed.status c.finish-status.result (text_bytes p.composed.text) w c.plan-composed.ensures.served finished c.keep.ensures.ok

pub returns-clause-complete : goal.returns-clause-complete
returns-clause-complete g c = serve_complete _ _ _ _ _ (returns-clause-ends g c)
