use Rattle.std.proofs.Common.{◌++◌, ◌∙◌, take}
use Rattle.vic_ports.proofs.Fronts.{appended_more, front_joins}
use Rattle.vic_ports.proofs.sending.send.Goals as goal

pub loop-rest-preserved : goal.loop-rest-preserved
loop-rest-preserved g c =
    let before = c.loop-rest.invariant.so_far in
    let n = c.in-Took.n in
    record {
      so_far = (
        before.0 ++ take n c.loop-rest.rest.now,
        (
          rw c.beyond-rest.ensures (front_joins n _ before.0 c.loop-rest.rest.now before.1.0),
          appended_more _ _ _ before.0 (take n c.loop-rest.rest.now) before.1.1 c.in-Took.ensures.given.0.2,
        ),
      );
      quiet = c.in-Took.ensures.given.0.3 ∙ c.loop-rest.invariant.quiet;
      left = c.in-Took.ensures.given.1.0 ∙ c.loop-rest.invariant.left;
      ended = c.in-Took.ensures.given.1.1 ∙ c.loop-rest.invariant.ended;
    }
