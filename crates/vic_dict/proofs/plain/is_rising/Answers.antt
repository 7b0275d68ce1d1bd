use Rattle.std.proofs.Common.{sym, ap, ◌∙◌, arith}
use Rattle.std.specs.Ordering.{is_lt}
use Rattle.std.proofs.lemmas.Bool.{both_ways, false_from_ne_true}
use Rattle.vic_dict.proofs.Rows.{is_less, less_before, rising_next, one_rising, bytes_next, compared}
use Rattle.vic_dict.proofs.plain.is_rising.Goals as goal
use Rattle.vic_dict.proofs.plain.is_rising.Goals.{else-i-gt0-via-then-i-gt0+else-not-is_lt, else-i-gt0-via-else-i-gt0}

pub returns-then-not-is_lt-clause-rising : goal.returns-then-not-is_lt-clause-rising
returns-then-not-is_lt-clause-rising c =
    let is = compared c.args.rows.now c.loop-i.i c.index-rows-i-then-i-gt0.result c.index-rows-i-then-i-gt0-2.result c.cmp.ensures c.as_slice.ensures c.as_slice-then-i-gt0.ensures (omega (arith, c.loop-i-test.true)) in
    sym (false_from_ne_true _ (λ s. both_ways (is_lt c.cmp.result) (sym c.is_lt.ensures ∙ c.if-not-is_lt.true)
    (ap is_lt (sym is ∙ less_before c.args.rows.now c.loop-i.i c.index-rows-i-then-i-gt0.result s (omega (arith, c.if-i-gt0.true)) (omega (arith, c.loop-i-test.true))))))

pub loop-i-preserved : goal.loop-i-preserved
loop-i-preserved c = record {
  rising = elim c.else-i-gt0.branch [
    | else-i-gt0-via-then-i-gt0+else-not-is_lt w ↦
        let is = compared c.args.rows.now c.loop-i.i w.index-rows-i-then-i-gt0.result w.index-rows-i-then-i-gt0-2.result w.cmp.ensures w.as_slice.ensures w.as_slice-then-i-gt0.ensures (omega (arith, c.loop-i-test.true)) in
        rising_next c.args.rows.now c.loop-i.i w.index-rows-i-then-i-gt0.result (omega (arith, w.if-i-gt0.true)) (omega (arith, c.loop-i-test.true)) c.loop-i.invariant.rising
        (is ∙ is_less w.cmp.result (sym w.is_lt.ensures ∙ w.if-not-is_lt.false))
    | else-i-gt0-via-else-i-gt0 w ↦ one_rising c.args.rows.now c.loop-i.i (omega (arith, w.if-i-gt0.false)) (omega (arith, c.loop-i-test.true))
  ];
  bytes = bytes_next c.args.rows.now c.loop-i.i c.index-rows-i.result c.index-rows-i-in-loop-i.result (omega (arith, c.loop-i-test.true)) c.loop-i.invariant.bytes c.are_bytes.ensures c.are_bytes-in-loop-i.ensures;
}
