use Rattle.std.proofs.Common.{◌≡◌, ◌<◌, ◌++◌, length, arith, ◌∙◌}
use Rattle.vic_script.specs.Print.{agreement}
use Rattle.vic_view.specs.Together.{rows_of}
use Rattle.vic_view.specs.Printed.{agree_texts}
use Rattle.vic_view.proofs.Parting.{as_many}
use Rattle.vic_view.proofs.Prints.{agree_next, row_length}
use Rattle.vic_view.proofs.print.put_agreements.Goals as goal

pub put_agreements_with-requires-clause-member : goal.put_agreements_with-requires-clause-member
put_agreements_with-requires-clause-member c =
    let are : c.as_slice-rows.result.now ≡ rows_of agreement c.args.views.now = c.as_slice-rows.ensures ∙ c.in_ok-agreed.ensures in
    let size = as_many agreement c.args.views.now c.as_slice-rows.result.now are in
    let long = row_length c.args.views.now c.as_slice-rows.result.now c.loop-k.k c.index-rows-k.result c.as_slice.result.now are c.loop-k-test.true c.index-rows-k.is c.as_slice.ensures in
    let lt : c.loop-k.k < length c.as_slice-rows.result.now = c.loop-k-test.true in
    omega (arith, size, long)

pub put_agreements_with-requires-clause-few : goal.put_agreements_with-requires-clause-few
put_agreements_with-requires-clause-few c =
    let are : c.as_slice-rows.result.now ≡ rows_of agreement c.args.views.now = c.as_slice-rows.ensures ∙ c.in_ok-agreed.ensures in
    let long = row_length c.args.views.now c.as_slice-rows.result.now c.loop-k.k c.index-rows-k.result c.as_slice.result.now are c.loop-k-test.true c.index-rows-k.is c.as_slice.ensures in
    let few : length c.args.views.now < 4294967296 = c.requires in
    omega (arith, long)

pub loop-k-preserved : goal.loop-k-preserved
loop-k-preserved c =
    agree_next c.args.views.now c.as_slice-rows.result.now c.loop-k.k c.index-rows-k.result c.as_slice.result.now c.loop-k.out c.put_agreements_with.new.out
    (c.args.out.now ++ agree_texts 1 c.args.views.now) (c.as_slice-rows.ensures ∙ c.in_ok-agreed.ensures) c.loop-k-test.true c.index-rows-k.is c.as_slice.ensures
    c.in_ok-put_agreements_with.ensures.ok c.loop-k.invariant
