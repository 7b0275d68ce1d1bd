use Rattle.vic_view.proofs.Parting.{agreement_beyond}
use Rattle.vic_view.proofs.view.common_calls_beyond.Goals as goal

pub returns : goal.returns
returns c = agreement_beyond c.args.known c.common_calls.result c.args.left.now c.args.right.now c.requires.common c.common_calls.ensures.value
