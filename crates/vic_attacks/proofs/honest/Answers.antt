use Rattle.vic_attacks.proofs.Honesty.{honest_answers}
use Rattle.vic_attacks.proofs.honest.Goals as goal

pub returns : goal.returns
returns c h e requests asked = honest_answers requests h e
