use Rattle.vic_attacks.proofs.FirstOnes.{early_answers}
use Rattle.vic_attacks.proofs.early.Goals as goal

pub returns : goal.returns
returns c h requests few = early_answers requests h few
