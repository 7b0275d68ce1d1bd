use Rattle.vic_group.proofs.Entering.{digits_spell}
use Rattle.vic_group.proofs.Playing.{if_ok-map}
use Rattle.vic_group.proofs.opening.spelled_key.Goals as goal

pub returns-in-Ok : goal.returns-in-Ok
returns-in-Ok c = if_ok-map c.text_key.result _ _ (λ key h. digits_spell c.args.digits.now c.in-Ok.text.now key c.in-Ok.ensures.cases.0 h) c.text_key.ensures
