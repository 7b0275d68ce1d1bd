use Rattle.std.proofs.Common.{List, ℕ, subst}
use Rattle.vic_client.specs.Kept.{kept_group}
use Rattle.vic_cli.specs.Output.{text_bytes}
use Rattle.vic_cli.specs.Telling.{TellsSession}
use Rattle.vic_cli.proofs.ClientEnding.{plans_whole, plans_long}
use Rattle.vic_cli.proofs.client.compose_client.Goals as goal

pub returns-in-Whole-clause-plans : goal.returns-in-Whole-clause-plans
returns-in-Whole-clause-plans g c = λ w is.
    plans_whole w c.args.client.now _ c.in-Whole.script _ _ _ _ is c.in-Whole.ensures.given
    (subst (λ (script : List ℕ). TellsSession (kept_group c.args.client.now) c.args.client.now.id script (g.L.Link.told c.args.link.now) (g.L.Link.told c.compose_session.new.link) c.compose_session.result.status (text_bytes c.compose_session.result.text)) c.as_slice.ensures c.compose_session.ensures)

pub returns-in-TooLong-clause-plans : goal.returns-in-TooLong-clause-plans
returns-in-TooLong-clause-plans g c = λ w is.
    plans_long w c.args.client.now _ c.in-TooLong.front _ _ _ _ is c.in-TooLong.ensures.given
    (subst (λ (script : List ℕ). TellsSession (kept_group c.args.client.now) c.args.client.now.id script (g.L.Link.told c.args.link.now) (g.L.Link.told c.compose_session-in-TooLong.new.link) c.compose_session-in-TooLong.result.status (text_bytes c.compose_session-in-TooLong.result.text)) c.as_slice-in-TooLong.ensures c.compose_session-in-TooLong.ensures)
