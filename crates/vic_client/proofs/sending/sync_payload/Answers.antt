use Rattle.std.proofs.Common.{ℕ, ap}
use Rattle.vic_wire.specs.declared.message.ToServer.TheVariants as ask
use Rattle.vic_checks.specs.State.{state_group}
use Rattle.vic_client.proofs.Requests.{written}
use Rattle.vic_client.proofs.sending.sync_payload.Goals as goal

pub returns-clause-sent : goal.returns-clause-sent
returns-clause-sent c s shows =
    written c.request_payload.result _ _ (ap (λ (n : ℕ). ask.Sync n) (c.length-known.ensures.shows (state_group c.args.state.now) s.path shows)) c.request_payload.ensures.text
