use Rattle.vic_checks.specs.State.{state_group}
use Rattle.vic_client.proofs.Requests.{seal_is, written}
use Rattle.vic_client.proofs.sending.seal_payload.Goals as goal

pub returns-clause-sent : goal.returns-clause-sent
returns-clause-sent c s shows is rooted =
    let g = state_group c.args.state.now in
    written c.request_payload.result _ _ (seal_is g c.args.state.now.id s c.args.position _ c.hash_at-chained.result c.seal_tag-tag.result is rooted
    (c.hash_at-chained.ensures.shows g s.path shows) c.seal_tag-tag.ensures) c.request_payload.ensures.text
