use Rattle.vic_checks.specs.State.{state_group}
use Rattle.vic_client.proofs.Requests.{commit_is, written}
use Rattle.vic_client.proofs.sending.commit_payload.Goals as goal

pub returns-clause-sent : goal.returns-clause-sent
returns-clause-sent c s shows =
    let g = state_group c.args.state.now in
    written c.request_payload.result _ _ (commit_is g c.args.state.now.id s _ c.args.done c.hash_at-chained.result c.commit_tag-tag.result
    (c.length-position.ensures.shows g s.path shows) (c.hash_at-chained.ensures.shows g s.path shows) c.commit_tag-tag.ensures) c.request_payload.ensures.text
