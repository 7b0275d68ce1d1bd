use Rattle.vic_client.proofs.Pendings.{has_pending}
use Rattle.vic_client.proofs.client.Client.poll.Goals as goal

pub keep_sent-requires-clause-last : goal.keep_sent-requires-clause-last
keep_sent-requires-clause-last c = has_pending _ _ c.in_ok-pending.pending _ c.in_ok-pending.ensures.planned
