use Rattle.vic_client.proofs.Pendings.{has_pending}
use Rattle.vic_client.proofs.client.Client.take.Goals as goal

pub keep-requires : goal.keep-requires
keep-requires c = has_pending _ _ c.in_ok-pending.pending _ c.in_ok-pending.ensures.heard
