use Rattle.vic_client.proofs.Pendings.{has_pending}
use Rattle.vic_session.proofs.stepping.make_step.Goals as goal

pub keep-requires : goal.keep-requires
keep-requires c = has_pending _ _ c.in_ok-pending.pending _ c.in_ok-pending.ensures.planned
