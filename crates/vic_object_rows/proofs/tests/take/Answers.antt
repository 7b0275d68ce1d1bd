use Rattle.vic_client.proofs.Pendings.{has_pending}
use Rattle.vic_object_rows.proofs.tests.take.Goals as goal

pub forget-requires : goal.forget-requires
forget-requires c = has_pending _ _ c.in_ok-heard.heard _ c.in_ok-heard.ensures.heard
