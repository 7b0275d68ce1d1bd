use Rattle.vic_client.proofs.Pendings.{has_pending}
use Rattle.vic_client_rows.proofs.tests.hear_twice.Goals as goal

pub forget-requires : goal.forget-requires
forget-requires c = has_pending _ _ c.in_ok-forgotten.forgotten _ c.in_ok-forgotten.ensures.heard

pub keep-requires : goal.keep-requires
keep-requires c = has_pending _ _ c.in_ok-kept.kept _ c.in_ok-kept.ensures.heard
