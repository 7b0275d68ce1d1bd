-- What a client's step shows of a move.
use Rattle.std.specs.Prelude.{◌≡◌}
use Rattle.vic_rules.specs.Client.{Move}
use Rattle.vic_client.specs.declared.step.Step.{Step}
use Rattle.vic_client.specs.Kept.{KeptClient, StandsFor, sent_at}

-- what is sent and what is returned are the move's, and the client then stands for where it leads
pub record Shows (old : KeptClient) (r : Step) (new : KeptClient) (v : Move) : Type 0 where
  pub send : r.send ≡ sent_at old v
  pub returned : r.returned ≡ v.returns
  pub object : r.object ≡ v.object
  pub stands : StandsFor new v.next
