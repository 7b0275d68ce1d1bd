use Rattle.vic_laws.proofs.trust.lawful_by_client.Goals as goal
use Rattle.vic_laws.proofs.Meanings.{lawful_by_client}

pub returns : goal.returns
returns c = lawful_by_client
