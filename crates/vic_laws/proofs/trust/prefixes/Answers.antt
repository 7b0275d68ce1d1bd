use Rattle.vic_laws.proofs.trust.prefixes.Goals as goal
use Rattle.vic_laws.proofs.Paths.{hashes_tell_paths}

pub returns : goal.returns
returns c = λ g h lawful i j m n. hashes_tell_paths g h lawful.steps i j m n
