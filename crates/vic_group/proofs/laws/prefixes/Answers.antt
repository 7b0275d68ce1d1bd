use Rattle.vic_laws.proofs.Paths.{hashes_tell_paths}
use Rattle.vic_group.proofs.laws.prefixes.Goals as goal

pub returns : goal.returns
returns c = λ g h lawful i j m n. hashes_tell_paths g h lawful.steps i j m n
