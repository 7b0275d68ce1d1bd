use Rattle.vic_laws.proofs.Contents.{loads_get_the_last}
use Rattle.vic_group.proofs.laws.contents.Goals as goal

pub returns : goal.returns
returns c = loads_get_the_last
