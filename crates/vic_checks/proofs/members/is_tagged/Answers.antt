use Rattle.vic_checks.proofs.Digests.{same_as}
use Rattle.vic_checks.proofs.members.is_tagged.Goals as goal

pub returns : goal.returns
returns c = same_as c.same_digest.result c.args.item.now.tag.bytes c.invoke_tag.result.bytes _ c.same_digest.ensures c.invoke_tag.ensures
