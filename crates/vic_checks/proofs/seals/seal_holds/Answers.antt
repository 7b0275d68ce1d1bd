use Rattle.std.proofs.Common.{◌∙◌}
use Rattle.vic_checks.proofs.Digests.{same_as, or_false}
use Rattle.vic_checks.proofs.seals.seal_holds.Goals as goal

pub returns : goal.returns
returns c =
    let seal = c.args.seal.now in
    same_as c.same_digest.result seal.tag.bytes c.seal_tag-right.result.bytes _ c.same_digest.ensures c.seal_tag-right.ensures
    ∙ or_false seal.position _ c.if-seal-eq0.false
