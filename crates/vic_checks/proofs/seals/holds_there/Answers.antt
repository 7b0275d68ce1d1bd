use Rattle.vic_checks.proofs.Digests.{sealed_by}
use Rattle.vic_checks.proofs.seals.holds_there.Goals as goal

pub returns : goal.returns
returns c = λ g p k s.
    sealed_by g p c.args.seal.now c.args.key.now c.hash_at-hash.result.bytes c.seal_holds.result k (c.hash_at-hash.ensures.shows g p s) c.seal_holds.ensures
