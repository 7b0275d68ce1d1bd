use Rattle.std.proofs.Common.{arith}
use Rattle.vic_tag.proofs.KeyLemmas.{decoded_length}
use Rattle.vic_tag.proofs.key.GroupKey.from_hex.Goals as goal

pub from_bytes-requires-clause-some : goal.from_bytes-requires-clause-some
from_bytes-requires-clause-some c =
    let twice = decoded_length c.args.text.now c.in-Ok.items.items c.in-Ok.ensures.ok in
    omega (arith, twice)

pub from_bytes-requires-clause-block : goal.from_bytes-requires-clause-block
from_bytes-requires-clause-block c =
    let twice = decoded_length c.args.text.now c.in-Ok.items.items c.in-Ok.ensures.ok in
    omega (arith, twice)
