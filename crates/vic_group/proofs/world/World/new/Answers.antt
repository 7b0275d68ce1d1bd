use Rattle.std.proofs.Common.{◌<◌, ◌≤◌, length, arith}
use Rattle.vic_wire.specs.Hashes.{Group}
use Rattle.vic_group.specs.World.{states}
use Rattle.vic_group.proofs.Asking.{same_group}
use Rattle.vic_group.proofs.Entering.{shows_opening}
use Rattle.vic_group.proofs.Honest.{stands_opening}
use Rattle.vic_group.proofs.world.World.new.Goals as goal

pub returns-clause-shows : goal.returns-clause-shows
returns-clause-shows g c =
    let k : Group = record { mode = c.args.mode; count = c.args.count; key = c.args.key } in
    let some : 0 < length c.args.key = omega (arith, c.len-length.ensures.some, c.len-length.ensures.value) in
    let few : length c.args.key ≤ 64 = omega (arith, c.len-length.ensures.block, c.len-length.ensures.value) in
    let made = c.in_ok-members.ensures in
    shows_opening c.new.result c.in_ok-members.members.items (states g.S.Serve.state c.new-2.result) k (g.S.Serve.state c.args.server) (same_group c.new.result k c.new.ensures.mode c.new.ensures.count c.new.ensures.key) c.new.ensures.steps c.new-2.ensures
    (record { count = (c.requires.some, c.requires.few); key = (some, few) })
    (record { count = made.count; up = made.up; down = made.down; server = made.server; clients = made.clients })

pub returns-clause-honest : goal.returns-clause-honest
returns-clause-honest g c alike =
    let k : Group = record { mode = c.args.mode; count = c.args.count; key = c.args.key } in
    let some : 0 < length c.args.key = omega (arith, c.len-length.ensures.some, c.len-length.ensures.value) in
    let few : length c.args.key ≤ 64 = omega (arith, c.len-length.ensures.block, c.len-length.ensures.value) in
    stands_opening g.S.Serve.state g.S.Serve.rule _ k (g.S.Serve.state c.args.server) (returns-clause-shows g c)
    (record { count = (c.requires.some, c.requires.few); key = (some, few) }) alike
