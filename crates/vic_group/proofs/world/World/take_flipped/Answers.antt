use Rattle.std.proofs.Common.{◌≡◌, ℕ, List, length, Option, true, false, is_some, nat_lt, refl, sym, ap, subst, ◌∙◌}
use Rattle.std.specs.Prelude.{IfSome}
use Rattle.vic_order.specs.Scenes.{payload_with_flip, oldest_payload}
use Rattle.vic_group.specs.declared.member.Member.{Member}
use Rattle.vic_group.specs.World.{states}
use Rattle.vic_group.proofs.Scenes.{stands_here}
use Rattle.vic_group.proofs.Doing.{member_at, byte_there, some_oldest, taken_as}
use Rattle.vic_group.proofs.world.World.take_flipped.Goals as goal

pub returns-in_default-clause-ok : goal.returns-in_default-clause-ok
returns-in_default-clause-ok g c = λ s shows.
    let w = c.args.self.now in
    let m = c.index.result.now in
    let at = member_at w.members.items c.args.place m c.requires.within c.index.ensures in
    (byte_there w.transcript w.members.items (states g.S.Serve.state w.servers) s c.args.who c.args.place m shows c.requires.place at c.args.number false (sym (ap (λ (o : Option (List ℕ)). is_some o) c.in_default.is) ∙ c.in_ok-payload.ensures.0), (refl, shows))

pub returns-clause-ok : goal.returns-clause-ok
returns-clause-ok g c = λ s shows.
    let w = c.args.self.now in
    let vs = states g.S.Serve.state w.servers in
    let one = c.index.result.now in
    let m = c.index_mut.result.now in
    let at_one = member_at w.members.items c.args.place one c.requires.within c.index.ensures in
    let at = member_at w.members.items c.args.place m c.requires.within c.index_mut.ensures.value in
    let same : one ≡ m = cc (at_one, at) in
    let p = c.in-Some.payload in
    let byte : true ≡ nat_lt c.args.number (length (oldest_payload m.down)) =
    sym (ap (λ (o : Option (List ℕ)). is_some o) c.in-Some.is) ∙ c.in_ok-payload.ensures.0 ∙ ap (λ (x : Member). nat_lt c.args.number (length (oldest_payload x.down))) same in
    let changed : p ≡ payload_with_flip c.args.number (oldest_payload m.down) =
    subst (λ (o : Option (List ℕ)). IfSome o (λ q. q ≡ payload_with_flip c.args.number (oldest_payload one.down))) c.in-Some.is c.in_ok-payload.ensures.1 ∙ ap (λ (x : Member). payload_with_flip c.args.number (oldest_payload x.down)) same in
    let stands = stands_here w.transcript w.members.items vs s c.args.who c.args.place m shows c.requires.place at in
    let took = c.in_ok-take_oldest_as.ensures in (
      byte_there w.transcript w.members.items vs s c.args.who c.args.place m shows c.requires.place at c.args.number true byte,
      taken_as w.transcript c.take_oldest_as.new.transcript w.members.items vs s c.args.who c.args.place m c.take_oldest_as.new.self (payload_with_flip c.args.number) p (oldest_payload m.down) c.args.out.now c.take_oldest_as.new.out shows c.requires.place at c.requires.within
          (some_oldest c.args.number m.down byte) changed
          (took.acts s.group s.history c.args.who stands) (took.joins s.group s.history c.args.who stands) (took.out s.group s.history c.args.who stands),
    )
