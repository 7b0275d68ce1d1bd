use Rattle.std.proofs.Common.{◌≡◌, ℕ, List, [], ◌∷◌, drop, Option, refl, subst}
use Rattle.std.specs.Prelude.{MatchOption}
use Rattle.vic_order.specs.Scenes.{payload_as_is}
use Rattle.vic_group.specs.declared.member.Member.{Member}
use Rattle.vic_group.specs.World.{states}
use Rattle.vic_group.proofs.Scenes.{stands_here}
use Rattle.vic_group.proofs.Doing.{member_at, none_waits, one_waits, taken_as}
use Rattle.vic_group.proofs.world.World.take.Goals as goal

pub returns-in_default-clause-ok : goal.returns-in_default-clause-ok
returns-in_default-clause-ok g c = λ s shows.
    let w = c.args.self.now in
    let m = c.index.result.now in
    let at = member_at w.members.items c.args.place m c.requires.within c.index.ensures in
    let none : m.down ≡ [] = subst (λ (o : Option (List ℕ)). MatchOption o (m.down ≡ []) (λ p. m.down ≡ p ∷ drop 1 m.down)) c.in_default.is c.in_ok-payload.ensures in
    (none_waits w.transcript w.members.items (states g.S.Serve.state w.servers) s c.args.who c.args.place m shows c.requires.place at none, (refl, shows))

pub returns-clause-ok : goal.returns-clause-ok
returns-clause-ok g c = λ s shows.
    let w = c.args.self.now in
    let vs = states g.S.Serve.state w.servers in
    let one = c.index.result.now in
    let m = c.index_mut.result.now in
    let at_one = member_at w.members.items c.args.place one c.requires.within c.index.ensures in
    let at = member_at w.members.items c.args.place m c.requires.within c.index_mut.ensures.value in
    let same : one ≡ m = cc (at_one, at) in
    let p = c.in-Some.payload in
    let some_one : one.down ≡ p ∷ drop 1 one.down = subst (λ (o : Option (List ℕ)). MatchOption o (one.down ≡ []) (λ q. one.down ≡ q ∷ drop 1 one.down)) c.in-Some.is c.in_ok-payload.ensures in
    let some : m.down ≡ p ∷ drop 1 m.down = subst (λ (x : Member). x.down ≡ p ∷ drop 1 x.down) same some_one in
    let stands = stands_here w.transcript w.members.items vs s c.args.who c.args.place m shows c.requires.place at in
    let took = c.in_ok-take_oldest_as.ensures in (
      one_waits w.transcript w.members.items vs s c.args.who c.args.place m shows c.requires.place at p some,
      taken_as w.transcript c.take_oldest_as.new.transcript w.members.items vs s c.args.who c.args.place m c.take_oldest_as.new.self payload_as_is p p c.args.out.now c.take_oldest_as.new.out shows c.requires.place at c.requires.within some refl
          (took.acts s.group s.history c.args.who stands) (took.joins s.group s.history c.args.who stands) (took.out s.group s.history c.args.who stands),
    )
