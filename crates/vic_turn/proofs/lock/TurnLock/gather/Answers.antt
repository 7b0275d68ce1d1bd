use Rattle.std.proofs.Common.{rules, ◌∙◌, ap, sym, subst, ◌≡◌, ◌++◌, ◌∷◌, []}
use Rattle.std.specs.List.{All}
use Rattle.std.proofs.lemmas.List.{map-append}
use Rattle.std.proofs.lemmas.List.Elements.{All-head, All-tail}
use Rattle.vic_turn.specs.Told.{opening_view}
use Rattle.vic_turn.proofs.Parts.{gathers, visits}
use Rattle.vic_turn.proofs.lock.TurnLock.gather.Goals as goal

pub load_new_seat-all-requires : goal.load_new_seat-all-requires
load_new_seat-all-requires g c =
    let shared = c.self.inside.table.shared in
    (search rules, visits g.V.Recorded.fixed g.V.Recorded.changes (g.V.Recorded.fixed shared.key.value.value) shared.key.count shared.table_id.slots (opening_view (g.V.Recorded.fixed shared.key.value.value)))

pub join_seat-requires : goal.join_seat-requires
join_seat-requires g c =
    let shared = c.self.inside.table.shared in
    let id = ap (λ l. l.id) c.self.view_is in
    let all = c.loop-pass.all in
    let seat = c.pass.inside.seat in
    let idle = c.pass.invariant in
    let own = All-head (λ p. p.lock ≡ c.args.self.now.id) c.in-Some.pass c.next.new.self.rest.items (subst (All (λ p. p.lock ≡ c.args.self.now.id)) c.in-Some.ensures.steps.0 c.loop-pass.invariant.rest) in
    (c.loop-pass.invariant.own ∙ sym id, ap (λ p. p.lock) c.pass.view_is ∙ own ∙ sym id, idle.0, search rules, gathers g.V.Recorded.fixed g.V.Recorded.changes (g.V.Recorded.fixed shared.key.value.value) shared.key.count all.id all.me.0 seat.id seat.me.0 idle.1 idle.2)

pub loop-pass-preserved : goal.loop-pass-preserved
loop-pass-preserved g c =
    let i = c.loop-pass.invariant in
    let pass = c.in-Some.pass in
    let was = c.pass.view_is in
    let join = c.join_seat.ensures.2 in
    record {
      own = c.join_seat.ensures.0 ∙ i.own;
      empty = ap (λ m. m.1) join ∙ i.empty;
      idle = ap (λ m. m.0.ticket) join ∙ i.idle;
      held = ap (λ m. m.0.held) join ∙ (λ k. i.held k ++ (c.pass.invariant.4 ∙ ap (λ p. (p.number, p.mine) ∷ []) was) k) ∙ sym (map-append (λ p. (p.number, p.mine)) c.loop-pass.yielded (pass ∷ []));
      rest = All-tail (λ p. p.lock ≡ c.args.self.now.id) pass c.next.new.self.rest.items (subst (All (λ p. p.lock ≡ c.args.self.now.id)) c.in-Some.ensures.steps.0 i.rest);
      told = ap (λ m. m.0.told) join ∙ (λ k. i.told k ++ (was k).seen ∷ []) ∙ sym (map-append (λ p. p.seen) c.loop-pass.yielded (pass ∷ []));
    }
