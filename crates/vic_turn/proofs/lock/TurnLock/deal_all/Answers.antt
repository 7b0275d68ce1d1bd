use Rattle.std.proofs.Common.{[], ◌∷◌, ◌++◌, ◌+◌, ap, ◌∙◌, sym, subst, arith, map, ℕ}
use Rattle.std.specs.List.{All}
use Rattle.std.proofs.lemmas.List.{map-append}
use Rattle.std.proofs.lemmas.List.Elements.{All-push}
use Rattle.vic_turn.specs.Passes.{IsFresh}
use Rattle.vic_turn.proofs.Lists.{range_more}
use Rattle.vic_turn.proofs.lock.TurnLock.deal_all.Goals as goal

pub loop-made-preserved : goal.loop-made-preserved
loop-made-preserved g c =
    let i = c.loop-made.invariant in
    let d = c.deal.ensures in
    let p = c.push_reserved.ensures in
    record {
      own = d.own ∙ i.own;
      maker = d.maker;
      long = p.len ∙ ap (λ (n : ℕ). n + 1) i.long;
      room = p.capacity ∙ i.room;
      numbers = ap (map (λ q. q.number)) p.items ∙ map-append (λ q. q.number) c.loop-made.passes.items (c.deal.result ∷ []) ∙ (λ k. i.numbers k ++ d.number k ∷ []) ∙ sym (range_more 1 c.loop-made.made (c.loop-made.made + 1) (omega arith));
      fresh = subst (All (IsFresh c.args.self.now)) (sym p.items) (All-push (IsFresh c.args.self.now) c.loop-made.passes.items c.deal.result i.fresh d.pass);
    }
