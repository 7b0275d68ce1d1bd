use Rattle.std.proofs.Common.{◌≡◌, [], map, None}
use Rattle.std.specs.List.{All}
use Rattle.vic_turn.proofs.lock.TurnLock.gather.Given as goal

abbrev pub invariant-loop-pass : goal.invariant-loop-pass
invariant-loop-pass g l = record {
  own : l.all.table_id ≡ l.self.id;
  empty : l.all.me.1 ≡ [];
  idle : l.all.me.0.ticket ≡ None;
  held : l.all.me.0.held ≡ map (λ p. (p.number, p.mine)) l.yielded;
  rest : All (λ p. p.lock ≡ l.self.id) l.pass-iterator.rest.items;
  told : l.all.me.0.told ≡ map (λ p. p.seen) l.yielded;
}
