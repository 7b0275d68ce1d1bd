use Rattle.std.proofs.Common.{◌≡◌, [], map, vec_len, vec_capacity}
use Rattle.std.specs.List.{All, range_with_len}
use Rattle.vic_turn.specs.Told.{maker_at}
use Rattle.vic_turn.specs.Passes.{IsFresh}
use Rattle.vic_turn.proofs.lock.TurnLock.deal_all.Given as goal

abbrev pub invariant-loop-made : goal.invariant-loop-made
invariant-loop-made g l = record {
  own : l.maker.table_id ≡ l.self.id;
  maker : l.maker.me ≡ (maker_at l.self.fixed l.made, []);
  long : vec_len l.passes ≡ l.made;
  room : vec_capacity l.passes ≡ vec_capacity l.initial.passes;
  numbers : map (λ p. p.number) l.passes.items ≡ range_with_len 1 l.made;
  fresh : All (IsFresh l.self) l.passes.items;
}
