use Rattle.std.proofs.Common.{◌≡◌, ◌-◌, take, drop, reverse}
use Rattle.std.specs.List.{AllByRecursion}
use Rattle.vic_wire.specs.Messages.{IsTagged}
use Rattle.vic_hostile.proofs.changed.reversed.Given as goal

abbrev pub invariant-loop-done : goal.invariant-loop-done
invariant-loop-done l = record {
  is : l.made ≡ reverse (drop (l.count - l.done) (take l.count l.entries));
  spelled : AllByRecursion IsTagged l.made;
}
