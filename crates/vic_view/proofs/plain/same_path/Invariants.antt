use Rattle.std.proofs.Common.{◌≡◌, length, drop}
use Rattle.std.specs.Cmp.Lexicographic.{pointwise}
use Rattle.vic_rules.specs.Client.{same_entry}
use Rattle.vic_view.specs.declared.replay.Place.{Place}
use Rattle.vic_view.proofs.plain.same_path.Given as goal

abbrev pub invariant-loop-i : goal.invariant-loop-i
invariant-loop-i l = (length l.a ≡ length l.b)
    × (pointwise (λ (x y : Place). same_entry x.entry y.entry) l.a l.b ≡ pointwise (λ (x y : Place). same_entry x.entry y.entry) (drop l.i l.a) (drop l.i l.b))
