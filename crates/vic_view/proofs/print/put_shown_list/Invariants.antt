use Rattle.std.proofs.Common.{◌≡◌, ◌++◌, drop}
use Rattle.std.specs.List.{flat_map}
use Rattle.vic_script.specs.Print.{shown_line}
use Rattle.vic_view.proofs.print.put_shown_list.Given as goal

abbrev pub invariant-loop-shown : goal.invariant-loop-shown
invariant-loop-shown l = l.out ++ flat_map shown_line (drop l.shown-index l.view) ≡ l.initial.out ++ flat_map shown_line l.view
