use Rattle.std.proofs.Common.{List, ℕ, sym, subst}
use Rattle.vic_script.specs.Run.{run_to_bad_line}
use Rattle.vic_group.specs.declared.play.Ran.TheVariants as ran
use Rattle.vic_group.specs.Playing.{progress_by, ComesTo}
use Rattle.vic_group.proofs.Playing.{unopened_leaves}
use Rattle.vic_group.proofs.play.unopened.Goals as goal

pub returns : goal.returns
returns c =
    let told = c.in_ok-transcript.ensures in
    subst (λ (text : List ℕ). ComesTo (run_to_bad_line (progress_by c.args.header) c.args.number c.args.kind) (ran.Stopped c.in_ok-transcript.transcript text (record { number = c.args.number; kind = c.args.kind }))) (sym c.new.ensures)
    (unopened_leaves c.args.header c.in_ok-transcript.transcript c.args.number c.args.kind told.group told.history)
