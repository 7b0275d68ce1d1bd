use Rattle.std.proofs.Common.{List, ℕ, [], Option, Some, subst, sym}
use Rattle.vic_script.specs.Run.{scene_in, bad_end}
use Rattle.vic_group.specs.declared.header.Header.{Header}
use Rattle.vic_group.specs.declared.play.Ran.TheVariants as ran
use Rattle.vic_group.specs.Playing.{progress_by, ComesTo}
use Rattle.vic_group.proofs.Playing.{closed_whole}
use Rattle.vic_group.proofs.play.closed.Goals as goal

pub returns-in_ok-opened-in-Some : goal.returns-in_ok-opened-in-Some
returns-in_ok-opened-in-Some c =
    let whole = closed_whole c.in_ok-opened-in-Some.field-0 c.in-Some.header c.args.number c.in_ok-opened-in-Some.ensures in
    subst (λ (h : Option Header). ComesTo (record { scene = scene_in (progress_by h); text = []; bad = bad_end c.args.number (progress_by h) }) (ran.Whole c.in_ok-opened-in-Some.field-0 c.new.result)) (sym c.in-Some.is)
    (subst (λ (t : List ℕ). ComesTo (record { scene = scene_in (progress_by (Some c.in-Some.header)); text = []; bad = bad_end c.args.number (progress_by (Some c.in-Some.header)) }) (ran.Whole c.in_ok-opened-in-Some.field-0 t)) (sym c.new.ensures) whole)
