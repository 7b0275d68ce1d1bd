use Rattle.std.proofs.Common.{sym, subst}
use Rattle.vic_rules.specs.History.{IsLawful}
use Rattle.vic_view.specs.declared.transcript.Transcript.{Transcript}
use Rattle.vic_view.specs.Transcripts.{transcript_group, transcript_history}
use Rattle.vic_script.specs.Run.{run_of}
use Rattle.vic_group.specs.declared.play.Ran.{Ran}
use Rattle.vic_group.specs.declared.play.Ran.TheVariants as ran
use Rattle.vic_group.specs.Playing.{ComesTo}
use Rattle.vic_group.proofs.tests.runs_plainly.Goals as goal

pub ends_plainly-requires : goal.ends_plainly-requires
ends_plainly-requires c =
    let left : ComesTo (run_of c.args.script.now) (ran.Whole c.in-Whole.world c.in-Whole.field-1) = subst (λ (r : Ran). ComesTo (run_of c.args.script.now) r) c.in-Whole.is c.in_ok-world.ensures in
    subst (λ (t : Transcript). IsLawful (transcript_group t) (transcript_history t)) (sym c.transcript.ensures) left.1.1.1.lawful
