use Rattle.std.proofs.Common.{◌≡◌, List, false, sym, subst}
use Rattle.std.specs.Prelude.{◌↔◌}
use Rattle.vic_wire.specs.Hashes.{Group}
use Rattle.vic_rules.specs.declared.trace.TraceStep.{TraceStep}
use Rattle.vic_rules.specs.History.{IsLawful}
use Rattle.vic_rules.specs.Trust.{Collides}
use Rattle.vic_view.specs.Transcripts.{transcript_group, transcript_history}
use Rattle.vic_script.specs.Run.{script_group, script_history}
use Rattle.vic_runs.proofs.Runs.{all_lawful}
use Rattle.vic_group.proofs.Playing.{if_ok-map}
use Rattle.vic_group.proofs.apart.texts_are_apart.Goals as goal

pub are_apart-requires : goal.are_apart-requires
are_apart-requires c =
    let t = c.in_ok-transcript.transcript in
    let told = c.in_ok-transcript.ensures in
    subst (λ (h : List TraceStep). IsLawful (transcript_group t) h) (sym told.history) (subst (λ (g : Group). IsLawful g (script_history c.args.script.now)) (sym told.group) (all_lawful c.args.script.now))

pub returns : goal.returns
returns c =
    let t = c.in_ok-transcript.transcript in
    let told = c.in_ok-transcript.ensures in
    if_ok-map c.are_apart.result _ _ (λ b means. subst (λ (h : List TraceStep). (b ≡ false) ↔ Collides (script_group c.args.script.now) h) told.history (subst (λ (g : Group). (b ≡ false) ↔ Collides g (transcript_history t)) told.group means)) c.are_apart.ensures.means
