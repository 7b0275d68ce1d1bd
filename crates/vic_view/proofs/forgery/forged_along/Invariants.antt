use Rattle.std.proofs.Common.{◌≡◌, false, take, reverse}
use Rattle.vic_rules.specs.Trust.{texts_made}
use Rattle.vic_script.specs.Print.{is_forged}
use Rattle.vic_view.specs.Transcripts.{transcript_group}
use Rattle.vic_view.specs.Making.{SameTexts}
use Rattle.vic_view.proofs.forgery.forged_along.Given as goal

abbrev pub invariant-loop-step : goal.invariant-loop-step
invariant-loop-step l = (is_forged (transcript_group l.t) (reverse (take l.step-index l.step-items)) ≡ false) × SameTexts l.made (texts_made (transcript_group l.t) (reverse (take l.step-index l.step-items)))
