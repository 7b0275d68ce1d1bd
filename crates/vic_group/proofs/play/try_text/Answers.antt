use Rattle.std.proofs.Common.{◌≡◌, Some, subst}
use Rattle.vic_view.specs.declared.transcript.Transcript.{Transcript}
use Rattle.vic_script.specs.Lines.{line_of}
use Rattle.vic_group.proofs.play.try_text.Goals as goal

pub try_line_on-requires-clause-may : goal.try_line_on-requires-clause-may
try_line_on-requires-clause-may c = c.requires.may c.in-Ok.line (subst (λ (t : Transcript). line_of (Some t.mode) c.args.text.now ≡ Some c.in-Ok.line) c.transcript.ensures c.in-Ok.ensures.ok)
