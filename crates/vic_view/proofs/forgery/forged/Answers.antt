use Rattle.std.proofs.Common.{◌≡◌, Bool, true, List, Result, Ok, Err, IfOk}
use Rattle.std.specs.Prelude.{◌↔◌}
use Rattle.vic_dict.specs.declared.bytes.NoMemory.{NoMemory}
use Rattle.vic_wire.specs.Hashes.{Group}
use Rattle.vic_rules.specs.declared.trace.TraceStep.{TraceStep}
use Rattle.vic_rules.specs.Trust.{IsForged}
use Rattle.vic_script.specs.Print.{is_forged}
use Rattle.vic_script.proofs.Forged.{forged_means}
use Rattle.vic_view.specs.Transcripts.{transcript_group, transcript_history}
use Rattle.vic_view.proofs.forgery.forged.Goals as goal

-- what the test answers means that a text was forged
means : (g : Group) (h : List TraceStep) (r : Result Bool NoMemory) → IfOk r (λ b. b ≡ is_forged g h) → IfOk r (λ b. (b ≡ true) ↔ IsForged g h)
means g h (Ok b) e = forged_means g h b e
means g h (Err e) told = tt

pub returns-clause-means : goal.returns-clause-means
returns-clause-means c = means (transcript_group c.args.t.now) (transcript_history c.args.t.now) c.forged_along.result c.forged_along.ensures
