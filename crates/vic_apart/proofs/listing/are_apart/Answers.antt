use Rattle.std.proofs.Common.{◌≡◌, Bool, true, false, true≢false, List, ℕ, Result, Ok, Err, IfOk, ap, sym, ◌∙◌}
use Rattle.std.specs.Prelude.{◌↔◌}
use Rattle.vic_dict.specs.declared.bytes.NoMemory.{NoMemory}
use Rattle.vic_wire.specs.Hashes.{Group}
use Rattle.vic_rules.specs.declared.trace.TraceStep.{TraceStep}
use Rattle.vic_rules.specs.History.{IsLawful}
use Rattle.vic_rules.specs.Trust.{Collides}
use Rattle.vic_laws.specs.Meanings.{are_apart, listed_texts}
use Rattle.vic_laws.proofs.Apart.{apart_tells}
use Rattle.vic_view.specs.Transcripts.{transcript_group, transcript_history}
use Rattle.vic_apart.proofs.listing.are_apart.Goals as goal

-- the answer over these texts is that over the listed ones
of_listed : (g : Group) (h : List TraceStep) (ts us : List (List ℕ)) (r : Result Bool NoMemory) → us ≡ ts → ts ≡ listed_texts g h → IfOk r (λ b. b ≡ are_apart us) → IfOk r (λ b. b ≡ are_apart (listed_texts g h))
of_listed g h ts us (Ok b) e is found = found ∙ ap are_apart (e ∙ is)
of_listed g h ts us (Err x) e is found = tt

-- and means that two of them collide where it is false
means : (g : Group) (h : List TraceStep) → IsLawful g h → (r : Result Bool NoMemory) → IfOk r (λ b. b ≡ are_apart (listed_texts g h)) → IfOk r (λ b. (b ≡ false) ↔ Collides g h)
means g h lawful (Ok b) e = ((λ f. (apart_tells g h lawful).0 (sym e ∙ f)), (λ c. e ∙ (apart_tells g h lawful).1 c))
means g h lawful (Err x) e = tt

-- and that none collide where it is true
apart : (g : Group) (h : List TraceStep) (r : Result Bool NoMemory) → IfOk r (λ b. (b ≡ false) ↔ Collides g h) → IfOk r (λ b. b ≡ true → Collides g h → ⊥)
apart g h (Ok b) e = λ t c. true≢false (sym t ∙ e.1 c)
apart g h (Err x) e = tt

pub returns-clause-is : goal.returns-clause-is
returns-clause-is c =
    of_listed (transcript_group c.args.t.now) (transcript_history c.args.t.now) c.in_ok-texts.texts c.as_slice.result.now c.are_texts_apart.result c.as_slice.ensures c.in_ok-texts.ensures c.are_texts_apart.ensures

pub returns-clause-means : goal.returns-clause-means
returns-clause-means c = means (transcript_group c.args.t.now) (transcript_history c.args.t.now) c.requires c.are_texts_apart.result (returns-clause-is c)

pub returns-clause-apart : goal.returns-clause-apart
returns-clause-apart c = apart (transcript_group c.args.t.now) (transcript_history c.args.t.now) c.are_texts_apart.result (returns-clause-means c)
