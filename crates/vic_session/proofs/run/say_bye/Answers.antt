use Rattle.std.proofs.Common.{inr, List, ℕ, Some, Ok, subst}
use Rattle.vic_session.specs.Wires.{Asks}
use Rattle.vic_session.specs.Running.{JudgedBye}
use Rattle.vic_session.proofs.run.say_bye.Goals as goal

pub returns-in-Ok-ask : goal.returns-in-Ok-ask
returns-in-Ok-ask g c =
    inr (
      c.in-Ok-ask.payload,
      (
        subst (λ (b : List ℕ). Asks (Some b) c.args.reader.now c.ask.new.reader (g.L.Link.told c.args.link.now) (g.L.Link.told c.ask.new.link) (Ok c.in-Ok-ask.payload)) c.in-Ok.ensures.text c.in-Ok-ask.ensures,
        subst (λ (p : List ℕ). JudgedBye p c.judge_bye.result) c.as_slice.ensures c.judge_bye.ensures,
      ),
    )
