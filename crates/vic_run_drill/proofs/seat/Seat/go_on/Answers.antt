use Rattle.std.proofs.Common.{ℕ, List, refl, sym, subst}
use Rattle.vic_rules.specs.declared.trace.Input.TheVariants as input
use Rattle.vic_rules.specs.History.{standing}
use Rattle.vic_client.specs.Kept.{kept_move}
use Rattle.vic_client.specs.Shows.{Shows}
use Rattle.vic_run_drill.specs.declared.seat.UnderWay.{UnderWay}
use Rattle.vic_run_drill.specs.Running.{Steps}
use Rattle.vic_run_drill.proofs.Seats.{steps_so, returned_so}
use Rattle.vic_run_drill.proofs.seat.Seat.go_on.Goals as goal

pub returns-in_ok-step-in-Answer-clause-ok : goal.returns-in_ok-step-in-Answer-clause-ok
returns-in_ok-step-in-Answer-clause-ok c = λ g h at.
    let p : List ℕ = c.in-Answer.answer in
    let old = c.args.self.now in
    let who = c.args.who in
    let r = c.in_ok-step-in-Answer.step in
    let took = c.in_ok-step-in-Answer.ensures in
    let shows : Shows old.client r c.take.new.self (kept_move old.client (standing g who h) (input.Payload p)) =
    subst (λ (b : List ℕ). Shows old.client r c.take.new.self (kept_move old.client (standing g who h) (input.Payload b))) c.as_slice-in-Answer.ensures (took.taken (standing g who h) at.stands) in
    let made = steps_so g h who (input.Payload p) old c.take.new.self at took.same r.send shows.send shows.stands in (
      p,
      (
        c.in-Answer.is,
        (
          refl,
          (
            subst (λ (u : UnderWay). Steps g h who (input.Payload p) (record { client = c.take.new.self; under_way = u })) (sym c.sent_on.ensures) made,
            returned_so g h who (input.Payload p) old c.take.new.self at took.same r shows.returned,
          ),
        ),
      ),
    )
