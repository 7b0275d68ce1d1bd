-- What a client's call makes of its seat.
use Rattle.std.proofs.Common.{◌≡◌, ℕ, List, Option, refl, sym, ap, subst, ◌∙◌}
use Rattle.vic_wire.specs.Hashes.{Group}
use Rattle.vic_rules.specs.declared.trace.Input.{Input}
use Rattle.vic_rules.specs.declared.trace.TraceStep.{TraceStep}
use Rattle.vic_rules.specs.Client.{Standing, Move, step, payload_of}
use Rattle.vic_rules.specs.History.{standing}
use Rattle.vic_laws.proofs.Standings.{standing_moved}
use Rattle.vic_client.specs.declared.step.Step.{Step}
use Rattle.vic_client.specs.Kept.{KeptClient, StandsFor, IsSameClient, kept_move, sent_at}
use Rattle.vic_run_drill.specs.declared.seat.Seat.{Seat}
use Rattle.vic_run_drill.specs.Running.{sent_on, SeatStands, step_at, Steps}

module _ (g : Group) (h : List TraceStep) (i : ℕ) (given : Input) (old : Seat) (new : KeptClient) (so : SeatStands g h old i) (same : IsSameClient old.client new) where
  abbrev here : Standing
  here = standing g i h

  moved : kept_move old.client here given ≡ step g i here given
  moved = ap (λ (k : Group). step k old.client.id here given) so.group ∙ ap (λ (n : ℕ). step g n here given) so.id

  sent_is : sent_at old.client (kept_move old.client here given) ≡ (step_at g h i given).sent
  sent_is =
      ap (λ (k : Group). payload_of k old.client.id (kept_move old.client here given).next (kept_move old.client here given).sends) so.group
      ∙ ap (λ (n : ℕ). payload_of g n (kept_move old.client here given).next (kept_move old.client here given).sends) so.id
      ∙ ap (λ (v : Move). payload_of g i v.next v.sends) moved

  -- it made its step
  pub steps_so : (sent : Option (List ℕ)) → sent ≡ sent_at old.client (kept_move old.client here given) → StandsFor new (kept_move old.client here given).next → Steps g h i given (record { client = new; under_way = sent_on sent })
  steps_so sent e stands = record {
    under_way = ap sent_on (e ∙ sent_is);
    stands = record {
      id = same.id ∙ so.id;
      group = same.group ∙ so.group;
      stands = subst (λ (s : Standing). StandsFor new s) (sym (standing_moved g i (step_at g h i given) h refl)) (subst (λ (v : Move). StandsFor new v.next) moved stands);
    };
  }

  -- and returned what the step returns
  pub returned_so : (r : Step) → r.returned ≡ (kept_move old.client here given).returns → r.returned ≡ (step_at g h i given).returned
  returned_so r e = e ∙ ap (λ (v : Move). v.returns) moved
