-- A call is aborted exactly by the least entry of another client that conflicts with it.
use Rattle.std.proofs.Common.{ℕ, ◌<◌, not, List, ap, arith}
use Rattle.std.specs.Prelude.{nat_eq}
use Rattle.std.proofs.lemmas.Bool.{and_parts, and_from, ne_eqb}
use Rattle.vic_wire.specs.Conflict.{conflicts}
use Rattle.vic_rules.specs.Client.{is_in_the_way, in_the_way, decided_outcome}
use Rattle.vic_laws.specs.OrderClaims.{PassesAt}
use Rattle.vic_laws.proofs.SameOp.{least_above_tells}
use Rattle.vic_laws.proofs.Decisions.{other_client, aborted_by_some}
use Rattle.vic_order.specs.Order.{Ordered}
use Rattle.vic_order.specs.Fates.{entries, fate, dictionary_by}
use Rattle.vic_honest.specs.Claims.{StandsInTheWay, AbortsAreConflicts}
use Rattle.vic_honest.proofs.Words.{length-entries}

-- what passes the client's test stands in the way
stands : (o : Ordered) (below : List Ordered) (u : ℕ) → o.sealed_then < u → PassesAt (is_in_the_way o.entry.client o.entry.op) (entries below) u → StandsInTheWay o below u
stands o below u unsealed h =
    let both = and_parts (not (nat_eq h.entry.client o.entry.client)) (conflicts h.entry.op o.entry.op) h.passes in
    record {
      unsealed = unsealed;
      within = omega (arith, h.within, length-entries below);
      entry = h.entry;
      there = h.there;
      other = other_client h.entry.client o.entry.client both.0;
      conflict = both.1;
    }

-- and what stands in the way passes it
passes : (o : Ordered) (below : List Ordered) (u : ℕ) → StandsInTheWay o below u → PassesAt (is_in_the_way o.entry.client o.entry.op) (entries below) u
passes o below u h = record {
  within = omega (arith, h.within, length-entries below);
  entry = h.entry;
  there = h.there;
  passes = and_from (not (nat_eq h.entry.client o.entry.client)) (conflicts h.entry.op o.entry.op) (ap not (ne_eqb h.entry.client o.entry.client h.other)) h.conflict;
}

pub aborts_are_conflicts : AbortsAreConflicts
unfolding fate
aborts_are_conflicts o below u =
    let found = least_above_tells o.sealed_then (is_in_the_way o.entry.client o.entry.op) (entries below) u in (
      λ e.
          let least = found.0 (aborted_by_some (in_the_way o.entry.client o.entry.op o.sealed_then (entries below)) (dictionary_by below) o.entry.op u e) in
          (stands o below u least.above least.passes, λ v less h. least.least v h.unsealed less (passes o below v h)),
      λ h. ap (λ w. decided_outcome w (dictionary_by below) o.entry.op)
          (found.1 (record { above = h.0.unsealed; passes = passes o below u h.0; least = λ v above less p. h.1 v less (stands o below v above p) })),
    )
