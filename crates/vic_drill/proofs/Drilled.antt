-- A drill is an honest run, to its end.
use Rattle.std.proofs.Common.{◌≡◌, ℕ, zero, suc, ◌+◌, ◌<◌, ◌≤◌, ◌^◌, Bool, true, false, List, [], ◌∷◌, length, Option, Some, None, if◌then◌else◌, nat_lt, refl, sym, ap, ◌∙◌, arith}
use Rattle.std.specs.List.{AllByRecursion}
use Rattle.vic_wire.specs.Hashes.{Group}
use Rattle.vic_order.specs.Order.{Ordered, Server, sealed_count, ordered_at}
use Rattle.vic_order.specs.Scenes.{Scene}
use Rattle.vic_honest.specs.SafeRuns.{IsSafeRun}
use Rattle.vic_rules.specs.Trust.{texts_made}
use Rattle.vic_honest.proofs.Standing.{EntryFits}
use Rattle.vic_honest.proofs.Owns.{AllOn}
use Rattle.vic_honest.proofs.Knowing.{IsOrdered}
use Rattle.vic_honest.proofs.Runs.{run_fits, run_knows}
use Rattle.vic_honest.proofs.Scenes.{honest_runs_hold}
use borrow.Author.Tests.{ltb-true}
use Rattle.vic_gen.specs.Drawing.{next_drawing, client_drawn, act_of, drawing_after_act}
use Rattle.vic_drill.specs.Drills.{DrillState, drill_at_start, drill_after_next_act, drill_after_delivery, waits_for, drill_after_turn_of, drill_after_turn, drill_after_turn_below, drill_after_repeats, first_waiting, server_in, unsealed_in, drill_after_poll, drill_after_closing_by, drill_after_closing, most_turns, most_events, drill_of}
use Rattle.vic_drill.specs.Laws.{RunsHonestly, DrillsAreHonest}
use Rattle.vic_drill.proofs.Acts.{act-may, drawing_after_act-acts, client_drawn-member}
use Rattle.vic_drill.proofs.Waiting.{IsFirst, first_is, at-holds}
use Rattle.vic_drill.proofs.Honest.{drawn-runs, runs-safe, more-runs, drill_at_start-runs, drill_after_delivery-runs, polls-runs, drill_after_act-runs}

-- ---- the main phase

module _ (clients : ℕ) (d : DrillState) (n : ℕ) (r : RunsHonestly clients d n) (few : n + 1 < 2 ^ 32) (calls_few : d.calls + 1 < 2 ^ 32) where
  next-runs : (me : ℕ) → 0 < me → me ≤ clients → waits_for d.scene me ≡ false → RunsHonestly clients (drill_after_next_act me d) (n + 1)
  next-runs me above upto none =
      let e : DrillState = record d { drawing = drawing_after_act d.drawing me } in
      let s : RunsHonestly clients e n = drawn-runs clients d n (drawing_after_act d.drawing me) d.calls (drawing_after_act-acts d.drawing me ∙ r.drawing) r in
      drill_after_act-runs clients e n s me above upto none few (act_of d.drawing me (d.calls + 1)) (act-may d.drawing me (d.calls + 1) calls_few)

  turn_by : (me : ℕ) → 0 < me → me ≤ clients → (b : Bool) → waits_for d.scene me ≡ b → RunsHonestly clients (if b then drill_after_delivery me d else drill_after_next_act me d) (n + 1)
  turn_by me above upto true e = drill_after_delivery-runs clients d n r me above upto e
  turn_by me above upto false e = next-runs me above upto e

  pub drill_after_turn_of-runs : (me : ℕ) → 0 < me → me ≤ clients → RunsHonestly clients (drill_after_turn_of me d) (n + 1)
  drill_after_turn_of-runs me above upto = turn_by me above upto (waits_for d.scene me) refl

pub drill_after_turn-runs : (clients : ℕ) (d : DrillState) (n : ℕ) → RunsHonestly clients d n → n + 1 < 2 ^ 32 → d.calls + 1 < 2 ^ 32 → RunsHonestly clients (drill_after_turn d) (n + 1)
drill_after_turn-runs clients d n r few calls_few =
    let count : clients ≡ d.scene.group.count = sym (ap (λ g. g.count) r.group) in
    let some : 0 < length d.drawing.acts = omega (arith, r.drawing, count, r.run.group.count.0) in
    let who = client_drawn-member d.drawing some in
    drill_after_turn_of-runs clients (record d { drawing = next_drawing d.drawing }) n (drawn-runs clients d n (next_drawing d.drawing) d.calls r.drawing r) few calls_few (client_drawn d.drawing) who.0 (omega (arith, who.1, r.drawing))

below_by : (clients calls n : ℕ) (d : DrillState) → n + 1 < 2 ^ 32 → calls ≤ 100000 → RunsHonestly clients d n → (b : Bool) → nat_lt d.calls calls ≡ b → RunsHonestly clients (if b then drill_after_turn d else d) (n + 1)
below_by clients calls n d few bound r true e = drill_after_turn-runs clients d n r few (omega (arith, ltb-true d.calls calls e))
below_by clients calls n d few bound r false e = more-runs clients d n (n + 1) (omega arith) r

pub drill_after_turn_below-runs : (clients calls n : ℕ) (d : DrillState) → n + 1 < 2 ^ 32 → calls ≤ 100000 → RunsHonestly clients d n → RunsHonestly clients (drill_after_turn_below calls d) (n + 1)
drill_after_turn_below-runs clients calls n d few bound r = below_by clients calls n d few bound r (nat_lt d.calls calls) refl

-- what holds after each time holds after so many
pub drill_after_repeats-keep : (P : DrillState → ℕ → Type 0) (f : DrillState → DrillState) (most : ℕ) → ((d : DrillState) (n : ℕ) → n + 1 < most → P d n → P (f d) (n + 1)) → ((d : DrillState) (n m : ℕ) → n ≡ m → P d n → P d m)
    → (k n : ℕ) (d : DrillState) → n + k < most → P d n → P (drill_after_repeats k f d) (n + k)
unfolding drill_after_repeats
drill_after_repeats-keep P f most one same zero n d few h = same d n (n + 0) (omega arith) h
drill_after_repeats-keep P f most one same (suc k) n d few h = same (drill_after_repeats k f (f d)) ((n + 1) + k) (n + suc k) (omega arith) (drill_after_repeats-keep P f most one same k (n + 1) (f d) (omega arith) (one d n (omega arith) h))

same-runs : (clients : ℕ) (d : DrillState) (n m : ℕ) → n ≡ m → RunsHonestly clients d n → RunsHonestly clients d m
same-runs clients d n m e r = more-runs clients d n m (omega arith) r

-- ---- the closing phase

members : (g : Group) (log : List Ordered) → AllOn (IsOrdered g) log → AllByRecursion (λ o. o.entry.client ≤ g.count) log
members g [] h = tt
members g (o ∷ below) h = (h.0.member, members g below h.1)

some_client : (made : List (List ℕ)) (log : List Ordered) → AllByRecursion (EntryFits made) log → AllByRecursion (λ o. 0 < o.entry.client) log
some_client made [] h = tt
some_client made (o ∷ below) h = (h.0.spelled.client.0, some_client made below h.1)

-- an entry's owner is a client of the group
pub owner-member : (s : Scene) (server : Server) (d : DrillState) → IsSafeRun s server d.events → (n : ℕ) (o : Ordered) → ordered_at server n ≡ Some o → (0 < o.entry.client) × (o.entry.client ≤ s.group.count)
owner-member s server d run n o there = (
  at-holds (λ o. 0 < o.entry.client) server n o there (some_client (texts_made s.group s.history) server.log (run_fits s server d.events run.honest).fits.server.log),
  at-holds (λ o. o.entry.client ≤ s.group.count) server n o there (members s.group server.log (run_knows s server d.events run).server.ordered),
)

module _ (clients : ℕ) (d : DrillState) (n : ℕ) (r : RunsHonestly clients d n) where
  count_is : d.scene.group.count ≡ clients
  count_is = ap (λ g. g.count) r.group

  polls_by : ((j : ℕ) → 1 ≤ j → j < 1 + d.scene.group.count → waits_for d.scene j ≡ false) → (o : Option Ordered) → ordered_at r.server (sealed_count r.server + 1) ≡ o → RunsHonestly clients (drill_after_poll o d) (n + 1)
  polls_by none None there = more-runs clients d n (n + 1) (omega arith) r
  polls_by none (Some o) there =
      let who = owner-member d.scene r.server d (runs-safe clients d n r) (sealed_count r.server + 1) o there in
      polls-runs clients d n r o.entry.client who.0 (omega (arith, who.1, count_is)) (none o.entry.client (omega (arith, who.0)) (omega (arith, who.1)))

  closes_on : (o : Option ℕ) → IsFirst d.scene 1 d.scene.group.count o → RunsHonestly clients (drill_after_closing_by o d) (n + 1)
  closes_on (Some me) first = drill_after_delivery-runs clients d n r me (omega (arith, first.0)) (omega (arith, first.1, count_is)) first.2
  closes_on None none = polls_by none (unsealed_in (server_in d.scene)) (sym (ap unsealed_in r.run.one))

  pub drill_after_closing-runs : RunsHonestly clients (drill_after_closing d) (n + 1)
  drill_after_closing-runs = closes_on (first_waiting d.scene 1 d.scene.group.count) (first_is d.scene 1 d.scene.group.count)

-- ---- the whole

pub drill_of-runs : (number clients calls : ℕ) → 0 < clients → clients ≤ 64 → calls ≤ 100000 → RunsHonestly clients (drill_of number clients calls) (most_turns calls + most_events clients calls)
unfolding drill_of
drill_of-runs number clients calls some few bound =
    let made : RunsHonestly clients (drill_after_repeats (most_turns calls) (drill_after_turn_below calls) (drill_at_start number clients)) (0 + most_turns calls) =
    drill_after_repeats-keep (RunsHonestly clients) (drill_after_turn_below calls) (2 ^ 32) (λ d n small r. drill_after_turn_below-runs clients calls n d small bound r) (same-runs clients) (most_turns calls) 0 (drill_at_start number clients) (omega arith) (drill_at_start-runs number clients some few) in
    drill_after_repeats-keep (RunsHonestly clients) drill_after_closing (2 ^ 32) (λ d n small r. drill_after_closing-runs clients d n r) (same-runs clients) (most_events clients calls) (most_turns calls)
    (drill_after_repeats (most_turns calls) (drill_after_turn_below calls) (drill_at_start number clients)) (omega arith) (same-runs clients _ (0 + most_turns calls) (most_turns calls) (omega arith) made)

pub drills_are_honest : DrillsAreHonest
drills_are_honest number clients calls some few bound =
    let r = drill_of-runs number clients calls some few bound in
    let d : DrillState = drill_of number clients calls in
    record { server = r.server; run = r.run; holds = honest_runs_hold d.scene r.server d.events (runs-safe clients d (most_turns calls + most_events clients calls) r) }
