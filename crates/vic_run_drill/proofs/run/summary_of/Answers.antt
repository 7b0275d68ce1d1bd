use Rattle.std.proofs.Common.{◌≡◌, ℕ, List, ◌∙◌, arith}
use Rattle.vic_drill.specs.Drills.{DrillState, drill_at_start, drill_after_turn_below, drill_after_repeats, drill_after_closing, print_of_drill}
use Rattle.vic_drill.proofs.Drilled.{drills_are_honest}
use Rattle.vic_run_drill.specs.Running.{summary_lines}
use Rattle.vic_run_drill.proofs.Phases.{if_ok_map}
use Rattle.vic_run_drill.proofs.Summing.{summary_is, printed}
use Rattle.vic_run_drill.proofs.run.summary_of.Goals as goal

pub returns-in_err-drill-clause-honest : goal.returns-in_err-drill-clause-honest
returns-in_err-drill-clause-honest c = drills_are_honest c.args.number c.args.clients c.args.calls c.requires.some c.requires.few c.requires.bound

pub returns-in_err-make_calls-clause-honest : goal.returns-in_err-make_calls-clause-honest
returns-in_err-make_calls-clause-honest c = drills_are_honest c.args.number c.args.clients c.args.calls c.requires.some c.requires.few c.requires.bound

pub returns-in_err-seal_all-clause-honest : goal.returns-in_err-seal_all-clause-honest
returns-in_err-seal_all-clause-honest c = drills_are_honest c.args.number c.args.clients c.args.calls c.requires.some c.requires.few c.requires.bound

pub returns-clause-honest : goal.returns-clause-honest
returns-clause-honest c = drills_are_honest c.args.number c.args.clients c.args.calls c.requires.some c.requires.few c.requires.bound

pub seal_all-requires-clause-begun : goal.seal_all-requires-clause-begun
seal_all-requires-clause-begun c = (
  drill_after_repeats c.most_turns.result (drill_after_turn_below c.args.calls) (drill_at_start c.args.number c.args.clients),
  (c.most_turns.result, (omega (arith, c.most_turns.ensures, c.requires.bound), c.in_ok-make_calls.ensures (drill_at_start c.args.number c.args.clients) c.in_ok-drill.ensures)),
)

pub returns-clause-text : goal.returns-clause-text
returns-clause-text c =
    let d : DrillState = drill_after_repeats c.most_turns.result (drill_after_turn_below c.args.calls) (drill_at_start c.args.number c.args.clients) in
    let r = c.seal_all.new.self in
    let made = c.in_ok-make_calls.ensures (drill_at_start c.args.number c.args.clients) c.in_ok-drill.ensures in
    let at = c.in_ok-seal_all.ensures d c.most_turns.result made in
    if_ok_map c.summary.result (λ (text : List ℕ). text ≡ summary_lines c.args.clients c.args.calls r.tally r.served.server) (λ (text : List ℕ). text ≡ print_of_drill c.args.number c.args.clients c.args.calls)
    (λ text e. e ∙ summary_is r (drill_after_repeats c.most_events.result drill_after_closing d) _ c.args.clients c.args.calls at
    ∙ printed c.args.number c.args.clients c.args.calls c.most_turns.result c.most_events.result c.most_turns.ensures c.most_events.ensures)
    c.summary.ensures
