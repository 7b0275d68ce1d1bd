use Rattle.std.proofs.Common.{◌≡◌, ℕ, ◌+◌, ◌<◌, ◌≤◌, sym, subst, ◌∙◌, arith}
use Rattle.vic_drill.specs.Drills.{DrillState, drill_after_turn_below, drill_after_repeats}
use Rattle.vic_run_drill.specs.Running.{Stands}
use Rattle.vic_run_drill.proofs.Phases.{repeats_more, repeats_end, more_stands, turn_left, turn_none}
use Rattle.vic_run_drill.proofs.run.Drill.make_calls.Goals as goal

pub loop-turn-init : goal.loop-turn-init
unfolding drill_after_repeats
loop-turn-init c = λ d at. at

pub returns-then-calls-self : goal.returns-then-calls-self
returns-then-calls-self c = λ d at.
    let k : ℕ = c.loop-turn._turn in
    let f = drill_after_turn_below c.args.calls in
    let e : DrillState = drill_after_repeats k f d in
    let now : Stands c.loop-turn.self e k = c.loop-turn.invariant d at in
    let same : c.loop-turn.self.calls ≡ e.calls = now.calls in
    let made : c.args.calls ≤ e.calls = omega (arith, same, c.if-calls-self.true) in
    let le : k ≤ c.args.most = omega (arith, c.loop-turn-test.true) in
    more_stands c.loop-turn.self (drill_after_repeats c.args.most f d) k c.args.most le
    (subst (λ (x : DrillState). Stands c.loop-turn.self x k) (sym (repeats_end f k c.args.most d le (turn_none c.args.calls e made))) now)

pub turn-requires-clause-going : goal.turn-requires-clause-going
turn-requires-clause-going c =
    let g = c.requires.begun in
    (drill_after_repeats c.loop-turn._turn (drill_after_turn_below c.args.calls) g.0, (c.loop-turn._turn, (omega (arith, c.requires.most, c.loop-turn-test.true), c.loop-turn.invariant g.0 g.1)))

pub loop-turn-preserved : goal.loop-turn-preserved
loop-turn-preserved c = λ d at.
    let k : ℕ = c.loop-turn._turn in
    let f = drill_after_turn_below c.args.calls in
    let e : DrillState = drill_after_repeats k f d in
    let now : Stands c.loop-turn.self e k = c.loop-turn.invariant d at in
    let same : c.loop-turn.self.calls ≡ e.calls = now.calls in
    let left : e.calls < c.args.calls = omega (arith, same, c.if-calls-self.false) in
    subst (λ (x : DrillState). Stands c.turn.new.self x (k + 1)) (sym (repeats_more f k d ∙ turn_left c.args.calls e left))
    (c.in_ok-turn.ensures e k (omega (arith, c.requires.most, c.loop-turn-test.true)) now)

pub returns : goal.returns
returns c = λ d at.
    let k : ℕ = c.loop-turn._turn in
    let f = drill_after_turn_below c.args.calls in
    let end : k ≡ c.args.most = omega (arith, c.loop-turn-test.false, c.loop-turn.auto._turn-end) in
    subst (λ (j : ℕ). Stands c.loop-turn.self (drill_after_repeats j f d) j) end (c.loop-turn.invariant d at)
