use Rattle.std.proofs.Common.{◌≡◌, ℕ, ◌+◌, ◌≤◌, Bool, true, false, sym, subst, rules, arith}
use Rattle.vic_drill.specs.Drills.{DrillState, drill_after_closing, drill_after_repeats}
use Rattle.vic_run_drill.specs.Running.{Stands, Closes}
use Rattle.vic_run_drill.proofs.Phases.{repeats_more, repeats_end, more_stands}
use Rattle.vic_run_drill.proofs.run.Drill.seal_all.Goals as goal

pub loop-event-init : goal.loop-event-init
unfolding drill_after_repeats
loop-event-init c = λ d n at.
    let same : n ≡ n + 0 = omega arith in
    subst (λ (j : ℕ). Stands c.args.self.now d j) same at

pub close-requires : goal.close-requires
close-requires c =
    let g = c.requires.begun in
    let k : ℕ = c.loop-event._event in
    let few = g.1.1.0 in
    (drill_after_repeats k drill_after_closing g.0, (g.1.0 + k, (omega (arith, few, c.requires.most, c.loop-event-test.true), c.loop-event.invariant g.0 g.1.0 g.1.1.1)))

pub loop-event-preserved : goal.loop-event-preserved
loop-event-preserved c = λ d n at.
    let k : ℕ = c.loop-event._event in
    let e : DrillState = drill_after_repeats k drill_after_closing d in
    let went : c.in_ok-close.field-0 ≡ true = first_of (search rules, grind arith) in
    let now : Closes c.close.new.self e (n + k) true = subst (λ (b : Bool). Closes c.close.new.self e (n + k) b) went (c.in_ok-close.ensures e (n + k) (c.loop-event.invariant d n at)) in
    let more : (n + k) + 1 ≡ n + (k + 1) = omega arith in
    subst (λ (j : ℕ). Stands c.close.new.self (drill_after_repeats (k + 1) drill_after_closing d) j) more
    (subst (λ (x : DrillState). Stands c.close.new.self x ((n + k) + 1)) (sym (repeats_more drill_after_closing k d)) now)

pub returns-then-not-branch : goal.returns-then-not-branch
returns-then-not-branch c = λ d n at.
    let k : ℕ = c.loop-event._event in
    let e : DrillState = drill_after_repeats k drill_after_closing d in
    let none : c.in_ok-close.field-0 ≡ false = first_of (search rules, grind arith) in
    let now : Closes c.close.new.self e (n + k) false = subst (λ (b : Bool). Closes c.close.new.self e (n + k) b) none (c.in_ok-close.ensures e (n + k) (c.loop-event.invariant d n at)) in
    let le : k ≤ c.args.most = omega (arith, c.loop-event-test.true) in
    more_stands c.close.new.self (drill_after_repeats c.args.most drill_after_closing d) (n + k) (n + c.args.most) (omega (arith, le))
    (subst (λ (x : DrillState). Stands c.close.new.self x (n + k)) (sym (repeats_end drill_after_closing k c.args.most d le now.0)) now.1)

pub returns : goal.returns
returns c = λ d n at.
    let k : ℕ = c.loop-event._event in
    let end : k ≡ c.args.most = omega (arith, c.loop-event-test.false, c.loop-event.auto._event-end) in
    subst (λ (j : ℕ). Stands c.loop-event.self (drill_after_repeats j drill_after_closing d) (n + j)) end (c.loop-event.invariant d n at)
