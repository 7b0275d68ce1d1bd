use Rattle.std.proofs.Common.{◌≡◌, ◌<◌, ◌≤◌, ℕ, List, ap, ◌∙◌, subst, length, arith}
use Rattle.std.proofs.lemmas.List.{length-map}
use mathlib.Core.List.{IsPrefix}
use Rattle.vic_change.specs.declared.Change.{Change}
use Rattle.vic_change.specs.Changes.{of_seat}
use Rattle.vic_turn.specs.Changes.{Each}
use Rattle.vic_turn.proofs.Closing.{settles}
use Rattle.vic_turn.proofs.Lists.{each_map_at}
use Rattle.vic_turn.proofs.lock.TurnLock.close.Goals as goal

pub returns-clause-fixed : goal.returns-clause-fixed
returns-clause-fixed g c =
    let R = g.V.Recorded in
    let shared = c.self.inside.table.shared in
    let count = ap (λ l. l.count) c.self.view_is in
    let all = c.gather-all.result in
    let covers : shared.key.count ≤ length all.me.0.held = omega (arith, count, c.requires.count, ap length c.gather-all.ensures.all.0, length-map {B = ℕ × List Change} c.args.passes (λ p. (p.number, p.mine))) in
    let s = settles R.fixed R.changes (R.fixed shared.key.value.value) shared.key.count _ _ all.id all.me.0 c.take-value.result c.close_with-closed.ensures.values.2 c.gather-all.ensures.idle covers c.take-value.ensures.value in
    let log = R.changes c.take-value.result in
    s.fixed_is ∙ ap (λ l. l.fixed) c.self.view_is

pub returns-clause-passes : goal.returns-clause-passes
returns-clause-passes g c =
    let R = g.V.Recorded in
    let shared = c.self.inside.table.shared in
    let count = ap (λ l. l.count) c.self.view_is in
    let all = c.gather-all.result in
    let covers : shared.key.count ≤ length all.me.0.held = omega (arith, count, c.requires.count, ap length c.gather-all.ensures.all.0, length-map {B = ℕ × List Change} c.args.passes (λ p. (p.number, p.mine))) in
    let s = settles R.fixed R.changes (R.fixed shared.key.value.value) shared.key.count _ _ all.id all.me.0 c.take-value.result c.close_with-closed.ensures.values.2 c.gather-all.ensures.idle covers c.take-value.ensures.value in
    let log = R.changes c.take-value.result in
    λ k d lt. (
      each_map_at (λ e. of_seat e.0 log ≡ e.1) (λ p. (p.number, p.mine)) c.args.passes (subst (Each (λ e. of_seat e.0 log ≡ e.1)) c.gather-all.ensures.all.0 s.held) k d lt,
      each_map_at (λ h. IsPrefix h log) (λ p. p.seen) c.args.passes (subst (Each (λ h. IsPrefix h log)) c.gather-all.ensures.all.1 s.told) k d lt,
    )

pub returns-clause-seats : goal.returns-clause-seats
returns-clause-seats g c =
    let R = g.V.Recorded in
    let shared = c.self.inside.table.shared in
    let count = ap (λ l. l.count) c.self.view_is in
    let all = c.gather-all.result in
    let covers : shared.key.count ≤ length all.me.0.held = omega (arith, count, c.requires.count, ap length c.gather-all.ensures.all.0, length-map {B = ℕ × List Change} c.args.passes (λ p. (p.number, p.mine))) in
    let s = settles R.fixed R.changes (R.fixed shared.key.value.value) shared.key.count _ _ all.id all.me.0 c.take-value.result c.close_with-closed.ensures.values.2 c.gather-all.ensures.idle covers c.take-value.ensures.value in
    let log = R.changes c.take-value.result in
    subst (λ n. Each (λ c. (0 < c.seat) × (c.seat ≤ n)) log) count s.seats
