use Rattle.std.proofs.Common.{◌≡◌, ◌-◌, true, false, [], ◌∷◌, subst, ◌∙◌, arith}
use Rattle.vic_order.specs.Scenes.{SceneOf, after_serving, waits_in, Serves, Takes, after_events}
use Rattle.vic_script.specs.Scenes.{events_of_turns}
use Rattle.vic_group.specs.World.{ShowsScene}
use Rattle.vic_group.proofs.Turns.{serves_rest, turns_end, turns_rest, turns_on, answers, taken_aloud, runs_quietly, makes_on_if, left_unserved_if, left_untaken_if, left_later_if}
use Rattle.vic_group.proofs.world.World.+run.Goals as goal

pub returns-then-left-eq0-clause-ok : goal.returns-then-left-eq0-clause-ok
returns-then-left-eq0-clause-ok g t c = λ s shows.
    runs_quietly g.S.Serve.state g.S.Serve.rule (events_of_turns g.S.Serve.rule c.args.left s c.args.who) s c.args.self.now c.args.out.now (turns_end g.S.Serve.rule c.args.left s c.args.who c.if-left-eq0.true) shows

pub returns-in_err-serve-clause-err : goal.returns-in_err-serve-clause-err
returns-in_err-serve-clause-err g t c = λ s shows.
    left_unserved_if g.S.Serve.state g.S.Serve.rule c.from_residual.result c.args.left s c.args.who c.serve.new.self (omega (arith, c.if-left-eq0.false)) (c.in_err-serve.ensures.err s shows)

pub returns-then-not-branch-clause-ok : goal.returns-then-not-branch-clause-ok
returns-then-not-branch-clause-ok g t c = λ s shows.
    let served = c.in_ok-serve.ensures.ok s shows in
    let none : waits_in s.up c.args.who ≡ false = served.0 ∙ c.if-not-branch.true in
    runs_quietly g.S.Serve.state g.S.Serve.rule (events_of_turns g.S.Serve.rule c.args.left s c.args.who) s c.serve.new.self c.args.out.now (turns_rest g.S.Serve.rule c.args.left s c.args.who none)
    (subst (λ (now : SceneOf g.row.S-State.Denot). ShowsScene g.S.Serve.state c.serve.new.self now) (serves_rest g.S.Serve.rule s c.args.who none) served.1)

pub returns-in_err-take-clause-err : goal.returns-in_err-take-clause-err
returns-in_err-take-clause-err g t c = λ s shows.
    let served = c.in_ok-serve.ensures.ok s shows in
    left_untaken_if g.S.Serve.state g.S.Serve.rule c.from_residual-in_err-take.result c.args.left s c.args.who c.take.new.self (omega (arith, c.if-left-eq0.false)) (c.in_err-take.ensures.err (after_serving g.S.Serve.rule s c.args.who) served.1)

pub returns-clause-ok : goal.returns-clause-ok
returns-clause-ok g t c = λ s shows.
    let state = g.S.Serve.state in
    let rule = g.S.Serve.rule in
    let served = c.in_ok-serve.ensures.ok s shows in
    let some : waits_in s.up c.args.who ≡ true = served.0 ∙ c.if-not-branch.false in
    let mid = after_serving rule s c.args.who in
    let took = c.in_ok-take.ensures.ok mid served.1 in
    let turn = taken_aloud state rule mid c.args.who c.take.new.self c.args.out.now c.take.new.out c.in_ok-take.field-0 took.0 (answers state rule c.args.self.now s c.args.who c.args.place shows c.requires.place c.requires.within some) took.1 in
    let next = after_events rule s (Takes c.args.who ∷ Serves c.args.who ∷ []) in
    makes_on_if state rule c.run.result s (events_of_turns rule c.args.left s c.args.who) (events_of_turns rule (c.args.left - 1) next c.args.who) (Takes c.args.who ∷ Serves c.args.who ∷ []) c.args.out.now c.take.new.out c.run.new.out c.run.new.self
    (turns_on rule c.args.left (c.args.left - 1) s c.args.who (omega (arith, c.if-left-eq0.false)) some) turn.0 (c.run.ensures.ok next turn.1)

pub returns-clause-err : goal.returns-clause-err
returns-clause-err g t c = λ s shows.
    let state = g.S.Serve.state in
    let rule = g.S.Serve.rule in
    let served = c.in_ok-serve.ensures.ok s shows in
    let some : waits_in s.up c.args.who ≡ true = served.0 ∙ c.if-not-branch.false in
    let mid = after_serving rule s c.args.who in
    let took = c.in_ok-take.ensures.ok mid served.1 in
    let turn = taken_aloud state rule mid c.args.who c.take.new.self c.args.out.now c.take.new.out c.in_ok-take.field-0 took.0 (answers state rule c.args.self.now s c.args.who c.args.place shows c.requires.place c.requires.within some) took.1 in
    let next = after_events rule s (Takes c.args.who ∷ Serves c.args.who ∷ []) in
    left_later_if state rule c.run.result c.args.left (c.args.left - 1) s c.args.who c.run.new.self (omega (arith, c.if-left-eq0.false)) some (c.run.ensures.err next turn.1)
