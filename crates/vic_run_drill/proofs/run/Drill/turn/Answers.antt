use Rattle.std.proofs.Common.{◌≡◌, ◌+◌, Bool, false, length, ap, subst, ◌∙◌, arith}
use Rattle.vic_gen.specs.Drawing.{Drawing, next_drawing, client_drawn}
use Rattle.vic_drill.specs.Drills.{DrillState, drill_after_next_act, drill_after_turn}
use Rattle.vic_run_drill.specs.Running.{Stands, WentOn}
use Rattle.vic_run_drill.proofs.Asking.{drawn_stands, drawn_from}
use Rattle.vic_run_drill.proofs.Phases.{turned_on, turned_next, on_ok_map}
use Rattle.vic_run_drill.proofs.run.Drill.turn.Goals as goal

pub go_on-requires-clause-going : goal.go_on-requires-clause-going
go_on-requires-clause-going c =
    let g = c.requires.going in
    (record g.0 { drawing = next_drawing g.0.drawing }, (g.1.0, (g.1.1.0, drawn_stands c.args.self.now g.0 g.1.0 c.pick-who.new.self g.1.1.1 c.pick-who.ensures.moved)))

pub returns-then-branch : goal.returns-then-branch
returns-then-branch c = λ d n few at.
    let e : DrillState = record d { drawing = next_drawing d.drawing } in
    let went = c.in_ok-go_on.ensures e n (drawn_stands c.args.self.now d n c.pick-who.new.self at c.pick-who.ensures.moved) in
    turned_on c.go_on.new.self d n c.pick-who.result (c.pick-who.ensures.picked ∙ ap (λ (x : Drawing). client_drawn x) at.drawing)
    (subst (λ (b : Bool). WentOn c.go_on.new.self e n c.pick-who.result b) c.if-branch.true went)

pub act-requires-clause-rests : goal.act-requires-clause-rests
act-requires-clause-rests c =
    let g = c.requires.going in
    let e : DrillState = record g.0 { drawing = next_drawing g.0.drawing } in
    let went = c.in_ok-go_on.ensures e g.1.0 (drawn_stands c.args.self.now g.0 g.1.0 c.pick-who.new.self g.1.1.1 c.pick-who.ensures.moved) in
    let so : WentOn c.go_on.new.self e g.1.0 c.pick-who.result false = subst (λ (b : Bool). WentOn c.go_on.new.self e g.1.0 c.pick-who.result b) c.if-branch.false went in
    (e, (g.1.0, (g.1.1.0, (so.1, so.0))))

pub act-requires-clause-known : goal.act-requires-clause-known
act-requires-clause-known c =
    let g = c.requires.going in
    let e : DrillState = record g.0 { drawing = next_drawing g.0.drawing } in
    let went = c.in_ok-go_on.ensures e g.1.0 (drawn_stands c.args.self.now g.0 g.1.0 c.pick-who.new.self g.1.1.1 c.pick-who.ensures.moved) in
    let so : WentOn c.go_on.new.self e g.1.0 c.pick-who.result false = subst (λ (b : Bool). WentOn c.go_on.new.self e g.1.0 c.pick-who.result b) c.if-branch.false went in
    let now : length c.go_on.new.self.seats.items ≡ g.0.scene.group.count = so.1.scene.count in
    let before : length c.args.self.now.seats.items ≡ g.0.scene.group.count = g.1.1.1.scene.count in
    let drawn = drawn_from c.args.self.now g.0 g.1.0 g.1.1.1 in
    omega (arith, now, before, drawn, c.pick-who.ensures.known)

pub act-requires-clause-few : goal.act-requires-clause-few
act-requires-clause-few c =
    let g = c.requires.going in
    let e : DrillState = record g.0 { drawing = next_drawing g.0.drawing } in
    let went = c.in_ok-go_on.ensures e g.1.0 (drawn_stands c.args.self.now g.0 g.1.0 c.pick-who.new.self g.1.1.1 c.pick-who.ensures.moved) in
    let so : WentOn c.go_on.new.self e g.1.0 c.pick-who.result false = subst (λ (b : Bool). WentOn c.go_on.new.self e g.1.0 c.pick-who.result b) c.if-branch.false went in
    let now : c.go_on.new.self.calls ≡ g.0.calls = so.1.calls in
    let before : c.args.self.now.calls ≡ g.0.calls = g.1.1.1.calls in
    omega (arith, now, before, c.requires.few)

pub returns : goal.returns
returns c = λ d n few at.
    let e : DrillState = record d { drawing = next_drawing d.drawing } in
    let went = c.in_ok-go_on.ensures e n (drawn_stands c.args.self.now d n c.pick-who.new.self at c.pick-who.ensures.moved) in
    let so : WentOn c.go_on.new.self e n c.pick-who.result false = subst (λ (b : Bool). WentOn c.go_on.new.self e n c.pick-who.result b) c.if-branch.false went in
    on_ok_map c.act.result (Stands c.act.new.self (drill_after_next_act c.pick-who.result e) (n + 1)) (Stands c.act.new.self (drill_after_turn d) (n + 1))
    (λ made. turned_next c.act.new.self d n c.pick-who.result (c.pick-who.ensures.picked ∙ ap (λ (x : Drawing). client_drawn x) at.drawing) so.0 made)
    (c.act.ensures e n few so.1 so.0)
