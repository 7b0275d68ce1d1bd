use Rattle.std.proofs.Common.{◌+◌, ◌≤◌, List, ℕ, refl, subst, arith}
use Rattle.vic_script.specs.Lines.{lines_of}
use Rattle.vic_text.specs.ClientLines.{client_line_of}
use Rattle.vic_session.specs.declared.place.Place.{Place}
use Rattle.vic_session.specs.declared.lines.Begun.{Begun}
use Rattle.vic_session.specs.Talking.{Began}
use Rattle.vic_session.proofs.Extends.{here}
use Rattle.vic_session.proofs.Lined.{on_here, lined_long, lined_next, lined_asks, lined_bad}
use Rattle.vic_session.proofs.lines.do_line.Goals as goal

pub returns-then-place-gt-LONGEST_SCRIPT-clause-lined : goal.returns-then-place-gt-LONGEST_SCRIPT-clause-lined
returns-then-place-gt-LONGEST_SCRIPT-clause-lined c = λ w t start on.
    let p : Place = c.args.place.now in
    let q : Place = record { rest = c.first_line.result.1; total = p.total; behind = c.line_end-place.result; number = p.number + 1; doing = p.doing } in
    lined_long w t start c.args.client.now p q c.args.out.now c.first_line.result.0.now on c.first_line.ensures.lines refl c.line_end-place.ensures refl (omega (arith, c.if-place-gt-LONGEST_SCRIPT.true))

pub returns-in-Next-clause-lined : goal.returns-in-Next-clause-lined
returns-in-Next-clause-lined c = λ w t start on.
    let p : Place = c.args.place.now in
    let q : Place = record { rest = c.first_line.result.1; total = p.total; behind = c.line_end-place.result; number = p.number + 1; doing = p.doing } in
    let text : List ℕ = c.first_line.result.0.now in
    let there = on_here w t start c.args.client.now p q c.args.out.now text on c.first_line.ensures.lines refl c.line_end-place.ensures refl in
    let few : t.now.calls + 1 ≤ q.number = omega (arith, on.few) in
    let given = c.in_ok-begin.ensures.began w (here w t text (lines_of q.rest.now)) start q there few in
    lined_next w t start c.args.client.now p q c.args.out.now text on c.first_line.ensures.lines refl c.line_end-place.ensures refl c.begin.new.client c.begin.new.out (omega (arith, c.if-place-gt-LONGEST_SCRIPT.false))
    (subst (λ (b : Begun). Began w (here w t text (lines_of q.rest.now)) start (client_line_of w.group.mode text) c.args.client.now c.begin.new.client q c.args.out.now c.begin.new.out b) c.in-Next.is given)

pub returns-in-Asks-clause-lined : goal.returns-in-Asks-clause-lined
returns-in-Asks-clause-lined c = λ w t start on.
    let p : Place = c.args.place.now in
    let q : Place = record { rest = c.first_line.result.1; total = p.total; behind = c.line_end-place.result; number = p.number + 1; doing = p.doing } in
    let text : List ℕ = c.first_line.result.0.now in
    let there = on_here w t start c.args.client.now p q c.args.out.now text on c.first_line.ensures.lines refl c.line_end-place.ensures refl in
    let few : t.now.calls + 1 ≤ q.number = omega (arith, on.few) in
    let given = c.in_ok-begin.ensures.began w (here w t text (lines_of q.rest.now)) start q there few in
    lined_asks w t start c.args.client.now p q c.args.out.now text on c.first_line.ensures.lines refl c.line_end-place.ensures refl c.begin.new.client c.begin.new.out c.in-Asks.sent c.in-Asks.doing (omega (arith, c.if-place-gt-LONGEST_SCRIPT.false))
    (subst (λ (b : Begun). Began w (here w t text (lines_of q.rest.now)) start (client_line_of w.group.mode text) c.args.client.now c.begin.new.client q c.args.out.now c.begin.new.out b) c.in-Asks.is given)

pub returns-in-Bad-clause-lined : goal.returns-in-Bad-clause-lined
returns-in-Bad-clause-lined c = λ w t start on.
    let p : Place = c.args.place.now in
    let q : Place = record { rest = c.first_line.result.1; total = p.total; behind = c.line_end-place.result; number = p.number + 1; doing = p.doing } in
    let text : List ℕ = c.first_line.result.0.now in
    let there = on_here w t start c.args.client.now p q c.args.out.now text on c.first_line.ensures.lines refl c.line_end-place.ensures refl in
    let few : t.now.calls + 1 ≤ q.number = omega (arith, on.few) in
    let given = c.in_ok-begin.ensures.began w (here w t text (lines_of q.rest.now)) start q there few in
    lined_bad w t start c.args.client.now p q c.args.out.now text on c.first_line.ensures.lines refl c.line_end-place.ensures refl c.begin.new.client c.begin.new.out (omega (arith, c.if-place-gt-LONGEST_SCRIPT.false))
    (subst (λ (b : Begun). Began w (here w t text (lines_of q.rest.now)) start (client_line_of w.group.mode text) c.args.client.now c.begin.new.client q c.args.out.now c.begin.new.out b) c.in-Bad.is given)
