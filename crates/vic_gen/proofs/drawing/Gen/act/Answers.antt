use Rattle.std.proofs.Common.{◌≡◌, ◌<◌, ◌+◌, ◌-◌, ◌%◌, ℕ, length, get_or, set, sym, ap, ◌∙◌, subst, arith}
use Rattle.vic_gen.specs.declared.Act.TheVariants as act
use Rattle.vic_gen.specs.Drawing.{Drawing, next_of, act_of, drawing_after_act}
use Rattle.vic_gen.proofs.Calls.{acts-at, is_poll-at, act-calls, drawing_after_act-calls}
use Rattle.vic_gen.proofs.drawing.Gen.act.Goals as goal

pub returns-clause-act : goal.returns-clause-act
returns-clause-act c =
    let d : Drawing = record { x = c.self.inside.x; acts = c.self.inside.acts.items } in
    let client = c.args.client in let n = c.index-times.result.now in
    let known = ap (λ (d : Drawing). length d.acts) c.self.view_is in
    let within : client - 1 < length d.acts = omega (arith, known) in
    let read : n ≡ get_or d.acts (client - 1) n = subst (λ (p : ℕ). n ≡ get_or d.acts (p - 1) n) c.from-place.ensures c.index-times.ensures in
    let times = acts-at d client n within read in
    subst (λ (d : Drawing). act.Call c.in_ok-op.op ≡ act_of d client c.args.call) c.self.view_is
    (act-calls d client c.args.call c.draw.result c.next-behind.result c.in_ok-op.op (is_poll-at d client n times c.if-times-eq-POLL.false) c.draw.ensures.drawn c.next-behind.ensures c.in_ok-op.ensures.operation)

pub returns-clause-ok : goal.returns-clause-ok
returns-clause-ok c =
    let d : Drawing = record { x = c.self.inside.x; acts = c.self.inside.acts.items } in
    let client = c.args.client in let n = c.index-times.result.now in
    let known = ap (λ (d : Drawing). length d.acts) c.self.view_is in
    let within : client - 1 < length d.acts = omega (arith, known) in
    let read : n ≡ get_or d.acts (client - 1) n = subst (λ (p : ℕ). n ≡ get_or d.acts (p - 1) n) c.from-place.ensures c.index-times.ensures in
    let times = acts-at d client n within read in
    let left : ℕ → ℕ → ℕ → Drawing = λ x p m. record { x = x; acts = set d.acts (p - 1) ((m + 1) % 4) } in
    let far = c.next-self-inside.ensures ∙ ap next_of c.next-behind.ensures in
    subst (λ (d : Drawing). left c.next-self-inside.result c.from-place.result c.from.result ≡ drawing_after_act d client) c.self.view_is
    (ap (λ x. left x c.from-place.result c.from.result) far ∙ ap (λ p. left (next_of (next_of d.x)) p c.from.result) c.from-place.ensures ∙ ap (λ m. left (next_of (next_of d.x)) client m) c.from.ensures
    ∙ sym (drawing_after_act-calls d client n (is_poll-at d client n times c.if-times-eq-POLL.false) times))
