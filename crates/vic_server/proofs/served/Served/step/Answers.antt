use Rattle.std.proofs.Common.{◌≡◌, sym, ap, subst, ◌∙◌}
use Rattle.vic_wire.specs.declared.message.ToClient.{ToClient}
use Rattle.vic_wire.specs.declared.message.ToClient.TheVariants as say
use Rattle.vic_wire.specs.Reading.{read_request}
use Rattle.vic_server.specs.Causes.{Causes}
use Rattle.vic_server.specs.Replay.{KeptServer, after_request}
use Rattle.vic_server.proofs.Caused.{caused_served}
use Rattle.vic_server.proofs.Refusals.{refused_stepped}
use Rattle.vic_server.proofs.served.Served.step.Goals as goal

pub returns-clause-causes : goal.returns-clause-causes
returns-clause-causes c =
    subst (λ (a : ToClient). Causes c.args.self.now.server c.args.who (read_request c.args.payload.now) a) (sym c.in_ok-answer.ensures.follows.1.0) (caused_served c.args.self.now.server c.args.who c.args.payload.now)

pub returns-clause-refused : goal.returns-clause-refused
returns-clause-refused c r e =
    let k = c.args.self.now in
    let says : c.in_ok-answer.field-0.answer ≡ say.Refused r = cc in
    c.in_ok-keep.ensures.ok ∙ ap (λ (x : KeptServer). after_request x c.args.seat c.args.who c.args.payload.now) c.plan.ensures.same
    ∙ refused_stepped k c.args.seat c.args.who c.args.payload.now r (sym c.in_ok-answer.ensures.follows.1.0 ∙ says)
