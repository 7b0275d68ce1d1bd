use Rattle.std.proofs.Common.{◌≡◌, sym, ap, subst, ◌∙◌}
use Rattle.vic_wire.specs.declared.message.ToClient.{ToClient}
use Rattle.vic_wire.specs.declared.message.ToClient.TheVariants as say
use Rattle.vic_wire.specs.Reading.{read_request}
use Rattle.vic_order.specs.Order.{Server}
use Rattle.vic_server.specs.Causes.{Causes}
use Rattle.vic_server.specs.Changes.{server_after}
use Rattle.vic_server.proofs.Caused.{caused_served}
use Rattle.vic_server.proofs.Refusals.{refused_served}
use Rattle.vic_server.proofs.machine.Machine.step.Goals as goal

pub returns-clause-causes : goal.returns-clause-causes
returns-clause-causes c =
    subst (λ (a : ToClient). Causes c.args.self.now c.args.who (read_request c.args.payload.now) a) (sym c.in_ok-answer.ensures.follows.1.0) (caused_served c.args.self.now c.args.who c.args.payload.now)

pub returns-clause-refused : goal.returns-clause-refused
returns-clause-refused c r e =
    let says : c.in_ok-answer.field-0.answer ≡ say.Refused r = cc in
    c.in_ok-enact.ensures.ok ∙ ap (λ (s : Server). server_after s c.in_ok-answer.field-0.change) c.plan.ensures.same ∙ c.in_ok-answer.ensures.follows.0 ∙ refused_served c.args.self.now c.args.who c.args.payload.now r (sym c.in_ok-answer.ensures.follows.1.0 ∙ says)
