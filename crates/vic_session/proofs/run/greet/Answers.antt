use Rattle.std.proofs.Common.{◌≡◌, inl, List, ℕ, Some, Ok, Err, ap, subst, ◌∙◌}
use Rattle.vic_dict.specs.declared.op.Mode.{Mode}
use Rattle.vic_wire.specs.declared.message.ToServer.TheVariants as ask
use Rattle.vic_wire.specs.Messages.{request_text}
use Rattle.vic_client.specs.Kept.{kept_group}
use Rattle.vic_session.specs.declared.wire.WireFault.{WireFault}
use Rattle.vic_session.specs.declared.wire.WireFault.TheVariants as fault
use Rattle.vic_session.specs.Wires.{Asks}
use Rattle.vic_session.specs.Running.{JudgedHello}
use Rattle.vic_session.proofs.Sessions.{greeted_of}
use Rattle.vic_session.proofs.run.greet.Goals as goal

pub returns-in-Err-Length : goal.returns-in-Err-Length
returns-in-Err-Length g c =
    let is : c.in-Ok.hello ≡ request_text (ask.Hello c.args.client.now.mode c.args.client.now.id) = c.in-Ok.ensures.text ∙ ap (λ (k : Mode). request_text (ask.Hello k c.id.result)) c.mode.ensures ∙ ap (λ (n : ℕ). request_text (ask.Hello c.args.client.now.mode n)) c.id.ensures in
    let a = subst (λ (f : WireFault). Asks (Some c.in-Ok.hello) c.args.reader.now c.ask.new.reader (g.L.Link.told c.args.link.now) (g.L.Link.told c.ask.new.link) (Err f)) c.in-Err-Length.field-0-is c.in-Err-Length.ensures in
    inl (subst (λ (b : List ℕ). Asks (Some b) c.args.reader.now c.ask.new.reader (g.L.Link.told c.args.link.now) (g.L.Link.told c.ask.new.link) (Err fault.Length)) is a)

pub returns-in-Ok-ask : goal.returns-in-Ok-ask
returns-in-Ok-ask g c =
    let is : c.in-Ok.hello ≡ request_text (ask.Hello c.args.client.now.mode c.args.client.now.id) = c.in-Ok.ensures.text ∙ ap (λ (k : Mode). request_text (ask.Hello k c.id.result)) c.mode.ensures ∙ ap (λ (n : ℕ). request_text (ask.Hello c.args.client.now.mode n)) c.id.ensures in
    greeted_of (kept_group c.args.client.now) c.args.client.now.id c.args.reader.now c.ask.new.reader c.in-Ok-ask.payload (g.L.Link.told c.args.link.now) (g.L.Link.told c.ask.new.link) c.judge_hello.result
    (subst (λ (b : List ℕ). Asks (Some b) c.args.reader.now c.ask.new.reader (g.L.Link.told c.args.link.now) (g.L.Link.told c.ask.new.link) (Ok c.in-Ok-ask.payload)) is c.in-Ok-ask.ensures)
    (subst (λ (p : List ℕ). JudgedHello p c.judge_hello.result) c.as_slice.ensures c.judge_hello.ensures)
