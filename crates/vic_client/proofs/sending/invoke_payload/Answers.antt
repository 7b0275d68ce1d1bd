use Rattle.std.proofs.Common.{◌≡◌, IfOk, subst}
use Rattle.vic_dict.specs.declared.op.Op.{Op}
use Rattle.vic_wire.specs.declared.message.ToServer.TheVariants as ask
use Rattle.vic_wire.specs.Texts.{invoke_text}
use Rattle.vic_wire.specs.Hashes.{tag_of}
use Rattle.vic_wire.specs.Messages.{request_text}
use Rattle.vic_checks.specs.State.{state_group}
use Rattle.vic_client.proofs.Requests.{invoke_is, written}
use Rattle.vic_client.proofs.sending.invoke_payload.Goals as goal

pub returns-clause-sent : goal.returns-clause-sent
returns-clause-sent c s shows =
    let g = state_group c.args.state.now in
    let tag = c.invoke_tag-tag.result in
    let tagged : tag.bytes ≡ tag_of c.args.state.now.key (invoke_text (record { client = c.args.state.now.id; seq = c.args.seq; op = c.args.op.now })) =
    subst (λ (o : Op). tag.bytes ≡ tag_of c.args.state.now.key (invoke_text (record { client = c.args.state.now.id; seq = c.args.seq; op = o }))) c.in_ok-copy.ensures c.invoke_tag-tag.ensures in
    written c.request_payload.result _ _ (invoke_is g c.args.state.now.id s c.length.result c.args.seq c.args.op.now tag (c.length.ensures.shows g s.path shows) tagged)
    (subst (λ (o : Op). IfOk c.request_payload.result (λ b. b ≡ request_text (ask.Invoke c.length.result c.args.seq o tag))) c.in_ok-copy.ensures c.request_payload.ensures.text)
