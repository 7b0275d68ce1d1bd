use Rattle.std.proofs.Common.{[], ◌∷◌, ◌++◌, ap, ◌∙◌}
use Rattle.vic_dict.specs.Lists.{front}
use Rattle.vic_wire.specs.declared.message.ToClient.TheVariants as say
use Rattle.vic_order.specs.Order.{seal_at_position, entries_above, tagged_entry}
use Rattle.vic_wire.specs.Parts.{part_for}
use Rattle.vic_server.proofs.Seen.{entries_above-more}
use Rattle.vic_server.proofs.machine.Machine.reply_to.Goals as goal

pub returns-clause-is : goal.returns-clause-is
returns-clause-is c =
    let s = c.args.self.now in
    let seal = c.seal_at-seal.ensures.is ∙ ap (seal_at_position s) c.sealed.ensures.is in
    let entries = c.in_ok-push.ensures.ok ∙ ap (λ x. c.in_ok-entries.entries ++ x ∷ []) c.in_ok-item.ensures.is ∙ ap (λ l. l ++ tagged_entry c.args.row.now ∷ []) c.in_ok-entries.ensures.is
    ∙ ap (λ n. entries_above c.args.known (front n s.log) ++ tagged_entry c.args.row.now ∷ []) c.length.ensures.is ∙ entries_above-more c.args.known c.args.row.now s c.requires.known in
    let part = c.in_ok-part.ensures.is ∙ ap (part_for s.dictionary) c.op.ensures.is in
    λ i. say.Reply (seal i) (entries i) (part i)
