use Rattle.std.proofs.Common.{◌≡◌, sym, ap, subst, ◌∙◌, true, Some}
use Rattle.std.specs.Prelude.{option_copied}
use Rattle.vic_wire.specs.Messages.{HasSpelling}
use Rattle.vic_wire.specs.Parts.{read_part}
use Rattle.vic_wire.specs.declared.message.ToClient.TheVariants as say
use Rattle.vic_rules.specs.declared.state.Awaiting.TheVariants as awaits
use Rattle.vic_rules.specs.Client.{path_with_entries}
use Rattle.vic_rules.specs.Client.{has_content as content_holds}
use Rattle.vic_prune.specs.Parts.{part}
use Rattle.vic_checks.specs.Parted.{part_of, part_seen}
use Rattle.vic_checks.proofs.Finding.{load_finds, grown_some}
use Rattle.vic_checks.proofs.contents.has_content.Goals as goal

pub returns-in-Some : goal.returns-in-Some
returns-in-Some c = λ s h.
    let id = c.args.state.now.id in
    let spelled : HasSpelling (say.Reply c.in-Reply.seal c.in-Reply.entries c.in-Reply.part) = subst HasSpelling c.in-Reply.is c.requires.spelled in
    let read : read_part c.in-Reply.part ≡ Some (part c.in-Some.part.now) = ap part_of (sym c.in-Reply.is) ∙ (sym c.requires.part ∙ ap (λ p. part_seen (option_copied p)) c.in-Some.is) in
    let awaited : s.awaiting ≡ awaits.Reply c.in-Reply-awaiting.field-0 c.in-Reply-awaiting.op true =
    h.awaiting ∙ (c.in-Reply-awaiting.is ∙ ap (awaits.Reply c.in-Reply-awaiting.field-0 c.in-Reply-awaiting.op) c.if-not-load.false) in
    c.finds_one.ensures s h
    ∙ (sym (load_finds id s c.in-Reply.seal (path_with_entries s c.in-Reply.entries) (read_part c.in-Reply.part) (part c.in-Some.part.now) s.awaiting c.in-Reply-awaiting.field-0 c.in-Reply-awaiting.op
    (grown_some c.in-Reply.entries s.path spelled.1.0) read awaited)
    ∙ ap (content_holds id s) (sym c.in-Reply.is))
