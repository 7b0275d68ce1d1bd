use Rattle.std.proofs.Common.{sym, ap, ◌∙◌, is_some, nat_eq, Some}
use Rattle.std.specs.Prelude.{option_copied}
use Rattle.std.specs.FinMap as map
use Rattle.vic_dict.specs.declared.op.Op.TheVariants as op
use Rattle.vic_wire.specs.Parts.{walked}
use Rattle.vic_prune.specs.Parts.{part}
use Rattle.vic_rules.specs.Client.{own_calls_over}
use Rattle.vic_checks.specs.State.{state_group, below_last}
use Rattle.vic_checks.proofs.Finding.{aborted_finds, get_finds}
use Rattle.vic_checks.proofs.contents.finds_one.Goals as goal

pub returns-then-is_some : goal.returns-then-is_some
returns-then-is_some c = λ s h.
    sym (aborted_finds c.args.state.now.id s (below_last s c.args.entries.now) c.args.base (part c.args.part.now) c.args.op.now
    (ap is_some (sym (c.first_in_the_way.ensures (state_group c.args.state.now) s.path h.path)) ∙ (sym c.is_some.ensures ∙ c.if-is_some.true)))

pub returns-in-Some : goal.returns-in-Some
returns-in-Some c = λ s h.
    ap (λ n. nat_eq n 36) c.len.ensures ∙ sym (get_finds c.args.state.now.id s (below_last s c.args.entries.now) c.args.base (part c.args.part.now) c.args.op.now c.in-Get.key c.args.state.now.own (Some c.in-Some.value.now)
    (ap is_some (sym (c.first_in_the_way.ensures (state_group c.args.state.now) s.path h.path)) ∙ (sym c.is_some.ensures ∙ c.if-is_some.false)) c.in-Get.is h.own
    (ap (λ k. map.get (own_calls_over c.args.state.now.own c.args.base (walked (part c.args.part.now) (op.Get k))) k) (sym c.as_slice.ensures) ∙ (sym c.found_above.ensures ∙ ap option_copied c.in-Some.is)))
