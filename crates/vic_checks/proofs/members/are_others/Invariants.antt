use Rattle.std.proofs.Common.{◌≡◌, drop}
use Rattle.std.specs.List.{list_all}
use Rattle.vic_wire.specs.declared.message.Tagged.{Tagged}
use Rattle.vic_rules.specs.Client.{is_other}
use Rattle.vic_checks.proofs.members.are_others.Given as goal

abbrev pub invariant-loop-tagged : goal.invariant-loop-tagged
invariant-loop-tagged l =
    list_all (λ (t : Tagged). is_other l.count l.me t.entry) (drop l.tagged-index l.items) ≡ list_all (λ (t : Tagged). is_other l.count l.me t.entry) l.items
