use Rattle.std.proofs.Common.{◌≡◌, ◌<◌, Option, Some, length, IfOk, sym, ap, ◌∙◌, subst, arith}
use Rattle.vic_prune.specs.declared.pruned.Pruned.{Pruned}
use Rattle.vic_prune.specs.Parts.{part}
use Rattle.vic_checks.specs.Parted.{part_seen}
use Rattle.vic_rules.specs.declared.state.Awaiting.{Awaiting}
use Rattle.vic_rules.specs.Client.{Move, move_to_halt, path_with_entries, move_on_reply}
use Rattle.vic_checks.proofs.Paths.{length-onto}
use Rattle.vic_client.specs.Hearing.{Hears, op_in}
use Rattle.vic_client.proofs.Moved.{replied_is, replied_bare, replied_unasked}
use Rattle.vic_client.proofs.Pendings.{hears_halts}
use Rattle.vic_client.proofs.hearing.hear_reply.Goals.{in_default-via-in-Some+in_default, in_default-via-in_default}
use Rattle.vic_client.proofs.hearing.hear_reply.Goals as goal

pub returns-in-Some-Some-clause-taken : goal.returns-in-Some-Some-clause-taken
returns-in-Some-Some-clause-taken c = λ s st calling.
    let old = c.args.state.now in
    let seal = c.args.seal.now in
    let entries = c.args.entries.now in
    let op = c.in-Some-Some.op in
    let asked : op_in s.awaiting ≡ Some op = ap (λ (a : Awaiting). op_in a) st.awaiting ∙ sym c.in_ok-op.ensures ∙ c.in-Some-Some.is-0 in
    let some : 0 < length (path_with_entries s entries) = omega (arith, length-onto entries s.path, c.requires.spelled.1.0) in
    let is = replied_is old.id s seal entries (part c.in-Some-Some.part) s.awaiting op some asked in
    subst (λ (x : Option Pruned). IfOk c.take_reply.result (λ p. Hears old p c.take_reply.new.state s (move_on_reply old.id s seal (path_with_entries s entries) (part_seen x) s.awaiting))) (sym c.in-Some-Some.is-1)
    (subst (λ (v : Move). IfOk c.take_reply.result (λ p. Hears old p c.take_reply.new.state s v)) (sym is) (c.take_reply.ensures.taken s st calling))

pub returns-in_default-clause-taken : goal.returns-in_default-clause-taken
returns-in_default-clause-taken c = λ s st calling.
    let me = c.args.state.now.id in
    let seal = c.args.seal.now in
    let path = path_with_entries s c.args.entries.now in
    let v = move_on_reply me s seal path (part_seen c.args.part) s.awaiting in
    let asked : op_in s.awaiting ≡ c.in_ok-op.field-0 = ap (λ (a : Awaiting). op_in a) st.awaiting ∙ sym c.in_ok-op.ensures in
    let halting : v ≡ move_to_halt s 1 = elim c.in_default.branch [
      | in_default-via-in-Some+in_default w ↦
          ap (λ (x : Option Pruned). move_on_reply me s seal path (part_seen x) s.awaiting) w.in_default.is-1 ∙ replied_bare me s seal path s.awaiting
      | in_default-via-in_default w ↦ replied_unasked me s seal path (part_seen c.args.part) s.awaiting (asked ∙ w.in_default.is-0)
    ] in
    hears_halts c.args.state.now c.halts.result s v 1 c.halts.ensures st halting
