use Rattle.std.proofs.Common.{List, ℕ, refl, sym, ap, subst, ◌∙◌}
use Rattle.vic_rules.specs.declared.trace.Input.TheVariants as input
use Rattle.vic_client.specs.Kept.{KeptClient}
use Rattle.vic_client.specs.Pending.{IsPendingOf, HasPending, after_keeping}
use Rattle.vic_client.proofs.Pendings.{has_pending}
use Rattle.vic_group.specs.declared.member.Member.{Member}
use Rattle.vic_group.proofs.Acting.{acts}
use Rattle.vic_group.proofs.member.Member.take.Goals as goal

pub keep-requires : goal.keep-requires
keep-requires c =
    subst (λ (k : KeptClient). HasPending c.in_ok-pending.pending.effect k) (sym (ap (λ (m : Member). m.client) c.in-Ok.ensures.ok))
    (has_pending _ _ c.in_ok-pending.pending _ c.in_ok-pending.ensures.heard)

pub forget-requires : goal.forget-requires
forget-requires c =
    subst (λ (k : KeptClient). HasPending c.in_ok-pending.pending.effect k) (sym (ap (λ (m : Member). m.client) c.in-Err.ensures.err))
    (has_pending _ _ c.in_ok-pending.pending _ c.in_ok-pending.ensures.heard)

pub returns-in-Ok-clause-acts : goal.returns-in-Ok-clause-acts
returns-in-Ok-clause-acts c = λ g h i at.
    let old = c.args.self.now in
    let made = c.in-Ok.ensures.ok in
    let pends = subst (λ (p : List ℕ). IsPendingOf old.client c.in_ok-pending.pending c.hear.new.self (input.Payload p)) c.as_slice.ensures c.in_ok-pending.ensures.heard in
    acts g h i (input.Payload c.args.payload) old _ c.in_ok-pending.pending c.hear.new.self c.in_ok-pending.pending.step.send at pends refl c.are_bytes.ensures
    (record {
      client = c.keep.ensures ∙ ap (λ (k : KeptClient). after_keeping c.in_ok-pending.pending.effect k) (ap (λ (m : Member). m.client) made);
      server = ap (λ (m : Member). m.server) made;
      up = ap (λ (m : Member). m.up) made;
      down = ap (λ (m : Member). m.down) made;
      taken = ap (λ (m : Member). m.taken) made;
      sent = ap (λ (m : Member). m.sent) made;
    })
