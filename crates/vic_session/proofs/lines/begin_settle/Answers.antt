use Rattle.std.proofs.Common.{◌≡◌, ◌⊎◌, inl, inr, ◌-◌, List, length, refl, sym, ap, ◌∙◌}
use Rattle.vic_rules.specs.declared.state.Own.{Own}
use Rattle.vic_rules.specs.declared.trace.Input.TheVariants as input
use Rattle.vic_session.specs.declared.place.At.TheVariants as at
use Rattle.vic_session.specs.Talks.{Settles, unsettled_count, talk_with_state}
use Rattle.vic_session.proofs.Begins.{asks_went, tells_on, settle_next, settle_asks, calls_poll}
use Rattle.vic_session.proofs.lines.begin_settle.Goals as goal
use Rattle.vic_session.proofs.lines.begin_settle.Goals.{then-most-eq0-via-then-most-eq0, then-most-eq0-via-else-most-eq0+then-unsettled-eq0}

pub returns-then-most-eq0-clause-began : goal.returns-then-most-eq0-clause-began
returns-then-most-eq0-clause-began c = λ w t start p on.
    let none : (c.args.most ≡ 0) ⊎ (unsettled_count t ≡ 0) = elim c.then-most-eq0.branch [
      | then-most-eq0-via-then-most-eq0 v ↦ inl v.if-most-eq0.true
      | then-most-eq0-via-else-most-eq0+then-unsettled-eq0 v ↦ inr (ap (λ (l : List Own). length l) on.stands_so.own ∙ sym v.unsettled.ensures ∙ v.if-unsettled-eq0.true)
    ] in
    (talk_with_state t, (settle_next w t c.args.most none, (refl, (refl, tells_on w t start c.args.client.now p c.args.out.now on c.tell_state.new.out (c.in_ok-tell_state.ensures.ok t.now on.stands_so)))))

pub returns-clause-began : goal.returns-clause-began
returns-clause-began c = λ w t start p on.
    let some : unsettled_count t ≡ 0 → ⊥ = λ e. absurd (c.if-unsettled-eq0.false (c.unsettled.ensures ∙ sym (ap (λ (l : List Own). length l) on.stands_so.own) ∙ e)) in (
      input.Poll,
      (
        Settles (c.args.most - 1),
        (
          settle_asks w t c.args.most c.if-most-eq0.false some,
          (
            refl,
            (
              refl,
              asks_went w t start c.args.client.now p c.args.out.now on input.Poll (Settles (c.args.most - 1)) (at.Settles (c.args.most - 1)) c.request_for.new.client c.in_ok-sent.sent c.in_ok-sent.ensures.same
                  (c.in_ok-sent.ensures.stands t.now on.stands_so) (c.in_ok-sent.ensures.sent t.now on.stands_so) (calls_poll w t p.number on.few) refl,
            ),
          ),
        ),
      ),
    )
