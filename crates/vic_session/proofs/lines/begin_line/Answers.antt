use Rattle.std.proofs.Common.{Some, IfOk, refl, sym, ap, subst}
use Rattle.vic_rules.specs.declared.trace.Input.TheVariants as input
use Rattle.vic_text.specs.declared.client_line.ClientLine.{ClientLine}
use Rattle.vic_session.specs.declared.place.At.TheVariants as at
use Rattle.vic_session.specs.Talks.{Calls, Tells, talk_from_line}
use Rattle.vic_session.specs.Talking.{Began}
use Rattle.vic_session.proofs.Begins.{asks_went, calls_poll, calls_sync, calls_call, calls_object}
use Rattle.vic_session.proofs.lines.begin_line.Goals as goal

pub returns-in_ok-request_for-in-Call-clause-began : goal.returns-in_ok-request_for-in-Call-clause-began
returns-in_ok-request_for-in-Call-clause-began c = λ w t start p on few. (
  input.Call c.in-Call.op,
  (
    Calls,
    (
      (λ next. ap (λ (l : ClientLine). talk_from_line w t (Some l) next) c.in-Call.is),
      (
        refl,
        (
          refl,
          asks_went w t start c.args.client.now p c.args.out.now on (input.Call c.in-Call.op) Calls at.Calls c.request_for.new.client c.in_ok-request_for-in-Call.field-0 c.in_ok-request_for-in-Call.ensures.same
              (c.in_ok-request_for-in-Call.ensures.stands t.now on.stands_so) (c.in_ok-request_for-in-Call.ensures.sent t.now on.stands_so) (calls_call w t p.number c.in-Call.op few) refl,
        ),
      ),
    ),
  ),
)

pub returns-in_ok-request_for-in-Object-clause-began : goal.returns-in_ok-request_for-in-Object-clause-began
returns-in_ok-request_for-in-Object-clause-began c = λ w t start p on few. (
  input.Object c.in-Object.call,
  (
    Calls,
    (
      (λ next. ap (λ (l : ClientLine). talk_from_line w t (Some l) next) c.in-Object.is),
      (
        refl,
        (
          refl,
          asks_went w t start c.args.client.now p c.args.out.now on (input.Object c.in-Object.call) Calls at.Calls c.request_for-in-Object.new.client c.in_ok-request_for-in-Object.field-0 c.in_ok-request_for-in-Object.ensures.same
              (c.in_ok-request_for-in-Object.ensures.stands t.now on.stands_so) (c.in_ok-request_for-in-Object.ensures.sent t.now on.stands_so) (calls_object w t p.number c.in-Object.call few) refl,
        ),
      ),
    ),
  ),
)

pub returns-in_ok-request_for-in-Poll-clause-began : goal.returns-in_ok-request_for-in-Poll-clause-began
returns-in_ok-request_for-in-Poll-clause-began c = λ w t start p on few. (
  input.Poll,
  (
    Tells,
    (
      (λ next. ap (λ (l : ClientLine). talk_from_line w t (Some l) next) c.in-Poll.is),
      (
        refl,
        (
          refl,
          asks_went w t start c.args.client.now p c.args.out.now on input.Poll Tells at.Tells c.request_for-in-Poll.new.client c.in_ok-request_for-in-Poll.field-0 c.in_ok-request_for-in-Poll.ensures.same
              (c.in_ok-request_for-in-Poll.ensures.stands t.now on.stands_so) (c.in_ok-request_for-in-Poll.ensures.sent t.now on.stands_so) (calls_poll w t p.number on.few) refl,
        ),
      ),
    ),
  ),
)

pub returns-in_ok-request_for-in-Sync-clause-began : goal.returns-in_ok-request_for-in-Sync-clause-began
returns-in_ok-request_for-in-Sync-clause-began c = λ w t start p on few. (
  input.Sync,
  (
    Tells,
    (
      (λ next. ap (λ (l : ClientLine). talk_from_line w t (Some l) next) c.in-Sync.is),
      (
        refl,
        (
          refl,
          asks_went w t start c.args.client.now p c.args.out.now on input.Sync Tells at.Tells c.request_for-in-Sync.new.client c.in_ok-request_for-in-Sync.field-0 c.in_ok-request_for-in-Sync.ensures.same
              (c.in_ok-request_for-in-Sync.ensures.stands t.now on.stands_so) (c.in_ok-request_for-in-Sync.ensures.sent t.now on.stands_so) (calls_sync w t p.number on.few) refl,
        ),
      ),
    ),
  ),
)

pub returns-in-Settle-clause-began : goal.returns-in-Settle-clause-began
returns-in-Settle-clause-began c = λ w t start p on few.
    subst (λ (l : ClientLine). IfOk c.begin_settle.result (λ b. Began w t start (Some l) c.args.client.now c.begin_settle.new.client p c.args.out.now c.begin_settle.new.out b)) (sym c.in-Settle.is)
    (c.begin_settle.ensures.began w t start p on)
