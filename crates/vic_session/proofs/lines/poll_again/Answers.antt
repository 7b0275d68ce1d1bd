use Rattle.std.proofs.Common.{refl}
use Rattle.vic_rules.specs.declared.trace.Input.TheVariants as input
use Rattle.vic_session.specs.declared.place.At.TheVariants as at
use Rattle.vic_session.specs.Talks.{Settles, talk_after_asking}
use Rattle.vic_session.proofs.Begins.{asks_went, calls_poll}
use Rattle.vic_session.proofs.Extends.{extends_asks}
use Rattle.vic_session.proofs.Lined.{front_of_on}
use Rattle.vic_session.proofs.lines.poll_again.Goals as goal

pub returns-in-Err-clause-went : goal.returns-in-Err-clause-went
returns-in-Err-clause-went c = λ w t start out on. front_of_on w t (talk_after_asking w t input.Poll (Settles c.args.left)) start out (extends_asks w t input.Poll (Settles c.args.left)) on.text

pub returns-in-Ok-clause-went : goal.returns-in-Ok-clause-went
returns-in-Ok-clause-went c = λ w t start out on.
    asks_went w t start c.args.client.now c.args.place.now out on input.Poll (Settles c.args.left) (at.Settles c.args.left) c.request_for.new.client c.in-Ok.sent c.in-Ok.ensures.same
    (c.in-Ok.ensures.stands t.now on.stands_so) (c.in-Ok.ensures.sent t.now on.stands_so) (calls_poll w t c.args.place.now.number on.few) refl
