use Rattle.std.proofs.Common.{inl, sym, subst}
use Rattle.vic_client.specs.Kept.{KeptClient}
use Rattle.vic_session.specs.Sessions.{IsLeftAt}
use Rattle.vic_session.specs.Talks.{talk_after_payload}
use Rattle.vic_session.proofs.Extends.{extends_hears}
use Rattle.vic_session.proofs.Lined.{front_of_on}
use Rattle.vic_session.proofs.Hears.{heard_of, few_after, short_behind}
use Rattle.vic_session.proofs.lines.hear.Goals as goal

pub hear_step-requires-clause-few : goal.hear_step-requires-clause-few
hear_step-requires-clause-few c =
    few_after c.args.client.now c.make_step.new.client c.args.place.now.number c.args.payload.now c.in-Ok.step c.requires.stands (c.in-Ok.ensures.shows c.requires.stands.0 c.requires.stands.1.0)

pub returns-in-Ok-clause-went : goal.returns-in-Ok-clause-went
returns-in-Ok-clause-went c = λ w t start on at.
    c.hear_step.ensures.went w t start
    (heard_of w t start c.args.client.now c.make_step.new.client c.args.place.now c.args.out.now c.args.payload.now c.in-Ok.step on at c.in-Ok.ensures.same (c.in-Ok.ensures.shows t.now on.stands_so))

pub returns-in-Err-clause-went : goal.returns-in-Err-clause-went
returns-in-Err-clause-went c = λ w t start on at. front_of_on w t (talk_after_payload w t c.args.payload.now) start c.args.out.now (extends_hears w t c.args.payload.now) on.text

pub returns-in-Err-clause-short : goal.returns-in-Err-clause-short
returns-in-Err-clause-short c = λ w t start on at.
    inl (subst (λ (k : KeptClient). IsLeftAt w.group w.me t.now k) (sym c.in-Err.ensures.err) (on.me, (on.group, on.stands_so)))

pub returns-in-Ok-clause-short : goal.returns-in-Ok-clause-short
returns-in-Ok-clause-short c = λ w t start on at.
    let h = heard_of w t start c.args.client.now c.make_step.new.client c.args.place.now c.args.out.now c.args.payload.now c.in-Ok.step on at c.in-Ok.ensures.same (c.in-Ok.ensures.shows t.now on.stands_so) in
    short_behind w t start c.args.payload.now c.in-Ok.step c.make_step.new.client c.hear_step.new.client c.args.place.now c.args.out.now h c.hear_step.result c.hear_step.ensures.stays
