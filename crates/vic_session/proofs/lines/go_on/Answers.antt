use Rattle.std.proofs.Common.{◌≡◌, ℕ, List, length, IsTrue, ap, subst, sym, ◌∙◌, arith}
use Rattle.std.proofs.lemmas.Bool.{eqb-true}
use Rattle.vic_client.specs.Kept.{KeptClient, is_idle}
use Rattle.vic_session.specs.declared.lines.Begun.{Begun}
use Rattle.vic_session.specs.declared.lines.Begun.TheVariants as begun
use Rattle.vic_session.specs.Talking.{On, Lined, LinedAt, Rests, PrintsFront}
use Rattle.vic_session.specs.Talks.{Talk, Talker, talk_at_next_line}
use Rattle.vic_session.proofs.Extends.{extends_on}
use Rattle.vic_session.proofs.Lined.{led_went, led_leaves, front_of_on}
use Rattle.vic_session.proofs.lines.go_on.Goals as goal

pub returns-in-Err-clause-went : goal.returns-in-Err-clause-went
returns-in-Err-clause-went c = λ w t start on.
    let led = c.loop-alloc.invariant.led w t start on in
    subst (λ (v : Talk). PrintsFront start v c.do_line.new.out) (sym led.1.1.0)
    (front_of_on w led.0 (talk_at_next_line w led.0 led.0.lines) start c.do_line.new.out (extends_on w led.0 led.0.lines) (c.in-Err.ensures.err ∙ led.1.0.text))

pub returns-in-Err-clause-stays : goal.returns-in-Err-clause-stays
returns-in-Err-clause-stays c = c.in-Err.ensures.stays ∙ c.loop-alloc.invariant.same

pub returns-in-Ok-Asks-clause-went : goal.returns-in-Ok-Asks-clause-went
returns-in-Ok-Asks-clause-went c = λ w t start on.
    let led = c.loop-alloc.invariant.led w t start on in
    led_went w t led.0 start c.do_line.new.client c.do_line.new.place c.do_line.new.out _ led.1.1.0 led.1.1.1
    (subst (λ (b : Begun). Lined w led.0 start c.do_line.new.client c.do_line.new.place c.do_line.new.out b) c.in-Ok-Asks.field-0-is (c.in-Ok-Asks.ensures.lined w led.0 start led.1.0))

pub returns-in-Ok-Bad-clause-went : goal.returns-in-Ok-Bad-clause-went
returns-in-Ok-Bad-clause-went c = λ w t start on.
    let led = c.loop-alloc.invariant.led w t start on in
    led_went w t led.0 start c.do_line.new.client c.do_line.new.place c.do_line.new.out _ led.1.1.0 led.1.1.1
    (subst (λ (b : Begun). Lined w led.0 start c.do_line.new.client c.do_line.new.place c.do_line.new.out b) c.in-Ok-Bad.field-0-is (c.in-Ok-Bad.ensures.lined w led.0 start led.1.0))

pub returns-clause-went : goal.returns-clause-went
returns-clause-went c = λ w t start on.
    let led = c.loop-alloc.invariant.led w t start on in
    let none : length c.loop-alloc.place.rest.now ≡ 0 = eqb-true _ 0 (sym c.is_empty.ensures ∙ c.loop-alloc-test.false) in
    led_leaves w t led.0 start c.loop-alloc.client c.loop-alloc.place c.loop-alloc.out led.1.1.0 led.1.1.1 led.1.0 none

pub returns-clause-fine : goal.returns-clause-fine
returns-clause-fine c =
    let none : length c.loop-alloc.place.rest.now ≡ 0 = eqb-true _ 0 (sym c.is_empty.ensures ∙ c.loop-alloc-test.false) in
    omega (arith, none, c.loop-alloc.invariant.within.0, c.loop-alloc.invariant.within.1.1)

pub loop-alloc-preserved : goal.loop-alloc-preserved
loop-alloc-preserved c =
    let i = c.loop-alloc.invariant in
    let rests : c.do_line.new.client ≡ c.loop-alloc.client = subst (λ (b : Begun). Rests b c.loop-alloc.client c.do_line.new.client) c.in-Ok-Next.field-0-is c.in-Ok-Next.ensures.rests in
    let lined = λ (w : Talker) (u : Talk) (start : List ℕ) (on : On w u start c.loop-alloc.client c.loop-alloc.place c.loop-alloc.out).
    let l : Lined w u start c.do_line.new.client c.do_line.new.place c.do_line.new.out begun.Next =
    subst (λ (b : Begun). Lined w u start c.do_line.new.client c.do_line.new.place c.do_line.new.out b) c.in-Ok-Next.field-0-is (c.in-Ok-Next.ensures.lined w u start on) in l in
    record {
      idle = subst (λ (k : KeptClient). IsTrue (is_idle k)) (sym rests) i.idle;
      few = let same : c.do_line.new.client.calls ≡ c.loop-alloc.client.calls = ap (λ (k : KeptClient). k.calls) rests in omega (arith, same, i.few, c.in-Ok-Next.ensures.number);
      within = subst (λ (b : Begun). LinedAt b c.do_line.new.place) c.in-Ok-Next.field-0-is c.in-Ok-Next.ensures.at;
      total = c.in-Ok-Next.ensures.total ∙ i.total;
      same = rests ∙ i.same;
      led = λ w t start on.
          let led = i.led w t start on in
          let more = lined w led.0 start led.1.0 in
          (more.0, (more.1.0, (led.1.1.0 ∙ more.1.1.0, more.1.1.1 ∙ led.1.1.1)));
    }
