use Rattle.std.proofs.Common.{◌≡◌, inl, inr, List, length, sym, ap, subst, ◌∙◌}
use Rattle.vic_rules.specs.declared.state.Own.{Own}
use Rattle.vic_session.specs.declared.place.At.{At}
use Rattle.vic_session.specs.Talking.{GoesTo, IsDoing}
use Rattle.vic_session.specs.Talks.{Talk, Doing, Calls, Settles, unsettled_count, talk_after_line}
use Rattle.vic_session.proofs.Begins.{ends_again, ends_told, ends_tells}
use Rattle.vic_session.proofs.lines.end_line.Goals as goal

pub returns-else-unsettled-eq0-clause-went : goal.returns-else-unsettled-eq0-clause-went
returns-else-unsettled-eq0-clause-went c = λ w t start on at.
    let some : unsettled_count t ≡ 0 → ⊥ = λ e. absurd (c.if-unsettled-eq0.false (c.unsettled.ensures ∙ sym (ap (λ (l : List Own). length l) on.stands_so.own) ∙ e)) in
    let doing : t.doing ≡ Settles c.in-Settles.left = subst (λ (a : At). IsDoing a t.doing) c.in-Settles.is at in
    let is = ap (λ (d : Doing). talk_after_line w t d) doing ∙ ends_again w t c.in-Settles.left c.if-left-eq0.false some in
    subst (λ (v : Talk). GoesTo w t v start c.poll_again.new.client c.poll_again.new.place c.args.out.now c.poll_again.result) (sym is) (c.poll_again.ensures.went w t start c.args.out.now on)

pub returns-then-unsettled-eq0-clause-went : goal.returns-then-unsettled-eq0-clause-went
returns-then-unsettled-eq0-clause-went c = λ w t start on at.
    let none : unsettled_count t ≡ 0 = ap (λ (l : List Own). length l) on.stands_so.own ∙ sym c.unsettled.ensures ∙ c.if-unsettled-eq0.true in
    let doing : t.doing ≡ Settles c.in-Settles.left = subst (λ (a : At). IsDoing a t.doing) c.in-Settles.is at in
    let is = ap (λ (d : Doing). talk_after_line w t d) doing ∙ ends_told w t c.in-Settles.left (inr none) in
    subst (λ (v : Talk). GoesTo w t v start c.tell_and_go-then-unsettled-eq0.new.client c.tell_and_go-then-unsettled-eq0.new.place c.tell_and_go-then-unsettled-eq0.new.out c.tell_and_go-then-unsettled-eq0.result) (sym is)
    (c.tell_and_go-then-unsettled-eq0.ensures.went w t start on)

pub returns-then-left-eq0-clause-went : goal.returns-then-left-eq0-clause-went
returns-then-left-eq0-clause-went c = λ w t start on at.
    let doing : t.doing ≡ Settles c.in-Settles.left = subst (λ (a : At). IsDoing a t.doing) c.in-Settles.is at in
    let is = ap (λ (d : Doing). talk_after_line w t d) doing ∙ ends_told w t c.in-Settles.left (inl c.if-left-eq0.true) in
    subst (λ (v : Talk). GoesTo w t v start c.tell_and_go.new.client c.tell_and_go.new.place c.tell_and_go.new.out c.tell_and_go.result) (sym is) (c.tell_and_go.ensures.went w t start on)

pub returns-in-Calls-clause-went : goal.returns-in-Calls-clause-went
returns-in-Calls-clause-went c = λ w t start on at.
    let doing : t.doing ≡ Calls = subst (λ (a : At). IsDoing a t.doing) c.in-Calls.is at in
    let is = ap (λ (d : Doing). talk_after_line w t d) doing in
    subst (λ (v : Talk). GoesTo w t v start c.go_on.new.client c.go_on.new.place c.go_on.new.out c.go_on.result) (sym is) (c.go_on.ensures.went w t start on)

pub returns-in_default : goal.returns-in_default
returns-in_default c = record {
  went = λ w t start on at.
      let is = ends_tells w t c.args.place.now.doing c.requires.busy c.in_default.not-Calls c.in_default.not-Settles at in
      subst (λ (v : Talk). GoesTo w t v start c.tell_and_go-in_default.new.client c.tell_and_go-in_default.new.place c.tell_and_go-in_default.new.out c.tell_and_go-in_default.result) (sym is)
      (c.tell_and_go-in_default.ensures.went w t start on);
  fine = c.tell_and_go-in_default.ensures.fine;
  sends = c.tell_and_go-in_default.ensures.sends;
  fits = c.tell_and_go-in_default.ensures.fits;
  total = c.tell_and_go-in_default.ensures.total;
  stays = c.tell_and_go-in_default.ensures.stays;
}
