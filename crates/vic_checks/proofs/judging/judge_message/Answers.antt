use Rattle.std.proofs.Common.{refl, sym, ◌∙◌}
use Rattle.vic_checks.specs.State.{state_group}
use Rattle.vic_checks.proofs.Verdicts.{passes, fails}
use Rattle.vic_checks.proofs.judging.judge_message.Goals as goal

pub returns-then-not-has_form-clause-exact : goal.returns-then-not-has_form-clause-exact
returns-then-not-has_form-clause-exact c = λ s h.
    fails _ _ _ (sym (c.has_form.ensures.exact s (sym (c.length-length.ensures.shows (state_group c.args.state.now) s.path h.path)) h.awaiting) ∙ c.if-not-has_form.true)

pub returns-then-not-has_members-clause-exact : goal.returns-then-not-has_members-clause-exact
returns-then-not-has_members-clause-exact c = λ s h.
    passes _ _ _ _ (sym (c.has_form.ensures.exact s (sym (c.length-length.ensures.shows (state_group c.args.state.now) s.path h.path)) h.awaiting) ∙ c.if-not-has_form.false) (
    fails _ _ _ (sym (c.has_members.ensures (state_group c.args.state.now) s refl h.awaiting) ∙ c.if-not-has_members.true))

pub returns-then-not-has_tags-clause-exact : goal.returns-then-not-has_tags-clause-exact
returns-then-not-has_tags-clause-exact c = λ s h.
    passes _ _ _ _ (sym (c.has_form.ensures.exact s (sym (c.length-length.ensures.shows (state_group c.args.state.now) s.path h.path)) h.awaiting) ∙ c.if-not-has_form.false) (
    passes _ _ _ _ (sym (c.has_members.ensures (state_group c.args.state.now) s refl h.awaiting) ∙ c.if-not-has_members.false) (
    fails _ _ _ (sym (c.has_tags.ensures (state_group c.args.state.now) refl) ∙ c.if-not-has_tags.true)))

pub returns-then-not-is_not_older-clause-exact : goal.returns-then-not-is_not_older-clause-exact
returns-then-not-is_not_older-clause-exact c = λ s h.
    passes _ _ _ _ (sym (c.has_form.ensures.exact s (sym (c.length-length.ensures.shows (state_group c.args.state.now) s.path h.path)) h.awaiting) ∙ c.if-not-has_form.false) (
    passes _ _ _ _ (sym (c.has_members.ensures (state_group c.args.state.now) s refl h.awaiting) ∙ c.if-not-has_members.false) (
    passes _ _ _ _ (sym (c.has_tags.ensures (state_group c.args.state.now) refl) ∙ c.if-not-has_tags.false) (
    fails _ _ _ (sym (c.is_not_older.ensures.exact s (h.sealed ∙ sym c.sealed.ensures)) ∙ c.if-not-is_not_older.true))))

pub returns-then-not-is_sealed-clause-exact : goal.returns-then-not-is_sealed-clause-exact
returns-then-not-is_sealed-clause-exact c = λ s h.
    passes _ _ _ _ (sym (c.has_form.ensures.exact s (sym (c.length-length.ensures.shows (state_group c.args.state.now) s.path h.path)) h.awaiting) ∙ c.if-not-has_form.false) (
    passes _ _ _ _ (sym (c.has_members.ensures (state_group c.args.state.now) s refl h.awaiting) ∙ c.if-not-has_members.false) (
    passes _ _ _ _ (sym (c.has_tags.ensures (state_group c.args.state.now) refl) ∙ c.if-not-has_tags.false) (
    passes _ _ _ _ (sym (c.is_not_older.ensures.exact s (h.sealed ∙ sym c.sealed.ensures)) ∙ c.if-not-is_not_older.false) (
    fails _ _ _ (sym (c.is_sealed.ensures (state_group c.args.state.now) s.path refl h.path) ∙ c.if-not-is_sealed.true)))))

pub returns-then-not-keeps_own-clause-exact : goal.returns-then-not-keeps_own-clause-exact
returns-then-not-keeps_own-clause-exact c = λ s h.
    passes _ _ _ _ (sym (c.has_form.ensures.exact s (sym (c.length-length.ensures.shows (state_group c.args.state.now) s.path h.path)) h.awaiting) ∙ c.if-not-has_form.false) (
    passes _ _ _ _ (sym (c.has_members.ensures (state_group c.args.state.now) s refl h.awaiting) ∙ c.if-not-has_members.false) (
    passes _ _ _ _ (sym (c.has_tags.ensures (state_group c.args.state.now) refl) ∙ c.if-not-has_tags.false) (
    passes _ _ _ _ (sym (c.is_not_older.ensures.exact s (h.sealed ∙ sym c.sealed.ensures)) ∙ c.if-not-is_not_older.false) (
    passes _ _ _ _ (sym (c.is_sealed.ensures (state_group c.args.state.now) s.path refl h.path) ∙ c.if-not-is_sealed.false) (
    fails _ _ _ (sym (c.keeps_own.ensures s h.own) ∙ c.if-not-keeps_own.true))))))

pub returns-then-not-is_proved-clause-exact : goal.returns-then-not-is_proved-clause-exact
returns-then-not-is_proved-clause-exact c = λ s h.
    passes _ _ _ _ (sym (c.has_form.ensures.exact s (sym (c.length-length.ensures.shows (state_group c.args.state.now) s.path h.path)) h.awaiting) ∙ c.if-not-has_form.false) (
    passes _ _ _ _ (sym (c.has_members.ensures (state_group c.args.state.now) s refl h.awaiting) ∙ c.if-not-has_members.false) (
    passes _ _ _ _ (sym (c.has_tags.ensures (state_group c.args.state.now) refl) ∙ c.if-not-has_tags.false) (
    passes _ _ _ _ (sym (c.is_not_older.ensures.exact s (h.sealed ∙ sym c.sealed.ensures)) ∙ c.if-not-is_not_older.false) (
    passes _ _ _ _ (sym (c.is_sealed.ensures (state_group c.args.state.now) s.path refl h.path) ∙ c.if-not-is_sealed.false) (
    passes _ _ _ _ (sym (c.keeps_own.ensures s h.own) ∙ c.if-not-keeps_own.false) (
    fails _ _ _ (sym (c.is_proved.ensures.exact s h.own h.awaiting) ∙ c.if-not-is_proved.true)))))))

pub returns-then-not-has_turn-clause-exact : goal.returns-then-not-has_turn-clause-exact
returns-then-not-has_turn-clause-exact c = λ s h.
    passes _ _ _ _ (sym (c.has_form.ensures.exact s (sym (c.length-length.ensures.shows (state_group c.args.state.now) s.path h.path)) h.awaiting) ∙ c.if-not-has_form.false) (
    passes _ _ _ _ (sym (c.has_members.ensures (state_group c.args.state.now) s refl h.awaiting) ∙ c.if-not-has_members.false) (
    passes _ _ _ _ (sym (c.has_tags.ensures (state_group c.args.state.now) refl) ∙ c.if-not-has_tags.false) (
    passes _ _ _ _ (sym (c.is_not_older.ensures.exact s (h.sealed ∙ sym c.sealed.ensures)) ∙ c.if-not-is_not_older.false) (
    passes _ _ _ _ (sym (c.is_sealed.ensures (state_group c.args.state.now) s.path refl h.path) ∙ c.if-not-is_sealed.false) (
    passes _ _ _ _ (sym (c.keeps_own.ensures s h.own) ∙ c.if-not-keeps_own.false) (
    passes _ _ _ _ (sym (c.is_proved.ensures.exact s h.own h.awaiting) ∙ c.if-not-is_proved.false) (
    fails _ _ _ (sym (c.has_turn.ensures.exact s h.own) ∙ c.if-not-has_turn.true))))))))

pub returns-then-not-has_content-clause-exact : goal.returns-then-not-has_content-clause-exact
returns-then-not-has_content-clause-exact c = λ s h.
    passes _ _ _ _ (sym (c.has_form.ensures.exact s (sym (c.length-length.ensures.shows (state_group c.args.state.now) s.path h.path)) h.awaiting) ∙ c.if-not-has_form.false) (
    passes _ _ _ _ (sym (c.has_members.ensures (state_group c.args.state.now) s refl h.awaiting) ∙ c.if-not-has_members.false) (
    passes _ _ _ _ (sym (c.has_tags.ensures (state_group c.args.state.now) refl) ∙ c.if-not-has_tags.false) (
    passes _ _ _ _ (sym (c.is_not_older.ensures.exact s (h.sealed ∙ sym c.sealed.ensures)) ∙ c.if-not-is_not_older.false) (
    passes _ _ _ _ (sym (c.is_sealed.ensures (state_group c.args.state.now) s.path refl h.path) ∙ c.if-not-is_sealed.false) (
    passes _ _ _ _ (sym (c.keeps_own.ensures s h.own) ∙ c.if-not-keeps_own.false) (
    passes _ _ _ _ (sym (c.is_proved.ensures.exact s h.own h.awaiting) ∙ c.if-not-is_proved.false) (
    passes _ _ _ _ (sym (c.has_turn.ensures.exact s h.own) ∙ c.if-not-has_turn.false) (
    fails _ _ _ (sym (c.has_content.ensures s h) ∙ c.if-not-has_content.true)))))))))

pub returns-clause-exact : goal.returns-clause-exact
returns-clause-exact c = λ s h.
    passes _ _ _ _ (sym (c.has_form.ensures.exact s (sym (c.length-length.ensures.shows (state_group c.args.state.now) s.path h.path)) h.awaiting) ∙ c.if-not-has_form.false) (
    passes _ _ _ _ (sym (c.has_members.ensures (state_group c.args.state.now) s refl h.awaiting) ∙ c.if-not-has_members.false) (
    passes _ _ _ _ (sym (c.has_tags.ensures (state_group c.args.state.now) refl) ∙ c.if-not-has_tags.false) (
    passes _ _ _ _ (sym (c.is_not_older.ensures.exact s (h.sealed ∙ sym c.sealed.ensures)) ∙ c.if-not-is_not_older.false) (
    passes _ _ _ _ (sym (c.is_sealed.ensures (state_group c.args.state.now) s.path refl h.path) ∙ c.if-not-is_sealed.false) (
    passes _ _ _ _ (sym (c.keeps_own.ensures s h.own) ∙ c.if-not-keeps_own.false) (
    passes _ _ _ _ (sym (c.is_proved.ensures.exact s h.own h.awaiting) ∙ c.if-not-is_proved.false) (
    passes _ _ _ _ (sym (c.has_turn.ensures.exact s h.own) ∙ c.if-not-has_turn.false) (
    passes _ _ _ _ (sym (c.has_content.ensures s h) ∙ c.if-not-has_content.false) (
    refl)))))))))
