use Rattle.std.proofs.Common.{◌≡◌, List, ℕ, ◌++◌, OnOk, subst, ◌∙◌}
use Rattle.vic_session.proofs.lines.tell_state.Goals as goal

pub returns-clause-ok : goal.returns-clause-ok
returns-clause-ok c = λ s so. subst (λ (l : List ℕ). OnOk c.append.result (c.append.new.self ≡ c.args.out.now ++ l)) (c.as_slice.ensures ∙ c.in_ok-text.ensures s so) c.append.ensures.ok
