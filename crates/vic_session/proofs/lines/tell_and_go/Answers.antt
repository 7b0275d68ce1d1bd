use Rattle.std.proofs.Common.{◌∙◌}
use Rattle.vic_session.specs.Talks.{talk_at_next_line, talk_with_state}
use Rattle.vic_session.proofs.Begins.{tells_on}
use Rattle.vic_session.proofs.Extends.{extends_told}
use Rattle.vic_session.proofs.Lined.{front_of_on, told_went}
use Rattle.vic_session.proofs.lines.tell_and_go.Goals as goal

pub returns-in-Err-clause-went : goal.returns-in-Err-clause-went
returns-in-Err-clause-went c = λ w t start on. front_of_on w t (talk_at_next_line w (talk_with_state t) t.lines) start c.tell_state.new.out (extends_told w t) (c.in-Err.ensures.err ∙ on.text)

pub returns-in-Ok-clause-went : goal.returns-in-Ok-clause-went
returns-in-Ok-clause-went c = λ w t start on.
    told_went w t start c.go_on.new.client c.go_on.new.place c.go_on.new.out c.go_on.result
    (c.go_on.ensures.went w (talk_with_state t) start (tells_on w t start c.args.client.now c.args.place.now c.args.out.now on c.tell_state.new.out (c.in-Ok.ensures.ok t.now on.stands_so)))
