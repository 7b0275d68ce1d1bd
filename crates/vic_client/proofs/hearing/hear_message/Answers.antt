use Rattle.vic_rules.specs.Client.{move_on_answer}
use Rattle.vic_client.proofs.Moved.{taken_other}
use Rattle.vic_client.proofs.Pendings.{hears_halts}
use Rattle.vic_client.proofs.hearing.hear_message.Goals as goal

pub returns-clause-taken : goal.returns-clause-taken
returns-clause-taken c = λ s st.
    let old = c.args.state.now in
    let message = c.args.message in
    let other = c.in_default in
    hears_halts old c.halts.result s (move_on_answer old.id s message) 1 c.halts.ensures st.state
    (taken_other old.id s message other.not-Reply other.not-Wait other.not-Update other.not-Entries other.not-Refused other.not-Kept other.not-Content)
