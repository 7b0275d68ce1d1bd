use Rattle.std.proofs.Common.{map, string_bytes, refl, sym, ap, ◌∙◌, inr}
use Rattle.vic_server.specs.Replay.{KeptServer}
use Rattle.vic_cli.specs.Serving.{serve_words, serve_text, opened_by}
use Rattle.vic_cli.proofs.Serving.{served_so, plans_served, plans_short}
use Rattle.vic_cli.proofs.serve.plan.Goals as goal

pub returns-in-Ok-tell-clause-plans : goal.returns-in-Ok-tell-clause-plans
returns-in-Ok-tell-clause-plans g c =
    let a = c.in-Some.a in
    let h = c.in-Ran.ensures in
    let d = opened_by g.D.Doors.lines g.D.Doors.faults c.args.doors.now c.host.new.doors in
    plans_served (serve_words (map string_bytes c.args.words.now)) a d c.in-Ran.served _ _ (sym c.in-Some.ensures.is) refl
    (served_so d a c.from.result c.in-Ok.served.opening c.in-Ran.served c.in-Ran.ends.items c.in-Ok-tell.text h.1.0 h.0 c.from.ensures (ap (λ (k : KeptServer). k.opening) c.in-Ok.ensures) h.1.1.0 h.1.1.1
    (c.in-Ok-tell.ensures ∙ ap (serve_text a.connections c.in-Ran.served) c.deref.ensures.value))

pub returns-in-Err-clause-plans : goal.returns-in-Err-clause-plans
returns-in-Err-clause-plans g c =
    let a = c.in-Some.a in
    let h = c.in-Ran.ensures in
    let d = opened_by g.D.Doors.lines g.D.Doors.faults c.args.doors.now c.host.new.doors in
    plans_short (serve_words (map string_bytes c.args.words.now)) a d _ _ _ (sym c.in-Some.ensures.is) c.without-in-Err.ensures.status c.without-in-Err.ensures.text
    (inr (
      c.in-Ran.served,
      (
        serve_text a.connections c.in-Ran.served c.in-Ran.ends.items,
        served_so d a c.from.result c.in-Ok.served.opening c.in-Ran.served c.in-Ran.ends.items (serve_text a.connections c.in-Ran.served c.in-Ran.ends.items) h.1.0 h.0 c.from.ensures (ap (λ (k : KeptServer). k.opening) c.in-Ok.ensures) h.1.1.0 h.1.1.1 refl,
      ),
    ))
