use Rattle.std.proofs.Common.{◌≡◌, Option, Some, IfOk, ap, subst, sym, ◌∙◌}
use Rattle.vic_dict.specs.declared.op.Mode.{Mode}
use Rattle.vic_wire.specs.Hashes.{Group}
use Rattle.vic_text.specs.declared.client_line.ClientLine.{ClientLine}
use Rattle.vic_text.specs.ClientLines.{client_line_of}
use Rattle.vic_session.specs.Talking.{Began}
use Rattle.vic_session.proofs.Fitting.{line_can}
use Rattle.vic_session.proofs.lines.begin.Goals as goal

pub begin_line-requires-clause-can : goal.begin_line-requires-clause-can
begin_line-requires-clause-can c = line_can c.args.client.now.mode c.args.text.now c.in-Ok.line (ap (λ (k : Mode). client_line_of k c.args.text.now) (sym c.mode.ensures) ∙ c.in-Ok.ensures.ok)

pub returns-in-Ok-clause-began : goal.returns-in-Ok-clause-began
returns-in-Ok-clause-began c = λ w t start p on few.
    let said : client_line_of w.group.mode c.args.text.now ≡ Some c.in-Ok.line = ap (λ (g : Group). client_line_of g.mode c.args.text.now) (sym on.group) ∙ ap (λ (k : Mode). client_line_of k c.args.text.now) (sym c.mode.ensures) ∙ c.in-Ok.ensures.ok in
    subst (λ (o : Option ClientLine). IfOk c.begin_line.result (λ b. Began w t start o c.args.client.now c.begin_line.new.client p c.args.out.now c.begin_line.new.out b)) (sym said) (c.begin_line.ensures.began w t start p on few)
