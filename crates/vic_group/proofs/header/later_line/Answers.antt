use Rattle.std.proofs.Common.{Option, Some, sym, subst}
use Rattle.vic_script.specs.declared.line.Line.{Line}
use Rattle.vic_script.specs.Run.{Heads}
use Rattle.vic_runs.proofs.Words.{line_fits}
use Rattle.vic_group.specs.Playing.{header_by, Leads}
use Rattle.vic_group.proofs.Playing.{if_ok-map}
use Rattle.vic_group.proofs.header.later_line.Goals as goal

pub behind-requires-clause-fits : goal.behind-requires-clause-fits
behind-requires-clause-fits c = line_fits (Some c.args.header.mode) c.args.text.now c.in-Ok.line c.in-Ok.ensures.ok

pub returns-in-Ok : goal.returns-in-Ok
returns-in-Ok c = if_ok-map c.behind.result _ _ (λ r h. subst (λ (o : Option Line). Leads (Heads (header_by c.args.header)) o r) (sym c.in-Ok.ensures.ok) h) c.behind.ensures
