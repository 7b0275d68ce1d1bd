use Rattle.std.proofs.Common.{◌≡◌, Some, None}
use Rattle.vic_script.specs.declared.line.Line.TheVariants as line
use Rattle.vic_script.specs.Lines.{line_of}
use Rattle.vic_runs.proofs.Words.{line_fits}
use Rattle.vic_group.proofs.Playing.{leads_clients, leads_objects}
use Rattle.vic_group.proofs.header.opening_line.Goals as goal

pub returns-in-Ok-Clients : goal.returns-in-Ok-Clients
returns-in-Ok-Clients c =
    let spelled : line_of None c.args.text.now ≡ Some (line.Clients c.in-Ok-Clients.count) = cc (c.in-Ok-Clients.ensures.ok, c.in-Ok-Clients.field-0-is) in
    leads_clients (line_of None c.args.text.now) c.in-Ok-Clients.count c.begun.result spelled (line_fits None c.args.text.now (line.Clients c.in-Ok-Clients.count) spelled) c.begun.ensures

pub returns-in-Ok-Objects : goal.returns-in-Ok-Objects
returns-in-Ok-Objects c =
    let spelled : line_of None c.args.text.now ≡ Some (line.Objects c.in-Ok-Objects.count) = cc (c.in-Ok-Objects.ensures.ok, c.in-Ok-Objects.field-0-is) in
    leads_objects (line_of None c.args.text.now) c.in-Ok-Objects.count c.begun-in-Ok-Objects.result spelled (line_fits None c.args.text.now (line.Objects c.in-Ok-Objects.count) spelled) c.begun-in-Ok-Objects.ensures
