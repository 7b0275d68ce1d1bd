use Rattle.std.proofs.Common.{refl, sym, subst}
use Rattle.vic_rules.specs.declared.trace.Input.TheVariants as input
use Rattle.vic_script.specs.declared.line.Line.{Line}
use Rattle.vic_script.specs.declared.line.Line.TheVariants as line
use Rattle.vic_group.specs.World.{DoesLine}
use Rattle.vic_group.proofs.Lines.{asks, header_line, skipped_line}
use Rattle.vic_group.proofs.world.World.do_line.Goals as goal

pub returns-in-Clients : goal.returns-in-Clients
returns-in-Clients g c = λ s shows. rw c.bad.ensures (header_line g.S.Serve.state g.S.Serve.rule s c.args.line.now c.args.self.now c.in-Clients.is shows)

pub returns-in-Skip : goal.returns-in-Skip
returns-in-Skip g c = λ s shows. skipped_line g.S.Serve.state g.S.Serve.rule s c.args.line.now c.args.self.now c.args.out.now c.in-Skip.is shows

pub returns-in-Poll : goal.returns-in-Poll
returns-in-Poll g c = λ s shows.
    subst (λ (l : Line). DoesLine g.S.Serve.state g.S.Serve.rule s l c.ask.result c.ask.new.self c.args.out.now c.args.out.now) (sym c.in-Poll.is)
    (asks g.S.Serve.state g.S.Serve.rule c.ask.result s (line.Poll c.in-Poll.who) c.in-Poll.who input.Poll c.ask.new.self c.args.out.now refl refl (λ kept. kept) (c.ask.ensures s shows))

pub returns-in-Sync : goal.returns-in-Sync
returns-in-Sync g c = λ s shows.
    subst (λ (l : Line). DoesLine g.S.Serve.state g.S.Serve.rule s l c.ask-in-Sync.result c.ask-in-Sync.new.self c.args.out.now c.args.out.now) (sym c.in-Sync.is)
    (asks g.S.Serve.state g.S.Serve.rule c.ask-in-Sync.result s (line.Sync c.in-Sync.who) c.in-Sync.who input.Sync c.ask-in-Sync.new.self c.args.out.now refl refl (λ kept. kept) (c.ask-in-Sync.ensures s shows))
