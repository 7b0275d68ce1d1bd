use Rattle.std.proofs.Common.{rules, sym, subst, arith}
use Rattle.std.proofs.lemmas.Grind.{common_steps}
use Rattle.vic_chain.specs.Held.{ShowsPath}
use Rattle.vic_chain.proofs.Shown.{shows_extended}
use Rattle.vic_chain.proofs.window.Window.extend.Goals as goal

pub returns-clause-ok : goal.returns-clause-ok
returns-clause-ok c = first_of (search rules, grind (arith, common_steps))

pub returns-clause-shows : goal.returns-clause-shows
returns-clause-shows c = λ g p s.
    subst (ShowsPath g _) (sym (returns-clause-ok c)) (shows_extended g p c.args.self.now c.args.entry.now s)
