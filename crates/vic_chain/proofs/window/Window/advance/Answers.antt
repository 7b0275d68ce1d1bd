use Rattle.std.proofs.Common.{rules, sym, subst, arith}
use Rattle.std.proofs.lemmas.Grind.{common_steps}
use Rattle.vic_chain.specs.Held.{ShowsPath}
use Rattle.vic_chain.proofs.Shown.{shows_advanced}
use Rattle.vic_chain.proofs.window.Window.advance.Goals as goal

pub returns-clause-value : goal.returns-clause-value
returns-clause-value c = first_of (search rules, grind (arith, common_steps))

pub returns-clause-shows : goal.returns-clause-shows
returns-clause-shows c = λ g p s.
    subst (ShowsPath g p) (sym (returns-clause-value c))
    (shows_advanced g p c.args.self.now c.args.position c.args.root.now.bytes c.requires.above c.requires.within s)
