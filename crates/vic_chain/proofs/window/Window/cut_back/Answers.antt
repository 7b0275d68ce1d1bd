use Rattle.std.proofs.Common.{rules, sym, subst, arith}
use Rattle.std.proofs.lemmas.Grind.{common_steps}
use Rattle.vic_chain.specs.Held.{ShowsPath}
use Rattle.vic_chain.proofs.Shown.{shows_cut}
use Rattle.vic_chain.proofs.window.Window.cut_back.Goals as goal

pub returns-clause-value : goal.returns-clause-value
returns-clause-value c = first_of (search rules, grind (arith, common_steps))

pub returns-clause-shows : goal.returns-clause-shows
returns-clause-shows c = λ g p s. subst (ShowsPath g _) (sym (returns-clause-value c)) (shows_cut g p c.args.self.now c.args.length c.requires s)
