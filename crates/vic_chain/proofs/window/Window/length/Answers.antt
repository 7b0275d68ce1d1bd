use Rattle.std.proofs.Common.{rules, ◌∙◌, arith}
use Rattle.std.proofs.lemmas.Grind.{common_steps}
use Rattle.vic_chain.proofs.Shown.{shows_length}
use Rattle.vic_chain.proofs.window.Window.length.Goals as goal

pub returns-clause-value : goal.returns-clause-value
returns-clause-value c = first_of (search rules, grind (arith, common_steps))

pub returns-clause-shows : goal.returns-clause-shows
returns-clause-shows c = λ g p s. returns-clause-value c ∙ shows_length g p c.args.self.now s
