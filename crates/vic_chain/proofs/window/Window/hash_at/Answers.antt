use Rattle.std.proofs.Common.{rules, ap, ◌∙◌, arith}
use Rattle.std.proofs.lemmas.Grind.{common_steps}
use Rattle.vic_wire.specs.declared.message.Digest32.{Digest32}
use Rattle.vic_chain.proofs.Shown.{shows_hash}
use Rattle.vic_chain.proofs.window.Window.hash_at.Goals as goal

pub returns-in-Some-clause-value : goal.returns-in-Some-clause-value
returns-in-Some-clause-value c = first_of (search rules, grind (arith, common_steps))

pub returns-in-Some-clause-shows : goal.returns-in-Some-clause-shows
returns-in-Some-clause-shows c = λ g p s.
    ap (λ (d : Digest32). d.bytes) (returns-in-Some-clause-value c) ∙ shows_hash g p c.args.self.now c.args.position c.requires.above s

pub returns-in-None-clause-value : goal.returns-in-None-clause-value
returns-in-None-clause-value c = first_of (search rules, grind (arith, common_steps))

pub returns-in-None-clause-shows : goal.returns-in-None-clause-shows
returns-in-None-clause-shows c = λ g p s.
    ap (λ (d : Digest32). d.bytes) (returns-in-None-clause-value c) ∙ shows_hash g p c.args.self.now c.args.position c.requires.above s
