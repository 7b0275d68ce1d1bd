use Rattle.vic_hall.proofs.hall.Hall.close.Goals as goal

pub returns-clause-seen : goal.returns-clause-seen
returns-clause-seen c = λ k d within. (c.close-served.ensures.passes k d within).1
