use Rattle.vic_apart.proofs.Leaving.{Leaves}
use Rattle.vic_apart.proofs.sealed.put_left_texts.Given as goal

abbrev pub invariant-loop-number : goal.invariant-loop-number
invariant-loop-number l = Leaves l.all l.mine.path l.fn.texts l.texts l.dict l.number
