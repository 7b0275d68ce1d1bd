use Rattle.std.proofs.Common.{take}
use Rattle.vic_apart.specs.ByHash.{text_under}
use Rattle.vic_apart.proofs.Seen.{Seen}
use Rattle.vic_apart.proofs.by_hash.are_texts_apart.Given as goal

abbrev pub invariant-loop-text : goal.invariant-loop-text
invariant-loop-text l = Seen (take l.text-index l.texts) (text_under l.seen)
