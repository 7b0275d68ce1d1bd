use Rattle.std.proofs.Common.{◌++◌, List, ℕ, ap, ◌∙◌}
use Rattle.vic_wire.specs.Parts.{read_part}
use Rattle.vic_laws.specs.Meanings.{nodes_of}
use Rattle.vic_apart.proofs.Gathered.{item_next, items_end}
use Rattle.vic_apart.proofs.listing.put_parts_of.Goals as goal

pub loop-part-preserved : goal.loop-part-preserved
loop-part-preserved c =
    item_next (λ (b : List ℕ). nodes_of (read_part b)) c.args.parts.now c.loop-part.part-index c.part-item.result c.loop-part-test.true c.part-item.is c.args.texts.now c.loop-part.texts c.put_part_texts.new.texts
    c.loop-part.invariant (c.in_ok-put_part_texts.ensures ∙ ap (λ (b : List ℕ). c.loop-part.texts ++ nodes_of (read_part b)) c.as_slice.ensures)

pub returns : goal.returns
returns c = items_end (λ (b : List ℕ). nodes_of (read_part b)) c.args.parts.now c.loop-part.part-index c.args.texts.now c.loop-part.texts c.loop-part-test.false c.loop-part.invariant
