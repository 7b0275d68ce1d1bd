-- A call is aborted exactly by the least entry of another client that conflicts with it.
use Rattle.vic_laws.specs.Meanings.{AbortedByConflict}
use Rattle.vic_laws.proofs.Decisions.{blocks, passes, aborted_by_the_least}

pub aborted_by_conflict : AbortedByConflict
aborted_by_conflict g h lawful later x past whole seal entries part t e below path_is u =
    let tells = aborted_by_the_least g h lawful later x past whole seal entries part t e below path_is u in (
      λ returned.
          let least = tells.0 returned in (
            blocks x.client e.op seal.position below u least.above least.passes,
            λ v less b. least.least v b.above less (passes x.client e.op seal.position below v b),
          ),
      λ b. tells.1 (record {
        above = b.0.above;
        passes = passes x.client e.op seal.position below u b.0;
        least = λ v above less p. b.1 v less (blocks x.client e.op seal.position below v above p);
      }),
    )
