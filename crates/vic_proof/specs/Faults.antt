-- What a reader of parts answers, beside what reading gives.
use Rattle.std.specs.Prelude.{◌≡◌, Result, Ok, Err}
use Rattle.vic_wire.specs.Parts.{PartFault, BadTag, BadLength, IndexNotRising, Short, Trailing}
use Rattle.vic_proof.specs.declared.reading.ProofFault.{ProofFault}
use Rattle.vic_proof.specs.declared.reading.ProofFault.TheVariants as fault

-- the fault is the one that reading meets, at its place; nothing is said where memory ran out
abbrev pub FailsAt : {Y : Type 0} → ProofFault → Result Y PartFault → Type 0
FailsAt (fault.BadTag place) read = read ≡ Err (BadTag place)
FailsAt (fault.BadLength place) read = read ≡ Err (BadLength place)
FailsAt (fault.IndexNotRising place) read = read ≡ Err (IndexNotRising place)
FailsAt (fault.Short place) read = read ≡ Err (Short place)
FailsAt (fault.Trailing place) read = read ≡ Err (Trailing place)
FailsAt fault.NoMemory read = Unit {0}

-- what was answered, seen by view, is what reading gives, unless memory ran out
abbrev pub GivesPart : {X Y : Type 0} → (X → Y) → Result X ProofFault → Result Y PartFault → Type 0
GivesPart view (Ok x) read = read ≡ Ok (view x)
GivesPart view (Err e) read = FailsAt e read
