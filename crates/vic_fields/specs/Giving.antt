-- What a reader of fields answers, beside what reading gives.
use Rattle.std.specs.Prelude.{◌≡◌, Result, Ok, Err}
use Rattle.vic_wire.specs.Reading.{FieldFault, Short, Value}
use Rattle.vic_fields.specs.declared.cut.CutFault.{CutFault}
use Rattle.vic_fields.specs.declared.cut.CutFault.TheVariants as cut

-- the fault is the one that reading meets; nothing is said where memory ran out
abbrev pub Fails : {Y : Type 0} → CutFault → Result Y FieldFault → Type 0
Fails cut.Short read = read ≡ Err Short
Fails cut.Value read = read ≡ Err Value
Fails cut.NoMemory read = Unit {0}

-- what was answered, seen by view, is what reading gives, unless memory ran out
abbrev pub Gives : {X Y : Type 0} → (X → Y) → Result X CutFault → Result Y FieldFault → Type 0
Gives view (Ok x) read = read ≡ Ok (view x)
Gives view (Err e) read = Fails e read
