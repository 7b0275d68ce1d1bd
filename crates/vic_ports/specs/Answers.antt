-- What the system's answers to reads and writes are told as, and what they leave of a reader and a writer.
use Rattle.std.specs.Prelude.{◌≡◌, ◌≢◌, ℕ, ◌+◌, ◌-◌, ◌^◌, ◌<◌, ◌≤◌, min, List, length, take, Option, Some, None, Result, Ok, Err, true, nat_eq, if◌then◌else◌}
use Rattle.std.specs.IoError.{error_kind}
use Rattle.std.specs.Io.KnownBytes.{Keeps, Appends, Consumes, IsAtEnd}
use Rattle.std.specs.declared.io.Error.{Error}
use Rattle.std.specs.declared.io.ErrorKind.TheVariants.{Interrupted}
use Rattle.vic_ports.specs.declared.ports.Got.{Got}
use Rattle.vic_ports.specs.declared.ports.Got.TheVariants as got
use Rattle.vic_ports.specs.declared.ports.Put.{Put}
use Rattle.vic_ports.specs.declared.ports.Put.TheVariants as put
use Rattle.vic_ports.specs.declared.answers.SystemAnswer.{SystemAnswer}
use Rattle.vic_ports.specs.declared.answers.SystemAnswer.TheVariants as answer
use Rattle.vic_ports.specs.declared.answers.Tally.{Tally}

-- a call's result is this answer: an error is a cut call exactly where its kind is Interrupted
abbrev pub IsAnswer : Result ℕ Error → SystemAnswer → Type 0
IsAnswer (Ok n) a = a ≡ answer.Count n
IsAnswer (Err e) (answer.Count n) = ⊥
IsAnswer (Err e) answer.Cut = error_kind e ≡ Interrupted
IsAnswer (Err e) answer.Failed = error_kind e ≢ Interrupted

-- what a read is told as where so many tries are left, or none: it is done again
abbrev pub got_by : SystemAnswer → ℕ → Option Got
got_by (answer.Count n) left = Some (if nat_eq n 0 then got.End else got.Bytes n)
got_by answer.Cut left = if nat_eq left 0 then Some got.Failed else None
got_by answer.Failed left = Some got.Failed

-- the same of a write; one that takes nothing has failed
abbrev pub put_by : SystemAnswer → ℕ → Option Put
put_by (answer.Count n) left = Some (if nat_eq n 0 then put.Failed else put.Took n)
put_by answer.Cut left = if nat_eq left 0 then Some put.Failed else None
put_by answer.Failed left = Some put.Failed

-- what is told of a read is so of the reader, where its bytes are known: it gave these; nothing is left; or it is as it was
abbrev pub TellsRead : Option (List ℕ) → Option (List ℕ) → List ℕ → Got → Type 0
TellsRead old new into (got.Bytes n) = (0 < n) × (n ≤ length into) × Consumes old new (take n into)
TellsRead old new into got.End = Keeps old new × IsAtEnd new
TellsRead old new into got.Failed = Keeps old new

-- what is told of a write is so of the writer, where its bytes are known: it holds these more; or it is as it was
abbrev pub TellsWrite : Option (List ℕ) → Option (List ℕ) → List ℕ → Put → Type 0
TellsWrite old new piece (put.Took n) = (0 < n) × (n ≤ length piece) × Appends old new (take n piece)
TellsWrite old new piece put.Failed = Keeps old new
TellsWrite old new piece put.NoMemory = ⊥

-- one fault more
abbrev pub with_fault : Tally → Tally
with_fault t = record t { faults = min (t.faults + 1) (2 ^ 64 - 1) }

-- what is noted of a read: a fault, or the end
abbrev pub after_read : Tally → Got → Tally
after_read t (got.Bytes n) = t
after_read t got.End = record t { ended = true }
after_read t got.Failed = with_fault t

-- what is noted of a write: a fault
abbrev pub after_write : Tally → Put → Tally
after_write t (put.Took n) = t
after_write t put.Failed = with_fault t
after_write t put.NoMemory = t
