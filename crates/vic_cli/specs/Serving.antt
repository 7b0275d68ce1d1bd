-- What the command of a server does: lines come, are served and go back, and seven lines are printed of it.
use Rattle.std.specs.Prelude.{◌≡◌, ◌⊎◌, ℕ, ◌&&◌, Bool, true, false, List, [], ◌∷◌, ◌++◌, length, Option, Some, None, IsSome, IsSomeAnd, IfSome, count_by, if◌then◌else◌, codes}
use Rattle.std.specs.Str.{bytes_eq}
use Rattle.std.specs.Fmt.{decimal}
use Rattle.vic_dict.specs.declared.op.Mode.{Mode}
use Rattle.vic_order.specs.Order.{size, sealed_count}
use Rattle.vic_ports.specs.Causes.{Rose}
use Rattle.vic_ports.specs.Links.{Told, Lines}
use Rattle.vic_gate.specs.declared.worker.WorkEnd.{WorkEnd}
use Rattle.vic_gate.specs.declared.worker.WorkEnd.TheVariants as ends
use Rattle.vic_server.specs.Replay.{KeptServer, opening_server}
use Rattle.vic_hall.specs.Hosting.{Visited, lines}
use Rattle.vic_hall.specs.Runs.{IsRun}
use Rattle.vic_script.specs.Words.{newline}
use Rattle.vic_text.specs.declared.status.Status.{Status}
use Rattle.vic_text.specs.declared.status.Status.TheVariants as status
use Rattle.vic_text.specs.Statuses.{link_fault_line}
use Rattle.vic_cli.specs.Command.{Command}
use Rattle.vic_cli.specs.Arguments.{is_address, small_number, mode_of}
use Rattle.vic_cli.specs.declared.serve.Asked.{Asked}

-- ---- the words

abbrev pub asked_by : Option Mode → Option ℕ → Option ℕ → Option Asked
asked_by (Some kind) (Some clients) (Some connections) = Some (record { kind = kind; clients = clients; connections = connections })
asked_by (Some kind) (Some clients) None = None
asked_by (Some kind) None connections = None
asked_by None clients connections = None

-- `serve ADDRESS COUNT MODE CONNECTIONS`
abbrev pub serve_words : List (List ℕ) → Option Asked
serve_words (name ∷ address ∷ count ∷ kind ∷ connections ∷ []) =
    if bytes_eq name (codes "serve") && is_address address
    then asked_by (mode_of kind) (small_number count) (small_number connections)
    else None
serve_words words = None

-- ---- what is printed

-- a name and a number
abbrev pub told_line : List ℕ → ℕ → List ℕ
told_line name n = name ++ decimal n ++ newline

abbrev pub is_link_fault : WorkEnd → Bool
is_link_fault ends.Ended = false
is_link_fault ends.LinkFault = true
is_link_fault ends.BadFrame = false
is_link_fault ends.NoMemory = false

abbrev pub is_bad_frame : WorkEnd → Bool
is_bad_frame ends.Ended = false
is_bad_frame ends.LinkFault = false
is_bad_frame ends.BadFrame = true
is_bad_frame ends.NoMemory = false

abbrev pub is_no_memory : WorkEnd → Bool
is_no_memory ends.Ended = false
is_no_memory ends.LinkFault = false
is_no_memory ends.BadFrame = false
is_no_memory ends.NoMemory = true

-- the lines, of the connections, of the server at the end and of how the workers ended
abbrev pub serve_text : ℕ → KeptServer → List WorkEnd → List ℕ
serve_text connections k ends =
    told_line (codes "connections ") connections
    ++ told_line (codes "ordered ") (size k.server)
    ++ told_line (codes "sealed ") (sealed_count k.server)
    ++ told_line (codes "changes ") (length k.changes)
    ++ told_line (codes "link faults ") (count_by is_link_fault ends)
    ++ told_line (codes "bad frames ") (count_by is_bad_frame ends)
    ++ told_line (codes "no memory ") (count_by is_no_memory ends)

-- ---- what was done

-- what is told of doors before and after: their lines, where they tell them, and their count of faults
pub record Opened : Type 0 where
  pub old : Option Lines
  pub new : Option Lines
  pub before : ℕ
  pub now : ℕ

abbrev pub opened_of : Option Lines → Option Lines → ℕ → ℕ → Opened
opened_of old new before now = record { old = old; new = new; before = before; now = now }

-- by the words in which doors tell it
abbrev pub opened_by : {A : Type 0} → (A → Option Lines) → (A → ℕ) → A → A → Opened
opened_by lines faults old new = opened_of (lines old) (lines new) (faults old) (faults new)

-- so many lines came, were served by one server of the kind and the clients that were asked for, and went back, in order, and no
-- accept failed; and the text tells of it
abbrev pub IsServed : Asked → Opened → KeptServer → List ℕ → Type 0
IsServed a d k text =
    (d.now ≡ d.before) × ((l : Lines) × ((worked : List WorkEnd) × (Visited l d.old d.new
    × (IsRun a.connections (opening_server a.kind a.clients false) l worked k × (text ≡ serve_text a.connections k worked)))))

-- each line that came went back as it came
abbrev pub IsUnserved : Opened → Type 0
IsUnserved d = (ts : List Told) × Visited (lines ts ts) d.old d.new

-- nothing was asked of the doors
abbrev pub IsUntouched : Opened → Type 0
IsUntouched d = (d.new ≡ d.old) × (d.now ≡ d.before)

-- what was asked for was done, though nothing tells of it
abbrev pub WasServed : Asked → Opened → Type 0
WasServed a d = (k : KeptServer) × ((text : List ℕ) × IsServed a d k text)

-- ---- the command's end

-- with status 0 all was served, and where a server is kept, it is the one that the text tells of; with 7 an accept failed. Memory
-- runs out before the first accept, or after all was served
abbrev pub Causes : Option Asked → Opened → Option KeptServer → Status → List ℕ → Type 0
Causes asked d kept status.Ok text =
    IsSomeAnd asked (λ a. (k : KeptServer) × (IsServed a d k text × IfSome kept (λ x. x ≡ k)))
Causes asked d kept status.LinkFault text = Rose d.before d.now × (IsUnserved d × (text ≡ link_fault_line))
Causes asked d kept status.NoMemory text = IsSomeAnd asked (λ a. IsUntouched d ⊎ WasServed a d)
Causes asked d kept s text = ⊥

abbrev pub serve_command : Option Asked → Opened → Option KeptServer → Command
serve_command asked d kept = record {
  right = IsSome asked;
  untouched = IsUntouched d;
  causes = Causes asked d kept;
  due = λ s. (Rose d.before d.now → ⊥) × (s ≡ status.Ok);
}
