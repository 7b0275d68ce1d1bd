-- How commands end: the exit statuses, and the lines that have no number of their own.
use Rattle.std.specs.Prelude.{ℕ, List, [], ◌∷◌, ◌++◌, codes}
use Rattle.std.specs.List.{flat_map}
use Rattle.vic_script.specs.Words.{newline}
use Rattle.vic_text.specs.declared.status.Status.{Status}
use Rattle.vic_text.specs.declared.status.Status.TheVariants as status

-- the exit status of the process
abbrev pub status_number : Status → ℕ
status_number status.Ok = 0
status_number status.TagsNotMade = 1
status_number status.Usage = 2
status_number status.ReadFault = 3
status_number status.WriteFault = 4
status_number status.BadLine = 5
status_number status.NoMemory = 6
status_number status.LinkFault = 7
status_number status.Halted = 8
status_number status.BadFrame = 9
status_number status.GreetingRefused = 10

-- the words of each command, behind the first one's
abbrev pub other_commands : List (List ℕ)
other_commands =
    codes "drill NUMBER CLIENTS CALLS"
    ∷ codes "client ADDRESS ID COUNT KEY MODE"
    ∷ codes "serve ADDRESS COUNT MODE CONNECTIONS"
    ∷ []

-- what is printed where the words are none of a command
abbrev pub usage_line : List ℕ
usage_line = codes "usage: vicos group" ++ flat_map (λ words. codes " | " ++ words) other_commands ++ newline

-- a read failed
abbrev pub read_fault_line : List ℕ
read_fault_line = codes "read fault" ++ newline

-- memory ran out
abbrev pub no_memory_line : List ℕ
no_memory_line = codes "no memory" ++ newline

-- the link failed, or ended while an answer was owed
abbrev pub link_fault_line : List ℕ
link_fault_line = codes "link fault" ++ newline

-- a frame's length is 0, or over the limit
abbrev pub bad_frame_line : List ℕ
bad_frame_line = codes "bad frame" ++ newline

-- the line of a status, where it has no number of its own; else nothing
abbrev pub fixed_line : Status → List ℕ
fixed_line status.Ok = []
fixed_line status.TagsNotMade = []
fixed_line status.Usage = usage_line
fixed_line status.ReadFault = read_fault_line
fixed_line status.WriteFault = []
fixed_line status.BadLine = []
fixed_line status.NoMemory = no_memory_line
fixed_line status.LinkFault = link_fault_line
fixed_line status.Halted = []
fixed_line status.BadFrame = bad_frame_line
fixed_line status.GreetingRefused = []
