-- How a session is told: its status, and what is printed at its end.
use Rattle.std.specs.Prelude.{◌≡◌, ◌⊎◌, ℕ, ◌≤◌, List, [], ◌++◌, length, codes}
use Rattle.std.specs.Fmt.{decimal}
use Rattle.hex.specs.Hex.{encode_lower}
use Rattle.vic_wire.specs.Hashes.{Group}
use Rattle.vic_ports.specs.Links.{Told}
use Rattle.vic_script.specs.Words.{space, newline}
use Rattle.vic_script.specs.Print.{bad_line}
use Rattle.vic_script.specs.Run.{script_limit}
use Rattle.vic_session.specs.declared.end.SessionEnd.{SessionEnd}
use Rattle.vic_session.specs.declared.end.SessionEnd.TheVariants as ends
use Rattle.vic_session.specs.Sessions.{IsSession}
use Rattle.vic_text.specs.declared.status.Status.{Status}
use Rattle.vic_text.specs.declared.status.Status.TheVariants as status
use Rattle.vic_text.specs.Statuses.{no_memory_line, link_fault_line, bad_frame_line}

-- the status of a session's end
abbrev pub status_by : SessionEnd → Status
status_by ends.Ok = status.Ok
status_by (ends.BadLine n k) = status.BadLine
status_by ends.LinkFault = status.LinkFault
status_by (ends.Halted k h) = status.Halted
status_by ends.BadFrame = status.BadFrame
status_by (ends.GreetingRefused r) = status.GreetingRefused
status_by ends.NoMemory = status.NoMemory

-- the line that is printed of it, behind the lines so far
abbrev pub end_line : SessionEnd → List ℕ
end_line ends.Ok = []
end_line (ends.BadLine n k) = bad_line (record { number = n; kind = k })
end_line ends.LinkFault = link_fault_line
end_line (ends.Halted k h) = codes "halted " ++ decimal k ++ space ++ encode_lower h.bytes ++ newline
end_line ends.BadFrame = bad_frame_line
end_line (ends.GreetingRefused r) = codes "greeting refused " ++ decimal r ++ newline
end_line ends.NoMemory = []

-- what is to be written: the lines and the end's; where memory ran out, that alone
abbrev pub text_by : SessionEnd → List ℕ → List ℕ
text_by ends.Ok printed = printed ++ end_line ends.Ok
text_by (ends.BadLine n k) printed = printed ++ end_line (ends.BadLine n k)
text_by ends.LinkFault printed = printed ++ end_line ends.LinkFault
text_by (ends.Halted k h) printed = printed ++ end_line (ends.Halted k h)
text_by ends.BadFrame printed = printed ++ end_line ends.BadFrame
text_by (ends.GreetingRefused r) printed = printed ++ end_line (ends.GreetingRefused r)
text_by ends.NoMemory printed = no_memory_line

abbrev pub TellsEnd : SessionEnd → List ℕ → Status → List ℕ → Type 0
TellsEnd end printed s text = ((s ≡ status_by end) × (text ≡ text_by end printed)) ⊎ ((s ≡ status.NoMemory) × (text ≡ no_memory_line))

-- a session was done, over a script within the limit where it ended well, and is told so; or memory ran out in telling it
abbrev pub TellsSession : Group → ℕ → List ℕ → Told → Told → Status → List ℕ → Type 0
TellsSession g me script old new s text = (end : SessionEnd) × ((printed : List ℕ) × ((IsSession g me script old [] end new printed × (end ≡ ends.Ok → length script ≤ script_limit)) × TellsEnd end printed s text))
