-- How the command of a client ends: what was read, what went to the link, what was written, and why.
use Rattle.std.specs.Prelude.{◌≡◌, ℕ, ◌<◌, ◌≤◌, ◌⊎◌, List, [], length, Option, Some, IsSome, IsSomeAnd}
use Rattle.vic_dict.specs.Lists.{AreBytes}
use Rattle.vic_rules.specs.History.{IsLawful}
use Rattle.vic_conn.specs.Frames.{frames_of}
use Rattle.vic_ports.specs.Causes.{Rose, LeavesBehind}
use Rattle.vic_ports.specs.Links.{Told}
use Rattle.vic_script.specs.Run.{script_limit}
use Rattle.vic_session.specs.declared.end.SessionEnd.{SessionEnd}
use Rattle.vic_session.specs.declared.end.SessionEnd.TheVariants as ends
use Rattle.vic_session.specs.Talks.{talk, talker}
use Rattle.vic_session.specs.Sessions.{IsSession}
use Rattle.vic_session.specs.Laws.{IsServed}
use Rattle.vic_text.specs.declared.status.Status.{Status}
use Rattle.vic_text.specs.declared.status.Status.TheVariants as status
use Rattle.vic_text.specs.Statuses.{read_fault_line}
use Rattle.vic_cli.specs.Output.{Taken, IsUnread, IsReadWhole}
use Rattle.vic_cli.specs.ClientWords.{ClientWords}
use Rattle.vic_cli.specs.Telling.{status_by, text_by}
use Rattle.vic_cli.specs.Command.{Command}

-- the script that was read: all of the source with its end, or a front past the limit. No read failed
abbrev pub IsScript : Taken → List ℕ → Type 0
IsScript t script = LeavesBehind script t.old t.new × (IsReadWhole t ⊎ ((t.now ≡ t.before) × (script_limit < length script)))

-- a session, of which the client's steps are a lawful history of it alone where the link tells its bytes
pub record HasSession (w : ClientWords) (script : List ℕ) (old new : Told) (end : SessionEnd) (printed : List ℕ) : Type 0 where
  pub session : IsSession w.group w.me script old [] end new printed
  pub lawful : (bytes : List ℕ) → old.left ≡ Some bytes → AreBytes bytes → IsLawful w.group (talk (talker w.group w.me script) script session.taken).history

-- the client that the words say did a session with the script that was read; where that ended well, the source was read to its end
abbrev pub Did : ClientWords → Taken → Told → Told → SessionEnd → List ℕ → Type 0
Did w t old new end printed =
    (script : List ℕ) × (IsScript t script × ((end ≡ ends.Ok → IsReadWhole t) × HasSession w script old new end printed))

-- memory ran out: before the link was asked for anything, and before the source was read where the words aren't known to be right;
-- or behind a session's beginning
abbrev pub RanOut : Option ClientWords → Taken → Told → Told → Type 0
RanOut words t old new =
    ((new ≡ old) × (IsSome words ⊎ IsUnread t))
    ⊎ IsSomeAnd words (λ w. (end : SessionEnd) × ((printed : List ℕ) × Did w t old new end printed))

-- with status 3 a read of the script failed; with 6 memory ran out, and no read had failed. Each other status is that of a
-- session's end, and the text is what the session printed with the line of its end
abbrev pub Causes : Option ClientWords → Taken → Told → Told → Status → List ℕ → Type 0
Causes words t old new status.ReadFault text = Rose t.before t.now × ((new ≡ old) × (text ≡ read_fault_line))
Causes words t old new status.NoMemory text = (t.now ≡ t.before) × RanOut words t old new
Causes words t old new s text =
    IsSomeAnd words (λ w. (end : SessionEnd) × ((printed : List ℕ) × (Did w t old new end printed
    × ((s ≡ status_by end) × (text ≡ text_by end printed)))))

-- the script is within the limit, and the link has Hi, the payloads of a talk that does each line and leaves, and Gone
pub record CanBeDone (w : ClientWords) (t : Taken) (old : Told) : Type 0 where
  pub script : List ℕ
  pub script_is : t.old ≡ Some script
  pub few : length script ≤ script_limit
  pub bytes : List ℕ
  pub bytes_are : old.left ≡ Some bytes
  pub served : IsServed w.group w.me script (frames_of bytes).0

abbrev pub client_command : Option ClientWords → Taken → Told → Told → Command
client_command words t old new = record {
  right = IsSome words;
  untouched = IsUnread t × (new ≡ old);
  causes = Causes words t old new;
  due = λ s. (Rose t.before t.now → ⊥) × ((Rose old.faults new.faults → ⊥) × (IsSomeAnd words (λ w. CanBeDone w t old) × (s ≡ status.Ok)));
}
