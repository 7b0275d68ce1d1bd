-- What is shown of talks and of sessions.
use Rattle.std.specs.Prelude.{◌≡◌, ◌⊎◌, ℕ, ◌<◌, ◌≤◌, List, ◌∷◌, ◌++◌, Some}
use Rattle.std.specs.List.{AllByRecursion}
use Rattle.vic_dict.specs.Lists.{AreBytes}
use Rattle.vic_wire.specs.Hashes.{Group, IsGroup}
use Rattle.vic_wire.specs.declared.message.ToClient.TheVariants as say
use Rattle.vic_wire.specs.Reading.{read_answer}
use Rattle.vic_rules.specs.History.{IsLawful}
use Rattle.vic_conn.specs.Frames.{frames_of}
use Rattle.vic_ports.specs.Causes.{Rose}
use Rattle.vic_ports.specs.Links.{Told}
use Rattle.vic_session.specs.declared.end.SessionEnd.{SessionEnd}
use Rattle.vic_session.specs.declared.end.SessionEnd.TheVariants as ends
use Rattle.vic_session.specs.Talks.{Leaves, opening_talk, talk, talker}
use Rattle.vic_session.specs.Sessions.{AllAwaited, IsSession}

-- the steps of a talk are a lawful history of its client alone, whatever the script and the payloads are
abbrev pub TalksAreLawful : Type 0
TalksAreLawful = (g : Group) (me : ℕ) (script : List ℕ) (taken : List (List ℕ)) → IsGroup g → 0 < me → me ≤ g.count → AllByRecursion AreBytes taken
    → IsLawful g (talk (talker g me script) script taken).history

-- so the client's steps in a session over a link that tells its bytes are one
abbrev pub SessionsAreLawful : Type 0
SessionsAreLawful = (g : Group) (me : ℕ) (script : List ℕ) (old new : Told) (out printed : List ℕ) (end : SessionEnd) (s : IsSession g me script old out end new printed)
    → IsGroup g → 0 < me → me ≤ g.count → (bytes : List ℕ) → old.left ≡ Some bytes → AreBytes bytes → IsLawful g (talk (talker g me script) script s.taken).history

-- payloads on which a session over a script comes to its end: Hi, those of a talk that does each line and leaves, and Gone
pub record IsServed (g : Group) (me : ℕ) (script : List ℕ) (payloads : List (List ℕ)) : Type 0 where
  pub hi : List ℕ
  pub hi_is : read_answer hi ≡ Some say.Hi
  pub taken : List (List ℕ)
  pub awaited : AllAwaited (talker g me script) (opening_talk (talker g me script) script) taken
  pub leaves : (talk (talker g me script) script taken).doing ≡ Leaves
  pub gone : List ℕ
  pub gone_is : read_answer gone ≡ Some say.Gone
  pub more : List (List ℕ)
  pub in_order : payloads ≡ hi ∷ taken ++ gone ∷ more

-- a session over a link that gives such payloads and fails no call ends well, unless memory runs out
abbrev pub SessionsAreComplete : Type 0
SessionsAreComplete = (g : Group) (me : ℕ) (script : List ℕ) (old new : Told) (out printed : List ℕ) (end : SessionEnd) → IsSession g me script old out end new printed
    → (Rose old.faults new.faults → ⊥) → (bytes : List ℕ) → old.left ≡ Some bytes → IsServed g me script (frames_of bytes).0 → (end ≡ ends.Ok) ⊎ (end ≡ ends.NoMemory)
