-- The scene that a world shows, and what its parts do.
use Rattle.std.specs.Prelude.{◌≡◌, ℕ, ◌+◌, ◌<◌, ◌≤◌, ◌^◌, ◌⊎◌, Bool, true, false, List, [], ◌∷◌, ◌++◌, map, length, Option, Some, None, Result, Ok, Err, option_map, is_some, slice_get, ◌-◌}
use Rattle.std.specs.List.{AllByRecursion}
use Rattle.vic_dict.specs.declared.limits.TheConstants.{MOST_CLIENTS}
use Rattle.vic_dict.specs.Dictionary.{Fits, AreBytesIn}
use Rattle.vic_dict.specs.declared.op.Mode.{Mode}
use Rattle.vic_dict.specs.declared.op.Mode.TheVariants as mode
use Rattle.vic_wire.specs.Hashes.{Group}
use Rattle.vic_rules.specs.Objects.{FitsObject, AreBytesInObject}
use Rattle.vic_rules.specs.declared.trace.Input.{Input}
use Rattle.vic_rules.specs.declared.trace.Input.TheVariants as input
use Rattle.vic_rules.specs.declared.trace.TraceStep.{TraceStep}
use Rattle.vic_rules.specs.Client.{step, payload_of, MayStep, first_failing}
use Rattle.vic_rules.specs.History.{standing, IsLawful}
use Rattle.vic_order.specs.Serving.{Serving, AnswersAs}
use Rattle.vic_client.specs.Kept.{StandsFor, kept_group}
use Rattle.vic_view.specs.declared.transcript.Transcript.{Transcript}
use Rattle.vic_view.specs.Transcripts.{transcript_steps, transcript_history, transcript_group}
use Rattle.vic_script.specs.declared.line.Line.{Line}
use Rattle.vic_script.specs.declared.line.Line.TheVariants as line
use Rattle.vic_order.specs.Scenes.{SceneOf, queue_with, server_at, last_taken, last_sent, is_client, Event, Serves, after_step, after_events}
use Rattle.vic_script.specs.Scenes.{print_of_events, most_turns, events_of_turns, events_of, asked_tests, bad_kind}
use Rattle.vic_honest.specs.SafeRuns.{AreApart}
use Rattle.vic_honest.specs.Claims.{IsHonestScene, HoldsAnyway}
use Rattle.vic_runs.specs.Reached.{IsHonestlyReached}
use Rattle.vic_group.specs.declared.member.Member.{Member}
use Rattle.vic_group.specs.declared.servers.Servers.{Servers}
use Rattle.vic_group.specs.declared.world.World.{World}
use Rattle.vic_group.specs.declared.world.WorldFault.{WorldFault}
use Rattle.vic_group.specs.declared.world.WorldFault.TheVariants as fault
use Rattle.vic_group.specs.Members.{AllStand}

-- ---- what is shown

-- a client of the group has this number, stands where the history leaves it, and has what it took and sent last
pub record MemberStands (g : Group) (h : List TraceStep) (m : Member) (i : ℕ) : Type 0 where
  pub id : m.client.id ≡ i
  pub group : kept_group m.client ≡ g
  pub stands : StandsFor m.client (standing g i h)
  pub taken : m.taken ≡ last_taken i h
  pub sent : m.sent ≡ last_sent i h

-- what each server is, as far as it exists
abbrev pub states : {S V : Type 0} → (S → V) → Servers S → List (Option V)
states state v = Some (state v.first) ∷ option_map state v.second ∷ option_map state v.third ∷ option_map state v.fourth ∷ []

-- the transcript, the servers and the queues are the scene's; its clients have stepped by the rules, each stands where the history
-- leaves it, and is served by a server that exists
pub record ShowsParts {V : Type 0} (t : Transcript) (ms : List Member) (vs : List (Option V)) (s : SceneOf V) : Type 0 where
  pub count : length ms ≡ s.group.count
  pub few : s.group.count ≤ MOST_CLIENTS
  pub group : transcript_group t ≡ s.group
  pub history : transcript_history t ≡ s.history
  pub up : map (λ m. m.up) ms ≡ s.up
  pub down : map (λ m. m.down) ms ≡ s.down
  pub served_by : map (λ m. m.server) ms ≡ s.served_by
  pub servers : vs ≡ s.servers
  pub placed : AllByRecursion (λ m. is_some (server_at vs m.server) ≡ true) ms
  pub clients : AllStand (MemberStands s.group s.history) 1 ms
  pub lawful : IsLawful s.group s.history

abbrev pub ShowsScene : {S V : Type 0} → (S → V) → World S → SceneOf V → Type 0
ShowsScene state w s = ShowsParts w.transcript w.members.items (states state w.servers) s

-- a client of a group of this mode that may call once more
abbrev pub IsReady : Mode → Member → Type 0
IsReady k m = (m.client.mode ≡ k) × (m.client.calls + 1 < 2 ^ 32)

-- the texts of a line that calls are bytes
abbrev pub HasBytes : Line → Type 0
HasBytes (line.Call i o) = AreBytesIn o
HasBytes (line.Object i c) = AreBytesInObject c
HasBytes l = Unit {0}

-- a client whom a line calls, in a group of the mode that has such calls, may call once more
abbrev pub MayDo : {S : Type 0} → World S → Line → Type 0
MayDo w (line.Call i o) = w.transcript.mode ≡ mode.Plain → 0 < i → (m : Member) → slice_get w.members.items (i - 1) ≡ Some m → IsReady mode.Plain m
MayDo w (line.Object i c) = w.transcript.mode ≡ mode.Objects → 0 < i → (m : Member) → slice_get w.members.items (i - 1) ≡ Some m → IsReady mode.Objects m
MayDo w l = Unit {0}

-- ---- what a member does

-- the step that a client makes after a history
abbrev pub step_at : Group → List TraceStep → ℕ → Input → TraceStep
step_at g h i given =
    let v = step g i (standing g i h) given in
    record { client = i; input = given; sent = payload_of g i v.next v.sends; returned = v.returns; object = v.object }

-- a client made its step, as it may: what it sent joined its queue, and it stands where the history then leaves it
pub record Acts (g : Group) (h : List TraceStep) (i : ℕ) (given : Input) (old new : Member) : Type 0 where
  pub may : MayStep g (standing g i h) given
  pub up : new.up ≡ queue_with old.up (step_at g h i given).sent
  pub down : new.down ≡ old.down
  pub server : new.server ≡ old.server
  pub stands : MemberStands g (step_at g h i given ∷ h) new i

-- a step joined a transcript
pub record AddsStep (x : TraceStep) (before after : Transcript) : Type 0 where
  pub group : transcript_group after ≡ transcript_group before
  pub steps : transcript_steps after ≡ transcript_steps before ++ x ∷ []

-- none did
pub record AddsNoStep (before after : Transcript) : Type 0 where
  pub group : transcript_group after ≡ transcript_group before
  pub steps : transcript_steps after ≡ transcript_steps before

-- what a client may be asked: a call that fits, while it may call once more
abbrev pub CanAsk : Member → Input → Type 0
CanAsk m (input.Call op) = IsReady mode.Plain m × (Fits op × AreBytesIn op)
CanAsk m (input.Object c) = IsReady mode.Objects m × (FitsObject c × AreBytesInObject c)
CanAsk m input.Poll = Unit {0}
CanAsk m input.Sync = Unit {0}
CanAsk m (input.Payload payload) = ⊥

-- ---- what a line does

-- a world shows what events make of a scene, and what is printed of them was appended
abbrev pub Makes : {S V : Type 0} → (S → V) → Serving V → SceneOf V → List Event → World S → List ℕ → List ℕ → Type 0
Makes state rule s events w before after = (after ≡ before ++ print_of_events rule s events) × ShowsScene state w (after_events rule s events)

-- one event happened; or there was nothing to be taken, and nothing changed
abbrev pub MakesIf : {S V : Type 0} → (S → V) → Serving V → SceneOf V → Event → World S → List ℕ → List ℕ → Bool → Type 0
MakesIf state rule s m w before after true = Makes state rule s (m ∷ []) w before after
MakesIf state rule s m w before after false = (after ≡ before) × ShowsScene state w s

-- what so many turns leave that found no memory: those that were done, the last of which may have been served alone
abbrev pub TurnsLeftWithoutMemory : {S V : Type 0} → (S → V) → Serving V → ℕ → SceneOf V → ℕ → World S → Type 0
TurnsLeftWithoutMemory state rule n s i w = (k : ℕ) × ((k < n) × (ShowsScene state w (after_events rule s (events_of_turns rule k s i)) ⊎ ShowsScene state w (after_events rule s (Serves i ∷ events_of_turns rule k s i))))

-- what a line leaves that found no memory: the scene as it was, but for the turns of a client's run that were done
abbrev pub LeftWithoutMemory : {S V : Type 0} → (S → V) → Serving V → SceneOf V → Line → World S → Type 0
LeftWithoutMemory state rule s (line.Run i) w = (is_client s i ≡ true) × TurnsLeftWithoutMemory state rule most_turns s i w
LeftWithoutMemory state rule s l w = ShowsScene state w s

-- a client was asked for something; or that was bad by its first kind, or found no memory, and nothing changed
abbrev pub AsksClient : {S V : Type 0} → (S → V) → SceneOf V → ℕ → Input → Result (Unit {0}) WorldFault → World S → Type 0
AsksClient state s i given (Ok done) w = (first_failing (asked_tests s i) ≡ None) × ShowsScene state w (after_step s i given)
AsksClient state s i given (Err (fault.Bad k)) w = (first_failing (asked_tests s i) ≡ Some k) × ShowsScene state w s
AsksClient state s i given (Err fault.NoMemory) w = ShowsScene state w s

-- how a line ends by which something went, or nothing did
abbrev pub end_by_waiting : Bool → Result (Unit {0}) WorldFault
end_by_waiting true = Ok tt
end_by_waiting false = Err (fault.Bad 5)

-- a line was done, and its text was appended; or it was bad by its first kind, and nothing changed; or it found no memory
abbrev pub DoesLine : {S V : Type 0} → (S → V) → Serving V → SceneOf V → Line → Result (Unit {0}) WorldFault → World S → List ℕ → List ℕ → Type 0
DoesLine state rule s l (Ok done) w before after = (bad_kind s l ≡ None) × Makes state rule s (events_of rule s l) w before after
DoesLine state rule s l (Err (fault.Bad k)) w before after = (bad_kind s l ≡ Some k) × ShowsScene state w s
DoesLine state rule s l (Err fault.NoMemory) w before after = LeftWithoutMemory state rule s l w

-- ---- honest servers

-- the world shows where clients stand that have one server, which answers as one that follows the rule: an honest run of theirs leads
-- there, and no client was called more than n times. What holds of such runs holds there, in a group with objects unless two different
-- contents that clients sent have one hash
pub record StandsHonestly {S V : Type 0} (state : S → V) (rule : Serving V) (w : World S) (n : ℕ) : Type 0 where
  pub scene : SceneOf V
  pub shows : ShowsScene state w scene
  pub reached : IsHonestlyReached (AnswersAs rule) scene n
  pub anyway : HoldsAnyway scene.group scene.history reached.comes.server
  pub holds : AreApart scene.group scene.history → IsHonestScene scene reached.comes.events reached.comes.server
