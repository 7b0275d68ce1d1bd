-- The laws of scripts, one by one.
use Rattle.std.specs.Prelude.{◌≡◌, ℕ, ◌<◌, ◌≤◌, ◌↔◌, true, false, List, [], ◌∷◌, ◌++◌, reverse, Some, IsSome}
use Rattle.std.specs.List.{flat_map}
use Rattle.vic_dict.specs.declared.limits.TheConstants.{MOST_CLIENTS}
use Rattle.vic_dict.specs.Lists.{IsIn, AreBytes}
use Rattle.vic_dict.specs.Dictionary.{Fits, AreBytesIn}
use Rattle.vic_wire.specs.Hashes.{Group}
use Rattle.vic_rules.specs.declared.object.ObjectOutcome.TheVariants as ended
use Rattle.vic_rules.specs.declared.trace.Input.{Input}
use Rattle.vic_rules.specs.declared.trace.Input.TheVariants as input
use Rattle.vic_rules.specs.declared.trace.TraceStep.{TraceStep}
use Rattle.vic_rules.specs.Objects.{FitsObject, AreBytesInObject}
use Rattle.vic_rules.specs.History.{IsLawful, Completion, completions}
use Rattle.vic_rules.specs.Trust.{IsForged}
use Rattle.vic_rules.specs.Headline.{Headline}
use Rattle.vic_laws.specs.ContentClaims.{LoadsGetTheLastIn}
use Rattle.vic_order.specs.Honest.{ComesHonestly}
use Rattle.vic_honest.specs.SafeRuns.{AreApart}
use Rattle.vic_honest.specs.Claims.{StandsAsFated, LoadIsFated, NoneHalts}
use Rattle.vic_script.specs.declared.line.Line.{Line}
use Rattle.vic_script.specs.declared.line.Line.TheVariants as line
use Rattle.vic_order.specs.Scenes.{SceneOf, server_at}
use Rattle.vic_attacks.specs.Hostile.{Hostile}
use Rattle.vic_script.specs.Lines.{is_key_digits, kind_named}
use Rattle.vic_script.specs.Scenes.{print_of_outcomes}
use Rattle.vic_script.specs.Run.{Bad, run_of, is_honest_script, script_group, script_history, bad_line_of}
use Rattle.vic_script.specs.Print.{is_forged}
use Rattle.vic_runs.specs.Reached.{GoesAs}

-- the texts of a call are within their lengths and are bytes, a group has 1 to 64 clients, its key is spelled by as many digits as it
-- may have, a server misbehaves in a way that has a name, after at most 1,000,000 requests, and a payload is bytes
abbrev pub FitsLine : Line → Type 0
FitsLine (line.Clients n) = (0 < n) × (n ≤ MOST_CLIENTS)
FitsLine (line.Objects n) = (0 < n) × (n ≤ MOST_CLIENTS)
FitsLine (line.Key digits) = is_key_digits digits ≡ true
FitsLine (line.Hostile name n) = IsSome (kind_named name) × (n ≤ 1000000)
FitsLine (line.Call i o) = Fits o × AreBytesIn o
FitsLine (line.Object i c) = FitsObject c × AreBytesInObject c
FitsLine (line.Poll i) = Unit {0}
FitsLine (line.Sync i) = Unit {0}
FitsLine (line.Serve i) = Unit {0}
FitsLine (line.Take i) = Unit {0}
FitsLine (line.Run i) = Unit {0}
FitsLine (line.Give i payload) = AreBytes payload
FitsLine (line.Again i) = Unit {0}
FitsLine (line.Flip i n) = Unit {0}
FitsLine (line.Resend i) = Unit {0}
FitsLine (line.Copy n t) = Unit {0}
FitsLine (line.Move i n) = Unit {0}
FitsLine line.Skip = Unit {0}

-- ---- every script

-- each client steps by the rules
abbrev pub RunsAreLawful : Type 0
RunsAreLawful = (script : List ℕ) → IsLawful (script_group script) (script_history script)

-- the test finds a history forged exactly where it is
abbrev pub ForgedIs : Type 0
ForgedIs = (g : Group) (h : List TraceStep) → (is_forged g h ≡ true) ↔ IsForged g h

-- what is claimed of a script's run: of its views, and of what its loads return
pub record IsGood (script : List ℕ) : Type 0 where
  pub lawful : IsLawful (script_group script) (script_history script)
  pub views : Headline (script_group script) (script_history script)
  pub loads : LoadsGetTheLastIn (script_group script) (script_history script)

abbrev pub ClaimsHold : Type 0
ClaimsHold = (script : List ℕ) → IsGood script

-- what a step prints, by what its client was given
abbrev pub line_of_input : Input → TraceStep → List ℕ
line_of_input (input.Call o) x = []
line_of_input (input.Object c) x = []
line_of_input input.Poll x = []
line_of_input input.Sync x = []
line_of_input (input.Payload payload) x = print_of_outcomes x.client x.returned x.object

-- the line of a step in which a client took an answer; the other steps print nothing
abbrev pub line_of_step : TraceStep → List ℕ
line_of_step x = line_of_input x.input x

-- what the lines of a script print is what its steps tell, the oldest first
abbrev pub PrintsAreReturns : Type 0
PrintsAreReturns = (script : List ℕ) → (run_of script).text ≡ flat_map line_of_step (reverse (script_history script))

-- ---- every honest script: no line tampers with what its one server answers. In a plain group contents are apart, since none is sent

-- every tag that a client takes was made before, and the print says so
abbrev pub NothingIsForged : Type 0
NothingIsForged = (script : List ℕ) → is_honest_script script ≡ true
    → (is_forged (script_group script) (script_history script) ≡ false) × (IsForged (script_group script) (script_history script) → ⊥)

abbrev pub RunsAreHonest : Type 0
RunsAreHonest = (script : List ℕ) → is_honest_script script ≡ true → (s : SceneOf Hostile) → (run_of script).scene ≡ Some s → ComesHonestly GoesAs s

-- where contents are apart, every completed call is an entry of the server's log, and its outcome is what becomes of that entry
abbrev pub OutcomesAreFates : Type 0
OutcomesAreFates = (script : List ℕ) → is_honest_script script ≡ true → (s : SceneOf Hostile) → (run_of script).scene ≡ Some s → AreApart s.group s.history
    → (server : Hostile) → server_at s.servers 1 ≡ Some server → (c : Completion) → IsIn (completions s.group s.history) c → StandsAsFated server.going.log c

-- where contents are apart, a content that a load returned is that of the last done store of its name below the load's get, in the order
-- of the server's log
abbrev pub LoadsAreFated : Type 0
LoadsAreFated = (script : List ℕ) → is_honest_script script ≡ true → (s : SceneOf Hostile) → (run_of script).scene ≡ Some s → AreApart s.group s.history
    → (server : Hostile) → server_at s.servers 1 ≡ Some server → (newer : List TraceStep) (x : TraceStep) (past : List TraceStep) → s.history ≡ newer ++ x ∷ past
    → (content : List ℕ) → x.object ≡ Some (ended.Content content) → LoadIsFated s.group s.history past server.going.log x.client content

-- where contents are apart, no client halts
abbrev pub NobodyHalts : Type 0
NobodyHalts = (script : List ℕ) → is_honest_script script ≡ true → (s : SceneOf Hostile) → (run_of script).scene ≡ Some s → AreApart s.group s.history → NoneHalts s.group s.history

-- where contents are apart, no line is bad for that its client has halted
abbrev pub NoLineIsHalted : Type 0
NoLineIsHalted = (script : List ℕ) → is_honest_script script ≡ true → AreApart (script_group script) (script_history script) → (b : Bad) → bad_line_of script ≡ Some b → b.kind ≡ 3 → ⊥
