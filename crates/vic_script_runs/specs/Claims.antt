-- The laws of a script's events.
use Rattle.std.specs.Prelude.{◌≡◌, ◌≢◌, ◌⊎◌, ℕ, ◌+◌, ◌≤◌, true, List, [], ◌∷◌, ◌++◌, length, take, Option, Some, None, IsSome}
use Rattle.std.specs.List.{AllByRecursion, flat_map}
use Rattle.vic_dict.specs.Lists.{IsIn}
use Rattle.vic_dict.specs.declared.op.Mode.TheVariants as mode
use Rattle.vic_order.specs.Honest.{ComesHonestly}
use Rattle.vic_order.specs.Scenes.{SceneOf, Event, after_events, MayAllHappen}
use Rattle.vic_attacks.specs.declared.HostileKind.{HostileKind}
use Rattle.vic_attacks.specs.Hostile.{Hostile, by_kind}
use Rattle.vic_script.specs.declared.line.Line.{Line}
use Rattle.vic_script.specs.declared.line.Line.TheVariants as line
use Rattle.vic_script.specs.Lines.{lines_of, line_of, kind_named}
use Rattle.vic_script.specs.Scenes.{events_of, bad_kind}
use Rattle.vic_script.specs.Words.{newline}
use Rattle.vic_script.specs.Run.{script_limit, Attack, no_attack, opening_as, run_of, is_honest_script, bad_line_of}
use Rattle.vic_runs.specs.Reached.{GoesAs}
use Rattle.vic_script_runs.specs.Events.{script_events}

-- ---- how a script has its server misbehave

abbrev pub attack_after : ℕ → Option HostileKind → List Attack
attack_after n None = []
attack_after n (Some k) = record { kind = k; after = n } ∷ []

-- what a `hostile` line names; other lines name nothing
abbrev pub attack_in : Option Line → List Attack
attack_in (Some (line.Hostile name n)) = attack_after n (kind_named name)
attack_in l = []

abbrev pub attacks_in : List (List ℕ) → List Attack
attacks_in texts = flat_map (λ text. attack_in (line_of (Some mode.Plain) text)) texts

-- what the lines of a script name, the first one first
abbrev pub attacks_of : List ℕ → List Attack
attacks_of script = attacks_in (lines_of (take (script_limit + 1) script))

-- ---- every script, and honest ones

-- each of the events may happen after those before it, and they lead to the scene, from the opening with a server that misbehaves as a
-- line of the script names it, or doesn't
pub record ComesOf (script : List ℕ) (s : SceneOf Hostile) (events : List Event) : Type 0 where
  pub hostile : Attack
  pub may : MayAllHappen by_kind (opening_as s.group hostile) events
  pub is : s ≡ after_events by_kind (opening_as s.group hostile) events
  pub named : (hostile ≡ no_attack) ⊎ IsIn (attacks_of script) hostile
  -- where no line is bad, no more than one names such a thing, and it is what that one names
  pub whole : bad_line_of script ≡ None → ((attacks_of script ≡ []) × (hostile ≡ no_attack)) ⊎ (attacks_of script ≡ hostile ∷ [])

-- every script comes of the events of its lines, whatever these do
abbrev pub ScriptsComeOfTheirLines : Type 0
ScriptsComeOfTheirLines = (script : List ℕ) → (s : SceneOf Hostile) → (run_of script).scene ≡ Some s → ComesOf script s (script_events script)

-- where no line tampers with what the one server answers, those events are a run of clients with one honest server
abbrev pub HonestRunsAreTheirLines : Type 0
HonestRunsAreTheirLines = (script : List ℕ) → is_honest_script script ≡ true → (s : SceneOf Hostile) → (run_of script).scene ≡ Some s
    → (c : ComesHonestly GoesAs s) × (c.events ≡ script_events script)

-- ---- one line more

-- the text of one line
abbrev pub IsLineText : List ℕ → Type 0
IsLineText text = AllByRecursion (λ b. b ≢ 10) text

-- lines, each with the byte behind it that ends it
abbrev pub text_of : List (List ℕ) → List ℕ
text_of [] = []
text_of (text ∷ texts) = text ++ (newline ++ text_of texts)

-- in a scene a line adds its events to those before it; one that is bad, or a text that spells no line, adds none
pub record AddsItsOwn (s : SceneOf Hostile) (text : List ℕ) (before after : List Event) : Type 0 where
  pub good : (l : Line) → line_of (Some s.group.mode) text ≡ Some l → bad_kind s l ≡ None → after ≡ events_of by_kind s l ++ before
  pub bad : (l : Line) (k : ℕ) → line_of (Some s.group.mode) text ≡ Some l → bad_kind s l ≡ Some k → after ≡ before
  pub other : line_of (Some s.group.mode) text ≡ None → after ≡ before

-- no lines have no events
abbrev pub NoLinesAddNone : Type 0
NoLinesAddNone = script_events (text_of []) ≡ []

-- a line more adds its events in the scene where the lines before it leave off; it adds none where one of these was bad, or where their
-- header hasn't begun
pub record IsOneMore (script : List ℕ) (text : List ℕ) (before after : List Event) : Type 0 where
  pub adds : bad_line_of script ≡ None → (s : SceneOf Hostile) → (run_of script).scene ≡ Some s → AddsItsOwn s text before after
  pub ends : IsSome (bad_line_of script) → after ≡ before

-- scripts of such lines that are within the limit
abbrev pub LinesAddTheirOwn : Type 0
LinesAddTheirOwn = (texts : List (List ℕ)) (text : List ℕ)
    → AllByRecursion IsLineText (texts ++ text ∷ []) → length (text_of (texts ++ text ∷ [])) ≤ script_limit
    → IsOneMore (text_of texts) text (script_events (text_of texts)) (script_events (text_of (texts ++ text ∷ [])))
