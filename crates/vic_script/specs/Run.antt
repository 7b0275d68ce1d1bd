-- The run of a script: its lines done one after the other, up to the first bad one.
use Rattle.std.specs.Prelude.{ℕ, ◌+◌, Bool, true, ◌&&◌, List, [], ◌∷◌, ◌++◌, length, take, replicate, Option, Some, None, is_none, option_map, unwrap_or, nat_lt, if◌then◌else◌, min}
use Rattle.std.specs.List.{list_all}
use Rattle.std.specs.Result.{result_ok}
use Rattle.hex.specs.Hex.{decode_of}
use Rattle.vic_dict.specs.declared.limits.TheConstants.{LONGEST_SCRIPT}
use Rattle.vic_dict.specs.declared.op.Mode.{Mode}
use Rattle.vic_dict.specs.declared.op.Mode.TheVariants as mode
use Rattle.vic_wire.specs.Hashes.{Group}
use Rattle.vic_rules.specs.declared.trace.TraceStep.{TraceStep}
use Rattle.vic_script.specs.declared.line.Line.{Line}
use Rattle.vic_script.specs.declared.line.Line.TheVariants as line
use Rattle.vic_script.specs.Lines.{lines_of, line_of, kind_named}
use Rattle.vic_order.specs.Order.{fresh_server, ready_member}
use Rattle.vic_order.specs.Scenes.{SceneOf, opening_with}
use Rattle.vic_attacks.specs.declared.HostileKind.{HostileKind}
use Rattle.vic_attacks.specs.declared.HostileKind.TheVariants as kind
use Rattle.vic_attacks.specs.Hostile.{Hostile, hostile_from, by_kind}
use Rattle.vic_script.specs.Scenes.{PrintedSceneOf, done_line, bad_kind, is_honest_line}

-- the most bytes that a script may have
abbrev pub script_limit : ℕ
script_limit = LONGEST_SCRIPT

-- a bad line: its number, from 1 on, and its kind
pub record Bad : Type 0 where
  -- of all lines, from 1 on
  pub number : ℕ
  -- 1 to 7
  pub kind : ℕ

-- the key of a group whose header names none: 32 zeros
abbrev pub zero_key : List ℕ
zero_key = replicate 32 0

abbrev pub plain_group : ℕ → Group
plain_group count = record { mode = mode.Plain; count = count; key = zero_key }

-- how server 1 misbehaves, and after how many requests
pub record Attack : Type 0 where
  -- how the server misbehaves
  pub kind : HostileKind
  -- how many requests it serves by the rule before
  pub after : ℕ

-- it doesn't
abbrev pub no_attack : Attack
no_attack = record { kind = kind.Honest; after = 0 }

-- a header: the mode of the group, how many clients it has, and its key and how its server misbehaves, if it names them
pub record ScriptHeader : Type 0 where
  -- plain, or with objects
  pub mode : Mode
  -- how many clients, 1 to 64
  pub count : ℕ
  -- its bytes; without a `key` line none
  pub key : Option (List ℕ)
  -- without a `hostile` line none
  pub hostile : Option Attack

abbrev pub group_by : ScriptHeader → Group
group_by h = record { mode = h.mode; count = h.count; key = unwrap_or h.key zero_key }

abbrev pub attack_by : ScriptHeader → Attack
attack_by h = unwrap_or h.hostile no_attack

-- nothing has happened, all clients have come in, and this server serves them
abbrev pub opening_as : Group → Attack → SceneOf Hostile
opening_as g a = opening_with g (hostile_from a.kind a.after (fresh_server g.mode g.count ready_member))

abbrev pub opening_by : ScriptHeader → SceneOf Hostile
opening_by h = opening_as (group_by h) (attack_by h)

-- where a script stands: before its header, in it, or behind it
pub data Progress : Type 0 where
  Before : Progress
  Heads : (h : ScriptHeader) → Progress
  Stands : (s : SceneOf Hostile) → Progress

-- its scene, once the header has begun: all clients have come in at one server
abbrev pub scene_in : Progress → Option (SceneOf Hostile)
scene_in Before = None
scene_in (Heads h) = Some (opening_by h)
scene_in (Stands s) = Some s

-- a script that was run: where it stands, if its header has begun; what its lines printed; and its first bad line, if there is one
pub record ScriptRun : Type 0 where
  -- where the lines lead, once the header has begun
  pub scene : Option (SceneOf Hostile)
  -- what the lines printed
  pub text : List ℕ
  -- the line that ended the run, if one did
  pub bad : Option Bad

abbrev pub run_to_bad_line : Progress → ℕ → ℕ → ScriptRun
run_to_bad_line place n k = record { scene = scene_in place; text = []; bad = Some (record { number = n; kind = k }) }

abbrev pub run_after_text : List ℕ → ScriptRun → ScriptRun
run_after_text text p = record { scene = p.scene; text = text ++ p.text; bad = p.bad }

-- what trying a line comes to: it is bad by some kind, or it leads on to a place and prints a text
pub data Trial : Type 0 where
  Fails : (kind : ℕ) → Trial
  Does : (place : Progress) (text : List ℕ) → Trial

abbrev pub trial_by : Option ℕ → PrintedSceneOf Hostile → Trial
trial_by (Some k) shown = Fails k
trial_by None shown = Does (Stands shown.scene) shown.text

-- a line is tried in a scene
abbrev pub trial_in_scene : SceneOf Hostile → Line → Trial
trial_in_scene s l = trial_by (bad_kind s l) (done_line by_kind s l)

-- a line is tried before the header: only its first line begins it
abbrev pub trial_before_header : Line → Trial
trial_before_header (line.Clients n) = Does (Heads (record { mode = mode.Plain; count = n; key = None; hostile = None })) []
trial_before_header (line.Objects n) = Does (Heads (record { mode = mode.Objects; count = n; key = None; hostile = None })) []
trial_before_header line.Skip = Does Before []
trial_before_header l = Fails 1

-- a line is tried in the header, which names one key at most, and behind it one kind of hostile servers at most; a line of another
-- kind ends it
abbrev pub trial_in_header : ScriptHeader → Line → Trial
trial_in_header h (line.Key digits) =
    if is_none h.key && is_none h.hostile then Does (Heads (record h { key = result_ok (decode_of digits) })) [] else Fails 1
trial_in_header h (line.Hostile name n) =
    if is_none h.hostile then Does (Heads (record h { hostile = option_map (λ k. record { kind = k; after = n }) (kind_named name) })) [] else Fails 1
trial_in_header h line.Skip = Does (Heads h) []
trial_in_header h l = trial_in_scene (opening_by h) l

-- a line is tried
abbrev pub trial_of_line : Progress → Option Line → Trial
trial_of_line place None = Fails 1
trial_of_line Before (Some l) = trial_before_header l
trial_of_line (Heads h) (Some l) = trial_in_header h l
trial_of_line (Stands s) (Some l) = trial_in_scene s l

-- the mode, once it is known
abbrev pub mode_in : Option (SceneOf Hostile) → Option Mode
mode_in None = None
mode_in (Some s) = Some s.group.mode

abbrev pub run_by_trial : ℕ → Progress → Trial → (Progress → ScriptRun) → ScriptRun
run_by_trial n place (Fails k) rest = run_to_bad_line place n k
run_by_trial n place (Does next text) rest = run_after_text text (rest next)

-- the place behind a line that begins behind so many bytes of a script; its own 0a, if it has one, belongs to it
abbrev pub line_end : ℕ → ℕ → List ℕ → ℕ
line_end total before text = min (before + length text + 1) total

-- where no line is left, and the next one would have this number: a script whose header never began is bad there
abbrev pub bad_end : ℕ → Progress → Option Bad
bad_end n Before = Some (record { number = n; kind = 1 })
bad_end n (Heads h) = None
bad_end n (Stands s) = None

-- the lines from line n on, which begin behind so many bytes. A line that reaches past the limit is bad by kind 7, before all
-- other kinds
unfoldable pub run_from : ℕ → ℕ → ℕ → Progress → List (List ℕ) → ScriptRun
run_from total before n place [] = record { scene = scene_in place; text = []; bad = bad_end n place }
run_from total before n place (text ∷ texts) =
    if nat_lt script_limit (line_end total before text) then run_to_bad_line place n 7
    else run_by_trial n place (trial_of_line place (line_of (mode_in (scene_in place)) text)) (λ next. run_from total (line_end total before text) (n + 1) next texts)

-- the run of a script; what stands behind the byte past the limit doesn't matter
unfoldable pub run_of : List ℕ → ScriptRun
run_of script = let known = take (script_limit + 1) script in run_from (length known) 0 1 Before (lines_of known)

-- ---- honest scripts

abbrev pub is_honest : Option Line → Bool
is_honest None = true
is_honest (Some l) = is_honest_line l

-- no line of a script tampers with what the one server answers
abbrev pub is_honest_script : List ℕ → Bool
is_honest_script script = list_all (λ text. is_honest (line_of (Some mode.Plain) text)) (lines_of (take (script_limit + 1) script))

-- ---- what a run tells

-- its group; before its header has begun, one that makes no step
abbrev pub group_in : Option (SceneOf Hostile) → Group
group_in None = plain_group 1
group_in (Some s) = s.group

abbrev pub history_in : Option (SceneOf Hostile) → List TraceStep
history_in None = []
history_in (Some s) = s.history

abbrev pub script_group : List ℕ → Group
script_group script = group_in (run_of script).scene

abbrev pub script_history : List ℕ → List TraceStep
script_history script = history_in (run_of script).scene

abbrev pub bad_line_of : List ℕ → Option Bad
bad_line_of script = (run_of script).bad
