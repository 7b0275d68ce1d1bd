-- The run of a script reaches its scene, and that of an honest script one of an honest run.
use Rattle.std.proofs.Common.{◌≡◌, ℕ, ◌+◌, ◌<◌, ◌≤◌, ◌^◌, true, List, length, take, Option, Some, None, refl, ap, subst, ◌∙◌, arith}
use Rattle.std.specs.List.{AllByRecursion}
use Rattle.std.proofs.lemmas.List.{length-take}
use Rattle.std.proofs.lemmas.Option.{same_Some}
use Rattle.vic_dict.specs.declared.op.Mode.TheVariants as mode
use Rattle.vic_wire.specs.Hashes.{Group, IsGroup}
use Rattle.vic_rules.specs.History.{IsLawful}
use Rattle.vic_rules.specs.Trust.{IsForged}
use Rattle.vic_honest.specs.SafeRuns.{AreApart}
use Rattle.vic_honest.specs.Claims.{IsHonestScene, HoldsAnyway}
use Rattle.vic_honest.proofs.Scenes.{honest_runs_hold, honest_runs_are_lawful}
use Rattle.vic_laws.proofs.EveryHistory.{every_history_holds}
use Rattle.vic_laws.proofs.Contents.{loads_get_the_last}
use Rattle.vic_laws.proofs.Words.{all_true}
use Rattle.vic_order.specs.Order.{Server, fresh_server, ready_member}
use Rattle.vic_order.specs.Honest.{scene_by_rule, ComesHonestly}
use Rattle.vic_attacks.specs.declared.HostileKind.TheVariants as kind
use Rattle.vic_attacks.specs.Hostile.{Hostile, hostile_from, by_kind}
use Rattle.vic_script.specs.declared.line.Line.{Line}
use Rattle.vic_script.specs.Lines.{lines_of, line_of}
use Rattle.vic_order.specs.Scenes.{SceneOf, server_at}
use Rattle.vic_script.specs.Scenes.{PrintedSceneOf, done_line, bad_kind, is_honest_line}
use Rattle.vic_script.specs.Run.{script_limit, Attack, no_attack, ScriptHeader, group_by, attack_by, opening_as, opening_by, Progress, Before, Heads, Stands, scene_in, ScriptRun, Trial, Fails, Does, trial_by, trial_in_scene, trial_of_line, mode_in, run_of, is_honest, is_honest_script, group_in, history_in, script_group, script_history}
use Rattle.vic_runs.specs.Claims.{FitsLine, RunsAreLawful, NothingIsForged, RunsAreHonest, ClaimsHold}
use Rattle.vic_runs.specs.Reached.{IsReached, GoesAs, IsHonestlyReached}
use Rattle.vic_script.proofs.Forged.{is_forged-none}
use Rattle.vic_runs.proofs.Lists.{all_each}
use Rattle.vic_runs.proofs.Words.{FitsIn, text_fits, in_each_mode}
use Rattle.vic_runs.proofs.Headers.{begun, keyed, turned, first_so, header_so, begun_is_group, keyed_is_group}
use Rattle.vic_runs.proofs.Reached.{reached-more, reached-opening, reached-lawful, reached-line}
use Rattle.vic_runs.proofs.Lines.{few_calls}
use Rattle.vic_runs.proofs.Kept.{goes_is_kept}
use Rattle.vic_runs.proofs.Honest.{honest-more, honest-opening, honest-line}
use Rattle.vic_runs.proofs.Plays.{AnyText, GoesSo, EachLine, claimed-run}

-- what is known of a script has at most as many bytes
pub length-taken : (n : ℕ) (bs : List ℕ) → length (take n bs) ≤ n
length-taken n bs = omega (arith, length-take n bs)

-- the scene is reached, if there is one
abbrev pub ReachedIn : Option (SceneOf Hostile) → ℕ → Type 0
ReachedIn None n = Unit {0}
ReachedIn (Some s) n = IsReached s n

-- ---- a line

-- a line that was tried is bad, or its scene is reached
abbrev pub TriedReaches : Trial → ℕ → Type 0
TriedReaches (Fails k) n = Unit {0}
TriedReaches (Does next text) n = ReachedIn (scene_in next) n

tried-by : (bad : Option ℕ) (shown : PrintedSceneOf Hostile) (n : ℕ) → (bad ≡ None → IsReached shown.scene n) → TriedReaches (trial_by bad shown) n
tried-by None shown n h = h refl
tried-by (Some k) shown n h = tt

tried-event : (s : SceneOf Hostile) (l : Line) (n : ℕ) → IsReached s n → n + 1 < 2 ^ 32 → FitsLine l → TriedReaches (trial_in_scene s l) (n + 1)
tried-event s l n h few fits = tried-by (bad_kind s l) (done_line by_kind s l) (n + 1) (λ good. reached-line s n l h (few_calls s n h.calls few l) good fits)

-- a group opens so, whatever its server does
pub opens_reached : (g : Group) (a : Attack) (n : ℕ) → IsGroup g → IsReached (opening_as g a) n
opens_reached g a n is = reached-more (opening_as g a) 0 n (omega arith) (reached-opening g a is)

-- a line that fits leads on to a scene that is reached, or is bad
pub tried : (place : Progress) (l : Option Line) (n : ℕ) → ReachedIn (scene_in place) n → n + 1 < 2 ^ 32 → FitsIn l → TriedReaches (trial_of_line place l) (n + 1)
tried Before None n r few fits = tt
tried Before (Some l) n r few fits =
    first_so (λ (x : Line) (t : Trial). FitsLine x → TriedReaches t (n + 1)) (λ count is. opens_reached (group_by (begun mode.Plain count)) no_attack (n + 1) (begun_is_group mode.Plain count is.0 is.1))
    (λ count is. opens_reached (group_by (begun mode.Objects count)) no_attack (n + 1) (begun_is_group mode.Objects count is.0 is.1)) (λ is. tt) (λ x is. tt) l fits
tried (Heads h) None n r few fits = tt
tried (Heads h) (Some l) n r few fits =
    header_so (λ (x : Line) (t : Trial). FitsLine x → TriedReaches t (n + 1)) h
    (λ digits is. opens_reached (group_by (keyed h digits)) (attack_by h) (n + 1) (keyed_is_group h digits r.lawful.group is)) (λ digits is. tt)
    (λ name k only is. opens_reached (group_by h) (attack_by (turned h name k)) (n + 1) r.lawful.group) (λ name k is. tt)
    (λ is. reached-more (opening_by h) n (n + 1) (omega arith) r) (λ x is. tried-event (opening_by h) x n r few is) l fits
tried (Stands s) None n r few fits = tt
tried (Stands s) (Some l) n r few fits = tried-event s l n r few fits

-- ---- all lines

-- where a script stands after n lines, and what its run leaves
abbrev pub StandsReached : ℕ → Progress → Type 0
StandsReached n place = ReachedIn (scene_in place) n

abbrev LeavesReached : Progress → ScriptRun → Type 0
LeavesReached place p = (m : ℕ) × ReachedIn p.scene m

goes : (n : ℕ) (place : Progress) (t : Trial) → ReachedIn (scene_in place) n → TriedReaches t (n + 1) → GoesSo AnyText StandsReached LeavesReached n place t
goes n place (Fails kind) h r = λ number. (n, h)
goes n place (Does next text) h r = (r, λ p claim. claim)

each_line : EachLine AnyText StandsReached LeavesReached
each_line = record {
  done = λ n number place h. (n, h);
  long = λ n number place h. (n, h);
  line = λ n place text h few good.
      let l : Option Line = line_of (mode_in (scene_in place)) text in
      goes n place (trial_of_line place l) h (tried place l n h few (text_fits (mode_in (scene_in place)) text));
}

-- a script reaches the scene that it leaves
pub reached-run : (script : List ℕ) → (n : ℕ) × ReachedIn (run_of script).scene n
reached-run script = claimed-run AnyText StandsReached LeavesReached each_line tt script (all_each AnyText (λ text. tt) (lines_of (take (script_limit + 1) script)))

-- ---- what each run is

-- a script whose header never began has made no step
lawful-in : (scene : Option (SceneOf Hostile)) (n : ℕ) → ReachedIn scene n → IsLawful (group_in scene) (history_in scene)
lawful-in None n h = record { group = record { count = (omega arith, omega arith); key = (omega arith, omega arith) }; steps = tt }
lawful-in (Some s) n h = reached-lawful s n h

pub all_lawful : RunsAreLawful
all_lawful script = let r = reached-run script in lawful-in (run_of script).scene r.0 r.1

pub all_hold : ClaimsHold
all_hold script =
    let lawful = all_lawful script in
    record { lawful = lawful; views = every_history_holds (script_group script) (script_history script) lawful; loads = loads_get_the_last (script_group script) (script_history script) lawful }

-- ---- honest scripts

-- the scene is one of clients with one honest server, if there is one
abbrev pub HonestIn : Option (SceneOf Hostile) → ℕ → Type 0
HonestIn None n = Unit {0}
HonestIn (Some s) n = IsHonestlyReached GoesAs s n

-- once a script has opened its lines are honest
abbrev pub HonestFor : Option (SceneOf Hostile) → Option Line → Type 0
HonestFor None l = Unit {0}
HonestFor (Some s) l = is_honest l ≡ true

-- a line that was tried is bad, or its scene is such a one
abbrev pub TriedHonest : Trial → ℕ → Type 0
TriedHonest (Fails k) n = Unit {0}
TriedHonest (Does next text) n = HonestIn (scene_in next) n

honest_tried-by : (bad : Option ℕ) (shown : PrintedSceneOf Hostile) (n : ℕ) → (bad ≡ None → IsHonestlyReached GoesAs shown.scene n) → TriedHonest (trial_by bad shown) n
honest_tried-by None shown n h = h refl
honest_tried-by (Some k) shown n h = tt

honest_tried-event : (s : SceneOf Hostile) (l : Line) (n : ℕ) → IsHonestlyReached GoesAs s n → n + 1 < 2 ^ 32 → FitsLine l → is_honest_line l ≡ true → TriedHonest (trial_in_scene s l) (n + 1)
honest_tried-event s l n h few fits honest =
    honest_tried-by (bad_kind s l) (done_line by_kind s l) (n + 1) (λ good. honest-line GoesAs by_kind goes_is_kept s n l h (few_calls s n h.calls few l) good fits honest)

-- a group opens so where its server doesn't misbehave
honest_opens : (g : Group) (a : Attack) (n : ℕ) → IsGroup g → a.kind ≡ kind.Honest → IsHonestlyReached GoesAs (opening_as g a) n
honest_opens g a n is none = honest-more GoesAs (opening_as g a) 0 n (omega arith) (honest-opening GoesAs g (hostile_from a.kind a.after (fresh_server g.mode g.count ready_member)) is (none, refl))

-- in a header with such an opening it doesn't
no_attack_in : (h : ScriptHeader) (n : ℕ) → IsHonestlyReached GoesAs (opening_by h) n → (attack_by h).kind ≡ kind.Honest
no_attack_in h n r =
    let g : Group = group_by h in
    let a : Attack = attack_by h in
    let own : hostile_from a.kind a.after (fresh_server g.mode g.count ready_member) ≡ r.comes.own = same_Some (hostile_from a.kind a.after (fresh_server g.mode g.count ready_member)) r.comes.own (ap (λ l. server_at l 1) r.comes.only) in
    ap (λ v. v.kind) own ∙ r.comes.same.0

-- an honest line that fits leads on to such a scene, or is bad
pub honest_tried : (place : Progress) (l : Option Line) (n : ℕ) → HonestIn (scene_in place) n → n + 1 < 2 ^ 32 → FitsIn l → HonestFor (scene_in place) l → TriedHonest (trial_of_line place l) (n + 1)
honest_tried Before None n r few fits honest = tt
honest_tried Before (Some l) n r few fits honest =
    first_so (λ (x : Line) (t : Trial). FitsLine x → TriedHonest t (n + 1)) (λ count is. honest_opens (group_by (begun mode.Plain count)) no_attack (n + 1) (begun_is_group mode.Plain count is.0 is.1) refl)
    (λ count is. honest_opens (group_by (begun mode.Objects count)) no_attack (n + 1) (begun_is_group mode.Objects count is.0 is.1) refl) (λ is. tt) (λ x is. tt) l fits
honest_tried (Heads h) None n r few fits honest = tt
honest_tried (Heads h) (Some l) n r few fits honest =
    header_so (λ (x : Line) (t : Trial). FitsLine x → is_honest_line x ≡ true → TriedHonest t (n + 1)) h
    (λ digits is so. honest_opens (group_by (keyed h digits)) (attack_by h) (n + 1) (keyed_is_group h digits r.comes.run.group is) (no_attack_in h n r)) (λ digits is so. tt)
    (λ name k only is so. absurd cc) (λ name k is so. tt)
    (λ is so. honest-more GoesAs (opening_by h) n (n + 1) (omega arith) r) (λ x is so. honest_tried-event (opening_by h) x n r few is so) l fits honest
honest_tried (Stands s) None n r few fits honest = tt
honest_tried (Stands s) (Some l) n r few fits honest = honest_tried-event s l n r few fits honest

-- a line of an honest script
abbrev pub IsHonestText : List ℕ → Type 0
IsHonestText text = is_honest (line_of (Some mode.Plain) text) ≡ true

-- it is honest in the mode that the script has
pub honest_for : (scene : Option (SceneOf Hostile)) (n : ℕ) (text : List ℕ) → HonestIn scene n → is_honest (line_of (Some mode.Plain) text) ≡ true → HonestFor scene (line_of (mode_in scene) text)
honest_for None n text h honest = tt
honest_for (Some s) n text h honest = in_each_mode s.group.mode text ∙ honest

-- each line of an honest script
pub honest-texts : (script : List ℕ) → is_honest_script script ≡ true → AllByRecursion IsHonestText (lines_of (take (script_limit + 1) script))
honest-texts script honest = all_true (λ text. is_honest (line_of (Some mode.Plain) text)) IsHonestText (λ text e. e) (lines_of (take (script_limit + 1) script)) honest

-- where an honest script stands after n lines, and what its run leaves
abbrev pub StandsHonest : ℕ → Progress → Type 0
StandsHonest n place = HonestIn (scene_in place) n

abbrev LeavesHonest : Progress → ScriptRun → Type 0
LeavesHonest place p = (m : ℕ) × HonestIn p.scene m

honest_goes : (n : ℕ) (place : Progress) (t : Trial) → HonestIn (scene_in place) n → TriedHonest t (n + 1) → GoesSo IsHonestText StandsHonest LeavesHonest n place t
honest_goes n place (Fails kind) h r = λ number. (n, h)
honest_goes n place (Does next text) h r = (r, λ p claim. claim)

each_honest_line : EachLine IsHonestText StandsHonest LeavesHonest
each_honest_line = record {
  done = λ n number place h. (n, h);
  long = λ n number place h. (n, h);
  line = λ n place text h few good.
      let l : Option Line = line_of (mode_in (scene_in place)) text in
      honest_goes n place (trial_of_line place l) h (honest_tried place l n h few (text_fits (mode_in (scene_in place)) text) (honest_for (scene_in place) n text h good));
}

-- an honest script reaches such a scene
pub honest-run : (script : List ℕ) → is_honest_script script ≡ true → (n : ℕ) × HonestIn (run_of script).scene n
honest-run script honest = claimed-run IsHonestText StandsHonest LeavesHonest each_honest_line tt script (honest-texts script honest)

-- ---- what each honest run is

-- what holds where honest events lead
pub holds_at : {V : Type 0} (R : V → Server → Type 0) (s : SceneOf V) (c : ComesHonestly R s) → AreApart s.group s.history → IsHonestScene s c.events c.server
holds_at R s c apart = honest_runs_hold (scene_by_rule s c.server) c.server c.events (record { honest = c.run; apart = apart })

-- and what holds there also where two contents have one hash
pub holds_anyway : {V : Type 0} (R : V → Server → Type 0) (s : SceneOf V) (c : ComesHonestly R s) → HoldsAnyway s.group s.history c.server
holds_anyway R s c = honest_runs_are_lawful (scene_by_rule s c.server) c.server c.events c.run

unforged-in : (scene : Option (SceneOf Hostile)) (n : ℕ) → HonestIn scene n → IsForged (group_in scene) (history_in scene) → ⊥
unforged-in None n h forged = forged
unforged-in (Some s) n h forged = (holds_anyway GoesAs s h.comes).unforged forged

pub none_forged : NothingIsForged
none_forged script honest =
    let r = honest-run script honest in
    let never : IsForged (script_group script) (script_history script) → ⊥ = unforged-in (run_of script).scene r.0 r.1 in
    (is_forged-none (script_group script) (script_history script) never, never)

honest-in : (scene : Option (SceneOf Hostile)) (n : ℕ) → HonestIn scene n → (s : SceneOf Hostile) → scene ≡ Some s → IsHonestlyReached GoesAs s n
honest-in scene n h s e = subst (λ o. HonestIn o n) e h

-- the run of an honest script leaves such a scene
pub run_is_reached : (script : List ℕ) → is_honest_script script ≡ true → (s : SceneOf Hostile) → (run_of script).scene ≡ Some s → (n : ℕ) × IsHonestlyReached GoesAs s n
run_is_reached script honest s e = let r = honest-run script honest in (r.0, honest-in (run_of script).scene r.0 r.1 s e)

pub all_honest : RunsAreHonest
all_honest script honest s e = (run_is_reached script honest s e).1.comes
