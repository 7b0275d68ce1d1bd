-- No line of an honest script is bad for that its client has halted.
use Rattle.std.proofs.Common.{◌≡◌, ℕ, ◌+◌, Bool, true, false, List, [], ◌∷◌, Option, Some, None, is_none, refl, ap, subst, arith}
use Rattle.vic_rules.specs.Client.{first_failing, awaits_nothing}
use Rattle.vic_order.specs.Order.{Server}
use Rattle.vic_attacks.specs.Hostile.{Hostile, by_kind}
use Rattle.vic_script.specs.declared.line.Line.{Line}
use Rattle.vic_script.specs.declared.line.Line.TheVariants as line
use Rattle.vic_script.specs.Lines.{line_of}
use Rattle.vic_order.specs.Scenes.{SceneOf, standing_in, is_client, waits_in}
use Rattle.vic_script.specs.Scenes.{PrintedSceneOf, done_line, is_plain_call, is_object_call, asked_tests, bad_kind, is_honest_line}
use Rattle.vic_script.specs.Run.{Bad, opening_by, Progress, Before, Heads, Stands, scene_in, ScriptRun, Trial, Fails, Does, trial_by, trial_in_scene, trial_of_line, mode_in, bad_end, run_of, is_honest_script, group_in, history_in, script_group, script_history}
use Rattle.vic_honest.specs.SafeRuns.{AreApart}
use Rattle.vic_runs.specs.Claims.{NoLineIsHalted}
use Rattle.vic_runs.specs.Reached.{GoesAs, IsHonestlyReached}
use Rattle.vic_runs.proofs.Words.{text_fits}
use Rattle.vic_runs.proofs.Headers.{first_so, header_so}
use Rattle.vic_runs.proofs.Tests.{client_is}
use Rattle.vic_runs.proofs.Plays.{GoesSo, EachLine, claimed-run}
use Rattle.vic_runs.proofs.Runs.{holds_at, HonestIn, HonestFor, TriedHonest, honest_tried, IsHonestText, honest_for, honest-texts, StandsHonest}

-- ---- tests

asked_three : (a b c : Bool) → (a ≡ true → b ≡ true) → first_failing ((2, a) ∷ (3, b) ∷ (4, c) ∷ []) ≡ Some 3 → ⊥
asked_three false b c h e = absurd cc
asked_three true false c h e = let other = h refl in absurd cc
asked_three true true false h e = absurd cc
asked_three true true true h e = absurd cc

queue_three : (a b : Bool) → first_failing ((2, a) ∷ (5, b) ∷ []) ≡ Some 3 → ⊥
queue_three false b e = absurd cc
queue_three true false e = absurd cc
queue_three true true e = absurd cc

one_three : (a : Bool) → first_failing ((2, a) ∷ []) ≡ Some 3 → ⊥
one_three false e = absurd cc
one_three true e = absurd cc

-- another test in front of tests
one_more : (a : Bool) (others : List (ℕ × Bool)) → (first_failing others ≡ Some 3 → ⊥) → first_failing ((1, a) ∷ others) ≡ Some 3 → ⊥
one_more false others h e = absurd cc
one_more true others h e = h e

module _ {V : Type 0} (R : V → Server → Type 0) (s : SceneOf V) (n : ℕ) (r : IsHonestlyReached R s n) (apart : AreApart s.group s.history) where
  goes_on : (i : ℕ) → is_client s i ≡ true → is_none (standing_in s i).halted ≡ true
  goes_on i e = let bounds = client_is s i e in ap is_none ((holds_at R s r.comes apart).goes_on.stands_so i bounds.0 bounds.1)

  asked_goes : (i : ℕ) → first_failing (asked_tests s i) ≡ Some 3 → ⊥
  asked_goes i e = asked_three (is_client s i) (is_none (standing_in s i).halted) (awaits_nothing (standing_in s i).awaiting) (goes_on i) e

  -- in a scene of an honest run no honest line fails that test
  pub never_three : (l : Line) → is_honest_line l ≡ true → bad_kind s l ≡ Some 3 → ⊥
  unfolding bad_kind
  never_three (line.Clients count) honest e = absurd cc
  never_three (line.Objects count) honest e = absurd cc
  never_three (line.Key digits) honest e = absurd cc
  never_three (line.Hostile name k) honest e = absurd cc
  never_three (line.Call i o) honest e = one_more (is_plain_call s o) (asked_tests s i) (asked_goes i) e
  never_three (line.Object i c) honest e = one_more (is_object_call s c) (asked_tests s i) (asked_goes i) e
  never_three (line.Poll i) honest e = asked_goes i e
  never_three (line.Sync i) honest e = asked_goes i e
  never_three (line.Serve i) honest e = queue_three (is_client s i) (waits_in s.up i) e
  never_three (line.Take i) honest e = queue_three (is_client s i) (waits_in s.down i) e
  never_three (line.Run i) honest e = one_three (is_client s i) e
  never_three (line.Give i payload) honest e = absurd cc
  never_three (line.Again i) honest e = absurd cc
  never_three (line.Flip i k) honest e = absurd cc
  never_three (line.Resend i) honest e = absurd cc
  never_three (line.Copy k t) honest e = absurd cc
  never_three (line.Move i k) honest e = absurd cc
  never_three line.Skip honest e = absurd cc

-- ---- lines

abbrev FailsOtherwise : Trial → Type 0
FailsOtherwise (Fails kind) = kind ≡ 3 → ⊥
FailsOtherwise (Does s text) = Unit {0}

fails_by : (bad : Option ℕ) (shown : PrintedSceneOf Hostile) → (bad ≡ Some 3 → ⊥) → FailsOtherwise (trial_by bad shown)
fails_by None shown h = tt
fails_by (Some k) shown h = λ e. h (ap (λ n. Some n) e)

-- the kind of a line that is none of the script
one_is_other : (n : ℕ) → n ≡ 1 → n ≡ 3 → ⊥
one_is_other n e f = omega (arith, e, f)

fails_event : (s : SceneOf Hostile) (l : Line) (n : ℕ) → IsHonestlyReached GoesAs s n → AreApart s.group s.history → is_honest_line l ≡ true → FailsOtherwise (trial_in_scene s l)
fails_event s l n h apart honest = fails_by (bad_kind s l) (done_line by_kind s l) (never_three GoesAs s n h apart l honest)

-- contents are apart where a script stands
abbrev ApartIn : Option (SceneOf Hostile) → Type 0
ApartIn scene = AreApart (group_in scene) (history_in scene)

fails : (place : Progress) (l : Option Line) (n : ℕ) → HonestIn (scene_in place) n → HonestFor (scene_in place) l → ApartIn (scene_in place) → FailsOtherwise (trial_of_line place l)
fails Before None n r honest apart = one_is_other 1 refl
fails Before (Some l) n r honest apart = first_so (λ (x : Line) (t : Trial). FailsOtherwise t) (λ count. tt) (λ count. tt) tt (λ x. one_is_other 1 refl) l
fails (Heads h) None n r honest apart = one_is_other 1 refl
fails (Heads h) (Some l) n r honest apart =
    header_so (λ (x : Line) (t : Trial). is_honest_line x ≡ true → FailsOtherwise t) h (λ digits so. tt) (λ digits so. one_is_other 1 refl) (λ name k only so. tt) (λ name k so. one_is_other 1 refl) (λ so. tt)
    (λ x so. fails_event (opening_by h) x n r apart so) l honest
fails (Stands s) None n r honest apart = one_is_other 1 refl
fails (Stands s) (Some l) n r honest apart = fails_event s l n r apart honest

-- ---- all lines

abbrev IsOtherwise : Option Bad → Type 0
IsOtherwise None = Unit {0}
IsOtherwise (Some b) = b.kind ≡ 3 → ⊥

abbrev LeavesOtherwise : Progress → ScriptRun → Type 0
LeavesOtherwise place p = ApartIn p.scene → IsOtherwise p.bad

ends_otherwise : (number : ℕ) (place : Progress) → IsOtherwise (bad_end number place)
ends_otherwise number Before = one_is_other 1 refl
ends_otherwise number (Heads h) = tt
ends_otherwise number (Stands s) = tt

goes : (n : ℕ) (place : Progress) (t : Trial) → TriedHonest t (n + 1) → (ApartIn (scene_in place) → FailsOtherwise t) → GoesSo IsHonestText StandsHonest LeavesOtherwise n place t
goes n place (Fails kind) r h = λ number. h
goes n place (Does next text) r h = (r, λ p claim. claim)

each_line : EachLine IsHonestText StandsHonest LeavesOtherwise
each_line = record {
  done = λ n number place h apart. ends_otherwise number place;
  long = λ n number place h apart. λ e. absurd (omega (arith, e));
  line = λ n place text h few good.
      let l : Option Line = line_of (mode_in (scene_in place)) text in
      let honest : HonestFor (scene_in place) l = honest_for (scene_in place) n text h good in
      goes n place (trial_of_line place l) (honest_tried place l n h few (text_fits (mode_in (scene_in place)) text) honest) (fails place l n h honest);
}

bad-run : (script : List ℕ) → is_honest_script script ≡ true → AreApart (script_group script) (script_history script) → IsOtherwise (run_of script).bad
bad-run script honest = claimed-run IsHonestText StandsHonest LeavesOtherwise each_line tt script (honest-texts script honest)

pub none_for_halting : NoLineIsHalted
none_for_halting script honest apart b is = subst IsOtherwise is (bad-run script honest apart)
