-- What each line of a script keeps, its run keeps.
use Rattle.std.proofs.Common.{ℕ, ◌+◌, ◌<◌, ◌^◌, Bool, true, false, List, [], ◌∷◌, length, take, arith}
use Rattle.std.specs.Prelude.{if◌then◌else◌, nat_lt}
use Rattle.std.specs.List.{AllByRecursion}
use Rattle.std.proofs.lemmas.List.{length-take}
use Rattle.vic_script.specs.Lines.{lines_of, line_of}
use Rattle.vic_script.specs.Run.{script_limit, Progress, Before, scene_in, ScriptRun, run_to_bad_line, run_after_text, Trial, Fails, Does, trial_of_line, mode_in, run_by_trial, line_end, bad_end, run_from, run_of}
use Rattle.vic_script.proofs.Lines.{length-lines_of}

-- nothing is asked of a line's text
abbrev pub AnyText : List ℕ → Type 0
AnyText text = Unit {0}

-- what is good of each line's text, what holds where a script stands after so many lines, and what is claimed of a run from there
module _ (Good : List ℕ → Type 0) (At : ℕ → Progress → Type 0) (Claimed : Progress → ScriptRun → Type 0) where
  -- of a line that was tried after n others: what is claimed of a run that it ends, or how it leads on
  abbrev pub GoesSo : ℕ → Progress → Trial → Type 0
  GoesSo n place (Fails kind) = (number : ℕ) → Claimed place (run_to_bad_line place number kind)
  GoesSo n place (Does next text) = At (n + 1) next × ((p : ScriptRun) → Claimed next p → Claimed place (run_after_text text p))

  -- what is claimed is so of each run that a line ends or that has no line left, and each line leads on
  pub record EachLine : Type 0 where
    pub done : (n number : ℕ) (place : Progress) → At n place → Claimed place (record { scene = scene_in place; text = []; bad = bad_end number place })
    pub long : (n number : ℕ) (place : Progress) → At n place → Claimed place (run_to_bad_line place number 7)
    pub line : (n : ℕ) (place : Progress) (text : List ℕ) → At n place → n + 1 < 2 ^ 32 → Good text → GoesSo n place (trial_of_line place (line_of (mode_in (scene_in place)) text))

  claimed-either : (place : Progress) (b : Bool) (x y : ScriptRun) → Claimed place x → Claimed place y → Claimed place (if b then x else y)
  claimed-either place true x y h k = h
  claimed-either place false x y h k = k

  claimed-followed : (number n : ℕ) (place : Progress) (t : Trial) (rest : Progress → ScriptRun) → GoesSo n place t → ((next : Progress) → At (n + 1) next → Claimed next (rest next)) → Claimed place (run_by_trial number place t rest)
  claimed-followed number n place (Fails kind) rest h each = h number
  claimed-followed number n place (Does next text) rest h each = h.1 (rest next) (each next h.0)

  claimed-run_from : EachLine → (total before number n : ℕ) (place : Progress) (texts : List (List ℕ)) → At n place → n + length texts < 2 ^ 32 → AllByRecursion Good texts → Claimed place (run_from total before number place texts)
  unfolding run_from
  claimed-run_from e total before number n place [] h few good = e.done n number place h
  claimed-run_from e total before number n place (text ∷ texts) h few good =
      let behind : ℕ = line_end total before text in
      let rest : Progress → ScriptRun = λ next. run_from total behind (number + 1) next texts in
      let t : Trial = trial_of_line place (line_of (mode_in (scene_in place)) text) in
      claimed-either place (nat_lt script_limit behind) (run_to_bad_line place number 7) (run_by_trial number place t rest) (e.long n number place h)
      (claimed-followed number n place t rest (e.line n place text h (omega (arith, few)) good.0)
      (λ next r. claimed-run_from e total behind (number + 1) (n + 1) next texts r (omega (arith, few)) good.1))

  -- what is claimed is so of the run of a script
  pub claimed-run : EachLine → At 0 Before → (script : List ℕ) → AllByRecursion Good (lines_of (take (script_limit + 1) script)) → Claimed Before (run_of script)
  unfolding run_of
  claimed-run e start script good =
      let known : List ℕ = take (script_limit + 1) script in
      claimed-run_from e (length known) 0 1 0 Before (lines_of known) start (omega (arith, length-take (script_limit + 1) script, length-lines_of known)) good
