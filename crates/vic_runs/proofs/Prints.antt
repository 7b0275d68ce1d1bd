-- What the lines of a script print is what its steps returned.
use Rattle.std.proofs.Common.{◌≡◌, ℕ, ◌+◌, ◌<◌, ◌^◌, List, [], ◌∷◌, ◌++◌, take, Option, Some, None, refl, sym, ap, ◌∙◌}
use Rattle.std.specs.Prelude.{reverse}
use Rattle.std.specs.List.{flat_map}
use Rattle.std.proofs.lemmas.List.{append-nil, append_assoc, flat_map_more, reverse-append}
use Rattle.vic_rules.specs.declared.trace.Input.{Input}
use Rattle.vic_rules.specs.declared.trace.Input.TheVariants as input
use Rattle.vic_rules.specs.declared.trace.TraceStep.{TraceStep}
use Rattle.vic_order.specs.Serving.{Serving}
use Rattle.vic_attacks.specs.Hostile.{Hostile, by_kind}
use Rattle.vic_script.specs.declared.line.Line.{Line}
use Rattle.vic_script.specs.Lines.{lines_of, line_of}
use Rattle.vic_order.specs.Scenes.{Queue, SceneOf, queue_of, set_queue, server_at, server_of, after_step, after_serving_from, after_serving, after_taking_from, after_taking, payload_as_is, payload_with_flip, Event, Asks, Serves, Takes, Flips, Hears, Resends, Copies, Joins, after_event, after_events, MayAsk, MayHappen, MayAllHappen}
use Rattle.vic_script.specs.Scenes.{returned_in, object_in, print_of_outcomes, print_of_event, print_of_events, PrintedSceneOf, events_of, done_line, bad_kind}
use Rattle.vic_script.specs.Run.{script_limit, opening_by, Progress, Before, Heads, Stands, scene_in, ScriptRun, Trial, Fails, Does, trial_by, trial_in_scene, trial_of_line, mode_in, history_in}
use Rattle.vic_runs.specs.Claims.{FitsLine, line_of_step, PrintsAreReturns}
use Rattle.vic_runs.specs.Reached.{IsReached}
use Rattle.vic_runs.proofs.Lists.{all_each}
use Rattle.vic_runs.proofs.Scenes.{step_by}
use Rattle.vic_runs.proofs.Words.{FitsIn, text_fits}
use Rattle.vic_runs.proofs.Headers.{first_so, header_so}
use Rattle.vic_runs.proofs.Reached.{reached-seated}
use Rattle.vic_runs.proofs.Lines.{few_calls, line-may}
use Rattle.vic_runs.proofs.Runs.{ReachedIn, TriedReaches, tried, StandsReached}
use Rattle.vic_runs.proofs.Plays.{AnyText, GoesSo, EachLine, claimed-run}

-- what the steps of a history tell, the oldest first
abbrev pub told : List TraceStep → List ℕ
told h = flat_map line_of_step (reverse h)

-- a step tells its line behind those of the steps before it
told-next : (x : TraceStep) (past : List TraceStep) → told (x ∷ past) ≡ told past ++ line_of_step x
told-next x past = ap (flat_map line_of_step) (reverse-append (x ∷ []) past) ∙ sym (flat_map_more line_of_step [] (reverse past) x)

module _ {V : Type 0} (rule : Serving V) where
  -- what an event prints is what its step tells, if it makes one
  abbrev IsTold : SceneOf V → Event → Type 0
  IsTold s m = told (after_event rule s m).history ≡ told s.history ++ print_of_event m (after_event rule s m).history

  told-same : (s : SceneOf V) → told s.history ≡ told s.history ++ []
  told-same s = sym (append-nil (told s.history))

  -- a client is asked for something
  told-asked : (s : SceneOf V) (i : ℕ) (given : Input) → MayAsk s i given → told (after_step s i given).history ≡ told s.history ++ []
  unfolding after_step
  told-asked s i (input.Call o) may = told-next (step_by s.group i (input.Call o) s.history) s.history
  told-asked s i (input.Object c) may = told-next (step_by s.group i (input.Object c) s.history) s.history
  told-asked s i input.Poll may = told-next (step_by s.group i input.Poll s.history) s.history
  told-asked s i input.Sync may = told-next (step_by s.group i input.Sync s.history) s.history
  told-asked s i (input.Payload payload) may = absurd may

  -- a client takes a payload
  told-heard : (s : SceneOf V) (i : ℕ) (payload : List ℕ) → told (after_step s i (input.Payload payload)).history ≡ told s.history ++ print_of_outcomes i (returned_in (after_step s i (input.Payload payload)).history) (object_in (after_step s i (input.Payload payload)).history)
  unfolding after_step
  told-heard s i payload = told-next (step_by s.group i (input.Payload payload) s.history) s.history

  told-after_serving_from : (s : SceneOf V) (i : ℕ) (queue : Queue) (server : Option V) → told (after_serving_from rule s i queue server).history ≡ told s.history ++ []
  told-after_serving_from s i [] server = told-same s
  told-after_serving_from s i (payload ∷ rest) None = told-same s
  told-after_serving_from s i (payload ∷ rest) (Some server) = told-same s

  told-after_serving : (s : SceneOf V) (i : ℕ) → told (after_serving rule s i).history ≡ told s.history ++ []
  unfolding after_serving
  told-after_serving s i = told-after_serving_from s i (queue_of s.up i) (server_at s.servers (server_of s.served_by i))

  -- a client takes an answer that waits
  told-after_taking_from : (change : List ℕ → List ℕ) (s : SceneOf V) (i : ℕ) (queue : Queue) → (queue ≡ [] → ⊥) → told (after_taking_from change s i queue).history ≡ told s.history ++ print_of_outcomes i (returned_in (after_taking_from change s i queue).history) (object_in (after_taking_from change s i queue).history)
  told-after_taking_from change s i [] waits = absurd (waits refl)
  told-after_taking_from change s i (payload ∷ rest) waits = told-heard (record s { down = set_queue s.down i rest }) i (change payload)

  told-after_taking : (change : List ℕ → List ℕ) (s : SceneOf V) (i : ℕ) → (queue_of s.down i ≡ [] → ⊥) → told (after_taking change s i).history ≡ told s.history ++ print_of_outcomes i (returned_in (after_taking change s i).history) (object_in (after_taking change s i).history)
  unfolding after_taking
  told-after_taking change s i waits = told-after_taking_from change s i (queue_of s.down i) waits

  told-after_event : (s : SceneOf V) (m : Event) → MayHappen s m → IsTold s m
  told-after_event s (Asks i given) may = told-asked s i given may.2
  told-after_event s (Serves i) may = told-after_serving s i
  told-after_event s (Takes i) may = told-after_taking payload_as_is s i may.2
  told-after_event s (Flips i n) may = told-after_taking (payload_with_flip n) s i may.2
  told-after_event s (Hears i payload) may = told-heard s i payload
  told-after_event s (Resends i) may = told-same s
  told-after_event s (Copies n t) may = told-same s
  told-after_event s (Joins i n) may = told-same s

  -- what events print is what their steps tell
  pub told-after : (s : SceneOf V) (events : List Event) → MayAllHappen rule s events → told (after_events rule s events).history ≡ told s.history ++ print_of_events rule s events
  told-after s [] may = told-same s
  told-after s (m ∷ before) may =
      told-after_event (after_events rule s before) m may.1 ∙ ap (λ front. front ++ print_of_event m (after_event rule (after_events rule s before) m).history) (told-after s before may.0)
      ∙ append_assoc (told s.history) (print_of_events rule s before) (print_of_event m (after_event rule (after_events rule s before) m).history)

-- ---- a line that was tried

-- what a line that was tried in a scene leads on to
abbrev TriedTells : Option (SceneOf Hostile) → Trial → Type 0
TriedTells scene (Fails k) = Unit {0}
TriedTells scene (Does next text) = told (history_in (scene_in next)) ≡ told (history_in scene) ++ text

tells-by : (s : SceneOf Hostile) (bad : Option ℕ) (shown : PrintedSceneOf Hostile) → (bad ≡ None → told shown.scene.history ≡ told s.history ++ shown.text) → TriedTells (Some s) (trial_by bad shown)
tells-by s None shown h = h refl
tells-by s (Some k) shown h = tt

tells-event : (s : SceneOf Hostile) (l : Line) (n : ℕ) → IsReached s n → n + 1 < 2 ^ 32 → FitsLine l → TriedTells (Some s) (trial_in_scene s l)
tells-event s l n h few fits =
    tells-by s (bad_kind s l) (done_line by_kind s l) (λ good.
    told-after by_kind s (events_of by_kind s l) (line-may by_kind s l (reached-seated s n h) h.lawful (few_calls s n h.calls few l) good fits))

tells : (place : Progress) (l : Option Line) (n : ℕ) → ReachedIn (scene_in place) n → n + 1 < 2 ^ 32 → FitsIn l → TriedTells (scene_in place) (trial_of_line place l)
tells Before None n r few fits = tt
tells Before (Some l) n r few fits = first_so (λ (x : Line) (t : Trial). TriedTells None t) (λ count. refl) (λ count. refl) refl (λ x. tt) l
tells (Heads h) None n r few fits = tt
tells (Heads h) (Some l) n r few fits =
    header_so (λ (x : Line) (t : Trial). FitsLine x → TriedTells (Some (opening_by h)) t) h (λ digits is. refl) (λ digits is. tt) (λ name k only is. refl) (λ name k is. tt) (λ is. refl)
    (λ x is. tells-event (opening_by h) x n r few is) l fits
tells (Stands s) None n r few fits = tt
tells (Stands s) (Some l) n r few fits = tells-event s l n r few fits

-- ---- all lines

-- what was printed from a place on is what the steps since then tell
abbrev PlayedTells : Progress → ScriptRun → Type 0
PlayedTells place p = told (history_in p.scene) ≡ told (history_in (scene_in place)) ++ p.text

nothing_told : (scene : Option (SceneOf Hostile)) → told (history_in scene) ≡ told (history_in scene) ++ []
nothing_told scene = sym (append-nil (told (history_in scene)))

goes : (n : ℕ) (place : Progress) (t : Trial) → TriedReaches t (n + 1) → TriedTells (scene_in place) t → GoesSo AnyText StandsReached PlayedTells n place t
goes n place (Fails kind) h r = λ number. nothing_told (scene_in place)
goes n place (Does next text) h r = (h, λ p later. later ∙ ap (λ front. front ++ p.text) r ∙ append_assoc (told (history_in (scene_in place))) text p.text)

each_line : EachLine AnyText StandsReached PlayedTells
each_line = record {
  done = λ n number place h. nothing_told (scene_in place);
  long = λ n number place h. nothing_told (scene_in place);
  line = λ n place text h few good.
      let l : Option Line = line_of (mode_in (scene_in place)) text in
      let fits : FitsIn l = text_fits (mode_in (scene_in place)) text in
      goes n place (trial_of_line place l) (tried place l n h few fits) (tells place l n h few fits);
}

pub prints_returns : PrintsAreReturns
prints_returns script = sym (claimed-run AnyText StandsReached PlayedTells each_line tt script (all_each AnyText (λ text. tt) (lines_of (take (script_limit + 1) script))))
