use Rattle.std.proofs.Common.{◌≡◌, ℕ, ◌+◌, List, length, sym, ap, ◌∙◌, arith}
use Rattle.std.proofs.lemmas.Bool.{eqb-true}
use Rattle.vic_script.specs.Lines.{lines_of}
use Rattle.vic_attacks.specs.Hostile.{Hostile}
use Rattle.vic_order.specs.Scenes.{SceneOf}
use Rattle.vic_script.specs.Run.{Stands, ScriptRun, run_after_text, run_from}
use Rattle.vic_group.specs.Playing.{scene_of, trial_at}
use Rattle.vic_group.proofs.Playing.{run_line, goes_on, leaves_stop, leaves_end, lines_none}
use Rattle.vic_group.proofs.play.run_on.Goals as goal

pub returns-in-Some : goal.returns-in-Some
returns-in-Some c =
    let total : ℕ = c.args.total in
    let n : ℕ = c.loop-rest.number in
    let s : SceneOf Hostile = scene_of c.loop-rest.world in
    let behind : ℕ = c.line_end-behind.result in
    let text : List ℕ = c.first_line.result.0.now in
    let others : List ℕ = c.first_line.result.1.now in
    let run : ScriptRun = run_from total c.args.place c.args.first (Stands (scene_of c.args.opened)) (lines_of c.args.lines.now) in
    let on = run_line run total c.loop-rest.before n behind (Stands s) c.loop-rest.out c.loop-rest.rest.now text others c.loop-rest.invariant.run c.first_line.ensures.lines c.line_end-behind.ensures in
    leaves_stop n run s (trial_at behind (Stands s) text) (λ next. run_from total behind (n + 1) next (lines_of others)) c.do_line.new.world c.into_transcript.result c.loop-rest.out c.do_line.new.out c.in-Some.bad
    on (rw (sym c.in-Some.is) c.in_ok-bad.ensures) c.into_transcript.ensures

pub loop-rest-preserved : goal.loop-rest-preserved
loop-rest-preserved c =
    let total : ℕ = c.args.total in
    let n : ℕ = c.loop-rest.number in
    let s : SceneOf Hostile = scene_of c.loop-rest.world in
    let behind : ℕ = c.line_end-behind.result in
    let text : List ℕ = c.first_line.result.0.now in
    let others : List ℕ = c.first_line.result.1.now in
    let run : ScriptRun = run_from total c.args.place c.args.first (Stands (scene_of c.args.opened)) (lines_of c.args.lines.now) in
    let on = run_line run total c.loop-rest.before n behind (Stands s) c.loop-rest.out c.loop-rest.rest.now text others c.loop-rest.invariant.run c.first_line.ensures.lines c.line_end-behind.ensures in
    let next = goes_on n run (Stands s) (trial_at behind (Stands s) text) (λ next. run_from total behind (n + 1) next (lines_of others)) s c.do_line.new.world c.loop-rest.out c.do_line.new.out on (rw (sym c.in-None.is) c.in_ok-bad.ensures) in
    record {
      shows = next.0.0;
      reached = next.0.1;
      place = omega (arith, c.line_end-behind.ensures);
      few = omega (arith, c.loop-rest.invariant.few, c.first_line.ensures.fewer);
      run = next.1;
    }

pub returns : goal.returns
returns c =
    let n : ℕ = c.loop-rest.number in
    let s : SceneOf Hostile = scene_of c.loop-rest.world in
    let run : ScriptRun = run_from c.args.total c.args.place c.args.first (Stands (scene_of c.args.opened)) (lines_of c.args.lines.now) in
    let none : length c.loop-rest.rest.now ≡ 0 = eqb-true _ 0 (sym c.is_empty.ensures ∙ c.loop-rest-test.false) in
    let end = c.loop-rest.invariant.run ∙ ap (λ (texts : List (List ℕ)). run_after_text c.loop-rest.out (run_from c.args.total c.loop-rest.before n (Stands s) texts)) (lines_none c.loop-rest.rest.now none) in
    leaves_end c.args.total c.loop-rest.before n run c.loop-rest.world c.loop-rest.out end c.loop-rest.invariant.shows
