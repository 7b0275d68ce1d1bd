use Rattle.std.proofs.Common.{◌≡◌, ◌≤◌, ℕ, ◌+◌, List, length, Option, sym, ap, subst, ◌∙◌, arith}
use Rattle.std.proofs.lemmas.Bool.{eqb-true}
use Rattle.vic_script.specs.declared.line.Line.{Line}
use Rattle.vic_script.specs.Lines.{lines_of, line_of}
use Rattle.vic_script.specs.Run.{script_limit, Progress, Before, scene_in, mode_in, line_end, run_to_bad_line, Fails, ScriptRun, run_from}
use Rattle.vic_group.specs.declared.header.Headed.{Headed}
use Rattle.vic_group.specs.declared.header.Headed.TheVariants as headed
use Rattle.vic_group.specs.Playing.{header_by, progress_by, Leads, ComesTo, trial_at}
use Rattle.vic_group.proofs.Playing.{heading_line, tried_long, tried_short, head_stops, head_goes, head_ends, opened_shows, opened_reached, lines_none, play_nil, if_ok-map}
use Rattle.vic_group.proofs.play.run_known.Goals as goal

pub returns-then-behind-gt-LONGEST_SCRIPT : goal.returns-then-behind-gt-LONGEST_SCRIPT
returns-then-behind-gt-LONGEST_SCRIPT c =
    let total : ℕ = length c.args.known.now in
    let n : ℕ = c.loop-rest.number in
    let place : Progress = progress_by c.loop-rest.header in
    let behind : ℕ = c.line_end-behind.result in
    let text : List ℕ = c.first_line.result.0.now in
    let others : List ℕ = c.first_line.result.1.now in
    let run : ScriptRun = run_from total 0 1 Before (lines_of c.args.known.now) in
    let on = heading_line run total c.loop-rest.before n behind place c.loop-rest.rest.now text others c.loop-rest.invariant.run c.first_line.ensures.lines c.line_end-behind.ensures in
    let stopped = head_stops run n c.number.result place (trial_at behind place text) (λ next. run_from total behind (n + 1) next (lines_of others)) on
    (tried_long behind place text (omega (arith, c.if-behind-gt-LONGEST_SCRIPT.true)) ∙ ap (λ (k : ℕ). Fails k) (sym c.number.ensures)) in
    if_ok-map c.unopened.result _ _ (λ r h. subst (λ (x : ScriptRun). ComesTo x r) (sym stopped) h) c.unopened.ensures

pub returns-in-Bad : goal.returns-in-Bad
returns-in-Bad c =
    let total : ℕ = length c.args.known.now in
    let n : ℕ = c.loop-rest.number in
    let place : Progress = progress_by c.loop-rest.header in
    let behind : ℕ = c.line_end-behind.result in
    let text : List ℕ = c.first_line.result.0.now in
    let others : List ℕ = c.first_line.result.1.now in
    let run : ScriptRun = run_from total 0 1 Before (lines_of c.args.known.now) in
    let spelled : Option Line = line_of (mode_in (scene_in place)) text in
    let on = heading_line run total c.loop-rest.before n behind place c.loop-rest.rest.now text others c.loop-rest.invariant.run c.first_line.ensures.lines c.line_end-behind.ensures in
    let leads : Leads place spelled (headed.Bad c.in-Bad.header c.in-Bad.kind) = subst (λ (h : Headed). Leads place spelled h) c.in-Bad.is c.in_ok-next.ensures in
    let within : behind ≤ script_limit = omega (arith, c.if-behind-gt-LONGEST_SCRIPT.false) in
    let stopped = head_stops run n c.in-Bad.kind place (trial_at behind place text) (λ next. run_from total behind (n + 1) next (lines_of others)) on (tried_short behind place text within ∙ leads.0)
    ∙ ap (λ (p : Progress). run_to_bad_line p n c.in-Bad.kind) leads.1.0 in
    if_ok-map c.unopened-in-Bad.result _ _ (λ r h. subst (λ (x : ScriptRun). ComesTo x r) (sym stopped) h) c.unopened-in-Bad.ensures

pub opened-requires : goal.opened-requires
opened-requires c =
    let place : Progress = progress_by c.loop-rest.header in
    let spelled : Option Line = line_of (mode_in (scene_in place)) c.first_line.result.0.now in
    let leads : Leads place spelled (headed.Ends c.in-Ends.header) = subst (λ (h : Headed). Leads place spelled h) c.in-Ends.is c.in_ok-next.ensures in
    leads.1.1

pub run_on-requires-clause-shows : goal.run_on-requires-clause-shows
run_on-requires-clause-shows c = opened_shows c.in_ok-world-in-Ends.world c.in-Ends.header c.in_ok-world-in-Ends.ensures

pub run_on-requires-clause-reached : goal.run_on-requires-clause-reached
run_on-requires-clause-reached c = opened_reached c.in_ok-world-in-Ends.world c.in-Ends.header c.loop-rest.number c.in_ok-world-in-Ends.ensures

pub returns-in-Ends : goal.returns-in-Ends
returns-in-Ends c =
    let total : ℕ = length c.args.known.now in
    let n : ℕ = c.loop-rest.number in
    let place : Progress = progress_by c.loop-rest.header in
    let text : List ℕ = c.first_line.result.0.now in
    let others : List ℕ = c.first_line.result.1.now in
    let run : ScriptRun = run_from total 0 1 Before (lines_of c.args.known.now) in
    let spelled : Option Line = line_of (mode_in (scene_in place)) text in
    let leads : Leads place spelled (headed.Ends c.in-Ends.header) = subst (λ (h : Headed). Leads place spelled h) c.in-Ends.is c.in_ok-next.ensures in
    let within : line_end total c.loop-rest.before text ≤ script_limit = omega (arith, c.line_end-behind.ensures, c.if-behind-gt-LONGEST_SCRIPT.false) in
    let on = head_ends run total c.loop-rest.before n place c.in-Ends.header c.in_ok-world-in-Ends.world c.loop-rest.rest.now text others c.loop-rest.invariant.run c.first_line.ensures.lines within leads c.in_ok-world-in-Ends.ensures in
    if_ok-map c.run_on.result _ _ (λ r h. subst (λ (x : ScriptRun). ComesTo x r) (sym on) h) c.run_on.ensures

pub loop-rest-preserved : goal.loop-rest-preserved
loop-rest-preserved c =
    let total : ℕ = length c.args.known.now in
    let n : ℕ = c.loop-rest.number in
    let place : Progress = progress_by c.loop-rest.header in
    let behind : ℕ = c.line_end-behind.result in
    let text : List ℕ = c.first_line.result.0.now in
    let others : List ℕ = c.first_line.result.1.now in
    let run : ScriptRun = run_from total 0 1 Before (lines_of c.args.known.now) in
    let spelled : Option Line = line_of (mode_in (scene_in place)) text in
    let on = heading_line run total c.loop-rest.before n behind place c.loop-rest.rest.now text others c.loop-rest.invariant.run c.first_line.ensures.lines c.line_end-behind.ensures in
    let leads : Leads place spelled (headed.Goes c.in-Goes.next) = subst (λ (h : Headed). Leads place spelled h) c.in-Goes.is c.in_ok-next.ensures in
    let within : behind ≤ script_limit = omega (arith, c.if-behind-gt-LONGEST_SCRIPT.false) in
    record {
      header = leads.1;
      place = omega (arith, c.line_end-behind.ensures);
      few = omega (arith, c.loop-rest.invariant.few, c.first_line.ensures.fewer);
      run = head_goes run n place (progress_by c.in-Goes.next) (trial_at behind place text) (λ next. run_from total behind (n + 1) next (lines_of others)) on (tried_short behind place text within ∙ leads.0);
    }

pub returns : goal.returns
returns c =
    let total : ℕ = length c.args.known.now in
    let n : ℕ = c.loop-rest.number in
    let place : Progress = progress_by c.loop-rest.header in
    let run : ScriptRun = run_from total 0 1 Before (lines_of c.args.known.now) in
    let none : length c.loop-rest.rest.now ≡ 0 = eqb-true _ 0 (sym c.is_empty.ensures ∙ c.loop-rest-test.false) in
    let end = c.loop-rest.invariant.run ∙ ap (λ (texts : List (List ℕ)). run_from total c.loop-rest.before n place texts) (lines_none c.loop-rest.rest.now none) ∙ play_nil total c.loop-rest.before n place in
    if_ok-map c.closed.result _ _ (λ r h. subst (λ (x : ScriptRun). ComesTo x r) (sym end) h) c.closed.ensures
