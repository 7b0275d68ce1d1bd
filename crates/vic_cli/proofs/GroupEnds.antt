-- From what was read and run to how the command ends.
use Rattle.std.proofs.Common.{◌≡◌, ℕ, ◌<◌, ◌⊎◌, Bool, true, false, List, ◌++◌, length, Option, Some, None, inl, inr, refl, sym, ap, subst, ◌∙◌}
use Rattle.std.specs.Prelude.{IfSome, IsSome}
use Rattle.vic_ports.specs.Causes.{Rose, LeavesBehind}
use Rattle.vic_ports.specs.Written.{AppendedAll}
use Rattle.vic_script.specs.Run.{script_limit, Bad, ScriptRun, run_of, is_honest_script, bad_line_of, group_in, history_in, script_group, script_history}
use Rattle.vic_script.specs.Print.{print_of, print_of_script, is_forged, all_views, all_agreements, tags_line, end_text}
use Rattle.vic_wire.specs.Hashes.{Group}
use Rattle.vic_rules.specs.declared.trace.TraceStep.{TraceStep}
use Rattle.vic_rules.specs.History.{IsLawful, AreSteps}
use Rattle.vic_rules.specs.Headline.{Headline}
use Rattle.vic_laws.proofs.Asked.{calls_are_asked, asked_are_called}
use Rattle.vic_laws.proofs.EveryHistory.{every_history_holds}
use Rattle.vic_laws.proofs.Standings.{earlier_steps}
use Rattle.vic_laws.proofs.Agreement.{completed_once, views_agree, views_show_only_calls}
use Rattle.vic_laws.proofs.AnswersStand.{answers_stand}
use Rattle.vic_laws.proofs.Blocking.{aborted_by_conflict}
use Rattle.vic_laws.proofs.SealedAnswers.{sealed_answers_stand}
use Rattle.vic_laws.proofs.Complete.{views_complete}
use Rattle.vic_laws.proofs.Decisions.{done_meets_no_conflict}
use Rattle.vic_laws.proofs.Paths.{hashes_tell_paths}
use Rattle.vic_laws.proofs.RealTime.{views_in_order}
use Rattle.vic_laws.proofs.SealsHeld.{seals_hold}
use Rattle.vic_runs.proofs.Agreed.{agreements_reach}
use Rattle.vic_script.proofs.Forged.{is_forged-Decides}
use Rattle.vic_runs.specs.Reached.{GoesAs}
use Rattle.vic_script_runs.proofs.Leading.{scripts_come}
use Rattle.vic_script_runs.proofs.Honest.{honest_runs}
use Rattle.vic_runs.proofs.Runs.{all_hold, holds_at, holds_anyway, none_forged}
use Rattle.vic_runs.proofs.Halted.{none_for_halting}
use Rattle.vic_runs.proofs.Prints.{prints_returns}
use Rattle.vic_group.specs.declared.play.End.{End}
use Rattle.vic_group.specs.declared.play.End.TheVariants as end
use Rattle.vic_group.specs.Playing.{end_by, end_of}
use Rattle.vic_group.proofs.Spans.{run-front, long-bad}
use Rattle.vic_text.specs.declared.status.Status.{Status}
use Rattle.vic_text.specs.declared.status.Status.TheVariants as status
use Rattle.vic_text.specs.Statuses.{usage_line, read_fault_line, no_memory_line}
use Rattle.vic_cli.specs.Output.{Taken, Given, IsReadWhole, IsReadPast, WroteAll}
use Rattle.vic_cli.specs.Command.{Plans, Ends, IsComplete}
use Rattle.vic_cli.specs.GroupEnds.{IsDone, HasBad, IsPrint, Causes, group_command, status_of, run_status, TellsRun, IsHonest, IsAsClaimed}
use Rattle.vic_cli.proofs.Command.{known_of, complete_of}

-- ---- what was read, and the script

-- what was read past the limit is a front of the script, and all that matters of it
pub if_past : (P : ScriptRun → Type 0) (bytes : List ℕ) (old new : Option (List ℕ)) → script_limit < length bytes → LeavesBehind bytes old new → P (run_of bytes) → IfSome old (λ script. P (run_of script))
if_past P bytes None new more left p = tt
if_past P bytes (Some script) new more left p = subst P (sym (ap run_of left.2 ∙ run-front bytes left.0 more)) p

-- ---- what is planned

-- what is told of a source is the script
if_told : (old : Option (List ℕ)) (script : List ℕ) (P : List ℕ → Type 0) → ((other : List ℕ) → old ≡ Some other → other ≡ script) → P script → IfSome old P
if_told None script P same p = tt
if_told (Some other) script P same p = subst P (sym (same other refl)) p

-- where a run ends so, its status is this
pub tells_run : (script text : List ℕ) (e : End) (s : Status) → e ≡ end_of (run_of script) → text ≡ print_of_script script
    → (e ≡ end.Whole → s ≡ status.Ok) → (e ≡ end.Forged → s ≡ status.TagsNotMade) → (e ≡ end.Bad → s ≡ status.BadLine) → TellsRun script s text
tells_run script text e s is prints whole forged bad = inl (by_end (bad_line_of script) refl (is_forged (script_group script) (script_history script)) refl, prints)
  where
    ends_by : (b : Option Bad) (f : Bool) → bad_line_of script ≡ b → is_forged (script_group script) (script_history script) ≡ f → e ≡ end_by b f
    ends_by b f at test = is ∙ ap (λ (o : Option Bad). end_by o (is_forged (script_group script) (script_history script))) at ∙ ap (end_by b) test

    status_by : (b : Option Bad) (f : Bool) → bad_line_of script ≡ b → is_forged (script_group script) (script_history script) ≡ f → run_status script ≡ status_of b f
    status_by b f at test = ap (λ (o : Option Bad). status_of o (is_forged (script_group script) (script_history script))) at ∙ ap (status_of b) test

    by_end : (b : Option Bad) → bad_line_of script ≡ b → (f : Bool) → is_forged (script_group script) (script_history script) ≡ f → s ≡ run_status script
    by_end (Some b) at f test = bad (ends_by (Some b) f at test) ∙ sym (status_by (Some b) f at test)
    by_end None at false test = whole (ends_by None false at test) ∙ sym (status_by None false at test)
    by_end None at true test = forged (ends_by None true at test) ∙ sym (status_by None true at test)

some_bad : (o : Option Bad) (b : Bad) → o ≡ Some b → IsSome o
some_bad o b e = subst (λ (x : Option Bad). IsSome x) (sym e) refl

-- what was read past the limit is a front of the script, and all that matters of it
pub plans_past : (t : Taken) (bytes text : List ℕ) (s : Status) → LeavesBehind bytes t.old t.new → script_limit < length bytes → t.now ≡ t.before → TellsRun bytes s text → Plans (group_command true t) s text
plans_past t bytes text s left more quiet tells = by_telling tells
  where
    bad_there : IsSome (run_of bytes).bad
    bad_there = long-bad bytes more

    is_bad : (o : Option Bad) (f : Bool) → IsSome o → status_of o f ≡ status.BadLine
    is_bad None f some = absurd cc
    is_bad (Some b) f some = refl

    by_telling : TellsRun bytes s text → Plans (group_command true t) s text
    by_telling (inl c) =
        let is : s ≡ status.BadLine = c.0 ∙ is_bad (bad_line_of bytes) (is_forged (script_group bytes) (script_history bytes)) bad_there in
        let print : IsPrint t HasBad text = if_past (λ (p : ScriptRun). IsSome p.bad × (text ≡ print_of p)) bytes t.old t.new more left (bad_there, c.1) in
        subst (λ (x : Status). Plans (group_command true t) x text) (sym is) (refl, (inr (quiet, (bytes, (more, left))), print))
    by_telling (inr c) = subst (λ (x : Status). Plans (group_command true t) x text) (sym c.0) ((refl, quiet), c.1)

-- a run that was read whole
pub plans_whole : (t : Taken) (script text : List ℕ) (s : Status) → IsReadWhole t → ((other : List ℕ) → t.old ≡ Some other → other ≡ script) → TellsRun script s text → Plans (group_command true t) s text
plans_whole t script text s whole same (inr c) = subst (λ (x : Status). Plans (group_command true t) x text) (sym c.0) ((refl, whole.0), c.1)
plans_whole t script text s whole same (inl c) = by_run (bad_line_of script) refl (is_forged (script_group script) (script_history script)) refl
  where
    is : (b : Option Bad) (f : Bool) → bad_line_of script ≡ b → is_forged (script_group script) (script_history script) ≡ f → s ≡ status_of b f
    is b f at test = c.0 ∙ ap (λ (o : Option Bad). status_of o (is_forged (script_group script) (script_history script))) at ∙ ap (status_of b) test

    print : (Holds : List ℕ → Type 0) → Holds script → IsPrint t Holds text
    print Holds here = if_told t.old script (λ (l : List ℕ). Holds l × (text ≡ print_of_script l)) same (here, c.1)

    by_run : (b : Option Bad) → bad_line_of script ≡ b → (f : Bool) → is_forged (script_group script) (script_history script) ≡ f → Plans (group_command true t) s text
    by_run (Some b) at f test = subst (λ (x : Status). Plans (group_command true t) x text) (sym (is (Some b) f at test)) (refl, (inl whole, print HasBad (some_bad (bad_line_of script) b at)))
    by_run None at false test = subst (λ (x : Status). Plans (group_command true t) x text) (sym (is None false at test)) (refl, (whole, print (IsDone false) (at, test)))
    by_run None at true test = subst (λ (x : Status). Plans (group_command true t) x text) (sym (is None true at test)) (refl, (whole, print (IsDone true) (at, test)))

-- ---- where nothing went wrong

-- a script that is told has what holds of it
told_of : (t : Taken) (Holds : List ℕ → Type 0) (text script : List ℕ) → t.old ≡ Some script → IsPrint t Holds text → Holds script
told_of t Holds text script told p =
    let here : Holds script × (text ≡ print_of_script script) = subst (λ (o : Option (List ℕ)). IfSome o (λ s. Holds s × (text ≡ print_of_script s))) told p in
    here.0

status_done : (script : List ℕ) (forged : Bool) → IsDone forged script → run_status script ≡ status_of None forged
status_done script forged done = ap (λ (o : Option Bad). status_of o (is_forged (script_group script) (script_history script))) done.0 ∙ ap (status_of None) done.1

status_bad : (o : Option Bad) (f : Bool) → IsSome o → status_of o f ≡ status.BadLine
status_bad None f some = absurd cc
status_bad (Some b) f some = refl

-- each status but that of the script's run has a cause that is ruled out
rules_out : (right : Bool) (t : Taken) (planned s : Status) (text : List ℕ) → Causes right t planned text → right ≡ true → (group_command right t).due s → (planned ≡ s) ⊎ (planned ≡ status.NoMemory)
rules_out right t status.Ok s text c is due = inl (sym (due.1.1.1 ∙ status_done due.1.0 false (told_of t (IsDone false) text due.1.0 due.1.1.0 c.1)))
rules_out right t status.TagsNotMade s text c is due = inl (sym (due.1.1.1 ∙ status_done due.1.0 true (told_of t (IsDone true) text due.1.0 due.1.1.0 c.1)))
rules_out right t status.ReadFault s text c is due = absurd (due.0 c.0)
rules_out right t status.BadLine s text c is due = inl (sym (due.1.1.1 ∙ status_bad (bad_line_of due.1.0) (is_forged (script_group due.1.0) (script_history due.1.0)) (told_of t HasBad text due.1.0 due.1.1.0 c.1)))
rules_out right t status.NoMemory s text c is due = inr refl
rules_out right t status.Usage s text c is due = absurd c
rules_out right t status.WriteFault s text c is due = absurd c
rules_out right t status.LinkFault s text c is due = absurd c
rules_out right t status.Halted s text c is due = absurd c
rules_out right t status.BadFrame s text c is due = absurd c
rules_out right t status.GreetingRefused s text c is due = absurd c

pub group_complete : (right : Bool) (t : Taken) (k : Given) (result : Status) → Ends (group_command right t) k result → IsComplete (group_command right t) k result
group_complete right t k result e = complete_of (group_command right t) k result e (rules_out right t)

-- ---- what is known of each status

-- no write failed, and of the script, where it is told, this holds and its print was written whole
abbrev pub Prints : Taken → Given → (List ℕ → Type 0) → Type 0
Prints t k Holds = (k.now ≡ k.before) × IfSome t.old (λ script. Holds script × AppendedAll (print_of_script script) k.old k.new)

prints_so : (t : Taken) (text : List ℕ) (k : Given) (Holds : List ℕ → Type 0) → WroteAll text k → IsPrint t Holds text → Prints t k Holds
prints_so t text k Holds all p = (all.0, by_told t.old p)
  where
    by_told : (o : Option (List ℕ)) → IfSome o (λ script. Holds script × (text ≡ print_of_script script)) → IfSome o (λ script. Holds script × AppendedAll (print_of_script script) k.old k.new)
    by_told None p = tt
    by_told (Some script) p = (p.0, subst (λ (l : List ℕ). AppendedAll l k.old k.new) p.1 all.1)

pub ok_prints : (right : Bool) (t : Taken) (k : Given) → Ends (group_command right t) k status.Ok → (right ≡ true) × (IsReadWhole t × Prints t k (IsDone false))
ok_prints right t k e = let x = known_of (group_command right t) k status.Ok e in (x.1.0, (x.1.1.0.0, prints_so t x.0 k (IsDone false) x.1.1.1 x.1.1.0.1))

pub forged_prints : (right : Bool) (t : Taken) (k : Given) → Ends (group_command right t) k status.TagsNotMade → (right ≡ true) × (IsReadWhole t × Prints t k (IsDone true))
forged_prints right t k e = let x = known_of (group_command right t) k status.TagsNotMade e in (x.1.0, (x.1.1.0.0, prints_so t x.0 k (IsDone true) x.1.1.1 x.1.1.0.1))

pub bad_prints : (right : Bool) (t : Taken) (k : Given) → Ends (group_command right t) k status.BadLine → (right ≡ true) × ((IsReadWhole t ⊎ IsReadPast t) × Prints t k HasBad)
bad_prints right t k e = let x = known_of (group_command right t) k status.BadLine e in (x.1.0, (x.1.1.0.0, prints_so t x.0 k HasBad x.1.1.1 x.1.1.0.1))

pub failed_reads : (right : Bool) (t : Taken) (k : Given) → Ends (group_command right t) k status.ReadFault → (right ≡ true) × (Rose t.before t.now × WroteAll read_fault_line k)
failed_reads right t k e =
    let x = known_of (group_command right t) k status.ReadFault e in
    (x.1.0, (x.1.1.0.0, subst (λ (l : List ℕ). WroteAll l k) x.1.1.0.1 x.1.1.1))

-- a text that the command may have been about to write, where a write failed or found no memory
abbrev pub IsOutput : Bool → Taken → List ℕ → Type 0
IsOutput false t text = text ≡ usage_line
IsOutput true t text = (Rose t.before t.now × (text ≡ read_fault_line)) ⊎ ((t.now ≡ t.before) × ((text ≡ no_memory_line) ⊎ IfSome t.old (λ script. text ≡ print_of_script script)))

print_told : (t : Taken) (Holds : List ℕ → Type 0) (text : List ℕ) → IsPrint t Holds text → IfSome t.old (λ script. text ≡ print_of_script script)
print_told t Holds text p = by_told t.old p
  where
    by_told : (o : Option (List ℕ)) → IfSome o (λ script. Holds script × (text ≡ print_of_script script)) → IfSome o (λ script. text ≡ print_of_script script)
    by_told None p = tt
    by_told (Some script) p = p.1

pub is_output : (right : Bool) (t : Taken) (s : Status) (text : List ℕ) → Plans (group_command right t) s text → IsOutput right t text
is_output true t status.Ok text p = inr (p.1.0.0, inr (print_told t (IsDone false) text p.1.1))
is_output true t status.TagsNotMade text p = inr (p.1.0.0, inr (print_told t (IsDone true) text p.1.1))
is_output true t status.Usage text p = absurd (p.0 refl)
is_output true t status.ReadFault text p = inl p.1
is_output true t status.WriteFault text p = absurd p
is_output true t status.BadLine text p = inr (elim p.1.0 [ inl whole ↦ whole.0 | inr past ↦ past.0 ], inr (print_told t HasBad text p.1.1))
is_output true t status.NoMemory text p = inr (p.0.1, inl p.1)
is_output true t status.LinkFault text p = absurd p.1
is_output true t status.Halted text p = absurd p.1
is_output true t status.BadFrame text p = absurd p.1
is_output true t status.GreetingRefused text p = absurd p.1
is_output false t status.Usage text p = p.1.1
is_output false t status.Ok text p = let e = p.0 in absurd cc
is_output false t status.TagsNotMade text p = let e = p.0 in absurd cc
is_output false t status.ReadFault text p = let e = p.0 in absurd cc
is_output false t status.WriteFault text p = absurd p
is_output false t status.BadLine text p = let e = p.0 in absurd cc
is_output false t status.NoMemory text p = let e = p.0.0 in absurd cc
is_output false t status.LinkFault text p = absurd p.1
is_output false t status.Halted text p = absurd p.1
is_output false t status.BadFrame text p = absurd p.1
is_output false t status.GreetingRefused text p = absurd p.1

-- ---- the claim

said_last : (p : ScriptRun) → p.bad ≡ None
    → print_of p ≡ p.text ++ (all_views (group_in p.scene) (history_in p.scene) ++ all_agreements (group_in p.scene) (history_in p.scene) ++ tags_line (is_forged (group_in p.scene) (history_in p.scene)))
unfolding print_of
said_last p good = ap (λ b. p.text ++ end_text (group_in p.scene) (history_in p.scene) b) good

honestly : (script : List ℕ) → is_honest_script script ≡ true → IsHonest script
honestly script honest = record {
  comes = λ s is. (honest_runs script honest s is).0;
  lines = λ s is. (honest_runs script honest s is).1;
  tags_made = (none_forged script honest).0;
  anyway = λ s is. holds_anyway GoesAs s (honest_runs script honest s is).0;
  holds = λ s is apart. holds_at GoesAs s (honest_runs script honest s is).0 apart;
  none_halted = λ apart. none_for_halting script honest apart;
}

-- what was lawful at the end was so at each earlier moment, and so was the claim
held_before : (g : Group) (h : List TraceStep) → IsLawful g h → (later earlier : List TraceStep) → h ≡ later ++ earlier → IsLawful g earlier × Headline g earlier
held_before g h lawful later earlier is =
    let steps = earlier_steps g later earlier (subst (AreSteps g) is lawful.steps) in
    let before : IsLawful g earlier = record { group = lawful.group; steps = steps } in
    (before, every_history_holds g earlier before)

pub claimed : (script : List ℕ) → IsAsClaimed script
claimed script =
    let good = all_hold script in
    record {
      comes = scripts_come script;
      lawful = good.lawful;
      paths = λ i j m n. hashes_tell_paths (script_group script) (script_history script) good.lawful.steps i j m n;
      seals = seals_hold (script_group script) (script_history script) good.lawful;
      views = good.views;
      fronts = held_before (script_group script) (script_history script) good.lawful;
      complete = views_complete (script_group script) (script_history script) good.lawful;
      only_calls = views_show_only_calls (script_group script) (script_history script) good.lawful;
      agree = views_agree (script_group script) (script_history script) good.lawful;
      real_time = views_in_order (script_group script) (script_history script) good.lawful;
      once = completed_once (script_group script) (script_history script) good.lawful;
      no_conflict = done_meets_no_conflict (script_group script) (script_history script) good.lawful;
      stands = answers_stand (script_group script) (script_history script) good.lawful;
      sealed = sealed_answers_stand (script_group script) (script_history script) good.lawful;
      aborts = aborted_by_conflict (script_group script) (script_history script) good.lawful;
      contents = good.loads;
      asked = calls_are_asked (script_group script) (script_history script) good.lawful;
      called = asked_are_called (script_group script) (script_history script) good.lawful;
      agreed = agreements_reach (script_group script) (script_history script) good.lawful;
      tags = is_forged-Decides (script_group script) (script_history script);
      says_so = said_last (run_of script);
      prints = prints_returns script;
      honest = honestly script;
    }
