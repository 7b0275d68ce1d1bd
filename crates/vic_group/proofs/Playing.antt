-- A script's lines, done in a world that shows where the script stands.
use Rattle.std.proofs.Common.{◌≡◌, ℕ, ◌+◌, ◌-◌, ◌<◌, ◌≤◌, ◌^◌, Bool, true, false, List, [], ◌∷◌, ◌++◌, length, take, Option, Some, None, is_some, is_none, Result, Ok, Err, refl, sym, ap, subst, ◌∙◌, arith, append_assoc, append-nil, slice_get}
use Rattle.std.proofs.lemmas.Bool.{le-ltb, lt-ltb}
use Rattle.std.specs.Prelude.{IfOk, if◌then◌else◌, nat_lt, not, ◌&&◌}
use Rattle.std.specs.Result.{result_ok}
use Rattle.hex.specs.Hex.{decode_of}
use Rattle.std.proofs.lemmas.List.{take_all}
use Rattle.vic_dict.specs.declared.op.Mode.{Mode}
use Rattle.vic_dict.specs.declared.op.Mode.TheVariants as mode
use Rattle.vic_wire.specs.Hashes.{Group}
use Rattle.vic_view.specs.declared.transcript.Transcript.{Transcript}
use Rattle.vic_view.specs.Transcripts.{transcript_history, transcript_group}
use Rattle.vic_script.specs.declared.line.Line.{Line}
use Rattle.vic_script.specs.declared.line.Line.TheVariants as line
use Rattle.vic_script.specs.Lines.{lines_of, line_of}
use Rattle.vic_attacks.specs.Hostile.{Hostile}
use Rattle.vic_order.specs.Scenes.{SceneOf}
use Rattle.vic_script.specs.Run.{script_limit, Bad, Attack, ScriptHeader, group_by, attack_by, opening_by, Progress, Before, Heads, Stands, scene_in, ScriptRun, run_to_bad_line, run_after_text, Trial, Fails, Does, trial_of_line, mode_in, run_by_trial, line_end, bad_end, run_from, run_of, group_in, history_in}
use Rattle.vic_script.specs.Print.{bad_line, end_text, print_of, is_forged}
use Rattle.vic_runs.proofs.Words.{text_fits}
use Rattle.vic_runs.specs.Claims.{FitsLine}
use Rattle.vic_runs.specs.Reached.{IsReached}
use Rattle.vic_runs.proofs.Headers.{attack_named}
use Rattle.vic_runs.proofs.Runs.{TriedReaches, opens_reached, tried}
use Rattle.vic_group.specs.declared.header.Header.{Header}
use Rattle.vic_group.specs.declared.header.Headed.{Headed}
use Rattle.vic_group.specs.declared.header.Headed.TheVariants as headed
use Rattle.vic_group.specs.declared.play.BadLine.{BadLine}
use Rattle.vic_group.specs.declared.play.End.TheVariants as end
use Rattle.vic_group.specs.declared.play.Played.{Played}
use Rattle.vic_group.specs.declared.play.Ran.{Ran}
use Rattle.vic_group.specs.declared.play.Ran.TheVariants as ran
use Rattle.vic_group.specs.declared.member.Member.{Member}
use Rattle.vic_group.specs.declared.world.World.{World}
use Rattle.vic_group.specs.World.{MemberStands, ShowsScene, IsReady, MayDo}
use Rattle.vic_group.specs.Playing.{state, scene_of, ShowsItsScene, header_by, progress_by, HasFew, Leads, Tries, trial_at, Follows, ComesTo, end_by, end_of}
use Rattle.vic_group.proofs.Members.{stand_at}
use Rattle.vic_group.proofs.Scenes.{same_scene}

-- ---- the world and its scene

-- a world shows no other scene
pub scene_same : (w : World Hostile) (s : SceneOf Hostile) → ShowsScene state w s → s ≡ scene_of w
scene_same w s h = same_scene s (scene_of w) (sym h.group) (sym h.history) (sym h.up) (sym h.down) (sym h.served_by) (sym h.servers)

-- where so few lines were done, each client may call once more
is_ready : (w : World Hostile) (n i : ℕ) (k : Mode) (m : Member) → ShowsItsScene w → IsReached (scene_of w) n → n + 1 < 2 ^ 32 → w.transcript.mode ≡ k → slice_get w.members.items (i - 1) ≡ Some m → IsReady k m
is_ready w n i k m shows r few is at =
    let so = stand_at (MemberStands (scene_of w).group (scene_of w).history) 1 (i - 1) w.members.items m shows.clients at in
    (ap (λ (x : Group). x.mode) so.group ∙ is, omega (arith, few, r.calls (1 + (i - 1)), so.stands.calls))

-- also the one that a line calls
pub may_of : (w : World Hostile) (n : ℕ) (l : Line) → ShowsItsScene w → IsReached (scene_of w) n → n + 1 < 2 ^ 32 → MayDo w l
may_of w n (line.Call i o) shows r few = λ plain above m at. is_ready w n i mode.Plain m shows r few plain at
may_of w n (line.Object i c) shows r few = λ objects above m at. is_ready w n i mode.Objects m shows r few objects at
may_of w n (line.Clients k) shows r few = tt
may_of w n (line.Objects k) shows r few = tt
may_of w n (line.Key digits) shows r few = tt
may_of w n (line.Hostile name k) shows r few = tt
may_of w n (line.Poll i) shows r few = tt
may_of w n (line.Sync i) shows r few = tt
may_of w n (line.Serve i) shows r few = tt
may_of w n (line.Take i) shows r few = tt
may_of w n (line.Run i) shows r few = tt
may_of w n (line.Give i payload) shows r few = tt
may_of w n (line.Again i) shows r few = tt
may_of w n (line.Flip i k) shows r few = tt
may_of w n (line.Resend i) shows r few = tt
may_of w n (line.Copy k t) shows r few = tt
may_of w n (line.Move i k) shows r few = tt
may_of w n line.Skip shows r few = tt

-- ---- the header's lines

pub known_all : (n : ℕ) (script : List ℕ) → length script ≤ n → script ≡ take (n + 1) script
known_all n script few = sym (take_all (n + 1) script (omega (arith, few)))

-- a line that begins a header
pub leads_clients : (l : Option Line) (count : ℕ) (r : Headed) → l ≡ Some (line.Clients count) → FitsLine (line.Clients count) → r ≡ headed.Goes (Some (record { mode = mode.Plain; count = count; key = None; hostile = None })) → Leads Before l r
leads_clients l count r e fits is = subst (λ (o : Option Line). Leads Before o r) (sym e) (subst (λ (x : Headed). Leads Before (Some (line.Clients count)) x) (sym is) (refl, fits))

pub leads_objects : (l : Option Line) (count : ℕ) (r : Headed) → l ≡ Some (line.Objects count) → FitsLine (line.Objects count) → r ≡ headed.Goes (Some (record { mode = mode.Objects; count = count; key = None; hostile = None })) → Leads Before l r
leads_objects l count r e fits is = subst (λ (o : Option Line). Leads Before o r) (sym e) (subst (λ (x : Headed). Leads Before (Some (line.Objects count)) x) (sym is) (refl, fits))

if-so : (b : Bool) (t u : Trial) → b ≡ true → (if b then t else u) ≡ t
if-so b t u e = ap (λ (x : Bool). if x then t else u) e

if-not : (b : Bool) (t u : Trial) → b ≡ false → (if b then t else u) ≡ u
if-not b t u e = ap (λ (x : Bool). if x then t else u) e

is-none : {A : Type 0} (o : Option A) (b : Bool) → is_some o ≡ b → is_none o ≡ not b
is-none None b e = ap not e
is-none (Some a) b e = ap not e

-- a key in a header that has one, or that says how its server misbehaves
pub leads_again : (h : Header) (digits : List ℕ) → (is_none h.key && is_none h.hostile) ≡ false → HasFew (Some h) → Leads (Heads (header_by h)) (Some (line.Key digits)) (headed.Bad (Some h) 1)
leads_again h digits e few = (if-not (is_none h.key && is_none h.hostile) (Does (Heads (record (header_by h) { key = result_ok (decode_of digits) })) []) (Fails 1) e, (refl, few))

-- the first key
pub leads_keyed : (h : Header) (digits key : List ℕ) → (is_none h.key && is_none h.hostile) ≡ true → result_ok (decode_of digits) ≡ Some key → HasFew (Some h)
    → Leads (Heads (header_by h)) (Some (line.Key digits)) (headed.Goes (Some (record { mode = h.mode; count = h.count; key = Some key; hostile = h.hostile })))
leads_keyed h digits key e spelled few = (
  if-so (is_none h.key && is_none h.hostile) (Does (Heads (record (header_by h) { key = result_ok (decode_of digits) })) []) (Fails 1) e
      ∙ ap (λ (o : Option (List ℕ)). Does (Heads (record (header_by h) { key = o })) []) spelled,
  few,
)

-- how a server misbehaves, told twice
pub leads_twice : (h : Header) (name : List ℕ) (n : ℕ) → is_some h.hostile ≡ true → HasFew (Some h) → Leads (Heads (header_by h)) (Some (line.Hostile name n)) (headed.Bad (Some h) 1)
leads_twice h name n e few =
    (if-not (is_none h.hostile) (Does (Heads (record (header_by h) { hostile = attack_named name n })) []) (Fails 1) (is-none h.hostile true e), (refl, few))

-- told once
pub leads_turned : (h : Header) (name : List ℕ) (n : ℕ) (o : Option Attack) → is_some h.hostile ≡ false → o ≡ attack_named name n → HasFew (Some h)
    → Leads (Heads (header_by h)) (Some (line.Hostile name n)) (headed.Goes (Some (record { mode = h.mode; count = h.count; key = h.key; hostile = o })))
leads_turned h name n o e is few = (
  if-so (is_none h.hostile) (Does (Heads (record (header_by h) { hostile = attack_named name n })) []) (Fails 1) (is-none h.hostile false e)
      ∙ ap (λ (x : Option Attack). Does (Heads (record (header_by h) { hostile = x })) []) (sym is),
  few,
)

-- ---- a line

none-some : (kind : ℕ) → None ≡ Some kind → ⊥
none-some kind e = absurd cc

follows-tried : (n : ℕ) (t : Trial) (s : SceneOf Hostile) (w : World Hostile) (old new : List ℕ) → TriedReaches t (n + 1) → Tries t s w old new None → Follows n t s w old new None
follows-tried n (Fails kind) s w old new r h = absurd (none-some kind h.0)
follows-tried n (Does Before text) s w old new r h = absurd h.1.1
follows-tried n (Does (Heads header) text) s w old new r h = absurd h.1.1
follows-tried n (Does (Stands next) text) s w old new r h = (refl, (h.1.0, (h.1.1, r)))

-- a line within the limit that was done
pub follows_none : (behind n : ℕ) (s : SceneOf Hostile) (text : List ℕ) (w : World Hostile) (old new : List ℕ) → behind ≤ script_limit → IsReached s n → n + 1 < 2 ^ 32
    → Tries (trial_of_line (Stands s) (line_of (Some s.group.mode) text)) s w old new None → Follows n (trial_at behind (Stands s) text) s w old new None
follows_none behind n s text w old new within r few h =
    let t : Trial = trial_of_line (Stands s) (line_of (Some s.group.mode) text) in
    let reaches : TriedReaches t (n + 1) = tried (Stands s) (line_of (Some s.group.mode) text) n r few (text_fits (Some s.group.mode) text) in
    subst (λ (b : Bool). Follows n (if b then Fails 7 else t) s w old new None) (sym (le-ltb script_limit behind within)) (follows-tried n t s w old new reaches h)

-- ---- the next line

run_by_trial-either : (b : Bool) (n kind : ℕ) (place : Progress) (t : Trial) (rest : Progress → ScriptRun) → (if b then run_to_bad_line place n kind else run_by_trial n place t rest) ≡ run_by_trial n place (if b then Fails kind else t) rest
run_by_trial-either true n kind place t rest = refl
run_by_trial-either false n kind place t rest = refl

pub play_line : (total before n : ℕ) (place : Progress) (text : List ℕ) (texts : List (List ℕ))
    → run_from total before n place (text ∷ texts) ≡ run_by_trial n place (trial_at (line_end total before text) place text) (λ next. run_from total (line_end total before text) (n + 1) next texts)
unfolding run_from
play_line total before n place text texts =
    let behind : ℕ = line_end total before text in
    run_by_trial-either (nat_lt script_limit behind) n 7 place (trial_of_line place (line_of (mode_in (scene_in place)) text)) (λ next. run_from total behind (n + 1) next texts)

pub tried_long : (behind : ℕ) (place : Progress) (text : List ℕ) → script_limit < behind → trial_at behind place text ≡ Fails 7
tried_long behind place text long = ap (λ (b : Bool). if b then Fails 7 else trial_of_line place (line_of (mode_in (scene_in place)) text)) (lt-ltb script_limit behind long)

pub tried_short : (behind : ℕ) (place : Progress) (text : List ℕ) → behind ≤ script_limit → trial_at behind place text ≡ trial_of_line place (line_of (mode_in (scene_in place)) text)
tried_short behind place text within = ap (λ (b : Bool). if b then Fails 7 else trial_of_line place (line_of (mode_in (scene_in place)) text)) (le-ltb script_limit behind within)

printed-twice : (a b : List ℕ) (p : ScriptRun) → run_after_text a (run_after_text b p) ≡ run_after_text (a ++ b) p
printed-twice a b p = ap (λ (t : List ℕ). record { scene = p.scene; text = t; bad = p.bad }) (sym (append_assoc a b p.text))

printed-nothing : (p : ScriptRun) → run_after_text [] p ≡ p
printed-nothing p = refl

-- a line was done, and the run goes on from there
pub goes_on : (n : ℕ) (run : ScriptRun) (place : Progress) (t : Trial) (rest : Progress → ScriptRun) (was : SceneOf Hostile) (w : World Hostile) (old new : List ℕ) → run ≡ run_after_text old (run_by_trial n place t rest) → Follows n t was w old new None
    → (ShowsItsScene w × IsReached (scene_of w) (n + 1)) × (run ≡ run_after_text new (rest (Stands (scene_of w))))
goes_on n run place (Fails kind) rest was w old new e h = absurd cc
goes_on n run place (Does Before text) rest was w old new e h = absurd h.1.1
goes_on n run place (Does (Heads header) text) rest was w old new e h = absurd h.1.1
goes_on n run place (Does (Stands s) text) rest was w old new e h =
    let same : s ≡ scene_of w = scene_same w s h.1.1.0 in (
      (subst (λ (x : SceneOf Hostile). ShowsScene state w x) same h.1.1.0, subst (λ (x : SceneOf Hostile). IsReached x (n + 1)) same h.1.1.1),
      e ∙ printed-twice old text (rest (Stands s)) ∙ ap (λ (o : List ℕ). run_after_text o (rest (Stands s))) (sym h.1.0) ∙ ap (λ (x : SceneOf Hostile). run_after_text new (rest (Stands x))) same,
    )

-- the run, with its next line before the others
pub run_line : (run : ScriptRun) (total before n behind : ℕ) (place : Progress) (out rest text others : List ℕ) → run ≡ run_after_text out (run_from total before n place (lines_of rest))
    → lines_of rest ≡ text ∷ lines_of others → behind ≡ line_end total before text
    → run ≡ run_after_text out (run_by_trial n place (trial_at behind place text) (λ next. run_from total behind (n + 1) next (lines_of others)))
run_line run total before n behind place out rest text others e lines is =
    e ∙ ap (λ (texts : List (List ℕ)). run_after_text out (run_from total before n place texts)) lines ∙ ap (run_after_text out) (play_line total before n place text (lines_of others))
    ∙ ap (λ (k : ℕ). run_after_text out (run_by_trial n place (trial_at k place text) (λ next. run_from total k (n + 1) next (lines_of others)))) (sym is)

-- ---- what the lines come to

stopped-so : (run : ScriptRun) (t : Transcript) (out : List ℕ) (place : Progress) (n kind : ℕ) → run ≡ run_after_text out (run_to_bad_line place n kind) → transcript_group t ≡ group_in (scene_in place) → transcript_history t ≡ history_in (scene_in place)
    → ComesTo run (ran.Stopped t out (record { number = n; kind = kind }))
stopped-so run t out place n kind e group history = (
  ap (λ (r : ScriptRun). r.bad) e,
  (ap (λ (r : ScriptRun). r.text) e ∙ append-nil out, (group ∙ ap (λ (r : ScriptRun). group_in r.scene) (sym e), history ∙ ap (λ (r : ScriptRun). history_in r.scene) (sym e))),
)

-- a line was bad
pub leaves_stop : (n : ℕ) (run : ScriptRun) (s : SceneOf Hostile) (t : Trial) (rest : Progress → ScriptRun) (w : World Hostile) (done : Transcript) (old new : List ℕ) (b : BadLine) → run ≡ run_after_text old (run_by_trial n (Stands s) t rest)
    → Follows n t s w old new (Some b) → done ≡ w.transcript → ComesTo run (ran.Stopped done new b)
leaves_stop n run s (Does next made) rest w done old new b e h is = absurd cc
leaves_stop n run s (Fails kind) rest w done old new b e h is =
    let bad : BadLine = record { number = n; kind = kind } in
    let same : b ≡ bad = cc in
    let shows : ShowsScene state w s = h.1.1 in
    let group : transcript_group done ≡ s.group = ap (λ (t : Transcript). transcript_group t) is ∙ shows.group in
    let history : transcript_history done ≡ s.history = ap (λ (t : Transcript). transcript_history t) is ∙ shows.history in
    subst (λ (x : BadLine). ComesTo run (ran.Stopped done new x)) (sym same) (subst (λ (o : List ℕ). ComesTo run (ran.Stopped done o bad)) (sym h.1.0) (stopped-so run done old (Stands s) n kind e group history))

pub play_nil : (total before n : ℕ) (place : Progress) → run_from total before n place [] ≡ record { scene = scene_in place; text = []; bad = bad_end n place }
unfolding run_from
play_nil total before n place = refl

-- no line is left
pub leaves_end : (total before n : ℕ) (run : ScriptRun) (w : World Hostile) (out : List ℕ) → run ≡ run_after_text out (run_from total before n (Stands (scene_of w)) []) → ShowsItsScene w → ComesTo run (ran.Whole w out)
leaves_end total before n run w out e shows =
    let done : run ≡ run_after_text out (record { scene = Some (scene_of w); text = []; bad = None }) = e ∙ ap (run_after_text out) (play_nil total before n (Stands (scene_of w))) in
    (ap (λ (r : ScriptRun). r.bad) done, (ap (λ (r : ScriptRun). r.text) done ∙ append-nil out, (ap (λ (r : ScriptRun). r.scene) done, shows)))

-- ---- the header

-- the run of a script stands here, with these lines left, and nothing was printed
abbrev pub Heading : ScriptRun → ℕ → ℕ → ℕ → Progress → List (List ℕ) → Type 0
Heading run total before n place texts = run ≡ run_from total before n place texts

-- the same with the next line before the others
pub heading_line : (run : ScriptRun) (total before n behind : ℕ) (place : Progress) (rest text others : List ℕ) → Heading run total before n place (lines_of rest) → lines_of rest ≡ text ∷ lines_of others → behind ≡ line_end total before text
    → run ≡ run_by_trial n place (trial_at behind place text) (λ next. run_from total behind (n + 1) next (lines_of others))
heading_line run total before n behind place rest text others e lines is =
    e ∙ ap (λ (texts : List (List ℕ)). run_from total before n place texts) lines ∙ play_line total before n place text (lines_of others)
    ∙ ap (λ (k : ℕ). run_by_trial n place (trial_at k place text) (λ next. run_from total k (n + 1) next (lines_of others))) (sym is)

-- its next line is bad
pub head_stops : (run : ScriptRun) (n kind : ℕ) (place : Progress) (t : Trial) (rest : Progress → ScriptRun) → run ≡ run_by_trial n place t rest → t ≡ Fails kind → run ≡ run_to_bad_line place n kind
head_stops run n kind place t rest e is = e ∙ ap (λ (x : Trial). run_by_trial n place x rest) is

-- and nothing was done
pub unopened_leaves : (h : Option Header) (t : Transcript) (n kind : ℕ) → transcript_group t ≡ group_in (scene_in (progress_by h)) → transcript_history t ≡ [] → ComesTo (run_to_bad_line (progress_by h) n kind) (ran.Stopped t [] (record { number = n; kind = kind }))
unopened_leaves None t n kind group none = (refl, (refl, (group, none)))
unopened_leaves (Some h) t n kind group none = (refl, (refl, (group, none)))

-- or leads on
pub head_goes : (run : ScriptRun) (n : ℕ) (place next : Progress) (t : Trial) (rest : Progress → ScriptRun) → run ≡ run_by_trial n place t rest → t ≡ Does next [] → run ≡ rest next
head_goes run n place next t rest e is = e ∙ ap (λ (x : Trial). run_by_trial n place x rest) is ∙ printed-nothing (rest next)

run_by_trial-same : (n : ℕ) (h : ScriptHeader) (t : Trial) (rest : Progress → ScriptRun) → run_by_trial n (Heads h) t rest ≡ run_by_trial n (Stands (opening_by h)) t rest
run_by_trial-same n h (Fails kind) rest = refl
run_by_trial-same n h (Does next text) rest = refl

run_from-ends : (total before n : ℕ) (h : ScriptHeader) (text : List ℕ) (texts : List (List ℕ)) → line_end total before text ≤ script_limit
    → trial_of_line (Heads h) (line_of (Some h.mode) text) ≡ trial_of_line (Stands (opening_by h)) (line_of (Some h.mode) text)
    → run_from total before n (Heads h) (text ∷ texts) ≡ run_from total before n (Stands (opening_by h)) (text ∷ texts)
run_from-ends total before n h text texts within same =
    let behind : ℕ = line_end total before text in
    let s : SceneOf Hostile = opening_by h in
    let rest : Progress → ScriptRun = λ next. run_from total behind (n + 1) next texts in
    play_line total before n (Heads h) text texts ∙ ap (λ (t : Trial). run_by_trial n (Heads h) t rest) (tried_short behind (Heads h) text within ∙ same) ∙ run_by_trial-same n h (trial_of_line (Stands s) (line_of (Some h.mode) text)) rest
    ∙ ap (λ (t : Trial). run_by_trial n (Stands s) t rest) (sym (tried_short behind (Stands s) text within)) ∙ sym (play_line total before n (Stands s) text texts)

-- or it isn't of the header, and is tried in the scene that a world shows
pub head_ends : (run : ScriptRun) (total before n : ℕ) (place : Progress) (h : Header) (w : World Hostile) (rest text others : List ℕ) → Heading run total before n place (lines_of rest) → lines_of rest ≡ text ∷ lines_of others
    → line_end total before text ≤ script_limit → Leads place (line_of (mode_in (scene_in place)) text) (headed.Ends h) → ShowsScene state w (opening_by (header_by h))
    → Heading run total before n (Stands (scene_of w)) (lines_of rest)
head_ends run total before n place h w rest text others e lines within leads shows =
    let told : ScriptHeader = header_by h in
    let texts : List (List ℕ) = lines_of others in
    let same = subst (λ (p : Progress). trial_of_line p (line_of (mode_in (scene_in p)) text) ≡ trial_of_line (Stands (opening_by told)) (line_of (mode_in (scene_in p)) text)) leads.0 leads.1.0 in
    e ∙ ap (λ (xs : List (List ℕ)). run_from total before n place xs) lines ∙ ap (λ (p : Progress). run_from total before n p (text ∷ texts)) leads.0 ∙ run_from-ends total before n told text texts within same
    ∙ ap (λ (s : SceneOf Hostile). run_from total before n (Stands s) (text ∷ texts)) (scene_same w (opening_by told) shows) ∙ ap (λ (xs : List (List ℕ)). run_from total before n (Stands (scene_of w)) xs) (sym lines)

-- the world that a header opens
pub opened_shows : (w : World Hostile) (h : Header) → ShowsScene state w (opening_by (header_by h)) → ShowsItsScene w
opened_shows w h shows = subst (λ (s : SceneOf Hostile). ShowsScene state w s) (scene_same w (opening_by (header_by h)) shows) shows

pub opened_reached : (w : World Hostile) (h : Header) (n : ℕ) → ShowsScene state w (opening_by (header_by h)) → IsReached (scene_of w) n
opened_reached w h n shows =
    let told : ScriptHeader = header_by h in
    subst (λ (s : SceneOf Hostile). IsReached s n) (scene_same w (opening_by told) shows) (opens_reached (group_by told) (attack_by told) n shows.lawful.group)

-- ---- the whole script

pub lines_none : (rest : List ℕ) → length rest ≡ 0 → lines_of rest ≡ []
unfolding lines_of
lines_none [] e = refl
lines_none (b ∷ bs) e = absurd (omega (arith, e))

pub run_known : (script known : List ℕ) → known ≡ take (script_limit + 1) script → run_from (length known) 0 1 Before (lines_of known) ≡ run_of script
unfolding run_of
run_known script known e = ap (λ (bytes : List ℕ). run_from (length bytes) 0 1 Before (lines_of bytes)) e

-- no event came
pub closed_whole : (w : World Hostile) (h : Header) (n : ℕ) → ShowsScene state w (opening_by (header_by h)) → ComesTo (record { scene = Some (opening_by (header_by h)); text = []; bad = None }) (ran.Whole w [])
closed_whole w h n shows = (refl, (refl, (ap (λ (s : SceneOf Hostile). Some s) (scene_same w (opening_by (header_by h)) shows), opened_shows w h shows)))

-- what holds of a value of a result
pub if_ok-map : {A E : Type 0} (r : Result A E) (P Q : A → Type 0) → ((a : A) → P a → Q a) → IfOk r P → IfOk r Q
if_ok-map (Ok a) P Q f h = f a h
if_ok-map (Err e) P Q f h = tt

-- ---- what is printed

-- every line was done
pub prints_whole : (r : ScriptRun) (w : World Hostile) (out : List ℕ) → ComesTo r (ran.Whole w out) → (p : Played)
    → (p.text ≡ out ++ end_text (transcript_group w.transcript) (transcript_history w.transcript) None) × (p.end ≡ end_by None (is_forged (transcript_group w.transcript) (transcript_history w.transcript))) → (p.text ≡ print_of r) × (p.end ≡ end_of r)
unfolding print_of
prints_whole r w out left p h = (
  h.0 ∙ ap (λ (o : List ℕ). o ++ end_text (transcript_group w.transcript) (transcript_history w.transcript) None) (sym left.1.0)
      ∙ ap (λ (o : Option (SceneOf Hostile)). r.text ++ end_text (group_in o) (history_in o) None) (sym left.1.1.0) ∙ ap (λ (b : Option Bad). r.text ++ end_text (group_in r.scene) (history_in r.scene) b) (sym left.0),
  h.1 ∙ ap (λ (o : Option (SceneOf Hostile)). end_by None (is_forged (group_in o) (history_in o))) (sym left.1.1.0) ∙ ap (λ (b : Option Bad). end_by b (is_forged (group_in r.scene) (history_in r.scene))) (sym left.0),
)

-- a line was bad
pub prints_stopped : (r : ScriptRun) (t : Transcript) (out : List ℕ) (b : BadLine) → ComesTo r (ran.Stopped t out b) → (p : Played) → (p.text ≡ out ++ bad_line (record { number = b.number; kind = b.kind })) × (p.end ≡ end.Bad) → (p.text ≡ print_of r) × (p.end ≡ end_of r)
unfolding print_of
prints_stopped r t out b left p h = (
  h.0 ∙ ap (λ (o : List ℕ). o ++ bad_line (record { number = b.number; kind = b.kind })) (sym left.1.0) ∙ ap (λ (x : Option Bad). r.text ++ end_text (group_in r.scene) (history_in r.scene) x) (sym left.0),
  h.1 ∙ ap (λ (x : Option Bad). end_by x (is_forged (group_in r.scene) (history_in r.scene))) (sym left.0),
)

-- ---- what was done

-- its transcript
abbrev pub IsOf : Ran → Transcript → Type 0
IsOf (ran.Whole w text) t = t ≡ w.transcript
IsOf (ran.Stopped done text b) t = t ≡ done

-- it is the group and the history of the run
pub tells_group : (r : ScriptRun) (x : Ran) (t : Transcript) → ComesTo r x → IsOf x t → transcript_group t ≡ group_in r.scene
tells_group r (ran.Whole w text) t left is = ap (λ (y : Transcript). transcript_group y) is ∙ ap (λ (o : Option (SceneOf Hostile)). group_in o) (sym left.1.1.0)
tells_group r (ran.Stopped done text b) t left is = ap (λ (y : Transcript). transcript_group y) is ∙ left.1.1.0

pub tells_history : (r : ScriptRun) (x : Ran) (t : Transcript) → ComesTo r x → IsOf x t → transcript_history t ≡ history_in r.scene
tells_history r (ran.Whole w text) t left is = ap (λ (y : Transcript). transcript_history y) is ∙ ap (λ (o : Option (SceneOf Hostile)). history_in o) (sym left.1.1.0)
tells_history r (ran.Stopped done text b) t left is = ap (λ (y : Transcript). transcript_history y) is ∙ left.1.1.1
