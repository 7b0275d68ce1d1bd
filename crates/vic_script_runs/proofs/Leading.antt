-- The events of a script's lines lead to where its run ends.
use Rattle.std.proofs.Common.{◌≡◌, ℕ, ◌+◌, ◌<◌, ◌^◌, Bool, true, false, List, [], ◌∷◌, ◌++◌, length, take, Option, Some, None, inl, inr, refl, sym, ap, subst, ◌∙◌, arith}
use Rattle.std.specs.Prelude.{◌⊎◌, if◌then◌else◌, unwrap_or, nat_lt}
use Rattle.std.specs.List.{AllByRecursion}
use Rattle.std.proofs.lemmas.List.{length-take, append-nil, append_assoc}
use Rattle.vic_dict.specs.Lists.{IsIn}
use Rattle.vic_dict.specs.declared.op.Mode.{Mode}
use Rattle.vic_dict.specs.declared.op.Mode.TheVariants as mode
use Rattle.vic_honest.proofs.Events.{after-group}
use Rattle.vic_laws.proofs.Words.{in_left}
use Rattle.vic_order.specs.Scenes.{SceneOf, Event, after_events, MayAllHappen}
use Rattle.vic_attacks.specs.Hostile.{Hostile, by_kind}
use Rattle.vic_script.specs.declared.line.Line.{Line}
use Rattle.vic_script.specs.declared.line.Line.TheVariants as line
use Rattle.vic_script.specs.Lines.{lines_of, line_of, kind_named}
use Rattle.vic_script.specs.Scenes.{events_of, done_line, bad_kind}
use Rattle.vic_script.specs.Run.{script_limit, Bad, Attack, no_attack, ScriptHeader, opening_as, opening_by, Progress, Before, Heads, Stands, scene_in, ScriptRun, run_to_bad_line, Trial, Fails, Does, trial_by, trial_in_scene, trial_of_line, mode_in, run_by_trial, line_end, bad_end, run_from, run_of}
use Rattle.vic_script.proofs.Lines.{length-lines_of}
use Rattle.vic_runs.specs.Claims.{FitsLine}
use Rattle.vic_runs.specs.Reached.{IsReached}
use Rattle.vic_runs.proofs.Events.{after-joined, may-joined, good-joined}
use Rattle.vic_runs.proofs.Headers.{turned, first_so, header_so}
use Rattle.vic_runs.proofs.Lines.{few_calls, line-may}
use Rattle.vic_runs.proofs.Lists.{all_each}
use Rattle.vic_runs.proofs.Reached.{reached-seated, any}
use Rattle.vic_runs.proofs.Runs.{ReachedIn, TriedReaches, tried}
use Rattle.vic_runs.proofs.Words.{FitsIn, text_fits}
use Rattle.vic_script_runs.specs.Events.{line_events, events_then, events_from, script_events}
use Rattle.vic_script_runs.specs.Claims.{attack_in, attacks_in, attacks_of, ScriptsComeOfTheirLines}
use Rattle.vic_script_runs.proofs.Attacks.{names_alike, first_names_none, good_names_none, IsNamed, turned_named}

-- ---- what lines named, and lines that follow

-- it is named among others
abbrev pub IsAmong : List Attack → Option Attack → Type 0
IsAmong named None = Unit {0}
IsAmong named (Some a) = IsIn named a

among_more : (named more : List Attack) (o : Option Attack) → IsNamed named o → IsAmong (named ++ more) o
among_more named more None h = tt
among_more named more (Some a) h = in_left named more a (subst (λ list. IsIn list a) (sym h) (inl refl))

none_more : (named own : List Attack) → own ≡ [] → named ++ own ≡ named
none_more named own none = ap (λ list. named ++ list) none ∙ append-nil named

-- what a line of a text names, where a script stands in a scene, or before
abbrev NamesIn : Option (SceneOf Hostile) → Option Line → List Attack → Type 0
NamesIn None l own = (m : Line) → l ≡ Some m → own ≡ []
NamesIn (Some s) l own = own ≡ attack_in l

names_in : (scene : Option (SceneOf Hostile)) (text : List ℕ) → NamesIn scene (line_of (mode_in scene) text) (attack_in (line_of (Some mode.Plain) text))
names_in None text = first_names_none text
names_in (Some s) text = names_alike s.group.mode text

-- what holds of each event, and of a line that makes only such events, of each text in both modes or in none
module _ (Each : Event → Type 0) (Good : Option Line → Type 0) (makes : (s : SceneOf Hostile) (l : Line) → Good (Some l) → AllByRecursion Each (events_of by_kind s l))
    (in_each : (kind : Mode) (text : List ℕ) → Good (line_of (Some mode.Plain) text) → Good (line_of (Some kind) text)) where
  -- a scene comes of such events, from the opening with a server that misbehaves so
  pub record ComesOfEach (turned : Option Attack) (s : SceneOf Hostile) (events : List Event) : Type 0 where
    pub may : MayAllHappen by_kind (opening_as s.group (unwrap_or turned no_attack)) events
    pub is : s ≡ after_events by_kind (opening_as s.group (unwrap_or turned no_attack)) events
    pub each : AllByRecursion Each events

  -- where a script stands behind such events, and behind lines that named such attacks; no event was made before its header has ended
  abbrev StandsBehind : Progress → List Event → List Attack → Type 0
  StandsBehind Before events named = (events ≡ []) × (named ≡ [])
  StandsBehind (Heads h) events named = (events ≡ []) × IsNamed named h.hostile
  StandsBehind (Stands s) events named = (turned : Option Attack) × ComesOfEach turned s events × IsNamed named turned

  -- so a run leaves off: it ends in a scene, maybe by a bad line, and all its lines named such attacks
  pub record Ends (s : SceneOf Hostile) (bad : Option Bad) (events : List Event) (named : List Attack) : Type 0 where
    pub turned : Option Attack
    pub comes : ComesOfEach turned s events
    pub among : IsAmong named turned
    pub whole : bad ≡ None → IsNamed named turned

  abbrev EndsBehind : Option (SceneOf Hostile) → Option Bad → List Event → List Attack → Type 0
  EndsBehind None bad events named = events ≡ []
  EndsBehind (Some s) bad events named = Ends s bad events named

  opens : (h : ScriptHeader) (events : List Event) → events ≡ [] → ComesOfEach h.hostile (opening_by h) events
  opens h events none = subst (ComesOfEach h.hostile (opening_by h)) (sym none) (record { may = tt; is = refl; each = tt })

  -- a bad line ends it, whatever the lines behind name
  stopped : (place : Progress) (bad : Bad) (events : List Event) (named more : List Attack) → StandsBehind place events named → EndsBehind (scene_in place) (Some bad) events (named ++ more)
  stopped Before bad events named more h = h.0
  stopped (Heads k) bad events named more h = record { turned = k.hostile; comes = opens k events h.0; among = among_more named more k.hostile h.1; whole = λ good. absurd cc }
  stopped (Stands s) bad events named more h = record { turned = h.0; comes = h.1; among = among_more named more h.0 h.2; whole = λ good. absurd cc }

  -- no line is left
  done : (number : ℕ) (place : Progress) (events : List Event) (named : List Attack) → StandsBehind place events named → EndsBehind (scene_in place) (bad_end number place) events (named ++ [])
  done number Before events named h = h.0
  done number (Heads k) events named h =
      record { turned = k.hostile; comes = opens k events h.0; among = among_more named [] k.hostile h.1; whole = λ good. subst (λ list. IsNamed list k.hostile) (sym (append-nil named)) h.1 }
  done number (Stands s) events named h =
      record { turned = h.0; comes = h.1; among = among_more named [] h.0 h.2; whole = λ good. subst (λ list. IsNamed list h.0) (sym (append-nil named)) h.2 }

  -- ---- a line

  -- more events that may happen
  more : (turned : Option Attack) (s : SceneOf Hostile) (later before : List Event) → MayAllHappen by_kind s later → AllByRecursion Each later → ComesOfEach turned s before
      → ComesOfEach turned (after_events by_kind s later) (later ++ before)
  more turned s later before may each h =
      let a : Attack = unwrap_or turned no_attack in
      let next : SceneOf Hostile = after_events by_kind s later in
      let same : s.group ≡ next.group = sym (after-group by_kind s later) in
      record {
        may = subst (λ g. MayAllHappen by_kind (opening_as g a) (later ++ before)) same (may-joined by_kind (opening_as s.group a) later before h.may (subst (λ t. MayAllHappen by_kind t later) h.is may));
        is = ap (λ t. after_events by_kind t later) h.is ∙ (sym (after-joined by_kind (opening_as s.group a) later before) ∙ ap (λ g. after_events by_kind (opening_as g a) (later ++ before)) same);
        each = good-joined by_kind Each later before each h.each;
      }

  -- a line that was tried is bad, or the script stands behind its events
  abbrev LeadsOn : Trial → List Event → List Attack → Type 0
  LeadsOn (Fails k) events named = Unit {0}
  LeadsOn (Does next text) events named = StandsBehind next events named

  leads-by : (bad : Option ℕ) (s : SceneOf Hostile) (l : Line) (events : List Event) (named : List Attack)
      → (bad ≡ None → (turned : Option Attack) × ComesOfEach turned (done_line by_kind s l).scene events × IsNamed named turned) → LeadsOn (trial_by bad (done_line by_kind s l)) events named
  leads-by None s l events named h = h refl
  leads-by (Some k) s l events named h = tt

  leads-event : (s : SceneOf Hostile) (l : Line) (n : ℕ) (before : List Event) (named own : List Attack) (turned : Option Attack) → IsReached s n → n + 1 < 2 ^ 32 → FitsLine l → Good (Some l) → own ≡ attack_in (Some l)
      → ComesOfEach turned s before → IsNamed named turned → LeadsOn (trial_in_scene s l) (events_of by_kind s l ++ before) (named ++ own)
  leads-event s l n before named own turned r few fits good names comes is =
      leads-by (bad_kind s l) s l (events_of by_kind s l ++ before) (named ++ own) (λ right. (
        turned,
        more turned s (events_of by_kind s l) before (line-may by_kind s l (reached-seated s n r) r.lawful (few_calls s n r.calls few l) right fits) (makes s l good) comes,
        subst (λ list. IsNamed list turned) (sym (none_more named own (names ∙ good_names_none s l right))) is,
      ))

  -- once a script has opened its lines are good
  abbrev GoodFor : Option (SceneOf Hostile) → Option Line → Type 0
  GoodFor None l = Unit {0}
  GoodFor (Some s) l = Good l

  -- in a header that named no attack yet a line names one
  turns : (k : ScriptHeader) (name : List ℕ) (n : ℕ) (named own : List Attack) → k.hostile ≡ None → own ≡ attack_in (Some (line.Hostile name n)) → IsNamed named k.hostile → IsNamed (named ++ own) (turned k name n).hostile
  turns k name n named own only names is =
      let first : named ≡ [] = subst (IsNamed named) only is in
      subst (λ list. IsNamed list (turned k name n).hostile) (sym (ap (λ list. list ++ own) first ∙ names)) (turned_named n (kind_named name))

  leads : (place : Progress) (l : Option Line) (n : ℕ) (before : List Event) (named own : List Attack) → ReachedIn (scene_in place) n → n + 1 < 2 ^ 32 → FitsIn l → GoodFor (scene_in place) l → NamesIn (scene_in place) l own
      → StandsBehind place before named → LeadsOn (trial_of_line place l) (line_events (scene_in place) l ++ before) (named ++ own)
  leads Before None n before named own r few fits good names h = tt
  leads Before (Some l) n before named own r few fits good names h =
      let none : named ++ own ≡ [] = none_more named own (names l refl) ∙ h.1 in
      first_so (λ (x : Line) (t : Trial). LeadsOn t before (named ++ own)) (λ count. (h.0, none)) (λ count. (h.0, none)) (h.0, none) (λ x. tt) l
  leads (Heads k) None n before named own r few fits good names h = tt
  leads (Heads k) (Some l) n before named own r few fits good names h =
      let same : own ≡ [] → IsNamed (named ++ own) k.hostile = λ none. subst (λ list. IsNamed list k.hostile) (sym (none_more named own none)) h.1 in
      header_so (λ (x : Line) (t : Trial). FitsLine x → Good (Some x) → own ≡ attack_in (Some x) → LeadsOn t (events_of by_kind (opening_by k) x ++ before) (named ++ own)) k
      (λ digits is so names. (h.0, same names)) (λ digits is so names. tt) (λ name j only is so names. (h.0, turns k name j named own only names h.1)) (λ name j is so names. tt) (λ is so names. (h.0, same names))
      (λ x is so names. leads-event (opening_by k) x n before named own k.hostile r few is so names (opens k before h.0) h.1) l fits good names
  leads (Stands s) None n before named own r few fits good names h = tt
  leads (Stands s) (Some l) n before named own r few fits good names h = leads-event s l n before named own h.0 r few fits good names h.1 h.2

  -- ---- all lines

  -- a good line, in the mode plain as in that of the script
  abbrev IsGoodText : List ℕ → Type 0
  IsGoodText text = Good (line_of (Some mode.Plain) text)

  good_for : (scene : Option (SceneOf Hostile)) (n : ℕ) (text : List ℕ) → ReachedIn scene n → IsGoodText text → GoodFor scene (line_of (mode_in scene) text)
  good_for None n text r good = tt
  good_for (Some s) n text r good = in_each s.group.mode text good

  either : (b : Bool) (x y : ScriptRun) (events others before : List Event) (named : List Attack) → EndsBehind x.scene x.bad (events ++ before) named → EndsBehind y.scene y.bad (others ++ before) named
      → EndsBehind (if b then x else y).scene (if b then x else y).bad ((if b then events else others) ++ before) named
  either true x y events others before named h k = h
  either false x y events others before named h k = k

  followed : (number n : ℕ) (place : Progress) (t : Trial) (own before : List Event) (named names others : List Attack) (rest : Progress → ScriptRun) (later : Progress → List Event)
      → StandsBehind place before named → TriedReaches t (n + 1) → LeadsOn t (own ++ before) (named ++ names)
      → ((next : Progress) → ReachedIn (scene_in next) (n + 1) → StandsBehind next (own ++ before) (named ++ names) → EndsBehind (rest next).scene (rest next).bad (later next ++ (own ++ before)) ((named ++ names) ++ others))
      → EndsBehind (run_by_trial number place t rest).scene (run_by_trial number place t rest).bad (events_then own t later ++ before) (named ++ (names ++ others))
  followed number n place (Fails k) own before named names others rest later h r on each = stopped place (record { number = number; kind = k }) before named (names ++ others) h
  followed number n place (Does next text) own before named names others rest later h r on each =
      subst (EndsBehind (rest next).scene (rest next).bad (later next ++ own ++ before)) (append_assoc named names others)
      (subst (λ events. EndsBehind (rest next).scene (rest next).bad events ((named ++ names) ++ others)) (sym (append_assoc (later next) own before)) (each next r on))

  played : (total behind number n : ℕ) (place : Progress) (texts : List (List ℕ)) (before : List Event) (named : List Attack) → ReachedIn (scene_in place) n → n + length texts < 2 ^ 32 → AllByRecursion IsGoodText texts
      → StandsBehind place before named
      → EndsBehind (run_from total behind number place texts).scene (run_from total behind number place texts).bad (events_from total behind place texts ++ before) (named ++ attacks_in texts)
  unfolding run_from events_from
  played total behind number n place [] before named r few good h = done number place before named h
  played total behind number n place (text ∷ texts) before named r few good h =
      let next_behind : ℕ = line_end total behind text in
      let l : Option Line = line_of (mode_in (scene_in place)) text in
      let t : Trial = trial_of_line place l in
      let own : List Event = line_events (scene_in place) l in
      let names : List Attack = attack_in (line_of (Some mode.Plain) text) in
      let rest : Progress → ScriptRun = λ next. run_from total next_behind (number + 1) next texts in
      let later : Progress → List Event = λ next. events_from total next_behind next texts in
      let fits : FitsIn l = text_fits (mode_in (scene_in place)) text in
      let short : n + 1 < 2 ^ 32 = omega (arith, few) in
      let all : List Attack = named ++ (names ++ attacks_in texts) in
      either (nat_lt script_limit next_behind) (run_to_bad_line place number 7) (run_by_trial number place t rest) [] (events_then own t later) before all
      (stopped place (record { number = number; kind = 7 }) before named (names ++ attacks_in texts) h)
      (followed number n place t own before named names (attacks_in texts) rest later h (tried place l n r short fits)
      (leads place l n before named names r short fits (good_for (scene_in place) n text r good.0) (names_in (scene_in place) text) h)
      (λ next reached on. played total next_behind (number + 1) (n + 1) next texts (own ++ before) (named ++ names) reached (omega (arith, few)) good.1 on))

  ends-run : (script : List ℕ) → AllByRecursion IsGoodText (lines_of (take (script_limit + 1) script)) → EndsBehind (run_of script).scene (run_of script).bad (script_events script) (attacks_of script)
  unfolding run_of script_events
  ends-run script good =
      let known : List ℕ = take (script_limit + 1) script in
      let p : ScriptRun = run_from (length known) 0 1 Before (lines_of known) in
      subst (λ events. EndsBehind p.scene p.bad events (attacks_of script)) (append-nil (events_from (length known) 0 Before (lines_of known)))
      (played (length known) 0 1 0 Before (lines_of known) [] [] tt (omega (arith, length-take (script_limit + 1) script, length-lines_of known)) good (refl, refl))

  ends-in : (scene : Option (SceneOf Hostile)) (bad : Option Bad) (events : List Event) (named : List Attack) → EndsBehind scene bad events named → (s : SceneOf Hostile) → scene ≡ Some s → Ends s bad events named
  ends-in scene bad events named h s is = subst (λ o. EndsBehind o bad events named) is h

  -- a script's events lead to its scene, and each is such a one
  pub script_comes : (script : List ℕ) → AllByRecursion IsGoodText (lines_of (take (script_limit + 1) script)) → (s : SceneOf Hostile) → (run_of script).scene ≡ Some s
      → Ends s (run_of script).bad (script_events script) (attacks_of script)
  script_comes script good s is = ends-in (run_of script).scene (run_of script).bad (script_events script) (attacks_of script) (ends-run script good) s is

-- ---- every script

abbrev Any : Event → Type 0
Any m = Unit {0}

abbrev AnyLine : Option Line → Type 0
AnyLine l = Unit {0}

makes_any : (s : SceneOf Hostile) (l : Line) → AnyLine (Some l) → AllByRecursion Any (events_of by_kind s l)
makes_any s l good = any (events_of by_kind s l)

-- what is named among others is one of them, or there is none
pub among_is : (named : List Attack) (turned : Option Attack) → IsAmong named turned → (unwrap_or turned no_attack ≡ no_attack) ⊎ IsIn named (unwrap_or turned no_attack)
among_is named None h = inl refl
among_is named (Some a) h = inr h

named_is : (named : List Attack) (turned : Option Attack) → IsNamed named turned → ((named ≡ []) × (unwrap_or turned no_attack ≡ no_attack)) ⊎ (named ≡ unwrap_or turned no_attack ∷ [])
named_is named None h = inl (h, refl)
named_is named (Some a) h = inr h

pub scripts_come : ScriptsComeOfTheirLines
scripts_come script s is =
    let e = script_comes Any AnyLine makes_any (λ kind text good. tt) script (all_each (λ text. Unit {0}) (λ text. tt) (lines_of (take (script_limit + 1) script))) s is in
    record {
      hostile = unwrap_or e.turned no_attack;
      may = e.comes.may;
      is = e.comes.is;
      named = among_is (attacks_of script) e.turned e.among;
      whole = λ good. named_is (attacks_of script) e.turned (e.whole good);
    }
