-- The events of an honest script's lines are a run of clients with one honest server.
use Rattle.std.proofs.Common.{◌≡◌, ℕ, ◌+◌, true, List, [], ◌++◌, take, Option, Some, inl, inr, refl, sym, ap, subst, ◌∙◌}
use Rattle.std.specs.Prelude.{◌⊎◌, unwrap_or}
use Rattle.std.specs.List.{AllByRecursion}
use Rattle.std.proofs.lemmas.List.{append-nil}
use Rattle.vic_dict.specs.Lists.{IsIn}
use Rattle.vic_dict.specs.declared.op.Mode.{Mode}
use Rattle.vic_dict.specs.declared.op.Mode.TheVariants as mode
use Rattle.vic_wire.specs.Hashes.{Group}
use Rattle.vic_order.specs.Order.{fresh_server, ready_member}
use Rattle.vic_order.specs.Honest.{IsHonestEvent, ComesHonestly}
use Rattle.vic_order.specs.Scenes.{SceneOf, Event, after_events, MayAllHappen}
use Rattle.vic_attacks.specs.Hostile.{Hostile, hostile_from, by_kind}
use Rattle.vic_script.specs.declared.line.Line.{Line}
use Rattle.vic_script.specs.Lines.{lines_of, line_of}
use Rattle.vic_script.specs.Scenes.{events_of}
use Rattle.vic_script.specs.Run.{script_limit, Attack, no_attack, opening_as, is_honest}
use Rattle.vic_runs.specs.Reached.{GoesAs, IsHonestlyReached}
use Rattle.vic_runs.proofs.Events.{asks}
use Rattle.vic_runs.proofs.Kept.{goes_is_kept}
use Rattle.vic_runs.proofs.Lines.{line-honest}
use Rattle.vic_runs.proofs.Words.{in_each_mode}
use Rattle.vic_runs.proofs.Honest.{IsBehind, honest-opening, honest-opening_none, honest-behind}
use Rattle.vic_runs.proofs.Runs.{all_honest, honest-texts}
use Rattle.vic_script_runs.specs.Events.{script_events}
use Rattle.vic_script_runs.specs.Claims.{attacks_of, HonestRunsAreTheirLines}
use Rattle.vic_script_runs.proofs.Attacks.{honest_texts_name_none}
use Rattle.vic_script_runs.proofs.Leading.{among_is, script_comes}

-- a line that an honest script may have
abbrev IsHonestLine : Option Line → Type 0
IsHonestLine l = is_honest l ≡ true

makes_honest : (s : SceneOf Hostile) (l : Line) → IsHonestLine (Some l) → AllByRecursion IsHonestEvent (events_of by_kind s l)
makes_honest s l honest = line-honest by_kind s l honest

in_each : (kind : Mode) (text : List ℕ) → IsHonestLine (line_of (Some mode.Plain) text) → IsHonestLine (line_of (Some kind) text)
in_each kind text honest = in_each_mode kind text ∙ honest

-- where no line names an attack there is none
none_named : (named : List Attack) (a : Attack) → named ≡ [] → (a ≡ no_attack) ⊎ IsIn named a → a ≡ no_attack
none_named named a none (inl e) = e
none_named named a none (inr i) = absurd (subst (λ list. IsIn list a) none i)

pub honest_runs : HonestRunsAreTheirLines
honest_runs script honest s is =
    let c : ComesHonestly GoesAs s = all_honest script honest s is in
    let texts = honest-texts script honest in
    let e = script_comes IsHonestEvent IsHonestLine makes_honest in_each script texts s is in
    let g : Group = s.group in
    let events : List Event = script_events script in
    let none : unwrap_or e.turned no_attack ≡ no_attack =
    none_named (attacks_of script) (unwrap_or e.turned no_attack) (honest_texts_name_none (lines_of (take (script_limit + 1) script)) texts) (among_is (attacks_of script) e.turned e.among) in
    let first : SceneOf Hostile = opening_as g no_attack in
    let server : Hostile = hostile_from no_attack.kind no_attack.after (fresh_server g.mode g.count ready_member) in
    let opened : IsHonestlyReached GoesAs first 0 = honest-opening GoesAs g server c.run.group (refl, refl) in
    let may : MayAllHappen by_kind first events = subst (λ a. MayAllHappen by_kind (opening_as g a) events) none e.comes.may in
    let b : IsBehind GoesAs first 0 opened events (after_events by_kind first events) (0 + asks events) = honest-behind GoesAs by_kind goes_is_kept first 0 events opened may e.comes.each in
    let at : s ≡ after_events by_kind first events = e.comes.is ∙ ap (λ a. after_events by_kind (opening_as g a) events) none in
    subst (λ t. (d : ComesHonestly GoesAs t) × (d.events ≡ events)) (sym at)
    (b.reached.comes, b.events ∙ (ap (λ es. events ++ es) (honest-opening_none GoesAs g server c.run.group (refl, refl)) ∙ append-nil events))
