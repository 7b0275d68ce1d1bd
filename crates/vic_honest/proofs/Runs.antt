-- What each honest run shows.
use Rattle.vic_rules.specs.Trust.{IsForged}
use Rattle.vic_rules.specs.declared.trace.TraceStep.{TraceStep}
use Rattle.vic_rules.specs.declared.object.ObjectOutcome.{ObjectOutcome}
use Rattle.vic_dict.specs.Lists.{IsIn}
use Rattle.std.proofs.Common.{◌≡◌, ℕ, List, [], ◌∷◌, Option, Some, None, refl, sym, ap, subst, ◌∙◌, ◌<◌, ◌≤◌}
use Rattle.std.specs.Prelude.{if◌then◌else◌}
use Rattle.std.proofs.lemmas.Option.{same_Some}
use Rattle.vic_dict.specs.declared.op.Outcome.{Outcome}
use Rattle.vic_dict.specs.declared.op.Outcome.TheVariants as outcome
use Rattle.vic_dict.specs.Dictionary.{Dictionary, after}
use Rattle.vic_wire.specs.Trees.{dictionary_root}
use Rattle.vic_rules.specs.declared.trace.Shown.{Shown}
use Rattle.vic_rules.specs.Client.{is_done, decided_outcome, in_the_way}
use Rattle.vic_rules.specs.History.{completions, Completion, IsLawful}
use Rattle.vic_rules.specs.Views.{left_by, Explains}
use Rattle.vic_laws.proofs.Words.{all_at}
use Rattle.vic_laws.proofs.Dictionaries.{leaves_done}
use Rattle.vic_order.specs.Order.{Ordered, Server}
use Rattle.vic_order.specs.Fates.{entries, fate, dictionary_by}
use Rattle.vic_order.specs.Scenes.{Scene, server_at, Event}
use Rattle.vic_order.specs.Honest.{IsHonestRun}
use Rattle.vic_honest.specs.SafeRuns.{IsSafeRun}
use Rattle.vic_honest.specs.Claims.{AbortsLeaveNothing, LogsAreLegal, shown_log, GoesOn, IsFrontOf, SealedSo, StandsAsFated}
use Rattle.vic_honest.proofs.Standing.{SceneFits}
use Rattle.vic_honest.proofs.Worlds.{server_after, all_fit}
use Rattle.vic_honest.proofs.Owns.{root_on}
use Rattle.vic_honest.proofs.Deciding.{dictionary-next}
use Rattle.vic_honest.proofs.Checks.{seal_on-root}
use Rattle.vic_honest.proofs.Answering.{count_is, top_is}
use Rattle.vic_honest.proofs.Learning.{IsFated, IsFine, EndsFine}
use Rattle.vic_honest.proofs.Sent.{IsApart, SceneSent, all_sent}
use Rattle.vic_honest.proofs.Known.{SceneKnows, all_known}

-- the server that honest events leave is the run's
server_left : (s : Scene) (server v : Server) (events : List Event) → IsHonestRun s server events → SceneFits s v → v ≡ server
server_left s server v events run fit = same_Some v server (sym (ap (λ l. server_at l 1) fit.one.only) ∙ run.one)

scene_fits : (s : Scene) (server : Server) (events : List Event) → IsHonestRun s server events → SceneFits s (server_after s.group events)
scene_fits s server events run = subst (λ t. SceneFits t (server_after s.group events)) (sym run.is) (all_fit s.group run.group events run.may)

pub run_fits : (s : Scene) (server : Server) (events : List Event) → IsHonestRun s server events → SceneFits s server
run_fits s server events run =
    let fit = scene_fits s server events run in subst (SceneFits s) (server_left s server (server_after s.group events) events run fit) fit

pub run_knows : (s : Scene) (server : Server) (events : List Event) → IsSafeRun s server events → SceneKnows s server
run_knows s server events run =
    let fit = scene_fits s server events run.honest in
    let know : SceneKnows s (server_after s.group events) =
    subst (λ t. SceneKnows t (server_after s.group events)) (sym run.honest.is) (all_known s.group run.honest.group events run.honest.may (subst IsApart run.honest.is run.apart)) in
    subst (SceneKnows s) (server_left s server (server_after s.group events) events run.honest fit) know

-- what is kept, clients sent
pub run_sent : (s : Scene) (server : Server) (events : List Event) → IsHonestRun s server events → SceneSent s server
run_sent s server events run =
    let fit = scene_fits s server events run in
    let sent : SceneSent s (server_after s.group events) = subst (λ t. SceneSent t (server_after s.group events)) (sym run.is) (all_sent s.group run.group events run.may) in
    subst (SceneSent s) (server_left s server (server_after s.group events) events run fit) sent

pub tags_made : (s : Scene) (server : Server) (events : List Event) → IsHonestRun s server events → IsForged s.group s.history → ⊥
tags_made s server events run = (run_fits s server events run).fits.honest

pub all_lawful : (s : Scene) (server : Server) (events : List Event) → IsHonestRun s server events → IsLawful s.group s.history
all_lawful s server events run = record { group = run.group; steps = (run_fits s server events run).fits.steps }

pub all_fronts : (s : Scene) (server : Server) (events : List Event) → IsHonestRun s server events → (me : ℕ) → 0 < me → me ≤ s.group.count → IsFrontOf s server me
all_fronts s server events run me above upto =
    let c = (run_fits s server events run).fits.clients me above upto in record { newer = c.newer; seen = c.seen; log = c.is; path = c.path }

pub never_halted : (x : Option Outcome) (check : ℕ) → IsFine x → x ≡ Some (outcome.Halted check) → ⊥
never_halted x check fine e = subst IsFine e fine

pub all_go_on : (s : Scene) (server : Server) (events : List Event) → IsSafeRun s server events → (me : ℕ) → 0 < me → me ≤ s.group.count → GoesOn s me
all_go_on s server events run me above upto =
    let know = run_knows s server events run in
    record {
      standing_so = (know.clients me above upto).keeps.going;
      returns_so = λ x there check e. never_halted x.returned check (all_at (λ y. IsFine y.returned) s.history x know.fine there) e;
    }

pub all_fated : (s : Scene) (server : Server) (events : List Event) → IsSafeRun s server events → (c : Completion) → IsIn (completions s.group s.history) c → StandsAsFated server.log c
all_fated s server events run c there =
    let f = all_at (IsFated server.log) (completions s.group s.history) c (run_knows s server events run).fates there in
    record { newer = f.newer; o = f.o; below = f.below; is = f.is; client = f.client; prefix = f.prefix; outcome = f.outcome }

pub all_refusals : (s : Scene) (server : Server) (events : List Event) → IsSafeRun s server events → (x : TraceStep) → IsIn s.history x → (r : ℕ) → x.returned ≡ Some (outcome.Refused r) → (0 < r) × (r ≤ 4)
all_refusals s server events run x there r e = subst IsFine e (all_at (λ y. IsFine y.returned) s.history x (run_knows s server events run).fine there)

pub all_ends : (s : Scene) (server : Server) (events : List Event) → IsSafeRun s server events → (x : TraceStep) → IsIn s.history x → (o : ObjectOutcome) → x.object ≡ Some o → EndsFine s.group.mode server.contents (Some o)
all_ends s server events run x there o e =
    subst (EndsFine s.group.mode server.contents) e (all_at (λ y. EndsFine s.group.mode server.contents y.object) s.history x (run_knows s server events run).ends there)

pub all_sealed : (s : Scene) (server : Server) (events : List Event) → IsSafeRun s server events → SealedSo server
unfolding root_on
all_sealed s server events run =
    let k = (run_knows s server events run).server in
    record {
      unsealed = k.over;
      sealed = k.base;
      is = k.is;
      count = count_is s.group server k;
      dictionary = k.dictionary;
      root = ap (λ x. x.root.bytes) (top_is s.group server k) ∙ seal_on-root s.group k.base ∙ ap dictionary_root (sym k.dictionary);
    }

pub aborts_leave_nothing : AbortsLeaveNothing
aborts_leave_nothing o below e = dictionary-next o below ∙ ap (λ b. if b then after (dictionary_by below) o.entry.op else dictionary_by below) e

-- ---- one legal history

decided_explains : (w : Option ℕ) (d : Dictionary) (x : Shown) → Explains d x (decided_outcome w d x.entry.op)
decided_explains None d x = refl
decided_explains (Some u) d x = tt

fate_explains : (o : Ordered) (below : List Ordered) → Explains (dictionary_by below) (record { entry = o.entry; outcome = fate o below }) (fate o below)
unfolding fate
fate_explains o below =
    decided_explains (in_the_way o.entry.client o.entry.op o.sealed_then (entries below)) (dictionary_by below) (record { entry = o.entry; outcome = fate o below })

pub logs_are_legal : LogsAreLegal
unfolding left_by dictionary_by
logs_are_legal [] = (tt, refl)
logs_are_legal (o ∷ below) =
    let rest = logs_are_legal below in
    let x : Shown = record { entry = o.entry; outcome = fate o below } in (
      (rest.0, subst (λ d. Explains d x (fate o below)) (sym rest.1) (fate_explains o below)),
      leaves_done (left_by (shown_log below)) x (fate o below) ∙ ap (λ d. if is_done (fate o below) then after d o.entry.op else d) rest.1 ∙ sym (dictionary-next o below),
    )
