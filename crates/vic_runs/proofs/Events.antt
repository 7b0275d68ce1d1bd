-- What each event keeps, events keep.
use Rattle.std.proofs.Common.{◌≡◌, ℕ, ◌+◌, List, [], ◌∷◌, ◌++◌, refl, sym, ap, subst, ◌∙◌, arith}
use Rattle.std.specs.List.{AllByRecursion}
use Rattle.std.proofs.lemmas.List.{append-nil, append_assoc}
use Rattle.vic_order.specs.Serving.{Serving}
use Rattle.vic_rules.specs.declared.trace.Input.{Input}
use Rattle.vic_rules.specs.declared.trace.Input.TheVariants as input
use Rattle.vic_rules.specs.Client.{MayStep}
use Rattle.vic_order.specs.Scenes.{SceneOf, standing_in, MayAsk, Event, Asks, Serves, Takes, Flips, Hears, Resends, Copies, Joins, after_event, after_events, MayHappen, MayAllHappen}
use Rattle.vic_script.specs.Scenes.{print_of_event, print_of_events}

-- how many of the events ask a client
abbrev pub asked : Event → ℕ
asked (Asks i given) = 1
asked (Serves i) = 0
asked (Takes i) = 0
asked (Flips i n) = 0
asked (Hears i payload) = 0
asked (Resends i) = 0
asked (Copies n t) = 0
asked (Joins i n) = 0

abbrev pub asks : List Event → ℕ
asks [] = 0
asks (m ∷ before) = asks before + asked m

-- what may be asked is a step that may be made
pub may-step : {V : Type 0} (s : SceneOf V) (i : ℕ) (given : Input) → MayAsk s i given → MayStep s.group (standing_in s i) given
may-step s i (input.Call o) may = may
may-step s i (input.Object c) may = may
may-step s i input.Poll may = may
may-step s i input.Sync may = may
may-step s i (input.Payload payload) may = absurd may

module _ {V : Type 0} (rule : Serving V) where
  -- what holds of a scene in which no client was called more than n times, and is kept by each good event, is kept by them
  pub kept-after : (P : SceneOf V → ℕ → Type 0) (Good : Event → Type 0) → ((s : SceneOf V) (n : ℕ) (m : Event) → P s n → MayHappen s m → Good m → P (after_event rule s m) (n + asked m))
      → (s : SceneOf V) (n : ℕ) (events : List Event) → P s n → MayAllHappen rule s events → AllByRecursion Good events → P (after_events rule s events) (n + asks events)
  kept-after P Good each s n [] h may good = subst (P s) (omega arith) h
  kept-after P Good each s n (m ∷ before) h may good =
      let next = each (after_events rule s before) (n + asks before) m (kept-after P Good each s n before h may.0 good.1) may.1 good.0 in subst (P (after_events rule s (m ∷ before))) (omega arith) next

  -- ---- one list of events behind another

  pub after-joined : (s : SceneOf V) (later before : List Event) → after_events rule s (later ++ before) ≡ after_events rule (after_events rule s before) later
  after-joined s [] before = refl
  after-joined s (m ∷ later) before = ap (λ t. after_event rule t m) (after-joined s later before)

  pub print-joined : (s : SceneOf V) (later before : List Event) → print_of_events rule s (later ++ before) ≡ print_of_events rule s before ++ print_of_events rule (after_events rule s before) later
  print-joined s [] before = sym (append-nil (print_of_events rule s before))
  print-joined s (m ∷ later) before =
      ap (λ text. text ++ print_of_event m (after_event rule (after_events rule s (later ++ before)) m).history) (print-joined s later before)
      ∙ ap (λ t. (print_of_events rule s before ++ print_of_events rule (after_events rule s before) later) ++ print_of_event m (after_event rule t m).history) (after-joined s later before)
      ∙ append_assoc (print_of_events rule s before) (print_of_events rule (after_events rule s before) later) (print_of_event m (after_event rule (after_events rule (after_events rule s before) later) m).history)

  pub may-joined : (s : SceneOf V) (later before : List Event) → MayAllHappen rule s before → MayAllHappen rule (after_events rule s before) later → MayAllHappen rule s (later ++ before)
  may-joined s [] before a b = a
  may-joined s (m ∷ later) before a b = (may-joined s later before a b.0, subst (λ t. MayHappen t m) (sym (after-joined s later before)) b.1)

  pub good-joined : (Good : Event → Type 0) (later before : List Event) → AllByRecursion Good later → AllByRecursion Good before → AllByRecursion Good (later ++ before)
  good-joined Good [] before a b = b
  good-joined Good (m ∷ later) before a b = (a.0, good-joined Good later before a.1 b)

  pub asks-joined : (later before : List Event) → asks (later ++ before) ≡ asks before + asks later
  asks-joined [] before = omega arith
  asks-joined (m ∷ later) before = omega (arith, asks-joined later before)
