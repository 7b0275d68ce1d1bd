-- The events of a line that isn't bad may be made.
use Rattle.std.proofs.Common.{◌≡◌, ℕ, zero, suc, ◌+◌, ◌<◌, ◌≤◌, ◌^◌, Bool, true, false, List, [], ◌∷◌, ◌++◌, length, Option, Some, None, is_some, refl, ap, arith}
use Rattle.std.specs.Prelude.{if◌then◌else◌, nat_eq}
use Rattle.std.specs.List.{AllByRecursion}
use Rattle.vic_dict.specs.Lists.{AreBytes}
use Rattle.vic_rules.specs.History.{IsLawful}
use Rattle.vic_order.specs.Serving.{Serving}
use Rattle.vic_order.specs.Scenes.{SceneOf, queue_of, standing_in, last_taken, last_sent, is_client, is_server, waits_in, has_byte, after_serving, Event, Serves, Takes, after_events, MayAllHappen}
use Rattle.vic_order.specs.Honest.{IsHonestEvent}
use Rattle.vic_honest.proofs.Events.{after-group, after_serving-group}
use Rattle.vic_script.specs.declared.line.Line.{Line}
use Rattle.vic_script.specs.declared.line.Line.TheVariants as line
use Rattle.vic_script.specs.Lines.{is_server_number}
use Rattle.vic_script.specs.Scenes.{events_of_hearing, events_of_turns, most_turns, events_of, bad_kind, is_honest_line}
use Rattle.vic_runs.specs.Claims.{FitsLine}
use Rattle.vic_runs.specs.Reached.{IfThere, calls_in}
use Rattle.vic_runs.proofs.Tests.{client_first, passed_last, asked_is, called_is, plain_is, object_called_is, objects_is, waits_is, full, has_byte_waits}
use Rattle.vic_runs.proofs.Scenes.{after_serving-waits}
use Rattle.vic_runs.proofs.Seats.{IsSeated, seated-server, seated-after}
use Rattle.vic_runs.proofs.Sent.{last_taken-bytes}
use Rattle.vic_runs.proofs.Events.{asks, may-joined, good-joined, asks-joined}

-- the client of a line that calls may call once more
abbrev pub HasCallLeft : {V : Type 0} → SceneOf V → Line → Type 0
HasCallLeft s (line.Call i o) = (standing_in s i).calls + 1 < 2 ^ 32
HasCallLeft s (line.Object i c) = (standing_in s i).calls + 1 < 2 ^ 32
HasCallLeft s _ = Unit {0}

-- and so it may where no client was asked for more than so few calls
pub few_calls : {V : Type 0} (s : SceneOf V) (n : ℕ) → ((i : ℕ) → calls_in (standing_in s i) ≤ n) → n + 1 < 2 ^ 32 → (l : Line) → HasCallLeft s l
few_calls s n calls few (line.Clients count) = tt
few_calls s n calls few (line.Objects count) = tt
few_calls s n calls few (line.Key digits) = tt
few_calls s n calls few (line.Hostile name k) = tt
few_calls s n calls few (line.Call i o) = omega (arith, few, calls i)
few_calls s n calls few (line.Object i c) = omega (arith, few, calls i)
few_calls s n calls few (line.Poll i) = tt
few_calls s n calls few (line.Sync i) = tt
few_calls s n calls few (line.Serve i) = tt
few_calls s n calls few (line.Take i) = tt
few_calls s n calls few (line.Run i) = tt
few_calls s n calls few (line.Give i payload) = tt
few_calls s n calls few (line.Again i) = tt
few_calls s n calls few (line.Flip i k) = tt
few_calls s n calls few (line.Resend i) = tt
few_calls s n calls few (line.Copy k t) = tt
few_calls s n calls few (line.Move i k) = tt
few_calls s n calls few line.Skip = tt

-- ---- serve and take in turn

module _ {V : Type 0} (rule : Serving V) where
  by_test : (P : List Event → Type 0) (b : Bool) (some : List Event) → P [] → (b ≡ false → P some) → P (if b then [] else some)
  by_test P true some none h = none
  by_test P false some none h = h refl

  pub events_of_turns-may : (k : ℕ) (s : SceneOf V) → IsSeated s → (i : ℕ) → 0 < i → i ≤ s.group.count → MayAllHappen rule s (events_of_turns rule k s i)
  unfolding events_of_turns
  events_of_turns-may zero s h i above upto = tt
  events_of_turns-may (suc k) s h i above upto =
      by_test (MayAllHappen rule s) (nat_eq (length (queue_of s.up i)) 0) (events_of_turns rule k (after_events rule s (Takes i ∷ Serves i ∷ [])) i ++ Takes i ∷ Serves i ∷ []) tt (λ e.
      let waits = full (queue_of s.up i) e in
      let served : SceneOf V = after_serving rule s i in
      let answer = after_serving-waits rule s i above (omega (arith, upto, h.down_count)) waits (seated-server s h i above upto) in
      let count : served.group.count ≡ s.group.count = ap (λ g. g.count) (after_serving-group rule s i) in
      let two : MayAllHappen rule s (Takes i ∷ Serves i ∷ []) = ((tt, (above, upto, waits)), (above, omega (arith, upto, count), answer)) in
      let next : SceneOf V = after_events rule s (Takes i ∷ Serves i ∷ []) in
      let later : next.group.count ≡ s.group.count = ap (λ g. g.count) (after-group rule s (Takes i ∷ Serves i ∷ [])) in
      may-joined rule s (events_of_turns rule k next i) (Takes i ∷ Serves i ∷ []) two (events_of_turns-may k next (seated-after rule s (Takes i ∷ Serves i ∷ []) h two) i above (omega (arith, upto, later))))

  -- they are honest, and ask nothing
  pub events_of_turns-honest : (k : ℕ) (s : SceneOf V) (i : ℕ) → AllByRecursion IsHonestEvent (events_of_turns rule k s i)
  unfolding events_of_turns
  events_of_turns-honest zero s i = tt
  events_of_turns-honest (suc k) s i =
      by_test (AllByRecursion IsHonestEvent) (nat_eq (length (queue_of s.up i)) 0) (events_of_turns rule k (after_events rule s (Takes i ∷ Serves i ∷ [])) i ++ Takes i ∷ Serves i ∷ []) tt
      (λ e. good-joined rule IsHonestEvent (events_of_turns rule k (after_events rule s (Takes i ∷ Serves i ∷ [])) i) (Takes i ∷ Serves i ∷ []) (events_of_turns-honest k (after_events rule s (Takes i ∷ Serves i ∷ [])) i) (tt, (tt, tt)))

  pub events_of_turns-ask : (k : ℕ) (s : SceneOf V) (i : ℕ) → asks (events_of_turns rule k s i) ≡ 0
  unfolding events_of_turns
  events_of_turns-ask zero s i = refl
  events_of_turns-ask (suc k) s i =
      by_test (λ events. asks events ≡ 0) (nat_eq (length (queue_of s.up i)) 0) (events_of_turns rule k (after_events rule s (Takes i ∷ Serves i ∷ [])) i ++ Takes i ∷ Serves i ∷ []) refl
      (λ e. omega (arith, asks-joined rule (events_of_turns rule k (after_events rule s (Takes i ∷ Serves i ∷ [])) i) (Takes i ∷ Serves i ∷ []), events_of_turns-ask k (after_events rule s (Takes i ∷ Serves i ∷ [])) i))

  -- ---- the lines

  hears-may : (s : SceneOf V) (i : ℕ) → 0 < i → i ≤ s.group.count → (o : Option (List ℕ)) → IfThere AreBytes o → MayAllHappen rule s (events_of_hearing i o)
  hears-may s i above upto None bytes = tt
  hears-may s i above upto (Some payload) bytes = (tt, (above, upto, bytes))

  -- in a group whose clients step by the rules
  pub line-may : (s : SceneOf V) (l : Line) → IsSeated s → IsLawful s.group s.history → HasCallLeft s l → bad_kind s l ≡ None → FitsLine l → MayAllHappen rule s (events_of rule s l)
  unfolding bad_kind
  line-may s (line.Clients count) h lawful left good fits = tt
  line-may s (line.Objects count) h lawful left good fits = tt
  line-may s (line.Key digits) h lawful left good fits = tt
  line-may s (line.Hostile name k) h lawful left good fits = tt
  line-may s (line.Call i o) h lawful left good fits = let a = called_is s i o good in (tt, (a.above, a.upto, (a.idle, (plain_is s i o good, (fits.0, (fits.1, left))))))
  line-may s (line.Object i c) h lawful left good fits = let a = object_called_is s i c good in (tt, (a.above, a.upto, (a.idle, (objects_is s i c good, (fits.0, (fits.1, left))))))
  line-may s (line.Poll i) h lawful left good fits = let a = asked_is s i good in (tt, (a.above, a.upto, a.idle))
  line-may s (line.Sync i) h lawful left good fits = let a = asked_is s i good in (tt, (a.above, a.upto, a.idle))
  line-may s (line.Serve i) h lawful left good fits =
      let bounds = client_first s i ((5, waits_in s.up i) ∷ []) good in (tt, (bounds.0, bounds.1, waits_is (queue_of s.up i) (passed_last 2 (is_client s i) 5 (waits_in s.up i) good)))
  line-may s (line.Take i) h lawful left good fits =
      let bounds = client_first s i ((5, waits_in s.down i) ∷ []) good in (tt, (bounds.0, bounds.1, waits_is (queue_of s.down i) (passed_last 2 (is_client s i) 5 (waits_in s.down i) good)))
  line-may s (line.Run i) h lawful left good fits = let bounds = client_first s i [] good in events_of_turns-may most_turns s h i bounds.0 bounds.1
  line-may s (line.Give i payload) h lawful left good fits = let bounds = client_first s i [] good in (tt, (bounds.0, bounds.1, fits))
  line-may s (line.Again i) h lawful left good fits =
      let bounds = client_first s i ((5, is_some (last_taken i s.history)) ∷ []) good in hears-may s i bounds.0 bounds.1 (last_taken i s.history) (last_taken-bytes s.group s.history lawful i)
  line-may s (line.Flip i k) h lawful left good fits =
      let bounds = client_first s i ((5, has_byte s.down i k) ∷ []) good in (tt, (bounds.0, bounds.1, has_byte_waits (queue_of s.down i) k (passed_last 2 (is_client s i) 5 (has_byte s.down i k) good)))
  line-may s (line.Resend i) h lawful left good fits = let bounds = client_first s i ((5, is_some (last_sent i s.history)) ∷ []) good in (tt, (bounds.0, bounds.1))
  line-may s (line.Copy k t) h lawful left good fits = (tt, passed_last 1 (is_server_number t) 6 (is_server s k) good)
  line-may s (line.Move i k) h lawful left good fits =
      let bounds = client_first s i ((6, is_server s k) ∷ []) good in (tt, (bounds.0, bounds.1, passed_last 2 (is_client s i) 6 (is_server s k) good))
  line-may s line.Skip h lawful left good fits = tt

  hears-ask : (i : ℕ) (o : Option (List ℕ)) → asks (events_of_hearing i o) ≤ 1
  hears-ask i None = omega arith
  hears-ask i (Some payload) = omega arith

  -- a line asks at most once
  pub line-asks : (s : SceneOf V) (l : Line) → asks (events_of rule s l) ≤ 1
  line-asks s (line.Clients count) = omega arith
  line-asks s (line.Objects count) = omega arith
  line-asks s (line.Key digits) = omega arith
  line-asks s (line.Hostile name k) = omega arith
  line-asks s (line.Call i o) = omega arith
  line-asks s (line.Object i c) = omega arith
  line-asks s (line.Poll i) = omega arith
  line-asks s (line.Sync i) = omega arith
  line-asks s (line.Serve i) = omega arith
  line-asks s (line.Take i) = omega arith
  line-asks s (line.Run i) = omega (arith, events_of_turns-ask most_turns s i)
  line-asks s (line.Give i payload) = omega arith
  line-asks s (line.Again i) = hears-ask i (last_taken i s.history)
  line-asks s (line.Flip i k) = omega arith
  line-asks s (line.Resend i) = omega arith
  line-asks s (line.Copy k t) = omega arith
  line-asks s (line.Move i k) = omega arith
  line-asks s line.Skip = omega arith

  -- an honest line makes honest events
  pub line-honest : (s : SceneOf V) (l : Line) → is_honest_line l ≡ true → AllByRecursion IsHonestEvent (events_of rule s l)
  line-honest s (line.Clients count) e = tt
  line-honest s (line.Objects count) e = tt
  line-honest s (line.Key digits) e = tt
  line-honest s (line.Hostile name k) e = tt
  line-honest s (line.Call i o) e = (tt, tt)
  line-honest s (line.Object i c) e = (tt, tt)
  line-honest s (line.Poll i) e = (tt, tt)
  line-honest s (line.Sync i) e = (tt, tt)
  line-honest s (line.Serve i) e = (tt, tt)
  line-honest s (line.Take i) e = (tt, tt)
  line-honest s (line.Run i) e = events_of_turns-honest most_turns s i
  line-honest s (line.Give i payload) e = absurd cc
  line-honest s (line.Again i) e = absurd cc
  line-honest s (line.Flip i k) e = absurd cc
  line-honest s (line.Resend i) e = absurd cc
  line-honest s (line.Copy k t) e = absurd cc
  line-honest s (line.Move i k) e = absurd cc
  line-honest s line.Skip e = tt
