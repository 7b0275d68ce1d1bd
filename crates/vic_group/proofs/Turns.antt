-- Serving and taking in turn.
use Rattle.std.proofs.Common.{◌≡◌, ℕ, zero, suc, ◌+◌, ◌-◌, ◌<◌, Bool, true, false, List, [], ◌∷◌, ◌++◌, length, Option, Some, None, is_some, Result, Ok, Err, OnOk, OnErr, nat_eq, nat_lt, if◌then◌else◌, inl, inr, refl, sym, ap, subst, ◌∙◌, arith, slice_get}
use Rattle.std.specs.Prelude.{unwrap_or, ◌⊎◌}
use Rattle.std.proofs.Math.Dec.{eqb-suc-zero}
use Rattle.std.proofs.lemmas.Bool.{lt-ltb}
use Rattle.std.proofs.lemmas.List.{append-nil, append_assoc, length-append, length-map}
use Rattle.vic_dict.specs.declared.bytes.NoMemory.{NoMemory}
use Rattle.vic_order.specs.Serving.{Serving}
use Rattle.vic_view.specs.declared.transcript.Transcript.{Transcript}
use Rattle.vic_order.specs.Scenes.{SceneOf, Queue, queue_of, server_at, server_of, after_serving_from, after_serving, waits_in, Event, Serves, Takes, after_events}
use Rattle.vic_runs.proofs.Events.{after-joined, print-joined}
use Rattle.vic_script.specs.Scenes.{print_of_events, events_of_turns}
use Rattle.vic_group.specs.declared.member.Member.{Member}
use Rattle.vic_group.specs.declared.world.World.{World}
use Rattle.vic_group.specs.World.{ShowsParts, ShowsScene, Makes, MakesIf, TurnsLeftWithoutMemory, states}
use Rattle.vic_group.proofs.Scenes.{get_set, server_here, placed_here}

-- whether a queue holds something
pub none_in : (q : Queue) → nat_lt 0 (length q) ≡ false → q ≡ []
none_in [] none = refl
none_in (p ∷ q) none = let some : nat_lt 0 (suc (length q)) ≡ true = lt-ltb 0 (suc (length q)) (omega arith) in absurd cc

pub some_in : (q : Queue) (p : List ℕ) (rest : Queue) → q ≡ p ∷ rest → nat_lt 0 (length q) ≡ true
some_in q p rest e = ap (λ (r : Queue). nat_lt 0 (length r)) e ∙ lt-ltb 0 (suc (length rest)) (omega arith)

pub is_empty : (q : Queue) → nat_lt 0 (length q) ≡ false → nat_eq (length q) 0 ≡ true
is_empty q none = ap (λ (p : Queue). nat_eq (length p) 0) (none_in q none)

pub not_empty : (q : Queue) → nat_lt 0 (length q) ≡ true → nat_eq (length q) 0 ≡ false
not_empty [] some = absurd cc
not_empty (p ∷ q) some = eqb-suc-zero (length q)

module _ {V : Type 0} (rule : Serving V) where
  -- nothing is served where no request waits
  pub serves_rest : (s : SceneOf V) (i : ℕ) → waits_in s.up i ≡ false → after_serving rule s i ≡ s
  unfolding after_serving
  serves_rest s i none = ap (λ (q : Queue). after_serving_from rule s i q (server_at s.servers (server_of s.served_by i))) (none_in (queue_of s.up i) none)

  -- no turn where none is left, nor where no request waits
  pub turns_end : (n : ℕ) (s : SceneOf V) (i : ℕ) → n ≡ 0 → events_of_turns rule n s i ≡ []
  unfolding events_of_turns
  turns_end zero s i is = refl
  turns_end (suc n) s i is = absurd (omega arith)

  pub turns_rest : (n : ℕ) (s : SceneOf V) (i : ℕ) → waits_in s.up i ≡ false → events_of_turns rule n s i ≡ []
  unfolding events_of_turns
  turns_rest zero s i none = refl
  turns_rest (suc n) s i none =
      ap (λ (b : Bool). if b then [] else events_of_turns rule n (after_events rule s (Takes i ∷ Serves i ∷ [])) i ++ Takes i ∷ Serves i ∷ []) (is_empty (queue_of s.up i) none)

  -- one turn, and those behind it
  pub turns_on : (n m : ℕ) (s : SceneOf V) (i : ℕ) → n ≡ m + 1 → waits_in s.up i ≡ true
      → events_of_turns rule n s i ≡ events_of_turns rule m (after_events rule s (Takes i ∷ Serves i ∷ [])) i ++ Takes i ∷ Serves i ∷ []
  unfolding events_of_turns
  turns_on zero m s i is some = absurd (omega arith)
  turns_on (suc n) m s i is some =
      let same : n ≡ m = omega arith in
      ap (λ (b : Bool). if b then [] else events_of_turns rule n (after_events rule s (Takes i ∷ Serves i ∷ [])) i ++ Takes i ∷ Serves i ∷ []) (not_empty (queue_of s.up i) some)
      ∙ ap (λ (k : ℕ). events_of_turns rule k (after_events rule s (Takes i ∷ Serves i ∷ [])) i ++ Takes i ∷ Serves i ∷ []) same

  -- where a request was served, an answer waits
  pub answer_waits : (s : SceneOf V) (i : ℕ) → i - 1 < length s.down → is_some (server_at s.servers (server_of s.served_by i)) ≡ true → waits_in s.up i ≡ true → waits_in (after_serving rule s i).down i ≡ true
  unfolding after_serving
  answer_waits s i lt there some = by_both (queue_of s.up i) (server_at s.servers (server_of s.served_by i)) some there
    where
      by_both : (q : Queue) (o : Option V) → nat_lt 0 (length q) ≡ true → is_some o ≡ true → waits_in (after_serving_from rule s i q o).down i ≡ true
      by_both [] o waits is = absurd cc
      by_both (p ∷ q) None waits is = absurd cc
      by_both (p ∷ q) (Some v) waits is =
          let own : Queue = queue_of s.down i ++ (rule v i i p).0 ∷ [] in
          let long : length own ≡ length (queue_of s.down i) + 1 = length-append (queue_of s.down i) ((rule v i i p).0 ∷ []) in
          ap (λ (o : Option Queue). nat_lt 0 (length (unwrap_or o []))) (get_set s.down (i - 1) own lt) ∙ lt-ltb 0 (length own) (omega arith)

-- the member at a place
pub member_in : (ms : List Member) (k : ℕ) → k < length ms → (m : Member) × (slice_get ms k ≡ Some m)
member_in [] k lt = absurd (omega (arith, lt))
member_in (m ∷ ms) zero lt = (m, refl)
member_in (m ∷ ms) (suc k) lt = member_in ms k (omega (arith, lt))

-- a client's queue of answers stands in its row
pub within_down : {V : Type 0} (t : Transcript) (ms : List Member) (vs : List (Option V)) (s : SceneOf V) (i k : ℕ) → ShowsParts t ms vs s → i ≡ k + 1 → k < length ms → i - 1 < length s.down
within_down t ms vs s i k shows is lt =
    let as_long : length s.down ≡ length ms = ap (λ (qs : List Queue). length qs) (sym shows.down) ∙ length-map ms (λ (m : Member). m.down) in
    omega arith

-- and the server that serves it exists
pub server_there : {V : Type 0} (t : Transcript) (ms : List Member) (vs : List (Option V)) (s : SceneOf V) (i k : ℕ) (m : Member) → ShowsParts t ms vs s → i ≡ k + 1 → slice_get ms k ≡ Some m
    → is_some (server_at s.servers (server_of s.served_by i)) ≡ true
server_there {V = V} t ms vs s i k m shows is at =
    ap (λ (n : ℕ). is_some (server_at s.servers n)) (server_here t ms vs s i k m shows is at)
    ∙ ap (λ (us : List (Option V)). is_some (server_at us m.server)) (sym shows.servers) ∙ placed_here t ms vs s i k m shows is at

module _ {S V : Type 0} (state : S → V) (rule : Serving V) where
  -- a taking where an answer waited
  pub taken_aloud : (s : SceneOf V) (i : ℕ) (w : World S) (before after : List ℕ) (went : Bool) → waits_in s.down i ≡ went → waits_in s.down i ≡ true → MakesIf state rule s (Takes i) w before after went
      → Makes state rule s (Takes i ∷ []) w before after
  taken_aloud s i w before after went is some does = subst (λ (g : Bool). MakesIf state rule s (Takes i) w before after g) (sym is ∙ some) does

  -- what a run prints where it does nothing
  pub runs_quietly : (events : List Event) (s : SceneOf V) (w : World S) (before : List ℕ) → events ≡ [] → ShowsScene state w s → Makes state rule s events w before before
  runs_quietly events s w before is shows = subst (λ (ms : List Event). Makes state rule s ms w before before) (sym is) (sym (append-nil before), shows)

  -- events behind others
  makes_on : (s : SceneOf V) (later first : List Event) (before mid after : List ℕ) (w : World S) → mid ≡ before ++ print_of_events rule s first → Makes state rule (after_events rule s first) later w mid after
      → Makes state rule s (later ++ first) w before after
  makes_on s later first before mid after w printed goes = (
    goes.0 ∙ ap (λ (front : List ℕ). front ++ print_of_events rule (after_events rule s first) later) printed
        ∙ append_assoc before (print_of_events rule s first) (print_of_events rule (after_events rule s first) later)
        ∙ ap (λ (text : List ℕ). before ++ text) (sym (print-joined rule s later first)),
    subst (λ (t : SceneOf V). ShowsScene state w t) (sym (after-joined rule s later first)) goes.1,
  )

  -- the same of what may have found no memory
  pub makes_on_if : {T : Type 0} (r : Result T NoMemory) (s : SceneOf V) (all later first : List Event) (before mid after : List ℕ) (w : World S) → all ≡ later ++ first → mid ≡ before ++ print_of_events rule s first
      → OnOk r (Makes state rule (after_events rule s first) later w mid after) → OnOk r (Makes state rule s all w before after)
  makes_on_if (Err e) s all later first before mid after w is printed goes = tt
  makes_on_if (Ok done) s all later first before mid after w is printed goes =
      subst (λ (ms : List Event). Makes state rule s ms w before after) (sym is) (makes_on s later first before mid after w printed goes)

  -- ---- where memory ran out

  -- as a request was to be served, nothing has changed
  pub left_unserved : (n : ℕ) (s : SceneOf V) (i : ℕ) (w : World S) → 0 < n → ShowsScene state w s → TurnsLeftWithoutMemory state rule n s i w
  unfolding events_of_turns
  left_unserved n s i w lt shows = (0, (lt, inl shows))

  -- as its answer was to be taken, it was served alone
  pub left_untaken : (n : ℕ) (s : SceneOf V) (i : ℕ) (w : World S) → 0 < n → ShowsScene state w (after_serving rule s i) → TurnsLeftWithoutMemory state rule n s i w
  unfolding events_of_turns
  left_untaken n s i w lt shows = (0, (lt, inr shows))

  -- later on, what was left then
  pub left_later : (n m : ℕ) (s : SceneOf V) (i : ℕ) (w : World S) → n ≡ m + 1 → waits_in s.up i ≡ true → TurnsLeftWithoutMemory state rule m (after_events rule s (Takes i ∷ Serves i ∷ [])) i w → TurnsLeftWithoutMemory state rule n s i w
  left_later n m s i w is some left =
      let two : List Event = Takes i ∷ Serves i ∷ [] in
      let next : SceneOf V = after_events rule s two in
      let on : after_events rule s (events_of_turns rule (left.0 + 1) s i) ≡ after_events rule next (events_of_turns rule left.0 next i) =
      ap (after_events rule s) (turns_on rule (left.0 + 1) left.0 s i refl some) ∙ after-joined rule s (events_of_turns rule left.0 next i) two in (
        left.0 + 1,
        (
          omega (arith, is, left.1.0),
          subst (λ (x : SceneOf V). ShowsScene state w x ⊎ ShowsScene state w (after_serving rule x i)) (sym on) left.1.1,
        ),
      )

  pub left_later_if : {T : Type 0} (r : Result T NoMemory) (n m : ℕ) (s : SceneOf V) (i : ℕ) (w : World S) → n ≡ m + 1 → waits_in s.up i ≡ true
      → OnErr r (TurnsLeftWithoutMemory state rule m (after_events rule s (Takes i ∷ Serves i ∷ [])) i w) → OnErr r (TurnsLeftWithoutMemory state rule n s i w)
  left_later_if (Ok done) n m s i w is some left = tt
  left_later_if (Err e) n m s i w is some left = left_later n m s i w is some left

  pub left_unserved_if : {T E : Type 0} (r : Result T E) (n : ℕ) (s : SceneOf V) (i : ℕ) (w : World S) → 0 < n → ShowsScene state w s → OnErr r (TurnsLeftWithoutMemory state rule n s i w)
  left_unserved_if (Ok done) n s i w lt shows = tt
  left_unserved_if (Err e) n s i w lt shows = left_unserved n s i w lt shows

  pub left_untaken_if : {T E : Type 0} (r : Result T E) (n : ℕ) (s : SceneOf V) (i : ℕ) (w : World S) → 0 < n → ShowsScene state w (after_serving rule s i) → OnErr r (TurnsLeftWithoutMemory state rule n s i w)
  left_untaken_if (Ok done) n s i w lt shows = tt
  left_untaken_if (Err e) n s i w lt shows = left_untaken n s i w lt shows

  -- where a request of a member was served, an answer waits for it
  pub answers : (w : World S) (s : SceneOf V) (i k : ℕ) → ShowsScene state w s → i ≡ k + 1 → k < length w.members.items → waits_in s.up i ≡ true → waits_in (after_serving rule s i).down i ≡ true
  answers w s i k shows is lt some =
      let m = member_in w.members.items k lt in
      answer_waits rule s i (within_down w.transcript w.members.items (states state w.servers) s i k shows is lt) (server_there w.transcript w.members.items (states state w.servers) s i k m.0 shows is m.1) some
