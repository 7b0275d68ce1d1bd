-- What a world shows after its members and servers did something.
use Rattle.std.proofs.Common.{◌≡◌, ℕ, zero, suc, ◌+◌, ◌<◌, Bool, true, false, List, [], ◌∷◌, ◌++◌, length, drop, reverse, Option, Some, None, is_some, Result, Ok, Err, IfOk, OnOk, OnErr, nat_lt, inl, inr, refl, sym, ap, subst, ◌∙◌, arith, slice_get, slice_set, get_or}
use Rattle.std.specs.Prelude.{IfSome, ◌⊎◌}
use Rattle.std.proofs.lemmas.Bool.{lt-ltb, le-ltb}
use Rattle.std.proofs.lemmas.List.{reverse-append}
use Rattle.vic_dict.specs.declared.bytes.NoMemory.{NoMemory}
use Rattle.vic_rules.specs.declared.trace.Input.TheVariants as input
use Rattle.vic_rules.specs.declared.trace.TraceStep.{TraceStep}
use Rattle.vic_order.specs.Serving.{Serving}
use Rattle.vic_view.specs.declared.transcript.Transcript.{Transcript}
use Rattle.vic_view.specs.Transcripts.{transcript_steps, transcript_history}
use Rattle.vic_order.specs.Scenes.{SceneOf, Queue, queue_with, server_at, set_server, after_serving, after_taking, after_step, waits_in, has_byte, oldest_payload}
use Rattle.vic_script.specs.Scenes.{print_of_outcomes, returned_in, object_in}
use Rattle.vic_group.specs.declared.member.Member.{Member}
use Rattle.vic_group.specs.World.{ShowsParts, Acts, AddsStep, AddsNoStep, step_at}
use Rattle.vic_group.proofs.Scenes.{placed_here, up_here, down_here, shows_step, shows_taken, shows_served, set_same}
use Rattle.vic_group.proofs.Turns.{serves_rest}

-- the member at a place
pub member_at : (ms : List Member) (k : ℕ) (m : Member) → k < length ms → m ≡ get_or ms k m → slice_get ms k ≡ Some m
member_at [] k m lt is = absurd (omega arith)
member_at (n ∷ ms) zero m lt is = let e : m ≡ n = is in ap (λ (c : Member). Some c) (sym e)
member_at (n ∷ ms) (suc k) m lt is = member_at ms k m (omega arith) is

-- a transcript that no step joined shows the same
pub same_transcript : {V : Type 0} (t after : Transcript) (ms : List Member) (vs : List (Option V)) (s : SceneOf V) → AddsNoStep t after → ShowsParts t ms vs s → ShowsParts after ms vs s
same_transcript t after ms vs s stays shows = record {
  count = shows.count;
  few = shows.few;
  group = stays.group ∙ shows.group;
  history = ap (λ (xs : List TraceStep). reverse xs) stays.steps ∙ shows.history;
  up = shows.up;
  down = shows.down;
  served_by = shows.served_by;
  servers = shows.servers;
  placed = shows.placed;
  clients = shows.clients;
  lawful = shows.lawful;
}

-- a member that is as before, set again
pub same_members : {V : Type 0} (t : Transcript) (ms : List Member) (vs : List (Option V)) (s : SceneOf V) (k : ℕ) (m n : Member) → slice_get ms k ≡ Some m → n ≡ m → ShowsParts t ms vs s → ShowsParts t (slice_set ms k n) vs s
same_members {V = V} t ms vs s k m n at same shows =
    subst (λ (c : Member). ShowsParts t (slice_set ms k c) vs s) (sym same) (subst (λ (ns : List Member). ShowsParts t ns vs s) (sym (set_same ms k m at)) shows)

-- both: a call that found no memory left all as it was
pub left_alone : {V T : Type 0} (r : Result T NoMemory) (t after : Transcript) (ms : List Member) (vs : List (Option V)) (s : SceneOf V) (k : ℕ) (m n : Member) → slice_get ms k ≡ Some m → OnErr r (n ≡ m) → OnErr r (AddsNoStep t after)
    → ShowsParts t ms vs s → OnErr r (ShowsParts after (slice_set ms k n) vs s)
left_alone (Ok x) t after ms vs s k m n at same stays shows = tt
left_alone (Err e) t after ms vs s k m n at same stays shows = same_transcript t after (slice_set ms k n) vs s stays (same_members t ms vs s k m n at same shows)

-- ---- waiting

waits : (q : Queue) (p : List ℕ) → q ≡ p ∷ drop 1 q → nat_lt 0 (length q) ≡ true
waits q p e = ap (λ (r : Queue). nat_lt 0 (length r)) e ∙ lt-ltb 0 (suc (length (drop 1 q))) (omega arith)

module _ {V : Type 0} (t : Transcript) (ms : List Member) (vs : List (Option V)) (s : SceneOf V) (i k : ℕ) (m : Member) (shows : ShowsParts t ms vs s) (is : i ≡ k + 1) (at : slice_get ms k ≡ Some m) where
  -- no answer waits, or one does
  pub none_waits : m.down ≡ [] → waits_in s.down i ≡ false
  none_waits none = ap (λ (q : Queue). nat_lt 0 (length q)) (down_here t ms vs s i k m shows is at ∙ none)

  pub one_waits : (p : List ℕ) → m.down ≡ p ∷ drop 1 m.down → waits_in s.down i ≡ true
  one_waits p some = ap (λ (q : Queue). nat_lt 0 (length q)) (down_here t ms vs s i k m shows is at) ∙ waits m.down p some

  -- no request waits, or one does
  pub none_asks : m.up ≡ [] → waits_in s.up i ≡ false
  none_asks none = ap (λ (q : Queue). nat_lt 0 (length q)) (up_here t ms vs s i k m shows is at ∙ none)

  pub one_asks : (p : List ℕ) → m.up ≡ p ∷ drop 1 m.up → waits_in s.up i ≡ true
  one_asks p some = ap (λ (q : Queue). nat_lt 0 (length q)) (up_here t ms vs s i k m shows is at) ∙ waits m.up p some

  -- whether the oldest answer has a byte of a number
  pub byte_there : (n : ℕ) (b : Bool) → b ≡ nat_lt n (length (oldest_payload m.down)) → has_byte s.down i n ≡ b
  byte_there n b e = ap (λ (q : Queue). nat_lt n (length (oldest_payload q))) (down_here t ms vs s i k m shows is at) ∙ sym e

-- where the oldest payload has a byte, there is one
pub some_oldest : (n : ℕ) (q : Queue) → true ≡ nat_lt n (length (oldest_payload q)) → q ≡ oldest_payload q ∷ drop 1 q
some_oldest n [] e = let none : nat_lt n 0 ≡ false = le-ltb n 0 (omega arith) in absurd cc
some_oldest n (p ∷ q) e = refl

-- ---- taking

-- the steps behind a joined one
joined : {V : Type 0} (t after : Transcript) (s : SceneOf V) (x : TraceStep) → AddsStep x t after → transcript_history t ≡ s.history → transcript_history after ≡ x ∷ s.history
joined t after s x joins h = ap (λ (xs : List TraceStep). reverse xs) joins.steps ∙ reverse-append (transcript_steps t) (x ∷ []) ∙ ap (λ (past : List TraceStep). x ∷ past) h

-- what a client made of its oldest answer as it came through a change
pub taken_as : {V : Type 0} (t after : Transcript) (ms : List Member) (vs : List (Option V)) (s : SceneOf V) (i k : ℕ) (m n : Member) (change : List ℕ → List ℕ) (payload first : List ℕ) (before out : List ℕ) → ShowsParts t ms vs s → i ≡ k + 1
    → slice_get ms k ≡ Some m → k < length ms → m.down ≡ first ∷ drop 1 m.down → payload ≡ change first → Acts s.group s.history i (input.Payload payload) (record m { down = drop 1 m.down }) n
    → AddsStep (step_at s.group s.history i (input.Payload payload)) t after → out ≡ before ++ print_of_outcomes i (step_at s.group s.history i (input.Payload payload)).returned (step_at s.group s.history i (input.Payload payload)).object
    → (out ≡ before ++ print_of_outcomes i (returned_in (after_taking change s i).history) (object_in (after_taking change s i).history)) × ShowsParts after (slice_set ms k n) vs (after_taking change s i)
taken_as t after ms vs s i k m n change payload first before out shows is at lt some changed acts joins told =
    let x : TraceStep = step_at s.group s.history i (input.Payload payload) in
    let now : ShowsParts after (slice_set ms k n) vs (after_taking change s i) = shows_taken t ms vs s i k m shows is at after change payload first (drop 1 m.down) n lt some changed acts joins in
    (told ∙ ap (λ (h : List TraceStep). before ++ print_of_outcomes i (returned_in h) (object_in h)) (sym (joined t after s x joins shows.history) ∙ now.history), now)

-- what a client made of a payload from elsewhere
pub heard_as : {V : Type 0} (t after : Transcript) (ms : List Member) (vs : List (Option V)) (s : SceneOf V) (i k : ℕ) (m n : Member) (payload : List ℕ) (before out : List ℕ) → ShowsParts t ms vs s → i ≡ k + 1
    → slice_get ms k ≡ Some m → k < length ms → Acts s.group s.history i (input.Payload payload) m n → AddsStep (step_at s.group s.history i (input.Payload payload)) t after
    → out ≡ before ++ print_of_outcomes i (step_at s.group s.history i (input.Payload payload)).returned (step_at s.group s.history i (input.Payload payload)).object
    → (out ≡ before ++ print_of_outcomes i (returned_in (after_step s i (input.Payload payload)).history) (object_in (after_step s i (input.Payload payload)).history)) × ShowsParts after (slice_set ms k n) vs (after_step s i (input.Payload payload))
heard_as t after ms vs s i k m n payload before out shows is at lt acts joins told =
    let x : TraceStep = step_at s.group s.history i (input.Payload payload) in
    let now : ShowsParts after (slice_set ms k n) vs (after_step s i (input.Payload payload)) = shows_step t ms vs s i k m shows is at after (input.Payload payload) n lt acts joins in
    (told ∙ ap (λ (h : List TraceStep). before ++ print_of_outcomes i (returned_in h) (object_in h)) (sym (joined t after s x joins shows.history) ∙ now.history), now)

-- ---- serving

-- what is there is something
is_there : {V : Type 0} (o : Option V) → is_some o ≡ true → (v : V) × (o ≡ Some v)
is_there None h = absurd cc
is_there (Some v) h = (v, refl)

-- what a client's server made of its oldest request, if one waited
pub serve_goes : {V : Type 0} (rule : Serving V) (t : Transcript) (ms : List Member) (vs ws : List (Option V)) (s : SceneOf V) (i k : ℕ) (m n : Member) (r : Result Bool NoMemory) → ShowsParts t ms vs s → i ≡ k + 1 → slice_get ms k ≡ Some m → k < length ms
    → (r ≡ Ok false → ((m.up ≡ []) ⊎ (is_some (server_at vs m.server) ≡ false)) × ((n ≡ m) × (ws ≡ vs)))
    → (r ≡ Ok true → IfSome (server_at vs m.server) (λ v. (m.up ≡ oldest_payload m.up ∷ drop 1 m.up) × ((n ≡ record m { up = drop 1 m.up; down = m.down ++ (rule v i i (oldest_payload m.up)).0 ∷ [] }) × (ws ≡ set_server vs m.server (Some (rule v i i (oldest_payload m.up)).1)))))
    → IfOk r (λ went. (waits_in s.up i ≡ went) × ShowsParts t (slice_set ms k n) ws (after_serving rule s i))
serve_goes rule t ms vs ws s i k m n (Err e) shows is at lt rests served = tt
serve_goes {V = V} rule t ms vs ws s i k m n (Ok false) shows is at lt rests served =
    let rest = rests refl in
    let none : m.up ≡ [] = elim rest.0 [
      | inl empty ↦ empty
      | inr gone ↦ let there : is_some (server_at vs m.server) ≡ true = placed_here t ms vs s i k m shows is at in absurd cc
    ] in
    let quiet : waits_in s.up i ≡ false = none_asks t ms vs s i k m shows is at none in (
      quiet,
      subst (λ (us : List (Option V)). ShowsParts t (slice_set ms k n) us (after_serving rule s i)) (sym rest.1.1)
          (subst (λ (x : SceneOf V). ShowsParts t (slice_set ms k n) vs x) (sym (serves_rest rule s i quiet)) (same_members t ms vs s k m n at rest.1.0 shows)),
    )
serve_goes {V = V} rule t ms vs ws s i k m n (Ok true) shows is at lt rests served =
    let here = is_there (server_at vs m.server) (placed_here t ms vs s i k m shows is at) in
    let does = subst (λ (o : Option V). IfSome o (λ v. (m.up ≡ oldest_payload m.up ∷ drop 1 m.up) × ((n ≡ record m { up = drop 1 m.up; down = m.down ++ (rule v i i (oldest_payload m.up)).0 ∷ [] }) × (ws ≡ set_server vs m.server (Some (rule v i i (oldest_payload m.up)).1))))) here.1 (served refl) in (
      one_asks t ms vs s i k m shows is at (oldest_payload m.up) does.0,
      shows_served rule t ms vs ws s i k m n here.0 (oldest_payload m.up) (drop 1 m.up) shows is at lt here.1 does.0 does.1.0 does.1.1,
    )

-- what it left that found no memory
pub serve_left : {V : Type 0} (t : Transcript) (ms : List Member) (vs ws : List (Option V)) (s : SceneOf V) (k : ℕ) (m n : Member) (r : Result Bool NoMemory) → ShowsParts t ms vs s → slice_get ms k ≡ Some m → OnErr r ((n ≡ m) × (ws ≡ vs)) → OnErr r (ShowsParts t (slice_set ms k n) ws s)
serve_left t ms vs ws s k m n (Ok went) shows at kept = tt
serve_left {V = V} t ms vs ws s k m n (Err e) shows at kept = subst (λ (us : List (Option V)). ShowsParts t (slice_set ms k n) us s) (sym kept.1) (same_members t ms vs s k m n at kept.0 shows)

-- what a client made of a payload, if memory sufficed
pub heard_if : {T V : Type 0} (r : Result T NoMemory) (t after : Transcript) (ms : List Member) (vs : List (Option V)) (s : SceneOf V) (i k : ℕ) (m n : Member) (payload : List ℕ) (before out : List ℕ) → ShowsParts t ms vs s → i ≡ k + 1
    → slice_get ms k ≡ Some m → k < length ms → OnOk r (Acts s.group s.history i (input.Payload payload) m n) → OnOk r (AddsStep (step_at s.group s.history i (input.Payload payload)) t after)
    → OnOk r (out ≡ before ++ print_of_outcomes i (step_at s.group s.history i (input.Payload payload)).returned (step_at s.group s.history i (input.Payload payload)).object)
    → OnOk r ((out ≡ before ++ print_of_outcomes i (returned_in (after_step s i (input.Payload payload)).history) (object_in (after_step s i (input.Payload payload)).history)) × ShowsParts after (slice_set ms k n) vs (after_step s i (input.Payload payload)))
heard_if (Err e) t after ms vs s i k m n payload before out shows is at lt acts joins told = tt
heard_if (Ok done) t after ms vs s i k m n payload before out shows is at lt acts joins told = heard_as t after ms vs s i k m n payload before out shows is at lt acts joins told

-- nothing was sent that could be sent again
pub resent_same : {V : Type 0} (t : Transcript) (ms : List Member) (vs : List (Option V)) (s : SceneOf V) (k : ℕ) (m n : Member) → ShowsParts t ms vs s → slice_get ms k ≡ Some m → is_some m.sent ≡ false → n ≡ record m { up = queue_with m.up m.sent } → ShowsParts t (slice_set ms k n) vs s
resent_same t ms vs s k m n shows at none e = same_members t ms vs s k m n at (e ∙ unsent m none) shows
  where
    nothing : (o : Option (List ℕ)) (q : Queue) → is_some o ≡ false → queue_with q o ≡ q
    nothing None q h = refl
    nothing (Some p) q h = absurd cc

    unsent : (m : Member) → is_some m.sent ≡ false → record m { up = queue_with m.up m.sent } ≡ m
    unsent m h = ap (λ (q : Queue). record m { up = q }) (nothing m.sent m.up h)
