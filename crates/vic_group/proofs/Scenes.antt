-- What a world shows after a client's step, and after a server's.
use Rattle.std.proofs.Common.{◌≡◌, ℕ, zero, suc, ◌+◌, ◌-◌, ◌<◌, Bool, true, false, List, [], ◌∷◌, ◌++◌, length, map, reverse, Option, Some, None, is_some, option_map, refl, sym, ap, subst, ◌∙◌, arith, slice_get, slice_set}
use Rattle.std.specs.Prelude.{unwrap_or, nat_eq, if◌then◌else◌}
use Rattle.std.specs.List.{AllByRecursion}
use Rattle.std.proofs.lemmas.List.{map-set, reverse-append}
use Rattle.std.proofs.lemmas.Option.{slice_get-map}
use Rattle.vic_wire.specs.Hashes.{Group}
use Rattle.vic_laws.proofs.Words.{all_weaker}
use Rattle.vic_rules.specs.declared.trace.Input.{Input}
use Rattle.vic_rules.specs.declared.trace.Input.TheVariants as input
use Rattle.vic_rules.specs.declared.trace.TraceStep.{TraceStep}
use Rattle.vic_rules.specs.Client.{MayStep}
use Rattle.vic_order.specs.Serving.{Serving}
use Rattle.vic_view.specs.declared.transcript.Transcript.{Transcript}
use Rattle.vic_view.specs.Transcripts.{transcript_steps}
use Rattle.vic_order.specs.Scenes.{SceneOf, Queue, queue_of, set_queue, queue_with, or_none, server_at, set_server, server_of, standing_in, after_step, after_serving_with, after_serving_from, after_serving, after_taking_from, after_taking, last_sent, after_resending, after_copying, after_joining}
use Rattle.vic_runs.proofs.Servers.{is_server-set}
use Rattle.vic_group.specs.declared.member.Member.{Member}
use Rattle.vic_group.specs.World.{MemberStands, ShowsParts, Acts, AddsStep, step_at}
use Rattle.vic_group.proofs.Members.{stand_at, stand_set, stays_apart, same_member}

-- ---- rows

module _ {A : Type 0} where
  -- one exchanged, the row is as long
  pub length_set : (ms : List A) (k : ℕ) (n : A) → length (slice_set ms k n) ≡ length ms
  length_set [] k n = refl
  length_set (m ∷ ms) zero n = refl
  length_set (m ∷ ms) (suc k) n = ap (λ (l : ℕ). suc l) (length_set ms k n)

  pub get_set : (ms : List A) (k : ℕ) (n : A) → k < length ms → slice_get (slice_set ms k n) k ≡ Some n
  get_set [] k n lt = absurd (omega arith)
  get_set (m ∷ ms) zero n lt = refl
  get_set (m ∷ ms) (suc k) n lt = get_set ms k n (omega arith)

  pub set_same : (ms : List A) (k : ℕ) (m : A) → slice_get ms k ≡ Some m → slice_set ms k m ≡ ms
  set_same [] k m at = refl
  set_same (p ∷ ms) zero m at = let e : p ≡ m = cc in ap (λ (c : A). c ∷ ms) (sym e)
  set_same (p ∷ ms) (suc k) m at = ap (λ (rest : List A). p ∷ rest) (set_same ms k m at)

  -- what holds of each holds with one exchanged of which it holds
  pub all_set : (P : A → Type 0) (ms : List A) (k : ℕ) (n : A) → AllByRecursion P ms → P n → AllByRecursion P (slice_set ms k n)
  all_set P [] k n all h = tt
  all_set P (m ∷ ms) zero n all h = (h, all.1)
  all_set P (m ∷ ms) (suc k) n all h = (all.0, all_set P ms k n all.1 h)

  -- and of the one at a place
  pub all_at : (P : A → Type 0) (ms : List A) (k : ℕ) (m : A) → AllByRecursion P ms → slice_get ms k ≡ Some m → P m
  all_at P [] k m all at = absurd cc
  all_at P (n ∷ ms) zero m all at = let e : n ≡ m = cc in subst P e all.0
  all_at P (n ∷ ms) (suc k) m all at = all_at P ms k m all.1 at

-- the place of a client whose number is one more
pub place_is : (i k : ℕ) → i ≡ k + 1 → i - 1 ≡ k
place_is i k is = omega arith

module _ {X : Type 0} (f : Member → X) (ms : List Member) (row : List X) (i k : ℕ) (m : Member) (are : map f ms ≡ row) (is : i ≡ k + 1) (at : slice_get ms k ≡ Some m) where
  -- a member's item in a row
  pub row_get : slice_get row (i - 1) ≡ Some (f m)
  row_get = ap (λ (xs : List X). slice_get xs (i - 1)) (sym are) ∙ ap (λ (j : ℕ). slice_get (map f ms) j) (place_is i k is) ∙ slice_get-map f ms k ∙ ap (λ (o : Option Member). option_map f o) at

  -- a row in which the member's item is set again
  pub row_same : slice_set row (i - 1) (f m) ≡ row
  row_same = set_same row (i - 1) (f m) row_get

  -- a row after the member was exchanged
  pub row_set : (n : Member) → map f (slice_set ms k n) ≡ slice_set row (i - 1) (f n)
  row_set n = map-set f ms k n ∙ ap (λ (xs : List X). slice_set xs k (f n)) are ∙ ap (λ (j : ℕ). slice_set row j (f n)) (sym (place_is i k is))

-- ---- scenes

module _ {V : Type 0} where
  abbrev scene : Group → List TraceStep → List Queue → List Queue → List ℕ → List (Option V) → SceneOf V
  scene g h up down by servers = record { group = g; history = h; up = up; down = down; served_by = by; servers = servers }

  -- a scene is what stands in it
  pub same_scene : (s r : SceneOf V) → s.group ≡ r.group → s.history ≡ r.history → s.up ≡ r.up → s.down ≡ r.down → s.served_by ≡ r.served_by → s.servers ≡ r.servers → s ≡ r
  same_scene s r a b c d e f =
      ap (λ (x : Group). scene x s.history s.up s.down s.served_by s.servers) a
      ∙ ap (λ (x : List TraceStep). scene r.group x s.up s.down s.served_by s.servers) b
      ∙ ap (λ (x : List Queue). scene r.group r.history x s.down s.served_by s.servers) c
      ∙ ap (λ (x : List Queue). scene r.group r.history r.up x s.served_by s.servers) d
      ∙ ap (λ (x : List ℕ). scene r.group r.history r.up r.down x s.servers) e
      ∙ ap (λ (x : List (Option V)). scene r.group r.history r.up r.down r.served_by x) f

module _ {V : Type 0} (t : Transcript) (ms : List Member) (vs : List (Option V)) (s : SceneOf V) (i k : ℕ) (m : Member) (shows : ShowsParts t ms vs s) (is : i ≡ k + 1) (at : slice_get ms k ≡ Some m) where
  -- client i stands where the history leaves it
  pub stands_here : MemberStands s.group s.history m i
  stands_here = let same : 1 + k ≡ i = omega arith in
      subst (λ (j : ℕ). MemberStands s.group s.history m j) same (stand_at (MemberStands s.group s.history) 1 k ms m shows.clients at)

  -- its queues and the number of its server are its member's, and the server exists
  pub up_here : queue_of s.up i ≡ m.up
  up_here = ap (λ (o : Option Queue). unwrap_or o []) (row_get (λ (c : Member). c.up) ms s.up i k m shows.up is at)

  pub down_here : queue_of s.down i ≡ m.down
  down_here = ap (λ (o : Option Queue). unwrap_or o []) (row_get (λ (c : Member). c.down) ms s.down i k m shows.down is at)

  pub server_here : server_of s.served_by i ≡ m.server
  server_here = ap (λ (o : Option ℕ). unwrap_or o 0) (row_get (λ (c : Member). c.server) ms s.served_by i k m shows.served_by is at)

  pub placed_here : is_some (server_at vs m.server) ≡ true
  placed_here = all_at (λ (c : Member). is_some (server_at vs c.server) ≡ true) ms k m shows.placed at

  -- the member is exchanged for one with the same client
  pub shows_swap : (n : Member) → k < length ms → n.client ≡ m.client → n.taken ≡ m.taken → n.sent ≡ m.sent → is_some (server_at vs n.server) ≡ true
      → ShowsParts t (slice_set ms k n) vs (record s { up = set_queue s.up i n.up; down = set_queue s.down i n.down; served_by = slice_set s.served_by (i - 1) n.server })
  shows_swap n lt client took sent there = record {
    count = length_set ms k n ∙ shows.count;
    few = shows.few;
    group = shows.group;
    history = shows.history;
    up = row_set (λ (c : Member). c.up) ms s.up i k m shows.up is at n;
    down = row_set (λ (c : Member). c.down) ms s.down i k m shows.down is at n;
    served_by = row_set (λ (c : Member). c.server) ms s.served_by i k m shows.served_by is at n;
    servers = shows.servers;
    placed = all_set (λ (c : Member). is_some (server_at vs c.server) ≡ true) ms k n shows.placed there;
    clients =
        stand_set (MemberStands s.group s.history) (MemberStands s.group s.history) 1 k ms n lt shows.clients (λ c j apart so. so)
        (same_member s.group s.history m n (1 + k) client took sent (stand_at (MemberStands s.group s.history) 1 k ms m shows.clients at));
    lawful = shows.lawful;
  }

  -- the member made a step
  pub shows_made : (after : Transcript) (given : Input) (n : Member) → k < length ms → MayStep s.group (standing_in s i) given → AddsStep (step_at s.group s.history i given) t after → MemberStands s.group (step_at s.group s.history i given ∷ s.history) n i → n.server ≡ m.server
      → ShowsParts after (slice_set ms k n) vs (record s { history = step_at s.group s.history i given ∷ s.history; up = set_queue s.up i n.up; down = set_queue s.down i n.down })
  shows_made after given n lt may joins so server =
      let x : TraceStep = step_at s.group s.history i given in
      let same : i ≡ 1 + k = omega arith in
      record {
        count = length_set ms k n ∙ shows.count;
        few = shows.few;
        group = joins.group ∙ shows.group;
        history = ap (λ (xs : List TraceStep). reverse xs) joins.steps ∙ reverse-append (transcript_steps t) (x ∷ []) ∙ ap (λ (h : List TraceStep). x ∷ h) shows.history;
        up = row_set (λ (c : Member). c.up) ms s.up i k m shows.up is at n;
        down = row_set (λ (c : Member). c.down) ms s.down i k m shows.down is at n;
        served_by = row_set (λ (c : Member). c.server) ms s.served_by i k m shows.served_by is at n ∙ ap (λ (b : ℕ). slice_set s.served_by (i - 1) b) server ∙ row_same (λ (c : Member). c.server) ms s.served_by i k m shows.served_by is at;
        servers = shows.servers;
        placed = all_set (λ (c : Member). is_some (server_at vs c.server) ≡ true) ms k n shows.placed (ap (λ (b : ℕ). is_some (server_at vs b)) server ∙ placed_here);
        clients =
            stand_set (MemberStands s.group s.history) (MemberStands s.group (x ∷ s.history)) 1 k ms n lt shows.clients
            (λ c j apart already. stays_apart s.group s.history x c j (λ e. apart (sym e ∙ same)) already)
            (subst (λ (j : ℕ). MemberStands s.group (x ∷ s.history) n j) same so);
        lawful = record {
          group = shows.lawful.group;
          steps = (shows.lawful.steps, record { member = (omega (arith, is), omega (arith, is, lt, shows.count)); may = may; sent = refl; returned = refl; object = refl });
        };
      }

  -- a client's step
  pub shows_step : (after : Transcript) (given : Input) (n : Member) → k < length ms → Acts s.group s.history i given m n → AddsStep (step_at s.group s.history i given) t after
      → ShowsParts after (slice_set ms k n) vs (after_step s i given)
  unfolding after_step
  shows_step after given n lt acts joins =
      let x : TraceStep = step_at s.group s.history i given in
      let made = record s { history = x ∷ s.history; up = set_queue s.up i n.up; down = set_queue s.down i n.down } in
      let up : n.up ≡ queue_with (queue_of s.up i) x.sent = acts.up ∙ ap (λ (q : Queue). queue_with q x.sent) (sym up_here) in
      let down : set_queue s.down i n.down ≡ s.down = ap (λ (q : Queue). set_queue s.down i q) acts.down ∙ row_same (λ (c : Member). c.down) ms s.down i k m shows.down is at in
      subst (λ (r : SceneOf V). ShowsParts after (slice_set ms k n) vs r)
      (same_scene made (after_step s i given) refl refl (ap (λ (q : Queue). set_queue s.up i q) up) down refl refl)
      (shows_made after given n lt acts.may joins acts.stands acts.server)

  -- a client takes its oldest answer as it comes through a change
  pub shows_taken : (after : Transcript) (change : List ℕ → List ℕ) (payload first : List ℕ) (rest : Queue) (n : Member) → k < length ms → m.down ≡ first ∷ rest → payload ≡ change first
      → Acts s.group s.history i (input.Payload payload) (record m { down = rest }) n → AddsStep (step_at s.group s.history i (input.Payload payload)) t after
      → ShowsParts after (slice_set ms k n) vs (after_taking change s i)
  unfolding after_taking after_step
  shows_taken after change payload first rest n lt waits changed acts joins =
      let x : TraceStep = step_at s.group s.history i (input.Payload payload) in
      let made = record s { history = x ∷ s.history; up = set_queue s.up i n.up; down = set_queue s.down i n.down } in
      let up : n.up ≡ queue_with (queue_of s.up i) x.sent = acts.up ∙ ap (λ (q : Queue). queue_with q x.sent) (sym up_here) in
      let next : SceneOf V = after_step (record s { down = set_queue s.down i rest }) i (input.Payload payload) in
      let shown : ShowsParts after (slice_set ms k n) vs next =
      subst (λ (r : SceneOf V). ShowsParts after (slice_set ms k n) vs r)
      (same_scene made next refl refl (ap (λ (q : Queue). set_queue s.up i q) up) (ap (λ (q : Queue). set_queue s.down i q) acts.down) refl refl)
      (shows_made after (input.Payload payload) n lt acts.may joins acts.stands acts.server) in
      subst (λ (q : Queue). ShowsParts after (slice_set ms k n) vs (after_taking_from change s i q)) (sym (down_here ∙ waits))
      (subst (λ (p : List ℕ). ShowsParts after (slice_set ms k n) vs (after_step (record s { down = set_queue s.down i rest }) i (input.Payload p))) changed shown)

  -- a client's last payload joins its requests again
  pub shows_resent : (n : Member) → k < length ms → n ≡ record m { up = queue_with m.up m.sent } → ShowsParts t (slice_set ms k n) vs (after_resending s i)
  shows_resent n lt e =
      let sent : m.sent ≡ last_sent i s.history = stands_here.sent in
      let up : n.up ≡ queue_with (queue_of s.up i) (last_sent i s.history) =
      ap (λ (c : Member). c.up) e ∙ ap (λ (q : Queue). queue_with q m.sent) (sym up_here) ∙ ap (λ (o : Option (List ℕ)). queue_with (queue_of s.up i) o) sent in
      let down : set_queue s.down i n.down ≡ s.down = ap (λ (c : Member). set_queue s.down i c.down) e ∙ row_same (λ (c : Member). c.down) ms s.down i k m shows.down is at in
      let server : slice_set s.served_by (i - 1) n.server ≡ s.served_by = ap (λ (c : Member). slice_set s.served_by (i - 1) c.server) e ∙ row_same (λ (c : Member). c.server) ms s.served_by i k m shows.served_by is at in
      subst (λ (r : SceneOf V). ShowsParts t (slice_set ms k n) vs r)
      (same_scene (record s { up = set_queue s.up i n.up; down = set_queue s.down i n.down; served_by = slice_set s.served_by (i - 1) n.server }) (after_resending s i) refl refl (ap (λ (q : Queue). set_queue s.up i q) up) down server refl)
      (shows_swap n lt (ap (λ (c : Member). c.client) e) (ap (λ (c : Member). c.taken) e) (ap (λ (c : Member). c.sent) e) (ap (λ (c : Member). is_some (server_at vs c.server)) e ∙ placed_here))

  -- a client joins another server
  pub shows_joined : (n : Member) (number : ℕ) → k < length ms → n ≡ record m { server = number } → is_some (server_at vs number) ≡ true → ShowsParts t (slice_set ms k n) vs (after_joining s i number)
  shows_joined n number lt e there =
      let up : set_queue s.up i n.up ≡ s.up = ap (λ (c : Member). set_queue s.up i c.up) e ∙ row_same (λ (c : Member). c.up) ms s.up i k m shows.up is at in
      let down : set_queue s.down i n.down ≡ s.down = ap (λ (c : Member). set_queue s.down i c.down) e ∙ row_same (λ (c : Member). c.down) ms s.down i k m shows.down is at in
      subst (λ (r : SceneOf V). ShowsParts t (slice_set ms k n) vs r)
      (same_scene (record s { up = set_queue s.up i n.up; down = set_queue s.down i n.down; served_by = slice_set s.served_by (i - 1) n.server }) (after_joining s i number) refl refl up down (ap (λ (c : Member). slice_set s.served_by (i - 1) c.server) e) refl)
      (shows_swap n lt (ap (λ (c : Member). c.client) e) (ap (λ (c : Member). c.taken) e) (ap (λ (c : Member). c.sent) e) (ap (λ (c : Member). is_some (server_at vs c.server)) e ∙ there))

-- servers that change, of which those that exist still do
pub shows_servers : {V : Type 0} (t : Transcript) (ms : List Member) (vs ws : List (Option V)) (s : SceneOf V) → ShowsParts t ms vs s → ((n : ℕ) → is_some (server_at vs n) ≡ true → is_some (server_at ws n) ≡ true)
    → ShowsParts t ms ws (record s { servers = ws })
shows_servers t ms vs ws s shows still = record {
  count = shows.count;
  few = shows.few;
  group = shows.group;
  history = shows.history;
  up = shows.up;
  down = shows.down;
  served_by = shows.served_by;
  servers = refl;
  placed = all_weaker (λ (c : Member). is_some (server_at vs c.server) ≡ true) (λ (c : Member). is_some (server_at ws c.server) ≡ true) (λ (c : Member) there. still c.server there) ms shows.placed;
  clients = shows.clients;
  lawful = shows.lawful;
}

-- a server becomes a copy of another
pub shows_copied : {V : Type 0} (t : Transcript) (ms : List Member) (vs ws : List (Option V)) (s : SceneOf V) (n to : ℕ) (v : V) → ShowsParts t ms vs s → server_at vs n ≡ Some v → ws ≡ set_server vs to (Some v)
    → ShowsParts t ms ws (after_copying s n to)
shows_copied {V = V} t ms vs ws s n to v shows from set =
    let copied : ws ≡ set_server s.servers to (server_at s.servers n) =
    set ∙ ap (λ (o : Option V). set_server vs to o) (sym from) ∙ ap (λ (us : List (Option V)). set_server us to (server_at us n)) shows.servers in
    subst (λ (us : List (Option V)). ShowsParts t ms ws (record s { servers = us })) copied
    (shows_servers t ms vs ws s shows (λ j there. subst (λ (us : List (Option V)). is_some (server_at us j) ≡ true) (sym set) (is_server-set vs to j (Some v) refl there)))

at_place : {V : Type 0} (b : Bool) (o : Option (Option V)) (v : V) → (if b then None else or_none o) ≡ Some v → o ≡ Some (Some v)
at_place true o v e = absurd cc
at_place false None v e = absurd cc
at_place false (Some None) v e = absurd cc
at_place {V = V} false (Some (Some w)) v e = ap (λ (x : Option V). Some x) e

-- a server that is set where it stands
set_here : {V : Type 0} (vs : List (Option V)) (n : ℕ) (v : V) → server_at vs n ≡ Some v → set_server vs n (Some v) ≡ vs
set_here vs n v here = set_same vs (n - 1) (Some v) (at_place (nat_eq n 0) (slice_get vs (n - 1)) v here)

-- a server becomes a copy of itself
pub shows_kept : {V : Type 0} (t : Transcript) (ms : List Member) (vs : List (Option V)) (s : SceneOf V) (n to : ℕ) (v : V) → ShowsParts t ms vs s → server_at vs n ≡ Some v → n ≡ to → ShowsParts t ms vs (after_copying s n to)
shows_kept t ms vs s n to v shows from same =
    shows_copied t ms vs vs s n to v shows from (sym (set_here vs n v from) ∙ ap (λ (k : ℕ). set_server vs k (Some v)) same)

-- a client's server serves its oldest request
pub shows_served : {V : Type 0} (rule : Serving V) (t : Transcript) (ms : List Member) (vs ws : List (Option V)) (s : SceneOf V) (i k : ℕ) (m n : Member) (v : V) (payload : List ℕ) (rest : Queue) → ShowsParts t ms vs s → i ≡ k + 1
    → slice_get ms k ≡ Some m → k < length ms → server_at vs m.server ≡ Some v → m.up ≡ payload ∷ rest → n ≡ record m { up = rest; down = m.down ++ (rule v i i payload).0 ∷ [] }
    → ws ≡ set_server vs m.server (Some (rule v i i payload).1) → ShowsParts t (slice_set ms k n) ws (after_serving rule s i)
unfolding after_serving
shows_served {V = V} rule t ms vs ws s i k m n v payload rest shows is at lt here waits e set =
    let answer : List ℕ × V = rule v i i payload in
    let number : server_of s.served_by i ≡ m.server = server_here t ms vs s i k m shows is at in
    let up : queue_of s.up i ≡ payload ∷ rest = up_here t ms vs s i k m shows is at ∙ waits in
    let found : server_at s.servers (server_of s.served_by i) ≡ Some v =
    ap (λ (j : ℕ). server_at s.servers j) number ∙ ap (λ (us : List (Option V)). server_at us m.server) (sym shows.servers) ∙ here in
    let swapped = record s { up = set_queue s.up i n.up; down = set_queue s.down i n.down; served_by = slice_set s.served_by (i - 1) n.server } in
    let shown : ShowsParts t (slice_set ms k n) vs swapped =
    shows_swap t ms vs s i k m shows is at n lt (ap (λ (c : Member). c.client) e) (ap (λ (c : Member). c.taken) e) (ap (λ (c : Member). c.sent) e)
    (ap (λ (c : Member). is_some (server_at vs c.server)) e ∙ placed_here t ms vs s i k m shows is at) in
    let after : ShowsParts t (slice_set ms k n) ws (record swapped { servers = ws }) =
    shows_servers t (slice_set ms k n) vs ws swapped shown (λ j there. subst (λ (us : List (Option V)). is_some (server_at us j) ≡ true) (sym set) (is_server-set vs m.server j (Some answer.1) refl there)) in
    let servers : ws ≡ set_server s.servers (server_of s.served_by i) (Some answer.1) =
    set ∙ ap (λ (us : List (Option V)). set_server us m.server (Some answer.1)) shows.servers ∙ ap (λ (j : ℕ). set_server s.servers j (Some answer.1)) (sym number) in
    let down : n.down ≡ queue_of s.down i ++ answer.0 ∷ [] = ap (λ (c : Member). c.down) e ∙ ap (λ (q : Queue). q ++ answer.0 ∷ []) (sym (down_here t ms vs s i k m shows is at)) in
    let by : slice_set s.served_by (i - 1) n.server ≡ s.served_by = ap (λ (c : Member). slice_set s.served_by (i - 1) c.server) e ∙ row_same (λ (c : Member). c.server) ms s.served_by i k m shows.served_by is at in
    subst (λ (q : Queue). ShowsParts t (slice_set ms k n) ws (after_serving_from rule s i q (server_at s.servers (server_of s.served_by i)))) (sym up)
    (subst (λ (o : Option V). ShowsParts t (slice_set ms k n) ws (after_serving_from rule s i (payload ∷ rest) o)) (sym found)
    (subst (λ (r : SceneOf V). ShowsParts t (slice_set ms k n) ws r)
    (same_scene (record swapped { servers = ws }) (after_serving_with s i rest answer) refl refl (ap (λ (c : Member). set_queue s.up i c.up) e) (ap (λ (q : Queue). set_queue s.down i q) down) by servers)
    after))
