-- What the code of a drill shows of a scene, after a client's step and after the server's.
use Rattle.std.proofs.Common.{◌≡◌, ℕ, ◌+◌, ◌-◌, ◌<◌, Bool, true, false, ◌||◌, List, [], ◌∷◌, ◌++◌, length, map, replicate, Option, Some, None, option_map, nat_lt, inl, inr, refl, sym, ap, subst, ◌∙◌, arith, slice_get, slice_set}
use Rattle.std.specs.Prelude.{unwrap_or, cond}
use Rattle.std.proofs.lemmas.Bool.{cases_eq}
use Rattle.std.proofs.lemmas.List.{map-set, length-set}
use Rattle.std.proofs.lemmas.List.Sums.{sum_by-cons}
use Rattle.std.proofs.lemmas.Option.{slice_get-map, slice_get_within, same_Some}
use Rattle.vic_dict.specs.declared.op.Outcome.{Outcome}
use Rattle.vic_wire.specs.Hashes.{Group}
use Rattle.vic_rules.specs.declared.trace.Input.{Input}
use Rattle.vic_rules.specs.declared.trace.Input.TheVariants as input
use Rattle.vic_rules.specs.declared.trace.TraceStep.{TraceStep}
use Rattle.vic_rules.specs.Client.{Standing}
use Rattle.vic_rules.specs.History.{standing}
use Rattle.vic_laws.proofs.Standings.{standing_kept}
use Rattle.vic_client.specs.Kept.{KeptClient, StandsFor, kept_group}
use Rattle.vic_order.specs.Order.{Server}
use Rattle.vic_order.specs.Serving.{by_rule}
use Rattle.vic_order.specs.Scenes.{Scene, Queue, queue_of, set_queue, queue_with, server_at, set_server, server_of, after_step, after_serving_from, after_serving_with, after_serving, after_taking_from, after_taking, payload_as_is}
use Rattle.vic_drill.specs.Drills.{waits_for, ends_done, ends_aborted, ends_refused, count_of}
use Rattle.vic_run_drill.specs.declared.seat.Seat.{Seat}
use Rattle.vic_run_drill.specs.declared.seat.UnderWay.{UnderWay}
use Rattle.vic_run_drill.specs.declared.seat.UnderWay.TheVariants as under
use Rattle.vic_run_drill.specs.declared.tally.Tally.{Tally}
use Rattle.vic_run_drill.specs.Running.{requests, answers, is_under_way, sent_on, SeatStands, step_at, Steps, one_if, tally_with, ShowsScene}
use Rattle.vic_run_drill.proofs.Rows.{get_set, get_other, set_same, get_replicate}

-- ---- counts

one_cond : (b : Bool) (n : ℕ) → n + one_if b ≡ cond b 1 0 + n
one_cond true n = omega arith
one_cond false n = omega arith

count_next : (ends : Option Outcome → Bool) (x : TraceStep) (h : List TraceStep) (n : ℕ) → n ≡ count_of ends h → n + one_if (ends x.returned) ≡ count_of ends (x ∷ h)
count_next ends x h n e =
    ap (λ (k : ℕ). k + one_if (ends x.returned)) e ∙ one_cond (ends x.returned) (count_of ends h) ∙ sym (sum_by-cons (λ (y : TraceStep). cond (ends y.returned) 1 0) x h)

-- a step that returns nothing counts nothing
pub uncounted : (t : Tally) → tally_with t None ≡ t
uncounted t =
    let zero_more : (n : ℕ) → n + 0 ≡ n = λ n. omega arith in
    ap (λ (n : ℕ). record { done = n; aborted = t.aborted + 0; refused = t.refused + 0 }) (zero_more t.done)
    ∙ ap (λ (n : ℕ). record { done = t.done; aborted = n; refused = t.refused + 0 }) (zero_more t.aborted)
    ∙ ap (λ (n : ℕ). record { done = t.done; aborted = t.aborted; refused = n }) (zero_more t.refused)

-- ---- what is under way

queued_on : (o : Option (List ℕ)) → requests (sent_on o) ≡ queue_with [] o
queued_on None = refl
queued_on (Some payload) = refl

no_answers : (o : Option (List ℕ)) → answers (sent_on o) ≡ []
no_answers None = refl
no_answers (Some payload) = refl

under_way_is : (u : UnderWay) → (nat_lt 0 (length (requests u)) || nat_lt 0 (length (answers u))) ≡ is_under_way u
under_way_is under.Nothing = refl
under_way_is (under.Request payload) = refl
under_way_is (under.Answer payload) = refl

-- another's step changes nothing of where a client stands
stays_apart : (g : Group) (h : List TraceStep) (x : TraceStep) (m : Seat) (j : ℕ) → (x.client ≡ j → ⊥) → SeatStands g h m j → SeatStands g (x ∷ h) m j
stays_apart g h x m j apart so = record {
  id = so.id;
  group = so.group;
  stands = subst (λ (s : Standing). StandsFor m.client s) (sym (standing_kept g j x h apart)) so.stands;
}

-- a seat with the same client stands where it stands
same_seat : (g : Group) (h : List TraceStep) (m n : Seat) (j : ℕ) → n.client ≡ m.client → SeatStands g h m j → SeatStands g h n j
same_seat g h m n j e so = record {
  id = ap (λ (k : KeptClient). k.id) e ∙ so.id;
  group = ap (λ (k : KeptClient). kept_group k) e ∙ so.group;
  stands = subst (λ (k : KeptClient). StandsFor k (standing_of j)) (sym e) so.stands;
}
  where
    standing_of : ℕ → Standing
    standing_of i = standing g i h

module _ (ms : List Seat) (v : Server) (t : Tally) (s : Scene) (shows : ShowsScene ms v t s) (i k : ℕ) (m : Seat) (is : i ≡ k + 1) (at : slice_get ms k ≡ Some m) where
  place_is : i - 1 ≡ k
  place_is = omega (arith, is)

  pub within : k < length ms
  within = slice_get_within ms k m at

  row_get : {X : Type 0} (f : Seat → X) (row : List X) → map f ms ≡ row → slice_get row (i - 1) ≡ Some (f m)
  row_get {X = X} f row are = ap (λ (xs : List X). slice_get xs (i - 1)) (sym are) ∙ ap (λ (j : ℕ). slice_get (map f ms) j) place_is ∙ slice_get-map f ms k ∙ ap (λ (o : Option Seat). option_map f o) at

  row_same : {X : Type 0} (f : Seat → X) (row : List X) → map f ms ≡ row → slice_set row (i - 1) (f m) ≡ row
  row_same f row are = set_same row (i - 1) (f m) (row_get f row are)

  row_set : {X : Type 0} (f : Seat → X) (row : List X) → map f ms ≡ row → (n : Seat) → map f (slice_set ms k n) ≡ slice_set row (i - 1) (f n)
  row_set {X = X} f row are n = map-set f ms k n ∙ ap (λ (xs : List X). slice_set xs k (f n)) are ∙ ap (λ (j : ℕ). slice_set row j (f n)) (sym place_is)

  pub stands_here : SeatStands s.group s.history m i
  stands_here = subst (λ (j : ℕ). SeatStands s.group s.history m j) (sym is) (shows.clients k m at)

  pub up_here : queue_of s.up i ≡ requests m.under_way
  up_here = ap (λ (o : Option Queue). unwrap_or o []) (row_get (λ (c : Seat). requests c.under_way) s.up shows.up)

  pub down_here : queue_of s.down i ≡ answers m.under_way
  down_here = ap (λ (o : Option Queue). unwrap_or o []) (row_get (λ (c : Seat). answers c.under_way) s.down shows.down)

  pub waits_here : waits_for s i ≡ is_under_way m.under_way
  waits_here =
      ap (λ (q : Queue). nat_lt 0 (length q) || nat_lt 0 (length (queue_of s.down i))) up_here
      ∙ ap (λ (q : Queue). nat_lt 0 (length (requests m.under_way)) || nat_lt 0 (length q)) down_here ∙ under_way_is m.under_way

  number_here : server_of s.served_by i ≡ 1
  number_here = ap (λ (by : List ℕ). server_of by i) shows.served_by ∙ ap (λ (o : Option ℕ). unwrap_or o 0) (get_replicate (length ms) (i - 1) 1 (omega (arith, is, within)))

  server_here : server_at s.servers (server_of s.served_by i) ≡ Some v
  server_here = ap (λ (j : ℕ). server_at s.servers j) number_here ∙ ap (λ (us : List (Option Server)). server_at us 1) shows.servers

  -- what holds of each client after this one's step
  clients_next : (x : TraceStep) (n : Seat) → x.client ≡ i → SeatStands s.group (x ∷ s.history) n i → (j : ℕ) (c : Seat) → slice_get (slice_set ms k n) j ≡ Some c → SeatStands s.group (x ∷ s.history) c (j + 1)
  clients_next x n mine so j c there = elim (cases_eq j k) [
    | inl e ↦
        let place : i ≡ j + 1 = omega (arith, is, e) in
        let same : n ≡ c = same_Some n c (sym (get_set ms k n within) ∙ ap (λ (l : ℕ). slice_get (slice_set ms k n) l) (sym e) ∙ there) in
        subst (λ (l : ℕ). SeatStands s.group (x ∷ s.history) c l) place (subst (λ (o : Seat). SeatStands s.group (x ∷ s.history) o i) same so)
    | inr apart ↦
        stays_apart s.group s.history x c (j + 1) (λ e. apart (let f : i ≡ j + 1 = sym mine ∙ e in omega (arith, is, f)))
        (shows.clients j c (sym (get_other ms j k n apart) ∙ there))
  ]

  -- and of each where one's client stays as it is
  clients_same : (n : Seat) → n.client ≡ m.client → (j : ℕ) (c : Seat) → slice_get (slice_set ms k n) j ≡ Some c → SeatStands s.group s.history c (j + 1)
  clients_same n e j c there = elim (cases_eq j k) [
    | inl f ↦
        let same : n ≡ c = same_Some n c (sym (get_set ms k n within) ∙ ap (λ (l : ℕ). slice_get (slice_set ms k n) l) (sym f) ∙ there) in
        let here : SeatStands s.group s.history n (k + 1) = same_seat s.group s.history m n (k + 1) e (shows.clients k m at) in
        let place : k + 1 ≡ j + 1 = omega (arith, f) in
        subst (λ (l : ℕ). SeatStands s.group s.history c l) place (subst (λ (o : Seat). SeatStands s.group s.history o (k + 1)) same here)
    | inr apart ↦ shows.clients j c (sym (get_other ms j k n apart) ∙ there)
  ]

  count_set : (n : Seat) → length (slice_set ms k n) ≡ length ms
  count_set n = length-set ms k n

  -- the client made a step
  made : (given : Input) (n : Seat) → Steps s.group s.history i given n
      → ShowsScene (slice_set ms k n) v (tally_with t (step_at s.group s.history i given).returned)
      (record s { history = step_at s.group s.history i given ∷ s.history; up = set_queue s.up i (requests n.under_way); down = set_queue s.down i (answers n.under_way) })
  made given n next =
      let x : TraceStep = step_at s.group s.history i given in
      record {
        count = count_set n ∙ shows.count;
        up = row_set (λ (c : Seat). requests c.under_way) s.up shows.up n;
        down = row_set (λ (c : Seat). answers c.under_way) s.down shows.down n;
        served_by = shows.served_by ∙ ap (λ (l : ℕ). replicate l 1) (sym (count_set n));
        servers = shows.servers;
        clients = clients_next x n refl next.stands;
        done = count_next ends_done x s.history t.done shows.done;
        aborted = count_next ends_aborted x s.history t.aborted shows.aborted;
        refused = count_next ends_refused x s.history t.refused shows.refused;
      }

  -- it was asked for something, while nothing was under way for it
  pub shows_asked : (given : Input) (n : Seat) → m.under_way ≡ under.Nothing → Steps s.group s.history i given n
      → ShowsScene (slice_set ms k n) v (tally_with t (step_at s.group s.history i given).returned) (after_step s i given)
  unfolding after_step
  shows_asked given n rests next =
      let x : TraceStep = step_at s.group s.history i given in
      let none_up : queue_of s.up i ≡ [] = up_here ∙ ap requests rests in
      let none_down : answers m.under_way ≡ [] = ap answers rests in
      let up : requests n.under_way ≡ queue_with (queue_of s.up i) x.sent = ap requests next.under_way ∙ queued_on x.sent ∙ ap (λ (q : Queue). queue_with q x.sent) (sym none_up) in
      let down : set_queue s.down i (answers n.under_way) ≡ s.down =
      ap (λ (u : UnderWay). set_queue s.down i (answers u)) next.under_way ∙ ap (λ (q : Queue). set_queue s.down i q) (no_answers x.sent ∙ sym none_down)
      ∙ row_same (λ (c : Seat). answers c.under_way) s.down shows.down in
      subst (λ (q : List Queue). ShowsScene (slice_set ms k n) v (tally_with t x.returned) (record s { history = x ∷ s.history; up = set_queue s.up i (queue_with (queue_of s.up i) x.sent); down = q })) down
      (subst (λ (q : Queue). ShowsScene (slice_set ms k n) v (tally_with t x.returned) (record s { history = x ∷ s.history; up = set_queue s.up i q; down = set_queue s.down i (answers n.under_way) })) up
      (made given n next))

  -- it took the answer that was under way
  pub shows_taken : (payload : List ℕ) (n : Seat) → m.under_way ≡ under.Answer payload → Steps s.group s.history i (input.Payload payload) n
      → ShowsScene (slice_set ms k n) v (tally_with t (step_at s.group s.history i (input.Payload payload)).returned) (after_taking payload_as_is s i)
  unfolding after_taking after_step
  shows_taken payload n waits next =
      let x : TraceStep = step_at s.group s.history i (input.Payload payload) in
      let none_up : queue_of s.up i ≡ [] = up_here ∙ ap requests waits in
      let one_down : queue_of s.down i ≡ payload ∷ [] = down_here ∙ ap answers waits in
      let up : requests n.under_way ≡ queue_with (queue_of s.up i) x.sent = ap requests next.under_way ∙ queued_on x.sent ∙ ap (λ (q : Queue). queue_with q x.sent) (sym none_up) in
      let down : answers n.under_way ≡ [] = ap answers next.under_way ∙ no_answers x.sent in
      let shown : ShowsScene (slice_set ms k n) v (tally_with t x.returned) (after_taking_from payload_as_is s i (payload ∷ [])) =
      subst (λ (q : Queue). ShowsScene (slice_set ms k n) v (tally_with t x.returned) (record s { history = x ∷ s.history; up = set_queue s.up i (queue_with (queue_of s.up i) x.sent); down = set_queue s.down i q })) down
      (subst (λ (q : Queue). ShowsScene (slice_set ms k n) v (tally_with t x.returned) (record s { history = x ∷ s.history; up = set_queue s.up i q; down = set_queue s.down i (answers n.under_way) })) up
      (made (input.Payload payload) n next)) in
      subst (λ (q : Queue). ShowsScene (slice_set ms k n) v (tally_with t x.returned) (after_taking_from payload_as_is s i q)) (sym one_down) shown

  -- the server answered the request that was under way
  pub shows_served : (payload : List ℕ) (n : Seat) → m.under_way ≡ under.Request payload → n ≡ record m { under_way = under.Answer (by_rule v i i payload).0 }
      → ShowsScene (slice_set ms k n) (by_rule v i i payload).1 t (after_serving by_rule s i)
  unfolding after_serving
  shows_served payload n waits is_n =
      let a : List ℕ × Server = by_rule v i i payload in
      let one_up : queue_of s.up i ≡ payload ∷ [] = up_here ∙ ap requests waits in
      let none_down : queue_of s.down i ≡ [] = down_here ∙ ap answers waits in
      let up : requests n.under_way ≡ [] = ap (λ (c : Seat). requests c.under_way) is_n in
      let down : answers n.under_way ≡ queue_of s.down i ++ a.0 ∷ [] = ap (λ (c : Seat). answers c.under_way) is_n ∙ ap (λ (q : Queue). q ++ a.0 ∷ []) (sym none_down) in
      let servers : set_server s.servers (server_of s.served_by i) (Some a.1) ≡ Some a.1 ∷ None ∷ None ∷ None ∷ [] =
      ap (λ (j : ℕ). set_server s.servers j (Some a.1)) number_here ∙ ap (λ (us : List (Option Server)). set_server us 1 (Some a.1)) shows.servers in
      let shown : ShowsScene (slice_set ms k n) a.1 t (after_serving_with s i [] a) = record {
        count = count_set n ∙ shows.count;
        up = row_set (λ (c : Seat). requests c.under_way) s.up shows.up n ∙ ap (λ (q : Queue). set_queue s.up i q) up;
        down = row_set (λ (c : Seat). answers c.under_way) s.down shows.down n ∙ ap (λ (q : Queue). set_queue s.down i q) down;
        served_by = shows.served_by ∙ ap (λ (l : ℕ). replicate l 1) (sym (count_set n));
        servers = servers;
        clients = clients_same n (ap (λ (c : Seat). c.client) is_n);
        done = shows.done;
        aborted = shows.aborted;
        refused = shows.refused;
      } in
      subst (λ (q : Queue). ShowsScene (slice_set ms k n) a.1 t (after_serving_from by_rule s i q (server_at s.servers (server_of s.served_by i)))) (sym one_up)
      (subst (λ (o : Option Server). ShowsScene (slice_set ms k n) a.1 t (after_serving_from by_rule s i (payload ∷ []) o)) (sym server_here) shown)

  -- the seat is as before
  pub shows_same : (n : Seat) → n ≡ m → ShowsScene (slice_set ms k n) v t s
  shows_same n e =
      subst (λ (c : Seat). ShowsScene (slice_set ms k c) v t s) (sym e) (subst (λ (ns : List Seat). ShowsScene ns v t s) (sym (set_same ms k m at)) shows)
