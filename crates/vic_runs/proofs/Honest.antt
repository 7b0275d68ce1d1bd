-- Scenes of clients with one honest server: how one leads to another.
use Rattle.std.proofs.Common.{◌≡◌, ℕ, ◌+◌, ◌<◌, ◌≤◌, true, List, [], ◌∷◌, ◌++◌, length, Option, Some, None, is_some, refl, sym, ap, subst, ◌∙◌, arith}
use Rattle.std.specs.List.{AllByRecursion}
use Rattle.std.proofs.lemmas.List.{length-replicate}
use Rattle.std.proofs.lemmas.Option.{same_Some}
use Rattle.vic_wire.specs.Hashes.{Group, IsGroup}
use Rattle.vic_wire.specs.Messages.{answer_text}
use Rattle.vic_rules.specs.declared.trace.Input.{Input}
use Rattle.vic_rules.specs.declared.trace.Input.TheVariants as input
use Rattle.vic_rules.specs.declared.trace.TraceStep.{TraceStep}
use Rattle.vic_rules.specs.History.{standing, IsLawful}
use Rattle.vic_order.specs.Order.{Server, fresh_server, ready_member, serve}
use Rattle.vic_order.specs.Serving.{Serving, by_rule}
use Rattle.vic_order.specs.Honest.{IsHonestEvent, MayHonestly, scene_after, AreHonest, IsHonestRun, scene_by_rule}
use Rattle.vic_honest.proofs.Events.{after-group}
use Rattle.vic_honest.proofs.Worlds.{server_of-one}
use Rattle.vic_honest.proofs.Runs.{run_fits, all_lawful}
use Rattle.vic_script.specs.declared.line.Line.{Line}
use Rattle.vic_order.specs.Scenes.{Queue, Scene, SceneOf, opening_with, queue_of, set_queue, server_at, set_server, server_of, is_server, after_step, after_serving_with, after_serving_from, after_serving, after_taking_from, after_taking, payload_as_is, Event, Asks, Serves, Takes, Flips, Hears, Resends, Copies, Joins, after_event, after_events, MayAsk, MayHappen, MayAllHappen}
use Rattle.vic_script.specs.Scenes.{events_of_turns, events_of, done_line, bad_kind, is_honest_line}
use Rattle.vic_runs.specs.Claims.{FitsLine}
use Rattle.vic_runs.specs.Reached.{HoldsBytes, IsHonestlyReached}
use Rattle.vic_runs.proofs.Counting.{calls-step, calls-payload}
use Rattle.vic_runs.proofs.Kept.{IsKept}
use Rattle.vic_runs.proofs.Scenes.{step_by}
use Rattle.vic_runs.proofs.Seats.{IsSeated}
use Rattle.vic_runs.proofs.Events.{asked, asks}
use Rattle.vic_runs.proofs.Lines.{HasCallLeft, events_of_turns-may, events_of_turns-honest, events_of_turns-ask, line-may, line-asks, line-honest}
use Rattle.vic_runs.proofs.Lists.{all-set, all-replicate}
use Rattle.vic_runs.proofs.Queues.{queue-bytes, queue_with-bytes}
use Rattle.vic_runs.proofs.Sent.{sent-bytes}

-- what may be asked in a scene may be so whatever its server is
may-ask : {V : Type 0} (s : SceneOf V) (server : Server) (i : ℕ) (given : Input) → MayAsk s i given → MayAsk (scene_by_rule s server) i given
may-ask s server i (input.Call o) may = may
may-ask s server i (input.Object c) may = may
may-ask s server i input.Poll may = may
may-ask s server i input.Sync may = may
may-ask s server i (input.Payload payload) may = absurd may

-- one more honest event
one_more : (s : Scene) (server : Server) (events : List Event) → IsHonestRun s server events → (m : Event) → MayHonestly s m → (next : Scene) (after : Server) → after_event by_rule s m ≡ next → next.group ≡ s.group
    → server_at next.servers 1 ≡ Some after → IsHonestRun next after (m ∷ events)
one_more s server events run m may next after is same one = record {
  group = subst IsGroup (sym same) run.group;
  may = subst (λ g. AreHonest g (m ∷ events)) (sym same) (run.may, subst (λ t. MayHonestly t m) run.is may);
  is = sym is ∙ ap (λ t. after_event by_rule t m) run.is ∙ ap (λ g. scene_after g (m ∷ events)) (sym same);
  one = one;
}

module _ {V : Type 0} (R : V → Server → Type 0) where
  -- a scene that is so reached behind events, by whose run they are made after those before
  pub record IsBehind (s : SceneOf V) (n : ℕ) (r : IsHonestlyReached R s n) (later : List Event) (next : SceneOf V) (m : ℕ) : Type 0 where
    pub reached : IsHonestlyReached R next m
    pub events : reached.comes.events ≡ later ++ r.comes.events

  -- so few calls are at most more
  pub honest-more : (s : SceneOf V) (n m : ℕ) → n ≤ m → IsHonestlyReached R s n → IsHonestlyReached R s m
  honest-more s n m more r = record { comes = r.comes; calls = λ i. omega (arith, more, r.calls i); up_bytes = r.up_bytes }

  behind-more : (s : SceneOf V) (n : ℕ) (r : IsHonestlyReached R s n) (later : List Event) (next : SceneOf V) (k m : ℕ) → k ≤ m → IsBehind s n r later next k → IsBehind s n r later next m
  unfolding honest-more
  behind-more s n r later next k m more b = record { reached = honest-more next k m more b.reached; events = b.events }

  -- a group opens with a server that is a fresh one, as far as R says
  pub honest-opening : (g : Group) (server : V) → IsGroup g → R server (fresh_server g.mode g.count ready_member) → IsHonestlyReached R (opening_with g server) 0
  unfolding standing
  honest-opening g server group same = record {
    comes = record {
      events = [];
      server = fresh_server g.mode g.count ready_member;
      run = record { group = group; may = tt; is = refl; one = refl };
      own = server;
      only = refl;
      same = same;
    };
    calls = λ i. omega arith;
    up_bytes = all-replicate HoldsBytes g.count [] tt;
  }

  -- no event was made then
  pub honest-opening_none : (g : Group) (server : V) (group : IsGroup g) (same : R server (fresh_server g.mode g.count ready_member)) → (honest-opening g server group same).comes.events ≡ []
  unfolding honest-opening
  honest-opening_none g server group same = refl

  -- ---- a client is asked

  -- what a client sends joins its requests
  sent_joins : (s : SceneOf V) → AllByRecursion HoldsBytes s.up → (i : ℕ) (given : Input) → IsLawful s.group (step_by s.group i given s.history ∷ s.history) → AllByRecursion HoldsBytes (after_step s i given).up
  unfolding after_step
  sent_joins s bytes i given lawful =
      let x : TraceStep = step_by s.group i given s.history in
      all-set HoldsBytes s.up _ _ bytes (queue_with-bytes (queue_of s.up i) x.sent (queue-bytes s.up i bytes) (sent-bytes s.group x s.history lawful))

  honest-asked : (s : SceneOf V) (n : ℕ) (r : IsHonestlyReached R s n) (i : ℕ) → 0 < i → i ≤ s.group.count → (given : Input) → MayAsk s i given → IsBehind s n r (Asks i given ∷ []) (after_step s i given) (n + 1)
  unfolding after_step
  honest-asked s n r i above upto given may =
      let g : Group = s.group in
      let next : Scene = scene_by_rule (after_step s i given) r.comes.server in
      let run : IsHonestRun next r.comes.server (Asks i given ∷ r.comes.events) =
      one_more (scene_by_rule s r.comes.server) r.comes.server r.comes.events r.comes.run (Asks i given) (tt, (above, upto, may-ask s r.comes.server i given may)) next r.comes.server refl refl refl in
      let lawful : IsLawful g (step_by g i given s.history ∷ s.history) = all_lawful next r.comes.server (Asks i given ∷ r.comes.events) run in
      record {
        reached = record {
          comes = record {
            events = Asks i given ∷ r.comes.events;
            server = r.comes.server;
            run = run;
            own = r.comes.own;
            only = r.comes.only;
            same = r.comes.same;
          };
          calls = λ j. omega (arith, r.calls j, calls-step g s.history (step_by g i given s.history) j);
          up_bytes = sent_joins s r.up_bytes i given lawful;
        };
        events = refl;
      }

  -- ---- the server serves, and a client takes

  -- all clients are served by the one server
  pub by_one : (s : SceneOf V) (n : ℕ) → IsHonestlyReached R s n → (i : ℕ) → 0 < i → i ≤ s.group.count → server_of s.served_by i ≡ 1
  by_one s n r i above upto = server_of-one s.served_by s.group.count i (run_fits (scene_by_rule s r.comes.server) r.comes.server r.comes.events r.comes.run).one.by above upto

  serves_ruled : (rule : Serving V) (s : SceneOf V) (n : ℕ) → IsHonestlyReached R s n → (v : Server) (i : ℕ) → 0 < i → i ≤ s.group.count → (payload : List ℕ) (rest : Queue) → queue_of s.up i ≡ payload ∷ rest
      → (a : List ℕ × V) → a.0 ≡ answer_text (serve v i payload).answer → server_of s.served_by i ≡ 1
      → after_event by_rule (scene_by_rule s v) (Serves i) ≡ scene_by_rule (after_serving_with s i rest a) (serve v i payload).next
  unfolding after_serving
  serves_ruled rule s n r v i above upto payload rest waits a alike one =
      ap (λ q. after_serving_from by_rule (scene_by_rule s v) i q (server_at (scene_by_rule s v).servers (server_of s.served_by i))) waits
      ∙ ap (λ k. after_serving_from by_rule (scene_by_rule s v) i (payload ∷ rest) (server_at (scene_by_rule s v).servers k)) one
      ∙ ap (λ k. record (after_serving_with (scene_by_rule s v) i rest (by_rule v i i payload)) { servers = set_server (scene_by_rule s v).servers k (Some (serve v i payload).next) }) one
      ∙ ap (λ text. record (scene_by_rule s (serve v i payload).next) { up = set_queue s.up i rest; down = set_queue s.down i (queue_of s.down i ++ text ∷ []) }) (sym alike)

  -- the server that serves a client exists: it is the one
  own_there : (s : SceneOf V) (n : ℕ) (r : IsHonestlyReached R s n) (i : ℕ) → 0 < i → i ≤ s.group.count → server_at s.servers (server_of s.served_by i) ≡ Some r.comes.own
  own_there s n r i above upto = ap (server_at s.servers) (by_one s n r i above upto) ∙ ap (λ l. server_at l 1) r.comes.only

  -- it serves a request that waits
  after_serving_from-one : (rule : Serving V) → IsKept rule R → (s : SceneOf V) (n : ℕ) (r : IsHonestlyReached R s n) (i : ℕ) → 0 < i → i ≤ s.group.count → (payload : List ℕ) (rest : Queue) → queue_of s.up i ≡ payload ∷ rest
      → (server : V) → server_at s.servers (server_of s.served_by i) ≡ Some server → IsBehind s n r (Serves i ∷ []) (after_serving_with s i rest (rule server i i payload)) n
  after_serving_from-one rule kept s n r i above upto payload rest is server there =
      let a : List ℕ × V = rule server i i payload in
      let one : server_of s.served_by i ≡ 1 = by_one s n r i above upto in
      let mine : r.comes.own ≡ server = same_Some r.comes.own server (sym (own_there s n r i above upto) ∙ there) in
      let full : queue_of s.up i ≡ [] → ⊥ = λ e. let none = sym is ∙ e in absurd cc in
      let bytes : HoldsBytes (payload ∷ rest) = subst HoldsBytes is (queue-bytes s.up i r.up_bytes) in
      let few : s.group.count ≤ 64 = r.comes.run.group.count.1 in
      let alike = kept server r.comes.server (subst (λ v. R v r.comes.server) mine r.comes.same) i i payload (omega (arith, upto, few), (omega (arith, upto, few), bytes.0)) in
      record {
        reached = record {
          comes = record {
            events = Serves i ∷ r.comes.events;
            server = (serve r.comes.server i payload).next;
            run = one_more (scene_by_rule s r.comes.server) r.comes.server r.comes.events r.comes.run (Serves i) (tt, (above, upto, full)) (scene_by_rule (after_serving_with s i rest a) (serve r.comes.server i payload).next) (serve r.comes.server i payload).next
                (serves_ruled rule s n r r.comes.server i above upto payload rest is a alike.0 one) refl refl;
            own = a.1;
            only = ap (λ k. set_server s.servers k (Some a.1)) one ∙ ap (λ l. set_server l 1 (Some a.1)) r.comes.only;
            same = alike.1;
          };
          calls = r.calls;
          up_bytes = all-set HoldsBytes s.up _ rest r.up_bytes bytes.1;
        };
        events = refl;
      }

  after_serving_from-next : (rule : Serving V) → IsKept rule R → (s : SceneOf V) (n : ℕ) (r : IsHonestlyReached R s n) (i : ℕ) → 0 < i → i ≤ s.group.count → (queue : Queue) → queue_of s.up i ≡ queue → (queue ≡ [] → ⊥)
      → (server : Option V) → server_at s.servers (server_of s.served_by i) ≡ server → IsBehind s n r (Serves i ∷ []) (after_serving_from rule s i queue server) n
  after_serving_from-next rule kept s n r i above upto [] is full server there = absurd (full refl)
  after_serving_from-next rule kept s n r i above upto (payload ∷ rest) is full None there = let none : Some r.comes.own ≡ None = sym (own_there s n r i above upto) ∙ there in absurd cc
  after_serving_from-next rule kept s n r i above upto (payload ∷ rest) is full (Some server) there = after_serving_from-one rule kept s n r i above upto payload rest is server there

  after_serving-next : (rule : Serving V) → IsKept rule R → (s : SceneOf V) (n : ℕ) (r : IsHonestlyReached R s n) (i : ℕ) → 0 < i → i ≤ s.group.count → (queue_of s.up i ≡ [] → ⊥) → IsBehind s n r (Serves i ∷ []) (after_serving rule s i) n
  unfolding after_serving
  after_serving-next rule kept s n r i above upto full = after_serving_from-next rule kept s n r i above upto (queue_of s.up i) refl full (server_at s.servers (server_of s.served_by i)) refl

  -- it also leaves such a scene where none waits
  honest-after_serving_from : (rule : Serving V) → IsKept rule R → (s : SceneOf V) (n : ℕ) → IsHonestlyReached R s n → (i : ℕ) → 0 < i → i ≤ s.group.count → (queue : Queue) → queue_of s.up i ≡ queue
      → (server : Option V) → server_at s.servers (server_of s.served_by i) ≡ server → IsHonestlyReached R (after_serving_from rule s i queue server) n
  honest-after_serving_from rule kept s n r i above upto [] is server there = r
  honest-after_serving_from rule kept s n r i above upto (payload ∷ rest) is None there = r
  honest-after_serving_from rule kept s n r i above upto (payload ∷ rest) is (Some server) there = (after_serving_from-one rule kept s n r i above upto payload rest is server there).reached

  honest-after_serving : (rule : Serving V) → IsKept rule R → (s : SceneOf V) (n : ℕ) → IsHonestlyReached R s n → (i : ℕ) → 0 < i → i ≤ s.group.count → IsHonestlyReached R (after_serving rule s i) n
  unfolding after_serving
  honest-after_serving rule kept s n r i above upto = honest-after_serving_from rule kept s n r i above upto (queue_of s.up i) refl (server_at s.servers (server_of s.served_by i)) refl

  takes_ruled : (s : SceneOf V) (v : Server) (i : ℕ) (payload : List ℕ) (rest : Queue) → queue_of s.down i ≡ payload ∷ rest → after_event by_rule (scene_by_rule s v) (Takes i) ≡ scene_by_rule (after_taking_from payload_as_is s i (payload ∷ rest)) v
  unfolding after_taking after_step
  takes_ruled s v i payload rest waits = ap (after_taking_from payload_as_is (scene_by_rule s v) i) waits

  after_taking_from-next : (s : SceneOf V) (n : ℕ) (r : IsHonestlyReached R s n) (i : ℕ) → 0 < i → i ≤ s.group.count → (queue : Queue) → queue_of s.down i ≡ queue → (queue ≡ [] → ⊥) → IsBehind s n r (Takes i ∷ []) (after_taking_from payload_as_is s i queue) n
  unfolding after_step
  after_taking_from-next s n r i above upto [] is some = absurd (some refl)
  after_taking_from-next s n r i above upto (payload ∷ rest) is some =
      let g : Group = s.group in
      let full : queue_of s.down i ≡ [] → ⊥ = λ e. let none = sym is ∙ e in absurd cc in
      let next : Scene = scene_by_rule (after_taking_from payload_as_is s i (payload ∷ rest)) r.comes.server in
      let run : IsHonestRun next r.comes.server (Takes i ∷ r.comes.events) =
      one_more (scene_by_rule s r.comes.server) r.comes.server r.comes.events r.comes.run (Takes i) (tt, (above, upto, full)) next r.comes.server (takes_ruled s r.comes.server i payload rest is) refl refl in
      let lawful : IsLawful g (step_by g i (input.Payload payload) s.history ∷ s.history) = all_lawful next r.comes.server (Takes i ∷ r.comes.events) run in
      record {
        reached = record {
          comes = record {
            events = Takes i ∷ r.comes.events;
            server = r.comes.server;
            run = run;
            own = r.comes.own;
            only = r.comes.only;
            same = r.comes.same;
          };
          calls = λ j. omega (arith, r.calls j, calls-payload g s.history (step_by g i (input.Payload payload) s.history) payload refl j);
          up_bytes = sent_joins s r.up_bytes i (input.Payload payload) lawful;
        };
        events = refl;
      }

  after_taking-next : (s : SceneOf V) (n : ℕ) (r : IsHonestlyReached R s n) (i : ℕ) → 0 < i → i ≤ s.group.count → (queue_of s.down i ≡ [] → ⊥) → IsBehind s n r (Takes i ∷ []) (after_taking payload_as_is s i) n
  unfolding after_taking
  after_taking-next s n r i above upto full = after_taking_from-next s n r i above upto (queue_of s.down i) refl full

  -- ---- events

  -- an honest event that may happen leads on to such a scene
  honest-next : (rule : Serving V) → IsKept rule R → (s : SceneOf V) (n : ℕ) (m : Event) (r : IsHonestlyReached R s n) → MayHappen s m → IsHonestEvent m → IsBehind s n r (m ∷ []) (after_event rule s m) (n + asked m)
  honest-next rule kept s n (Asks i given) r may honest = honest-asked s n r i may.0 may.1 given may.2
  honest-next rule kept s n (Serves i) r may honest = behind-more s n r (Serves i ∷ []) (after_serving rule s i) n (n + 0) (omega arith) (after_serving-next rule kept s n r i may.0 may.1 may.2)
  honest-next rule kept s n (Takes i) r may honest = behind-more s n r (Takes i ∷ []) (after_taking payload_as_is s i) n (n + 0) (omega arith) (after_taking-next s n r i may.0 may.1 may.2)
  honest-next rule kept s n (Flips i k) r may honest = absurd honest
  honest-next rule kept s n (Hears i payload) r may honest = absurd honest
  honest-next rule kept s n (Resends i) r may honest = absurd honest
  honest-next rule kept s n (Copies k t) r may honest = absurd honest
  honest-next rule kept s n (Joins i k) r may honest = absurd honest

  -- and so do events of which each may happen after those before it
  pub honest-behind : (rule : Serving V) → IsKept rule R → (s : SceneOf V) (n : ℕ) (events : List Event) (r : IsHonestlyReached R s n) → MayAllHappen rule s events → AllByRecursion IsHonestEvent events
      → IsBehind s n r events (after_events rule s events) (n + asks events)
  unfolding honest-more
  honest-behind rule kept s n [] r may honest = record { reached = honest-more s n (n + 0) (omega arith) r; events = refl }
  honest-behind rule kept s n (m ∷ before) r may honest =
      let first = honest-behind rule kept s n before r may.0 honest.1 in
      let last = honest-next rule kept (after_events rule s before) (n + asks before) m first.reached may.1 honest.0 in
      record {
        reached = honest-more (after_events rule s (m ∷ before)) ((n + asks before) + asked m) (n + asks (m ∷ before)) (omega arith) last.reached;
        events = last.events ∙ ap (λ es. m ∷ es) first.events;
      }

  -- each client has its queues and a server that exists
  pub honest-seated : (s : SceneOf V) (n : ℕ) → IsHonestlyReached R s n → IsSeated s
  honest-seated s n r =
      let one = (run_fits (scene_by_rule s r.comes.server) r.comes.server r.comes.events r.comes.run).one in
      record {
        up_count = one.up_count;
        down_count = one.down_count;
        by_count = ap length one.by ∙ length-replicate s.group.count 1;
        placed = subst (AllByRecursion (λ k. is_server s k ≡ true)) (sym one.by) (all-replicate (λ k. is_server s k ≡ true) s.group.count 1 (ap (λ l. is_some (server_at l 1)) r.comes.only));
      }

  -- what a run leaves that was cut off after so many turns, and also where the next request was served already
  pub honest-left : (rule : Serving V) → IsKept rule R → (s : SceneOf V) (n : ℕ) → IsHonestlyReached R s n → (i : ℕ) → 0 < i → i ≤ s.group.count → (k : ℕ)
      → IsHonestlyReached R (after_events rule s (events_of_turns rule k s i)) n × IsHonestlyReached R (after_serving rule (after_events rule s (events_of_turns rule k s i)) i) n
  honest-left rule kept s n r i above upto k =
      let events : List Event = events_of_turns rule k s i in
      let turned : IsHonestlyReached R (after_events rule s events) n =
      honest-more _ _ n (omega (arith, events_of_turns-ask rule k s i)) (honest-behind rule kept s n events r (events_of_turns-may rule k s (honest-seated s n r) i above upto) (events_of_turns-honest rule k s i)).reached in
      let count : (after_events rule s events).group.count ≡ s.group.count = ap (λ g. g.count) (after-group rule s events) in
      (turned, honest-after_serving rule kept (after_events rule s events) n turned i above (omega (arith, upto, count)))

  -- an honest line that isn't bad leads on to such a scene, behind its events
  pub honest-line_behind : (rule : Serving V) → IsKept rule R → (s : SceneOf V) (n : ℕ) (l : Line) (r : IsHonestlyReached R s n) → HasCallLeft s l → bad_kind s l ≡ None → FitsLine l → is_honest_line l ≡ true
      → IsBehind s n r (events_of rule s l) (done_line rule s l).scene (n + 1)
  honest-line_behind rule kept s n l r left good fits honest =
      let lawful : IsLawful s.group s.history = all_lawful (scene_by_rule s r.comes.server) r.comes.server r.comes.events r.comes.run in
      behind-more s n r (events_of rule s l) _ _ (n + 1) (omega (arith, line-asks rule s l))
      (honest-behind rule kept s n (events_of rule s l) r (line-may rule s l (honest-seated s n r) lawful left good fits) (line-honest rule s l honest))

  pub honest-line : (rule : Serving V) → IsKept rule R → (s : SceneOf V) (n : ℕ) (l : Line) → IsHonestlyReached R s n → HasCallLeft s l → bad_kind s l ≡ None → FitsLine l → is_honest_line l ≡ true
      → IsHonestlyReached R (done_line rule s l).scene (n + 1)
  honest-line rule kept s n l r left good fits honest = (honest-line_behind rule kept s n l r left good fits honest).reached
