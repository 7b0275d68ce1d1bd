-- In every world of an honest run each client stands well.
use Rattle.std.proofs.Common.{◌≡◌, ℕ, suc, zero, ◌+◌, ◌-◌, ◌<◌, ◌≤◌, ◌^◌, Bool, true, false, List, [], ◌∷◌, ◌++◌, length, replicate, Some, is_none, inl, inr, refl, sym, ap, subst, ◌∙◌, arith, append_assoc}
use Rattle.std.specs.Prelude.{slice_get}
use Rattle.std.specs.List.{AllByRecursion}
use Rattle.std.proofs.lemmas.Bool.{cases_eq, and_parts}
use Rattle.std.proofs.lemmas.List.{length-replicate}
use Rattle.sha2.proofs.Facts256.{length-sha256}
use Rattle.vic_spellings.proofs.Bytes.{bytes-sha256}
use Rattle.vic_dict.specs.declared.op.Op.{Op}
use Rattle.vic_dict.specs.declared.op.Op.TheVariants as op
use Rattle.vic_dict.specs.declared.op.Mode.TheVariants as mode
use Rattle.vic_dict.specs.Dictionary.{Fits, AreBytesIn}
use Rattle.vic_wire.specs.declared.message.Digest32.{Digest32}
use Rattle.vic_wire.specs.declared.message.ToServer.TheVariants as ask
use Rattle.vic_rules.specs.declared.object.Phase.{Phase}
use Rattle.vic_rules.specs.declared.object.Phase.TheVariants as phase
use Rattle.vic_rules.specs.declared.object.ObjectCall.TheVariants as object
use Rattle.vic_rules.specs.Objects.{content_hash}
use Rattle.vic_rules.specs.Client.{Keeps as Contains}
use Rattle.vic_honest.proofs.Referred.{kept_by, IsKept, Refers}
use Rattle.vic_honest.proofs.Sent.{IsApart, apart_front, all_sent, one_content}
use Rattle.vic_wire.specs.declared.message.ToClient.{ToClient}
use Rattle.vic_wire.specs.Hashes.{Group, IsGroup}
use Rattle.vic_wire.specs.Messages.{HasSpelling, HasRequestSpelling, request_text, answer_text}
use Rattle.vic_wire.specs.Reading.{read_request}
use Rattle.vic_rules.specs.declared.state.Awaiting.{Awaiting}
use Rattle.vic_rules.specs.declared.state.Awaiting.TheVariants as awaits
use Rattle.vic_rules.specs.declared.trace.Input.{Input}
use Rattle.vic_rules.specs.declared.trace.Input.TheVariants as input
use Rattle.vic_rules.specs.declared.trace.TraceStep.{TraceStep}
use Rattle.vic_rules.specs.Client.{Standing, Sending, Invokes, Commits, Polls, Seals, Syncs, Fetches, move_to_call, Move, step, IsIdle, request_of, awaits_nothing}
use Rattle.vic_rules.specs.History.{standing, Completion, completion, completions, path}
use Rattle.vic_rules.specs.Trust.{texts_made}
use Rattle.vic_order.specs.Order.{Ordered, Server, Answered, fresh_server, ready_member, or_away, member, serve, serve_read}
use Rattle.vic_order.specs.Fates.{entries}
use Rattle.vic_order.specs.Serving.{by_rule}
use Rattle.vic_order.specs.Scenes.{Queue, Scene, opening, queue_of, set_queue, queue_with, server_at, server_of, after_step, after_serving_with, after_serving_from, after_serving, after_taking_from, after_taking, payload_as_is, Event, Asks, Serves, Takes, Flips, Hears, Resends, Copies, Joins, after_event, MayAsk}
use Rattle.vic_order.specs.Honest.{MayHonestly, scene_after, AreHonest}
use Rattle.vic_spellings.proofs.SpelledAnswers.{answer_again}
use Rattle.vic_spellings.proofs.SpelledRequests.{request_again}
use Rattle.vic_laws.proofs.Words.{all_weaker, all_append}
use Rattle.vic_laws.proofs.Standings.{standing_moved, standing_kept}
use Rattle.vic_honest.proofs.Words.{length-entries}
use Rattle.vic_honest.proofs.Queues.{queue-set_same, queue-set_other, queue-fresh}
use Rattle.vic_honest.proofs.Standing.{World, world_of, HasOne, SceneFits, StandingFits, RequestGoes, Doing, Rests, Sends, Gets, up_by, down_by, ClientFits, WorldFits}
use Rattle.vic_honest.proofs.Standing as fitting
use Rattle.vic_honest.proofs.Serving.{length-tag, payload_served}
use Rattle.vic_honest.proofs.Worlds.{step_of, move, idle_rests, room_left, server_is, served_next, server_next, server_after, all_fit}
use Rattle.vic_honest.proofs.Owns.{owns-nil}
use Rattle.vic_honest.proofs.Knowing.{ServerKnows, Keeps, Calm, Does, IsSpelled, ClientKnows}
use Rattle.vic_honest.proofs.Checks.{nothing_is, root_on-nil}
use Rattle.vic_honest.proofs.Frame.{client_stays}
use Rattle.vic_honest.proofs.Answering.{Answers}
use Rattle.vic_honest.proofs.Requests.{IsOne, request_answers}
use Rattle.vic_honest.proofs.Learning.{IsFated, IsFine, EndsFine, ends_later, Stands, Learns, stands_sending, answer_learnt}

-- each client stands well, each completed call has its fate, and nothing else was returned but refusals for want of room
pub record WorldKnows (g : Group) (w : World) : Type 0 where
  pub server : ServerKnows g w.server
  pub clients : (me : ℕ) → 0 < me → me ≤ g.count → ClientKnows g me w.server (standing g me w.history) (w.up me) (w.down me)
  pub fates : AllByRecursion (IsFated w.server.log) (completions g w.history)
  pub fine : AllByRecursion (λ x. IsFine x.returned) w.history
  pub ends : AllByRecursion (λ x. EndsFine g.mode w.server.contents x.object) w.history

abbrev pub SceneKnows : Scene → Server → Type 0
SceneKnows s server = WorldKnows s.group (world_of s server)

pub no_item : {X : Type 0} (xs : List X) (x : X) → xs ≡ [] → xs ≡ x ∷ [] → ⊥
no_item xs x e f = cc

one_item : {X : Type 0} (xs : List X) (x y : X) → xs ≡ x ∷ [] → xs ≡ y ∷ [] → x ≡ y
one_item xs x y e f = cc

fated-grows : (new log : List Ordered) (c : Completion) → IsFated log c → IsFated (new ++ log) c
fated-grows new log c f = record {
  newer = new ++ f.newer;
  o = f.o;
  below = f.below;
  is = ap (λ l. new ++ l) f.is ∙ sym (append_assoc new f.newer (f.o ∷ f.below));
  prefix = f.prefix;
  client = f.client;
  outcome = f.outcome;
}

-- ---- a client's step

completions-more : (g : Group) (x : TraceStep) (past : List TraceStep) → completions g (x ∷ past) ≡ completion x.client (path g x.client (x ∷ past)) x.returned ++ completions g past
unfolding completions
completions-more g x past = refl

module _ (s : Scene) (server : Server) (one : HasOne s server) (know : WorldKnows s.group (world_of s server)) (me : ℕ) (above : 0 < me) (upto : me ≤ s.group.count) (i : Input)
    (down : List Queue) (same : (j : ℕ) → (j ≡ me → ⊥) → 0 < j → queue_of down j ≡ queue_of s.down j) where
  abbrev x : TraceStep
  x = step_of s.group (world_of s server) me i

  abbrev v : Move
  v = move s.group (world_of s server) me i

  abbrev up : List Queue
  up = set_queue s.up me (queue_with (queue_of s.up me) x.sent)

  mine : Stands s.group me server v.next v.sends → queue_of s.up me ≡ [] → queue_of down me ≡ [] → ClientKnows s.group me server (standing s.group me (x ∷ s.history)) (queue_of up me) (queue_of down me)
  mine moved up_is down_is =
      let queue : queue_of up me ≡ queue_with [] x.sent =
      queue-set_same s.up me (queue_with (queue_of s.up me) x.sent) above (omega (arith, upto, one.up_count)) ∙ ap (λ q. queue_with q x.sent) up_is in
      subst (λ t. ClientKnows s.group me server t (queue_of up me) (queue_of down me)) (sym (standing_moved s.group me x s.history refl))
      (subst (λ u. ClientKnows s.group me server v.next u (queue_of down me)) (sym queue) (subst (λ d. ClientKnows s.group me server v.next (queue_with [] x.sent) d) (sym down_is) moved))

  others : (j : ℕ) → (j ≡ me → ⊥) → 0 < j → j ≤ s.group.count → ClientKnows s.group j server (standing s.group j (x ∷ s.history)) (queue_of up j) (queue_of down j)
  others j apart low high =
      subst (λ t. ClientKnows s.group j server t (queue_of up j) (queue_of down j)) (sym (standing_kept s.group j x s.history (λ e. apart (sym e))))
      (subst (λ u. ClientKnows s.group j server (standing s.group j s.history) u (queue_of down j)) (sym (queue-set_other s.up me j (queue_with (queue_of s.up me) x.sent) above low apart))
      (subst (λ d. ClientKnows s.group j server (standing s.group j s.history) (queue_of s.up j) d) (sym (same j apart low)) (know.clients j low high)))

  step_knows : Learns s.group me server v → queue_of s.up me ≡ [] → queue_of down me ≡ [] → SceneKnows (after_step (record s { down = down }) me i) server
  unfolding after_step
  step_knows learns up_is down_is = record {
    server = know.server;
    clients = λ j low high. elim (cases_eq j me) [
      | inl e ↦ subst (λ n. ClientKnows s.group n server (standing s.group n (x ∷ s.history)) (queue_of up n) (queue_of down n)) (sym e) (mine learns.client up_is down_is)
      | inr apart ↦ others j apart low high
    ];
    fates = subst (AllByRecursion (IsFated server.log)) (sym (completions-more s.group x s.history))
        (all_append (IsFated server.log) (completion me (path s.group me (x ∷ s.history)) v.returns) (completions s.group s.history)
        (subst (λ t. AllByRecursion (IsFated server.log) (completion me t.path v.returns)) (sym (standing_moved s.group me x s.history refl)) learns.fates) know.fates);
    fine = (learns.fine, know.fine);
    ends = (learns.ends, know.ends);
  }

-- ---- asking

rests_calm : (g : Group) (me : ℕ) (s : Server) (t : Standing) (seen newer : List Ordered) (up down : List (List ℕ)) (doing : Doing) → up ≡ [] → down ≡ [] → up ≡ up_by g me t doing → down ≡ down_by doing
    → Does g me s t seen newer doing → Calm me s t newer
rests_calm g me s t seen newer up down Rests e f up_is down_is does = does.1
rests_calm g me s t seen newer up down (Sends sending) e f up_is down_is does = absurd (no_item up (request_text (request_of g me t sending)) e up_is)
rests_calm g me s t seen newer up down (Gets m) e f up_is down_is does = absurd (no_item down (answer_text m) f down_is)

module _ (s : Scene) (server : Server) (fit : SceneFits s server) (know : SceneKnows s server) (me : ℕ) (above : 0 < me) (upto : me ≤ s.group.count) where
  abbrev here : Standing
  here = standing s.group me s.history

  abbrev client : ClientKnows s.group me server (standing s.group me s.history) (queue_of s.up me) (queue_of s.down me)
  client = know.clients me above upto

  abbrev weak : ClientFits s.group (texts_made s.group s.history) me server.log (standing s.group me s.history) (queue_of s.up me) (queue_of s.down me)
  weak = fit.fits.clients me above upto

  pub nothing_under_way : IsIdle here → (queue_of s.up me ≡ []) × (queue_of s.down me ≡ [])
  nothing_under_way idle = idle_rests s.group me here (queue_of s.up me) (queue_of s.down me) weak.doing (and_parts (awaits_nothing here.awaiting) (is_none here.halted) idle).0 weak.busy weak.up_is weak.down_is

  calm_now : IsIdle here → Calm me server here client.newer
  calm_now idle = let none = nothing_under_way idle in
      rests_calm s.group me server here client.seen client.newer (queue_of s.up me) (queue_of s.down me) client.doing none.0 none.1 client.up_is client.down_is client.does

  keeps_asking : (a : Awaiting) (p : Phase) (calls : ℕ) → here.calls ≤ calls → ((h : Digest32) (len : ℕ) → p ≡ phase.Fetching h len → (server.mode ≡ mode.Objects) × IsKept server.contents h.bytes len)
      → Keeps me server (record here { awaiting = a; phase = p; calls = calls }) client.seen client.newer
  keeps_asking a p calls more fetching = record {
    over = client.keeps.over;
    base = client.keeps.base;
    log = client.keeps.log;
    path = client.keeps.path;
    going = client.keeps.going;
    cut = client.keeps.cut;
    sealed = client.keeps.sealed;
    root = client.keeps.root;
    own = client.keeps.own;
    unsealed = client.keeps.unsealed;
    last = omega (arith, client.keeps.last);
    fetching = fetching;
  }

  calm_asking : (a : Awaiting) (p : Phase) (calls : ℕ) → IsIdle here → Calm me server (record here { awaiting = a; phase = p; calls = calls }) client.newer
  calm_asking a p calls idle = let c = calm_now idle in record { ready = c.ready; sealed = c.sealed; others = c.others }

  -- a client that calls an operation stands well
  op_known : (p : Phase) (o : Op) (load : Bool) → ((h : Digest32) (len : ℕ) → p ≡ phase.Fetching h len → ⊥) → (p ≡ phase.Calling → server.mode ≡ mode.Objects) → (load ≡ true → server.mode ≡ mode.Objects)
      → (server.mode ≡ mode.Objects → Refers server.contents o) → Fits o → AreBytesIn o → IsIdle here → Learns s.group me server (move_to_call here p o load)
  op_known p o load not_fetching calling loads refers fits bytes idle = record {
    client = stands_sending s.group me server (move_to_call here p o load).next (Invokes (here.calls + 1) o) client.seen client.newer
        (keeps_asking (awaits.Reply (here.calls + 1) o load) p (here.calls + 1) (omega arith) (λ h len e. absurd (not_fetching h len e)))
        (record {
          load = load;
          objects = record { calling = calling; loads = loads };
          refers = refers;
          awaiting = refl;
          number = refl;
          new = omega (arith, client.keeps.last);
          fits = (fits, bytes);
          calm = calm_asking (awaits.Reply (here.calls + 1) o load) p (here.calls + 1) idle;
        });
    fates = tt;
    fine = tt;
    ends = tt;
  }

  asked : (i : Input) → IsIdle here → Learns s.group me server (move s.group (world_of s server) me i) → SceneKnows (after_step s me i) server
  asked i idle learns = let none = nothing_under_way idle in step_knows s server fit.one know me above upto i s.down (λ j apart low. refl) learns none.0 none.1

  asks_know : (i : Input) → MayAsk s me i → SceneKnows (after_step s me i) server
  unfolding step
  asks_know (input.Call o) may =
      let ask = may in
      asked (input.Call o) ask.0 (op_known phase.Closed o false (λ h len e. absurd cc) (λ e. absurd cc) (λ e. absurd cc)
      (λ objects. let other : mode.Plain ≡ mode.Objects = sym ask.1.0 ∙ (sym know.server.kind ∙ objects) in absurd cc) ask.1.1.0 ask.1.1.1.0 ask.0)
  asks_know (input.Object (object.Store k c)) may =
      let ask = may in
      let h : Digest32 = record { bytes = content_hash c } in
      let p : Phase = phase.Keeping k h (length c) in
      asked (input.Object (object.Store k c)) ask.0 (record {
        client = stands_sending s.group me server (record here { awaiting = awaits.Kept; phase = p }) (Contains c) client.seen client.newer
            (keeps_asking awaits.Kept p here.calls (omega arith) (λ h len e. absurd cc))
            (record {
              key = k;
              awaiting = refl;
              at = refl;
              holds = (((ask.1.1.0.0, ask.1.1.1.0.0), (length-sha256 _, bytes-sha256 _)), ask.1.1.1.1);
              small = ask.1.1.0.1;
              objects = know.server.kind ∙ ask.1.0;
              calm = calm_asking awaits.Kept p here.calls ask.0;
            });
        fates = tt;
        fine = tt;
        ends = tt;
      })
  asks_know (input.Object (object.Load k)) may =
      let ask = may in
      let here_too : server.mode ≡ mode.Objects = know.server.kind ∙ ask.1.0 in
      asked (input.Object (object.Load k)) ask.0 (op_known phase.Calling (op.Get k) true (λ h len e. absurd cc) (λ e. here_too) (λ e. here_too) (λ e. tt) ask.1.1.0 ask.1.1.1.0 ask.0)
  asks_know (input.Object (object.Erase k)) may =
      let ask = may in
      let here_too : server.mode ≡ mode.Objects = know.server.kind ∙ ask.1.0 in
      asked (input.Object (object.Erase k)) ask.0 (op_known phase.Calling (op.Del k) false (λ h len e. absurd cc) (λ e. here_too) (λ e. here_too) (λ e. tt) ask.1.1.0 ask.1.1.1.0 ask.0)
  asks_know (input.Object (object.Names q)) may =
      let ask = may in
      let here_too : server.mode ≡ mode.Objects = know.server.kind ∙ ask.1.0 in
      asked (input.Object (object.Names q)) ask.0 (op_known phase.Calling (op.List q) false (λ h len e. absurd cc) (λ e. here_too) (λ e. here_too) (λ e. tt) (omega (arith, ask.1.1.0)) ask.1.1.1.0 ask.0)
  asks_know input.Poll may =
      asked input.Poll may (record {
        client = stands_sending s.group me server (record here { awaiting = awaits.Turn }) Polls client.seen client.newer (keeps_asking awaits.Turn here.phase here.calls (omega arith) client.keeps.fetching) (refl, calm_asking awaits.Turn here.phase here.calls may);
        fates = tt;
        fine = tt;
        ends = tt;
      })
  asks_know input.Sync may =
      asked input.Sync may (record {
        client = stands_sending s.group me server (record here { awaiting = awaits.Entries }) Syncs client.seen client.newer (keeps_asking awaits.Entries here.phase here.calls (omega arith) client.keeps.fetching) (refl, calm_asking awaits.Entries here.phase here.calls may);
        fates = tt;
        fine = tt;
        ends = tt;
      })
  asks_know (input.Payload payload) may = absurd may

-- ---- serving

-- what is sent has a spelling
pub request_spelled : (g : Group) (me : ℕ) (s : Server) (t : Standing) (seen newer : List Ordered) → StandingFits t → length t.path < 2 ^ 32 → Keeps me s t seen newer → (sending : Sending) → Does g me s t seen newer (Sends sending)
    → HasRequestSpelling (request_of g me t sending)
request_spelled g me s t seen newer fits room keeps (Invokes n o) d = (room, ((omega (arith, d.new), omega (arith, d.number, fits.calls)), (d.fits, length-tag _ _)))
request_spelled g me s t seen newer fits room keeps (Commits done) d = ((omega (arith, ap length keeps.path, length-entries seen, ap length d.top), room), length-tag _ _)
request_spelled g me s t seen newer fits room keeps Polls d = tt
request_spelled g me s t seen newer fits room keeps Seals d = ((omega (arith, d.position), omega (arith, fits.sealed)), (fits.root, length-tag _ _))
request_spelled g me s t seen newer fits room keeps Syncs d = room
request_spelled g me s t seen newer fits room keeps (Contains c) d = d.small
request_spelled g me s t seen newer fits room keeps (Fetches h) d = d.long

pub served_as : {g : Group} (s : Server) (k : ServerKnows g s) (me : ℕ) (above : 0 < me) (upto : me ≤ g.count) (t : Standing) (seen newer : List Ordered) (keeps : Keeps me s t seen newer) (sending : Sending) (payload : List ℕ)
    → Does g me s t seen newer (Sends sending) → IsOne g s k me above upto t seen newer keeps sending → read_request payload ≡ Some (request_of g me t sending) → Answers g me s t seen newer (serve s me payload)
unfolding serve
served_as {g} s k me above upto t seen newer keeps sending payload does one read =
    subst (λ r. Answers g me s t seen newer (serve_read s me r)) (sym read) (request_answers g s k me above upto t seen newer keeps sending does one)

fresh_member : (n i : ℕ) → i < n → slice_get (replicate n ready_member) i ≡ Some ready_member
fresh_member zero i h = absurd (omega arith)
fresh_member (suc n) zero h = refl
fresh_member (suc n) (suc i) h = fresh_member n i (omega arith)

-- of a content that waits to be kept the server keeps no other with its hash
one_here : (g : Group) (s : Server) (k : ServerKnows g s) (me : ℕ) (above : 0 < me) (upto : me ≤ g.count) (t : Standing) (seen newer : List Ordered) (keeps : Keeps me s t seen newer) (x : Sending) → Does g me s t seen newer (Sends x)
    → (g.mode ≡ mode.Objects → (c : List ℕ) → request_of g me t x ≡ ask.Keep c → (y : List ℕ) → kept_by s.contents (content_hash c) ≡ Some y → y ≡ c) → IsOne g s k me above upto t seen newer keeps x
one_here g s k me above upto t seen newer keeps (Contains c) d h = h (sym k.kind ∙ d.objects) c refl
one_here g s k me above upto t seen newer keeps (Invokes n o) d h = tt
one_here g s k me above upto t seen newer keeps (Commits done) d h = tt
one_here g s k me above upto t seen newer keeps Polls d h = tt
one_here g s k me above upto t seen newer keeps Seals d h = tt
one_here g s k me above upto t seen newer keeps Syncs d h = tt
one_here g s k me above upto t seen newer keeps (Fetches x) d h = tt

-- in this scene, of each content that waits to be kept the server keeps no other with its hash
abbrev OneContent : Scene → Server → Type 0
OneContent s server = s.group.mode ≡ mode.Objects → (me : ℕ) → 0 < me → me ≤ s.group.count → (c : List ℕ) → queue_of s.up me ≡ request_text (ask.Keep c) ∷ []
    → (y : List ℕ) → kept_by server.contents (content_hash c) ≡ Some y → y ≡ c

module _ (s : Scene) (server : Server) (fit : SceneFits s server) (know : SceneKnows s server) (me : ℕ) (above : 0 < me) (upto : me ≤ s.group.count) where
  -- what is answered has a spelling
  pub answer_spelled : (payload : List ℕ) → queue_of s.up me ≡ payload ∷ [] → HasSpelling (serve server me payload).answer
  answer_spelled payload up_is =
      let c = fit.fits.clients me above upto in by_doing c.seen c.newer c.is c.path c.fits c.doing c.up_is c.does
    where
      by_doing : (seen newer : List Ordered) → server.log ≡ newer ++ seen → (standing s.group me s.history).path ≡ entries seen → StandingFits (standing s.group me s.history) → (doing : Doing)
          → queue_of s.up me ≡ up_by s.group me (standing s.group me s.history) doing → fitting.Does s.group (texts_made s.group s.history) me server.log (standing s.group me s.history) seen newer doing → HasSpelling (serve server me payload).answer
      by_doing seen newer is path fits Rests up does = absurd (no_item (queue_of s.up me) payload up up_is)
      by_doing seen newer is path fits (Sends sending) up does =
          let same = one_item (queue_of s.up me) (request_text (request_of s.group me (standing s.group me s.history) sending)) payload up up_is in
          subst (λ p. HasSpelling (serve server me p).answer) same
          (payload_served s.group fit.one.group (texts_made s.group s.history) server me above upto (standing s.group me s.history) seen newer is path fits fit.fits.server sending does).answer.spelled
      by_doing seen newer is path fits (Gets m) up does = absurd (no_item (queue_of s.up me) payload up up_is)

  sent_known : OneContent s server → (seen newer : List Ordered) → Keeps me server (standing s.group me s.history) seen newer → (sending : Sending) → (payload : List ℕ)
      → request_text (request_of s.group me (standing s.group me s.history) sending) ≡ payload → queue_of s.up me ≡ payload ∷ [] → queue_of s.down me ≡ []
      → Does s.group me server (standing s.group me s.history) seen newer (Sends sending) → SceneKnows (after_serving_with s me [] (by_rule server me me payload)) (serve server me payload).next
  sent_known only seen newer keeps sending payload payload_is up_is down_is does =
      let g : Group = s.group in
      let t : Standing = standing g me s.history in
      let c : ClientFits g (texts_made g s.history) me server.log (standing g me s.history) (queue_of s.up me) (queue_of s.down me) = fit.fits.clients me above upto in
      let a : Answered = serve server me payload in
      let room : length t.path < 2 ^ 32 = room_left g (texts_made g s.history) server t c.seen c.newer fit.fits.server c.is c.path in
      let read : read_request payload ≡ Some (request_of g me t sending) =
      ap read_request (sym payload_is) ∙ request_again (request_of g me t sending) (request_spelled g me server t seen newer c.fits room keeps sending does) in
      let one : IsOne g server know.server me above upto t seen newer keeps sending =
      one_here g server know.server me above upto t seen newer keeps sending does (λ objects c e y found. only objects me above upto c (up_is ∙ ap (λ p. p ∷ []) (sym payload_is ∙ ap request_text e)) y found) in
      let v : Answers g me server t seen newer a = served_as server know.server me above upto t seen newer keeps sending payload does one read in
      let up : List Queue = set_queue s.up me [] in
      let joined : Queue = queue_of s.down me ++ answer_text a.answer ∷ [] in
      let down : List Queue = set_queue s.down me joined in
      let grown : a.next.log ≡ v.new ++ server.log = v.keeps.log ∙ append_assoc v.new newer seen ∙ ap (λ l. v.new ++ l) (sym keeps.log) in
      let mine : ClientKnows g me a.next t (queue_of up me) (queue_of down me) = record {
        seen = seen;
        newer = v.new ++ newer;
        keeps = v.keeps;
        doing = Gets a.answer;
        up_is = queue-set_same s.up me [] above (omega (arith, upto, fit.one.up_count));
        down_is = queue-set_same s.down me joined above (omega (arith, upto, fit.one.down_count)) ∙ ap (λ q. q ++ answer_text a.answer ∷ []) down_is;
        spelled = answer_spelled payload up_is;
        does = v.does;
      } in
      record {
        server = v.knows;
        clients = λ j low high. elim (cases_eq j me) [
          | inl e ↦ subst (λ k. ClientKnows g k a.next (standing g k s.history) (queue_of up k) (queue_of down k)) (sym e) mine
          | inr apart ↦
              subst (λ u. ClientKnows g j a.next (standing g j s.history) u (queue_of down j)) (sym (queue-set_other s.up me j [] above low apart))
              (subst (λ d. ClientKnows g j a.next (standing g j s.history) (queue_of s.up j) d) (sym (queue-set_other s.down me j joined above low apart))
              (client_stays g j server a.next (v.others j low apart) (standing g j s.history) (queue_of s.up j) (queue_of s.down j) (know.clients j low high)))
        ];
        fates = subst (λ l. AllByRecursion (IsFated l) (completions g s.history)) (sym grown)
            (all_weaker (IsFated server.log) (IsFated (v.new ++ server.log)) (fated-grows v.new server.log) (completions g s.history) know.fates);
        fine = know.fine;
        ends = all_weaker (λ x. EndsFine g.mode server.contents x.object) (λ x. EndsFine g.mode a.next.contents x.object) (λ x h. ends_later g.mode server.contents a.next.contents v.still_kept x.object h) s.history know.ends;
      }

  serves_by : OneContent s server → (queue_of s.up me ≡ [] → ⊥) → (seen newer : List Ordered) → Keeps me server (standing s.group me s.history) seen newer → (doing : Doing)
      → queue_of s.up me ≡ up_by s.group me (standing s.group me s.history) doing → queue_of s.down me ≡ down_by doing
      → Does s.group me server (standing s.group me s.history) seen newer doing → SceneKnows (after_serving by_rule s me) (served_next server me (queue_of s.up me))
  unfolding after_serving
  serves_by only waits seen newer keeps Rests up_is down_is does = absurd (waits up_is)
  serves_by only waits seen newer keeps (Sends sending) up_is down_is does =
      let payload : List ℕ = request_text (request_of s.group me (standing s.group me s.history) sending) in
      subst (λ q. SceneKnows (after_serving_from by_rule s me q (server_at s.servers (server_of s.served_by me))) (served_next server me q)) (sym up_is)
      (subst (λ o. SceneKnows (after_serving_from by_rule s me (payload ∷ []) o) (serve server me payload).next) (sym (server_is s server fit.one me above upto))
      (sent_known only seen newer keeps sending payload refl up_is down_is does))
  serves_by only waits seen newer keeps (Gets m) up_is down_is does = absurd (waits up_is)

  serves_know : OneContent s server → (queue_of s.up me ≡ [] → ⊥) → SceneKnows (after_serving by_rule s me) (served_next server me (queue_of s.up me))
  serves_know only waits = let c = know.clients me above upto in serves_by only waits c.seen c.newer c.keeps c.doing c.up_is c.down_is c.does

  -- ---- taking

  got_known : (seen newer : List Ordered) → Keeps me server (standing s.group me s.history) seen newer → (m : ToClient) → HasSpelling m
      → queue_of s.up me ≡ [] → Does s.group me server (standing s.group me s.history) seen newer (Gets m) → SceneKnows (after_taking_from payload_as_is s me (answer_text m ∷ [])) server
  got_known seen newer keeps m spelled up_is does =
      step_knows s server fit.one know me above upto (input.Payload (answer_text m)) (set_queue s.down me []) (λ j apart low. queue-set_other s.down me j [] above low apart)
      (answer_learnt s.group (texts_made s.group s.history) server know.server fit.fits.server.log fit.fits.server.room me (standing s.group me s.history) seen newer keeps (answer_text m) (fit.fits.clients me above upto).fits.phase m (answer_again m spelled) does)
      up_is (queue-set_same s.down me [] above (omega (arith, upto, fit.one.down_count)))

  takes_by : (queue_of s.down me ≡ [] → ⊥) → (seen newer : List Ordered) → Keeps me server (standing s.group me s.history) seen newer → (doing : Doing)
      → queue_of s.up me ≡ up_by s.group me (standing s.group me s.history) doing → queue_of s.down me ≡ down_by doing
      → IsSpelled doing → Does s.group me server (standing s.group me s.history) seen newer doing → SceneKnows (after_taking payload_as_is s me) server
  unfolding after_taking
  takes_by waits seen newer keeps Rests up_is down_is spelled does = absurd (waits down_is)
  takes_by waits seen newer keeps (Sends sending) up_is down_is spelled does = absurd (waits down_is)
  takes_by waits seen newer keeps (Gets m) up_is down_is spelled does = subst (λ q. SceneKnows (after_taking_from payload_as_is s me q) server) (sym down_is) (got_known seen newer keeps m spelled up_is does)

  takes_know : (queue_of s.down me ≡ [] → ⊥) → SceneKnows (after_taking payload_as_is s me) server
  takes_know waits = let c = know.clients me above upto in takes_by waits c.seen c.newer c.keeps c.doing c.up_is c.down_is c.spelled c.does

opening_knows : (g : Group) → SceneKnows (opening g) (fresh_server g.mode g.count ready_member)
unfolding standing completions
opening_knows g = record {
  server = record {
    over = [];
    base = [];
    is = refl;
    members = length-replicate g.count ready_member;
    ordered = tt;
    near = omega arith;
    seals = refl;
    dictionary = sym nothing_is;
    fates = λ newer o below done is committed. absurd cc;
    unmade = λ n past. refl;
    past = tt;
    kind = refl;
    referred = λ objects. tt;
  };
  clients = λ j low high.
      let member_is : member (fresh_server g.mode g.count ready_member) j ≡ ready_member = ap or_away (fresh_member g.count (j - 1) (omega arith)) in
      record {
        seen = [];
        newer = [];
        keeps = record {
          over = [];
          base = [];
          log = refl;
          path = refl;
          going = refl;
          cut = refl;
          sealed = refl;
          root = sym root_on-nil;
          own = sym (owns-nil j 0);
          unsealed = tt;
          last = subst (λ m. m.last ≤ 0) (sym member_is) (omega arith);
          fetching = λ h len e. absurd cc;
        };
        doing = Rests;
        up_is = queue-fresh g.count j;
        down_is = queue-fresh g.count j;
        spelled = tt;
        does = (refl, record { ready = ap (λ m. m.stage) member_is; sealed = omega arith; others = tt });
      };
  fates = tt;
  fine = tt;
  ends = tt;
}

happens_known : (s : Scene) (server : Server) → SceneFits s server → OneContent s server → SceneKnows s server → (m : Event) → MayHonestly s m → SceneKnows (after_event by_rule s m) (server_next s server m)
happens_known s server fit only know (Asks me i) may = asks_know s server fit know me may.1.0 may.1.1 i may.1.2
happens_known s server fit only know (Serves me) may = serves_know s server fit know me may.1.0 may.1.1 only may.1.2
happens_known s server fit only know (Takes me) may = takes_know s server fit know me may.1.0 may.1.1 may.1.2
happens_known s server fit only know (Flips me n) may = absurd may.0
happens_known s server fit only know (Hears me payload) may = absurd may.0
happens_known s server fit only know (Resends me) may = absurd may.0
happens_known s server fit only know (Copies n t) may = absurd may.0
happens_known s server fit only know (Joins me n) may = absurd may.0

pub all_known : (g : Group) → IsGroup g → (events : List Event) → AreHonest g events → IsApart (scene_after g events) → SceneKnows (scene_after g events) (server_after g events)
unfolding server_after
all_known g group [] h apart = opening_knows g
all_known g group (m ∷ before) h apart =
    let here : Scene = scene_after g before in
    let v : Server = server_after g before in
    let fit : SceneFits here v = all_fit g group before h.0 in
    let apart_before : IsApart here = apart_front here m h.1 apart in
    happens_known here v fit (one_content here v (all_sent g group before h.0) apart_before) (all_known g group before h.0 apart_before) m h.1
