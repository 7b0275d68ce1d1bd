-- Every world of an honest run is fit.
use Rattle.std.proofs.Common.{◌≡◌, ℕ, ◌+◌, ◌-◌, ◌<◌, ◌≤◌, ◌^◌, Bool, true, false, List, [], ◌∷◌, ◌++◌, length, replicate, Option, Some, None, is_none, inl, inr, refl, sym, ap, subst, ◌∙◌, arith, length-append, append_assoc}
use Rattle.std.specs.List.{AllByRecursion}
use Rattle.std.proofs.lemmas.Bool.{cases_eq, and_parts}
use Rattle.std.proofs.lemmas.List.{length-replicate, get_or-replicate}
use Rattle.std.proofs.lemmas.Option.{unwrap_or-slice_get}
use Rattle.sha2.proofs.Facts256.{length-sha256}
use Rattle.vic_dict.specs.Lists.{IsIn, AreBytes}
use Rattle.vic_dict.specs.declared.op.Op.{Op}
use Rattle.vic_dict.specs.declared.op.Op.TheVariants as op
use Rattle.vic_dict.specs.Dictionary.{Fits, AreBytesIn}
use Rattle.vic_wire.specs.declared.message.Digest32.{Digest32}
use Rattle.vic_rules.specs.declared.object.Phase.{Phase}
use Rattle.vic_rules.specs.declared.object.Phase.TheVariants as phase
use Rattle.vic_rules.specs.declared.object.ObjectCall.TheVariants as object
use Rattle.vic_rules.specs.Objects.{content_hash}
use Rattle.vic_wire.specs.declared.message.ToClient.{ToClient}
use Rattle.vic_wire.specs.declared.message.Seal.{Seal}
use Rattle.vic_wire.specs.Hashes.{Group, IsGroup}
use Rattle.vic_wire.specs.Messages.{request_text, answer_text}
use Rattle.vic_rules.specs.declared.state.Awaiting.TheVariants as awaits
use Rattle.vic_rules.specs.declared.trace.Input.{Input}
use Rattle.vic_rules.specs.declared.trace.Input.TheVariants as input
use Rattle.vic_rules.specs.declared.trace.TraceStep.{TraceStep}
use Rattle.vic_rules.specs.Client.{Standing, Sending, Invokes, Polls, Syncs, Keeps, move_to_call, Move, step, MayStep, IsIdle, request_of, payload_of, awaits_nothing, seal_of}
use Rattle.vic_rules.specs.History.{standing}
use Rattle.vic_rules.specs.Trust.{IsForged, texts_made, text_sent, checked_texts, answer_unless_halted, answer_taken}
use Rattle.vic_order.specs.Order.{Ordered, Server, Answered, fresh_server, ready_member, serve}
use Rattle.vic_order.specs.Serving.{by_rule}
use Rattle.vic_order.specs.Scenes.{Queue, Scene, opening, queue_of, set_queue, queue_with, server_at, set_server, server_of, after_step, after_serving_with, after_serving_from, after_serving, after_taking_from, after_taking, payload_as_is, Event, Asks, Serves, Takes, Flips, Hears, Resends, Copies, Joins, after_event, MayAsk}
use Rattle.vic_order.specs.Fates.{entries}
use Rattle.vic_order.specs.Honest.{MayHonestly, scene_after, AreHonest}
use Rattle.vic_spellings.proofs.Bytes.{bytes-sha256}
use Rattle.vic_spellings.proofs.SpelledAnswers.{answer_again}
use Rattle.vic_roots.proofs.Proper.{proper-nothing}
use Rattle.vic_laws.proofs.Words.{all_weaker, in_right}
use Rattle.vic_laws.proofs.Standings.{standing_moved, standing_kept}
use Rattle.vic_honest.proofs.Words.{AreMade, length-entries}
use Rattle.vic_honest.proofs.Words.{Keeps as Stays}
use Rattle.vic_honest.proofs.Serving.{length-tag, seal-grows, Served, payload_served}
use Rattle.vic_honest.proofs.Taking.{Moved, now_sends, payload_taken}
use Rattle.vic_honest.proofs.Queues.{queue-set_same, queue-set_other, queue-fresh, length-set_queue}
use Rattle.vic_honest.proofs.Standing.{World, world_of, HasOne, SceneFits, EntryFits, SealFits, ServerFits, StandingFits, PhaseHolds, RequestGoes, AnswerComes, OfSeal, IsWithin, Doing, Rests, Sends, Gets, Does, IsBusy, up_by, down_by, ClientFits}

-- ---- what stays as more is made and the log grows

entry-stays : (before made : List (List ℕ)) → Stays before made → (o : Ordered) → EntryFits before o → EntryFits made o
entry-stays before made keeps o fits = record { spelled = fits.spelled; tag = fits.tag; tag_bytes = fits.tag_bytes; text = keeps _ fits.text }

seal-stays : (g : Group) (before made : List (List ℕ)) → Stays before made → (log : List Ordered) (x : Seal) → SealFits g before log x → SealFits g made log x
seal-stays g before made keeps log x fits = record { spelled = fits.spelled; root_bytes = fits.root_bytes; tag_bytes = fits.tag_bytes; within = fits.within; text = λ above. keeps _ (fits.text above) }

server-stays : (g : Group) (before made : List (List ℕ)) → Stays before made → (s : Server) → ServerFits g before s → ServerFits g made s
server-stays g before made keeps s fits = record {
  log = all_weaker (EntryFits before) (EntryFits made) (entry-stays before made keeps) s.log fits.log;
  seals = all_weaker (SealFits g before s.log) (SealFits g made s.log) (seal-stays g before made keeps s.log) s.seals fits.seals;
  dictionary = fits.dictionary;
  room = fits.room;
  contents = fits.contents;
}

of_seal : (P Q : Seal → Type 0) → ((x : Seal) → P x → Q x) → (x : Option Seal) → OfSeal P x → OfSeal Q x
of_seal P Q more None h = tt
of_seal P Q more (Some x) h = more x h

module _ (g : Group) (before made : List (List ℕ)) (keeps : Stays before made) (me : ℕ) (log new : List Ordered) (t : Standing) where
  does-stays : (seen newer : List Ordered) (doing : Doing) → Does g before me log t seen newer doing → Does g made me (new ++ log) t seen (new ++ newer) doing
  does-stays seen newer Rests h = tt
  does-stays seen newer (Sends sending) h = record { spelled = h.spelled; texts = λ text i. keeps text (h.texts text i); content = h.content }
  does-stays seen newer (Gets m) h = record {
    later = new ++ h.later;
    between = h.between;
    split = ap (λ n. new ++ n) h.split ∙ sym (append_assoc new h.later h.between);
    listed = h.listed;
    spelled = h.spelled;
    bytes = h.bytes;
    texts = λ text i. keeps text (h.texts text i);
    seal = of_seal (SealFits g before log) (SealFits g made (new ++ log)) (λ x fits. seal-grows g made new log x (seal-stays g before made keeps log x fits)) (seal_of m) h.seal;
  }

  client-stays : (up down : List (List ℕ)) → ClientFits g before me log t up down → ClientFits g made me (new ++ log) t up down
  client-stays up down c = record {
    seen = c.seen;
    newer = new ++ c.newer;
    is = ap (λ l. new ++ l) c.is ∙ sym (append_assoc new c.newer c.seen);
    path = c.path;
    fits = c.fits;
    doing = c.doing;
    up_is = c.up_is;
    down_is = c.down_is;
    busy = c.busy;
    does = does-stays c.seen c.newer c.doing c.does;
  }

-- ---- a client's step

-- the step that the client makes
abbrev pub step_of : Group → World → ℕ → Input → TraceStep
step_of g w me i =
    let v = step g me (standing g me w.history) i in
    record { client = me; input = i; sent = payload_of g me v.next v.sends; returned = v.returns; object = v.object }

abbrev pub move : Group → World → ℕ → Input → Move
move g w me i = step g me (standing g me w.history) i

made_more : (g : Group) (w : World) (me : ℕ) (i : Input) → texts_made g (step_of g w me i ∷ w.history) ≡ text_sent g me (move g w me i).next (move g w me i).sends ++ texts_made g w.history
unfolding texts_made
made_more g w me i = refl

not_forged : (g : Group) (w : World) (me : ℕ) (i : Input) → AreMade (texts_made g w.history) (checked_texts g (move g w me i).next.path (answer_unless_halted (move g w me i).next i)) → (IsForged g w.history → ⊥)
    → IsForged g (step_of g w me i ∷ w.history) → ⊥
unfolding answer_taken
not_forged g w me i made honest (inl before) = honest before
not_forged g w me i made honest (inr now) = now.2 (made now.0 now.1)

module _ (s : Scene) (server : Server) (fit : SceneFits s server) (me : ℕ) (above : 0 < me) (upto : me ≤ s.group.count) (i : Input) (may : MayStep s.group (standing s.group me s.history) i)
    (down : List Queue) (count : length down ≡ s.group.count) (same : (j : ℕ) → (j ≡ me → ⊥) → 0 < j → queue_of down j ≡ queue_of s.down j) where
  abbrev g : Group
  g = s.group

  abbrev w : World
  w = world_of s server

  abbrev x : TraceStep
  x = step_of g w me i

  abbrev made : List (List ℕ)
  made = texts_made g (x ∷ w.history)

  abbrev v : Move
  v = move g w me i

  abbrev up : List Queue
  up = set_queue s.up me (queue_with (queue_of s.up me) x.sent)

  keeps : Stays (texts_made g w.history) made
  keeps text h = subst (λ l. IsIn l text) (sym (made_more g w me i)) (in_right (text_sent g me v.next v.sends) (texts_made g w.history) text h)

  mine : Moved g (texts_made g w.history) me w.server.log v.next v.sends → w.up me ≡ [] → queue_of down me ≡ []
      → ClientFits g made me w.server.log (standing g me (x ∷ w.history)) (queue_of up me) (queue_of down me)
  mine happens up_is down_is =
      let queue : queue_of up me ≡ queue_with [] x.sent =
      queue-set_same s.up me (queue_with (queue_of s.up me) x.sent) above (omega (arith, upto, fit.one.up_count)) ∙ ap (λ q. queue_with q x.sent) up_is in
      subst (λ l. ClientFits g l me w.server.log (standing g me (x ∷ w.history)) (queue_of up me) (queue_of down me)) (sym (made_more g w me i))
      (subst (λ t. ClientFits g (text_sent g me v.next v.sends ++ texts_made g w.history) me w.server.log t (queue_of up me) (queue_of down me)) (sym (standing_moved g me x w.history refl))
      (subst (λ u. ClientFits g (text_sent g me v.next v.sends ++ texts_made g w.history) me w.server.log v.next u (queue_of down me)) (sym queue)
      (subst (λ d. ClientFits g (text_sent g me v.next v.sends ++ texts_made g w.history) me w.server.log v.next (queue_with [] x.sent) d) (sym down_is) happens)))

  others : (j : ℕ) → (j ≡ me → ⊥) → 0 < j → j ≤ g.count
      → ClientFits g made j w.server.log (standing g j (x ∷ w.history)) (queue_of up j) (queue_of down j)
  others j apart low high =
      let back : me ≡ j → ⊥ = λ e. apart (sym e) in
      subst (λ t. ClientFits g made j w.server.log t (queue_of up j) (queue_of down j)) (sym (standing_kept g j x w.history back))
      (subst (λ u. ClientFits g made j w.server.log (standing g j w.history) u (queue_of down j)) (sym (queue-set_other s.up me j (queue_with (queue_of s.up me) x.sent) above low apart))
      (subst (λ d. ClientFits g made j w.server.log (standing g j w.history) (w.up j) d) (sym (same j apart low))
      (client-stays g (texts_made g w.history) made keeps j w.server.log [] (standing g j w.history) (w.up j) (w.down j) (fit.fits.clients j low high))))

  step_fits : Moved g (texts_made g w.history) me w.server.log v.next v.sends → w.up me ≡ [] → queue_of down me ≡ []
      → AreMade (texts_made g w.history) (checked_texts g v.next.path (answer_unless_halted v.next i)) → SceneFits (after_step (record s { down = down }) me i) server
  unfolding after_step
  step_fits happens up_is down_is texts = record {
    one = record { group = fit.one.group; up_count = length-set_queue s.up me _ ∙ fit.one.up_count; down_count = count; by = fit.one.by; only = fit.one.only };
    fits = record {
      steps = (fit.fits.steps, record { member = (above, upto); may = may; sent = refl; returned = refl; object = refl });
      honest = not_forged g w me i texts fit.fits.honest;
      server = server-stays g (texts_made g w.history) made keeps w.server fit.fits.server;
      clients = λ j low high. elim (cases_eq j me) [
        | inl e ↦ subst (λ k. ClientFits g made k w.server.log (standing g k (x ∷ w.history)) (queue_of up k) (queue_of down k)) (sym e) (mine happens up_is down_is)
        | inr apart ↦ others j apart low high
      ];
    };
  }

-- ---- asking

same_fits : (t next : Standing) → next.path ≡ t.path → next.sealed ≡ t.sealed → next.own ≡ t.own → next.root ≡ t.root → next.calls ≡ t.calls → PhaseHolds next.calls next.phase → StandingFits t → StandingFits next
same_fits t next path sealed own root calls holds fits = record {
  sealed = omega (arith, fits.sealed, ap length path);
  own = subst (AllByRecursion (IsWithin (length next.path))) (sym own) (subst (λ p. AllByRecursion (IsWithin (length p)) t.own) (sym path) fits.own);
  root = ap length root ∙ fits.root;
  root_bytes = subst AreBytes (sym root) fits.root_bytes;
  calls = omega (arith, fits.calls);
  phase = holds;
}

-- a client that awaits nothing has nothing under way
pub idle_rests : (g : Group) (me : ℕ) (t : Standing) (up down : List (List ℕ)) (doing : Doing) → awaits_nothing t.awaiting ≡ true → IsBusy t doing → up ≡ up_by g me t doing → down ≡ down_by doing
    → (up ≡ []) × (down ≡ [])
idle_rests g me t up down Rests idle busy up_is down_is = (up_is, down_is)
idle_rests g me t up down (Sends sending) idle busy up_is down_is = absurd cc
idle_rests g me t up down (Gets m) idle busy up_is down_is = absurd cc

pub room_left : (g : Group) (made : List (List ℕ)) (s : Server) (t : Standing) (seen newer : List Ordered) → ServerFits g made s → s.log ≡ newer ++ seen → t.path ≡ entries seen → length t.path < 2 ^ 32
room_left g made s t seen newer fits is path = omega (arith, fits.room, ap length is, length-append newer seen, ap length path, length-entries seen)

module _ (s : Scene) (server : Server) (fit : SceneFits s server) (me : ℕ) (above : 0 < me) (upto : me ≤ s.group.count) where
  abbrev here : Standing
  here = standing s.group me s.history

  abbrev client : ClientFits s.group (texts_made s.group s.history) me server.log (standing s.group me s.history) (queue_of s.up me) (queue_of s.down me)
  client = fit.fits.clients me above upto

  asked : (i : Input) → MayStep s.group here i → IsIdle here → Moved s.group (texts_made s.group s.history) me server.log (move s.group (world_of s server) me i).next (move s.group (world_of s server) me i).sends
      → checked_texts s.group (move s.group (world_of s server) me i).next.path (answer_unless_halted (move s.group (world_of s server) me i).next i) ≡ [] → SceneFits (after_step s me i) server
  asked i may idle happens nothing_taken =
      let rests = idle_rests s.group me here (queue_of s.up me) (queue_of s.down me) client.doing (and_parts (awaits_nothing here.awaiting) (is_none here.halted) idle).0 client.busy client.up_is client.down_is in
      step_fits s server fit me above upto i may s.down fit.one.down_count (λ j apart low. refl) happens rests.0 rests.1 (subst (AreMade (texts_made s.group s.history)) (sym nothing_taken) (λ text h. absurd h))

  room : length here.path < 2 ^ 32
  room = room_left s.group (texts_made s.group s.history) server here client.seen client.newer fit.fits.server client.is client.path

  -- a client that calls an operation
  op_sent : (p : Phase) (o : Op) (load : Bool) → PhaseHolds (here.calls + 1) p → Fits o → AreBytesIn o → here.calls + 1 < 2 ^ 32
      → Moved s.group (texts_made s.group s.history) me server.log (move_to_call here p o load).next (move_to_call here p o load).sends
  op_sent p o load holds fits bytes few =
      let next : Standing = (move_to_call here p o load).next in
      let next_fits : StandingFits next = record {
        sealed = client.fits.sealed;
        own = client.fits.own;
        root = client.fits.root;
        root_bytes = client.fits.root_bytes;
        calls = few;
        phase = holds;
      } in
      now_sends s.group (texts_made s.group s.history) me server.log next (Invokes (here.calls + 1) o) client.seen client.newer client.is client.path next_fits refl
      (room, ((omega arith, few), ((fits, bytes), length-tag _ _))) tt

  asks_fit : (i : Input) → MayAsk s me i → SceneFits (after_step s me i) server
  unfolding step
  asks_fit (input.Call o) may =
      let ask = may in
      asked (input.Call o) ask ask.0 (op_sent phase.Closed o false tt ask.1.1.0 ask.1.1.1.0 ask.1.1.1.1) refl
  asks_fit (input.Object (object.Store k c)) may =
      let ask = may in
      let h : Digest32 = record { bytes = content_hash c } in
      let next : Standing = record here { awaiting = awaits.Kept; phase = phase.Keeping k h (length c) } in
      let holds : PhaseHolds here.calls (phase.Keeping k h (length c)) = (((ask.1.1.0.0, ask.1.1.1.0.0), (length-sha256 _, bytes-sha256 _)), ask.1.1.1.1) in
      asked (input.Object (object.Store k c)) ask ask.0
      (now_sends s.group (texts_made s.group s.history) me server.log next (Keeps c) client.seen client.newer client.is client.path (same_fits here next refl refl refl refl refl holds client.fits) refl ask.1.1.0.1 ask.1.1.1.0.1) refl
  asks_fit (input.Object (object.Load k)) may =
      let ask = may in
      asked (input.Object (object.Load k)) ask ask.0 (op_sent phase.Calling (op.Get k) true tt ask.1.1.0 ask.1.1.1.0 ask.1.1.1.1) refl
  asks_fit (input.Object (object.Erase k)) may =
      let ask = may in
      asked (input.Object (object.Erase k)) ask ask.0 (op_sent phase.Calling (op.Del k) false tt ask.1.1.0 ask.1.1.1.0 ask.1.1.1.1) refl
  asks_fit (input.Object (object.Names p)) may =
      let ask = may in
      asked (input.Object (object.Names p)) ask ask.0 (op_sent phase.Calling (op.List p) false tt (omega (arith, ask.1.1.0)) ask.1.1.1.0 ask.1.1.1.1) refl
  asks_fit input.Poll may =
      let next : Standing = record here { awaiting = awaits.Turn } in
      asked input.Poll may may (now_sends s.group (texts_made s.group s.history) me server.log next Polls client.seen client.newer client.is client.path (same_fits here next refl refl refl refl refl client.fits.phase client.fits) refl tt tt) refl
  asks_fit input.Sync may =
      let next : Standing = record here { awaiting = awaits.Entries } in
      asked input.Sync may may (now_sends s.group (texts_made s.group s.history) me server.log next Syncs client.seen client.newer client.is client.path (same_fits here next refl refl refl refl refl client.fits.phase client.fits) refl room tt) refl
  asks_fit (input.Payload payload) may = absurd may

-- ---- the server

-- each client is served by server 1
pub server_of-one : (served_by : List ℕ) (count i : ℕ) → served_by ≡ replicate count 1 → 0 < i → i ≤ count → server_of served_by i ≡ 1
server_of-one served_by count i is above upto =
    ap (λ l. server_of l i) is ∙ unwrap_or-slice_get (replicate count 1) (i - 1) 0 ∙ get_or-replicate count (i - 1) 1 0 (omega (arith, above, upto))

pub server_is : (s : Scene) (server : Server) → HasOne s server → (me : ℕ) → 0 < me → me ≤ s.group.count → server_at s.servers (server_of s.served_by me) ≡ Some server
server_is s server one me above upto = ap (server_at s.servers) (server_of-one s.served_by s.group.count me one.by above upto) ∙ ap (λ l. server_at l 1) one.only

-- what the one server is next
abbrev pub served_next : Server → ℕ → Queue → Server
served_next server me [] = server
served_next server me (payload ∷ rest) = (serve server me payload).next

abbrev pub server_next : Scene → Server → Event → Server
server_next s server (Asks me i) = server
server_next s server (Serves me) = served_next server me (queue_of s.up me)
server_next s server (Takes me) = server
server_next s server (Flips me n) = server
server_next s server (Hears me payload) = server
server_next s server (Resends me) = server
server_next s server (Copies n t) = server
server_next s server (Joins me n) = server

unfoldable pub server_after : Group → List Event → Server
server_after g [] = fresh_server g.mode g.count ready_member
server_after g (m ∷ before) = server_next (scene_after g before) (server_after g before) m

-- it serves a request
pub after_serving-one : (s : Scene) (server : Server) → HasOne s server → (me : ℕ) → 0 < me → me ≤ s.group.count → (payload : List ℕ) (rest : Queue)
    → HasOne (after_serving_with s me rest (by_rule server me me payload)) (serve server me payload).next
after_serving-one s server one me above upto payload rest = record {
  group = one.group;
  up_count = length-set_queue s.up me rest ∙ one.up_count;
  down_count = length-set_queue s.down me _ ∙ one.down_count;
  by = one.by;
  only = ap (λ n. set_server s.servers n (Some (serve server me payload).next)) (server_of-one s.served_by s.group.count me one.by above upto)
      ∙ ap (λ l. set_server l 1 (Some (serve server me payload).next)) one.only;
}

-- ---- serving and taking

module _ (s : Scene) (server : Server) (fit : SceneFits s server) (me : ℕ) (above : 0 < me) (upto : me ≤ s.group.count) where
  sent_fit : (seen newer : List Ordered) → server.log ≡ newer ++ seen → (standing s.group me s.history).path ≡ entries seen
      → StandingFits (standing s.group me s.history) → (sending : Sending) → queue_of s.down me ≡ [] → awaits_nothing (standing s.group me s.history).awaiting ≡ false
      → RequestGoes s.group (texts_made s.group s.history) me (standing s.group me s.history) sending
      → (payload : List ℕ) → request_text (request_of s.group me (standing s.group me s.history) sending) ≡ payload → SceneFits (after_serving_with s me [] (by_rule server me me payload)) (serve server me payload).next
  sent_fit seen newer is path fits sending down_is busy goes payload payload_is =
      let t : Standing = standing s.group me s.history in
      let made : List (List ℕ) = texts_made s.group s.history in
      let a : Answered = serve server me payload in
      let v : Served s.group made server.log seen newer a =
      subst (λ p. Served s.group made server.log seen newer (serve server me p)) payload_is (payload_served s.group fit.one.group made server me above upto t seen newer is path fits fit.fits.server sending goes) in
      let up : List Queue = set_queue s.up me [] in
      let joined : Queue = queue_of s.down me ++ answer_text a.answer ∷ [] in
      let down : List Queue = set_queue s.down me joined in
      let mine : ClientFits s.group made me a.next.log t (queue_of up me) (queue_of down me) = record {
        seen = seen;
        newer = v.new ++ newer;
        is = v.is ∙ ap (λ l. v.new ++ l) is ∙ sym (append_assoc v.new newer seen);
        path = path;
        fits = fits;
        doing = Gets a.answer;
        up_is = queue-set_same s.up me [] above (omega (arith, upto, fit.one.up_count));
        down_is = queue-set_same s.down me joined above (omega (arith, upto, fit.one.down_count)) ∙ ap (λ q. q ++ answer_text a.answer ∷ []) down_is;
        busy = busy;
        does = v.answer;
      } in
      record {
        one = after_serving-one s server fit.one me above upto payload [];
        fits = record {
          steps = fit.fits.steps;
          honest = fit.fits.honest;
          server = v.server;
          clients = λ j low high. elim (cases_eq j me) [
            | inl e ↦ subst (λ k. ClientFits s.group made k a.next.log (standing s.group k s.history) (queue_of up k) (queue_of down k)) (sym e) mine
            | inr apart ↦
                subst (λ u. ClientFits s.group made j a.next.log (standing s.group j s.history) u (queue_of down j)) (sym (queue-set_other s.up me j [] above low apart))
                (subst (λ d. ClientFits s.group made j a.next.log (standing s.group j s.history) (queue_of s.up j) d) (sym (queue-set_other s.down me j joined above low apart))
                (subst (λ l. ClientFits s.group made j l (standing s.group j s.history) (queue_of s.up j) (queue_of s.down j)) (sym v.is)
                (client-stays s.group made made (λ text i. i) j server.log v.new (standing s.group j s.history) (queue_of s.up j) (queue_of s.down j) (fit.fits.clients j low high))))
          ];
        };
      }

  serves_by : (queue_of s.up me ≡ [] → ⊥) → (seen newer : List Ordered) → server.log ≡ newer ++ seen
      → (standing s.group me s.history).path ≡ entries seen → StandingFits (standing s.group me s.history) → (doing : Doing) → queue_of s.up me ≡ up_by s.group me (standing s.group me s.history) doing → queue_of s.down me ≡ down_by doing
      → IsBusy (standing s.group me s.history) doing → Does s.group (texts_made s.group s.history) me server.log (standing s.group me s.history) seen newer doing → SceneFits (after_serving by_rule s me) (served_next server me (queue_of s.up me))
  unfolding after_serving
  serves_by waits seen newer is path fits Rests up_is down_is busy does = absurd (waits up_is)
  serves_by waits seen newer is path fits (Sends sending) up_is down_is busy does =
      let payload : List ℕ = request_text (request_of s.group me (standing s.group me s.history) sending) in
      subst (λ q. SceneFits (after_serving_from by_rule s me q (server_at s.servers (server_of s.served_by me))) (served_next server me q)) (sym up_is)
      (subst (λ o. SceneFits (after_serving_from by_rule s me (payload ∷ []) o) (serve server me payload).next) (sym (server_is s server fit.one me above upto))
      (sent_fit seen newer is path fits sending down_is busy does payload refl))
  serves_by waits seen newer is path fits (Gets m) up_is down_is busy does = absurd (waits up_is)

  serves_fit : (queue_of s.up me ≡ [] → ⊥) → SceneFits (after_serving by_rule s me) (served_next server me (queue_of s.up me))
  serves_fit waits = let c = fit.fits.clients me above upto in serves_by waits c.seen c.newer c.is c.path c.fits c.doing c.up_is c.down_is c.busy c.does

  got_fit : (seen newer : List Ordered) → server.log ≡ newer ++ seen → (standing s.group me s.history).path ≡ entries seen
      → StandingFits (standing s.group me s.history) → (m : ToClient) → queue_of s.up me ≡ [] → AnswerComes s.group (texts_made s.group s.history) server.log seen newer m → SceneFits (after_taking_from payload_as_is s me (answer_text m ∷ [])) server
  got_fit seen newer is path fits m up_is comes =
      let gone = payload_taken s.group (texts_made s.group s.history) me server.log seen newer (standing s.group me s.history) is path fits (answer_text m) m (answer_again m comes.spelled) comes
      (room_left s.group (texts_made s.group s.history) server (standing s.group me s.history) seen newer fit.fits.server is path) comes.bytes in
      step_fits s server fit me above upto (input.Payload (answer_text m)) comes.bytes (set_queue s.down me []) (length-set_queue s.down me [] ∙ fit.one.down_count) (λ j apart low. queue-set_other s.down me j [] above low apart)
      gone.client up_is (queue-set_same s.down me [] above (omega (arith, upto, fit.one.down_count))) gone.texts

  takes_by : (queue_of s.down me ≡ [] → ⊥) → (seen newer : List Ordered) → server.log ≡ newer ++ seen
      → (standing s.group me s.history).path ≡ entries seen → StandingFits (standing s.group me s.history) → (doing : Doing) → queue_of s.up me ≡ up_by s.group me (standing s.group me s.history) doing → queue_of s.down me ≡ down_by doing
      → Does s.group (texts_made s.group s.history) me server.log (standing s.group me s.history) seen newer doing → SceneFits (after_taking payload_as_is s me) server
  unfolding after_taking
  takes_by waits seen newer is path fits Rests up_is down_is does = absurd (waits down_is)
  takes_by waits seen newer is path fits (Sends sending) up_is down_is does = absurd (waits down_is)
  takes_by waits seen newer is path fits (Gets m) up_is down_is does =
      subst (λ q. SceneFits (after_taking_from payload_as_is s me q) server) (sym down_is) (got_fit seen newer is path fits m up_is does)

  takes_fit : (queue_of s.down me ≡ [] → ⊥) → SceneFits (after_taking payload_as_is s me) server
  takes_fit waits = let c = fit.fits.clients me above upto in takes_by waits c.seen c.newer c.is c.path c.fits c.doing c.up_is c.down_is c.does

happens_fits : (s : Scene) (server : Server) → SceneFits s server → (m : Event) → MayHonestly s m → SceneFits (after_event by_rule s m) (server_next s server m)
happens_fits s server fit (Asks me i) may = asks_fit s server fit me may.1.0 may.1.1 i may.1.2
happens_fits s server fit (Serves me) may = serves_fit s server fit me may.1.0 may.1.1 may.1.2
happens_fits s server fit (Takes me) may = takes_fit s server fit me may.1.0 may.1.1 may.1.2
happens_fits s server fit (Flips me n) may = absurd may.0
happens_fits s server fit (Hears me payload) may = absurd may.0
happens_fits s server fit (Resends me) may = absurd may.0
happens_fits s server fit (Copies n t) may = absurd may.0
happens_fits s server fit (Joins me n) may = absurd may.0

opening_fits : (g : Group) → IsGroup g → SceneFits (opening g) (fresh_server g.mode g.count ready_member)
unfolding standing
opening_fits g group = record {
  one = record { group = group; up_count = length-replicate g.count _; down_count = length-replicate g.count _; by = refl; only = refl };
  fits = record {
    steps = tt;
    honest = λ no_step. no_step;
    server = record { log = tt; seals = tt; dictionary = proper-nothing; room = omega arith; contents = tt };
    clients = λ j low high. record {
      seen = [];
      newer = [];
      is = refl;
      path = refl;
      fits = record { sealed = omega arith; own = tt; root = length-sha256 _; root_bytes = bytes-sha256 _; calls = omega arith; phase = tt };
      doing = Rests;
      up_is = queue-fresh g.count j;
      down_is = queue-fresh g.count j;
      busy = tt;
      does = tt;
    };
  };
}

pub all_fit : (g : Group) → IsGroup g → (events : List Event) → AreHonest g events → SceneFits (scene_after g events) (server_after g events)
unfolding server_after
all_fit g group [] h = opening_fits g group
all_fit g group (m ∷ before) h = happens_fits (scene_after g before) (server_after g before) (all_fit g group before h.0) m h.1
