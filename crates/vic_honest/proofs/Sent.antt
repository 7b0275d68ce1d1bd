-- What waits to be kept, and what the server keeps, clients sent.
use Rattle.std.proofs.Common.{◌≡◌, ℕ, ◌+◌, ◌-◌, ◌<◌, ◌≤◌, not, ◌&&◌, ◌||◌, length, min, Bool, true, false, List, [], ◌∷◌, ◌++◌, drop, Option, Some, None, is_none, Decides, arith, ◌⊎◌, inl, inr, refl, sym, ap, subst, ◌∙◌}
use Rattle.std.specs.Prelude.{if◌then◌else◌, nat_eq, nat_lt, nat_le, ◌≢◌}
use Rattle.std.specs.List.{sum_by}
use Rattle.std.specs.Str.{bytes_eq}
use Rattle.std.proofs.lemmas.Bool.{cases_eq, and_parts}
use Rattle.std.proofs.lemmas.Slice.Eq.{bytes_eq-Decides}
use Rattle.vic_dict.specs.Lists.{IsIn, front}
use Rattle.vic_dict.specs.declared.op.Mode.TheVariants as mode
use Rattle.vic_wire.specs.declared.message.ToServer.{ToServer}
use Rattle.vic_wire.specs.declared.message.ToServer.TheVariants as ask
use Rattle.vic_wire.specs.declared.message.ToClient.TheVariants as say
use Rattle.vic_wire.specs.declared.message.Digest32.{Digest32}
use Rattle.vic_wire.specs.declared.message.Seal.{Seal}
use Rattle.vic_wire.specs.Texts.{invoke_text}
use Rattle.vic_wire.specs.Hashes.{Group, IsGroup}
use Rattle.vic_wire.specs.Messages.{request_text, answer_text, HasRequestSpelling}
use Rattle.vic_wire.specs.Parts.{part_for}
use Rattle.vic_rules.specs.declared.trace.Input.{Input}
use Rattle.vic_rules.specs.declared.trace.Input.TheVariants as input
use Rattle.vic_rules.specs.declared.trace.TraceStep.{TraceStep}
use Rattle.vic_rules.specs.Objects.{content_hash}
use Rattle.vic_rules.specs.Client.{Standing, Sending, Invokes, Commits, Polls, Seals, Syncs, Keeps, Fetches, Move, payload_of, request_of, first_failing, IsIdle, awaits_nothing, tag_for, digest, commit_text_on, seal_text_on}
use Rattle.vic_rules.specs.History.{standing}
use Rattle.vic_rules.specs.Trust.{content_sent, texts_made}
use Rattle.vic_order.specs.declared.Stage.TheVariants as stage
use Rattle.vic_order.specs.Order.{Ordered, Server, Answered, answer_alone, answer_with_change, answer_by_tests, answer_unless_refused, size, sealed_count, weight, op_weight, member, is_member, is_ready, is_open_at, is_put, same_mode, owns_committed, ordered_at, commit_at, seal_at_position, is_kept, content_with, set_stage, with_commit, with_seal, turn, top_seal, entries_above, ordered_next, fresh_server, ready_member, serve_read, serve}
use Rattle.vic_order.specs.Serving.{by_rule}
use Rattle.vic_order.specs.Scenes.{Queue, Scene, opening, queue_of, set_queue, queue_with, server_at, server_of, after_step, after_serving_with, after_serving_from, after_serving, after_taking_from, after_taking, payload_as_is, Event, Asks, Serves, Takes, Flips, Hears, Resends, Copies, Joins, after_event, MayAsk}
use Rattle.vic_order.specs.Honest.{MayHonestly, scene_after, AreHonest}
use Rattle.vic_spellings.proofs.SpelledRequests.{request_again}
use Rattle.vic_laws.proofs.Words.{in_left, in_right}
use Rattle.vic_honest.specs.SafeRuns.{contents_sent, AreApart}
use Rattle.vic_honest.proofs.Queues.{queue-set_same, queue-set_other, queue-fresh}
use Rattle.vic_honest.proofs.Standing.{World, world_of, HasOne, SceneFits, Doing, Rests, Sends, Gets, Does, up_by, down_by, ClientFits}
use Rattle.vic_honest.proofs.Referred.{has, kept_by, found_in}
use Rattle.vic_honest.proofs.Worlds.{step_of, move, idle_rests, server_is, served_next, server_next, server_after, all_fit}

-- in a group with objects no two different contents that were sent have one hash
abbrev pub IsApart : Scene → Type 0
IsApart s = AreApart s.group s.history

-- ---- what a step sends

sent_more : (g : Group) (w : World) (me : ℕ) (i : Input) → contents_sent g (step_of g w me i ∷ w.history) ≡ content_sent (move g w me i).sends ++ contents_sent g w.history
unfolding contents_sent
sent_more g w me i = refl

abbrev first : List ℕ → ℕ
first [] = 0
first (x ∷ xs) = x

-- what is sent to be kept was sent
sent_keep : (g : Group) (me : ℕ) (t : Standing) (sending : Sending) (c : List ℕ) → request_text (request_of g me t sending) ≡ request_text (ask.Keep c) → IsIn (content_sent (Some sending)) c
sent_keep g me t (Keeps d) c e = let same : d ≡ c = ap (drop 1) e in inl same
sent_keep g me t (Invokes n o) c e = let h = ap first e in absurd (omega (arith, h))
sent_keep g me t (Commits done) c e = let h = ap first e in absurd (omega (arith, h))
sent_keep g me t Polls c e = let h = ap first e in absurd (omega (arith, h))
sent_keep g me t Seals c e = let h = ap first e in absurd (omega (arith, h))
sent_keep g me t Syncs c e = let h = ap first e in absurd (omega (arith, h))
sent_keep g me t (Fetches h) c e = let k = ap first e in absurd (omega (arith, k))

abbrev head_or : List (List ℕ) → List ℕ
head_or [] = []
head_or (x ∷ xs) = x

queue_keep : (g : Group) (me : ℕ) (t : Standing) (sends : Option Sending) (c : List ℕ) (rest : List (List ℕ)) → queue_with [] (payload_of g me t sends) ≡ request_text (ask.Keep c) ∷ rest → IsIn (content_sent sends) c
queue_keep g me t None c rest e = absurd cc
queue_keep g me t (Some sending) c rest e = sent_keep g me t sending c (ap head_or e)

-- ---- what waits, and what is kept

pub record IsSent (g : Group) (w : World) : Type 0 where
  pub waits : (me : ℕ) → 0 < me → me ≤ g.count → (c : List ℕ) (rest : List (List ℕ)) → w.up me ≡ request_text (ask.Keep c) ∷ rest → IsIn (contents_sent g w.history) c
  pub kept : (c : List ℕ) → IsIn w.server.contents c → IsIn (contents_sent g w.history) c

abbrev pub SceneSent : Scene → Server → Type 0
SceneSent s server = IsSent s.group (world_of s server)

step_sent : (s : Scene) (server : Server) → HasOne s server → (me : ℕ) → 0 < me → me ≤ s.group.count → (i : Input) (down : List Queue) → SceneSent s server → queue_of s.up me ≡ [] → SceneSent (after_step (record s { down = down }) me i) server
unfolding after_step
step_sent s server one me above upto i down sent nothing =
    let g : Group = s.group in
    let w : World = world_of s server in
    let v : Move = move g w me i in
    let joined : Queue = queue_with (queue_of s.up me) (payload_of g me v.next v.sends) in
    record {
      waits = λ j low high c rest at. subst (λ l. IsIn l c) (sym (sent_more g w me i)) (elim (cases_eq j me) [
        | inl mine ↦
            let queue : queue_with [] (payload_of g me v.next v.sends) ≡ request_text (ask.Keep c) ∷ rest =
            sym (ap (queue_of (set_queue s.up me joined)) mine ∙ queue-set_same s.up me joined above (omega (arith, upto, one.up_count)) ∙ ap (λ q. queue_with q (payload_of g me v.next v.sends)) nothing) ∙ at in
            in_left (content_sent v.sends) (contents_sent g w.history) c (queue_keep g me v.next v.sends c rest queue)
        | inr apart ↦
            in_right (content_sent v.sends) (contents_sent g w.history) c
            (sent.waits j low high c rest (sym (queue-set_other s.up me j joined above low apart) ∙ at))
      ]);
      kept = λ c k. subst (λ l. IsIn l c) (sym (sent_more g w me i)) (in_right (content_sent v.sends) (contents_sent g w.history) c (sent.kept c k));
    }

-- ---- what a request adds to the contents

record Adds (s : Server) (m : ToServer) (a : Answered) : Type 0 where
  adds : (x : List ℕ) → IsIn a.next.contents x → IsIn s.contents x ⊎ (m ≡ ask.Keep x)

adds_none : (s : Server) (m : ToServer) (a : Answered) → a.next.contents ≡ s.contents → Adds s m a
adds_none s m a e = record { adds = λ x i. inl (subst (λ l. IsIn l x) e i) }

unless_adds : (s : Server) (m : ToServer) (failing : Option ℕ) (a : Answered) → Adds s m a → Adds s m (answer_unless_refused s failing a)
unless_adds s m (Some r) a h = adds_none s m (answer_alone s (say.Refused r)) refl
unless_adds s m None a h = h

keep_adds : (s : Server) (c : List ℕ) (b full : Bool) → Adds s (ask.Keep c) (if b then answer_alone s say.Kept else answer_by_tests s ((7, full) ∷ []) (answer_with_change (record s { contents = c ∷ s.contents }) say.Kept))
keep_adds s c true full = adds_none s (ask.Keep c) (answer_alone s say.Kept) refl
keep_adds s c false true = record { adds = λ x i. elim i [ inl e ↦ inr (ap ask.Keep e) | inr k ↦ inl k ] }
keep_adds s c false false = adds_none s (ask.Keep c) (answer_alone s (say.Refused 7)) refl

-- a client that has come in, and the tests of its request
both_adds : (s : Server) (me : ℕ) (m : ToServer) (tests : List (ℕ × Bool)) (a : Answered) → Adds s m a → Adds s m (answer_by_tests s ((6, is_member s me) ∷ []) (answer_by_tests s tests a))
both_adds s me m tests a h = unless_adds s m (first_failing ((6, is_member s me) ∷ [])) (answer_by_tests s tests a) (unless_adds s m (first_failing tests) a h)

read_adds : (s : Server) (me : ℕ) (g : Group) (t : Standing) (sending : Sending) → Adds s (request_of g me t sending) (serve_read s me (Some (request_of g me t sending)))
read_adds s me g t (Invokes n o) =
    let tag : Digest32 = tag_for g (invoke_text (record { client = me; seq = n; op = o })) in
    let next : Server = ordered_next s me n o tag in
    both_adds s me (ask.Invoke (length t.path) n o tag) ((5, is_ready (member s me).stage && (nat_lt (member s me).last n && nat_le (length t.path) (size s)))
    ∷ (4, not (nat_eq (size s) 1048576)) ∷ (2, not (nat_eq (size s - sealed_count s) 1024)) ∷ (3, not (is_put o) || nat_le (weight s + op_weight o) 8388608) ∷ (1, nat_le ((size s + 1) - length t.path) 8192) ∷ [])
    (answer_with_change next (say.Reply (top_seal s) (entries_above (length t.path) next.log) (part_for s.dictionary o))) (adds_none s _ (answer_with_change next (say.Reply (top_seal s) (entries_above (length t.path) next.log) (part_for s.dictionary o))) refl)
read_adds s me g t (Commits done) =
    let next : Server = set_stage (with_commit s (length t.path) done (tag_for g (commit_text_on g t.path done))) me stage.Ready in
    both_adds s me (request_of g me t (Commits done)) ((5, is_open_at (length t.path) (member s me).stage) ∷ []) (answer_with_change next (turn next me)) (adds_none s (request_of g me t (Commits done)) (answer_with_change next (turn next me)) refl)
read_adds s me g t Polls = both_adds s me ask.Poll ((5, is_ready (member s me).stage) ∷ []) (answer_alone s (turn s me)) (adds_none s ask.Poll (answer_alone s (turn s me)) refl)
read_adds s me g t Seals =
    let x : Seal = record { position = t.sealed; root = digest t.root; tag = tag_for g (seal_text_on g t.path t.sealed t.root) } in
    let next : Server = with_seal s x in
    both_adds s me (request_of g me t Seals) ((5, is_ready (member s me).stage && (nat_eq t.sealed (sealed_count s + 1) && owns_committed me (ordered_at s t.sealed) (commit_at s t.sealed))) ∷ [])
    (answer_with_change next (turn next me)) (adds_none s (request_of g me t Seals) (answer_with_change next (turn next me)) refl)
read_adds s me g t Syncs =
    let e : ℕ = min (size s) (length t.path + 8192) in
    let a : Answered = answer_alone s (say.Entries (seal_at_position s (min (sealed_count s) e)) (entries_above (length t.path) (front e s.log))) in
    both_adds s me (request_of g me t Syncs) ((5, is_ready (member s me).stage && nat_le (length t.path) (size s)) ∷ []) a (adds_none s (request_of g me t Syncs) a refl)
read_adds s me g t (Keeps c) =
    both_adds s me (ask.Keep c) ((5, is_ready (member s me).stage && same_mode s.mode mode.Objects) ∷ []) _
    (keep_adds s c (is_kept s.contents (content_hash c)) (not (nat_le 1048576 (length s.contents)) && nat_le (sum_by length s.contents + length c) 1073741824))
read_adds s me g t (Fetches h) =
    let a : Answered = answer_alone s (content_with s.contents h) in
    both_adds s me (request_of g me t (Fetches h)) ((5, is_ready (member s me).stage && same_mode s.mode mode.Objects) ∷ []) a (adds_none s (request_of g me t (Fetches h)) a refl)

serve_adds : (s : Server) (me : ℕ) (g : Group) (t : Standing) (sending : Sending) → HasRequestSpelling (request_of g me t sending) → Adds s (request_of g me t sending) (serve s me (request_text (request_of g me t sending)))
unfolding serve
serve_adds s me g t sending spelled = subst (λ r. Adds s (request_of g me t sending) (serve_read s me r)) (sym (request_again (request_of g me t sending) spelled)) (read_adds s me g t sending)

pub ask_idle : (s : Scene) (me : ℕ) (i : Input) → MayAsk s me i → IsIdle (standing s.group me s.history)
ask_idle s me (input.Call o) may = may.0
ask_idle s me (input.Object c) may = may.0
ask_idle s me input.Poll may = may
ask_idle s me input.Sync may = may
ask_idle s me (input.Payload payload) may = absurd may

module _ (s : Scene) (server : Server) (fit : SceneFits s server) (sent : SceneSent s server) (me : ℕ) (above : 0 < me) (upto : me ≤ s.group.count) where
  abbrev here : Standing
  here = standing s.group me s.history

  asks_sent : (i : Input) → MayAsk s me i → SceneSent (after_step s me i) server
  asks_sent i may =
      let c : ClientFits s.group (texts_made s.group s.history) me server.log here (queue_of s.up me) (queue_of s.down me) = fit.fits.clients me above upto in
      step_sent s server fit.one me above upto i s.down sent
      (idle_rests s.group me here (queue_of s.up me) (queue_of s.down me) c.doing (and_parts (awaits_nothing here.awaiting) (is_none here.halted) (ask_idle s me i may)).0 c.busy c.up_is c.down_is).0

  sent_sent : (sending : Sending) → HasRequestSpelling (request_of s.group me here sending) → (payload : List ℕ) → request_text (request_of s.group me here sending) ≡ payload → queue_of s.up me ≡ payload ∷ []
      → SceneSent (after_serving_with s me [] (by_rule server me me payload)) (serve server me payload).next
  sent_sent sending spelled payload payload_is up_is = record {
    waits = λ j low high c rest at. elim (cases_eq j me) [
      | inl mine ↦
          let none : ◌≡◌ {A = List (List ℕ)} [] (request_text (ask.Keep c) ∷ rest) =
          sym (ap (queue_of (set_queue s.up me [])) mine ∙ queue-set_same s.up me [] above (omega (arith, upto, fit.one.up_count))) ∙ at in
          absurd cc
      | inr apart ↦ sent.waits j low high c rest (sym (queue-set_other s.up me j [] above low apart) ∙ at)
    ];
    kept = λ c k. elim ((subst (λ p. Adds server (request_of s.group me here sending) (serve server me p)) payload_is (serve_adds server me s.group here sending spelled)).adds c k) [
      | inl before ↦ sent.kept c before
      | inr new ↦ sent.waits me above upto c [] (up_is ∙ ap (λ p. p ∷ []) (sym payload_is ∙ ap request_text new))
    ];
  }

  serves_by : (queue_of s.up me ≡ [] → ⊥) → (seen newer : List Ordered) (doing : Doing) → queue_of s.up me ≡ up_by s.group me here doing
      → Does s.group (texts_made s.group s.history) me server.log here seen newer doing → SceneSent (after_serving by_rule s me) (served_next server me (queue_of s.up me))
  unfolding after_serving
  serves_by waits seen newer Rests up_is does = absurd (waits up_is)
  serves_by waits seen newer (Gets m) up_is does = absurd (waits up_is)
  serves_by waits seen newer (Sends sending) up_is does =
      let payload : List ℕ = request_text (request_of s.group me here sending) in
      subst (λ q. SceneSent (after_serving_from by_rule s me q (server_at s.servers (server_of s.served_by me))) (served_next server me q)) (sym up_is)
      (subst (λ o. SceneSent (after_serving_from by_rule s me (payload ∷ []) o) (serve server me payload).next) (sym (server_is s server fit.one me above upto))
      (sent_sent sending does.spelled payload refl up_is))

  serves_sent : (queue_of s.up me ≡ [] → ⊥) → SceneSent (after_serving by_rule s me) (served_next server me (queue_of s.up me))
  serves_sent waits = let c = fit.fits.clients me above upto in serves_by waits c.seen c.newer c.doing c.up_is c.does

  takes_by : (queue_of s.down me ≡ [] → ⊥) → (doing : Doing) → queue_of s.up me ≡ up_by s.group me here doing → queue_of s.down me ≡ down_by doing → SceneSent (after_taking payload_as_is s me) server
  unfolding after_taking
  takes_by waits Rests up_is down_is = absurd (waits down_is)
  takes_by waits (Sends sending) up_is down_is = absurd (waits down_is)
  takes_by waits (Gets m) up_is down_is =
      subst (λ q. SceneSent (after_taking_from payload_as_is s me q) server) (sym down_is) (step_sent s server fit.one me above upto (input.Payload (answer_text m)) (set_queue s.down me []) sent up_is)

  takes_sent : (queue_of s.down me ≡ [] → ⊥) → SceneSent (after_taking payload_as_is s me) server
  takes_sent waits = let c = fit.fits.clients me above upto in takes_by waits c.doing c.up_is c.down_is

happens_sent : (s : Scene) (server : Server) → SceneFits s server → SceneSent s server → (m : Event) → MayHonestly s m → SceneSent (after_event by_rule s m) (server_next s server m)
happens_sent s server fit sent (Asks me i) may = asks_sent s server fit sent me may.1.0 may.1.1 i may.1.2
happens_sent s server fit sent (Serves me) may = serves_sent s server fit sent me may.1.0 may.1.1 may.1.2
happens_sent s server fit sent (Takes me) may = takes_sent s server fit sent me may.1.0 may.1.1 may.1.2
happens_sent s server fit sent (Flips me n) may = absurd may.0
happens_sent s server fit sent (Hears me payload) may = absurd may.0
happens_sent s server fit sent (Resends me) may = absurd may.0
happens_sent s server fit sent (Copies n t) may = absurd may.0
happens_sent s server fit sent (Joins me n) may = absurd may.0

opening_sent : (g : Group) → SceneSent (opening g) (fresh_server g.mode g.count ready_member)
opening_sent g = record {
  waits = λ me low high c rest at. let none : ◌≡◌ {A = List (List ℕ)} [] (request_text (ask.Keep c) ∷ rest) = sym (queue-fresh g.count me) ∙ at in absurd cc;
  kept = λ c i. absurd i;
}

pub all_sent : (g : Group) → IsGroup g → (events : List Event) → AreHonest g events → SceneSent (scene_after g events) (server_after g events)
unfolding server_after
all_sent g group [] h = opening_sent g
all_sent g group (m ∷ before) h = happens_sent (scene_after g before) (server_after g before) (all_fit g group before h.0) (all_sent g group before h.0) m h.1

-- ---- one content of a hash

bytes_decided : (a b : List ℕ) → (a ≡ b) ⊎ (a ≢ b)
bytes_decided a b = by_test (bytes_eq a b) (bytes_eq-Decides a b)
  where
    by_test : (t : Bool) → Decides t (a ≡ b) → (a ≡ b) ⊎ (a ≢ b)
    by_test true d = inl (d.0 refl)
    by_test false d = inr (λ e. let wrong : false ≡ true = d.1 e in absurd cc)

-- two contents that were sent with one hash are one
pub sent_once : (s : Scene) → IsApart s → s.group.mode ≡ mode.Objects → (a b : List ℕ) → IsIn (contents_sent s.group s.history) a → IsIn (contents_sent s.group s.history) b → content_hash a ≡ content_hash b → a ≡ b
sent_once s apart objects a b a_sent b_sent same =
    elim (bytes_decided a b) [
      | inl is ↦ is
      | inr differ ↦ absurd (apart objects (record { one = a; other = b; one_sent = a_sent; other_sent = b_sent; differ = differ; same_hash = same }))
    ]

-- of a content that waits to be kept the server keeps no other with its hash
pub one_content : (s : Scene) (server : Server) → SceneSent s server → IsApart s → s.group.mode ≡ mode.Objects → (me : ℕ) → 0 < me → me ≤ s.group.count → (c : List ℕ) → queue_of s.up me ≡ request_text (ask.Keep c) ∷ []
    → (y : List ℕ) → kept_by server.contents (content_hash c) ≡ Some y → y ≡ c
one_content s server sent apart objects me above upto c at y found =
    let f = found_in (has (content_hash c)) server.contents y found in
    sent_once s apart objects y c (sent.kept y f.0) (sent.waits me above upto c [] at) ((bytes_eq-Decides (content_hash y) (content_hash c)).0 f.1)

-- ---- a front of a run is apart where the run is

-- all that was sent in a group after one history was sent after another
record SendsMore (g : Group) (h : List TraceStep) (k : Group) (l : List TraceStep) : Type 0 where
  same : k ≡ g
  more : (c : List ℕ) → IsIn (contents_sent g h) c → IsIn (contents_sent k l) c

step_more : (s : Scene) (me : ℕ) (i : Input) → SendsMore s.group s.history (after_step s me i).group (after_step s me i).history
unfolding after_step contents_sent
step_more s me i = record { same = refl; more = λ c h. in_right _ (contents_sent s.group s.history) c h }

served_more : (s : Scene) (me : ℕ) (q : Queue) (o : Option Server) → SendsMore s.group s.history (after_serving_from by_rule s me q o).group (after_serving_from by_rule s me q o).history
served_more s me [] o = record { same = refl; more = λ c h. h }
served_more s me (payload ∷ rest) None = record { same = refl; more = λ c h. h }
served_more s me (payload ∷ rest) (Some server) = record { same = refl; more = λ c h. h }

serves_more : (s : Scene) (me : ℕ) → SendsMore s.group s.history (after_serving by_rule s me).group (after_serving by_rule s me).history
unfolding after_serving
serves_more s me = served_more s me (queue_of s.up me) (server_at s.servers (server_of s.served_by me))

taken_more : (s : Scene) (me : ℕ) (q : Queue) → SendsMore s.group s.history (after_taking_from payload_as_is s me q).group (after_taking_from payload_as_is s me q).history
taken_more s me [] = record { same = refl; more = λ c h. h }
taken_more s me (payload ∷ rest) = step_more (record s { down = set_queue s.down me rest }) me (input.Payload payload)

takes_more : (s : Scene) (me : ℕ) → SendsMore s.group s.history (after_taking payload_as_is s me).group (after_taking payload_as_is s me).history
unfolding after_taking
takes_more s me = taken_more s me (queue_of s.down me)

event_more : (s : Scene) (m : Event) → MayHonestly s m → SendsMore s.group s.history (after_event by_rule s m).group (after_event by_rule s m).history
event_more s (Asks me i) may = step_more s me i
event_more s (Serves me) may = serves_more s me
event_more s (Takes me) may = takes_more s me
event_more s (Flips me n) may = absurd may.0
event_more s (Hears me payload) may = absurd may.0
event_more s (Resends me) may = absurd may.0
event_more s (Copies n t) may = absurd may.0
event_more s (Joins me n) may = absurd may.0

pub apart_front : (s : Scene) (m : Event) → MayHonestly s m → IsApart (after_event by_rule s m) → IsApart s
apart_front s m may apart objects k =
    let more = event_more s m may in
    apart (ap (λ g. g.mode) more.same ∙ objects) (record {
      one = k.one;
      other = k.other;
      one_sent = more.more k.one k.one_sent;
      other_sent = more.more k.other k.other_sent;
      differ = k.differ;
      same_hash = k.same_hash;
    })
