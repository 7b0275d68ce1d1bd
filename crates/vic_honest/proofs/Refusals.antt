-- The server refuses exactly the calls that would pass a limit.
use Rattle.vic_honest.specs.SafeRuns.{IsSafeRun}
use Rattle.vic_order.specs.Scenes.{Event, Scene, queue_of}
use Rattle.std.proofs.Common.{◌≡◌, ℕ, ◌+◌, ◌<◌, ◌≤◌, ◌^◌, ◌⊎◌, inl, inr, not, ◌&&◌, Bool, true, false, List, [], ◌∷◌, ◌++◌, length, Option, Some, None, refl, sym, ap, subst, ◌∙◌, true≢false}
use Rattle.vic_dict.specs.declared.op.Op.{Op}
use Rattle.vic_wire.specs.declared.message.Digest32.{Digest32}
use Rattle.vic_wire.specs.declared.message.ToServer.{ToServer}
use Rattle.vic_wire.specs.declared.message.ToServer.TheVariants as ask
use Rattle.std.specs.Prelude.{if◌then◌else◌, nat_le}
use Rattle.vic_wire.specs.declared.message.ToClient.{ToClient}
use Rattle.vic_wire.specs.declared.message.ToClient.TheVariants as say
use Rattle.vic_wire.specs.Texts.{invoke_text}
use Rattle.vic_wire.specs.Hashes.{Group}
use Rattle.vic_wire.specs.Messages.{request_text}
use Rattle.vic_wire.specs.Reading.{read_request}
use Rattle.vic_rules.specs.declared.state.Awaiting.{Awaiting}
use Rattle.vic_rules.specs.declared.state.Awaiting.TheVariants as awaits
use Rattle.vic_rules.specs.Client.{Standing, Sending, Invokes, Commits, Polls, Seals, Syncs, request_of, tag_for, Fetches}
use Rattle.vic_rules.specs.Client.{Keeps as Contains}
use Rattle.vic_rules.specs.declared.object.Phase.TheVariants as phase
use Rattle.vic_rules.specs.Objects.{content_hash}
use Rattle.std.specs.List.{sum_by}
use Rattle.vic_rules.specs.History.{standing}
use Rattle.vic_rules.specs.Trust.{texts_made}
use Rattle.vic_order.specs.Order.{Ordered, Server, Answered, answer_alone, answer_with_change, answer_by_tests, is_kept, answer_unless_refused, sealed_count, serve, serve_read}
use Rattle.vic_spellings.proofs.SpelledRequests.{request_again}
use Rattle.vic_laws.proofs.Words.{some_same}
use Rattle.vic_honest.specs.Claims.{passed_limit, RefusedAtLimit, has_room_for, ContentRefused, IsKeptSo, IsFetchedSo, IsOrderedBy}
use Rattle.vic_honest.proofs.Standing.{World, world_of, WorldFits, ClientFits, Doing, Rests, Sends, Gets, up_by}
use Rattle.vic_honest.proofs.Worlds.{room_left}
use Rattle.vic_honest.proofs.Referred.{has, found_in}
use Rattle.std.proofs.lemmas.Slice.Eq.{bytes_eq-Decides}
use Rattle.vic_honest.proofs.Knowing.{Keeps, Does}
use Rattle.vic_honest.proofs.Answering.{Answers}
use Rattle.vic_honest.proofs.Requests.{ordered_by, request_answers, invoke_is, keep_is, fetch_is}
use Rattle.vic_honest.proofs.Known.{WorldKnows, request_spelled}
use Rattle.vic_honest.proofs.Runs.{run_fits, run_knows}

first_is : (q : List (List ℕ)) (x y : List ℕ) (rest : List (List ℕ)) → q ≡ x ∷ [] → q ≡ y ∷ rest → x ≡ y
first_is q x y rest e f = cc

none_first : (q : List (List ℕ)) (y : List ℕ) (rest : List (List ℕ)) → q ≡ [] → q ≡ y ∷ rest → ⊥
none_first q y rest e f = cc

-- a client that awaits something else isn't refused
not_refused : (g : Group) (me : ℕ) (s : Server) (t : Standing) (seen newer : List Ordered) (a : Answered) (waits : Awaiting) (r : ℕ) → Answers g me s t seen newer a → a.answer ≡ say.Refused r → t.awaiting ≡ waits
    → ((n : ℕ) (o : Op) (load : Bool) → waits ≡ awaits.Reply n o load → ⊥) → (waits ≡ awaits.Kept → ⊥) → ⊥
not_refused g me s t seen newer a waits r answers refused awaiting apart from_kept =
    let does : Does g me a.next t seen (answers.new ++ newer) (Gets (say.Refused r)) = subst (λ m. Does g me a.next t seen (answers.new ++ newer) (Gets m)) refused answers.does in
    elim does [
      | inl c ↦ apart c.number c.op c.load (sym awaiting ∙ c.awaiting)
      | inr c ↦ from_kept (sym awaiting ∙ c.awaiting)
    ]

-- a content is refused where it is new and there is no room
keep_refused : (s : Server) (c : List ℕ) (b full : Bool) (r : ℕ) → (if b then answer_alone s say.Kept else answer_by_tests s ((7, full) ∷ []) (answer_with_change (record s { contents = c ∷ s.contents }) say.Kept)).answer ≡ say.Refused r
    → (b ≡ false) × ((full ≡ false) × (r ≡ 7))
keep_refused s c true full r e = absurd cc
keep_refused s c false true r e = absurd cc
keep_refused s c false false r e = let number : r ≡ 7 = cc in (refl, (refl, number))

-- a content that is to be kept, by whether one of its hash is there and whether there is room
keep_by : (s : Server) (c : List ℕ) (b room : Bool) → is_kept s.contents (content_hash c) ≡ b → has_room_for s c ≡ room
    → IsKeptSo s c (if b then answer_alone s say.Kept else answer_by_tests s ((7, room) ∷ []) (answer_with_change (record s { contents = c ∷ s.contents }) say.Kept))
keep_by s c true room e f = record {
  there = λ x. (refl, refl);
  added = λ x y. absurd (true≢false (sym e ∙ x));
  full = λ x y. absurd (true≢false (sym e ∙ x));
}
keep_by s c false true e f = record {
  there = λ x. absurd (true≢false (sym x ∙ e));
  added = λ x y. (refl, refl);
  full = λ x y. absurd (true≢false (sym f ∙ y));
}
keep_by s c false false e f = record {
  there = λ x. absurd (true≢false (sym x ∙ e));
  added = λ x y. absurd (true≢false (sym y ∙ f));
  full = λ x y. (refl, refl);
}

-- a queue's request is one that its client sent, from where it stands
record IsSent (g : Group) (w : World) (me : ℕ) (payload : List ℕ) : Type 0 where
  seen : List Ordered
  newer : List Ordered
  keeps : Keeps me w.server (standing g me w.history) seen newer
  sending : Sending
  does : Does g me w.server (standing g me w.history) seen newer (Sends sending)
  read : read_request payload ≡ Some (request_of g me (standing g me w.history) sending)

-- what only a guard at a limit can refuse
refused_at : (s : Server) (o : Option ℕ) (a : Answered) (r : ℕ) → ((k : ℕ) → a.answer ≡ say.Refused k → ⊥) → (answer_unless_refused s o a).answer ≡ say.Refused r → o ≡ Some r
refused_at s (Some k) a r apart e = cc
refused_at s None a r apart e = absurd (apart r e)

-- the hash that is asked for
abbrev hash_asked : ToServer → List ℕ
hash_asked (ask.Fetch h) = h.bytes
hash_asked _ = []

-- what a request is answered, if it is a call
abbrev called : Server → ℕ → ToServer → Answered
called s me (ask.Invoke known seq o tag) = answer_unless_refused s (passed_limit s known o) (ordered_by s me known seq o tag)
called s me _ = answer_alone s say.Wait

module _ (g : Group) (w : World) (fit : WorldFits g w) (know : WorldKnows g w) (me : ℕ) (above : 0 < me) (upto : me ≤ g.count) where
  abbrev t : Standing
  t = standing g me w.history

  sent_by : (payload : List ℕ) (rest : List (List ℕ)) → w.up me ≡ payload ∷ rest → IsSent g w me payload
  sent_by payload rest up_is =
      let c = know.clients me above upto in by_doing c.seen c.newer c.keeps c.doing c.up_is c.does
    where
      by_doing : (seen newer : List Ordered) → Keeps me w.server t seen newer → (doing : Doing) → w.up me ≡ up_by g me t doing → Does g me w.server t seen newer doing → IsSent g w me payload
      by_doing seen newer keeps Rests up d = absurd (none_first (w.up me) payload rest up up_is)
      by_doing seen newer keeps (Sends sending) up d =
          let b : ClientFits g (texts_made g w.history) me w.server.log t (w.up me) (w.down me) = fit.clients me above upto in
          let same = first_is (w.up me) (request_text (request_of g me t sending)) payload rest up up_is in
          let room : length t.path < 2 ^ 32 = room_left g (texts_made g w.history) w.server t b.seen b.newer fit.server b.is b.path in
          record {
            seen = seen;
            newer = newer;
            keeps = keeps;
            sending = sending;
            does = d;
            read = ap read_request (sym same) ∙ request_again (request_of g me t sending) (request_spelled g me w.server t seen newer b.fits room keeps sending d);
          }
      by_doing seen newer keeps (Gets m) up d = absurd (none_first (w.up me) payload rest up up_is)

  -- what is served is what was read
  read_as : (payload : List ℕ) (m : ToServer) → read_request payload ≡ Some m → serve w.server me payload ≡ serve_read w.server me (Some m)
  unfolding serve
  read_as payload m read = ap (serve_read w.server me) read

  -- ---- what is refused

  refused_by : (seen newer : List Ordered) → Keeps me w.server t seen newer → (sending : Sending) → Does g me w.server t seen newer (Sends sending) → (r : ℕ)
      → (serve_read w.server me (Some (request_of g me t sending))).answer ≡ say.Refused r → (payload : List ℕ) → read_request payload ≡ Some (request_of g me t sending) → RefusedAtLimit w.server payload r ⊎ ContentRefused g w.server payload r
  refused_by seen newer keeps (Invokes n o) d r refused payload read = inl (record {
    known = length t.path;
    seq = n;
    op = o;
    tag = _;
    is = read;
    limit_is = refused_at w.server (passed_limit w.server (length t.path) o) (ordered_by w.server me (length t.path) n o (tag_for g (invoke_text (record { client = me; seq = n; op = o })))) r (λ k e. cc)
        (ap (λ a. a.answer) (sym (invoke_is g w.server know.server me above upto t seen newer keeps n o d)) ∙ refused);
  })
  refused_by seen newer keeps (Commits done) d r refused payload read =
      absurd (not_refused g me w.server t seen newer (serve_read w.server me (Some (request_of g me t (Commits done)))) awaits.Turn r (request_answers g w.server know.server me above upto t seen newer keeps (Commits done) d tt) refused d.awaiting (λ n o load e. cc) (λ e. cc))
  refused_by seen newer keeps Polls d r refused payload read =
      absurd (not_refused g me w.server t seen newer (serve_read w.server me (Some (request_of g me t Polls))) awaits.Turn r (request_answers g w.server know.server me above upto t seen newer keeps Polls d tt) refused d.0 (λ n o load e. cc) (λ e. cc))
  refused_by seen newer keeps Seals d r refused payload read =
      absurd (not_refused g me w.server t seen newer (serve_read w.server me (Some (request_of g me t Seals))) awaits.Turn r (request_answers g w.server know.server me above upto t seen newer keeps Seals d tt) refused d.awaiting (λ n o load e. cc) (λ e. cc))
  refused_by seen newer keeps Syncs d r refused payload read =
      absurd (not_refused g me w.server t seen newer (serve_read w.server me (Some (request_of g me t Syncs))) awaits.Entries r (request_answers g w.server know.server me above upto t seen newer keeps Syncs d tt) refused d.0 (λ n o load e. cc) (λ e. cc))
  refused_by seen newer keeps (Contains c) d r refused payload read =
      let p = keep_refused w.server c (is_kept w.server.contents (content_hash c)) (not (nat_le 1048576 (length w.server.contents)) && nat_le (sum_by length w.server.contents + length c) 1073741824) r
      (ap (λ a. a.answer) (sym (keep_is g w.server know.server me above upto t seen newer keeps c d)) ∙ refused) in
      inr (record { objects = sym know.server.kind ∙ d.objects; content = c; is = read; new = p.0; full = p.1.0; number = p.1.1 })
  refused_by seen newer keeps (Fetches h) d r refused payload read =
      let e : ◌≡◌ {A = ToClient} (say.Content d.kept.content) (say.Refused r) = ap (λ a. a.answer) (sym (fetch_is g w.server know.server me above upto t seen newer keeps h d)) ∙ refused in absurd cc

  pub world_refuses : (payload : List ℕ) (rest : List (List ℕ)) → w.up me ≡ payload ∷ rest → (r : ℕ) → (serve w.server me payload).answer ≡ say.Refused r → RefusedAtLimit w.server payload r ⊎ ContentRefused g w.server payload r
  world_refuses payload rest up_is r refused =
      let x : IsSent g w me payload = sent_by payload rest up_is in
      refused_by x.seen x.newer x.keeps x.sending x.does r (ap (λ a. a.answer) (sym (read_as payload (request_of g me t x.sending) x.read)) ∙ refused) payload x.read

  -- ---- what a call is answered

  called_by : (seen newer : List Ordered) → Keeps me w.server t seen newer → (sending : Sending) → Does g me w.server t seen newer (Sends sending)
      → (known seq : ℕ) (o : Op) (tag : Digest32) → request_of g me t sending ≡ ask.Invoke known seq o tag
      → serve_read w.server me (Some (request_of g me t sending)) ≡ called w.server me (request_of g me t sending)
  called_by seen newer keeps (Invokes n p) d known seq o tag e = invoke_is g w.server know.server me above upto t seen newer keeps n p d
  called_by seen newer keeps (Commits done) d known seq o tag e = absurd cc
  called_by seen newer keeps Polls d known seq o tag e = absurd cc
  called_by seen newer keeps Seals d known seq o tag e = absurd cc
  called_by seen newer keeps Syncs d known seq o tag e = absurd cc
  called_by seen newer keeps (Contains c) d known seq o tag e = absurd cc
  called_by seen newer keeps (Fetches h) d known seq o tag e = absurd cc

  -- a call that lies in a queue is refused at a limit, and else it is ordered
  world_calls : (payload : List ℕ) (rest : List (List ℕ)) → w.up me ≡ payload ∷ rest → (known seq : ℕ) (o : Op) (tag : Digest32) → read_request payload ≡ Some (ask.Invoke known seq o tag)
      → serve w.server me payload ≡ answer_unless_refused w.server (passed_limit w.server known o) (ordered_by w.server me known seq o tag)
  world_calls payload rest up_is known seq o tag read =
      let x : IsSent g w me payload = sent_by payload rest up_is in
      let same : request_of g me t x.sending ≡ ask.Invoke known seq o tag = some_same (sym x.read ∙ read) in
      read_as payload (request_of g me t x.sending) x.read ∙ called_by x.seen x.newer x.keeps x.sending x.does known seq o tag same ∙ ap (called w.server me) same

  awaited_by : (seen newer : List Ordered) → (sending : Sending) → Does g me w.server t seen newer (Sends sending) → (known seq : ℕ) (o : Op) (tag : Digest32)
      → request_of g me t sending ≡ ask.Invoke known seq o tag → (load : Bool) × (t.awaiting ≡ awaits.Reply seq o load)
  awaited_by seen newer (Invokes n p) d known seq o tag e =
      let number : n ≡ seq = cc in let same : p ≡ o = cc in (d.load, d.awaiting ∙ ap (λ k. awaits.Reply k p d.load) number ∙ ap (λ q. awaits.Reply seq q d.load) same)
  awaited_by seen newer (Commits done) d known seq o tag e = absurd cc
  awaited_by seen newer Polls d known seq o tag e = absurd cc
  awaited_by seen newer Seals d known seq o tag e = absurd cc
  awaited_by seen newer Syncs d known seq o tag e = absurd cc
  awaited_by seen newer (Contains c) d known seq o tag e = absurd cc
  awaited_by seen newer (Fetches h) d known seq o tag e = absurd cc

  -- a client awaits that its store's content is kept
  pub record AwaitsKept (c : List ℕ) : Type 0 where
    pub awaiting : t.awaiting ≡ awaits.Kept
    pub key : List ℕ
    pub at : t.phase ≡ phase.Keeping key (record { bytes = content_hash c }) (length c)

  kept_by_whom : (seen newer : List Ordered) → (sending : Sending) → Does g me w.server t seen newer (Sends sending) → (c : List ℕ) → request_of g me t sending ≡ ask.Keep c → AwaitsKept c
  kept_by_whom seen newer (Contains x) d c e = let same : x ≡ c = cc in subst AwaitsKept same (record { awaiting = d.awaiting; key = d.key; at = d.at })
  kept_by_whom seen newer (Invokes n o) d c e = absurd cc
  kept_by_whom seen newer (Commits done) d c e = absurd cc
  kept_by_whom seen newer Polls d c e = absurd cc
  kept_by_whom seen newer Seals d c e = absurd cc
  kept_by_whom seen newer Syncs d c e = absurd cc
  kept_by_whom seen newer (Fetches h) d c e = absurd cc

  -- the client of a content that waits to be kept awaits that
  pub world_keeps : (payload : List ℕ) (rest : List (List ℕ)) → w.up me ≡ payload ∷ rest → (c : List ℕ) → read_request payload ≡ Some (ask.Keep c) → AwaitsKept c
  world_keeps payload rest up_is c read =
      let x : IsSent g w me payload = sent_by payload rest up_is in kept_by_whom x.seen x.newer x.sending x.does c (some_same (sym x.read ∙ read))

  keep_called : (seen newer : List Ordered) → Keeps me w.server t seen newer → (sending : Sending) → Does g me w.server t seen newer (Sends sending) → (c : List ℕ) → request_of g me t sending ≡ ask.Keep c
      → IsKeptSo w.server c (serve_read w.server me (Some (request_of g me t sending)))
  keep_called seen newer keeps (Contains x) d c e =
      let same : x ≡ c = cc in
      subst (λ y. IsKeptSo w.server y (serve_read w.server me (Some (ask.Keep x)))) same
      (subst (IsKeptSo w.server x) (sym (keep_is g w.server know.server me above upto t seen newer keeps x d)) (keep_by w.server x (is_kept w.server.contents (content_hash x)) (has_room_for w.server x) refl refl))
  keep_called seen newer keeps (Invokes n o) d c e = absurd cc
  keep_called seen newer keeps (Commits done) d c e = absurd cc
  keep_called seen newer keeps Polls d c e = absurd cc
  keep_called seen newer keeps Seals d c e = absurd cc
  keep_called seen newer keeps Syncs d c e = absurd cc
  keep_called seen newer keeps (Fetches h) d c e = absurd cc

  -- a content that lies in a queue is kept, or refused for want of room
  world_kept : (payload : List ℕ) (rest : List (List ℕ)) → w.up me ≡ payload ∷ rest → (c : List ℕ) → read_request payload ≡ Some (ask.Keep c) → IsKeptSo w.server c (serve w.server me payload)
  world_kept payload rest up_is c read =
      let x : IsSent g w me payload = sent_by payload rest up_is in
      subst (IsKeptSo w.server c) (sym (read_as payload (request_of g me t x.sending) x.read)) (keep_called x.seen x.newer x.keeps x.sending x.does c (some_same (sym x.read ∙ read)))

  fetch_called : (seen newer : List Ordered) → Keeps me w.server t seen newer → (sending : Sending) → Does g me w.server t seen newer (Sends sending) → (h : Digest32) → request_of g me t sending ≡ ask.Fetch h
      → IsFetchedSo w.server h (serve_read w.server me (Some (request_of g me t sending))).answer
  fetch_called seen newer keeps (Fetches x) d h e =
      let same : x ≡ h.bytes = ap hash_asked e in
      let f = found_in (has x) w.server.contents d.kept.content d.kept.found in
      record {
        content = d.kept.content;
        kept = f.0;
        has = (bytes_eq-Decides (content_hash d.kept.content) x).0 f.1 ∙ same;
        is = ap (λ a. a.answer) (fetch_is g w.server know.server me above upto t seen newer keeps x d);
      }
  fetch_called seen newer keeps (Invokes n o) d h e = absurd cc
  fetch_called seen newer keeps (Commits done) d h e = absurd cc
  fetch_called seen newer keeps Polls d h e = absurd cc
  fetch_called seen newer keeps Seals d h e = absurd cc
  fetch_called seen newer keeps Syncs d h e = absurd cc
  fetch_called seen newer keeps (Contains c) d h e = absurd cc

  -- a content that is asked for is given
  world_fetched : (payload : List ℕ) (rest : List (List ℕ)) → w.up me ≡ payload ∷ rest → (h : Digest32) → read_request payload ≡ Some (ask.Fetch h) → IsFetchedSo w.server h (serve w.server me payload).answer
  world_fetched payload rest up_is h read =
      let x : IsSent g w me payload = sent_by payload rest up_is in
      subst (λ a. IsFetchedSo w.server h a.answer) (sym (read_as payload (request_of g me t x.sending) x.read)) (fetch_called x.seen x.newer x.keeps x.sending x.does h (some_same (sym x.read ∙ read)))

  -- the client of a call that lies in a queue awaits the answer to it
  pub world_awaits : (payload : List ℕ) (rest : List (List ℕ)) → w.up me ≡ payload ∷ rest → (known seq : ℕ) (o : Op) (tag : Digest32) → read_request payload ≡ Some (ask.Invoke known seq o tag) → (load : Bool) × (t.awaiting ≡ awaits.Reply seq o load)
  world_awaits payload rest up_is known seq o tag read =
      let x : IsSent g w me payload = sent_by payload rest up_is in awaited_by x.seen x.newer x.sending x.does known seq o tag (some_same (sym x.read ∙ read))

pub refusals_are_limits : (s : Scene) (server : Server) (events : List Event) → IsSafeRun s server events → (me : ℕ) → 0 < me → me ≤ s.group.count → (payload : List ℕ) (rest : List (List ℕ)) → queue_of s.up me ≡ payload ∷ rest
    → (r : ℕ) → (serve server me payload).answer ≡ say.Refused r → RefusedAtLimit server payload r ⊎ ContentRefused s.group server payload r
refusals_are_limits s server events run me above upto payload rest up_is r refused =
    world_refuses s.group (world_of s server) (run_fits s server events run.honest).fits (run_knows s server events run) me above upto payload rest up_is r refused

pub limits_are_refused : (s : Scene) (server : Server) (events : List Event) → IsSafeRun s server events → (me : ℕ) → 0 < me → me ≤ s.group.count → (payload : List ℕ) (rest : List (List ℕ)) → queue_of s.up me ≡ payload ∷ rest
    → (known seq : ℕ) (o : Op) (tag : Digest32) → read_request payload ≡ Some (ask.Invoke known seq o tag)
    → (r : ℕ) → passed_limit server known o ≡ Some r → (serve server me payload).answer ≡ say.Refused r
limits_are_refused s server events run me above upto payload rest up_is known seq o tag read r at =
    let a : Answered = ordered_by server me known seq o tag in
    ap (λ x. x.answer) (world_calls s.group (world_of s server) (run_fits s server events run.honest).fits (run_knows s server events run) me above upto payload rest up_is known seq o tag read)
    ∙ ap (λ l. (answer_unless_refused server l a).answer) at

pub calls_are_ordered : (s : Scene) (server : Server) (events : List Event) → IsSafeRun s server events → (me : ℕ) → 0 < me → me ≤ s.group.count → (payload : List ℕ) (rest : List (List ℕ)) → queue_of s.up me ≡ payload ∷ rest
    → (known seq : ℕ) (o : Op) (tag : Digest32) → read_request payload ≡ Some (ask.Invoke known seq o tag)
    → passed_limit server known o ≡ None → IsOrderedBy server me seq o tag (serve server me payload)
calls_are_ordered s server events run me above upto payload rest up_is known seq o tag read none =
    let a : Answered = ordered_by server me known seq o tag in
    let is : serve server me payload ≡ a =
    world_calls s.group (world_of s server) (run_fits s server events run.honest).fits (run_knows s server events run) me above upto payload rest up_is known seq o tag read ∙ ap (λ l. answer_unless_refused server l a) none in
    subst (IsOrderedBy server me seq o tag) (sym is) (record {
      newest = record { entry = record { client = me; seq = seq; op = o }; tag = tag; sealed_then = sealed_count server };
      log = refl;
      entry = refl;
      tagged = refl;
      sealed_then = refl;
      seal = _;
      told = _;
      part = _;
      answer = refl;
    })

pub contents_are_kept : (s : Scene) (server : Server) (events : List Event) → IsSafeRun s server events → (me : ℕ) → 0 < me → me ≤ s.group.count → (payload : List ℕ) (rest : List (List ℕ)) → queue_of s.up me ≡ payload ∷ rest
    → (c : List ℕ) → read_request payload ≡ Some (ask.Keep c) → IsKeptSo server c (serve server me payload)
contents_are_kept s server events run me above upto payload rest up_is c read =
    world_kept s.group (world_of s server) (run_fits s server events run.honest).fits (run_knows s server events run) me above upto payload rest up_is c read

pub contents_are_given : (s : Scene) (server : Server) (events : List Event) → IsSafeRun s server events → (me : ℕ) → 0 < me → me ≤ s.group.count → (payload : List ℕ) (rest : List (List ℕ)) → queue_of s.up me ≡ payload ∷ rest
    → (h : Digest32) → read_request payload ≡ Some (ask.Fetch h) → IsFetchedSo server h (serve server me payload).answer
contents_are_given s server events run me above upto payload rest up_is h read =
    world_fetched s.group (world_of s server) (run_fits s server events run.honest).fits (run_knows s server events run) me above upto payload rest up_is h read
