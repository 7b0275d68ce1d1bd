-- What a server keeps and answers is bytes, whatever requests of bytes come.
use Rattle.std.proofs.Common.{◌≡◌, ℕ, ◌+◌, ◌-◌, ◌<◌, ◌≤◌, Bool, true, false, not, ◌&&◌, ◌||◌, List, [], ◌∷◌, ◌++◌, length, min, Option, Some, None, refl, arith}
use Rattle.std.specs.Prelude.{if◌then◌else◌, nat_eq, nat_lt, nat_le}
use Rattle.std.specs.List.{AllByRecursion, find, list_all, sum_by}
use Rattle.std.specs.Str.{bytes_eq}
use Rattle.std.proofs.lemmas.Bool.{and_parts, ltb-true}
use Rattle.vic_dict.specs.Lists.{AreBytes, front, newest}
use Rattle.vic_dict.specs.declared.op.Op.{Op}
use Rattle.vic_dict.specs.declared.op.Mode.{Mode}
use Rattle.vic_dict.specs.declared.op.Mode.TheVariants as mode
use Rattle.vic_dict.specs.Dictionary.{Dictionary, IsProper}
use Rattle.vic_dict.proofs.ByteLists.{AreBytes-nil, AreBytes-cons, AreBytes-append, AreBytes-replicate}
use Rattle.vic_wire.specs.declared.message.Digest32.{Digest32}
use Rattle.vic_wire.specs.declared.message.Seal.{Seal}
use Rattle.vic_wire.specs.declared.message.Tagged.{Tagged}
use Rattle.vic_wire.specs.declared.message.ToServer.{ToServer}
use Rattle.vic_wire.specs.declared.message.ToServer.TheVariants as ask
use Rattle.vic_wire.specs.declared.message.ToClient.{ToClient}
use Rattle.vic_wire.specs.declared.message.ToClient.TheVariants as say
use Rattle.vic_wire.specs.Texts.{content_text}
use Rattle.vic_wire.specs.Hashes.{hash}
use Rattle.vic_wire.specs.Messages.{HasRequestSpelling, answer_text, seal_field, entries_field}
use Rattle.vic_wire.specs.Parts.{part_for}
use Rattle.vic_wire.specs.Reading.{read_request}
use Rattle.vic_rules.specs.Client.{first_failing}
use Rattle.vic_spellings.specs.Spellings.{RequestHoldsBytes}
use Rattle.vic_spellings.proofs.Bytes.{bytes-sha256}
use Rattle.vic_spellings.proofs.SpelledRequests.{request_fits, request_holds_bytes}
use Rattle.vic_roots.proofs.Proper.{proper-nothing, proper-after}
use Rattle.vic_honest.proofs.SentParts.{sent_for, sent_update}
use Rattle.vic_laws.proofs.Words.{all_append}
use Rattle.vic_laws.proofs.Paths.{all_drop}
use Rattle.vic_order.specs.declared.Stage.{Stage}
use Rattle.vic_order.specs.declared.Stage.TheVariants as stage
use Rattle.vic_order.specs.Order.{Ordered, Member, Server, fresh_server, Answered, answer_alone, answer_with_change, answer_by_tests, answer_unless_refused, no_seal, seal_at_position, top_seal, size, sealed_count, ordered_at, commit_at, tagged_entry, entries_above, set_stage, update_part, turn, turn_on, with_commit, with_seal, applied_to, content_with, is_kept, is_member, is_ready, is_away, is_open_at, is_put, same_mode, member, owns_committed, op_weight, weight, ordered_next, on_request, on_hello, serve_read, serve}
use Rattle.vic_honest.proofs.Words.{newest_seal}
use Rattle.vic_honest.proofs.Spoken.{TaggedBytes, seal_bytes, entries_bytes}
use Rattle.vic_runs.specs.Reached.{OrderedHolds, SealHolds, ServerHolds, IfThere}

-- ---- what a server has

-- a server that begins keeps nothing
pub holds-fresh : (kind : Mode) (count : ℕ) (m : Member) → ServerHolds (fresh_server kind count m)
holds-fresh kind count m = record { log = tt; seals = tt; dictionary = proper-nothing; contents = tt }

newest-holds : {X : Type 0} (P : X → Type 0) (xs : List X) → AllByRecursion P xs → IfThere P (newest xs)
newest-holds P [] h = tt
newest-holds P (x ∷ xs) h = h.0

found-holds : {X : Type 0} (P : X → Type 0) (test : X → Bool) (xs : List X) → AllByRecursion P xs → IfThere P (find test xs)
found-holds P test [] h = tt
found-holds P test (x ∷ xs) h =
    elim (test x) as (λ b. IfThere P (if b then Some x else find test xs)) [
      | true ↦ h.0
      | false ↦ found-holds P test xs h.1
    ]

-- the seal of a position, also where there is none
seal-holds : (s : Server) (n : ℕ) → ServerHolds s → SealHolds (seal_at_position s n)
seal-holds s n h =
    let first : SealHolds no_seal = record { root = bytes-sha256 _; tag = AreBytes-replicate 32 0 (omega arith) } in
    newest_seal SealHolds (front n s.seals) first (all_drop SealHolds (length s.seals - n) s.seals h.seals)

-- the entry at a position, if there is one
ordered-holds : (s : Server) (n : ℕ) → ServerHolds s → IfThere OrderedHolds (ordered_at s n)
ordered-holds s n h =
    elim (nat_lt (size s) n) as (λ b. IfThere OrderedHolds (if b then None else newest (front n s.log))) [
      | true ↦ tt
      | false ↦ newest-holds OrderedHolds (front n s.log) (all_drop OrderedHolds (length s.log - n) s.log h.log)
    ]

-- the entries that are told
above-holds : (known : ℕ) (log : List Ordered) → AllByRecursion OrderedHolds log → AllByRecursion TaggedBytes (entries_above known log)
unfolding entries_above
above-holds known [] h = tt
above-holds known (o ∷ log) h =
    elim (nat_lt known (length (o ∷ log))) as (λ b. AllByRecursion TaggedBytes (if b then entries_above known log ++ tagged_entry o ∷ [] else [])) [
      | true ↦ all_append TaggedBytes (entries_above known log) (tagged_entry o ∷ []) (above-holds known log h.1) (record { entry = h.0.entry; tag = h.0.tag }, tt)
      | false ↦ tt
    ]

-- what a seal leaves is proper
applied-proper : (d : Dictionary) (o : Option Ordered) (status : Option Bool) → IsProper d → IfThere OrderedHolds o → IsProper (applied_to d o status)
applied-proper d None status proper h = proper
applied-proper d (Some o) None proper h = proper
applied-proper d (Some o) (Some true) proper h = proper-after d o.entry.op proper h.entry.op.0 h.entry.op.1
applied-proper d (Some o) (Some false) proper h = proper

-- ---- answers

-- what it says is bytes, part by part
abbrev pub SpeaksBytes : ToClient → Type 0
SpeaksBytes say.Hi = Unit {0}
SpeaksBytes (say.Reply x ts part) = SealHolds x × (AllByRecursion TaggedBytes ts × AreBytes part)
SpeaksBytes say.Wait = Unit {0}
SpeaksBytes (say.Update x part) = SealHolds x × AreBytes part
SpeaksBytes (say.Entries x ts) = SealHolds x × AllByRecursion TaggedBytes ts
SpeaksBytes (say.Refused r) = r < 256
SpeaksBytes say.Kept = Unit {0}
SpeaksBytes (say.Content content) = AreBytes content
SpeaksBytes say.Gone = Unit {0}
SpeaksBytes say.Absent = Unit {0}

-- an answer of one byte
bare-bytes : (kind : ℕ) → kind < 256 → AreBytes (kind ∷ [])
bare-bytes kind lt = AreBytes-cons kind [] lt AreBytes-nil

sealed-bytes : (kind : ℕ) → kind < 256 → (x : Seal) → SealHolds x → AreBytes (kind ∷ seal_field x)
sealed-bytes kind lt x h = AreBytes-cons kind (seal_field x) lt (seal_bytes x h.root h.tag)

-- so it is bytes as a whole
pub spoken-bytes : (m : ToClient) → SpeaksBytes m → AreBytes (answer_text m)
spoken-bytes say.Hi h = bare-bytes 0x41 (omega arith)
spoken-bytes (say.Reply x ts part) h =
    AreBytes-append (0x42 ∷ seal_field x ++ entries_field ts) part (AreBytes-append (0x42 ∷ seal_field x) (entries_field ts) (sealed-bytes 0x42 (omega arith) x h.0) (entries_bytes ts h.1.0)) h.1.1
spoken-bytes say.Wait h = bare-bytes 0x43 (omega arith)
spoken-bytes (say.Update x part) h = AreBytes-append (0x44 ∷ seal_field x) part (sealed-bytes 0x44 (omega arith) x h.0) h.1
spoken-bytes (say.Entries x ts) h = AreBytes-append (0x45 ∷ seal_field x) (entries_field ts) (sealed-bytes 0x45 (omega arith) x h.0) (entries_bytes ts h.1)
spoken-bytes (say.Refused r) h = AreBytes-cons 0x46 (r ∷ []) (omega arith) (bare-bytes r h)
spoken-bytes say.Kept h = bare-bytes 0x47 (omega arith)
spoken-bytes (say.Content content) h = AreBytes-cons 0x48 content (omega arith) h
spoken-bytes say.Gone h = bare-bytes 0x49 (omega arith)
spoken-bytes say.Absent h = bare-bytes 0x4a (omega arith)

turn_on-bytes : (s : Server) (who : ℕ) (o : Option Ordered) (status : Option Bool) → ServerHolds s → SpeaksBytes (turn_on s who o status)
turn_on-bytes s who None status h = tt
turn_on-bytes s who (Some o) None h = tt
turn_on-bytes s who (Some o) (Some done) h =
    elim (nat_eq o.entry.client who) as (λ b. SpeaksBytes (if b then say.Update (top_seal s) (update_part s.dictionary o.entry.op done) else say.Wait)) [
      | true ↦ (seal-holds s (sealed_count s) h, (sent_update s.dictionary h.dictionary o.entry.op done).1.are_bytes)
      | false ↦ tt
    ]

turn-bytes : (s : Server) (who : ℕ) → ServerHolds s → SpeaksBytes (turn s who)
turn-bytes s who h = turn_on-bytes s who (ordered_at s (sealed_count s + 1)) (commit_at s (sealed_count s + 1)) h

content-bytes : (contents : List (List ℕ)) (h : List ℕ) → AllByRecursion AreBytes contents → SpeaksBytes (content_with contents h)
content-bytes contents h all = of_found (find (λ c. bytes_eq (hash (content_text c)) h) contents) (found-holds AreBytes (λ c. bytes_eq (hash (content_text c)) h) contents all)
  where
    of_found : (o : Option (List ℕ)) → IfThere AreBytes o → SpeaksBytes (elim o [ Some c ↦ say.Content c | None ↦ say.Absent ])
    of_found (Some c) bytes = bytes
    of_found None bytes = tt

-- ---- requests

-- the server goes on with bytes, and its answer is bytes
record KeepsBytes (a : Answered) : Type 0 where
  next : ServerHolds a.next
  answer : SpeaksBytes a.answer

answer_alone-keeps : (s : Server) (m : ToClient) → ServerHolds s → SpeaksBytes m → KeepsBytes (answer_alone s m)
answer_alone-keeps s m h bytes = record { next = h; answer = bytes }

answer_with_change-keeps : (next : Server) (m : ToClient) → ServerHolds next → SpeaksBytes m → KeepsBytes (answer_with_change next m)
answer_with_change-keeps next m h bytes = record { next = h; answer = bytes }

-- the numbers by which tests refuse are bytes
abbrev are_reasons : List (ℕ × Bool) → Bool
are_reasons tests = list_all (λ c. nat_lt c.0 256) tests

-- what is refused changes nothing
guards : (s : Server) (tests : List (ℕ × Bool)) (a : Answered) → ServerHolds s → are_reasons tests ≡ true → KeepsBytes a → KeepsBytes (answer_by_tests s tests a)
guards s [] a h reasons keeps = keeps
guards s (c ∷ tests) a h reasons keeps =
    let p = and_parts (nat_lt c.0 256) (are_reasons tests) reasons in
    elim (c.1) as (λ b. KeepsBytes (answer_unless_refused s (if b then first_failing tests else Some c.0) a)) [
      | true ↦ guards s tests a h p.1 keeps
      | false ↦ answer_alone-keeps s (say.Refused c.0) h (ltb-true c.0 256 p.0)
    ]

-- of two answers that keep bytes each does
kept : (b : Bool) (one other : Answered) → KeepsBytes one → KeepsBytes other → KeepsBytes (if b then one else other)
kept true one other h k = h
kept false one other h k = k

-- what a request of bytes carries
abbrev IsRead : ToServer → Type 0
IsRead m = HasRequestSpelling m × RequestHoldsBytes m

module _ (s : Server) (who : ℕ) (h : ServerHolds s) where
  -- the stages of members aren't among what is bytes
  staged : (i : ℕ) (k : Stage) → ServerHolds (set_stage s i k)
  staged i k = record { log = h.log; seals = h.seals; dictionary = h.dictionary; contents = h.contents }

  hello-keeps : (kind : Mode) (client : ℕ) → KeepsBytes (on_hello s who kind client)
  hello-keeps kind client =
      let tests : List (ℕ × Bool) = (5, nat_eq who 0) ∷ (6, nat_lt 0 client && (nat_le client (length s.members) && (same_mode kind s.mode && is_away (member s client).stage))) ∷ [] in
      guards s tests _ h refl (answer_with_change-keeps (set_stage s client stage.Ready) say.Hi (staged client stage.Ready) tt)

  invoke-keeps : (known seq : ℕ) (o : Op) (tag : Digest32) → 0 < who → who ≤ 64 → IsRead (ask.Invoke known seq o tag) → KeepsBytes (on_request s who (ask.Invoke known seq o tag))
  invoke-keeps known seq o tag above upto is =
      let after : Server = ordered_next s who seq o tag in
      let new : OrderedHolds (record { entry = record { client = who; seq = seq; op = o }; tag = tag; sealed_then = sealed_count s }) = record {
        entry = record { client = (above, upto); seq = is.0.1.0; op = is.0.1.1.0 };
        tag = is.1;
      } in
      let holds : ServerHolds after = record { log = (new, h.log); seals = h.seals; dictionary = h.dictionary; contents = h.contents } in
      let ts : List Tagged = entries_above known after.log in
      let tests : List (ℕ × Bool) =
      (5, is_ready (member s who).stage && (nat_lt (member s who).last seq && nat_le known (size s)))
      ∷ (4, not (nat_eq (size s) 1048576))
      ∷ (2, not (nat_eq (size s - sealed_count s) 1024))
      ∷ (3, not (is_put o) || nat_le (weight s + op_weight o) 8388608)
      ∷ (1, nat_le ((size s + 1) - known) 8192) ∷ [] in
      guards s tests _ h refl (answer_with_change-keeps after (say.Reply (top_seal s) ts (part_for s.dictionary o)) holds
      (seal-holds s (sealed_count s) h, (above-holds known after.log holds.log, (sent_for s.dictionary h.dictionary o).are_bytes)))

  commit-keeps : (position : ℕ) (done : Bool) (tag : Digest32) → KeepsBytes (on_request s who (ask.Commit position done tag))
  commit-keeps position done tag =
      let after : Server = set_stage (with_commit s position done tag) who stage.Ready in
      let holds : ServerHolds after = record { log = h.log; seals = h.seals; dictionary = h.dictionary; contents = h.contents } in
      guards s ((5, is_open_at position (member s who).stage) ∷ []) _ h refl (answer_with_change-keeps after (turn after who) holds (turn-bytes after who holds))

  poll-keeps : KeepsBytes (on_request s who ask.Poll)
  poll-keeps = guards s ((5, is_ready (member s who).stage) ∷ []) _ h refl (answer_alone-keeps s (turn s who) h (turn-bytes s who h))

  seal-keeps : (position : ℕ) (root tag : Digest32) → IsRead (ask.Seal position root tag) → KeepsBytes (on_request s who (ask.Seal position root tag))
  seal-keeps position root tag is =
      let after : Server = with_seal s (record { position = position; root = root; tag = tag }) in
      let holds : ServerHolds after = record {
        log = h.log;
        seals = (record { root = is.1.0; tag = is.1.1 }, h.seals);
        dictionary = applied-proper s.dictionary (ordered_at s position) (commit_at s position) h.dictionary (ordered-holds s position h);
        contents = h.contents;
      } in
      let tests : List (ℕ × Bool) = (5, is_ready (member s who).stage && (nat_eq position (sealed_count s + 1) && owns_committed who (ordered_at s position) (commit_at s position))) ∷ [] in
      guards s tests _ h refl (answer_with_change-keeps after (turn after who) holds (turn-bytes after who holds))

  sync-keeps : (known : ℕ) → KeepsBytes (on_request s who (ask.Sync known))
  sync-keeps known =
      let e : ℕ = min (size s) (known + 8192) in
      let x : Seal = seal_at_position s (min (sealed_count s) e) in
      let ts : List Tagged = entries_above known (front e s.log) in
      guards s ((5, is_ready (member s who).stage && nat_le known (size s)) ∷ []) _ h refl (answer_alone-keeps s (say.Entries x ts) h
      (seal-holds s (min (sealed_count s) e) h, above-holds known (front e s.log) (all_drop OrderedHolds (length s.log - e) s.log h.log)))

  keep-keeps : (content : List ℕ) → IsRead (ask.Keep content) → KeepsBytes (on_request s who (ask.Keep content))
  keep-keeps content is =
      let after : Server = record s { contents = content ∷ s.contents } in
      let holds : ServerHolds after = record { log = h.log; seals = h.seals; dictionary = h.dictionary; contents = (is.1, h.contents) } in
      let room : List (ℕ × Bool) = (7, not (nat_le 1048576 (length s.contents)) && nat_le (sum_by length s.contents + length content) 1073741824) ∷ [] in
      let joins : Answered = answer_with_change after say.Kept in
      guards s ((5, is_ready (member s who).stage && same_mode s.mode mode.Objects) ∷ []) _ h refl
      (kept (is_kept s.contents (hash (content_text content))) (answer_alone s say.Kept) (answer_by_tests s room joins) (answer_alone-keeps s say.Kept h tt) (guards s room joins h refl (answer_with_change-keeps after say.Kept holds tt)))

  fetch-keeps : (asked : Digest32) → KeepsBytes (on_request s who (ask.Fetch asked))
  fetch-keeps asked = guards s ((5, is_ready (member s who).stage && same_mode s.mode mode.Objects) ∷ []) _ h refl (answer_alone-keeps s (content_with s.contents asked.bytes) h (content-bytes s.contents asked.bytes h.contents))

  bye-keeps : KeepsBytes (on_request s who ask.Bye)
  bye-keeps = guards s ((5, is_ready (member s who).stage) ∷ []) _ h refl (answer_with_change-keeps (set_stage s who stage.Left) say.Gone (staged who stage.Left) tt)

  -- every other request is refused where it isn't a member's
  member-keeps : (m : ToServer) → KeepsBytes (on_request s who m) → KeepsBytes (answer_by_tests s ((6, is_member s who) ∷ []) (on_request s who m))
  member-keeps m keeps = guards s ((6, is_member s who) ∷ []) (on_request s who m) h refl keeps

  read-keeps : (r : Option ToServer) → 0 < who → who ≤ 64 → IfThere IsRead r → KeepsBytes (serve_read s who r)
  read-keeps None above upto is = answer_alone-keeps s (say.Refused 5) h (omega arith)
  read-keeps (Some (ask.Hello kind client)) above upto is = hello-keeps kind client
  read-keeps (Some (ask.Invoke known seq o tag)) above upto is = member-keeps (ask.Invoke known seq o tag) (invoke-keeps known seq o tag above upto is)
  read-keeps (Some (ask.Commit position done tag)) above upto is = member-keeps (ask.Commit position done tag) (commit-keeps position done tag)
  read-keeps (Some ask.Poll) above upto is = member-keeps ask.Poll poll-keeps
  read-keeps (Some (ask.Seal position root tag)) above upto is = member-keeps (ask.Seal position root tag) (seal-keeps position root tag is)
  read-keeps (Some (ask.Sync known)) above upto is = member-keeps (ask.Sync known) (sync-keeps known)
  read-keeps (Some (ask.Keep content)) above upto is = member-keeps (ask.Keep content) (keep-keeps content is)
  read-keeps (Some (ask.Fetch asked)) above upto is = member-keeps (ask.Fetch asked) (fetch-keeps asked)
  read-keeps (Some ask.Bye) above upto is = member-keeps ask.Bye bye-keeps

-- what is read of bytes has a spelling, and holds bytes
reads : (payload : List ℕ) (r : Option ToServer) → AreBytes payload → read_request payload ≡ r → IfThere IsRead r
reads payload None bytes e = tt
reads payload (Some m) bytes e = (request_fits payload m bytes e, request_holds_bytes payload m bytes e)

-- a server that keeps bytes and is asked in bytes answers in bytes, and keeps bytes
pub holds-serve : (s : Server) (who : ℕ) (payload : List ℕ) → ServerHolds s → 0 < who → who ≤ 64 → AreBytes payload → ServerHolds (serve s who payload).next × SpeaksBytes (serve s who payload).answer
unfolding serve
holds-serve s who payload h above upto bytes =
    let keeps : KeepsBytes (serve_read s who (read_request payload)) = read-keeps s who h (read_request payload) above upto (reads payload (read_request payload) bytes refl) in
    (keeps.next, keeps.answer)
