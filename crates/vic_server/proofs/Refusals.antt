-- A refusal changes nothing.
use Rattle.std.proofs.Common.{◌≡◌, ℕ, ◌+◌, ◌&&◌, Bool, true, false, not, List, [], ◌∷◌, ◌++◌, length, Option, Some, None, refl, ap, ◌∙◌}
use Rattle.std.specs.Prelude.{if◌then◌else◌, nat_eq, nat_lt, nat_le}
use Rattle.std.specs.List.{sum_by}
use Rattle.vic_dict.specs.declared.op.Mode.TheVariants as mode
use Rattle.vic_wire.specs.declared.message.ToServer.{ToServer}
use Rattle.vic_wire.specs.declared.message.ToServer.TheVariants as ask
use Rattle.vic_wire.specs.declared.message.ToClient.{ToClient}
use Rattle.vic_wire.specs.declared.message.ToClient.TheVariants as say
use Rattle.vic_wire.specs.Reading.{read_request}
use Rattle.vic_wire.specs.Hashes.{hash}
use Rattle.vic_wire.specs.Texts.{content_text}
use Rattle.vic_order.specs.declared.Stage.TheVariants as stage
use Rattle.vic_wire.specs.Parts.{part_for}
use Rattle.vic_rules.specs.Client.{first_failing}
use Rattle.vic_order.specs.Order.{Ordered, Server, Answered, answer_alone, answer_with_change, answer_by_tests, answer_unless_refused, member, size, sealed_count, ordered_at, commit_at, with_commit, with_seal, set_stage, is_ready, is_away, is_open_at, is_member, same_mode, owns_committed, turn, turn_on, top_seal, update_part, ordered_next, entries_above, is_kept, content_with, invoke_tests, serve_read, serve}
use Rattle.vic_change.specs.Changes.{change}
use Rattle.vic_change.specs.declared.Change.{Change}
use Rattle.vic_server.specs.Replay.{KeptServer, kept_with, after_request}

-- where it refuses, it is as it was, and makes no change
abbrev IsKept : Server → Answered → Type 0
IsKept s a = (r : ℕ) → a.answer ≡ say.Refused r → (a.next ≡ s) × (a.change ≡ false)

tested : (s : Server) (failing : Option ℕ) (a : Answered) → IsKept s a → IsKept s (answer_unless_refused s failing a)
tested s None a kept = kept
tested s (Some n) a kept = λ r e. (refl, refl)

-- a client that has come in, and one test
ordered : (s : Server) (who : ℕ) (b : Bool) (a : Answered) → IsKept s a → IsKept s (answer_by_tests s ((6, is_member s who) ∷ []) (answer_by_tests s ((5, b) ∷ []) a))
ordered s who b a kept = tested s (first_failing ((6, is_member s who) ∷ [])) (answer_by_tests s ((5, b) ∷ []) a) (tested s (first_failing ((5, b) ∷ [])) a kept)

said : (s : Server) (a : ToClient) → IsKept s (answer_alone s a)
said s a r e = (refl, refl)

granted : (s next : Server) (a : ToClient) → ((r : ℕ) → a ≡ say.Refused r → ⊥) → IsKept s (answer_with_change next a)
granted s next a never r e = absurd (never r e)

-- the turn is no refusal
turn_kept : (s next : Server) (who : ℕ) (o : Option Ordered) (status : Option Bool) → IsKept s (answer_with_change next (turn_on next who o status))
turn_kept s next who None status = λ r e. absurd cc
turn_kept s next who (Some o) None = λ r e. absurd cc
turn_kept s next who (Some o) (Some done) = by_owner (nat_eq o.entry.client who)
  where
    by_owner : (b : Bool) → IsKept s (answer_with_change next (if b then say.Update (top_seal next) (update_part next.dictionary o.entry.op done) else say.Wait))
    by_owner true r e = absurd cc
    by_owner false r e = absurd cc

keep_kept : (s : Server) (content : List ℕ) (b c : Bool)
    → IsKept s (if b then answer_alone s say.Kept else answer_by_tests s ((7, c) ∷ []) (answer_with_change (record s { contents = content ∷ s.contents }) say.Kept))
keep_kept s content true c = said s say.Kept
keep_kept s content false true = granted s (record s { contents = content ∷ s.contents }) say.Kept (λ r e. absurd cc)
keep_kept s content false false = said s (say.Refused 7)

refused_keeps : (s : Server) (who : ℕ) (request : Option ToServer) → IsKept s (serve_read s who request)
refused_keeps s who None = said s (say.Refused 5)
refused_keeps s who (Some (ask.Hello kind client)) =
    let member : Bool = nat_lt 0 client && (nat_le client (length s.members) && (same_mode kind s.mode && is_away (member s client).stage)) in
    let next : Server = set_stage s client stage.Ready in
    tested s (first_failing ((5, nat_eq who 0) ∷ (6, member) ∷ [])) (answer_with_change next say.Hi) (granted s next say.Hi (λ r e. absurd cc))
refused_keeps s who (Some (ask.Invoke known seq o tag)) =
    let next : Server = ordered_next s who seq o tag in
    let a : Answered = answer_with_change next (say.Reply (top_seal s) (entries_above known next.log) (part_for s.dictionary o)) in
    let tests : List (ℕ × Bool) = invoke_tests s who known seq o in
    tested s (first_failing ((6, is_member s who) ∷ [])) (answer_by_tests s tests a) (tested s (first_failing tests) a (granted s next a.answer (λ r e. absurd cc)))
refused_keeps s who (Some (ask.Commit position done tag)) =
    let next : Server = set_stage (with_commit s position done tag) who stage.Ready in
    ordered s who (is_open_at position (member s who).stage) (answer_with_change next (turn next who)) (turn_kept s next who (ordered_at next (sealed_count next + 1)) (commit_at next (sealed_count next + 1)))
refused_keeps s who (Some ask.Poll) = ordered s who (is_ready (member s who).stage) (answer_alone s (turn s who)) (said s (turn s who))
refused_keeps s who (Some (ask.Seal position root tag)) =
    let next : Server = with_seal s (record { position = position; root = root; tag = tag }) in
    let k : Bool = is_ready (member s who).stage && (nat_eq position (sealed_count s + 1) && owns_committed who (ordered_at s position) (commit_at s position)) in
    ordered s who k (answer_with_change next (turn next who)) (turn_kept s next who (ordered_at next (sealed_count next + 1)) (commit_at next (sealed_count next + 1)))
refused_keeps s who (Some (ask.Sync known)) = ordered s who (is_ready (member s who).stage && nat_le known (size s)) _ (said s _)
refused_keeps s who (Some (ask.Keep content)) =
    let k : Bool = is_ready (member s who).stage && same_mode s.mode mode.Objects in
    ordered s who k _ (keep_kept s content (is_kept s.contents (hash (content_text content))) (not (nat_le 1048576 (length s.contents)) && nat_le (sum_by length s.contents + length content) 1073741824))
refused_keeps s who (Some (ask.Fetch h)) =
    let a : ToClient = content_with s.contents h.bytes in
    ordered s who (is_ready (member s who).stage && same_mode s.mode mode.Objects) (answer_alone s a) (said s a)
refused_keeps s who (Some ask.Bye) =
    let next : Server = set_stage s who stage.Left in
    ordered s who (is_ready (member s who).stage) (answer_with_change next say.Gone) (granted s next say.Gone (λ r e. absurd cc))

pub refused_served : (s : Server) (who : ℕ) (payload : List ℕ) (r : ℕ) → (serve s who payload).answer ≡ say.Refused r → (serve s who payload).next ≡ s
unfolding serve
refused_served s who payload r e = (refused_keeps s who (read_request payload) r e).0

pub refused_makes : (s : Server) (who : ℕ) (payload : List ℕ) (r : ℕ) → (serve s who payload).answer ≡ say.Refused r → (serve s who payload).change ≡ false
unfolding serve
refused_makes s who payload r e = (refused_keeps s who (read_request payload) r e).1

nothing_more : (cs : List Change) → cs ++ [] ≡ cs
nothing_more [] = refl
nothing_more (c ∷ cs) = ap (λ (l : List Change). c ∷ l) (nothing_more cs)

-- nor does its history grow
pub refused_stepped : (k : KeptServer) (seat who : ℕ) (payload : List ℕ) (r : ℕ) → (serve k.server who payload).answer ≡ say.Refused r → after_request k seat who payload ≡ k
refused_stepped k seat who payload r e =
    ap (λ (b : Bool). kept_with k.opening (k.changes ++ (if b then change seat who payload ∷ [] else [])) (serve k.server who payload).next) (refused_makes k.server who payload r e)
    ∙ ap (λ (cs : List Change). kept_with k.opening cs (serve k.server who payload).next) (nothing_more k.changes)
    ∙ ap (λ (s : Server). kept_with k.opening k.changes s) (refused_served k.server who payload r e)
