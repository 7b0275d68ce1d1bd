-- The server serves the request that a client sent: it stays fit, and its answer follows the client's path.
use Rattle.std.proofs.Common.{◌≡◌, ℕ, suc, ◌+◌, ◌-◌, ◌<◌, ◌≤◌, Bool, true, false, not, ◌&&◌, ◌||◌, List, [], ◌∷◌, ◌++◌, length, map, take, drop, min, Option, Some, None, inl, inr, refl, sym, ap, subst, ◌∙◌, arith, length-append, length-drop}
use Rattle.std.specs.Prelude.{if◌then◌else◌, nat_eq, nat_lt, nat_le}
use Rattle.std.specs.List.{AllByRecursion, find, sum_by}
use Rattle.std.specs.Str.{bytes_eq}
use Rattle.vic_dict.specs.declared.op.Mode.TheVariants as mode
use Rattle.std.proofs.lemmas.List.{append-nil, take-append-drop, drop-append-le, map-append}
use Rattle.std.proofs.lemmas.Bool.{eqb-false, leb-true, not-true}
use Rattle.sha2.proofs.Facts256.{length-sha256}
use Rattle.vic_dict.specs.Lists.{IsIn, AreBytes, front, newest}
use Rattle.vic_dict.specs.declared.op.Op.{Op}
use Rattle.vic_dict.specs.Dictionary.{Dictionary, IsProper}
use Rattle.vic_dict.proofs.ByteLists.{AreBytes-nil, AreBytes-cons, AreBytes-append, AreBytes-replicate}
use Rattle.vic_wire.specs.declared.message.Seal.{Seal}
use Rattle.vic_wire.specs.declared.message.Tagged.{Tagged}
use Rattle.vic_wire.specs.declared.message.Digest32.{Digest32}
use Rattle.vic_wire.specs.declared.message.ToClient.{ToClient}
use Rattle.vic_wire.specs.declared.message.ToClient.TheVariants as say
use Rattle.vic_wire.specs.Texts.{invoke_text, seal_text, content_text}
use Rattle.vic_wire.specs.Hashes.{Group, IsGroup, chain, tag_of, hash}
use Rattle.vic_wire.specs.Messages.{IsEntry, IsTagged, HasSpelling, request_text, answer_text, seal_field, entries_field}
use Rattle.vic_wire.specs.Parts.{part_for}
use Rattle.vic_rules.specs.Client.{Standing, Sending, Invokes, Commits, Polls, Seals, Syncs, Keeps, Fetches, request_of, seal_of, entries_of, seal_text_on, commit_text_on, digest, tag_for, first_failing}
use Rattle.vic_spellings.proofs.Bytes.{bytes-sha256}
use Rattle.vic_spellings.proofs.Seals.{first_is_seal}
use Rattle.vic_spellings.proofs.SpelledRequests.{request_again}
use Rattle.vic_roots.proofs.Proper.{proper-after}
use Rattle.vic_honest.proofs.SentParts.{sent_for, sent_update}
use Rattle.vic_laws.proofs.Words.{all_weaker, all_append, in_either}
use Rattle.vic_laws.proofs.Paths.{all_drop}
use Rattle.vic_order.specs.declared.Stage.TheVariants as stage
use Rattle.vic_order.specs.Order.{Ordered, Server, Answered, answer_alone, answer_with_change, answer_by_tests, answer_unless_refused, size, sealed_count, no_seal, seal_at_position, top_seal, ordered_at, commit_at, member, set_stage, is_ready, is_open_at, is_put, is_member, op_weight, weight, tagged_entry, entries_above, turn, turn_on, update_part, with_commit, with_seal, owns_committed, applied_to, ordered_next, is_kept, content_with, same_mode, on_request, serve_read, serve}
use Rattle.vic_order.specs.Fates.{entries}
use Rattle.vic_honest.proofs.Words.{front-entries, length-entries, told, above-told, length-told, all-first, newest_seal, all-newest, AreMade}
use Rattle.vic_honest.proofs.Spoken.{TaggedBytes, seal_bytes, entries_bytes, tag_bytes}
use Rattle.vic_honest.proofs.Standing.{EntryFits, SealFits, ServerFits, StandingFits, RequestGoes, AnswerComes, OfSeal, IsContent}

pub length-tag : (key text : List ℕ) → length (tag_of key text) ≡ 32
unfolding tag_of
length-tag key text = length-sha256 _

-- ---- seals as the log grows

on_front : (g : Group) (p q : List _) (n : ℕ) (root : List ℕ) → front n p ≡ front n q → seal_text_on g p n root ≡ seal_text_on g q n root
unfolding seal_text_on
on_front g p q n root e = ap (λ path. seal_text n (chain g path) root) e

-- the text of a seal within the older part of a log
pub seal_text-joined : (g : Group) (new old : List Ordered) (n : ℕ) (root : List ℕ) → n ≤ length old → seal_text_on g (entries (new ++ old)) n root ≡ seal_text_on g (entries old) n root
seal_text-joined g new old n root within = on_front g (entries (new ++ old)) (entries old) n root (front-entries n new old within)

pub seal-grows : (g : Group) (made : List (List ℕ)) (new log : List Ordered) (x : Seal) → SealFits g made log x → SealFits g made (new ++ log) x
seal-grows g made new log x fits = record {
  spelled = fits.spelled;
  root_bytes = fits.root_bytes;
  tag_bytes = fits.tag_bytes;
  within = omega (arith, fits.within, length-append new log);
  text = λ above. subst (IsIn made) (sym (seal_text-joined g new log x.position x.root.bytes fits.within)) (fits.text above);
}

pub first_seal_fits : (g : Group) (made : List (List ℕ)) (log : List Ordered) → SealFits g made log no_seal
first_seal_fits g made log = record {
  spelled = first_is_seal;
  root_bytes = bytes-sha256 _;
  tag_bytes = AreBytes-replicate 32 0 (omega arith);
  within = omega arith;
  text = λ above. absurd (omega arith);
}

-- ---- guarded answers

module _ (P : Answered → Type 0) (s : Server) where
  pub passed : (first : Option ℕ) (a : Answered) → ((r : ℕ) → first ≡ Some r → P (answer_alone s (say.Refused r))) → (first ≡ None → P a) → P (answer_unless_refused s first a)
  passed (Some r) a refuses goes = refuses r refl
  passed None a refuses goes = goes refl

abbrev AreReasons : List (ℕ × Bool) → Type 0
AreReasons tests = AllByRecursion (λ c. (0 < c.0) × (c.0 ≤ 7)) tests

reason_is : (tests : List (ℕ × Bool)) (r : ℕ) → AreReasons tests → first_failing tests ≡ Some r → (0 < r) × (r ≤ 7)
reason_is [] r h e = absurd cc
reason_is (c ∷ cs) r h e =
    elim (c.1) as (λ b. (if b then first_failing cs else Some c.0) ≡ Some r → (0 < r) × (r ≤ 7)) [
      | true ↦ λ f. reason_is cs r h.1 f
      | false ↦ λ f. let is : c.0 ≡ r = cc in subst (λ x. (0 < x) × (x ≤ 7)) is h.0
    ] e

-- a test that passed, and those after it
pub test_passed : (b : Bool) (n : ℕ) (rest : Option ℕ) → (if b then rest else Some n) ≡ None → (b ≡ true) × (rest ≡ None)
test_passed true n rest e = (refl, e)
test_passed false n rest e = absurd cc

-- ---- what an answer needs

-- the server and the answer after a request of a client whose path is the older part of the log
pub record Served (g : Group) (made : List (List ℕ)) (log seen newer : List Ordered) (a : Answered) : Type 0 where
  pub new : List Ordered
  pub is : a.next.log ≡ new ++ log
  pub server : ServerFits g made a.next
  pub answer : AnswerComes g made a.next.log seen (new ++ newer) a.answer

tagged_told : (made : List (List ℕ)) (new : List Ordered) → AllByRecursion (EntryFits made) new → AllByRecursion IsTagged (told new)
tagged_told made [] h = tt
tagged_told made (o ∷ new) h = all_append IsTagged (told new) (tagged_entry o ∷ []) (tagged_told made new h.1) (record { entry = h.0.spelled; tag = h.0.tag }, tt)

bytes_told : (made : List (List ℕ)) (new : List Ordered) → AllByRecursion (EntryFits made) new → AllByRecursion TaggedBytes (told new)
bytes_told made [] h = tt
bytes_told made (o ∷ new) h = all_append TaggedBytes (told new) (tagged_entry o ∷ []) (bytes_told made new h.1) (record { entry = h.0.spelled; tag = h.0.tag_bytes }, tt)

abbrev text_of : Tagged → List ℕ
text_of t = invoke_text t.entry

made_told : (made : List (List ℕ)) (new : List Ordered) → AllByRecursion (EntryFits made) new → AreMade made (map text_of (told new))
made_told made [] h text i = absurd i
made_told made (o ∷ new) h text i =
    elim (in_either (map text_of (told new)) (text_of (tagged_entry o) ∷ []) text (subst (λ texts. IsIn texts text) (map-append text_of (told new) (tagged_entry o ∷ [])) i)) [
      | inl a ↦ made_told made new h.1 text a
      | inr b ↦ elim b [ inl e ↦ subst (IsIn made) e h.0.text | inr c ↦ absurd c ]
    ]

module _ (g : Group) (made : List (List ℕ)) (log seen newer : List Ordered) where
  -- an answer without entries and without a seal
  plain_comes : (m : ToClient) → entries_of m ≡ [] → seal_of m ≡ None → HasSpelling m → AreBytes (answer_text m) → AnswerComes g made log seen newer m
  plain_comes m no_entries no_seal_here spelled bytes = record {
    later = newer;
    between = [];
    split = sym (append-nil newer);
    listed = no_entries;
    spelled = spelled;
    bytes = bytes;
    texts = subst (λ ts. AreMade made (map text_of ts)) (sym no_entries) (λ text i. absurd i);
    seal = subst (OfSeal (SealFits g made log)) (sym no_seal_here) tt;
  }

  update_comes : (x : Seal) (part : List ℕ) → SealFits g made log x → AreBytes part → AnswerComes g made log seen newer (say.Update x part)
  update_comes x part fits part_bytes = record {
    later = newer;
    between = [];
    split = sym (append-nil newer);
    listed = refl;
    spelled = fits.spelled;
    bytes = AreBytes-append (0x44 ∷ seal_field x) part (AreBytes-cons 0x44 (seal_field x) (omega arith) (seal_bytes x fits.root_bytes fits.tag_bytes)) part_bytes;
    texts = λ text i. absurd i;
    seal = fits;
  }

  reply_comes : (later between : List Ordered) (x : Seal) (part : List ℕ) → newer ≡ later ++ between → SealFits g made log x → AreBytes part → AllByRecursion (EntryFits made) between
      → 0 < length between → length between ≤ 8192 → AnswerComes g made log seen newer (say.Reply x (told between) part)
  reply_comes later between x part split fits part_bytes all some few = record {
    later = later;
    between = between;
    split = split;
    listed = refl;
    spelled = (fits.spelled, (omega (arith, length-told between), (omega (arith, length-told between), tagged_told made between all)));
    bytes = AreBytes-append (0x42 ∷ seal_field x ++ entries_field (told between)) part
        (AreBytes-append (0x42 ∷ seal_field x) (entries_field (told between)) (AreBytes-cons 0x42 (seal_field x) (omega arith) (seal_bytes x fits.root_bytes fits.tag_bytes)) (entries_bytes (told between) (bytes_told made between all)))
        part_bytes;
    texts = made_told made between all;
    seal = fits;
  }

  entries_come : (later between : List Ordered) (x : Seal) → newer ≡ later ++ between → SealFits g made log x → AllByRecursion (EntryFits made) between
      → length between ≤ 8192 → AnswerComes g made log seen newer (say.Entries x (told between))
  entries_come later between x split fits all few = record {
    later = later;
    between = between;
    split = split;
    listed = refl;
    spelled = (fits.spelled, (omega (arith, length-told between), tagged_told made between all));
    bytes = AreBytes-append (0x45 ∷ seal_field x) (entries_field (told between)) (AreBytes-cons 0x45 (seal_field x) (omega arith) (seal_bytes x fits.root_bytes fits.tag_bytes)) (entries_bytes (told between) (bytes_told made between all));
    texts = made_told made between all;
    seal = fits;
  }

-- the seal of a position is one of the server's, or that of position 0
seal_fits : (g : Group) (made : List (List ℕ)) (s : Server) (n : ℕ) → ServerFits g made s → SealFits g made s.log (seal_at_position s n)
seal_fits g made s n stands =
    newest_seal (SealFits g made s.log) (front n s.seals) (first_seal_fits g made s.log) (all_drop (SealFits g made s.log) (length s.seals - n) s.seals stands.seals)

-- the entry at a position is one of the log
entry_fits : (made : List (List ℕ)) (s : Server) (n : ℕ) (o : Ordered) → AllByRecursion (EntryFits made) s.log → ordered_at s n ≡ Some o → EntryFits made o
entry_fits made s n o all e =
    elim (nat_lt (size s) n) as (λ b. (if b then None else newest (front n s.log)) ≡ Some o → EntryFits made o) [
      | true ↦ λ f. absurd cc
      | false ↦ λ f. all-newest (EntryFits made) (front n s.log) o (all_drop (EntryFits made) (length s.log - n) s.log all) f
    ] e

-- the turn is told by an Update, or there is none to be told
turn_on_comes : (g : Group) (made : List (List ℕ)) (s : Server) (who : ℕ) (seen newer : List Ordered) (o : Option Ordered) (status : Option Bool) → ServerFits g made s
    → AnswerComes g made s.log seen newer (turn_on s who o status)
turn_on_comes g made s who seen newer None status stands = plain_comes g made s.log seen newer say.Wait refl refl tt (AreBytes-cons 0x43 [] (omega arith) AreBytes-nil)
turn_on_comes g made s who seen newer (Some o) None stands = plain_comes g made s.log seen newer say.Wait refl refl tt (AreBytes-cons 0x43 [] (omega arith) AreBytes-nil)
turn_on_comes g made s who seen newer (Some o) (Some done) stands =
    elim (nat_eq o.entry.client who) as (λ b. AnswerComes g made s.log seen newer (if b then say.Update (top_seal s) (update_part s.dictionary o.entry.op done) else say.Wait)) [
      | true ↦ update_comes g made s.log seen newer (top_seal s) (update_part s.dictionary o.entry.op done) (seal_fits g made s (sealed_count s) stands)
          (sent_update s.dictionary stands.dictionary o.entry.op done).1.are_bytes
      | false ↦ plain_comes g made s.log seen newer say.Wait refl refl tt (AreBytes-cons 0x43 [] (omega arith) AreBytes-nil)
    ]

turn_comes : (g : Group) (made : List (List ℕ)) (s : Server) (who : ℕ) (seen newer : List Ordered) → ServerFits g made s → AnswerComes g made s.log seen newer (turn s who)
turn_comes g made s who seen newer stands = turn_on_comes g made s who seen newer (ordered_at s (sealed_count s + 1)) (commit_at s (sealed_count s + 1)) stands

-- what a seal leaves is proper
applied_proper : (d : Dictionary) (o : Option Ordered) (status : Option Bool) → IsProper d → ((x : Ordered) → o ≡ Some x → IsEntry x.entry) → IsProper (applied_to d o status)
applied_proper d None status proper fits = proper
applied_proper d (Some o) None proper fits = proper
applied_proper d (Some o) (Some true) proper fits = let e = fits o refl in proper-after d o.entry.op proper e.op.0 e.op.1
applied_proper d (Some o) (Some false) proper fits = proper

-- ---- requests

module _ (g : Group) (group : IsGroup g) (made : List (List ℕ)) (s : Server) (me : ℕ) (above : 0 < me) (upto : me ≤ g.count) (t : Standing) (seen newer : List Ordered)
    (is : s.log ≡ newer ++ seen) (path : t.path ≡ entries seen) (fits : StandingFits t) (stands : ServerFits g made s) where
  abbrev pub Gives : Answered → Type 0
  Gives a = Served g made s.log seen newer a

  -- it answers, and stays as it is
  stays : (m : ToClient) → AnswerComes g made s.log seen newer m → Gives (answer_alone s m)
  stays m comes = record { new = []; is = refl; server = stands; answer = comes }

  refuses : (tests : List (ℕ × Bool)) (a : Answered) → AreReasons tests → (first_failing tests ≡ None → Gives a) → Gives (answer_by_tests s tests a)
  refuses tests a reasons goes = passed Gives s (first_failing tests) a
      (λ r e. let limit = reason_is tests r reasons e in
      stays (say.Refused r) (plain_comes g made s.log seen newer (say.Refused r) refl refl limit (AreBytes-cons 0x46 (r ∷ []) (omega arith) (AreBytes-cons r [] (omega (arith, limit.1)) AreBytes-nil))))
      goes

  length-path : length t.path ≡ length seen
  length-path = ap length path ∙ length-entries seen

  length-log : length s.log ≡ length newer + length seen
  length-log = ap length is ∙ length-append newer seen

  all_log : AllByRecursion (EntryFits made) (newer ++ seen)
  all_log = subst (AllByRecursion (EntryFits made)) is stands.log

  all_newer : AllByRecursion (EntryFits made) newer
  all_newer = all-first (EntryFits made) newer seen all_log

  invoke_served : (n : ℕ) (o : Op) → RequestGoes g made me t (Invokes n o) → Gives (on_request s me (request_of g me t (Invokes n o)))
  invoke_served n o goes =
      let tag : Digest32 = tag_for g (invoke_text (record { client = me; seq = n; op = o })) in
      let x : Ordered = record { entry = record { client = me; seq = n; op = o }; tag = tag; sealed_then = sealed_count s } in
      let next : Server = ordered_next s me n o tag in
      let tests : List (ℕ × Bool) =
      (5, is_ready (member s me).stage && (nat_lt (member s me).last n && nat_le (length t.path) (size s)))
      ∷ (4, not (nat_eq (size s) 1048576))
      ∷ (2, not (nat_eq (size s - sealed_count s) 1024))
      ∷ (3, not (is_put o) || nat_le (weight s + op_weight o) 8388608)
      ∷ (1, nat_le ((size s + 1) - length t.path) 8192) ∷ [] in
      let answer : ToClient = say.Reply (top_seal s) (entries_above (length t.path) next.log) (part_for s.dictionary o) in
      let told_is : entries_above (length t.path) (x ∷ s.log) ≡ told (x ∷ newer) =
      ap (λ k. entries_above k (x ∷ s.log)) length-path ∙ ap (λ l. entries_above (length seen) (x ∷ l)) is ∙ above-told (x ∷ newer) seen in
      let new_fits : EntryFits made x = record {
        spelled = record { client = (above, omega (arith, group.count)); seq = goes.spelled.1.0; op = goes.spelled.1.1.0 };
        tag = length-tag g.key (invoke_text (record { client = me; seq = n; op = o }));
        tag_bytes = tag_bytes g.key (invoke_text (record { client = me; seq = n; op = o }));
        text = goes.texts (invoke_text (record { client = me; seq = n; op = o })) (inl refl);
      } in
      refuses tests (answer_with_change next answer)
      ((omega arith, omega arith), ((omega arith, omega arith), ((omega arith, omega arith), ((omega arith, omega arith), ((omega arith, omega arith), tt)))))
      (λ ok.
      let p5 = test_passed (is_ready (member s me).stage && (nat_lt (member s me).last n && nat_le (length t.path) (size s))) 5 _ ok in
      let p4 = test_passed (not (nat_eq (size s) 1048576)) 4 _ p5.1 in
      let p2 = test_passed (not (nat_eq (size s - sealed_count s) 1024)) 2 _ p4.1 in
      let p3 = test_passed (not (is_put o) || nat_le (weight s + op_weight o) 8388608) 3 _ p2.1 in
      let p1 = test_passed (nat_le ((size s + 1) - length t.path) 8192) 1 _ p3.1 in
      let full : (size s ≡ 1048576) → ⊥ = eqb-false (size s) 1048576 (not-true (nat_eq (size s) 1048576) p4.0) in
      let few : (size s + 1) - length t.path ≤ 8192 = leb-true _ _ p1.0 in
      record {
        new = x ∷ [];
        is = refl;
        server = record {
          log = (new_fits, stands.log);
          seals = all_weaker (SealFits g made s.log) (SealFits g made (x ∷ s.log)) (λ y h. seal-grows g made (x ∷ []) s.log y h) s.seals stands.seals;
          dictionary = stands.dictionary;
          contents = stands.contents;
          room = grown_room (length s.log) stands.room full;
        };
        answer = subst (λ ts. AnswerComes g made (x ∷ s.log) seen (x ∷ newer) (say.Reply (top_seal s) ts (part_for s.dictionary o))) (sym told_is)
            (reply_comes g made (x ∷ s.log) seen (x ∷ newer) [] (x ∷ newer) (top_seal s) (part_for s.dictionary o) refl
            (seal-grows g made (x ∷ []) s.log (top_seal s) (seal_fits g made s (sealed_count s) stands)) (sent_for s.dictionary stands.dictionary o).are_bytes (new_fits, all_newer)
            (omega arith) (few_new (length s.log) (length newer) (length seen) (length t.path) length-log length-path few));
      })
    where
      grown_room : (n : ℕ) → n ≤ 1048576 → (n ≡ 1048576 → ⊥) → suc n ≤ 1048576
      grown_room n h full = omega arith

      few_new : (n a b p : ℕ) → n ≡ a + b → p ≡ b → (n + 1) - p ≤ 8192 → suc a ≤ 8192
      few_new n a b p e f h = omega arith

  commit_served : (done : Bool) → Gives (on_request s me (request_of g me t (Commits done)))
  commit_served done =
      let next : Server = set_stage (with_commit s (length t.path) done (tag_for g (commit_text_on g t.path done))) me stage.Ready in
      let fit : ServerFits g made next = record { log = stands.log; seals = stands.seals; dictionary = stands.dictionary; room = stands.room; contents = stands.contents } in
      refuses ((5, is_open_at (length t.path) (member s me).stage) ∷ []) (answer_with_change next (turn next me)) ((omega arith, omega arith), tt)
      (λ ok. record { new = []; is = refl; server = fit; answer = turn_comes g made next me seen newer fit })

  poll_served : Gives (on_request s me (request_of g me t Polls))
  poll_served = refuses ((5, is_ready (member s me).stage) ∷ []) (answer_alone s (turn s me)) ((omega arith, omega arith), tt) (λ ok. stays (turn s me) (turn_comes g made s me seen newer stands))

  seal_served : RequestGoes g made me t Seals → Gives (on_request s me (request_of g me t Seals))
  seal_served goes =
      let text : List ℕ = seal_text_on g t.path t.sealed t.root in
      let x : Seal = record { position = t.sealed; root = digest t.root; tag = tag_for g text } in
      let next : Server = with_seal s x in
      let within : t.sealed ≤ length seen = omega (arith, fits.sealed, length-path) in
      let same : seal_text_on g t.path t.sealed t.root ≡ seal_text_on g (entries s.log) t.sealed t.root =
      ap (λ p. seal_text_on g p t.sealed t.root) path ∙ sym (seal_text-joined g newer seen t.sealed t.root within) ∙ ap (λ l. seal_text_on g (entries l) t.sealed t.root) (sym is) in
      let new_fits : SealFits g made s.log x = record {
        spelled = record {
          position = goes.spelled.0.1;
          root = fits.root;
          tag = length-tag g.key text;
          first = λ e. absurd (omega (arith, goes.spelled.0.0));
        };
        root_bytes = fits.root_bytes;
        tag_bytes = tag_bytes g.key text;
        within = omega (arith, length-log);
        text = λ higher. subst (IsIn made) same (goes.texts text (inl refl));
      } in
      let fit : ServerFits g made next = record {
        log = stands.log;
        seals = (new_fits, stands.seals);
        dictionary = applied_proper s.dictionary (ordered_at s t.sealed) (commit_at s t.sealed) stands.dictionary (λ o e. (entry_fits made s t.sealed o stands.log e).spelled);
        room = stands.room;
        contents = stands.contents;
      } in
      refuses ((5, is_ready (member s me).stage && (nat_eq t.sealed (sealed_count s + 1) && owns_committed me (ordered_at s t.sealed) (commit_at s t.sealed))) ∷ [])
      (answer_with_change next (turn next me)) ((omega arith, omega arith), tt)
      (λ ok. record { new = []; is = refl; server = fit; answer = turn_comes g made next me seen newer fit })

  sync_served : Gives (on_request s me (request_of g me t Syncs))
  sync_served =
      let e : ℕ = min (size s) (length t.path + 8192) in
      let x : Seal = seal_at_position s (min (sealed_count s) e) in
      let k : ℕ = size s - e in
      let few : k ≤ length newer = omega (arith, length-path, length-log) in
      let told_is : entries_above (length t.path) (front e s.log) ≡ told (drop k newer) =
      ap (λ n. entries_above n (drop k s.log)) length-path
      ∙ ap (λ l. entries_above (length seen) l) (ap (drop k) is ∙ drop-append-le k newer seen few)
      ∙ above-told (drop k newer) seen in
      refuses ((5, is_ready (member s me).stage && nat_le (length t.path) (size s)) ∷ []) (answer_alone s (say.Entries x (entries_above (length t.path) (front e s.log)))) ((omega arith, omega arith), tt)
      (λ ok. stays (say.Entries x (entries_above (length t.path) (front e s.log)))
      (subst (λ ts. AnswerComes g made s.log seen newer (say.Entries x ts)) (sym told_is)
      (entries_come g made s.log seen newer (take k newer) (drop k newer) x (sym (take-append-drop k newer)) (seal_fits g made s (min (sealed_count s) e) stands)
      (all_drop (EntryFits made) k newer all_newer) (omega (arith, length-drop k newer, length-path, length-log)))))

  -- a content is kept, or was, or there is no room
  kept_is : (content : List ℕ) → AreBytes content → length content ≤ 8388608 → (b c : Bool)
      → Gives (if b then answer_alone s say.Kept else answer_by_tests s ((7, c) ∷ []) (answer_with_change (record s { contents = content ∷ s.contents }) say.Kept))
  kept_is content bytes small true c = stays say.Kept (plain_comes g made s.log seen newer say.Kept refl refl tt (AreBytes-cons 0x47 [] (omega arith) AreBytes-nil))
  kept_is content bytes small false c =
      refuses ((7, c) ∷ []) (answer_with_change (record s { contents = content ∷ s.contents }) say.Kept) ((omega arith, omega arith), tt)
      (λ ok. record {
        new = [];
        is = refl;
        server = record { log = stands.log; seals = stands.seals; dictionary = stands.dictionary; room = stands.room; contents = ((small, bytes), stands.contents) };
        answer = plain_comes g made s.log seen newer say.Kept refl refl tt (AreBytes-cons 0x47 [] (omega arith) AreBytes-nil);
      })

  keep_served : (content : List ℕ) → RequestGoes g made me t (Keeps content) → Gives (on_request s me (request_of g me t (Keeps content)))
  keep_served content goes =
      refuses ((5, is_ready (member s me).stage && same_mode s.mode mode.Objects) ∷ []) _ ((omega arith, omega arith), tt)
      (λ ok. kept_is content goes.content goes.spelled (is_kept s.contents (hash (content_text content))) (not (nat_le 1048576 (length s.contents)) && nat_le (sum_by length s.contents + length content) 1073741824))

  fetch_served : (h : List ℕ) → Gives (on_request s me (request_of g me t (Fetches h)))
  fetch_served h =
      refuses ((5, is_ready (member s me).stage && same_mode s.mode mode.Objects) ∷ []) (answer_alone s (content_with s.contents h)) ((omega arith, omega arith), tt)
      (λ ok. stays (content_with s.contents h) (by_found (find (λ c. bytes_eq (hash (content_text c)) h) s.contents) (found_all (λ c. bytes_eq (hash (content_text c)) h) s.contents stands.contents)))
    where
      found_all : (f : List ℕ → Bool) (xs : List (List ℕ)) → AllByRecursion IsContent xs → (c : List ℕ) → find f xs ≡ Some c → IsContent c
      found_all f [] all c e = absurd cc
      found_all f (x ∷ xs) all c e = elim (f x) as (λ b. (if b then Some x else find f xs) ≡ Some c → IsContent c) [
        | true ↦ λ k. let same : x ≡ c = cc in subst IsContent same all.0
        | false ↦ λ k. found_all f xs all.1 c k
      ] e

      by_found : (o : Option (List ℕ)) → ((c : List ℕ) → o ≡ Some c → IsContent c) → AnswerComes g made s.log seen newer (elim o [ Some c ↦ say.Content c | None ↦ say.Absent ])
      by_found (Some c) each = plain_comes g made s.log seen newer (say.Content c) refl refl (each c refl).0 (AreBytes-cons 0x48 c (omega arith) (each c refl).1)
      by_found None each = plain_comes g made s.log seen newer say.Absent refl refl tt (AreBytes-cons 0x4a [] (omega arith) AreBytes-nil)

  -- a request that is read as it was sent
  request_served : (sending : Sending) → RequestGoes g made me t sending → Gives (serve_read s me (Some (request_of g me t sending)))
  request_served (Invokes n o) goes = refuses ((6, is_member s me) ∷ []) (on_request s me (request_of g me t (Invokes n o))) ((omega arith, omega arith), tt) (λ ok. invoke_served n o goes)
  request_served (Commits done) goes = refuses ((6, is_member s me) ∷ []) (on_request s me (request_of g me t (Commits done))) ((omega arith, omega arith), tt) (λ ok. commit_served done)
  request_served Polls goes = refuses ((6, is_member s me) ∷ []) (on_request s me (request_of g me t Polls)) ((omega arith, omega arith), tt) (λ ok. poll_served)
  request_served Seals goes = refuses ((6, is_member s me) ∷ []) (on_request s me (request_of g me t Seals)) ((omega arith, omega arith), tt) (λ ok. seal_served goes)
  request_served (Keeps content) goes = refuses ((6, is_member s me) ∷ []) (on_request s me (request_of g me t (Keeps content))) ((omega arith, omega arith), tt) (λ ok. keep_served content goes)
  request_served (Fetches h) goes = refuses ((6, is_member s me) ∷ []) (on_request s me (request_of g me t (Fetches h))) ((omega arith, omega arith), tt) (λ ok. fetch_served h)
  request_served Syncs goes = refuses ((6, is_member s me) ∷ []) (on_request s me (request_of g me t Syncs)) ((omega arith, omega arith), tt) (λ ok. sync_served)

  pub payload_served : (sending : Sending) → RequestGoes g made me t sending → Gives (serve s me (request_text (request_of g me t sending)))
  unfolding serve
  payload_served sending goes = subst (λ r. Gives (serve_read s me r)) (sym (request_again (request_of g me t sending) goes.spelled)) (request_served sending goes)
