-- What a sync's answer tells, and to whom the turn comes, where only calls and contents are refused.
use Rattle.std.specs.Prelude.{◌≡◌, ℕ, ◌+◌, ◌<◌, ◌≤◌, ◌⊎◌, Bool, true, false, ◌&&◌, List, [], ◌∷◌, ◌++◌, length, ◌-◌, take, Option, Some, None, nat_eq, nat_le, nat_lt, if◌then◌else◌, min}
use Rattle.std.proofs.Common.{refl, ap, subst, sym, ◌∙◌, inl, inr, arith, lt-ltb, le-ltb, leb-true, eqb-true, eq-eqb, true≢false}
use Rattle.std.proofs.lemmas.Bool.{cases_lt, and_parts}
use Rattle.vic_dict.specs.declared.op.Entry.{Entry}
use Rattle.vic_dict.specs.Lists.{front}
use Rattle.vic_wire.specs.declared.message.ToServer.{ToServer}
use Rattle.vic_wire.specs.declared.message.ToServer.TheVariants as ask
use Rattle.vic_wire.specs.declared.message.ToClient.TheVariants as say
use Rattle.vic_wire.specs.Hashes.{Group}
use Rattle.vic_wire.specs.Reading.{read_request}
use Rattle.vic_rules.specs.Client.{onto, first_failing}
use Rattle.vic_order.specs.Order.{Ordered, Server, Answered, tagged_entry, entries_above, answer_alone, answer_with_change, answer_by_tests, answer_unless_refused, size, sealed_count, top_seal, member, is_ready, is_open_at, is_member, owns_committed, ordered_at, commit_at, turn, turn_on, update_part, with_commit, with_seal, set_stage, seal_at_position, serve, serve_read}
use Rattle.vic_order.specs.declared.Stage.TheVariants as stage
use Rattle.vic_order.specs.Fates.{entries}
use Rattle.vic_laws.proofs.Words.{some_same, none_is_some}
use Rattle.vic_laws.proofs.Growth.{front_whole, length-front}
use Rattle.vic_honest.specs.Claims.{RefusedAtLimit, ContentRefused, IsSyncedSo, AsksTurn, IsTurnedSo}
use Rattle.vic_honest.proofs.Words.{front-joined, entries-joined, length-entries, onto-last}
use Rattle.std.proofs.lemmas.List.{take-append-drop}

-- ---- what isn't refused is answered

-- the server refuses nothing with this payload but a call or a content
abbrev OnlyCalls : Group → Server → ℕ → List ℕ → Type 0
OnlyCalls g s me payload = (r : ℕ) → (serve s me payload).answer ≡ say.Refused r → RefusedAtLimit s payload r ⊎ ContentRefused g s payload r

guarded_passes : (s : Server) (tests : List (ℕ × Bool)) (a : Answered) → ((r : ℕ) → (answer_by_tests s tests a).answer ≡ say.Refused r → ⊥) → (answer_by_tests s tests a ≡ a) × (first_failing tests ≡ None)
guarded_passes s tests a never = now (first_failing tests) refl
  where
    now : (o : Option ℕ) → first_failing tests ≡ o → (answer_by_tests s tests a ≡ a) × (first_failing tests ≡ None)
    now None e = (ap (λ o. answer_unless_refused s o a) e, e)
    now (Some r) e = absurd (never r (ap (λ o. (answer_unless_refused s o a).answer) e))

never_call : (g : Group) (s : Server) (me : ℕ) (payload : List ℕ) (r : ToServer) → read_request payload ≡ Some r → OnlyCalls g s me payload → ((known seq : ℕ) (o : _) (tag : _) → r ≡ ask.Invoke known seq o tag → ⊥)
    → ((c : List ℕ) → r ≡ ask.Keep c → ⊥) → (n : ℕ) → (serve_read s me (Some r)).answer ≡ say.Refused n → ⊥
unfolding serve
never_call g s me payload r read only other content n e =
    elim (only n (ap (λ o. (serve_read s me o).answer) read ∙ e)) [
      | inl l ↦ other l.known l.seq l.op l.tag (some_same (sym read ∙ l.is))
      | inr c ↦ content c.content (some_same (sym read ∙ c.is))
    ]

-- a request of a member, answered as its case says
module _ (s : Server) (me : ℕ) (payload : List ℕ) where
  served_as : (r : ToServer) → read_request payload ≡ Some r → serve s me payload ≡ serve_read s me (Some r)
  unfolding serve
  served_as r read = ap (serve_read s me) read

  inner_of : (a : Answered) → ((n : ℕ) → (answer_by_tests s ((6, is_member s me) ∷ []) a).answer ≡ say.Refused n → ⊥) → answer_by_tests s ((6, is_member s me) ∷ []) a ≡ a
  inner_of a never = (guarded_passes s ((6, is_member s me) ∷ []) a never).0

  -- both guards pass
  passed : (test : Bool) (a : Answered) → ((n : ℕ) → (answer_by_tests s ((6, is_member s me) ∷ []) (answer_by_tests s ((5, test) ∷ []) a)).answer ≡ say.Refused n → ⊥)
      → (answer_by_tests s ((6, is_member s me) ∷ []) (answer_by_tests s ((5, test) ∷ []) a) ≡ a) × (first_failing ((5, test) ∷ []) ≡ None)
  passed test a never =
      let outer = inner_of (answer_by_tests s ((5, test) ∷ []) a) never in
      let inner = guarded_passes s ((5, test) ∷ []) a (λ n e. never n (ap (λ (x : Answered). x.answer) outer ∙ e)) in
      (outer ∙ inner.0, inner.1)

-- ---- a sync

-- the entries above a position, put onto those up to it, are all
above_onto : (known : ℕ) (log : List Ordered) → known ≤ length log → onto (entries_above known log) (front known (entries log)) ≡ entries log
unfolding entries_above
above_onto known [] le = front_whole known [] (omega arith)
above_onto known (o ∷ log) le = now (cases_lt known (length (o ∷ log))) (above_onto known log)
  where
    now : (known < length (o ∷ log)) ⊎ (length (o ∷ log) ≤ known) → (known ≤ length log → onto (entries_above known log) (front known (entries log)) ≡ entries log)
        → onto (if nat_lt known (length (o ∷ log)) then entries_above known log ++ tagged_entry o ∷ [] else []) (front known (entries (o ∷ log))) ≡ entries (o ∷ log)
    now (inl below) before =
        ap (λ (b : Bool). onto (if b then entries_above known log ++ tagged_entry o ∷ [] else []) (front known (entries (o ∷ log)))) (lt-ltb known (length (o ∷ log)) below)
        ∙ (onto-last (entries_above known log) (tagged_entry o) (front known (entries (o ∷ log)))
        ∙ (ap (λ (p : List Entry). o.entry ∷ onto (entries_above known log) p) (front-joined known (o.entry ∷ []) (entries log) (omega (arith, below, length-entries log)))
        ∙ ap (λ (p : List Entry). o.entry ∷ p) (before (omega (arith, below)))))
    now (inr whole) before =
        ap (λ (b : Bool). onto (if b then entries_above known log ++ tagged_entry o ∷ [] else []) (front known (entries (o ∷ log)))) (le-ltb known (length (o ∷ log)) whole)
        ∙ front_whole known (entries (o ∷ log)) (omega (arith, whole, length-entries log))

-- the front of a front
front_front : (known e : ℕ) (log : List Ordered) → known ≤ e → e ≤ length log → front known (entries (front e log)) ≡ front known (entries log)
front_front known e log le within =
    let size_is : length (front e log) ≡ e = length-front e log within in
    sym (ap (front known) (ap entries (sym (take-append-drop (length log - e) log)) ∙ entries-joined (take (length log - e) log) (front e log))
    ∙ front-joined known (entries (take (length log - e) log)) (entries (front e log)) (omega (arith, le, size_is, length-entries (front e log))))

test_passed : (b : Bool) → first_failing ((5, b) ∷ []) ≡ None → b ≡ true
test_passed true e = refl
test_passed false e = absurd (none_is_some (sym e))

pub syncs_are_answered : (g : Group) (s : Server) (me : ℕ) (payload : List ℕ) → OnlyCalls g s me payload → (known : ℕ) → read_request payload ≡ Some (ask.Sync known) → IsSyncedSo s known (serve s me payload).answer
syncs_are_answered g s me payload only known read =
    let e : ℕ = min (size s) (known + 8192) in
    let a : Answered = answer_alone s (say.Entries (seal_at_position s (min (sealed_count s) e)) (entries_above known (front e s.log))) in
    let never = never_call g s me payload (ask.Sync known) read only (λ k n o t f. absurd cc) (λ c f. absurd cc) in
    let p = passed s me payload (is_ready (member s me).stage && nat_le known (size s)) a never in
    let within = leb-true known (size s) (and_parts (is_ready (member s me).stage) (nat_le known (size s)) (test_passed _ p.1)).1 in
    let long : length (front e s.log) ≡ e = length-front e s.log (omega arith) in
    record {
      seal = _;
      told = entries_above known (front e s.log);
      is = ap (λ (x : Answered). x.answer) (served_as s me payload (ask.Sync known) read ∙ p.0);
      gives = ap (onto (entries_above known (front e s.log))) (sym (front_front known e s.log (omega (arith, within)) (omega arith)))
          ∙ above_onto known (front e s.log) (omega (arith, within, long));
    }

-- ---- the turn

turn_is : (s : Server) (me : ℕ) → IsTurnedSo s me (turn s me)
turn_is s me = now (ordered_at s (sealed_count s + 1)) (commit_at s (sealed_count s + 1)) refl refl
  where
    now : (o : Option Ordered) (c : Option Bool) → ordered_at s (sealed_count s + 1) ≡ o → commit_at s (sealed_count s + 1) ≡ c → IsTurnedSo s me (turn_on s me o c)
    now None c at by = record { comes = λ h. absurd (none_is_some (sym at ∙ h.there)); waits = λ none. refl }
    now (Some o) None at by = record { comes = λ h. absurd (none_is_some (sym by ∙ h.committed)); waits = λ none. refl }
    now (Some o) (Some done) at by = owner (nat_eq o.entry.client me) refl
      where
        owner : (b : Bool) → nat_eq o.entry.client me ≡ b → IsTurnedSo s me (if b then say.Update (top_seal s) (update_part s.dictionary o.entry.op done) else say.Wait)
        owner true e = record {
          comes = λ h. (update_part s.dictionary o.entry.op done, refl);
          waits = λ none. absurd (none (record { first = o; there = at; own = eqb-true o.entry.client me e; done = done; committed = by }));
        }
        owner false e = record {
          comes = λ h.
              let same : h.first ≡ o = some_same (sym h.there ∙ at) in
              absurd (true≢false (sym (eq-eqb o.entry.client me (ap (λ (x : Ordered). x.entry.client) (sym same) ∙ h.own)) ∙ e));
          waits = λ none. refl;
        }

turned_by : (s : Server) (me : ℕ) (a : Answered) (next : Server) → a.next ≡ next → a.answer ≡ turn next me → IsTurnedSo a.next me a.answer
turned_by s me a next e f = subst (IsTurnedSo a.next me) (ap (λ (t : Server). turn t me) e ∙ sym f) (turn_is a.next me)

pub turns_are_told : (g : Group) (s : Server) (me : ℕ) (payload : List ℕ) → OnlyCalls g s me payload → (r : ToServer) → read_request payload ≡ Some r → AsksTurn r
    → IsTurnedSo (serve s me payload).next me (serve s me payload).answer
turns_are_told g s me payload only (ask.Hello kind client) read asks = absurd asks
turns_are_told g s me payload only (ask.Invoke known seq o tag) read asks = absurd asks
turns_are_told g s me payload only (ask.Commit position done tag) read asks =
    let next : Server = set_stage (with_commit s position done tag) me stage.Ready in
    let never = never_call g s me payload (ask.Commit position done tag) read only (λ k n o t f. absurd cc) (λ c f. absurd cc) in
    let p = passed s me payload (is_open_at position (member s me).stage) (answer_with_change next (turn next me)) never in
    let is = served_as s me payload (ask.Commit position done tag) read ∙ p.0 in
    turned_by s me (serve s me payload) next (ap (λ (x : Answered). x.next) is) (ap (λ (x : Answered). x.answer) is)
turns_are_told g s me payload only ask.Poll read asks =
    let never = never_call g s me payload ask.Poll read only (λ k n o t f. absurd cc) (λ c f. absurd cc) in
    let p = passed s me payload (is_ready (member s me).stage) (answer_alone s (turn s me)) never in
    let is = served_as s me payload ask.Poll read ∙ p.0 in
    turned_by s me (serve s me payload) s (ap (λ (x : Answered). x.next) is) (ap (λ (x : Answered). x.answer) is)
turns_are_told g s me payload only (ask.Seal position root tag) read asks =
    let next : Server = with_seal s (record { position = position; root = root; tag = tag }) in
    let never = never_call g s me payload (ask.Seal position root tag) read only (λ k n o t f. absurd cc) (λ c f. absurd cc) in
    let p = passed s me payload (is_ready (member s me).stage && (nat_eq position (sealed_count s + 1) && owns_committed me (ordered_at s position) (commit_at s position))) (answer_with_change next (turn next me)) never in
    let is = served_as s me payload (ask.Seal position root tag) read ∙ p.0 in
    turned_by s me (serve s me payload) next (ap (λ (x : Answered). x.next) is) (ap (λ (x : Answered). x.answer) is)
turns_are_told g s me payload only (ask.Sync known) read asks = absurd asks
turns_are_told g s me payload only (ask.Keep content) read asks = absurd asks
turns_are_told g s me payload only (ask.Fetch hash) read asks = absurd asks
turns_are_told g s me payload only ask.Bye read asks = absurd asks
