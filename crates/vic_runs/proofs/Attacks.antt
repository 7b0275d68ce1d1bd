-- What a hostile server keeps and answers is bytes, whatever requests of bytes come.
use Rattle.std.proofs.Common.{ℕ, zero, suc, ◌-◌, ◌*◌, ◌<◌, ◌≤◌, Bool, true, false, List, [], ◌∷◌, length, take, Option, Some, None, sym, subst, arith}
use Rattle.std.specs.Prelude.{if◌then◌else◌, nat_eq, nat_le, slice_get, slice_set, reverse, drop}
use Rattle.std.specs.List.{AllByRecursion}
use Rattle.std.proofs.lemmas.List.{reverse-append}
use Rattle.vic_dict.specs.Lists.{AreBytes}
use Rattle.vic_dict.specs.declared.op.Op.{Op}
use Rattle.vic_dict.specs.Dictionary.{Dictionary, IsProper}
use Rattle.vic_dict.proofs.ByteLists.{AreBytes-nil, AreBytes-cons, AreBytes-take}
use Rattle.vic_wire.specs.declared.message.Tagged.{Tagged}
use Rattle.vic_wire.specs.declared.message.ToClient.{ToClient}
use Rattle.vic_wire.specs.declared.message.ToClient.TheVariants as say
use Rattle.vic_wire.specs.Bits.{is_odd}
use Rattle.vic_laws.proofs.Words.{all_append}
use Rattle.vic_laws.proofs.Paths.{all_drop}
use Rattle.vic_honest.proofs.SentParts.{sent_for, sent_bare}
use Rattle.vic_honest.proofs.Spoken.{TaggedBytes}
use Rattle.vic_order.specs.Order.{Server, serve}
use Rattle.vic_attacks.specs.declared.HostileKind.{HostileKind}
use Rattle.vic_attacks.specs.declared.HostileKind.TheVariants as kind
use Rattle.vic_order.specs.Next.{next_op}
use Rattle.vic_order.specs.Scenes.{or_none}
use Rattle.vic_attacks.specs.Hostile.{Hostile, hostile_from, number, is_late, or_server, kept_server, or_dictionary, past_dictionary, told_to, with_told, answer_as_is, entries_with_swap, with_swap, empty_part, with_empty_part, part_or_bare, last_op, with_part_of, without_last, by_going, by_going_beside_kept, by_kept, by_last_answer, by_late_request, is_replay, by_early_request, by_kind}
use Rattle.vic_runs.specs.Reached.{ServerHolds, IfThere, HostileHolds}
use Rattle.vic_runs.proofs.Lists.{all-set, all-replicate}
use Rattle.vic_runs.proofs.Keeping.{SpeaksBytes, spoken-bytes, holds-serve}

-- ---- answers that are changed

-- a change of answers that leaves bytes
abbrev LeavesBytes : (ToClient → ToClient) → Type 0
LeavesBytes change = (a : ToClient) → SpeaksBytes a → SpeaksBytes (change a)

answer_as_is-bytes : LeavesBytes answer_as_is
answer_as_is-bytes a h = h

all-take : {X : Type 0} (P : X → Type 0) (n : ℕ) (xs : List X) → AllByRecursion P xs → AllByRecursion P (take n xs)
all-take P zero xs h = tt
all-take P (suc n) [] h = tt
all-take P (suc n) (x ∷ xs) h = (h.0, all-take P n xs h.1)

all-reverse : {X : Type 0} (P : X → Type 0) (xs : List X) → AllByRecursion P xs → AllByRecursion P (reverse xs)
all-reverse P [] h = tt
all-reverse P (x ∷ xs) h = subst (AllByRecursion P) (sym (reverse-append (x ∷ []) xs)) (all_append P (reverse xs) (x ∷ []) (all-reverse P xs h.1) (h.0, tt))

entries_with_swap-bytes : (ts : List Tagged) → AllByRecursion TaggedBytes ts → AllByRecursion TaggedBytes (entries_with_swap ts)
entries_with_swap-bytes ts h =
    all_append TaggedBytes (reverse (take (length ts - 1) ts)) (drop (length ts - 1) ts) (all-reverse TaggedBytes (take (length ts - 1) ts) (all-take TaggedBytes (length ts - 1) ts h))
    (all_drop TaggedBytes (length ts - 1) ts h)

swap-bytes : LeavesBytes with_swap
swap-bytes say.Hi h = h
swap-bytes (say.Reply x ts part) h = (h.0, (entries_with_swap-bytes ts h.1.0, h.1.1))
swap-bytes say.Wait h = h
swap-bytes (say.Update x part) h = h
swap-bytes (say.Entries x ts) h = h
swap-bytes (say.Refused r) h = h
swap-bytes say.Kept h = h
swap-bytes (say.Content content) h = h
swap-bytes say.Gone h = h
swap-bytes say.Absent h = h

empty-bytes : AreBytes empty_part
empty-bytes = AreBytes-cons 1 (0 ∷ []) (omega arith) (AreBytes-cons 0 [] (omega arith) AreBytes-nil)

empty_part-bytes : LeavesBytes with_empty_part
empty_part-bytes say.Hi h = h
empty_part-bytes (say.Reply x ts part) h = (h.0, (h.1.0, empty-bytes))
empty_part-bytes say.Wait h = h
empty_part-bytes (say.Update x part) h = (h.0, empty-bytes)
empty_part-bytes (say.Entries x ts) h = h
empty_part-bytes (say.Refused r) h = h
empty_part-bytes say.Kept h = h
empty_part-bytes (say.Content content) h = h
empty_part-bytes say.Gone h = h
empty_part-bytes say.Absent h = h

-- a part of a proper dictionary
part-bytes : (d : Dictionary) → IsProper d → (o : Option Op) → AreBytes (part_or_bare d o)
part-bytes d proper (Some o) = (sent_for d proper o).are_bytes
part-bytes d proper None = (sent_bare d proper).are_bytes

part_of-bytes : (d : Dictionary) → IsProper d → (next : Option Op) → LeavesBytes (with_part_of d next)
part_of-bytes d proper next say.Hi h = h
part_of-bytes d proper next (say.Reply x ts part) h = (h.0, (h.1.0, part-bytes d proper (last_op ts)))
part_of-bytes d proper next say.Wait h = h
part_of-bytes d proper next (say.Update x part) h = (h.0, part-bytes d proper next)
part_of-bytes d proper next (say.Entries x ts) h = h
part_of-bytes d proper next (say.Refused r) h = h
part_of-bytes d proper next say.Kept h = h
part_of-bytes d proper next (say.Content content) h = h
part_of-bytes d proper next say.Gone h = h
part_of-bytes d proper next say.Absent h = h

-- ---- what is kept

-- a server that begins, of whatever kind
pub holds-from : (k : HostileKind) (n : ℕ) (s : Server) → ServerHolds s → HostileHolds (hostile_from k n s)
holds-from k n s h = record { going = h; kept = tt; past = tt; told = all-replicate (IfThere AreBytes) 64 None tt }

or_server-holds : (o : Option Server) (s : Server) → IfThere ServerHolds o → ServerHolds s → ServerHolds (or_server o s)
or_server-holds (Some t) s h k = h
or_server-holds None s h k = k

kept-holds : (h : Hostile) → HostileHolds h → ServerHolds (kept_server h)
kept-holds h holds = or_server-holds h.kept h.going holds.kept holds.going

or_dictionary-proper : (o : Option Dictionary) (d : Dictionary) → IfThere IsProper o → IsProper d → IsProper (or_dictionary o d)
or_dictionary-proper (Some e) d h k = h
or_dictionary-proper None d h k = k

past-proper : (h : Hostile) → HostileHolds h → IsProper (past_dictionary h)
past-proper h holds = or_dictionary-proper h.past h.going.dictionary holds.past holds.going.dictionary

told-read : (told : List (Option (List ℕ))) (k : ℕ) → AllByRecursion (IfThere AreBytes) told → IfThere AreBytes (or_none (slice_get told k))
told-read [] k all = tt
told-read (o ∷ os) zero all = all.0
told-read (o ∷ os) (suc k) all = told-read os k all.1

there-either : {X : Type 0} (P : X → Type 0) (b : Bool) (o : Option X) → IfThere P o → IfThere P (if b then None else o)
there-either P true o h = tt
there-either P false o h = h

told_to-bytes : (told : List (Option (List ℕ))) (who : ℕ) → AllByRecursion (IfThere AreBytes) told → IfThere AreBytes (told_to told who)
told_to-bytes told who all = there-either AreBytes (nat_eq who 0) (or_none (slice_get told (who - 1))) (told-read told (who - 1) all)

all-either : {X : Type 0} (P : X → Type 0) (b : Bool) (xs ys : List X) → AllByRecursion P xs → AllByRecursion P ys → AllByRecursion P (if b then xs else ys)
all-either P true xs ys h k = h
all-either P false xs ys h k = k

with_told-bytes : (told : List (Option (List ℕ))) (who : ℕ) (bytes : List ℕ) → AllByRecursion (IfThere AreBytes) told → AreBytes bytes → AllByRecursion (IfThere AreBytes) (with_told told who bytes)
with_told-bytes told who bytes all h = all-either (IfThere AreBytes) (nat_eq who 0) told (slice_set told (who - 1) (Some bytes)) all (all-set (IfThere AreBytes) told (who - 1) (Some bytes) all h)

-- ---- who serves

-- it answers in bytes, and keeps bytes
abbrev KeepsBytes : List ℕ × Hostile → Type 0
KeepsBytes r = HostileHolds r.1 × AreBytes r.0

kept-either : (b : Bool) (one other : List ℕ × Hostile) → KeepsBytes one → KeepsBytes other → KeepsBytes (if b then one else other)
kept-either true one other h k = h
kept-either false one other h k = k

module _ (who : ℕ) (payload : List ℕ) (above : 0 < who) (upto : who ≤ 64) (bytes : AreBytes payload) where
  going-keeps : (change : ToClient → ToClient) → LeavesBytes change → (h : Hostile) → HostileHolds h → KeepsBytes (by_going change h who payload)
  going-keeps change leaves h holds =
      let a = holds-serve h.going who payload holds.going above upto bytes in
      (record { going = a.0; kept = holds.kept; past = holds.past; told = holds.told }, spoken-bytes (change (serve h.going who payload).answer) (leaves (serve h.going who payload).answer a.1))

  beside-keeps : (h : Hostile) → HostileHolds h → KeepsBytes (by_going_beside_kept h who payload)
  beside-keeps h holds = going-keeps answer_as_is answer_as_is-bytes (record h { kept = Some (kept_server h) }) (record { going = holds.going; kept = kept-holds h holds; past = holds.past; told = holds.told })

  kept-keeps : (h : Hostile) → HostileHolds h → KeepsBytes (by_kept h who payload)
  kept-keeps h holds =
      let a = holds-serve (kept_server h) who payload (kept-holds h holds) above upto bytes in
      (record { going = holds.going; kept = a.0; past = holds.past; told = holds.told }, spoken-bytes (serve (kept_server h) who payload).answer a.1)

  by_last_answer-keeps : (o : Option (List ℕ)) → IfThere AreBytes o → (h : Hostile) → HostileHolds h → KeepsBytes (by_last_answer o h who payload)
  by_last_answer-keeps (Some text) there h holds = (record { going = holds.going; kept = holds.kept; past = holds.past; told = holds.told }, there)
  by_last_answer-keeps None there h holds = going-keeps answer_as_is answer_as_is-bytes h holds

  truncate-keeps : (r : List ℕ × Hostile) → KeepsBytes r → KeepsBytes (without_last r.0, r.1)
  truncate-keeps r h = (h.0, AreBytes-take (length r.0 - 1) r.0 h.1)

  by_late_request-keeps : (k : HostileKind) (h : Hostile) → HostileHolds h → KeepsBytes (by_late_request k h who payload)
  by_late_request-keeps kind.Honest h holds = going-keeps answer_as_is answer_as_is-bytes h holds
  by_late_request-keeps kind.Rollback h holds = kept-either (nat_le (number h) (2 * h.after)) (by_going_beside_kept h who payload) (by_kept h who payload) (beside-keeps h holds) (kept-keeps h holds)
  by_late_request-keeps kind.Fork h holds = kept-either (is_odd who) (by_going_beside_kept h who payload) (by_kept h who payload) (beside-keeps h holds) (kept-keeps h holds)
  by_late_request-keeps kind.Replay h holds = by_last_answer-keeps (told_to h.told who) (told_to-bytes h.told who holds.told) h holds
  by_late_request-keeps kind.Swap h holds = going-keeps with_swap swap-bytes h holds
  by_late_request-keeps kind.BadProof h holds = going-keeps with_empty_part empty_part-bytes h holds
  by_late_request-keeps kind.Stale h holds =
      let d : Dictionary = past_dictionary h in
      let next : Option Op = next_op (serve h.going who payload).next in
      going-keeps (with_part_of d next) (part_of-bytes d (past-proper h holds) next) (record h { past = Some d }) (record { going = holds.going; kept = holds.kept; past = past-proper h holds; told = holds.told })
  by_late_request-keeps kind.Truncate h holds = truncate-keeps (by_going answer_as_is h who payload) (going-keeps answer_as_is answer_as_is-bytes h holds)

  by_early_request-keeps : (h : Hostile) → HostileHolds h → KeepsBytes (by_early_request h who payload)
  by_early_request-keeps h holds =
      let r : List ℕ × Hostile = by_going answer_as_is h who payload in
      let kept : KeepsBytes r = going-keeps answer_as_is answer_as_is-bytes h holds in
      elim (is_replay h.kind) as (λ b. KeepsBytes (r.0, if b then record r.1 { told = with_told h.told who r.0 } else r.1)) [
        | true ↦ (record { going = kept.0.going; kept = kept.0.kept; past = kept.0.past; told = with_told-bytes h.told who r.0 holds.told kept.1 }, kept.1)
        | false ↦ kept
      ]

  -- a hostile server that keeps bytes and is asked in bytes answers in bytes, and keeps bytes
  pub holds-by_kind : (h : Hostile) (seat : ℕ) → HostileHolds h → HostileHolds (by_kind h seat who payload).1 × AreBytes (by_kind h seat who payload).0
  holds-by_kind h seat holds = kept-either (is_late h) (by_late_request h.kind h who payload) (by_early_request h who payload) (by_late_request-keeps h.kind h holds) (by_early_request-keeps h holds)
