-- What is found in a group with objects is a reference of a content that is kept.
use Rattle.std.proofs.Common.{◌≡◌, ℕ, ◌+◌, ◌<◌, ◌^◌, Bool, true, false, cond, List, [], ◌∷◌, ◌++◌, length, drop, Option, Some, None, refl, sym, ap, subst, ◌∙◌, length-append}
use Rattle.std.specs.Prelude.{if◌then◌else◌}
use Rattle.std.specs.List.{AllByRecursion}
use Rattle.std.specs.Str.{bytes_eq}
use Rattle.std.specs.Int.{w32, to_be_bytes, from_be_bytes}
use Rattle.std.specs.FinMap as map
use Rattle.std.specs.Ordering.{nat_cmp}
use Rattle.std.specs.Cmp.Lexicographic.{slice_cmp}
use Rattle.std.proofs.lemmas.Bool.{eq-eqb}
use Rattle.std.proofs.lemmas.Nat.{from_be_bytes-to_be_bytes_4}
use Rattle.vic_dict.specs.declared.op.Op.{Op}
use Rattle.vic_dict.specs.declared.op.Op.TheVariants as op
use Rattle.vic_dict.specs.declared.op.Answer.TheVariants as answer
use Rattle.vic_dict.specs.declared.op.Outcome.{Outcome}
use Rattle.vic_dict.specs.declared.op.Outcome.TheVariants as outcome
use Rattle.vic_dict.specs.Dictionary.{Dictionary, nothing, after, reply, answer_of_get, answer_of_del}
use Rattle.vic_wire.specs.declared.message.Digest32.{Digest32}
use Rattle.vic_rules.specs.declared.object.Phase.{Phase}
use Rattle.vic_rules.specs.declared.object.Phase.TheVariants as phase
use Rattle.vic_rules.specs.declared.object.Next.TheVariants as next
use Rattle.vic_rules.specs.Objects.{ObjectStep, after_decision, is_reference, hash_in, length_in, reference_text}
use Rattle.vic_rules.specs.Client.{is_done, decided_outcome, in_the_way, finds_reference}
use Rattle.vic_order.specs.Order.{Ordered}
use Rattle.vic_order.specs.Fates.{entries, fate, dictionary_by}
use Rattle.vic_honest.proofs.Deciding.{dictionary-next}
use Rattle.vic_honest.proofs.Referred.{IsKept, Refers}
use Rattle.vic_laws.proofs.Contents.{first_part}
use Rattle.vic_laws.proofs.LastPut.{after_put, after_del}

-- a value that is a reference of a content that is kept
abbrev pub IsGood : List (List ℕ) → List ℕ → Type 0
IsGood contents v = (is_reference v ≡ true) × IsKept contents (hash_in v) (length_in v)

by_op : (contents : List (List ℕ)) (d : Dictionary) (k v : List ℕ) (o : Op) → Refers contents o → (map.get d k ≡ Some v → IsGood contents v) → map.get (after d o) k ≡ Some v → IsGood contents v
by_op contents d k v (op.Put q u) r rest gets = by_test (bytes_eq k q) (sym (after_put d q u k) ∙ gets)
  where
    by_test : (b : Bool) → cond b (Some u) (map.get d k) ≡ Some v → IsGood contents v
    by_test true e = let same : u ≡ v = cc in subst (IsGood contents) same r
    by_test false e = rest e
by_op contents d k v (op.Get q) r rest gets = rest gets
by_op contents d k v (op.Del q) r rest gets = by_test (bytes_eq k q) (sym (after_del d q k) ∙ gets)
  where
    by_test : (b : Bool) → cond b None (map.get d k) ≡ Some v → IsGood contents v
    by_test true e = absurd cc
    by_test false e = rest e
by_op contents d k v (op.List p) r rest gets = rest gets

no_key : (k v : List ℕ) → map.get (dictionary_by []) k ≡ Some v → ⊥
unfolding dictionary_by
no_key k v e = let none : map.get nothing k ≡ None = map.get-empty (slice_cmp nat_cmp) k in let wrong : ◌≡◌ {A = Option (List ℕ)} None (Some v) = sym none ∙ e in absurd cc

got_good : (contents : List (List ℕ)) (log : List Ordered) → AllByRecursion (λ o. Refers contents o.entry.op) log → (k v : List ℕ) → map.get (dictionary_by log) k ≡ Some v → IsGood contents v
got_good contents [] all k v gets = absurd (no_key k v gets)
got_good contents (o ∷ below) all k v gets = by_done (is_done (fate o below)) (sym (ap (λ d. map.get d k) (dictionary-next o below)) ∙ gets) (got_good contents below all.1 k v)
  where
    by_done : (b : Bool) → map.get (if b then after (dictionary_by below) o.entry.op else dictionary_by below) k ≡ Some v → (map.get (dictionary_by below) k ≡ Some v → IsGood contents v) → IsGood contents v
    by_done true e rest = by_op contents (dictionary_by below) k v o.entry.op all.0 rest e
    by_done false e rest = rest e

pub found_value : (x : Option (List ℕ)) (v : List ℕ) → answer_of_get x ≡ answer.Found v → x ≡ Some v
found_value None v e = absurd cc
found_value (Some w) v e = let same : w ≡ v = cc in ap Some same

gone_not : (x : Option (List ℕ)) (v : List ℕ) → answer_of_del x ≡ answer.Found v → ⊥
gone_not None v e = absurd cc
gone_not (Some w) v e = absurd cc

replied_good : (contents : List (List ℕ)) (log : List Ordered) → AllByRecursion (λ o. Refers contents o.entry.op) log → (o : Op) (v : List ℕ) → reply (dictionary_by log) o ≡ answer.Found v → IsGood contents v
replied_good contents log all (op.Put k w) v e = absurd cc
replied_good contents log all (op.Get k) v e = got_good contents log all k v (found_value (map.get (dictionary_by log) k) v e)
replied_good contents log all (op.Del k) v e = absurd (gone_not (map.get (dictionary_by log) k) v e)
replied_good contents log all (op.List p) v e = absurd cc

decided_good : (contents : List (List ℕ)) (log : List Ordered) → AllByRecursion (λ o. Refers contents o.entry.op) log → (w : Option ℕ) (o : Op) (v : List ℕ) → decided_outcome w (dictionary_by log) o ≡ outcome.Done (answer.Found v) → IsGood contents v
decided_good contents log all None o v e = let same : reply (dictionary_by log) o ≡ answer.Found v = cc in replied_good contents log all o v same
decided_good contents log all (Some u) o v e = absurd cc

-- what an entry of the log finds is such a value
pub fate_good : (contents : List (List ℕ)) (o : Ordered) (below : List Ordered) → AllByRecursion (λ x. Refers contents x.entry.op) below → (v : List ℕ) → fate o below ≡ outcome.Done (answer.Found v) → IsGood contents v
unfolding fate
fate_good contents o below all v e = decided_good contents below all (in_the_way o.entry.client o.entry.op o.sealed_then (entries below)) o.entry.op v e

-- so a load finds a reference
pub finds_ok : (x : Outcome) → ((v : List ℕ) → x ≡ outcome.Done (answer.Found v) → is_reference v ≡ true) → finds_reference x ≡ true
finds_ok (outcome.Done answer.Stored) good = refl
finds_ok (outcome.Done (answer.Found v)) good = good v refl
finds_ok (outcome.Done answer.NotFound) good = refl
finds_ok (outcome.Done answer.Removed) good = refl
finds_ok (outcome.Done answer.Absent) good = refl
finds_ok (outcome.Done (answer.Names names)) good = refl
finds_ok (outcome.Aborted u) good = refl
finds_ok (outcome.Refused r) good = refl
finds_ok (outcome.Halted k) good = refl

abbrev hash_of : Phase → List ℕ
hash_of (phase.Fetching d n) = d.bytes
hash_of phase.Closed = []
hash_of (phase.Keeping q d n) = []
hash_of phase.Calling = []

abbrev length_of : Phase → ℕ
length_of (phase.Fetching d n) = n
length_of phase.Closed = 0
length_of (phase.Keeping q d n) = 0
length_of phase.Calling = 0

-- and fetches a content that is kept
pub after_fetching : (M : Type 0) (contents : List (List ℕ)) (p : Phase) (x : Outcome) → ((h : Digest32) (len : ℕ) → p ≡ phase.Fetching h len → M × IsKept contents h.bytes len) → (p ≡ phase.Calling → M)
    → (M → (v : List ℕ) → x ≡ outcome.Done (answer.Found v) → IsGood contents v) → (h : Digest32) (len : ℕ) → after_decision p x ≡ phase.Fetching h len → M × IsKept contents h.bytes len
after_fetching M contents phase.Closed x old calling good h len e = absurd cc
after_fetching M contents (phase.Keeping k d n) x old calling good h len e = absurd cc
after_fetching M contents (phase.Fetching d n) x old calling good h len e = old h len e
after_fetching M contents phase.Calling (outcome.Aborted u) old calling good h len e = absurd cc
after_fetching M contents phase.Calling (outcome.Refused r) old calling good h len e = absurd cc
after_fetching M contents phase.Calling (outcome.Halted k) old calling good h len e = absurd cc
after_fetching M contents phase.Calling (outcome.Done answer.Stored) old calling good h len e = absurd cc
after_fetching M contents phase.Calling (outcome.Done answer.NotFound) old calling good h len e = absurd cc
after_fetching M contents phase.Calling (outcome.Done answer.Removed) old calling good h len e = absurd cc
after_fetching M contents phase.Calling (outcome.Done answer.Absent) old calling good h len e = absurd cc
after_fetching M contents phase.Calling (outcome.Done (answer.Names names)) old calling good h len e = absurd cc
after_fetching M contents phase.Calling (outcome.Done (answer.Found v)) old calling good h len e = by_test (is_reference v) e
  where
    m : M
    m = calling refl

    by_test : (b : Bool) → (if◌then◌else◌ {A = ObjectStep} b (phase.Fetching (record { bytes = hash_in v }) (length_in v), next.Fetch (record { bytes = hash_in v }) (length_in v)) (phase.Closed, next.Bad)).0 ≡ phase.Fetching h len
        → M × IsKept contents h.bytes len
    by_test true k =
        let here : hash_in v ≡ h.bytes = ap hash_of k in
        let long : length_in v ≡ len = ap length_of k in
        (m, subst (λ n. IsKept contents h.bytes n) long (subst (λ d. IsKept contents d (length_in v)) here (good m v refl).1))
    by_test false k = absurd cc

-- ---- the reference of a content that is kept

last_part : (h rest : List ℕ) (n : ℕ) → length h ≡ n → drop n (h ++ rest) ≡ rest
last_part [] rest n e = ap (λ m. drop m rest) (sym e)
last_part (x ∷ h) rest n e = ap (λ m. drop m (x ∷ (h ++ rest))) (sym e) ∙ last_part h rest (length h) refl

pub reference_long : (h : List ℕ) (len : ℕ) → length h ≡ 32 → length (reference_text h len) ≡ 36
reference_long h len e = length-append h (to_be_bytes w32 len) ∙ ap (λ n. n + 4) e

pub reference_good : (contents : List (List ℕ)) (h : List ℕ) (len : ℕ) → length h ≡ 32 → len < 2 ^ 32 → IsKept contents h len → IsGood contents (reference_text h len)
reference_good contents h len long few kept = (
  eq-eqb (length (reference_text h len)) 36 (reference_long h len long),
  subst (λ d. IsKept contents d (length_in (reference_text h len))) (sym (first_part h (to_be_bytes w32 len) 32 long))
      (subst (λ n. IsKept contents h n) (sym (ap (from_be_bytes w32) (last_part h (to_be_bytes w32 len) 32 long) ∙ from_be_bytes-to_be_bytes_4 len few)) kept),
)
