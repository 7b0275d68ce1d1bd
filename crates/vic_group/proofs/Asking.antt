-- When a client may be asked for something, and what its tests come to.
use Rattle.std.proofs.Common.{◌≡◌, ℕ, ◌+◌, ◌<◌, ◌≤◌, Bool, true, false, ◌&&◌, List, [], ◌∷◌, length, Option, Some, None, is_none, nat_lt, nat_le, if◌then◌else◌, IsTrue, refl, sym, ap, ◌∙◌, arith, slice_get}
use Rattle.std.proofs.lemmas.Bool.{lt-ltb, le-leb}
use Rattle.vic_rules.specs.declared.state.Awaiting.{Awaiting}
use Rattle.vic_rules.specs.Client.{awaits_nothing, first_failing}
use Rattle.vic_dict.specs.declared.op.Mode.{Mode}
use Rattle.vic_wire.specs.Hashes.{Group}
use Rattle.vic_view.specs.declared.transcript.Transcript.{Transcript}
use Rattle.vic_view.specs.Transcripts.{transcript_group}
use Rattle.vic_order.specs.Scenes.{SceneOf, standing_in, is_client}
use Rattle.vic_script.specs.Scenes.{asked_tests}
use Rattle.vic_group.specs.declared.member.Member.{Member}
use Rattle.vic_group.specs.World.{ShowsParts}
use Rattle.vic_group.proofs.Scenes.{stands_here}

-- ---- tests

-- the first test fails
pub first_fails : (k : ℕ) (a : Bool) (others : List (ℕ × Bool)) → a ≡ false → first_failing ((k, a) ∷ others) ≡ Some k
first_fails k a others e = ap (λ (b : Bool). if b then first_failing others else Some k) e

-- the only one passes
pub one_passes : (k : ℕ) (a : Bool) → a ≡ true → first_failing ((k, a) ∷ []) ≡ None
one_passes k a e = ap (λ (b : Bool). if b then None else Some k) e

-- both pass
pub both_pass : (k n : ℕ) (a b : Bool) → a ≡ true → b ≡ true → first_failing ((k, a) ∷ (n, b) ∷ []) ≡ None
both_pass k n a b e f = ap (λ (c : Bool). if c then (if b then None else Some n) else Some k) e ∙ ap (λ (c : Bool). if c then None else Some n) f

-- the second fails
pub second_fails : (k n : ℕ) (a b : Bool) → a ≡ true → b ≡ false → first_failing ((k, a) ∷ (n, b) ∷ []) ≡ Some n
second_fails k n a b e f = ap (λ (c : Bool). if c then (if b then None else Some n) else Some k) e ∙ ap (λ (c : Bool). if c then None else Some n) f

-- ---- clients

-- the tests of a client, once it is there
abbrev pub rest_of : Bool → Bool → Option ℕ
rest_of sound idle = if sound then (if idle then None else Some 4) else Some 3

-- an idle client passes them
pub idle_passes : (sound idle : Bool) → IsTrue (idle && sound) → rest_of sound idle ≡ None
idle_passes true true is = refl
idle_passes true false is = absurd cc
idle_passes false true is = absurd cc
idle_passes false false is = absurd cc

module _ {V : Type 0} (t : Transcript) (ms : List Member) (vs : List (Option V)) (s : SceneOf V) (i : ℕ) (shows : ShowsParts t ms vs s) where
  -- a client whose place is taken is there
  pub is_there : (k : ℕ) → i ≡ k + 1 → k < length ms → is_client s i ≡ true
  is_there k is lt =
      let count : length ms ≡ s.group.count = shows.count in
      ap (λ (b : Bool). b && nat_le i s.group.count) (lt-ltb 0 i (omega arith)) ∙ le-leb i s.group.count (omega arith)

  -- one that has no place is not
  pub not_there : (length ms ≤ 64 → (nat_lt 0 i && nat_le i (length ms)) ≡ false) → is_client s i ≡ false
  not_there absent =
      let count : length ms ≡ s.group.count = shows.count in
      let few : s.group.count ≤ 64 = shows.few in
      ap (λ (n : ℕ). nat_lt 0 i && nat_le i n) (sym count) ∙ absent (omega arith)

  -- the tests of a client, by its member
  pub asked_is : (k : ℕ) (m : Member) → i ≡ k + 1 → slice_get ms k ≡ Some m → k < length ms → first_failing (asked_tests s i) ≡ rest_of (is_none m.client.halted) (awaits_nothing m.client.awaiting)
  asked_is k m is at lt =
      let stand = stands_here t ms vs s i k m shows is at in
      ap (λ (b : Bool). if b then rest_of (is_none (standing_in s i).halted) (awaits_nothing (standing_in s i).awaiting) else Some 2) (is_there k is lt)
      ∙ ap (λ (o : Option ℕ). rest_of (is_none o) (awaits_nothing (standing_in s i).awaiting)) stand.stands.halted
      ∙ ap (λ (a : Awaiting). rest_of (is_none m.client.halted) (awaits_nothing a)) stand.stands.awaiting

  -- and of one that isn't there
  pub unasked_is : is_client s i ≡ false → first_failing (asked_tests s i) ≡ Some 2
  unasked_is gone = first_fails 2 (is_client s i) ((3, is_none (standing_in s i).halted) ∷ (4, awaits_nothing (standing_in s i).awaiting) ∷ []) gone

-- a transcript is of the group that its fields say
pub same_group : (t : Transcript) (g : Group) → t.mode ≡ g.mode → t.count ≡ g.count → t.key ≡ g.key → transcript_group t ≡ g
same_group t g mode count key = ap (λ (k : Mode). record { mode = k; count = t.count; key = t.key }) mode ∙ ap (λ (n : ℕ). record { mode = g.mode; count = n; key = t.key }) count ∙ ap (λ (k : List ℕ). record { mode = g.mode; count = g.count; key = k }) key
