-- What the clients of a lawful history send and take is bytes.
use Rattle.std.proofs.Common.{◌≡◌, ℕ, zero, suc, ◌<◌, true, false, List, [], ◌∷◌, Option, Some, None, refl, arith}
use Rattle.std.specs.Prelude.{if◌then◌else◌, nat_eq, slice_get, slice_set, unwrap_or}
use Rattle.std.specs.Int.Bits.{bit_xor}
use Rattle.std.proofs.lemmas.Nat.{xor_of_8}
use Rattle.vic_dict.specs.Lists.{AreBytes}
use Rattle.vic_dict.proofs.ByteLists.{AreBytes-cons}
use Rattle.vic_wire.specs.Hashes.{Group}
use Rattle.vic_rules.specs.declared.trace.Input.{Input}
use Rattle.vic_rules.specs.declared.trace.Input.TheVariants as input
use Rattle.vic_rules.specs.declared.trace.TraceStep.{TraceStep}
use Rattle.vic_rules.specs.Client.{Standing, MayStep}
use Rattle.vic_rules.specs.History.{standing, IsLawful}
use Rattle.vic_made.proofs.Made.{sent_requests}
use Rattle.vic_order.specs.Scenes.{or_before, payload_in, last_taken, last_sent, payload_with_flip}
use Rattle.vic_runs.specs.Reached.{IfThere}

-- ---- what is sent

-- the payload that a step sends
pub sent-bytes : (g : Group) (x : TraceStep) (past : List TraceStep) → IsLawful g (x ∷ past) → IfThere AreBytes x.sent
sent-bytes g x past lawful = now x.sent refl
  where
    now : (o : Option (List ℕ)) → x.sent ≡ o → IfThere AreBytes o
    now None e = tt
    now (Some payload) e = (sent_requests g (x ∷ past) lawful [] x past refl payload e).0

-- ---- what was sent and taken last

before-bytes : (now before : Option (List ℕ)) → IfThere AreBytes now → IfThere AreBytes before → IfThere AreBytes (or_before now before)
before-bytes (Some payload) before h k = h
before-bytes None before h k = k

earlier-lawful : (g : Group) (x : TraceStep) (past : List TraceStep) → IsLawful g (x ∷ past) → IsLawful g past
earlier-lawful g x past lawful = record { group = lawful.group; steps = lawful.steps.0 }

-- the payload that a client sent last
pub last_sent-bytes : (g : Group) (h : List TraceStep) → IsLawful g h → (i : ℕ) → IfThere AreBytes (last_sent i h)
unfolding last_sent
last_sent-bytes g [] lawful i = tt
last_sent-bytes g (x ∷ past) lawful i =
    let earlier = last_sent-bytes g past (earlier-lawful g x past lawful) i in
    elim (nat_eq x.client i) as (λ b. IfThere AreBytes (if b then or_before x.sent (last_sent i past) else last_sent i past)) [
      | true ↦ before-bytes x.sent (last_sent i past) (sent-bytes g x past lawful) earlier
      | false ↦ earlier
    ]

taken-bytes : (g : Group) (s : Standing) (given : Input) → MayStep g s given → IfThere AreBytes (payload_in given)
taken-bytes g s (input.Call o) may = tt
taken-bytes g s (input.Object c) may = tt
taken-bytes g s input.Poll may = tt
taken-bytes g s input.Sync may = tt
taken-bytes g s (input.Payload payload) may = may

-- the payload that a client took last
pub last_taken-bytes : (g : Group) (h : List TraceStep) → IsLawful g h → (i : ℕ) → IfThere AreBytes (last_taken i h)
unfolding last_taken
last_taken-bytes g [] lawful i = tt
last_taken-bytes g (x ∷ past) lawful i =
    let earlier = last_taken-bytes g past (earlier-lawful g x past lawful) i in
    elim (nat_eq x.client i) as (λ b. IfThere AreBytes (if b then or_before (payload_in x.input) (last_taken i past) else last_taken i past)) [
      | true ↦ before-bytes (payload_in x.input) (last_taken i past) (taken-bytes g (standing g x.client past) x.input lawful.steps.1.may) earlier
      | false ↦ earlier
    ]

-- ---- a payload that is changed

bytes-set : (payload : List ℕ) (n b : ℕ) → b < 256 → AreBytes payload → AreBytes (slice_set payload n b)
bytes-set [] n b lt h = h
bytes-set (x ∷ payload) zero b lt h = AreBytes-cons b payload lt (λ i. h (suc i))
bytes-set (x ∷ payload) (suc n) b lt h = AreBytes-cons x (slice_set payload n b) (h 0) (bytes-set payload n b lt (λ i. h (suc i)))

bytes-get : (payload : List ℕ) (n : ℕ) → AreBytes payload → unwrap_or (slice_get payload n) 0 < 256
bytes-get [] n h = omega arith
bytes-get (x ∷ payload) zero h = h 0
bytes-get (x ∷ payload) (suc n) h = bytes-get payload n (λ i. h (suc i))

-- a payload with one bit changed
pub payload_with_flip-bytes : (n : ℕ) (payload : List ℕ) → AreBytes payload → AreBytes (payload_with_flip n payload)
payload_with_flip-bytes n payload h = bytes-set payload n (bit_xor (unwrap_or (slice_get payload n) 0) 1) (xor_of_8 (unwrap_or (slice_get payload n) 0) 1 (bytes-get payload n h) (omega arith)) h
