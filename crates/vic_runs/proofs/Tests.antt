-- What a line that isn't bad has passed.
use Rattle.std.proofs.Common.{◌≡◌, ℕ, ◌<◌, ◌≤◌, Bool, true, false, List, [], ◌∷◌, length, None, is_none, refl, ap, arith}
use Rattle.std.specs.Prelude.{◌↔◌, nat_eq, nat_lt, nat_le}
use Rattle.std.proofs.lemmas.Bool.{and_parts, and_from, ltb-true, leb-true, lt-ltb, le-leb, eqb-false}
use Rattle.vic_dict.specs.declared.op.Op.{Op}
use Rattle.vic_dict.specs.declared.op.Op.TheVariants as op
use Rattle.vic_dict.specs.Dictionary.{IsKey, Fits}
use Rattle.vic_dict.specs.declared.op.Mode.{Mode}
use Rattle.vic_dict.specs.declared.op.Mode.TheVariants as mode
use Rattle.vic_rules.specs.declared.object.ObjectCall.{ObjectCall}
use Rattle.vic_rules.specs.declared.object.ObjectCall.TheVariants as object
use Rattle.vic_rules.specs.Objects.{FitsObject}
use Rattle.vic_order.specs.Order.{same_mode}
use Rattle.vic_rules.specs.Client.{first_failing, awaits_nothing, IsIdle}
use Rattle.vic_order.specs.Scenes.{Queue, SceneOf, standing_in, is_client, oldest_payload}
use Rattle.vic_script.specs.Scenes.{is_key, fits_op, is_plain_call, fits_object, is_object_call, asked_tests}

-- a test before others was passed, and so were they
pub passed : (k : ℕ) (b : Bool) (others : List (ℕ × Bool)) → first_failing ((k, b) ∷ others) ≡ None → (b ≡ true) × (first_failing others ≡ None)
passed k true others e = (refl, e)
passed k false others e = absurd cc

-- the second of two tests
pub passed_last : (k : ℕ) (b : Bool) (m : ℕ) (c : Bool) → first_failing ((k, b) ∷ (m, c) ∷ []) ≡ None → c ≡ true
passed_last k b m c e = (passed m c [] (passed k b ((m, c) ∷ []) e).1).0

module _ {V : Type 0} (s : SceneOf V) (i : ℕ) where
  -- a number that passes the test is a client's
  pub client_is : is_client s i ≡ true → (0 < i) × (i ≤ s.group.count)
  client_is e = let p = and_parts (nat_lt 0 i) (nat_le i s.group.count) e in (ltb-true _ _ p.0, leb-true _ _ p.1)

  -- the same where it is the first test of a line
  pub client_first : (others : List (ℕ × Bool)) → first_failing ((2, is_client s i) ∷ others) ≡ None → (0 < i) × (i ≤ s.group.count)
  client_first others e = client_is (passed 2 (is_client s i) others e).0

-- of a client that is asked: it is one, and it is idle
pub record Asked {V : Type 0} (s : SceneOf V) (i : ℕ) : Type 0 where
  pub above : 0 < i
  pub upto : i ≤ s.group.count
  pub idle : IsIdle (standing_in s i)

-- a client that passes the tests of a line that asks it
pub asked_is : {V : Type 0} (s : SceneOf V) (i : ℕ) → first_failing (asked_tests s i) ≡ None → Asked s i
asked_is s i e =
    let a = passed 2 (is_client s i) ((3, is_none (standing_in s i).halted) ∷ (4, awaits_nothing (standing_in s i).awaiting) ∷ []) e in
    let b = passed 3 (is_none (standing_in s i).halted) ((4, awaits_nothing (standing_in s i).awaiting) ∷ []) a.1 in
    let c = passed 4 (awaits_nothing (standing_in s i).awaiting) [] b.1 in
    let bounds = client_is s i a.0 in
    record { above = bounds.0; upto = bounds.1; idle = and_from _ _ c.0 b.0 }

-- ---- what a call passed

-- a key that passes the test is one
is_key-true : (k : List ℕ) → is_key k ≡ true → IsKey k
is_key-true k e = let p = and_parts (nat_lt 0 (length k)) (nat_le (length k) 255) e in (ltb-true _ _ p.0, omega (arith, leb-true (length k) 255 p.1))

key-passes : (k : List ℕ) → IsKey k → is_key k ≡ true
key-passes k h = and_from _ _ (lt-ltb 0 (length k) h.0) (le-leb (length k) 255 (omega (arith, h.1)))

fits_op-true : (o : Op) → fits_op o ≡ true → Fits o
fits_op-true (op.Put k v) e = let p = and_parts (is_key k) (nat_le (length v) 64) e in (is_key-true k p.0, omega (arith, leb-true (length v) 64 p.1))
fits_op-true (op.Get k) e = is_key-true k e
fits_op-true (op.Del k) e = is_key-true k e
fits_op-true (op.List p) e = omega (arith, leb-true (length p) 255 e)

op-passes : (o : Op) → Fits o → fits_op o ≡ true
op-passes (op.Put k v) h = and_from _ _ (key-passes k h.0) (le-leb (length v) 64 (omega (arith, h.1)))
op-passes (op.Get k) h = key-passes k h
op-passes (op.Del k) h = key-passes k h
op-passes (op.List p) h = le-leb (length p) 255 (omega (arith, h))

-- the test of an operation's lengths passes exactly those that fit
pub fits_op_is : (o : Op) → (fits_op o ≡ true) ↔ Fits o
fits_op_is o = (fits_op-true o, op-passes o)

-- a client that passes the tests of a line by which it calls
pub called_is : {V : Type 0} (s : SceneOf V) (i : ℕ) (o : Op) → first_failing ((1, is_plain_call s o) ∷ asked_tests s i) ≡ None → Asked s i
called_is s i o e = asked_is s i (passed 1 (is_plain_call s o) (asked_tests s i) e).1

-- its group has no objects
pub plain_is : {V : Type 0} (s : SceneOf V) (i : ℕ) (o : Op) → first_failing ((1, is_plain_call s o) ∷ asked_tests s i) ≡ None → s.group.mode ≡ mode.Plain
plain_is s i o e = mode_plain s.group.mode (and_parts (same_mode s.group.mode mode.Plain) (fits_op o) (passed 1 (is_plain_call s o) (asked_tests s i) e).0).0
  where
    mode_plain : (m : Mode) → same_mode m mode.Plain ≡ true → m ≡ mode.Plain
    mode_plain mode.Plain e = refl
    mode_plain mode.Objects e = absurd cc

-- a client that passes the tests of a line by which it makes a call on objects
pub object_called_is : {V : Type 0} (s : SceneOf V) (i : ℕ) (c : ObjectCall) → first_failing ((1, is_object_call s c) ∷ asked_tests s i) ≡ None → Asked s i
object_called_is s i c e = asked_is s i (passed 1 (is_object_call s c) (asked_tests s i) e).1

-- its group has objects
pub objects_is : {V : Type 0} (s : SceneOf V) (i : ℕ) (c : ObjectCall) → first_failing ((1, is_object_call s c) ∷ asked_tests s i) ≡ None → s.group.mode ≡ mode.Objects
objects_is s i c e = mode_objects s.group.mode (and_parts (same_mode s.group.mode mode.Objects) (fits_object c) (passed 1 (is_object_call s c) (asked_tests s i) e).0).0
  where
    mode_objects : (m : Mode) → same_mode m mode.Objects ≡ true → m ≡ mode.Objects
    mode_objects mode.Objects e = refl
    mode_objects mode.Plain e = absurd cc

-- the test of the lengths of a call's texts passes exactly those that fit
object-true : (c : ObjectCall) → fits_object c ≡ true → FitsObject c
object-true (object.Store k c) e = let p = and_parts (is_key k) (nat_le (length c) 8388608) e in (is_key-true k p.0, omega (arith, leb-true (length c) 8388608 p.1))
object-true (object.Load k) e = is_key-true k e
object-true (object.Erase k) e = is_key-true k e
object-true (object.Names p) e = omega (arith, leb-true (length p) 255 e)

object-passes : (c : ObjectCall) → FitsObject c → fits_object c ≡ true
object-passes (object.Store k c) h = and_from _ _ (key-passes k h.0) (le-leb (length c) 8388608 (omega (arith, h.1)))
object-passes (object.Load k) h = key-passes k h
object-passes (object.Erase k) h = key-passes k h
object-passes (object.Names p) h = le-leb (length p) 255 (omega (arith, h))

pub fits_object_is : (c : ObjectCall) → (fits_object c ≡ true) ↔ FitsObject c
fits_object_is c = (object-true c, object-passes c)

-- ---- what waits in a queue that passed

pub waits_is : (queue : Queue) → nat_lt 0 (length queue) ≡ true → queue ≡ [] → ⊥
waits_is queue e none = omega (arith, ltb-true 0 (length queue) e, ap length none)

pub full : (queue : Queue) → nat_eq (length queue) 0 ≡ false → queue ≡ [] → ⊥
full queue e none = eqb-false (length queue) 0 e (ap length none)

pub has_byte_waits : (queue : Queue) (n : ℕ) → nat_lt n (length (oldest_payload queue)) ≡ true → queue ≡ [] → ⊥
has_byte_waits queue n e none = omega (arith, ltb-true n (length (oldest_payload queue)) e, ap (λ q. length (oldest_payload q)) none)
