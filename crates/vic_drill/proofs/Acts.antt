-- What is drawn may be called: it is within the limits, and its texts are bytes.
use Rattle.std.proofs.Common.{◌≡◌, ℕ, ◌+◌, ◌-◌, ◌/◌, ◌%◌, ◌<◌, ◌≤◌, ◌^◌, Bool, true, false, [], ◌∷◌, ◌++◌, length, if◌then◌else◌, codes, nat_eq, nat_le, arith, lit<}
use Rattle.std.specs.Fmt.{decimal}
use Rattle.std.proofs.lemmas.List.{length-set}
use Rattle.std.proofs.lemmas.Fmt.{length-decimal-le, IsAscii-decimal}
use Rattle.vic_dict.specs.Lists.{AreBytes}
use Rattle.vic_dict.specs.declared.op.Op.{Op}
use Rattle.vic_dict.specs.declared.op.Op.TheVariants as op
use Rattle.vic_dict.proofs.ByteLists.{AreBytes-cons, AreBytes-nil}
use Rattle.vic_gen.specs.declared.Act.TheVariants as act
use Rattle.vic_drill.specs.MayBe.{MayCall, MayAct}
use Rattle.vic_gen.specs.Drawing.{Drawing, number_drawn, next_of, client_drawn, op_drawn, key_drawn, prefix_drawn, two_digits, three_digits, is_poll, act_of, drawing_after_act, drawing_with_act, next_drawing}

-- a digit is a byte
digit-byte : (n : ℕ) → 48 + n % 10 < 256
digit-byte n = omega arith

two-bytes : (a b : ℕ) → AreBytes ((48 + a % 10) ∷ (48 + b % 10) ∷ [])
two-bytes a b = AreBytes-cons (48 + a % 10) ((48 + b % 10) ∷ []) (digit-byte a) (AreBytes-cons (48 + b % 10) [] (digit-byte b) AreBytes-nil)

three-bytes : (a b c : ℕ) → AreBytes ((48 + a % 10) ∷ (48 + b % 10) ∷ (48 + c % 10) ∷ [])
three-bytes a b c = AreBytes-cons (48 + a % 10) ((48 + b % 10) ∷ (48 + c % 10) ∷ []) (digit-byte a) (two-bytes b c)

pub key-bytes : (x : ℕ) → AreBytes (key_drawn x)
key-bytes x = AreBytes-cons 107 (three_digits (number_drawn x 200)) (lit< tt) (three-bytes (number_drawn x 200 / 100) (number_drawn x 200 / 10) (number_drawn x 200))

pub prefix-bytes : (x : ℕ) → AreBytes (prefix_drawn x)
prefix-bytes x = AreBytes-cons 107 (two_digits (number_drawn x 20)) (lit< tt) (two-bytes (number_drawn x 20 / 10) (number_drawn x 20))

pub value-bytes : (call : ℕ) → call < 2 ^ 32 → AreBytes (118 ∷ decimal call)
value-bytes call few = AreBytes-cons 118 (decimal call) (lit< tt) (λ i. omega (arith, IsAscii-decimal call (omega arith) i))

put-may : (x call : ℕ) → call < 2 ^ 32 → MayCall (op.Put (key_drawn x) (codes "v" ++ decimal call))
put-may x call few = record {
  fits = ((lit< tt, lit< tt), (let short : length (decimal call) ≤ 10 = length-decimal-le 10 call (lit< tt) (omega arith) (omega arith) in omega arith));
  bytes = (key-bytes x, value-bytes call few);
}

by_test : (P : Op → Type 0) (b : Bool) (o p : Op) → P o → P p → P (if b then o else p)
by_test P true o p h k = h
by_test P false o p h k = k

pub op-may : (kind x call : ℕ) → call < 2 ^ 32 → MayCall (op_drawn kind x call)
op-may kind x call few =
    by_test MayCall (nat_le kind 3) (op.Put (key_drawn x) (codes "v" ++ decimal call)) _ (put-may x call few)
    (by_test MayCall (nat_le kind 5) (op.Get (key_drawn x)) _ (record { fits = (lit< tt, lit< tt); bytes = key-bytes x })
    (by_test MayCall (nat_eq kind 6) (op.Del (key_drawn x)) (op.List (prefix_drawn x)) (record { fits = (lit< tt, lit< tt); bytes = key-bytes x })
    (record { fits = lit< tt; bytes = prefix-bytes x })))

-- a client of the group is drawn
pub client_drawn-member : (d : Drawing) → 0 < length d.acts → (0 < client_drawn d) × (client_drawn d ≤ length d.acts)
client_drawn-member d some = (omega arith, omega arith)

act_by : (b : Bool) (o : Op) → MayCall o → MayAct (if b then act.Poll else act.Call o)
act_by true o may = tt
act_by false o may = may

pub act-may : (d : Drawing) (client call : ℕ) → call < 2 ^ 32 → MayAct (act_of d client call)
act-may d client call few = act_by (is_poll d client) (op_drawn (number_drawn d.x 8) (next_of d.x) call) (op-may (number_drawn d.x 8) (next_of d.x) call few)

-- acting leaves as many clients
acted_by : (b : Bool) (d e : Drawing) (n : ℕ) → length d.acts ≡ n → length e.acts ≡ n → length (if b then d else e).acts ≡ n
acted_by true d e n h k = h
acted_by false d e n h k = k

pub drawing_after_act-acts : (d : Drawing) (client : ℕ) → length (drawing_after_act d client).acts ≡ length d.acts
drawing_after_act-acts d client =
    let same : length (drawing_with_act d client).acts ≡ length d.acts = length-set d.acts (client - 1) _ in
    acted_by (is_poll d client) (drawing_with_act d client) (next_drawing (next_drawing (drawing_with_act d client))) (length d.acts) same same
