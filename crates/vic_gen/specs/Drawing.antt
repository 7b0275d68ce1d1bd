-- What is drawn from a number: which client is next, and what it does.
use Rattle.std.specs.Prelude.{ℕ, ◌+◌, ◌-◌, ◌*◌, ◌/◌, ◌%◌, Bool, List, [], ◌∷◌, ◌++◌, length, replicate, nat_eq, nat_le, if◌then◌else◌, codes, slice_get, slice_set, unwrap_or}
use Rattle.std.specs.Fmt.{decimal}
use Rattle.vic_dict.specs.declared.op.Op.{Op}
use Rattle.vic_dict.specs.declared.op.Op.TheVariants as op
use Rattle.vic_dict.specs.Dictionary.{Fits}
use Rattle.vic_gen.specs.declared.Act.{Act}
use Rattle.vic_gen.specs.declared.Act.TheVariants as act

-- the number, and how often each client has acted, counted modulo 4, the first client first
pub record Drawing : Type 0 where
  -- the number that the next draw starts from
  pub x : ℕ
  -- how often each client has acted
  pub acts : List ℕ

abbrev pub drawing_from : ℕ → ℕ → Drawing
drawing_from number clients = record { x = number; acts = replicate clients 0 }

-- the next number, and what is drawn of it below n
abbrev pub next_of : ℕ → ℕ
next_of x = (x * 1664525 + 1013904223) % 4294967296

abbrev pub number_drawn : ℕ → ℕ → ℕ
number_drawn x n = (next_of x / 65536) % n

abbrev pub next_drawing : Drawing → Drawing
next_drawing d = record d { x = next_of d.x }

-- a client
abbrev pub client_drawn : Drawing → ℕ
client_drawn d = 1 + number_drawn d.x (length d.acts)

-- a number in so many digits, with zeros
abbrev pub two_digits : ℕ → List ℕ
two_digits n = (48 + n / 10 % 10) ∷ (48 + n % 10) ∷ []

abbrev pub three_digits : ℕ → List ℕ
three_digits n = (48 + n / 100 % 10) ∷ two_digits n

abbrev pub key_drawn : ℕ → List ℕ
key_drawn x = codes "k" ++ three_digits (number_drawn x 200)

abbrev pub prefix_drawn : ℕ → List ℕ
prefix_drawn x = codes "k" ++ two_digits (number_drawn x 20)

-- the operation of a call, by what was drawn for its kind; x is the number behind that
abbrev pub op_drawn : ℕ → ℕ → ℕ → Op
op_drawn kind x call =
    if nat_le kind 3 then op.Put (key_drawn x) (codes "v" ++ decimal call)
    else if nat_le kind 5 then op.Get (key_drawn x)
    else if nat_eq kind 6 then op.Del (key_drawn x)
    else op.List (prefix_drawn x)

abbrev pub acts_of : Drawing → ℕ → ℕ
acts_of d client = unwrap_or (slice_get d.acts (client - 1)) 0

abbrev pub drawing_with_act : Drawing → ℕ → Drawing
drawing_with_act d client = record d { acts = slice_set d.acts (client - 1) ((acts_of d client + 1) % 4) }

-- every fourth act of a client is a poll
abbrev pub is_poll : Drawing → ℕ → Bool
is_poll d client = nat_eq (acts_of d client) 3

-- what a client does, at the call of this number, and the drawing after it
abbrev pub act_of : Drawing → ℕ → ℕ → Act
act_of d client call = if is_poll d client then act.Poll else act.Call (op_drawn (number_drawn d.x 8) (next_of d.x) call)

abbrev pub drawing_after_act : Drawing → ℕ → Drawing
drawing_after_act d client = if is_poll d client then drawing_with_act d client else next_drawing (next_drawing (drawing_with_act d client))

-- the operation of a call is within the limits
abbrev pub FitsAct : Act → Type 0
FitsAct act.Poll = Unit {0}
FitsAct (act.Call o) = Fits o
