-- Reading fields from the left, with the first fault that is met, and whole answers.
use Rattle.std.specs.Prelude.{ℕ, zero, suc, Bool, ◌&&◌, List, [], ◌∷◌, length, take, drop, replicate, Option, Some, None, Result, Ok, Err, nat_lt, nat_le, ◌==◌, if◌then◌else◌}
use Rattle.std.specs.Int.{Width, w16, w32, byte_len, from_be_bytes}
use Rattle.vic_dict.specs.declared.limits.TheConstants.{LONGEST_CONTENT, LONGEST_KEY, LONGEST_VALUE, MOST_CLIENTS, MOST_TOLD}
use Rattle.vic_dict.specs.declared.op.Op.{Op}
use Rattle.vic_dict.specs.declared.op.Op.TheVariants as op
use Rattle.vic_dict.specs.declared.op.Entry.{Entry}
use Rattle.vic_wire.specs.declared.message.Digest32.{Digest32}
use Rattle.vic_wire.specs.declared.message.Seal.{Seal}
use Rattle.vic_wire.specs.declared.message.Tagged.{Tagged}
use Rattle.vic_wire.specs.declared.message.ToClient.{ToClient}
use Rattle.vic_wire.specs.declared.message.ToClient.TheVariants as say
use Rattle.vic_wire.specs.declared.message.ToServer.{ToServer}
use Rattle.vic_wire.specs.declared.message.ToServer.TheVariants as ask
use Rattle.vic_dict.specs.declared.op.Mode.{Mode}
use Rattle.vic_dict.specs.declared.op.Mode.TheVariants as mode
use Rattle.vic_wire.specs.Hashes.{empty_root}

-- a field passes the end, or its value isn't allowed
pub data FieldFault : Type 0 where
  Short : FieldFault
  Value : FieldFault

-- a value and the bytes after it, or the first fault
abbrev pub Read : Type 0 → Type 0
Read A = Result (A × List ℕ) FieldFault

infixl 10 ◌>>=◌
abbrev pub ◌>>=◌ : {A B : Type 0} → Result A FieldFault → (A → Result B FieldFault) → Result B FieldFault
(Ok x) >>= f = f x
(Err e) >>= f = Err e

abbrev pub byte_at : List ℕ → Read ℕ
byte_at [] = Err Short
byte_at (b ∷ rest) = Ok (b, rest)

abbrev pub bytes_at : ℕ → List ℕ → Read (List ℕ)
bytes_at n bytes = if nat_lt (length bytes) n then Err Short else Ok (take n bytes, drop n bytes)

abbrev pub number_at : Width → List ℕ → Read ℕ
number_at w bytes = if nat_lt (length bytes) (byte_len w) then Err Short else Ok (from_be_bytes w (take (byte_len w) bytes), drop (byte_len w) bytes)

abbrev pub if_allowed : {A : Type 0} → Bool → A → Result A FieldFault
if_allowed ok x = if ok then Ok x else Err Value

unfoldable pub digest_at : List ℕ → Read Digest32
digest_at bytes = do
  d ← bytes_at 32 bytes
  Ok (record { bytes = d.0 }, d.1)

-- a length byte within the bounds, and that many bytes
unfoldable pub short_at : ℕ → ℕ → List ℕ → Read (List ℕ)
short_at least most bytes = do
  n ← byte_at bytes
  fits ← if_allowed (nat_le least n.0 && nat_le n.0 most) n
  bytes_at n.0 n.1

unfoldable pub put_at : List ℕ → Read Op
put_at bytes = do
  k ← short_at 1 LONGEST_KEY bytes
  v ← short_at 0 LONGEST_VALUE k.1
  Ok (op.Put k.0 v.0, v.1)

unfoldable pub get_at : List ℕ → Read Op
get_at bytes = do
  k ← short_at 1 LONGEST_KEY bytes
  Ok (op.Get k.0, k.1)

unfoldable pub del_at : List ℕ → Read Op
del_at bytes = do
  k ← short_at 1 LONGEST_KEY bytes
  Ok (op.Del k.0, k.1)

unfoldable pub list_at : List ℕ → Read Op
list_at bytes = do
  p ← short_at 0 LONGEST_KEY bytes
  Ok (op.List p.0, p.1)

unfoldable pub op_of_kind : ℕ → List ℕ → Read Op
op_of_kind kind bytes =
    if kind == 1 then put_at bytes
    else if kind == 2 then get_at bytes
    else if kind == 3 then del_at bytes
    else if kind == 4 then list_at bytes
    else Err Value

unfoldable pub op_at : List ℕ → Read Op
op_at bytes = do
  kind ← byte_at bytes
  op_of_kind kind.0 kind.1

unfoldable pub entry_at : List ℕ → Read Entry
entry_at bytes = do
  c ← byte_at bytes
  client ← if_allowed (nat_lt 0 c.0 && nat_le c.0 MOST_CLIENTS) c
  s ← number_at w32 client.1
  seq ← if_allowed (nat_lt 0 s.0) s
  o ← op_at seq.1
  Ok (record { client = client.0; seq = seq.0; op = o.0 }, o.1)

unfoldable pub tagged_at : List ℕ → Read Tagged
tagged_at bytes = do
  e ← entry_at bytes
  t ← digest_at e.1
  Ok (record { entry = e.0; tag = t.0 }, t.1)

unfoldable pub tagged_list_at : ℕ → List ℕ → Read (List Tagged)
tagged_list_at zero bytes = Ok ([], bytes)
tagged_list_at (suc n) bytes = do
  first ← tagged_at bytes
  others ← tagged_list_at n first.1
  Ok (first.0 ∷ others.0, others.1)

-- so many tagged entries as two bytes say, which is within the bounds
unfoldable pub entries_at : ℕ → ℕ → List ℕ → Read (List Tagged)
entries_at least most bytes = do
  n ← number_at w16 bytes
  count ← if_allowed (nat_le least n.0 && nat_le n.0 most) n
  tagged_list_at count.0 count.1

unfoldable pub seal_after : ℕ → List ℕ → Read Seal
seal_after position bytes =
    if position == 0 then Ok (record { position = 0; root = record { bytes = empty_root }; tag = record { bytes = replicate 32 0 } }, bytes)
    else digest_at bytes >>= (λ root. digest_at root.1 >>= (λ tag. Ok (record { position = position; root = root.0; tag = tag.0 }, tag.1)))

unfoldable pub seal_at : List ℕ → Read Seal
seal_at bytes = do
  p ← number_at w32 bytes
  seal_after p.0 p.1

-- nothing follows
abbrev pub if_ended : {A : Type 0} → A × List ℕ → Result A FieldFault
if_ended x = if length x.1 == 0 then Ok x.0 else Err Value

unfoldable pub update_at : List ℕ → Result ToClient FieldFault
update_at bytes = do
  s ← seal_at bytes
  Ok (say.Update s.0 s.1)

unfoldable pub answer_of_kind : ℕ → List ℕ → Result ToClient FieldFault
answer_of_kind kind bytes =
    if kind == 0x41 then if_ended (say.Hi, bytes)
    else if kind == 0x42 then seal_at bytes >>= (λ s. entries_at 1 MOST_TOLD s.1 >>= (λ es. Ok (say.Reply s.0 es.0 es.1)))
    else if kind == 0x43 then if_ended (say.Wait, bytes)
    else if kind == 0x44 then update_at bytes
    else if kind == 0x45 then seal_at bytes >>= (λ s. entries_at 0 MOST_TOLD s.1 >>= (λ es. if_ended (say.Entries s.0 es.0, es.1)))
    else if kind == 0x46 then byte_at bytes >>= (λ r. if_allowed (nat_lt 0 r.0 && nat_le r.0 7) r >>= (λ x. if_ended (say.Refused x.0, x.1)))
    else if kind == 0x47 then if_ended (say.Kept, bytes)
    else if kind == 0x48 then if_allowed (nat_le (length bytes) LONGEST_CONTENT) (say.Content bytes)
    else if kind == 0x49 then if_ended (say.Gone, bytes)
    else if kind == 0x4a then if_ended (say.Absent, bytes)
    else Err Value

abbrev pub some_read : {A : Type 0} → Result A FieldFault → Option A
some_read (Ok x) = Some x
some_read (Err e) = None

-- the answer that the payload spells, if it spells one
unfoldable pub read_answer : List ℕ → Option ToClient
read_answer bytes = some_read (byte_at bytes >>= (λ kind. answer_of_kind kind.0 kind.1))

-- ---- requests

abbrev pub mode_of : ℕ → Result Mode FieldFault
mode_of b = if b == 0 then Ok mode.Plain else if b == 1 then Ok mode.Objects else Err Value

unfoldable pub hello_at : List ℕ → Result ToServer FieldFault
hello_at bytes = do
  v ← byte_at bytes
  version ← if_allowed (v.0 == 1) v
  m ← byte_at version.1
  kind ← mode_of m.0
  c ← byte_at m.1
  if_ended (ask.Hello kind c.0, c.1)

unfoldable pub invoke_at : List ℕ → Result ToServer FieldFault
invoke_at bytes = do
  known ← number_at w32 bytes
  s ← number_at w32 known.1
  seq ← if_allowed (nat_lt 0 s.0) s
  o ← op_at seq.1
  tag ← digest_at o.1
  if_ended (ask.Invoke known.0 seq.0 o.0 tag.0, tag.1)

unfoldable pub commit_at : List ℕ → Result ToServer FieldFault
commit_at bytes = do
  p ← number_at w32 bytes
  position ← if_allowed (nat_lt 0 p.0) p
  s ← byte_at position.1
  status ← if_allowed (nat_le s.0 1) s
  tag ← digest_at status.1
  if_ended (ask.Commit position.0 (status.0 == 0) tag.0, tag.1)

unfoldable pub seal_request_at : List ℕ → Result ToServer FieldFault
seal_request_at bytes = do
  p ← number_at w32 bytes
  position ← if_allowed (nat_lt 0 p.0) p
  root ← digest_at position.1
  tag ← digest_at root.1
  if_ended (ask.Seal position.0 root.0 tag.0, tag.1)

unfoldable pub sync_at : List ℕ → Result ToServer FieldFault
sync_at bytes = do
  known ← number_at w32 bytes
  if_ended (ask.Sync known.0, known.1)

unfoldable pub fetch_at : List ℕ → Result ToServer FieldFault
fetch_at bytes = do
  hash ← digest_at bytes
  if_ended (ask.Fetch hash.0, hash.1)

unfoldable pub request_of_kind : ℕ → List ℕ → Result ToServer FieldFault
request_of_kind kind bytes =
    if kind == 0x21 then hello_at bytes
    else if kind == 0x22 then invoke_at bytes
    else if kind == 0x23 then commit_at bytes
    else if kind == 0x24 then if_ended (ask.Poll, bytes)
    else if kind == 0x25 then seal_request_at bytes
    else if kind == 0x26 then sync_at bytes
    else if kind == 0x27 then if_allowed (nat_le (length bytes) LONGEST_CONTENT) (ask.Keep bytes)
    else if kind == 0x28 then fetch_at bytes
    else if kind == 0x29 then if_ended (ask.Bye, bytes)
    else Err Value

-- the request that the payload spells, if it spells one
unfoldable pub read_request : List ℕ → Option ToServer
read_request bytes = some_read (byte_at bytes >>= (λ kind. request_of_kind kind.0 kind.1))
