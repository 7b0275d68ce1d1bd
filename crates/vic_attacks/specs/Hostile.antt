-- Servers that misbehave by themselves: one answers so many requests by the rule, and later ones in its own way.
use Rattle.std.specs.Prelude.{ℕ, ◌+◌, ◌-◌, ◌*◌, Bool, true, false, List, [], ◌∷◌, ◌++◌, length, take, drop, reverse, replicate, Option, Some, None, nat_eq, nat_lt, nat_le, if◌then◌else◌, min, slice_get, slice_set}
use Rattle.vic_dict.specs.declared.limits.TheConstants.{MOST_CLIENTS}
use Rattle.vic_dict.specs.declared.op.Op.{Op}
use Rattle.vic_dict.specs.Dictionary.{Dictionary}
use Rattle.vic_wire.specs.declared.message.Tagged.{Tagged}
use Rattle.vic_wire.specs.declared.message.ToClient.{ToClient}
use Rattle.vic_wire.specs.declared.message.ToClient.TheVariants as say
use Rattle.vic_wire.specs.Bits.{is_odd}
use Rattle.vic_wire.specs.Messages.{answer_text}
use Rattle.vic_wire.specs.Parts.{part_for, bare_part}
use Rattle.vic_order.specs.Order.{Server, serve}
use Rattle.vic_order.specs.Next.{next_op}
use Rattle.vic_order.specs.Serving.{Serving}
use Rattle.vic_order.specs.Scenes.{or_none}
use Rattle.vic_attacks.specs.declared.HostileKind.{HostileKind}
use Rattle.vic_attacks.specs.declared.HostileKind.TheVariants as kind

pub record Hostile : Type 0 where
  -- how it misbehaves, and after how many requests
  pub kind : HostileKind
  pub after : ℕ
  -- how many requests it has served
  pub count : ℕ
  -- the server that goes on by the rule
  pub going : Server
  -- what that server was after the last early request, once a late one asks for it; by some kinds it then serves too
  pub kept : Option Server
  -- that server's sealed dictionary, once a late request asks for it
  pub past : Option Dictionary
  -- what each of the clients 1 to 64 was answered last among the early requests
  pub told : List (Option (List ℕ))

-- one that has served nothing
abbrev pub hostile_from : HostileKind → ℕ → Server → Hostile
hostile_from k n s = record { kind = k; after = n; count = 0; going = s; kept = None; past = None; told = replicate MOST_CLIENTS None }

-- the number of the request that comes next, from 1 on; the count stops
abbrev pub number : Hostile → ℕ
number h = min (h.count + 1) 2000001

abbrev pub with_count : Hostile → Hostile
with_count h = record h { count = number h }

-- a request above the first so many is a late one
abbrev pub is_late : Hostile → Bool
is_late h = nat_lt h.after (number h)

-- ---- what is kept

abbrev pub or_server : Option Server → Server → Server
or_server (Some s) other = s
or_server None other = other

-- the kept server. Up to the first late request it is the one that goes on
abbrev pub kept_server : Hostile → Server
kept_server h = or_server h.kept h.going

abbrev pub or_dictionary : Option Dictionary → Dictionary → Dictionary
or_dictionary (Some d) other = d
or_dictionary None other = other

-- the past dictionary, likewise
abbrev pub past_dictionary : Hostile → Dictionary
past_dictionary h = or_dictionary h.past h.going.dictionary

-- what a client was answered last, if it was
abbrev pub told_to : List (Option (List ℕ)) → ℕ → Option (List ℕ)
told_to told who = if nat_eq who 0 then None else or_none (slice_get told (who - 1))

-- a client is answered; 0 and numbers above 64 have no place
abbrev pub with_told : List (Option (List ℕ)) → ℕ → List ℕ → List (Option (List ℕ))
with_told told who bytes = if nat_eq who 0 then told else slice_set told (who - 1) (Some bytes)

-- ---- answers that are changed

abbrev pub answer_as_is : ToClient → ToClient
answer_as_is a = a

-- all entries but the last, in reverse order, and the last
abbrev pub entries_with_swap : List Tagged → List Tagged
entries_with_swap entries = reverse (take (length entries - 1) entries) ++ drop (length entries - 1) entries

abbrev pub with_swap : ToClient → ToClient
with_swap (say.Reply seal entries part) = say.Reply seal (entries_with_swap entries) part
with_swap a = a

-- the part of the empty dictionary
abbrev pub empty_part : List ℕ
empty_part = 1 ∷ 0 ∷ []

abbrev pub with_empty_part : ToClient → ToClient
with_empty_part (say.Reply seal entries part) = say.Reply seal entries empty_part
with_empty_part (say.Update seal part) = say.Update seal empty_part
with_empty_part a = a

-- the part that an operation needs, or the bare one where there is none
abbrev pub part_or_bare : Dictionary → Option Op → List ℕ
part_or_bare d (Some o) = part_for d o
part_or_bare d None = bare_part d

-- the operation of the call that a Reply answers: it is that of the last entry
abbrev pub op_in : Option Tagged → Option Op
op_in (Some t) = Some t.entry.op
op_in None = None

abbrev pub last_op : List Tagged → Option Op
last_op entries = op_in (slice_get entries (length entries - 1))

-- a part is cut from this dictionary: that of a Reply for the call that it answers, that of an Update for the given operation, which
-- is to be the one that is sealed next
abbrev pub with_part_of : Dictionary → Option Op → ToClient → ToClient
with_part_of d next (say.Reply seal entries part) = say.Reply seal entries (part_or_bare d (last_op entries))
with_part_of d next (say.Update seal part) = say.Update seal (part_or_bare d next)
with_part_of d next a = a

abbrev pub without_last : List ℕ → List ℕ
without_last bytes = take (length bytes - 1) bytes

-- ---- who serves. Each gives the bytes of the answer, and what it then is

-- the server that goes on, and its answer is changed
abbrev pub by_going : (ToClient → ToClient) → Hostile → ℕ → List ℕ → List ℕ × Hostile
by_going change h who payload = let a = serve h.going who payload in (answer_text (change a.answer), record (with_count h) { going = a.next })

-- the same, and the kept server is kept
abbrev pub by_going_beside_kept : Hostile → ℕ → List ℕ → List ℕ × Hostile
by_going_beside_kept h who payload = by_going answer_as_is (record h { kept = Some (kept_server h) }) who payload

-- the kept server
abbrev pub by_kept : Hostile → ℕ → List ℕ → List ℕ × Hostile
by_kept h who payload = let a = serve (kept_server h) who payload in (answer_text a.answer, record (with_count h) { kept = Some a.next })

-- neither, where the client has an answer already
abbrev pub by_last_answer : Option (List ℕ) → Hostile → ℕ → List ℕ → List ℕ × Hostile
by_last_answer (Some bytes) h who payload = (bytes, with_count h)
by_last_answer None h who payload = by_going answer_as_is h who payload

-- ---- the kinds

-- a late request
abbrev pub by_late_request : HostileKind → Hostile → ℕ → List ℕ → List ℕ × Hostile
by_late_request kind.Honest h who payload = by_going answer_as_is h who payload
by_late_request kind.Rollback h who payload =
    if nat_le (number h) (2 * h.after) then by_going_beside_kept h who payload else by_kept h who payload
by_late_request kind.Fork h who payload = if is_odd who then by_going_beside_kept h who payload else by_kept h who payload
by_late_request kind.Replay h who payload = by_last_answer (told_to h.told who) h who payload
by_late_request kind.Swap h who payload = by_going with_swap h who payload
by_late_request kind.BadProof h who payload = by_going with_empty_part h who payload
by_late_request kind.Stale h who payload =
    let d = past_dictionary h in
    by_going (with_part_of d (next_op (serve h.going who payload).next)) (record h { past = Some d }) who payload
by_late_request kind.Truncate h who payload = let r = by_going answer_as_is h who payload in (without_last r.0, r.1)

abbrev pub is_replay : HostileKind → Bool
is_replay kind.Honest = false
is_replay kind.Rollback = false
is_replay kind.Fork = false
is_replay kind.Replay = true
is_replay kind.Swap = false
is_replay kind.BadProof = false
is_replay kind.Stale = false
is_replay kind.Truncate = false

-- an early request
abbrev pub by_early_request : Hostile → ℕ → List ℕ → List ℕ × Hostile
by_early_request h who payload =
    let r = by_going answer_as_is h who payload in
    (r.0, if is_replay h.kind then record r.1 { told = with_told h.told who r.0 } else r.1)

-- how it serves; the seat doesn't matter
abbrev pub by_kind : Serving Hostile
by_kind h seat who payload = if is_late h then by_late_request h.kind h who payload else by_early_request h who payload
