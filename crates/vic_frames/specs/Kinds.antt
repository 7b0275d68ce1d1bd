-- What a whole payload and each kind of answer is read as, in the steps of `read_request` and `read_answer` of `vic_wire`.
use Rattle.std.specs.Prelude.{ℕ, List, ◌&&◌, Result, Ok, nat_lt, nat_le}
use Rattle.vic_dict.specs.declared.limits.TheConstants.{MOST_TOLD}
use Rattle.vic_wire.specs.declared.message.ToClient.{ToClient}
use Rattle.vic_wire.specs.declared.message.ToClient.TheVariants as say
use Rattle.vic_wire.specs.declared.message.ToServer.{ToServer}
use Rattle.vic_wire.specs.Reading.{FieldFault, ◌>>=◌, byte_at, if_allowed, if_ended, seal_at, entries_at, answer_of_kind, request_of_kind}

-- a kind byte and the fields of that kind
abbrev pub request_at : List ℕ → Result ToServer FieldFault
request_at bytes = byte_at bytes >>= (λ kind. request_of_kind kind.0 kind.1)

abbrev pub answer_at : List ℕ → Result ToClient FieldFault
answer_at bytes = byte_at bytes >>= (λ kind. answer_of_kind kind.0 kind.1)

-- the fields of a Reply, of an Entries and of a Refused
abbrev pub reply_at : List ℕ → Result ToClient FieldFault
reply_at bytes = seal_at bytes >>= (λ s. entries_at 1 MOST_TOLD s.1 >>= (λ es. Ok (say.Reply s.0 es.0 es.1)))

abbrev pub listed_at : List ℕ → Result ToClient FieldFault
listed_at bytes = seal_at bytes >>= (λ s. entries_at 0 MOST_TOLD s.1 >>= (λ es. if_ended (say.Entries s.0 es.0, es.1)))

abbrev pub refused_at : List ℕ → Result ToClient FieldFault
refused_at bytes = byte_at bytes >>= (λ r. if_allowed (nat_lt 0 r.0 && nat_le r.0 7) r >>= (λ x. if_ended (say.Refused x.0, x.1)))
