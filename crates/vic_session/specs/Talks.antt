-- The talk of one client with a server: the lines of its script, each done until the client is idle, over the payloads that it takes.
use Rattle.std.specs.Prelude.{ℕ, zero, suc, ◌+◌, ◌&&◌, Bool, List, [], ◌∷◌, ◌++◌, length, reverse, fold, Option, Some, None, is_none, nat_eq, nat_lt, if◌then◌else◌, codes}
use Rattle.std.specs.Fmt.{decimal}
use Rattle.std.specs.List.{flat_map}
use Rattle.vic_dict.specs.declared.op.Outcome.{Outcome}
use Rattle.vic_rules.specs.declared.object.ObjectOutcome.{ObjectOutcome}
use Rattle.vic_wire.specs.Texts.{content_text}
use Rattle.vic_wire.specs.Hashes.{Group, hash}
use Rattle.vic_rules.specs.declared.trace.Input.{Input}
use Rattle.vic_rules.specs.declared.trace.Input.TheVariants as input
use Rattle.vic_rules.specs.declared.trace.TraceStep.{TraceStep}
use Rattle.vic_rules.specs.Client.{Standing, at_start, step, payload_of, awaits_nothing}
use Rattle.vic_script.specs.Words.{outcome_words, object_words, newline}
use Rattle.vic_script.specs.Lines.{lines_of}
use Rattle.vic_script.specs.Run.{script_limit, line_end}
use Rattle.vic_text.specs.declared.client_line.ClientLine.{ClientLine}
use Rattle.vic_text.specs.declared.client_line.ClientLine.TheVariants as line
use Rattle.vic_text.specs.ClientLines.{client_line_of}

-- what the client is at: a call, a poll or a sync of which the state is told at its end, a settling that may poll so many times
-- more, its leave, a bad line of some kind, or a halt at a check, on a payload
pub data Doing : Type 0 where
  Calls : Doing
  Tells : Doing
  Settles : (left : ℕ) → Doing
  Leaves : Doing
  Bad : (kind : ℕ) → Doing
  Halts : (check : ℕ) (payload : List ℕ) → Doing

-- where the client stands, its steps (the newest first), what was printed, what it is at, the number of the line that it is at,
-- from 1 on, the bytes of the script up to the end of that line, and the lines behind it
pub record Talk : Type 0 where
  pub now : Standing
  pub history : List TraceStep
  pub text : List ℕ
  pub doing : Doing
  pub number : ℕ
  pub behind : ℕ
  pub lines : List (List ℕ)

-- who talks: a group, a client of it, where it stands at the beginning, and the length of its script
pub record Talker : Type 0 where
  pub group : Group
  pub me : ℕ
  pub from : Standing
  pub total : ℕ

abbrev pub unsettled_count : Talk → ℕ
unsettled_count t = length t.now.own

-- `state sealed S length L unsettled U`
abbrev pub state_line : Standing → List ℕ
state_line s = codes "state sealed " ++ decimal s.sealed ++ codes " length " ++ decimal (length s.path) ++ codes " unsettled " ++ decimal (length s.own) ++ newline

abbrev pub talk_with_state : Talk → Talk
talk_with_state t = record t { text = t.text ++ state_line t.now }

-- the client makes a step
unfoldable pub talk_after_step : Talker → Talk → Input → Talk
talk_after_step w t given =
    let v = step w.group w.me t.now given in
    record t { now = v.next; history = record { client = w.me; input = given; sent = payload_of w.group w.me v.next v.sends; returned = v.returns; object = v.object } ∷ t.history }

-- it is asked for something, and is at it
abbrev pub talk_after_asking : Talker → Talk → Input → Doing → Talk
talk_after_asking w t given doing = record (talk_after_step w t given) { doing = doing }

-- ---- lines

-- a line is begun; one at which nothing is sent goes on to the next
abbrev pub talk_from_line : Talker → Talk → Option ClientLine → (Talk → Talk) → Talk
talk_from_line w t None next = record t { doing = Bad 1 }
talk_from_line w t (Some line.Skip) next = next t
talk_from_line w t (Some (line.Call o)) next = talk_after_asking w t (input.Call o) Calls
talk_from_line w t (Some (line.Object c)) next = talk_after_asking w t (input.Object c) Calls
talk_from_line w t (Some line.Poll) next = talk_after_asking w t input.Poll Tells
talk_from_line w t (Some line.Sync) next = talk_after_asking w t input.Sync Tells
talk_from_line w t (Some (line.Settle zero)) next = next (talk_with_state t)
talk_from_line w t (Some (line.Settle (suc n))) next = if nat_eq (unsettled_count t) 0 then next (talk_with_state t) else talk_after_asking w t input.Poll (Settles n)

-- the client is idle: the next line is begun, or it leaves. A line that reaches past the limit is bad by kind 7, before all else
unfoldable pub talk_at_next_line : Talker → Talk → List (List ℕ) → Talk
talk_at_next_line w t [] = record t { doing = Leaves; lines = [] }
talk_at_next_line w t (text ∷ texts) =
    let behind = line_end w.total t.behind text in
    let here = record t { number = t.number + 1; behind = behind; lines = texts } in
    if nat_lt script_limit behind then record here { doing = Bad 7 }
    else talk_from_line w here (client_line_of w.group.mode text) (λ u. talk_at_next_line w u texts)

-- ---- payloads

-- what the client is at is over
abbrev pub talk_after_line : Talker → Talk → Doing → Talk
talk_after_line w t Calls = talk_at_next_line w t t.lines
talk_after_line w t Tells = let u = talk_with_state t in talk_at_next_line w u u.lines
talk_after_line w t (Settles zero) = let u = talk_with_state t in talk_at_next_line w u u.lines
talk_after_line w t (Settles (suc n)) = if nat_eq (unsettled_count t) 0 then (let u = talk_with_state t in talk_at_next_line w u u.lines) else talk_after_asking w t input.Poll (Settles n)
talk_after_line w t doing = t

abbrev pub is_idle : Standing → Bool
is_idle s = awaits_nothing s.awaiting && is_none s.halted

-- the outcomes that the newest step returned, of a call and of a call on objects
abbrev pub returned_in : List TraceStep → Option Outcome
returned_in [] = None
returned_in (x ∷ past) = x.returned

abbrev pub object_in : List TraceStep → Option ObjectOutcome
object_in [] = None
object_in (x ∷ past) = x.object

abbrev pub outcome_line : Option Outcome → List ℕ
outcome_line None = []
outcome_line (Some o) = outcome_words o ++ newline

abbrev pub object_line : Option ObjectOutcome → List ℕ
object_line None = []
object_line (Some q) = object_words q ++ newline

-- what is printed of them; a halt is told at the session's end
abbrev pub outcome_lines : Option ℕ → Option Outcome → Option ObjectOutcome → List ℕ
outcome_lines (Some check) returned object = []
outcome_lines None returned object = outcome_line returned ++ object_line object

abbrev pub talk_by_check : Talker → Talk → List ℕ → Option ℕ → Talk
talk_by_check w t payload (Some check) = record t { doing = Halts check payload }
talk_by_check w t payload None = if is_idle t.now then talk_after_line w t t.doing else t

-- it takes a payload
unfoldable pub talk_after_payload : Talker → Talk → List ℕ → Talk
talk_after_payload w t payload =
    let u = talk_after_step w t (input.Payload payload) in
    let halted = u.now.halted in
    talk_by_check w (record u { text = u.text ++ outcome_lines halted (returned_in u.history) (object_in u.history) }) payload halted

-- ---- the whole

abbrev pub fresh_talk : Standing → Talk
fresh_talk s = record { now = s; history = []; text = []; doing = Leaves; number = 0; behind = 0; lines = [] }

-- the talk over a script, once the client was greeted
abbrev pub opening_talk : Talker → List ℕ → Talk
opening_talk w script = talk_at_next_line w (fresh_talk w.from) (lines_of script)

-- and after it took payloads, the oldest first
unfoldable pub talk : Talker → List ℕ → List (List ℕ) → Talk
talk w script payloads = fold (talk_after_payload w) (opening_talk w script) payloads

-- a client that has done nothing yet
abbrev pub talker : Group → ℕ → List ℕ → Talker
talker g me script = record { group = g; me = me; from = at_start; total = length script }

-- ---- what is told and sent

-- the hash that is told of the payload at which a client halted
abbrev pub digest_of : List ℕ → List ℕ
digest_of payload = hash (content_text payload)

abbrev pub one_of : {A : Type 0} → Option A → List A
one_of None = []
one_of (Some x) = x ∷ []

-- the payloads that it sent, the oldest first
abbrev pub sent_in : List TraceStep → List (List ℕ)
sent_in h = flat_map (λ x. one_of x.sent) (reverse h)
