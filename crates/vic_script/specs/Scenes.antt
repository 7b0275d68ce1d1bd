-- What the lines of a script do, and what is printed of it.
use Rattle.std.specs.Prelude.{ℕ, zero, suc, Bool, true, false, ◌&&◌, List, [], ◌∷◌, ◌++◌, length, Option, Some, None, is_none, is_some, nat_eq, nat_lt, nat_le, if◌then◌else◌, codes}
use Rattle.std.specs.Fmt.{decimal}
use Rattle.vic_dict.specs.declared.limits.TheConstants.{LONGEST_CONTENT, LONGEST_KEY, LONGEST_VALUE}
use Rattle.vic_dict.specs.declared.op.Op.{Op}
use Rattle.vic_dict.specs.declared.op.Op.TheVariants as op
use Rattle.vic_dict.specs.declared.op.Mode.TheVariants as mode
use Rattle.vic_dict.specs.declared.op.Outcome.{Outcome}
use Rattle.vic_rules.specs.declared.object.ObjectCall.{ObjectCall}
use Rattle.vic_rules.specs.declared.object.ObjectCall.TheVariants as object
use Rattle.vic_rules.specs.declared.object.ObjectOutcome.{ObjectOutcome}
use Rattle.vic_rules.specs.declared.trace.Input.TheVariants as input
use Rattle.vic_rules.specs.declared.trace.TraceStep.{TraceStep}
use Rattle.vic_rules.specs.Client.{awaits_nothing, first_failing}
use Rattle.vic_order.specs.Order.{same_mode}
use Rattle.vic_order.specs.Serving.{Serving}
use Rattle.vic_order.specs.Scenes.{SceneOf, queue_of, standing_in, Event, Asks, Serves, Takes, Flips, Hears, Resends, Copies, Joins, after_events, last_taken, last_sent, is_client, is_server, waits_in, has_byte}
use Rattle.vic_script.specs.declared.line.Line.{Line}
use Rattle.vic_script.specs.declared.line.Line.TheVariants as line
use Rattle.vic_script.specs.Lines.{is_server_number}
use Rattle.vic_script.specs.Words.{outcome_words, object_words, space, newline}

-- ---- what is printed

-- the outcomes that the newest step returned, of a call and of a call on objects
abbrev pub returned_in : List TraceStep → Option Outcome
returned_in [] = None
returned_in (x ∷ past) = x.returned

abbrev pub object_in : List TraceStep → Option ObjectOutcome
object_in [] = None
object_in (x ∷ past) = x.object

-- a line of a client's words
abbrev pub line_by : ℕ → List ℕ → List ℕ
line_by i words = decimal i ++ space ++ words ++ newline

-- a client's outcome, and then that of its call on objects; or that it took an answer, where neither was returned
abbrev pub print_of_outcomes : ℕ → Option Outcome → Option ObjectOutcome → List ℕ
print_of_outcomes i None None = line_by i (codes "took")
print_of_outcomes i (Some o) None = line_by i (outcome_words o)
print_of_outcomes i None (Some q) = line_by i (object_words q)
print_of_outcomes i (Some o) (Some q) = line_by i (outcome_words o) ++ line_by i (object_words q)

-- what is printed of an event, by the history behind it: of one by which a client took a payload, what became of it
abbrev pub print_of_event : Event → List TraceStep → List ℕ
print_of_event (Asks i given) h = []
print_of_event (Serves i) h = []
print_of_event (Takes i) h = print_of_outcomes i (returned_in h) (object_in h)
print_of_event (Flips i n) h = print_of_outcomes i (returned_in h) (object_in h)
print_of_event (Hears i payload) h = print_of_outcomes i (returned_in h) (object_in h)
print_of_event (Resends i) h = []
print_of_event (Copies n t) h = []
print_of_event (Joins i n) h = []

-- of events, the newest first
abbrev pub print_of_events : {V : Type 0} → Serving V → SceneOf V → List Event → List ℕ
print_of_events rule s [] = []
print_of_events rule s (m ∷ before) = print_of_events rule s before ++ print_of_event m (after_events rule s (m ∷ before)).history

-- what a scene has become, and the text that was printed
pub record PrintedSceneOf (V : Type 0) : Type 0 where
  -- where the events lead
  pub scene : SceneOf V
  -- what was printed on the way
  pub text : List ℕ

abbrev pub printed_scene_after : {V : Type 0} → Serving V → SceneOf V → List Event → PrintedSceneOf V
printed_scene_after rule s events = record { scene = after_events rule s events; text = print_of_events rule s events }

-- ---- the lines

-- a client takes a payload from elsewhere, if there is one
abbrev pub events_of_hearing : ℕ → Option (List ℕ) → List Event
events_of_hearing i None = []
events_of_hearing i (Some payload) = Hears i payload ∷ []

-- serve and take in turn while requests wait, at most so many times
unfoldable pub events_of_turns : {V : Type 0} → Serving V → ℕ → SceneOf V → ℕ → List Event
events_of_turns rule zero s i = []
events_of_turns rule (suc n) s i =
    if nat_eq (length (queue_of s.up i)) 0 then []
    else events_of_turns rule n (after_events rule s (Takes i ∷ Serves i ∷ [])) i ++ Takes i ∷ Serves i ∷ []

-- the most turns of a run
abbrev pub most_turns : ℕ
most_turns = 2100

-- the events of a line, the newest first, where it isn't bad
abbrev pub events_of : {V : Type 0} → Serving V → SceneOf V → Line → List Event
events_of rule s (line.Clients n) = []
events_of rule s (line.Objects n) = []
events_of rule s (line.Key digits) = []
events_of rule s (line.Hostile name n) = []
events_of rule s (line.Call i o) = Asks i (input.Call o) ∷ []
events_of rule s (line.Object i c) = Asks i (input.Object c) ∷ []
events_of rule s (line.Poll i) = Asks i input.Poll ∷ []
events_of rule s (line.Sync i) = Asks i input.Sync ∷ []
events_of rule s (line.Serve i) = Serves i ∷ []
events_of rule s (line.Take i) = Takes i ∷ []
events_of rule s (line.Run i) = events_of_turns rule most_turns s i
events_of rule s (line.Give i payload) = Hears i payload ∷ []
events_of rule s (line.Again i) = events_of_hearing i (last_taken i s.history)
events_of rule s (line.Flip i n) = Flips i n ∷ []
events_of rule s (line.Resend i) = Resends i ∷ []
events_of rule s (line.Copy n t) = Copies n t ∷ []
events_of rule s (line.Move i n) = Joins i n ∷ []
events_of rule s line.Skip = []

-- what it does, and what is printed of it
abbrev pub done_line : {V : Type 0} → Serving V → SceneOf V → Line → PrintedSceneOf V
done_line rule s l = printed_scene_after rule s (events_of rule s l)

-- a key has 1 to 255 bytes
abbrev pub is_key : List ℕ → Bool
is_key k = nat_lt 0 (length k) && nat_le (length k) LONGEST_KEY

-- the lengths of an operation's texts are within the limits: keys as above, a value of at most 64 bytes, a prefix of at most 255
abbrev pub fits_op : Op → Bool
fits_op (op.Put k v) = is_key k && nat_le (length v) LONGEST_VALUE
fits_op (op.Get k) = is_key k
fits_op (op.Del k) = is_key k
fits_op (op.List p) = nat_le (length p) LONGEST_KEY

-- of a call: the group has no objects, and the operation is within its lengths
abbrev pub is_plain_call : {V : Type 0} → SceneOf V → Op → Bool
is_plain_call s o = same_mode s.group.mode mode.Plain && fits_op o

abbrev pub fits_object : ObjectCall → Bool
fits_object (object.Store k c) = is_key k && nat_le (length c) LONGEST_CONTENT
fits_object (object.Load k) = is_key k
fits_object (object.Erase k) = is_key k
fits_object (object.Names p) = nat_le (length p) LONGEST_KEY

-- of a call on objects: the group has objects, and the texts are within the limits
abbrev pub is_object_call : {V : Type 0} → SceneOf V → ObjectCall → Bool
is_object_call s c = same_mode s.group.mode mode.Objects && fits_object c

-- of a client that is asked for something: it exists, has not halted, and awaits nothing
abbrev pub asked_tests : {V : Type 0} → SceneOf V → ℕ → List (ℕ × Bool)
asked_tests s i = (2, is_client s i) ∷ (3, is_none (standing_in s i).halted) ∷ (4, awaits_nothing (standing_in s i).awaiting) ∷ []

-- the tests of a line, in their order, each with the kind of a line that fails it
abbrev pub line_tests : {V : Type 0} → SceneOf V → Line → List (ℕ × Bool)
line_tests s (line.Clients n) = (1, false) ∷ []
line_tests s (line.Objects n) = (1, false) ∷ []
line_tests s (line.Key digits) = (1, false) ∷ []
line_tests s (line.Hostile name n) = (1, false) ∷ []
line_tests s (line.Call i o) = (1, is_plain_call s o) ∷ asked_tests s i
line_tests s (line.Object i c) = (1, is_object_call s c) ∷ asked_tests s i
line_tests s (line.Poll i) = asked_tests s i
line_tests s (line.Sync i) = asked_tests s i
line_tests s (line.Serve i) = (2, is_client s i) ∷ (5, waits_in s.up i) ∷ []
line_tests s (line.Take i) = (2, is_client s i) ∷ (5, waits_in s.down i) ∷ []
line_tests s (line.Run i) = (2, is_client s i) ∷ []
line_tests s (line.Give i payload) = (2, is_client s i) ∷ []
line_tests s (line.Again i) = (2, is_client s i) ∷ (5, is_some (last_taken i s.history)) ∷ []
line_tests s (line.Flip i n) = (2, is_client s i) ∷ (5, has_byte s.down i n) ∷ []
line_tests s (line.Resend i) = (2, is_client s i) ∷ (5, is_some (last_sent i s.history)) ∷ []
line_tests s (line.Copy n t) = (1, is_server_number t) ∷ (6, is_server s n) ∷ []
line_tests s (line.Move i n) = (2, is_client s i) ∷ (6, is_server s n) ∷ []
line_tests s line.Skip = []

-- the first kind by which a line is bad where the script stands
unfoldable pub bad_kind : {V : Type 0} → SceneOf V → Line → Option ℕ
bad_kind s l = first_failing (line_tests s l)

-- ---- honest scripts

-- a line by which requests and answers go through one server's queues as they are
abbrev pub is_honest_line : Line → Bool
is_honest_line (line.Clients n) = true
is_honest_line (line.Objects n) = true
is_honest_line (line.Key digits) = true
is_honest_line (line.Hostile name n) = false
is_honest_line (line.Call i o) = true
is_honest_line (line.Object i c) = true
is_honest_line (line.Poll i) = true
is_honest_line (line.Sync i) = true
is_honest_line (line.Serve i) = true
is_honest_line (line.Take i) = true
is_honest_line (line.Run i) = true
is_honest_line (line.Give i payload) = false
is_honest_line (line.Again i) = false
is_honest_line (line.Flip i n) = false
is_honest_line (line.Resend i) = false
is_honest_line (line.Copy n t) = false
is_honest_line (line.Move i n) = false
is_honest_line line.Skip = true
