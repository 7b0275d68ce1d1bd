-- Servers of any kind: what one answers to a request, and what it is then.
use Rattle.std.specs.Prelude.{◌≡◌, ℕ, ◌<◌, ◌^◌, List, [], ◌∷◌}
use Rattle.std.specs.List.{AllByRecursion}
use Rattle.vic_dict.specs.Lists.{AreBytes}
use Rattle.vic_wire.specs.Messages.{answer_text}
use Rattle.vic_order.specs.Order.{Server, serve}

-- how a kind of server serves: from what one is, the seat of a connection, who asks and a payload, the bytes of the answer and
-- what the server is then
abbrev pub Serving : Type 0 → Type 0
Serving V = V → ℕ → ℕ → List ℕ → List ℕ × V

-- the kind that follows the rule; the rule doesn't ask for the seat
abbrev pub by_rule : Serving Server
by_rule s seat who payload = (answer_text (serve s who payload).answer, (serve s who payload).next)

-- a request as it reaches a server
pub record Request : Type 0 where
  -- the number of the connection
  pub seat : ℕ
  -- the client that it greeted as; 0 for none
  pub who : ℕ
  -- the bytes, whatever they are
  pub payload : List ℕ

-- one that a call can make: the numbers are ones of their types and the payload is bytes
abbrev pub IsAsked : Request → Type 0
IsAsked r = (r.seat < 2 ^ 32) × ((r.who < 2 ^ 8) × AreBytes r.payload)

-- what a server answers to requests, one after the other
abbrev pub answers_to : {V : Type 0} → Serving V → V → List Request → List (List ℕ)
answers_to rule v [] = []
answers_to rule v (r ∷ later) = (rule v r.seat r.who r.payload).0 ∷ answers_to rule (rule v r.seat r.who r.payload).1 later

-- whatever the requests that calls make, it answers as a server does that follows the rule
abbrev pub AnswersAs : {V : Type 0} → Serving V → V → Server → Type 0
AnswersAs rule v s = (requests : List Request) → AllByRecursion IsAsked requests → answers_to rule v requests ≡ answers_to by_rule s requests
