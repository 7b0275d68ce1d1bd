-- A talk that goes on has printed and sent what it had before, and more.
use Rattle.std.proofs.Common.{◌≡◌, ℕ, zero, suc, ◌+◌, Bool, true, false, List, [], ◌∷◌, ◌++◌, Option, Some, None, nat_eq, nat_lt, if◌then◌else◌, refl, sym, ap, ◌∙◌, append_assoc, append-nil}
use Rattle.vic_rules.specs.declared.trace.Input.{Input}
use Rattle.vic_rules.specs.declared.trace.Input.TheVariants as input
use Rattle.vic_rules.specs.Client.{payload_of}
use Rattle.vic_script.specs.Run.{script_limit, line_end}
use Rattle.vic_text.specs.declared.client_line.ClientLine.{ClientLine}
use Rattle.vic_text.specs.declared.client_line.ClientLine.TheVariants as line
use Rattle.vic_text.specs.ClientLines.{client_line_of}
use Rattle.vic_session.specs.Talks.{Talk, Talker, Doing, Calls, Tells, Settles, Leaves, Bad, Halts, talk_after_step, talk_after_asking, talk_from_line, talk_with_state, state_line, unsettled_count, one_of, sent_in, talk_at_next_line, talk_after_line, talk_by_check, talk_after_payload, outcome_lines, returned_in, object_in, is_idle}
use Rattle.vic_session.proofs.Steps.{moved, sent_step}

pub record Extends (t v : Talk) : Type 0 where
  pub text : (more : List ℕ) × (v.text ≡ t.text ++ more)
  pub sent : (more : List (List ℕ)) × (sent_in v.history ≡ sent_in t.history ++ more)

pub extends_same : (t v : Talk) → v.text ≡ t.text → v.history ≡ t.history → Extends t v
extends_same t v x h = record { text = ([], x ∙ sym (append-nil t.text)); sent = ([], ap sent_in h ∙ sym (append-nil (sent_in t.history))) }

pub extends_more : (t u v : Talk) → Extends t u → Extends u v → Extends t v
extends_more t u v a b = record {
  text = (a.text.0 ++ b.text.0, b.text.1 ∙ ap (λ (l : List ℕ). l ++ b.text.0) a.text.1 ∙ append_assoc t.text a.text.0 b.text.0);
  sent = (a.sent.0 ++ b.sent.0, b.sent.1 ∙ ap (λ (l : List (List ℕ)). l ++ b.sent.0) a.sent.1 ∙ append_assoc (sent_in t.history) a.sent.0 b.sent.0);
}

extends_steps : (w : Talker) (t : Talk) (given : Input) → Extends t (talk_after_step w t given)
unfolding talk_after_step
extends_steps w t given = record { text = ([], sym (append-nil t.text)); sent = (one_of (payload_of w.group w.me (moved w t given).next (moved w t given).sends), sent_step w t given) }

pub extends_asks : (w : Talker) (t : Talk) (given : Input) (d : Doing) → Extends t (talk_after_asking w t given d)
extends_asks w t given d = extends_more t (talk_after_step w t given) (talk_after_asking w t given d) (extends_steps w t given) (extends_same (talk_after_step w t given) (talk_after_asking w t given d) refl refl)

extends_tells : (w : Talker) (t : Talk) → Extends t (talk_with_state t)
extends_tells w t = record { text = (state_line t.now, refl); sent = ([], sym (append-nil (sent_in t.history))) }

extends_either : (b : Bool) (t u v : Talk) → Extends t u → Extends t v → Extends t (if b then u else v)
extends_either true t u v x y = x
extends_either false t u v x y = y

extends_begins : (w : Talker) (t : Talk) (l : Option ClientLine) (next : Talk → Talk) → ((u : Talk) → Extends u (next u)) → Extends t (talk_from_line w t l next)
extends_begins w t None next h = extends_same t (record t { doing = Bad 1 }) refl refl
extends_begins w t (Some line.Skip) next h = h t
extends_begins w t (Some (line.Call o)) next h = extends_asks w t (input.Call o) Calls
extends_begins w t (Some (line.Object c)) next h = extends_asks w t (input.Object c) Calls
extends_begins w t (Some line.Poll) next h = extends_asks w t input.Poll Tells
extends_begins w t (Some line.Sync) next h = extends_asks w t input.Sync Tells
extends_begins w t (Some (line.Settle zero)) next h = extends_more t (talk_with_state t) (next (talk_with_state t)) (extends_tells w t) (h (talk_with_state t))
extends_begins w t (Some (line.Settle (suc n))) next h =
    extends_either (nat_eq (unsettled_count t) 0) t (next (talk_with_state t)) (talk_after_asking w t input.Poll (Settles n))
    (extends_more t (talk_with_state t) (next (talk_with_state t)) (extends_tells w t) (h (talk_with_state t))) (extends_asks w t input.Poll (Settles n))

-- the talk at a line
abbrev pub here : Talker → Talk → List ℕ → List (List ℕ) → Talk
here w t text texts = record t { number = t.number + 1; behind = line_end w.total t.behind text; lines = texts }

pub extends_on : (w : Talker) (t : Talk) (texts : List (List ℕ)) → Extends t (talk_at_next_line w t texts)
unfolding talk_at_next_line
extends_on w t [] = extends_same t (record t { doing = Leaves; lines = [] }) refl refl
extends_on w t (text ∷ texts) =
    let u = here w t text texts in
    extends_more t u (talk_at_next_line w t (text ∷ texts)) (extends_same t u refl refl)
    (extends_either (nat_lt script_limit u.behind) u (record u { doing = Bad 7 }) (talk_from_line w u (client_line_of w.group.mode text) (λ v. talk_at_next_line w v texts))
    (extends_same u (record u { doing = Bad 7 }) refl refl) (extends_begins w u (client_line_of w.group.mode text) (λ v. talk_at_next_line w v texts) (λ v. extends_on w v texts)))

-- told, and then on
pub extends_told : (w : Talker) (t : Talk) → Extends t (let u = talk_with_state t in talk_at_next_line w u u.lines)
extends_told w t = let u = talk_with_state t in extends_more t u (talk_at_next_line w u u.lines) (extends_tells w t) (extends_on w u u.lines)

pub extends_ends : (w : Talker) (t : Talk) (d : Doing) → Extends t (talk_after_line w t d)
extends_ends w t Calls = extends_on w t t.lines
extends_ends w t Tells = extends_told w t
extends_ends w t (Settles zero) = extends_told w t
extends_ends w t (Settles (suc n)) =
    extends_either (nat_eq (unsettled_count t) 0) t (let u = talk_with_state t in talk_at_next_line w u u.lines) (talk_after_asking w t input.Poll (Settles n)) (extends_told w t) (extends_asks w t input.Poll (Settles n))
extends_ends w t Leaves = extends_same t t refl refl
extends_ends w t (Bad k) = extends_same t t refl refl
extends_ends w t (Halts k p) = extends_same t t refl refl

pub extends_from : (w : Talker) (t : Talk) (payload : List ℕ) (k : Option ℕ) → Extends t (talk_by_check w t payload k)
extends_from w t payload (Some k) = extends_same t (record t { doing = Halts k payload }) refl refl
extends_from w t payload None = extends_either (is_idle t.now) t (talk_after_line w t t.doing) t (extends_ends w t t.doing) (extends_same t t refl refl)

-- the talk after a step on a payload, with what is printed of it
abbrev pub after_step : Talker → Talk → List ℕ → Talk
after_step w t payload = let u = talk_after_step w t (input.Payload payload) in record u { text = u.text ++ outcome_lines u.now.halted (returned_in u.history) (object_in u.history) }

pub hears_is : (w : Talker) (t : Talk) (payload : List ℕ) → talk_after_payload w t payload ≡ talk_by_check w (after_step w t payload) payload (talk_after_step w t (input.Payload payload)).now.halted
unfolding talk_after_payload
hears_is w t payload = refl

pub extends_after : (w : Talker) (t : Talk) (payload : List ℕ) → Extends t (after_step w t payload)
extends_after w t payload =
    let u = talk_after_step w t (input.Payload payload) in
    extends_more t u (after_step w t payload) (extends_steps w t (input.Payload payload)) (record { text = (outcome_lines u.now.halted (returned_in u.history) (object_in u.history), refl); sent = ([], sym (append-nil (sent_in u.history))) })

pub extends_hears : (w : Talker) (t : Talk) (payload : List ℕ) → Extends t (talk_after_payload w t payload)
unfolding talk_after_payload
extends_hears w t payload =
    let u = after_step w t payload in
    extends_more t u (talk_after_payload w t payload) (extends_after w t payload) (extends_from w u payload (talk_after_step w t (input.Payload payload)).now.halted)
