-- Servers that stay as a server is that follows the rule.
use Rattle.std.proofs.Common.{◌≡◌, ℕ, true, false, List, [], ◌∷◌, refl, sym, ap, subst}
use Rattle.std.specs.Prelude.{if◌then◌else◌}
use Rattle.vic_wire.specs.Messages.{answer_text}
use Rattle.vic_order.specs.Order.{Server, serve}
use Rattle.vic_order.specs.Serving.{Serving, by_rule, Request, IsAsked, answers_to, AnswersAs}
use Rattle.vic_order.specs.Honest.{IsSameServer}
use Rattle.vic_attacks.specs.declared.HostileKind.{HostileKind}
use Rattle.vic_attacks.specs.declared.HostileKind.TheVariants as kind
use Rattle.vic_attacks.specs.Hostile.{Hostile, by_kind, is_late, by_early_request, by_late_request, by_going, answer_as_is, is_replay, with_told}
use Rattle.vic_runs.specs.Reached.{GoesAs}

-- where R relates a server to one that follows the rule, it answers the same to a request that a call can make, and R relates what
-- both are then
abbrev pub IsKept : {V : Type 0} → Serving V → (V → Server → Type 0) → Type 0
IsKept {V} rule R = (v : V) (w : Server) → R v w → (seat who : ℕ) (payload : List ℕ) → IsAsked (record { seat = seat; who = who; payload = payload })
    → ((rule v seat who payload).0 ≡ answer_text (serve w who payload).answer) × R (rule v seat who payload).1 (serve w who payload).next

-- of a server that follows the rule and that server
pub same_is_kept : IsKept by_rule IsSameServer
same_is_kept v w same seat who payload asked = (ap (λ s. answer_text (serve s who payload).answer) same, ap (λ s. (serve s who payload).next) same)

front_is : (a b : List ℕ) (more others : List (List ℕ)) → a ∷ more ≡ b ∷ others → a ≡ b
front_is a b more others e = cc

rest_is : (a b : List ℕ) (more others : List (List ℕ)) → a ∷ more ≡ b ∷ others → more ≡ others
rest_is a b more others e = cc

-- of servers of any kind that answer as one that follows the rule
pub alike_is_kept : {V : Type 0} (rule : Serving V) → IsKept rule (AnswersAs rule)
alike_is_kept rule v w alike seat who payload asked =
    let r : Request = record { seat = seat; who = who; payload = payload } in (
      front_is (rule v seat who payload).0 (by_rule w seat who payload).0 [] [] (alike (r ∷ []) (asked, tt)),
      λ later all. rest_is (rule v seat who payload).0 (by_rule w seat who payload).0 (answers_to rule (rule v seat who payload).1 later) (answers_to by_rule (by_rule w seat who payload).1 later) (alike (r ∷ later) (asked, all)),
    )

-- ---- a hostile server of the kind that doesn't misbehave

-- it answers as the server that goes on in it, which then is as it would be by itself
record IsServedByRule (h : Hostile) (who : ℕ) (payload : List ℕ) (r : List ℕ × Hostile) : Type 0 where
  answer : r.0 ≡ answer_text (serve h.going who payload).answer
  goes : GoesAs r.1 (serve h.going who payload).next

by_going_serves : (h : Hostile) → h.kind ≡ kind.Honest → (who : ℕ) (payload : List ℕ) → IsServedByRule h who payload (by_going answer_as_is h who payload)
by_going_serves h e who payload = record { answer = refl; goes = (e, refl) }

late_serves : (h : Hostile) → h.kind ≡ kind.Honest → (who : ℕ) (payload : List ℕ) → IsServedByRule h who payload (by_late_request h.kind h who payload)
late_serves h e who payload =
    let P : HostileKind → Type 0 = λ k. IsServedByRule h who payload (by_late_request k h who payload) in
    subst P (sym e) (by_going_serves h e who payload)

early_serves : (h : Hostile) → h.kind ≡ kind.Honest → (who : ℕ) (payload : List ℕ) → IsServedByRule h who payload (by_early_request h who payload)
early_serves h e who payload =
    let r : List ℕ × Hostile = by_going answer_as_is h who payload in
    let P : HostileKind → Type 0 = λ k. IsServedByRule h who payload (r.0, if is_replay k then record r.1 { told = with_told h.told who r.0 } else r.1) in
    subst P (sym e) (by_going_serves h e who payload)

kind_serves : (h : Hostile) → h.kind ≡ kind.Honest → (seat who : ℕ) (payload : List ℕ) → IsServedByRule h who payload (by_kind h seat who payload)
kind_serves h e seat who payload =
    elim (is_late h) as (λ b. IsServedByRule h who payload (if b then by_late_request h.kind h who payload else by_early_request h who payload)) [
      | true ↦ late_serves h e who payload
      | false ↦ early_serves h e who payload
    ]

pub goes_is_kept : IsKept by_kind GoesAs
goes_is_kept h server goes seat who payload asked =
    let s : IsServedByRule h who payload (by_kind h seat who payload) = kind_serves h goes.0 seat who payload in
    let P : Server → Type 0 = λ v. ((by_kind h seat who payload).0 ≡ answer_text (serve v who payload).answer) × GoesAs (by_kind h seat who payload).1 (serve v who payload).next in
    subst P goes.1 (s.answer, s.goes)
