-- A server of the kind that doesn't misbehave serves by the rule.
use Rattle.std.proofs.Common.{◌≡◌, ℕ, true, false, if◌then◌else◌, List, [], ◌∷◌, refl, sym, ap, subst, ◌∙◌}
use Rattle.vic_order.specs.Serving.{Request, answers_to, by_rule}
use Rattle.vic_attacks.specs.declared.HostileKind.{HostileKind}
use Rattle.vic_attacks.specs.declared.HostileKind.TheVariants as kind
use Rattle.vic_attacks.specs.Hostile.{Hostile, by_kind, is_late, by_early_request, by_late_request, by_going, answer_as_is, is_replay, with_told}

-- it answers as the server that goes on in it, which then is as it would be by itself; and it stays of its kind
pub record IsServedByRule (h : Hostile) (who : ℕ) (payload : List ℕ) (r : List ℕ × Hostile) : Type 0 where
  pub answer : r.0 ≡ (by_rule h.going 0 who payload).0
  pub going : r.1.going ≡ (by_rule h.going 0 who payload).1
  pub kind : r.1.kind ≡ kind.Honest

by_going_serves : (h : Hostile) → h.kind ≡ kind.Honest → (who : ℕ) (payload : List ℕ) → IsServedByRule h who payload (by_going answer_as_is h who payload)
by_going_serves h e who payload = record { answer = refl; going = refl; kind = e }

late_serves : (h : Hostile) → h.kind ≡ kind.Honest → (who : ℕ) (payload : List ℕ) → IsServedByRule h who payload (by_late_request h.kind h who payload)
late_serves h e who payload =
    let P : HostileKind → Type 0 = λ k. IsServedByRule h who payload (by_late_request k h who payload) in
    subst P (sym e) (by_going_serves h e who payload)

early_serves : (h : Hostile) → h.kind ≡ kind.Honest → (who : ℕ) (payload : List ℕ) → IsServedByRule h who payload (by_early_request h who payload)
early_serves h e who payload =
    let r = by_going answer_as_is h who payload in
    let P : HostileKind → Type 0 = λ k. IsServedByRule h who payload (r.0, if is_replay k then record r.1 { told = with_told h.told who r.0 } else r.1) in
    subst P (sym e) (by_going_serves h e who payload)

serves : (h : Hostile) → h.kind ≡ kind.Honest → (seat who : ℕ) (payload : List ℕ) → IsServedByRule h who payload (by_kind h seat who payload)
serves h e seat who payload =
    elim (is_late h) as (λ b. IsServedByRule h who payload (if b then by_late_request h.kind h who payload else by_early_request h who payload)) [
      | true ↦ late_serves h e who payload
      | false ↦ early_serves h e who payload
    ]

pub honest_answers : (requests : List Request) (h : Hostile) → h.kind ≡ kind.Honest → answers_to by_kind h requests ≡ answers_to by_rule h.going requests
honest_answers [] h e = refl
honest_answers (r ∷ later) h e =
    let s = serves h e r.seat r.who r.payload in
    let next = by_kind h r.seat r.who r.payload in
    let rest = honest_answers later next.1 s.kind in
    ap (λ bytes. bytes ∷ answers_to by_kind next.1 later) s.answer
    ∙ ap (λ texts. (by_rule h.going 0 r.who r.payload).0 ∷ texts) (rest ∙ ap (λ v. answers_to by_rule v later) s.going)
