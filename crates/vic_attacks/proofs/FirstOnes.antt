-- The first so many requests are served by the rule.
use Rattle.std.proofs.Common.{◌≡◌, ℕ, ◌+◌, ◌≤◌, Bool, true, false, if◌then◌else◌, List, [], ◌∷◌, length, refl, sym, ap, subst, ◌∙◌, arith}
use Rattle.vic_order.specs.Serving.{Request, answers_to, by_rule}
use Rattle.vic_attacks.specs.Hostile.{Hostile, by_kind, number, is_late, by_early_request, by_late_request, by_going, answer_as_is, is_replay, with_told}

-- it answers as the server that goes on in it, which then is as it would be by itself; and one request more is counted
record IsEarly (h : Hostile) (who : ℕ) (payload : List ℕ) (r : List ℕ × Hostile) : Type 0 where
  pub answer : r.0 ≡ (by_rule h.going 0 who payload).0
  pub going : r.1.going ≡ (by_rule h.going 0 who payload).1
  pub after : r.1.after ≡ h.after
  pub count : r.1.count ≤ h.count + 1

number_below : (h : Hostile) → number h ≤ h.count + 1
number_below h = omega arith

early_serves : (h : Hostile) (who : ℕ) (payload : List ℕ) → IsEarly h who payload (by_early_request h who payload)
early_serves h who payload =
    let r = by_going answer_as_is h who payload in
    elim (is_replay h.kind) as (λ b. IsEarly h who payload (r.0, if b then record r.1 { told = with_told h.told who r.0 } else r.1)) [
      | true ↦ record { answer = refl; going = refl; after = refl; count = number_below h }
      | false ↦ record { answer = refl; going = refl; after = refl; count = number_below h }
    ]

not_late : (h : Hostile) → h.count + 1 ≤ h.after → is_late h ≡ false
not_late h few = grind (arith, number_below h)

serves : (h : Hostile) → h.count + 1 ≤ h.after → (seat who : ℕ) (payload : List ℕ) → IsEarly h who payload (by_kind h seat who payload)
serves h few seat who payload =
    let P : Bool → Type 0 = λ b. IsEarly h who payload (if b then by_late_request h.kind h who payload else by_early_request h who payload) in
    subst P (sym (not_late h few)) (early_serves h who payload)

pub early_answers : (requests : List Request) (h : Hostile) → h.count + length requests ≤ h.after → answers_to by_kind h requests ≡ answers_to by_rule h.going requests
early_answers [] h few = refl
early_answers (r ∷ later) h few =
    let s = serves h (omega arith) r.seat r.who r.payload in
    let next = by_kind h r.seat r.who r.payload in
    let rest = early_answers later next.1 (omega (arith, s.count, s.after)) in
    ap (λ bytes. bytes ∷ answers_to by_kind next.1 later) s.answer
    ∙ ap (λ texts. (by_rule h.going 0 r.who r.payload).0 ∷ texts) (rest ∙ ap (λ v. answers_to by_rule v later) s.going)
