-- The test for forged histories.
use Rattle.std.proofs.Common.{◌≡◌, ℕ, Bool, true, false, not, ◌||◌, List, [], ◌∷◌, length, Option, Some, None, inl, inr, refl, sym, ap, subst, ◌∙◌, true≢false}
use Rattle.std.specs.List.{list_any}
use Rattle.std.specs.Str.{bytes_eq}
use Rattle.std.specs.Prelude.{◌↔◌, is_some, if◌then◌else◌}
use Rattle.std.proofs.lemmas.Bool.{or_left, or_right, cases_Bool, not_from_true, not_from_false, false_from_ne_true}
use Rattle.std.proofs.lemmas.Slice.Eq.{bytes_eq-Decides}
use Rattle.vic_dict.specs.Lists.{IsIn}
use Rattle.vic_wire.specs.Hashes.{Group}
use Rattle.vic_rules.specs.declared.trace.TraceStep.{TraceStep}
use Rattle.vic_rules.specs.Trust.{IsForged, texts_taken, texts_made}
use Rattle.vic_script.specs.Print.{is_among, takes_forged, ForgedText, first_forged_of, forged_text_at, or_forged_text, first_forged, is_forged}

-- a test that one of a list passes
any_found : {X : Type 0} (test : X → Bool) (xs : List X) → list_any test xs ≡ true → (x : X) × IsIn xs x × (test x ≡ true)
any_found test [] e = absurd (true≢false (sym e))
any_found test (x ∷ xs) e =
    elim (cases_Bool (test x)) [
      | inl holds ↦ (x, inl refl, holds)
      | inr other ↦ let later = any_found test xs (sym (ap (λ b. b || list_any test xs) other) ∙ e) in (later.0, inr later.1, later.2)
    ]

any_from : {X : Type 0} (test : X → Bool) (xs : List X) (x : X) → IsIn xs x → test x ≡ true → list_any test xs ≡ true
any_from test [] x i e = absurd i
any_from test (y ∷ xs) x (inl same) e = or_left (test y) (list_any test xs) (ap test same ∙ e)
any_from test (y ∷ xs) x (inr i) e = or_right (test y) (list_any test xs) (any_from test xs x i e)

pub is_among-in : (texts : List (List ℕ)) (text : List ℕ) → is_among texts text ≡ true → IsIn texts text
is_among-in texts text e = let found = any_found (bytes_eq text) texts e in subst (IsIn texts) (sym ((bytes_eq-Decides text found.0).0 found.2)) found.1

pub in-is_among : (texts : List (List ℕ)) (text : List ℕ) → IsIn texts text → is_among texts text ≡ true
in-is_among texts text i = any_from (bytes_eq text) texts text i ((bytes_eq-Decides text text).1 refl)

-- a step that takes a forged text
abbrev TakesForged : Group → List TraceStep → TraceStep → Type 0
TakesForged g past x = (text : List ℕ) × IsIn (texts_taken g past x) text × (IsIn (texts_made g past) text → ⊥)

takes_forged-found : (g : Group) (past : List TraceStep) (x : TraceStep) → takes_forged g past x ≡ true → TakesForged g past x
takes_forged-found g past x e =
    let found = any_found (λ t. not (is_among (texts_made g past) t)) (texts_taken g past x) e in
    (found.0, found.1, λ i. true≢false (sym found.2 ∙ not_from_true _ (in-is_among (texts_made g past) found.0 i)))

takes_forged-from : (g : Group) (past : List TraceStep) (x : TraceStep) → TakesForged g past x → takes_forged g past x ≡ true
takes_forged-from g past x h =
    any_from (λ t. not (is_among (texts_made g past) t)) (texts_taken g past x) h.0 h.1
    (not_from_false _ (false_from_ne_true (is_among (texts_made g past) h.0) (λ e. h.2 (is_among-in (texts_made g past) h.0 e))))

-- ---- the first such text

first-found : (made texts : List (List ℕ)) → is_some (first_forged_of made texts) ≡ list_any (λ t. not (is_among made t)) texts
first-found made [] = refl
first-found made (t ∷ texts) = now (is_among made t) (first-found made texts)
  where
    now : (b : Bool) → is_some (first_forged_of made texts) ≡ list_any (λ u. not (is_among made u)) texts
        → is_some (if b then first_forged_of made texts else Some t) ≡ (not b || list_any (λ u. not (is_among made u)) texts)
    now true later = later
    now false later = refl

some-or : (a b : Option ForgedText) → is_some (or_forged_text a b) ≡ (is_some a || is_some b)
some-or None b = refl
some-or (Some u) b = refl

some-at : (n : ℕ) (o : Option (List ℕ)) → is_some (forged_text_at n o) ≡ is_some o
some-at n None = refl
some-at n (Some t) = refl

pub is_forged-first : (g : Group) → is_forged g [] ≡ false
unfolding is_forged first_forged
is_forged-first g = refl

-- a history is forged where the one before is, or its newest step takes such a text
pub is_forged-step : (g : Group) (x : TraceStep) (past : List TraceStep) → is_forged g (x ∷ past) ≡ (is_forged g past || takes_forged g past x)
unfolding is_forged first_forged
is_forged-step g x past =
    some-or (first_forged g past) (forged_text_at (length (x ∷ past)) (first_forged_of (texts_made g past) (texts_taken g past x)))
    ∙ ap (λ b. is_some (first_forged g past) || b) (some-at (length (x ∷ past)) (first_forged_of (texts_made g past) (texts_taken g past x)) ∙ first-found (texts_made g past) (texts_taken g past x))

forged-found : (g : Group) (h : List TraceStep) → is_forged g h ≡ true → IsForged g h
forged-found g [] e = absurd (true≢false (sym e ∙ is_forged-first g))
forged-found g (x ∷ past) e =
    elim (cases_Bool (is_forged g past)) [
      | inl holds ↦ inl (forged-found g past holds)
      | inr other ↦ inr (takes_forged-found g past x (sym (ap (λ b. b || takes_forged g past x) other) ∙ (sym (is_forged-step g x past) ∙ e)))
    ]

forged-from : (g : Group) (h : List TraceStep) → IsForged g h → is_forged g h ≡ true
forged-from g [] f = absurd f
forged-from g (x ∷ past) (inl before) = is_forged-step g x past ∙ or_left (is_forged g past) (takes_forged g past x) (forged-from g past before)
forged-from g (x ∷ past) (inr now) = is_forged-step g x past ∙ or_right (is_forged g past) (takes_forged g past x) (takes_forged-from g past x now)

-- the test is true exactly where a text was taken that no client had made
pub is_forged-Decides : (g : Group) (h : List TraceStep) → (is_forged g h ≡ true) ↔ IsForged g h
is_forged-Decides g h = (forged-found g h, forged-from g h)

-- so what equals it means that
pub forged_means : (g : Group) (h : List TraceStep) (b : Bool) → b ≡ is_forged g h → (b ≡ true) ↔ IsForged g h
forged_means g h b e = subst (λ (x : Bool). (x ≡ true) ↔ IsForged g h) (sym e) (is_forged-Decides g h)

-- where nothing is forged the test says so
pub is_forged-none : (g : Group) (h : List TraceStep) → (IsForged g h → ⊥) → is_forged g h ≡ false
is_forged-none g h honest = false_from_ne_true (is_forged g h) (λ e. honest (forged-found g h e))
