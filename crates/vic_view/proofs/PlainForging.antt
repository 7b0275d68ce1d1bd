-- What the loop that looks through all texts keeps.
use Rattle.std.proofs.Common.{◌≡◌, ℕ, ◌+◌, ◌<◌, true, false, not, List, [], ◌∷◌, ◌++◌, length, take, drop, reverse, Option, get_or, sym, ◌∙◌, ap, subst}
use Rattle.std.specs.Option.{option_to_list}
use Rattle.std.specs.List.{list_any}
use Rattle.vic_wire.specs.declared.message.Digest32.{Digest32}
use Rattle.vic_wire.specs.Hashes.{Group}
use Rattle.vic_rules.specs.declared.trace.TraceStep.{TraceStep}
use Rattle.vic_rules.specs.History.{AreSteps}
use Rattle.vic_rules.specs.Trust.{texts_made}
use Rattle.vic_script.specs.Print.{is_among, takes_forged, is_forged}
use Rattle.vic_laws.proofs.Standings.{earlier_steps}
use Rattle.vic_view.specs.declared.replay.ClientPath.{ClientPath}
use Rattle.vic_view.specs.Replay.{read_by, replayed_path}
use Rattle.vic_view.specs.Making.{HasEntries, hashes_of, hash_at, request_in, made_by, taken_with, has_forged, SameTexts}
use Rattle.vic_view.proofs.Loops.{newest_step}
use Rattle.vic_view.proofs.Making.{made_at_step, taken_at_step}
use Rattle.vic_view.proofs.Forging.{replayed_spelled, steps_then, any_same, same_more, forged_at, not_forged_next}

-- ---- the step with a number

-- the step with a number, after those before it
pub record IsAt (g : Group) (xs : List TraceStep) (i : ℕ) (x : TraceStep) : Type 0 where
  pub within : i < length xs
  pub is : x ≡ get_or xs i x
  pub steps : AreSteps g (reverse xs)

steps_to : (g : Group) (xs : List TraceStep) (i : ℕ) (x : TraceStep) → IsAt g xs i x → AreSteps g (x ∷ reverse (take i xs))
steps_to g xs i x a = earlier_steps g (reverse (drop (i + 1) xs)) (x ∷ reverse (take i xs)) (steps_then g xs i x a.within a.is a.steps)

newest : (g : Group) (xs : List TraceStep) (i : ℕ) (x : TraceStep) → IsAt g xs i x → reverse (take (i + 1) xs) ≡ x ∷ reverse (take i xs)
newest g xs i x a = newest_step xs i x a.within a.is

-- each entry of the path that the client then has can be spelled
pub spelled_then : (g : Group) (xs : List TraceStep) (i : ℕ) (x : TraceStep) → IsAt g xs i x → (p : ClientPath) → p ≡ replayed_path x.client (reverse (take (i + 1) xs)) → HasEntries p
spelled_then g xs i x a p is =
    let steps : AreSteps g (reverse (take (i + 1) xs)) = subst (AreSteps g) (sym (newest g xs i x a)) (steps_to g xs i x a) in
    subst HasEntries (sym is) (replayed_spelled g (reverse (take (i + 1) xs)) steps x.client)

-- the hashes along the path that the client of a step then has
pub record AreHashes (g : Group) (xs : List TraceStep) (i : ℕ) (x : TraceStep) (hs : List Digest32) : Type 0 where
  pub are : hs ≡ hashes_of g (replayed_path x.client (reverse (take (i + 1) xs))).places

pub are_hashes : (g : Group) (xs : List TraceStep) (i : ℕ) (x : TraceStep) (p : ClientPath) (hs : List Digest32) → p ≡ replayed_path x.client (reverse (take (i + 1) xs)) → hs ≡ hashes_of g p.places
    → AreHashes g xs i x hs
are_hashes g xs i x p hs is e = record { are = e ∙ ap (λ (q : ClientPath). hashes_of g q.places) is }

hashes_now : (g : Group) (xs : List TraceStep) (i : ℕ) (x : TraceStep) → IsAt g xs i x → (hs : List Digest32) → AreHashes g xs i x hs → hs ≡ hashes_of g (replayed_path x.client (x ∷ reverse (take i xs))).places
hashes_now g xs i x a hs h = h.are ∙ ap (λ (past : List TraceStep). hashes_of g (replayed_path x.client past).places) (newest g xs i x a)

-- ---- the loop

-- what is found at a step
takes_forged_then : (g : Group) (xs : List TraceStep) (i : ℕ) (x : TraceStep) → IsAt g xs i x → (hs : List Digest32) → AreHashes g xs i x hs → (made : List (List ℕ)) → SameTexts made (texts_made g (reverse (take i xs)))
    → has_forged made (taken_with (hash_at hs) (read_by x.input x.returned)) ≡ takes_forged g (reverse (take i xs)) x
takes_forged_then g xs i x a hs h made same =
    let past : List TraceStep = reverse (take i xs) in
    any_same (λ t. not (is_among made t)) (λ t. not (is_among (texts_made g past) t)) (λ t. ap not (same t)) (taken_with (hash_at hs) (read_by x.input x.returned))
    ∙ ap (list_any (λ t. not (is_among (texts_made g past) t)))
    (ap (λ (ks : List Digest32). taken_with (hash_at ks) (read_by x.input x.returned)) (hashes_now g xs i x a hs h) ∙ sym (taken_at_step g [] x past (steps_to g xs i x a)))

-- where some text is forged the history is
pub forged_then : (g : Group) (xs : List TraceStep) (i : ℕ) (x : TraceStep) → IsAt g xs i x → (hs : List Digest32) → AreHashes g xs i x hs → (made : List (List ℕ)) → SameTexts made (texts_made g (reverse (take i xs)))
    → has_forged made (taken_with (hash_at hs) (read_by x.input x.returned)) ≡ true → true ≡ is_forged g (reverse xs)
forged_then g xs i x a hs h made same found = sym (forged_at g xs i x a.within a.is (sym (takes_forged_then g xs i x a hs h made same) ∙ found))

-- and where each was it isn't yet
pub not_forged_then : (g : Group) (xs : List TraceStep) (i : ℕ) (x : TraceStep) → IsAt g xs i x → (hs : List Digest32) → AreHashes g xs i x hs → (made : List (List ℕ))
    → SameTexts made (texts_made g (reverse (take i xs))) → is_forged g (reverse (take i xs)) ≡ false → has_forged made (taken_with (hash_at hs) (read_by x.input x.returned)) ≡ false
    → is_forged g (reverse (take (i + 1) xs)) ≡ false
not_forged_then g xs i x a hs h made same before found = not_forged_next g xs i x a.within a.is before (sym (takes_forged_then g xs i x a hs h made same) ∙ found)

-- the texts that were made, with that of one more step
pub made_then : (g : Group) (xs : List TraceStep) (i : ℕ) (x : TraceStep) → IsAt g xs i x → (hs : List Digest32) → AreHashes g xs i x hs → (made new : List (List ℕ)) → SameTexts made (texts_made g (reverse (take i xs)))
    → new ≡ made ++ option_to_list (made_by (hash_at hs) x.client (request_in x.sent)) → SameTexts new (texts_made g (reverse (take (i + 1) xs)))
made_then g xs i x a hs h made new same e =
    let past : List TraceStep = reverse (take i xs) in
    let o : Option (List ℕ) = made_by (hash_at hs) x.client (request_in x.sent) in
    let told : texts_made g (reverse (take (i + 1) xs)) ≡ option_to_list o ++ texts_made g past =
    ap (texts_made g) (newest g xs i x a) ∙ made_at_step g [] x past (steps_to g xs i x a)
    ∙ ap (λ (ks : List Digest32). option_to_list (made_by (hash_at ks) x.client (request_in x.sent)) ++ texts_made g past) (sym (hashes_now g xs i x a hs h)) in
    λ t. ap (λ (ts : List (List ℕ)). is_among ts t) e ∙ same_more made (texts_made g past) same o t ∙ ap (λ (ts : List (List ℕ)). is_among ts t) (sym told)
