-- What the loop that looks for forged texts keeps.
use Rattle.std.proofs.Common.{◌≡◌, ℕ, suc, zero, ◌+◌, ◌-◌, ◌<◌, ◌≤◌, Bool, true, false, not, ◌||◌, List, [], ◌∷◌, ◌++◌, length, take, drop, reverse, Option, get_or, bytes_eq, refl, sym, ◌∙◌, ap, subst, arith}
use Rattle.std.specs.Option.{option_to_list}
use Rattle.std.specs.List.{list_any, AllByRecursion}
use Rattle.std.proofs.lemmas.Bool.{or_left, or_right}
use Rattle.std.proofs.lemmas.List.{reverse-append, take-append-drop, length-map}
use Rattle.vic_dict.specs.declared.op.Entry.{Entry}
use Rattle.vic_wire.specs.declared.message.Digest32.{Digest32}
use Rattle.vic_wire.specs.Hashes.{Group}
use Rattle.vic_wire.specs.Messages.{IsEntry}
use Rattle.vic_rules.specs.declared.trace.TraceStep.{TraceStep}
use Rattle.vic_rules.specs.History.{IsLawful, AreSteps}
use Rattle.vic_rules.specs.Trust.{texts_made}
use Rattle.vic_script.specs.Print.{is_among, takes_forged, is_forged}
use Rattle.vic_script.proofs.Forged.{is_forged-first, is_forged-step}
use Rattle.vic_laws.proofs.Standings.{earlier_steps}
use Rattle.vic_laws.proofs.Paths.{path_spelled}
use Rattle.vic_view.specs.declared.replay.Place.{Place}
use Rattle.vic_view.specs.declared.replay.ClientPath.{ClientPath}
use Rattle.vic_view.specs.Replay.{no_path, read_by, replayed_path, AreReplayed}
use Rattle.vic_view.specs.Making.{IsPlaceEntry, HasEntries, hashes_of, hashes_with, hash_at, request_in, made_by, taken_with, has_forged, SameTexts}
use Rattle.vic_view.proofs.Loops.{newest_step}
use Rattle.vic_view.proofs.Replays.{entries, replays_path}
use Rattle.vic_view.proofs.Making.{made_at_step, taken_at_step}

-- ---- entries can be spelled

all_front : (P : Entry → Type 0) (xs ys : List Entry) → AllByRecursion P (xs ++ ys) → AllByRecursion P xs
all_front P [] ys a = tt
all_front P (x ∷ xs) ys a = (a.0, all_front P xs ys a.1)

all_back : (P : Entry → Type 0) (xs ys : List Entry) → AllByRecursion P (xs ++ ys) → AllByRecursion P ys
all_back P [] ys a = a
all_back P (x ∷ xs) ys a = all_back P xs ys a.1

all_reverse : (ps : List Place) → AllByRecursion IsEntry (reverse (entries ps)) → AllByRecursion IsPlaceEntry ps
all_reverse [] a = tt
all_reverse (p ∷ ps) a =
    let b : AllByRecursion IsEntry (reverse (entries ps) ++ p.entry ∷ []) = subst (AllByRecursion IsEntry) (reverse-append (p.entry ∷ []) (entries ps)) a in
    ((all_back IsEntry (reverse (entries ps)) (p.entry ∷ []) b).0, all_reverse ps (all_front IsEntry (reverse (entries ps)) (p.entry ∷ []) b))

-- each entry of a path that was replayed can be spelled
pub replayed_spelled : (g : Group) (h : List TraceStep) → AreSteps g h → (me : ℕ) → HasEntries (replayed_path me h)
replayed_spelled g h steps me = all_reverse (replayed_path me h).places (subst (AllByRecursion IsEntry) (sym (replays_path g h steps me)) (path_spelled g h steps me))

all_spelled : (g : Group) (h : List TraceStep) → AreSteps g h → (first : ℕ) (all : List ClientPath) → ((k : ℕ) → k < length all → get_or all k no_path ≡ replayed_path (first + k) h) → AllByRecursion HasEntries all
all_spelled g h steps first [] each = tt
all_spelled g h steps first (p ∷ all) each =
    let here : p ≡ replayed_path (first + 0) h = each 0 (omega arith) in (
      subst HasEntries (sym here) (replayed_spelled g h steps (first + 0)),
      all_spelled g h steps (first + 1) all (λ k lt. let e : first + suc k ≡ first + 1 + k = omega arith in each (suc k) (omega arith) ∙ ap (λ (i : ℕ). replayed_path i h) e),
    )

pub paths_spelled : (g : Group) (h : List TraceStep) → IsLawful g h → (all every : List ClientPath) → every ≡ all → AreReplayed g.count h all → AllByRecursion HasEntries every
paths_spelled g h lawful all every same r =
    let size : length all ≡ g.count = r.size in
    subst (AllByRecursion HasEntries) (sym same)
    (all_spelled g h lawful.steps 1 all (λ k lt. let e : k + 1 ≡ 1 + k = omega arith in r.each k (omega arith) ∙ ap (λ (i : ℕ). replayed_path i h) e))

-- ---- the step with a number

pub split_at : (xs : List TraceStep) (i : ℕ) (x : TraceStep) → i < length xs → x ≡ get_or xs i x → reverse xs ≡ reverse (drop (i + 1) xs) ++ x ∷ reverse (take i xs)
split_at xs i x lt is =
    ap reverse (sym (take-append-drop (i + 1) xs)) ∙ reverse-append (take (i + 1) xs) (drop (i + 1) xs)
    ∙ ap (λ (ys : List TraceStep). reverse (drop (i + 1) xs) ++ ys) (newest_step xs i x lt is)

pub steps_then : (g : Group) (xs : List TraceStep) (i : ℕ) (x : TraceStep) → i < length xs → x ≡ get_or xs i x → AreSteps g (reverse xs) → AreSteps g (reverse (drop (i + 1) xs) ++ x ∷ reverse (take i xs))
steps_then g xs i x lt is steps = subst (AreSteps g) (split_at xs i x lt is) steps

pub is_member : (g : Group) (xs : List TraceStep) (i : ℕ) (x : TraceStep) → i < length xs → x ≡ get_or xs i x → AreSteps g (reverse xs) → (0 < x.client) × (x.client ≤ g.count)
is_member g xs i x lt is steps = (earlier_steps g (reverse (drop (i + 1) xs)) (x ∷ reverse (take i xs)) (steps_then g xs i x lt is steps)).1.member

hashes_at : (g : Group) (all : List ClientPath) (k : ℕ) → k < length all → get_or (hashes_with g all) k [] ≡ hashes_of g (get_or all k no_path).places
hashes_at g [] k lt = absurd (omega arith)
hashes_at g (p ∷ all) zero lt = refl
hashes_at g (p ∷ all) (suc k) lt = hashes_at g all k (omega arith)

-- the hashes along a member's path
pub hashes_are : (g : Group) (h : List TraceStep) (all every : List ClientPath) → every ≡ all → AreReplayed g.count h all → (hashes slice : List (List Digest32)) → slice ≡ hashes → hashes ≡ hashes_with g every
    → (client : ℕ) → 0 < client → client ≤ g.count → (hs : List Digest32) → hs ≡ get_or slice (client - 1) [] → hs ≡ hashes_of g (replayed_path client h).places
hashes_are g h all every same r hashes slice same_slice are client pos le hs is =
    let size : length all ≡ g.count = r.size in
    let back : client - 1 + 1 ≡ client = omega arith in
    is ∙ ap (λ (x : List (List Digest32)). get_or x (client - 1) []) (same_slice ∙ are ∙ ap (hashes_with g) same)
    ∙ hashes_at g all (client - 1) (omega arith)
    ∙ ap (λ (p : ClientPath). hashes_of g p.places) (r.each (client - 1) (omega arith) ∙ ap (λ (k : ℕ). replayed_path k h) back)

-- the same for steps in order
pub hashes_then : (g : Group) (h : List TraceStep) (xs : List TraceStep) → reverse xs ≡ h → (all every : List ClientPath) → every ≡ all → AreReplayed g.count h all → (hashes slice : List (List Digest32)) → slice ≡ hashes
    → hashes ≡ hashes_with g every → (client : ℕ) → (0 < client) × (client ≤ g.count) → (hs : List Digest32) → hs ≡ get_or slice (client - 1) [] → hs ≡ hashes_of g (replayed_path client (reverse xs)).places
hashes_then g h xs e all every same r hashes slice same_slice are client member hs is =
    hashes_are g h all every same r hashes slice same_slice are client member.0 member.1 hs is ∙ ap (λ (k : List TraceStep). hashes_of g (replayed_path client k).places) (sym e)

-- a member has hashes
pub within_hashes : (g : Group) (h : List TraceStep) (all every : List ClientPath) → every ≡ all → AreReplayed g.count h all → (hashes slice : List (List Digest32)) → slice ≡ hashes → hashes ≡ hashes_with g every
    → (client : ℕ) → client ≤ g.count → client ≤ length slice
within_hashes g h all every same r hashes slice same_slice are client le =
    let size : length slice ≡ g.count = ap length (same_slice ∙ are) ∙ length-map every (λ (p : ClientPath). hashes_of g p.places) ∙ ap length same ∙ r.size in
    omega (arith, size)

-- ---- the loop

pub any_same : (f k : List ℕ → Bool) → ((t : List ℕ) → f t ≡ k t) → (ts : List (List ℕ)) → list_any f ts ≡ list_any k ts
any_same f k same [] = refl
any_same f k same (t ∷ ts) = ap (λ (b : Bool). b || list_any f ts) (same t) ∙ ap (λ (b : Bool). k t || b) (any_same f k same ts)

-- what is found at a step
pub takes_forged_is : (g : Group) (xs : List TraceStep) (i : ℕ) (x : TraceStep) → i < length xs → x ≡ get_or xs i x → AreSteps g (reverse xs) → (hs : List Digest32) → hs ≡ hashes_of g (replayed_path x.client (reverse xs)).places
    → (made : List (List ℕ)) → SameTexts made (texts_made g (reverse (take i xs))) → has_forged made (taken_with (hash_at hs) (read_by x.input x.returned)) ≡ takes_forged g (reverse (take i xs)) x
takes_forged_is g xs i x lt is steps hs are made same =
    any_same (λ t. not (is_among made t)) (λ t. not (is_among (texts_made g (reverse (take i xs))) t)) (λ t. ap not (same t)) (taken_with (hash_at hs) (read_by x.input x.returned))
    ∙ ap (list_any (λ t. not (is_among (texts_made g (reverse (take i xs))) t)))
    (ap (λ (ks : List Digest32). taken_with (hash_at ks) (read_by x.input x.returned)) (are ∙ ap (λ (h : List TraceStep). hashes_of g (replayed_path x.client h).places) (split_at xs i x lt is))
    ∙ sym (taken_at_step g (reverse (drop (i + 1) xs)) x (reverse (take i xs)) (steps_then g xs i x lt is steps)))

forged_later : (g : Group) (later : List TraceStep) (x : TraceStep) (past : List TraceStep) → takes_forged g past x ≡ true → is_forged g (later ++ x ∷ past) ≡ true
forged_later g [] x past e = is_forged-step g x past ∙ or_right (is_forged g past) (takes_forged g past x) e
forged_later g (y ∷ later) x past e = is_forged-step g y (later ++ x ∷ past) ∙ or_left (is_forged g (later ++ x ∷ past)) (takes_forged g (later ++ x ∷ past) y) (forged_later g later x past e)

-- a forged text at a step makes the history forged
pub forged_at : (g : Group) (xs : List TraceStep) (i : ℕ) (x : TraceStep) → i < length xs → x ≡ get_or xs i x → takes_forged g (reverse (take i xs)) x ≡ true → is_forged g (reverse xs) ≡ true
forged_at g xs i x lt is e = ap (is_forged g) (split_at xs i x lt is) ∙ forged_later g (reverse (drop (i + 1) xs)) x (reverse (take i xs)) e

neither : (a b : Bool) → a ≡ false → b ≡ false → (a || b) ≡ false
neither a b e f = ap (λ (c : Bool). c || b) e ∙ f

-- a step at which none is found
pub not_forged_next : (g : Group) (xs : List TraceStep) (i : ℕ) (x : TraceStep) → i < length xs → x ≡ get_or xs i x → is_forged g (reverse (take i xs)) ≡ false → takes_forged g (reverse (take i xs)) x ≡ false
    → is_forged g (reverse (take (i + 1) xs)) ≡ false
not_forged_next g xs i x lt is e f = ap (is_forged g) (newest_step xs i x lt is) ∙ is_forged-step g x (reverse (take i xs)) ∙ neither (is_forged g (reverse (take i xs))) (takes_forged g (reverse (take i xs)) x) e f

pub or_swap : (a b : Bool) → (a || b) ≡ (b || a)
or_swap true true = refl
or_swap true false = refl
or_swap false true = refl
or_swap false false = refl

pub or_none : (a : Bool) → (a || false) ≡ a
or_none true = refl
or_none false = refl

pub among_append : (made more : List (List ℕ)) (t : List ℕ) → is_among (made ++ more) t ≡ (is_among made t || is_among more t)
among_append [] more t = refl
among_append (m ∷ made) more t = ap (λ (b : Bool). bytes_eq t m || b) (among_append made more t) ∙ or_group (bytes_eq t m) (is_among made t) (is_among more t)
  where
    or_group : (a b c : Bool) → (a || (b || c)) ≡ ((a || b) || c)
    or_group true b c = refl
    or_group false b c = refl

-- one more text that was made
pub same_more : (made texts : List (List ℕ)) → SameTexts made texts → (o : Option (List ℕ)) → SameTexts (made ++ option_to_list o) (option_to_list o ++ texts)
same_more made texts same o = λ t.
    among_append made (option_to_list o) t ∙ or_swap (is_among made t) (is_among (option_to_list o) t)
    ∙ ap (λ (b : Bool). is_among (option_to_list o) t || b) (same t) ∙ sym (among_append (option_to_list o) texts t)

pub made_next : (g : Group) (xs : List TraceStep) (i : ℕ) (x : TraceStep) → i < length xs → x ≡ get_or xs i x → AreSteps g (reverse xs) → (hs : List Digest32) → hs ≡ hashes_of g (replayed_path x.client (reverse xs)).places
    → (made new : List (List ℕ)) → SameTexts made (texts_made g (reverse (take i xs))) → SameTexts new (made ++ option_to_list (made_by (hash_at hs) x.client (request_in x.sent)))
    → SameTexts new (texts_made g (reverse (take (i + 1) xs)))
made_next g xs i x lt is steps hs are made new same e =
    let past : List TraceStep = reverse (take i xs) in
    let o : Option (List ℕ) = made_by (hash_at hs) x.client (request_in x.sent) in
    let told : texts_made g (x ∷ past) ≡ option_to_list o ++ texts_made g past =
    made_at_step g (reverse (drop (i + 1) xs)) x past (steps_then g xs i x lt is steps)
    ∙ ap (λ (ks : List Digest32). option_to_list (made_by (hash_at ks) x.client (request_in x.sent)) ++ texts_made g past)
    (sym (are ∙ ap (λ (h : List TraceStep). hashes_of g (replayed_path x.client h).places) (split_at xs i x lt is))) in
    λ t. e t ∙ same_more made (texts_made g past) same o t
    ∙ ap (λ (ts : List (List ℕ)). is_among ts t) (sym told ∙ ap (texts_made g) (sym (newest_step xs i x lt is)))

-- nothing was made before the first step
pub nothing_made : (g : Group) (made : List (List ℕ)) → made ≡ [] → (is_forged g [] ≡ false) × SameTexts made (texts_made g [])
unfolding texts_made
nothing_made g made e = (is_forged-first g, λ t. ap (λ (ts : List (List ℕ)). is_among ts t) e)
