-- Texts that are gathered one client, part or position after the other.
use Rattle.std.specs.Prelude.{◌≡◌, ℕ, zero, suc, ◌+◌, ◌<◌, ◌≤◌, List, [], ◌∷◌, ◌++◌, length, take}
use Rattle.std.proofs.Common.{refl, ap, sym, ◌∙◌, get_or, append_assoc, arith}
use Rattle.std.proofs.lemmas.List.{append-nil, take_more, take_all}
use Rattle.vic_laws.specs.Meanings.{texts_of_each, one_to, zero_to}

gathered_end : {A : Type 0} (f : A → List (List ℕ)) (xs : List A) (x : A) → texts_of_each f (xs ++ x ∷ []) ≡ texts_of_each f xs ++ f x
gathered_end f [] x = append-nil (f x)
gathered_end f (y ∷ xs) x = ap (λ (ts : List (List ℕ)). f y ++ ts) (gathered_end f xs x) ∙ sym (append_assoc (f y) (texts_of_each f xs) (f x))

one_more : (n : ℕ) → one_to (n + 1) ≡ one_to n ++ (n + 1) ∷ []
one_more n = let e : suc n ≡ n + 1 = omega arith in ap one_to (sym e) ∙ ap (λ (k : ℕ). one_to n ++ k ∷ []) e

-- what is put behind what was gathered
put_behind : (first ts us vs before now : List (List ℕ)) → ts ≡ first ++ before → us ≡ ts ++ vs → now ≡ before ++ vs → us ≡ first ++ now
put_behind first ts us vs before now e f n =
    f ∙ ap (λ (xs : List (List ℕ)). xs ++ vs) e ∙ append_assoc first before vs ∙ ap (λ (xs : List (List ℕ)). first ++ xs) (sym n)

pub client_next : (f : ℕ → List (List ℕ)) (n : ℕ) (first ts us vs : List (List ℕ)) → ts ≡ first ++ texts_of_each f (one_to n) → us ≡ ts ++ vs → vs ≡ f (n + 1) → us ≡ first ++ texts_of_each f (one_to (n + 1))
client_next f n first ts us vs before e is =
    put_behind first ts us vs (texts_of_each f (one_to n)) (texts_of_each f (one_to (n + 1))) before e
    (ap (texts_of_each f) (one_more n) ∙ gathered_end f (one_to n) (n + 1) ∙ ap (λ (xs : List (List ℕ)). texts_of_each f (one_to n) ++ xs) (sym is))

pub position_next : (f : ℕ → List (List ℕ)) (n : ℕ) (first ts us vs : List (List ℕ)) → ts ≡ first ++ texts_of_each f (zero_to n) → us ≡ ts ++ vs → vs ≡ f (n + 1) → us ≡ first ++ texts_of_each f (zero_to (n + 1))
position_next f n first ts us vs before e is =
    put_behind first ts us vs (texts_of_each f (zero_to n)) (texts_of_each f (zero_to (n + 1))) before e
    (ap (λ (xs : List ℕ). texts_of_each f (0 ∷ xs)) (one_more n) ∙ gathered_end f (zero_to n) (n + 1) ∙ ap (λ (xs : List (List ℕ)). texts_of_each f (zero_to n) ++ xs) (sym is))

pub item_next : {A : Type 0} (f : A → List (List ℕ)) (xs : List A) (i : ℕ) (x : A) → i < length xs → x ≡ get_or xs i x → (first ts us : List (List ℕ))
    → ts ≡ first ++ texts_of_each f (take i xs) → us ≡ ts ++ f x → us ≡ first ++ texts_of_each f (take (i + 1) xs)
item_next {A} f xs i x lt is first ts us before e =
    put_behind first ts us (f x) (texts_of_each f (take i xs)) (texts_of_each f (take (i + 1) xs)) before e
    (ap (texts_of_each f) (take_more xs i x lt ∙ ap (λ (y : A). take i xs ++ y ∷ []) (sym is)) ∙ gathered_end f (take i xs) x)

pub items_end : {A : Type 0} (f : A → List (List ℕ)) (xs : List A) (i : ℕ) (first ts : List (List ℕ)) → length xs ≤ i → ts ≡ first ++ texts_of_each f (take i xs) → ts ≡ first ++ texts_of_each f xs
items_end {A} f xs i first ts le e = e ∙ ap (λ (ys : List A). first ++ texts_of_each f ys) (take_all i xs le)

-- two functions that give the same up to a number
pub gathered_same : (f k : ℕ → List (List ℕ)) (n : ℕ) → ((i : ℕ) → i ≤ n → f i ≡ k i) → texts_of_each f (zero_to n) ≡ texts_of_each k (zero_to n)
gathered_same f k n each = ap (λ (ts : List (List ℕ)). ts ++ texts_of_each f (one_to n)) (each 0 (omega arith)) ∙ ap (λ (ts : List (List ℕ)). k 0 ++ ts) (ones n each)
  where
    ones : (m : ℕ) → ((i : ℕ) → i ≤ m → f i ≡ k i) → texts_of_each f (one_to m) ≡ texts_of_each k (one_to m)
    ones zero h = refl
    ones (suc m) h =
        gathered_end f (one_to m) (suc m) ∙ ap (λ (ts : List (List ℕ)). ts ++ f (suc m)) (ones m (λ i le. h i (omega (arith, le))))
        ∙ ap (λ (ts : List (List ℕ)). texts_of_each k (one_to m) ++ ts) (h (suc m) (omega arith)) ∙ sym (gathered_end k (one_to m) (suc m))
