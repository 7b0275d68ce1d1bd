-- Words and lines of a text that is split at its first separator.
use Rattle.std.proofs.Common.{◌≡◌, ◌≢◌, ℕ, zero, suc, ◌+◌, ◌-◌, ◌≤◌, add-one, length-drop, take_all, ◌<◌, List, [], ◌∷◌, ◌++◌, false, nat_eq, refl, ap, ◌∙◌, length, take, drop, slice_index, arith}
use Rattle.vic_script.specs.Lines.{lines_of, words_of}
use Rattle.vic_text.specs.Splits.{NoneBefore}

-- no item of the list is this number
abbrev pub HasNone : ℕ → List ℕ → Type 0
HasNone c [] = Unit {0}
HasNone c (b ∷ bs) = (nat_eq b c ≡ false) × HasNone c bs

pub differs : (b c : ℕ) → b ≢ c → nat_eq b c ≡ false
differs b c ne = grind arith

-- what no place of a list holds, the list doesn't have
pub has_none : (c : ℕ) (bs : List ℕ) → NoneBefore (length bs) c bs → HasNone c bs
has_none c [] h = tt
has_none c (b ∷ bs) h = (differs b c (h zero (omega arith)), has_none c bs (λ k lt. h (suc k) (omega arith)))

-- nor has its front what no place before the front's end holds
pub front_has_none : (c i : ℕ) (bs : List ℕ) → NoneBefore i c bs → HasNone c (take i bs)
front_has_none c zero bs h = tt
front_has_none c (suc i) [] h = tt
front_has_none c (suc i) (b ∷ bs) h = (differs b c (h zero (omega arith)), front_has_none c i bs (λ k lt. h (suc k) (omega arith)))

-- a list is what stands before a place, the item there, and what stands behind it
pub split_there : (c i : ℕ) (bs : List ℕ) → i < length bs → slice_index bs i ≡ c → bs ≡ take i bs ++ c ∷ drop (suc i) bs
split_there c i [] lt is = absurd (omega arith)
split_there c zero (b ∷ bs) lt is = ap (λ x. x ∷ bs) is
split_there c (suc i) (b ∷ bs) lt is = ap (λ xs. b ∷ xs) (split_there c i bs (omega arith) is)

pub words_only : (bs : List ℕ) → HasNone 32 bs → words_of bs ≡ bs ∷ []
unfolding words_of
words_only [] h = refl
words_only (b ∷ bs) h = rw (h.0, words_only bs h.1) refl

pub words_first : (a bs : List ℕ) → HasNone 32 a → words_of (a ++ 32 ∷ bs) ≡ a ∷ words_of bs
unfolding words_of
words_first [] bs h = refl
words_first (b ∷ a) bs h = rw (h.0, words_first a bs h.1) refl

pub lines_only : (b : ℕ) (bs : List ℕ) → HasNone 10 (b ∷ bs) → lines_of (b ∷ bs) ≡ (b ∷ bs) ∷ []
unfolding lines_of
lines_only b [] h = rw (h.0) refl
lines_only b (c ∷ bs) h = rw (h.0, lines_only c bs h.1) refl

pub lines_first : (a bs : List ℕ) → HasNone 10 a → lines_of (a ++ 10 ∷ bs) ≡ a ∷ lines_of bs
unfolding lines_of
lines_first [] bs h = refl
lines_first (b ∷ a) bs h = rw (h.0, lines_first a bs h.1) refl

-- the words of a text with a space: the one before it, and those behind it
pub words_split : (i : ℕ) (bs : List ℕ) → i < length bs → slice_index bs i ≡ 32 → NoneBefore i 32 bs → words_of bs ≡ take i bs ∷ words_of (drop (suc i) bs)
words_split i bs lt is before = ap words_of (split_there 32 i bs lt is) ∙ words_first (take i bs) (drop (suc i) bs) (front_has_none 32 i bs before)

-- and so the lines
pub lines_split : (i : ℕ) (bs : List ℕ) → i < length bs → slice_index bs i ≡ 10 → NoneBefore i 10 bs → lines_of bs ≡ take i bs ∷ lines_of (drop (suc i) bs)
lines_split i bs lt is before = ap lines_of (split_there 10 i bs lt is) ∙ lines_first (take i bs) (drop (suc i) bs) (front_has_none 10 i bs before)

pub lines_whole : (bs : List ℕ) → 0 < length bs → NoneBefore (length bs) 10 bs → lines_of bs ≡ bs ∷ []
lines_whole [] some none = absurd (omega arith)
lines_whole (b ∷ bs) some none = lines_only b bs (has_none 10 (b ∷ bs) none)

-- all that stands behind a place, as a range to the end gives it
pub rest_whole : (i : ℕ) (bs : List ℕ) → take (length bs - (i + 1)) (drop (i + 1) bs) ≡ drop (suc i) bs
rest_whole i bs = let e : i + 1 ≡ suc i = add-one i in rw e (let whole : length (drop (suc i) bs) ≤ length bs - suc i = omega (arith, length-drop (suc i) bs) in take_all _ _ whole)
