-- A key begins with a prefix exactly where it has the prefix's bits.
use Rattle.std.proofs.Common.{◌≡◌, ℕ, suc, ◌+◌, ◌-◌, ◌*◌, ◌<◌, Bool, true, false, ◌&&◌, List, [], ◌∷◌, length, refl, sym, ap, ◌∙◌, arith, inl, inr, ◌⊎◌}
use Rattle.std.proofs.lemmas.Bool.{and_parts, eqb-true, eq-eqb}
use Rattle.std.specs.Prelude.{nat_eq}
use Rattle.std.specs.List.{starts_with}
use Rattle.vic_wire.specs.Bits.{bits_of_byte, key_bits, bit_of, key_bit}
use Rattle.vic_wire.proofs.KeyBits.{key_bit-later, key_bit-nothing}
use Rattle.vic_dict.specs.Lists.{AreBytes}
use Rattle.vic_dict.proofs.ByteLists.{AreBytes-tail}
use Rattle.vic_tree.specs.Grown.{AgreeBelow}
use Rattle.vic_tree.proofs.KeyBits.{key_bit-first}
use Rattle.vic_tree.proofs.KeyOrder.{same_byte}

nine : (j : ℕ) → (j < 9) ⊎ (j ≡ 9 + (j - 9))
nine j = grind arith

pub true_first : (y : ℕ) (ys : List ℕ) → key_bit (y ∷ ys) 0 ≡ true
unfolding key_bit key_bits
true_first y ys = refl

pub prefix_agree : (p k : List ℕ) → starts_with nat_eq k p ≡ true → AgreeBelow (9 * length p) p k
prefix_agree [] k e = λ j h. absurd (omega arith)
prefix_agree (y ∷ p) [] e = absurd cc
prefix_agree (y ∷ p) (x ∷ k) e =
    let parts = and_parts _ _ e in
    let same : y ≡ x = eqb-true y x parts.0 in
    λ j h. elim (nine j) [
      | inl s ↦ key_bit-first y p j s ∙ ap (λ b. bit_of (true ∷ bits_of_byte b) j) same ∙ sym (key_bit-first x k j s)
      | inr s ↦ ap (key_bit (y ∷ p)) s ∙ key_bit-later y p (j - 9) ∙ prefix_agree p k parts.1 (j - 9) (omega arith) ∙ sym (key_bit-later x k (j - 9)) ∙ ap (key_bit (x ∷ k)) (sym s)
    ]

same_bits : (bs cs : List Bool) → length bs ≡ length cs → ((j : ℕ) → j < length bs → bit_of bs j ≡ bit_of cs j) → bs ≡ cs
same_bits [] [] e h = refl
same_bits [] (c ∷ cs) e h = absurd (omega arith)
same_bits (b ∷ bs) [] e h = absurd (omega arith)
same_bits (b ∷ bs) (c ∷ cs) e h = λ i. h 0 (omega arith) i ∷ same_bits bs cs (omega arith) (λ j g. h (suc j) (omega arith)) i

eight : (b : ℕ) → length (bits_of_byte b) ≡ 8
unfolding bits_of_byte
eight b = refl

cross : true ≡ false → ⊥
cross e = cc

pub and_true : (a b : Bool) → a ≡ true → b ≡ true → a && b ≡ true
and_true a b p q = (λ i. p i && q i)

pub agree_prefix : (p k : List ℕ) → AreBytes p → AreBytes k → AgreeBelow (9 * length p) p k → starts_with nat_eq k p ≡ true
agree_prefix [] [] f g s = refl
agree_prefix [] (x ∷ k) f g s = refl
agree_prefix (y ∷ p) [] f g s = absurd (cross (sym (true_first y p) ∙ s 0 (omega arith) ∙ key_bit-nothing 0))
agree_prefix (y ∷ p) (x ∷ k) f g s =
    let bits : bits_of_byte y ≡ bits_of_byte x = same_bits (bits_of_byte y) (bits_of_byte x) (eight y ∙ sym (eight x)) (λ j h.
    let small : j < 8 = omega (arith, eight y) in
    sym (key_bit-first y p (suc j) (omega arith)) ∙ s (suc j) (omega arith) ∙ key_bit-first x k (suc j) (omega arith)) in
    let same : y ≡ x = same_byte y x (f 0) (g 0) bits in
    and_true _ _ (eq-eqb y x same) (agree_prefix p k (AreBytes-tail y p f) (AreBytes-tail x k g) (λ j h. sym (key_bit-later y p j) ∙ s (9 + j) (omega arith) ∙ key_bit-later x k j))
