-- Keys in order have their bits in order, and the other way round; and the bits of a key begin those of no other.
use Rattle.std.proofs.Common.{◌≡◌, ℕ, zero, suc, ◌/◌, ◌%◌, ◌<◌, ◌≤◌, ◌⊎◌, inl, inr, Bool, true, false, List, [], ◌∷◌, ◌++◌, take, Ordering, Less, Equal, Greater, Some, refl, sym, ap, subst, ◌∙◌, arith}
use Rattle.std.specs.Prelude.{slice_get}
use Rattle.std.specs.Ordering.{nat_cmp, ordering_then, ordering_reverse, MatchOrdering}
use Rattle.std.proofs.lemmas.Cmp.{ranked, nat_list_cmp_total}
use Rattle.std.proofs.lemmas.Bool.{cases_lt}
use Rattle.std.proofs.lemmas.Bool.Decides.{nat_tests}
use Rattle.vic_dict.specs.Lists.{AreBytes}
use Rattle.vic_dict.specs.Rows.{bytes_cmp}
use Rattle.vic_dict.proofs.Rows.{same_text}
use Rattle.vic_wire.specs.Bits.{is_odd, bits_of_byte, key_bits}
use Rattle.vic_keybits.specs.Order.{BitsLess, BitOrder, NoneIsPrefix}

-- at the first bit at which they differ, the first has a 0 and the second a 1
abbrev pub Parts : List Bool → List Bool → Type 0
Parts [] cs = ⊥
Parts (b ∷ bs) [] = ⊥
Parts (true ∷ bs) (true ∷ cs) = Parts bs cs
Parts (false ∷ bs) (false ∷ cs) = Parts bs cs
Parts (false ∷ bs) (true ∷ cs) = Unit {0}
Parts (true ∷ bs) (false ∷ cs) = ⊥

pub parts_after : (ps bs cs : List Bool) → Parts bs cs → Parts (ps ++ bs) (ps ++ cs)
parts_after [] bs cs h = h
parts_after (true ∷ ps) bs cs h = parts_after ps bs cs h
parts_after (false ∷ ps) bs cs h = parts_after ps bs cs h

-- they part nowhere but at one bit, and in one way
parts_one_way : (bs cs : List Bool) → Parts bs cs → Parts cs bs → ⊥
parts_one_way [] cs p q = p
parts_one_way (b ∷ bs) [] p q = p
parts_one_way (true ∷ bs) (true ∷ cs) p q = parts_one_way bs cs p q
parts_one_way (false ∷ bs) (false ∷ cs) p q = parts_one_way bs cs p q
parts_one_way (false ∷ bs) (true ∷ cs) p q = q
parts_one_way (true ∷ bs) (false ∷ cs) p q = p

-- no bits part from a longer list that they begin
front_apart : (bs rest : List Bool) → Parts bs (bs ++ rest) → ⊥
front_apart [] rest p = p
front_apart (true ∷ bs) rest p = front_apart bs rest p
front_apart (false ∷ bs) rest p = front_apart bs rest p

longer_apart : (bs rest : List Bool) → Parts (bs ++ rest) bs → ⊥
longer_apart [] [] p = p
longer_apart [] (r ∷ rest) p = p
longer_apart (true ∷ bs) rest p = longer_apart bs rest p
longer_apart (false ∷ bs) rest p = longer_apart bs rest p

-- the place at which they part
parts_less : (bs cs : List Bool) → Parts bs cs → BitsLess bs cs
parts_less [] cs p = absurd p
parts_less (b ∷ bs) [] p = absurd p
parts_less (true ∷ bs) (true ∷ cs) p = let r = parts_less bs cs p in record { place = suc r.place; same = ap (λ l. true ∷ l) r.same; clear = r.clear; set = r.set }
parts_less (false ∷ bs) (false ∷ cs) p = let r = parts_less bs cs p in record { place = suc r.place; same = ap (λ l. false ∷ l) r.same; clear = r.clear; set = r.set }
parts_less (false ∷ bs) (true ∷ cs) p = record { place = 0; same = refl; clear = refl; set = refl }
parts_less (true ∷ bs) (false ∷ cs) p = absurd p

parts_at : (bs cs : List Bool) (i : ℕ) → take i bs ≡ take i cs → slice_get bs i ≡ Some false → slice_get cs i ≡ Some true → Parts bs cs
parts_at [] cs i same clear set = absurd cc
parts_at (b ∷ bs) [] i same clear set = absurd cc
parts_at (false ∷ bs) (true ∷ cs) i same clear set = tt
parts_at (true ∷ bs) (c ∷ cs) zero same clear set = absurd cc
parts_at (false ∷ bs) (false ∷ cs) zero same clear set = absurd cc
parts_at (true ∷ bs) (true ∷ cs) (suc i) same clear set = parts_at bs cs i (cc same) clear set
parts_at (false ∷ bs) (false ∷ cs) (suc i) same clear set = parts_at bs cs i (cc same) clear set
parts_at (true ∷ bs) (false ∷ cs) (suc i) same clear set = absurd cc

-- ---- bytes in order

odd_bit : (n : ℕ) → n % 2 ≡ 1 → is_odd n ≡ true
odd_bit n e = grind (arith, nat_tests)

even_bit : (n : ℕ) → n % 2 ≡ 0 → is_odd n ≡ false
even_bit n e = grind (arith, nat_tests)

clear_then_set : (b c : Bool) (bs cs : List Bool) → b ≡ false → c ≡ true → Parts (b ∷ bs) (c ∷ cs)
clear_then_set false true bs cs e f = tt
clear_then_set true c bs cs e f = absurd cc
clear_then_set false false bs cs e f = absurd cc

same_then : (b c : Bool) (bs cs : List Bool) → b ≡ c → Parts bs cs → Parts (b ∷ bs) (c ∷ cs)
same_then true true bs cs e p = p
same_then false false bs cs e p = p
same_then true false bs cs e p = absurd cc
same_then false true bs cs e p = absurd cc

-- one bit of two numbers that are the same above it
bit_parts : (m n : ℕ) (bs cs : List Bool) → m / 2 ≡ n / 2 → m ≤ n → (m ≡ n → Parts bs cs) → Parts (is_odd m ∷ bs) (is_odd n ∷ cs)
bit_parts m n bs cs e h next =
    elim (cases_lt m n) [
      | inl less ↦ clear_then_set (is_odd m) (is_odd n) bs cs (even_bit m (omega arith)) (odd_bit n (omega arith))
      | inr more ↦ let same : m ≡ n = omega arith in same_then (is_odd m) (is_odd n) bs cs (ap is_odd same) (next same)
    ]

pub byte_parts : (x y : ℕ) (bs cs : List Bool) → x < y → y < 256 → Parts (bits_of_byte x ++ bs) (bits_of_byte y ++ cs)
unfolding bits_of_byte
byte_parts x y bs cs h small =
    bit_parts (x / 128) (y / 128) _ _ (omega arith) (omega arith) (λ a.
    bit_parts (x / 64) (y / 64) _ _ (omega arith) (omega arith) (λ b.
    bit_parts (x / 32) (y / 32) _ _ (omega arith) (omega arith) (λ c.
    bit_parts (x / 16) (y / 16) _ _ (omega arith) (omega arith) (λ d.
    bit_parts (x / 8) (y / 8) _ _ (omega arith) (omega arith) (λ e.
    bit_parts (x / 4) (y / 4) _ _ (omega arith) (omega arith) (λ f.
    bit_parts (x / 2) (y / 2) _ _ (omega arith) (omega arith) (λ g.
    bit_parts (x / 1) (y / 1) _ _ (omega arith) (omega arith) (λ i. absurd (omega arith)))))))))

heads_by : (x y : ℕ) (r o : Ordering) → MatchOrdering r (x < y) (x ≡ y) (y < x) → ordering_then r o ≡ Less → (x < y) ⊎ ((x ≡ y) × (o ≡ Less))
heads_by x y Less o h e = inl h
heads_by x y Equal o h e = inr (h, e)
heads_by x y Greater o h e = absurd cc

heads_less : (x y : ℕ) (o : Ordering) → ordering_then (nat_cmp x y) o ≡ Less → (x < y) ⊎ ((x ≡ y) × (o ≡ Less))
heads_less x y o e = heads_by x y (nat_cmp x y) o (ranked x y (nat_cmp x y) refl) e

-- keys in order have their bits in order
pub key_parts : (a b : List ℕ) → AreBytes b → bytes_cmp a b ≡ Less → Parts (key_bits a) (key_bits b)
unfolding key_bits
key_parts [] [] small e = absurd cc
key_parts [] (y ∷ ys) small e = tt
key_parts (x ∷ xs) [] small e = absurd cc
key_parts (x ∷ xs) (y ∷ ys) small e =
    elim (heads_less x y (bytes_cmp xs ys) e) [
      | inl less ↦ byte_parts x y (key_bits xs) (key_bits ys) less (small 0)
      | inr rest ↦ subst (λ z. Parts (bits_of_byte x ++ key_bits xs) (bits_of_byte z ++ key_bits ys)) rest.0
          (parts_after (bits_of_byte x) (key_bits xs) (key_bits ys) (key_parts xs ys (λ i. small (suc i)) rest.1))
    ]

-- ---- both ways

turned : (a b : List ℕ) → bytes_cmp a b ≡ Greater → bytes_cmp b a ≡ Less
turned a b e = nat_list_cmp_total.antisymm b a ∙ ap ordering_reverse e

parts_key : (a b : List ℕ) (o : Ordering) → AreBytes a → Parts (key_bits a) (key_bits b) → bytes_cmp a b ≡ o → o ≡ Less
parts_key a b Less g p e = refl
parts_key a b Equal g p e = let q = subst (λ z. Parts (key_bits z) (key_bits b)) (same_text a b e) p in absurd (parts_one_way (key_bits b) (key_bits b) q q)
parts_key a b Greater g p e = absurd (parts_one_way (key_bits a) (key_bits b) p (key_parts b a g (turned a b e)))

pub bits_in_order : BitOrder
bits_in_order a b g h = (
  λ e. parts_less (key_bits a) (key_bits b) (key_parts a b h e),
  λ less. parts_key a b (bytes_cmp a b) g (parts_at (key_bits a) (key_bits b) less.place less.same less.clear less.set) refl,
)

begun_by : (a b : List ℕ) (rest : List Bool) (o : Ordering) → AreBytes a → AreBytes b → key_bits a ++ rest ≡ key_bits b → bytes_cmp a b ≡ o → a ≡ b
begun_by a b rest Less g h is e = absurd (front_apart (key_bits a) rest (subst (Parts (key_bits a)) (sym is) (key_parts a b h e)))
begun_by a b rest Equal g h is e = same_text a b e
begun_by a b rest Greater g h is e = absurd (longer_apart (key_bits a) rest (subst (λ bits. Parts bits (key_bits a)) (sym is) (key_parts b a g (turned a b e))))

pub none_begins_another : NoneIsPrefix
none_begins_another a b rest g h is = begun_by a b rest (bytes_cmp a b) g h is refl
