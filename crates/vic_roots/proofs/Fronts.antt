-- Lists of bits of which one is the front of the other, and their longest common prefix.
use Rattle.std.proofs.Common.{◌≡◌, ℕ, zero, suc, ◌<◌, ◌≤◌, Bool, true, false, List, [], ◌∷◌, ◌++◌, length, arith, refl, sym, ◌∙◌}
use Rattle.vic_wire.specs.Bits.{bit_of, shared_front}

-- the first list is the front of the second
abbrev pub IsFront : List Bool → List Bool → Type 0
IsFront [] bs = Unit {0}
IsFront (c ∷ cs) [] = ⊥
IsFront (c ∷ cs) (b ∷ bs) = (c ≡ b) × IsFront cs bs

-- a list is its own front
pub IsFront-itself : (bs : List Bool) → IsFront bs bs
IsFront-itself [] = tt
IsFront-itself (b ∷ bs) = (refl, IsFront-itself bs)

-- a front of a front
pub IsFront-trans : (fs bs cs : List Bool) → IsFront fs bs → IsFront bs cs → IsFront fs cs
IsFront-trans [] bs cs g h = tt
IsFront-trans (f ∷ fs) [] cs g h = absurd g
IsFront-trans (f ∷ fs) (b ∷ bs) [] g h = absurd h
IsFront-trans (f ∷ fs) (b ∷ bs) (c ∷ cs) g h = (g.0 ∙ h.0, IsFront-trans fs bs cs g.1 h.1)

-- a front is no longer
pub IsFront-length : (fs bs : List Bool) → IsFront fs bs → length fs ≤ length bs
IsFront-length [] bs h = omega arith
IsFront-length (f ∷ fs) [] h = absurd h
IsFront-length (f ∷ fs) (b ∷ bs) h = omega (arith, IsFront-length fs bs h.1)

-- a front that is as long is the whole
pub IsFront-whole : (fs bs : List Bool) → IsFront fs bs → length bs ≤ length fs → fs ≡ bs
IsFront-whole [] [] h long = refl
IsFront-whole [] (b ∷ bs) h long = absurd (omega arith)
IsFront-whole (f ∷ fs) [] h long = absurd h
IsFront-whole (f ∷ fs) (b ∷ bs) h long = let rest = IsFront-whole fs bs h.1 (omega arith) in cc (h.0, rest)

-- a front with the next bit
pub IsFront-longer : (fs bs : List Bool) (b : Bool) → IsFront fs bs → length fs < length bs → bit_of bs (length fs) ≡ b → IsFront (fs ++ b ∷ []) bs
IsFront-longer [] [] b h long is = absurd (omega arith)
IsFront-longer [] (x ∷ bs) b h long is = (sym is, tt)
IsFront-longer (f ∷ fs) [] b h long is = absurd h
IsFront-longer (f ∷ fs) (x ∷ bs) b h long is = (h.0, IsFront-longer fs bs b h.1 (omega arith) is)

-- within a front the bits are the same
pub IsFront-bit : (fs bs : List Bool) (j : ℕ) → IsFront fs bs → j < length fs → bit_of bs j ≡ bit_of fs j
IsFront-bit [] bs j h below = absurd (omega arith)
IsFront-bit (f ∷ fs) [] j h below = absurd h
IsFront-bit (f ∷ fs) (b ∷ bs) zero h below = sym h.0
IsFront-bit (f ∷ fs) (b ∷ bs) (suc j) h below = IsFront-bit fs bs j h.1 (omega arith)

-- the longest common prefix is a front of both
pub IsFront-common_left : (fs bs : List Bool) → IsFront (shared_front fs bs) fs
IsFront-common_left [] bs = tt
IsFront-common_left (f ∷ fs) [] = tt
IsFront-common_left (true ∷ fs) (true ∷ bs) = (refl, IsFront-common_left fs bs)
IsFront-common_left (true ∷ fs) (false ∷ bs) = tt
IsFront-common_left (false ∷ fs) (true ∷ bs) = tt
IsFront-common_left (false ∷ fs) (false ∷ bs) = (refl, IsFront-common_left fs bs)

pub IsFront-common_right : (fs bs : List Bool) → IsFront (shared_front fs bs) bs
IsFront-common_right [] bs = tt
IsFront-common_right (f ∷ fs) [] = tt
IsFront-common_right (true ∷ fs) (true ∷ bs) = (refl, IsFront-common_right fs bs)
IsFront-common_right (true ∷ fs) (false ∷ bs) = tt
IsFront-common_right (false ∷ fs) (true ∷ bs) = tt
IsFront-common_right (false ∷ fs) (false ∷ bs) = (refl, IsFront-common_right fs bs)

-- and a front of both is a front of it
pub IsFront-shared_front : (cs fs bs : List Bool) → IsFront cs fs → IsFront cs bs → IsFront cs (shared_front fs bs)
IsFront-shared_front [] fs bs g h = tt
IsFront-shared_front (c ∷ cs) [] bs g h = absurd g
IsFront-shared_front (c ∷ cs) (f ∷ fs) [] g h = absurd h
IsFront-shared_front (c ∷ cs) (true ∷ fs) (true ∷ bs) g h = (g.0, IsFront-shared_front cs fs bs g.1 h.1)
IsFront-shared_front (c ∷ cs) (true ∷ fs) (false ∷ bs) g h = absurd (cc (g.0, h.0))
IsFront-shared_front (c ∷ cs) (false ∷ fs) (true ∷ bs) g h = absurd (cc (g.0, h.0))
IsFront-shared_front (c ∷ cs) (false ∷ fs) (false ∷ bs) g h = (g.0, IsFront-shared_front cs fs bs g.1 h.1)
