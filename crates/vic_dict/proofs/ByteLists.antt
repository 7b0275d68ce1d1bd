-- Lists of bytes, their parts and their joins.
use Rattle.std.proofs.Common.{ℕ, zero, suc, ◌<◌, List, [], ◌∷◌, ◌++◌, take, drop, replicate, arith}
use Rattle.vic_dict.specs.Lists.{AreBytes}

-- no bytes are bytes
pub AreBytes-nil : AreBytes []
AreBytes-nil i = omega arith

-- a byte before bytes
pub AreBytes-cons : (b : ℕ) (bytes : List ℕ) → b < 256 → AreBytes bytes → AreBytes (b ∷ bytes)
AreBytes-cons b bytes small h zero = small
AreBytes-cons b bytes small h (suc i) = h i

-- the first of some bytes, and the others
pub AreBytes-head : (b : ℕ) (bytes : List ℕ) → AreBytes (b ∷ bytes) → b < 256
AreBytes-head b bytes h = h 0

pub AreBytes-tail : (b : ℕ) (bytes : List ℕ) → AreBytes (b ∷ bytes) → AreBytes bytes
AreBytes-tail b bytes h i = h (suc i)

-- the first n of some bytes, and those after them
pub AreBytes-take : (n : ℕ) (bytes : List ℕ) → AreBytes bytes → AreBytes (take n bytes)
AreBytes-take zero bytes h = AreBytes-nil
AreBytes-take (suc n) [] h = AreBytes-nil
AreBytes-take (suc n) (b ∷ bytes) h = AreBytes-cons b (take n bytes) (AreBytes-head b bytes h) (AreBytes-take n bytes (AreBytes-tail b bytes h))

pub AreBytes-drop : (n : ℕ) (bytes : List ℕ) → AreBytes bytes → AreBytes (drop n bytes)
AreBytes-drop zero bytes h = h
AreBytes-drop (suc n) [] h = AreBytes-nil
AreBytes-drop (suc n) (b ∷ bytes) h = AreBytes-drop n bytes (AreBytes-tail b bytes h)

-- bytes after bytes
pub AreBytes-append : (xs ys : List ℕ) → AreBytes xs → AreBytes ys → AreBytes (xs ++ ys)
AreBytes-append [] ys g h = h
AreBytes-append (x ∷ xs) ys g h = AreBytes-cons x (xs ++ ys) (AreBytes-head x xs g) (AreBytes-append xs ys (AreBytes-tail x xs g) h)

-- the parts of bytes that stand after one another
pub AreBytes-first : (xs ys : List ℕ) → AreBytes (xs ++ ys) → AreBytes xs
AreBytes-first [] ys h = AreBytes-nil
AreBytes-first (x ∷ xs) ys h = AreBytes-cons x xs (AreBytes-head x (xs ++ ys) h) (AreBytes-first xs ys (AreBytes-tail x (xs ++ ys) h))

pub AreBytes-second : (xs ys : List ℕ) → AreBytes (xs ++ ys) → AreBytes ys
AreBytes-second [] ys h = h
AreBytes-second (x ∷ xs) ys h = AreBytes-second xs ys (AreBytes-tail x (xs ++ ys) h)

-- the same byte, so many times
pub AreBytes-replicate : (n b : ℕ) → b < 256 → AreBytes (replicate n b)
AreBytes-replicate zero b lt i = omega arith
AreBytes-replicate (suc n) b lt zero = lt
AreBytes-replicate (suc n) b lt (suc i) = AreBytes-replicate n b lt i
