-- What blocking means: an operation that doesn't block another leaves its answer alone, whatever stands between them.
use Rattle.std.specs.Prelude.{◌≡◌, ◌≢◌, ℕ, true, false, List, Option, Some, ◌⊎◌, ◌↔◌}
use Rattle.std.specs.List.{fold}
use Rattle.std.specs.FinMap as map
use Rattle.vic_dict.specs.declared.op.Op.{Op}
use Rattle.vic_dict.specs.declared.op.Op.TheVariants as op
use Rattle.vic_dict.specs.Dictionary.{Dictionary, reply, after}
use Rattle.vic_wire.specs.Conflict.{changed_key, conflicts, blocks}
use Rattle.vic_commute.specs.Commutes.{BeginsWith}

-- the two have equal values at each other key
abbrev pub DifferAtMostAt : Option (List ℕ) → Dictionary → Dictionary → Type 0
DifferAtMostAt key d e = (k : List ℕ) → key ≢ Some k → map.get d k ≡ map.get e k

-- the dictionary after operations, one after the other
abbrev pub after_all : Dictionary → List Op → Dictionary
after_all d os = fold after d os

-- the second answers alike at dictionaries that differ at most at the first one's key; so whether or not the first took effect
-- before it, whatever stands between them
pub record AnswersAlike (a b : Op) : Type 0 where
  pub differing : (d e : Dictionary) → DifferAtMostAt (changed_key a) d e → reply d b ≡ reply e b
  pub between : (d : Dictionary) (os : List Op) → reply (after_all (after d a) os) b ≡ reply (after_all d os) b

abbrev pub NotBlocked : Type 0
NotBlocked = (a b : Op) → blocks a b ≡ false → AnswersAlike a b

-- what blocks conflicts
abbrev pub BlocksConflict : Type 0
BlocksConflict = (a b : Op) → blocks a b ≡ true → conflicts a b ≡ true

-- the operation looks a key up, takes it out, or lists it
pub data Heeds (k : List ℕ) (b : Op) : Type 0 where
  by_get : b ≡ op.Get k → Heeds k b
  by_del : b ≡ op.Del k → Heeds k b
  by_list : (p : List ℕ) → b ≡ op.List p → BeginsWith k p → Heeds k b

-- a put or a del blocks what heeds its key, and nothing else blocks
abbrev pub BlocksAre : Type 0
BlocksAre = (a b : Op) → (blocks a b ≡ true) ↔ ((k : List ℕ) × (changed_key a ≡ Some k) × Heeds k b)

-- what blocks may change the answer: at some dictionary it does
abbrev pub BlocksMayChange : Type 0
BlocksMayChange = (a b : Op) → blocks a b ≡ true → (d : Dictionary) × (reply (after d a) b ≢ reply d b)
