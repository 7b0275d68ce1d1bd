-- What conflicts mean: operations that don't conflict may be done in either order.
use Rattle.std.specs.Prelude.{◌≡◌, ℕ, true, false, List, ◌++◌, ◌↔◌}
use Rattle.vic_dict.specs.declared.op.Op.{Op}
use Rattle.vic_dict.specs.declared.op.Op.TheVariants as op
use Rattle.vic_dict.specs.Dictionary.{Dictionary, reply, after}
use Rattle.vic_wire.specs.Conflict.{conflicts}

-- both orders leave one dictionary, and each of the two answers the same first and second
pub record InEitherOrder (d : Dictionary) (a b : Op) : Type 0 where
  pub leaves : after (after d a) b ≡ after (after d b) a
  pub second : reply (after d a) b ≡ reply d b
  pub first : reply (after d b) a ≡ reply d a

abbrev pub Commutes : Type 0
Commutes = (d : Dictionary) (a b : Op) → conflicts a b ≡ false → InEitherOrder d a b

-- the text begins with the prefix
abbrev pub BeginsWith : List ℕ → List ℕ → Type 0
BeginsWith k p = (rest : List ℕ) × (k ≡ p ++ rest)

-- they conflict exactly where this holds
abbrev pub ConflictWhere : Op → Op → Type 0 → Type 0
ConflictWhere a b P = (conflicts a b ≡ true) ↔ P

-- the sixteen pairs of kinds, at keys k and q, values v and w, prefixes p and r
pub record TableAt (k q v w p r : List ℕ) : Type 0 where
  pub put_put : ConflictWhere (op.Put k v) (op.Put q w) (k ≡ q)
  pub put_get : ConflictWhere (op.Put k v) (op.Get q) (k ≡ q)
  pub put_del : ConflictWhere (op.Put k v) (op.Del q) (k ≡ q)
  pub put_list : ConflictWhere (op.Put k v) (op.List r) (BeginsWith k r)
  pub get_put : ConflictWhere (op.Get k) (op.Put q w) (k ≡ q)
  pub get_get : ConflictWhere (op.Get k) (op.Get q) ⊥
  pub get_del : ConflictWhere (op.Get k) (op.Del q) (k ≡ q)
  pub get_list : ConflictWhere (op.Get k) (op.List r) ⊥
  pub del_put : ConflictWhere (op.Del k) (op.Put q w) (k ≡ q)
  pub del_get : ConflictWhere (op.Del k) (op.Get q) (k ≡ q)
  pub del_del : ConflictWhere (op.Del k) (op.Del q) (k ≡ q)
  pub del_list : ConflictWhere (op.Del k) (op.List r) (BeginsWith k r)
  pub list_put : ConflictWhere (op.List p) (op.Put q w) (BeginsWith q p)
  pub list_get : ConflictWhere (op.List p) (op.Get q) ⊥
  pub list_del : ConflictWhere (op.List p) (op.Del q) (BeginsWith q p)
  pub list_list : ConflictWhere (op.List p) (op.List r) ⊥

abbrev pub ConflictTable : Type 0
ConflictTable = (k q v w p r : List ℕ) → TableAt k q v w p r
