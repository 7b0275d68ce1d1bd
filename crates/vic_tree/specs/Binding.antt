-- Two different node texts of one hash.
use Rattle.std.specs.Prelude.{◌≡◌, ℕ, List}
use Rattle.vic_dict.specs.Lists.{IsIn}
use Rattle.vic_wire.specs.Hashes.{hash}

-- two different texts of the list have one hash
pub record Collides (texts : List (List ℕ)) : Type 0 where
  pub one : List ℕ
  pub other : List ℕ
  pub one_in : IsIn texts one
  pub other_in : IsIn texts other
  pub differ : one ≡ other → ⊥
  pub same_hash : hash one ≡ hash other
