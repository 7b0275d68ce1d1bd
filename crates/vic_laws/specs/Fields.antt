-- Two texts of one kind are the same only where all their fields are, and two texts with a tag are of one kind. (Of chains, nodes and parts
-- this is told by what they are read as.)
use Rattle.std.specs.Prelude.{◌≡◌, ℕ, ◌<◌, ◌^◌, Bool, List, length}
use Rattle.vic_dict.specs.declared.op.Entry.{Entry}
use Rattle.vic_dict.specs.declared.op.Mode.{Mode}
use Rattle.vic_wire.specs.Texts.{genesis_text, invoke_text, commit_text, seal_text}
use Rattle.vic_wire.specs.Messages.{IsEntry}

abbrev pub GenesisTells : Type 0
GenesisTells = (k j : Mode) (m n : ℕ) → genesis_text k m ≡ genesis_text j n → (k ≡ j) × (m ≡ n)

abbrev pub InvokeTells : Type 0
InvokeTells = (e f : Entry) → IsEntry e → IsEntry f → invoke_text e ≡ invoke_text f → e ≡ f

-- hashes and roots have one length
abbrev pub CommitTells : Type 0
CommitTells = (m n : ℕ) (a b : List ℕ) (d e : Bool) → m < 2 ^ 32 → n < 2 ^ 32 → length a ≡ length b → commit_text m a d ≡ commit_text n b e
    → (m ≡ n) × (a ≡ b) × (d ≡ e)

abbrev pub SealTells : Type 0
SealTells = (m n : ℕ) (a b r q : List ℕ) → m < 2 ^ 32 → n < 2 ^ 32 → length a ≡ length b → seal_text m a r ≡ seal_text n b q
    → (m ≡ n) × (a ≡ b) × (r ≡ q)

-- a text of one kind is none of another
pub record KindsApart : Type 0 where
  pub call_status : (e : Entry) (n : ℕ) (a : List ℕ) (d : Bool) → invoke_text e ≡ commit_text n a d → ⊥
  pub call_seal : (e : Entry) (n : ℕ) (a r : List ℕ) → invoke_text e ≡ seal_text n a r → ⊥
  pub status_seal : (m n : ℕ) (a b r : List ℕ) (d : Bool) → commit_text m a d ≡ seal_text n b r → ⊥
