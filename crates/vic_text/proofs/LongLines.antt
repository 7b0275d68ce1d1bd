-- Lines of more words than two, and operations of more words than three.
use Rattle.std.proofs.Common.{◌≡◌, ℕ, List, [], ◌∷◌, None, refl, if◌then◌else◌, nat_eq, true, false}
use Rattle.vic_dict.specs.declared.op.Mode.{Mode}
use Rattle.vic_text.specs.ClientLines.{plain_line}
use Rattle.vic_script.specs.Lines.{words_of, put_first, header_of, next_header_of, op_of, object_of, called_line, event_of}

-- every text has a word, though it may be empty
pub put_first_some : (b : ℕ) (pieces : List (List ℕ)) → (w : List ℕ) × (ws : List (List ℕ)) × (put_first b pieces ≡ w ∷ ws)
put_first_some b [] = (b ∷ [], [], refl)
put_first_some b (piece ∷ pieces) = (b ∷ piece, pieces, refl)

pub words_some : (bs : List ℕ) → (w : List ℕ) × (ws : List (List ℕ)) × (words_of bs ≡ w ∷ ws)
unfolding words_of
words_some [] = ([], [], refl)
words_some (b ∷ bs) = elim (nat_eq b 32) as (λ t. (w : List ℕ) × (ws : List (List ℕ)) × ((if t then [] ∷ words_of bs else put_first b (words_of bs)) ≡ w ∷ ws)) [
  | true ↦ ([], words_of bs, refl)
  | false ↦ put_first_some b (words_of bs)
]

-- a line of more words than two is no first one of a header
pub header_more : (name number text : List ℕ) → header_of (name ∷ number ∷ words_of text) ≡ None
header_more name number text = let some = words_some text in rw some.2 refl

-- and one of four words or more can only be a call
pub next_header_long : (name number third text : List ℕ) → next_header_of (name ∷ number ∷ third ∷ words_of text) ≡ None
next_header_long name number third text = let some = words_some text in rw some.2 refl

pub event_long : (kind : Mode) (name number third text : List ℕ) → event_of kind (name ∷ number ∷ third ∷ words_of text) ≡ called_line kind name number (third ∷ words_of text)
event_long kind name number third text = let some = words_some text in rw some.2 refl

pub op_of_four : (name a b text : List ℕ) → op_of (name ∷ a ∷ b ∷ words_of text) ≡ None
op_of_four name a b text = let some = words_some text in rw some.2 refl

pub object_of_four : (name a b text : List ℕ) → object_of (name ∷ a ∷ b ∷ words_of text) ≡ None
object_of_four name a b text = let some = words_some text in rw some.2 refl

-- a line of three words or more is a call
pub plain_long : (name a text : List ℕ) → plain_line (name ∷ a ∷ words_of text) ≡ None
plain_long name a text = let some = words_some text in rw some.2 refl
