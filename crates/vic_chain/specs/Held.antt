-- What a window of a path holds, and when it shows a path. The newest entry stands first.
use Rattle.std.specs.Prelude.{◌≡◌, ℕ, ◌+◌, ◌-◌, List, [], ◌∷◌, length, take, drop}
use Rattle.vic_dict.specs.declared.op.Entry.{Entry}
use Rattle.vic_wire.specs.declared.message.Digest32.{Digest32}
use Rattle.vic_wire.specs.Hashes.{Group, chain, hash}
use Rattle.vic_wire.specs.Texts.{chain_text}
use Rattle.vic_chain.specs.declared.window.ChainedEntry.{ChainedEntry}

-- the highest seal (position, root, and the hash of the path there), and the entries above it with the hashes of the path
pub record Held : Type 0 where
  -- the position of the highest seal
  pub sealed : ℕ
  -- the root of that seal
  pub root : List ℕ
  -- the hash of the path there
  pub base : Digest32
  -- the entries above it with their hashes, the newest first
  pub links : List ChainedEntry

-- the length of the path
abbrev pub held_length : Held → ℕ
held_length w = w.sealed + length w.links

-- the hash of the path that the links end
abbrev pub last_hash : Digest32 → List ChainedEntry → Digest32
last_hash base [] = base
last_hash base (x ∷ links) = x.hash

-- the hash at a position from the sealed one on
abbrev pub held_hash : Held → ℕ → Digest32
held_hash w position = last_hash w.base (drop (held_length w - position) w.links)

-- the hash of an entry that comes onto the path
abbrev pub next_hash : Held → Entry → Digest32
next_hash w e = record { bytes = hash (chain_text (last_hash w.base w.links).bytes e) }

-- a window with one more entry, one that is cut back to a length, and one that is sealed up to a position
abbrev pub held_with_entry : Held → Entry → Held
held_with_entry w e = record w { links = record { entry = e; hash = next_hash w e } ∷ w.links }

abbrev pub held_cut_to : Held → ℕ → Held
held_cut_to w n = record w { links = drop (held_length w - n) w.links }

abbrev pub held_sealed_at : Held → ℕ → List ℕ → Held
held_sealed_at w position root =
    record { sealed = position; root = root; base = held_hash w position; links = take (held_length w - position) w.links }

-- ---- the path that it shows

-- the links' entries on a path
abbrev pub path_on : List Entry → List ChainedEntry → List Entry
path_on below [] = below
path_on below (x ∷ links) = x.entry ∷ path_on below links

-- each link has the hash of the path that it ends
abbrev pub AreChained : Group → List Entry → List ChainedEntry → Type 0
AreChained g below [] = Unit {0}
AreChained g below (x ∷ links) = AreChained g below links × (x.hash.bytes ≡ chain g (path_on below (x ∷ links)))

-- the window shows this path of the group: below the seal stands a path of the sealed length, whose hash is the base
pub record ShowsPath (g : Group) (path : List Entry) (w : Held) : Type 0 where
  pub below : List Entry
  pub is : path ≡ path_on below w.links
  pub sealed : length below ≡ w.sealed
  pub base : w.base.bytes ≡ chain g below
  pub chained : AreChained g below w.links
