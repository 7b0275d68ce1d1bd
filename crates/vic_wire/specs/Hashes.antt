-- The hash of a text, the tag of a text under a key, the group, and the hashes along a path.
use Rattle.std.specs.Prelude.{ℕ, ◌-◌, ◌<◌, ◌≤◌, List, [], ◌∷◌, ◌++◌, length, map, replicate, bit_xor}
use Rattle.sha2.specs.Sha256.{sha256}
use Rattle.vic_dict.specs.declared.limits.TheConstants.{LONGEST_GROUP_KEY, MOST_CLIENTS}
use Rattle.vic_dict.specs.declared.op.Entry.{Entry}
use Rattle.vic_dict.specs.declared.op.Mode.{Mode}
use Rattle.vic_wire.specs.Texts.{chain_text, genesis_text, empty_text}

-- the SHA-256 value of a text (FIPS 180-4)
abbrev pub hash : List ℕ → List ℕ
hash text = sha256 text

-- the key, filled up to a block of 64 bytes with zeros, each byte joined with the mask
abbrev pub masked_key : ℕ → List ℕ → List ℕ
masked_key mask key = map (bit_xor mask) (key ++ replicate (64 - length key) 0)

-- HMAC (RFC 2104) over SHA-256, under a key of at most a block
unfoldable pub tag_of : List ℕ → List ℕ → List ℕ
tag_of key text = hash (masked_key 0x5c key ++ hash (masked_key 0x36 key ++ text))

-- what a group fixes: its kind, how many clients it has, and its key
pub record Group : Type 0 where
  -- plain, or with objects
  pub mode : Mode
  -- how many clients it has, from 1 on
  pub count : ℕ
  -- the bytes of the key that the clients share
  pub key : List ℕ

-- a group has 1 to 64 clients and a key of 1 to 64 bytes
pub record IsGroup (g : Group) : Type 0 where
  pub count : (0 < g.count) × (g.count ≤ MOST_CLIENTS)
  pub key : (0 < length g.key) × (length g.key ≤ LONGEST_GROUP_KEY)

-- the hash of a path, which has its newest entry first
unfoldable pub chain : Group → List Entry → List ℕ
chain g [] = hash (genesis_text g.mode g.count)
chain g (e ∷ path) = hash (chain_text (chain g path) e)

-- the root of the dictionary without a key
abbrev pub empty_root : List ℕ
empty_root = hash empty_text
