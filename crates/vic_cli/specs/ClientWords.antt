-- The words of a client's command.
use Rattle.std.specs.Prelude.{◌≡◌, ℕ, ◌<◌, ◌≤◌, ◌&&◌, List, [], ◌∷◌, chars, Option, Some, None, is_none, if◌then◌else◌, codes}
use Rattle.std.specs.Str.{bytes_eq}
use Rattle.std.specs.Result.{result_ok}
use Rattle.hex.specs.Hex.{decode_of}
use Rattle.vic_dict.specs.declared.op.Mode.{Mode}
use Rattle.vic_wire.specs.Hashes.{Group, IsGroup}
use Rattle.vic_rules.specs.Client.{at_start}
use Rattle.vic_client.specs.Kept.{KeptClient, StandsFor, kept_group}
use Rattle.vic_tag.specs.Keys.{fault_in}
use Rattle.vic_cli.specs.Arguments.{is_address, number_in, small_number, mode_of}

-- what the words say: an address, and which client of which group
pub record ClientWords : Type 0 where
  pub address : List ℕ
  pub me : ℕ
  pub group : Group

-- the key that a word spells in hexadecimal digits
abbrev pub key_in : List ℕ → Option (List ℕ)
key_in word = if is_none (fault_in (chars word)) then result_ok (decode_of word) else None

-- a client, a key and a mode, where the words for them are right
abbrev pub words_of_parts : List ℕ → ℕ → Option ℕ → Option (List ℕ) → Option Mode → Option ClientWords
words_of_parts address count (Some me) (Some key) (Some kind) = Some (record { address = address; me = me; group = record { mode = kind; count = count; key = key } })
words_of_parts address count (Some me) (Some key) None = None
words_of_parts address count (Some me) None kind = None
words_of_parts address count None key kind = None

-- and a count, within which the client's number is
abbrev pub words_with_count : List ℕ → List ℕ → List ℕ → List ℕ → Option ℕ → Option ClientWords
words_with_count address id key kind (Some count) = words_of_parts address count (number_in count id) (key_in key) (mode_of kind)
words_with_count address id key kind None = None

-- `client ADDRESS ID COUNT KEY MODE`
abbrev pub client_words : List (List ℕ) → Option ClientWords
client_words (name ∷ address ∷ id ∷ count ∷ key ∷ kind ∷ []) =
    if bytes_eq name (codes "client") && is_address address then words_with_count address id key kind (small_number count) else None
client_words words = None

-- such words are of a group and a client of it
pub record IsJoined (w : ClientWords) : Type 0 where
  pub group : IsGroup w.group
  pub some : 0 < w.me
  pub most : w.me ≤ w.group.count

-- it is the client that the words say, and has done nothing yet
abbrev pub IsClientOf : Option ClientWords → Option KeptClient → Type 0
IsClientOf None None = Unit {0}
IsClientOf (Some w) (Some c) = (c.id ≡ w.me) × ((kept_group c ≡ w.group) × (StandsFor c at_start × IsJoined w))
IsClientOf None (Some c) = ⊥
IsClientOf (Some w) None = ⊥
