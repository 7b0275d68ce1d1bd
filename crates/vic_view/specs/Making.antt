-- The texts that were made and taken at a step, as its payloads tell them, with the hashes along the path of its client.
use Rattle.std.specs.Prelude.{◌≡◌, ℕ, Bool, not, List, [], ◌∷◌, ◌++◌, map, replicate, Option, Some, None, nat_eq, if◌then◌else◌, slice_index_or}
use Rattle.std.specs.List.{list_any, AllByRecursion}
use Rattle.vic_wire.specs.Messages.{IsEntry}
use Rattle.vic_dict.specs.declared.op.Entry.{Entry}
use Rattle.vic_wire.specs.declared.message.Digest32.{Digest32}
use Rattle.vic_wire.specs.declared.message.Seal.{Seal}
use Rattle.vic_wire.specs.declared.message.ToServer.{ToServer}
use Rattle.vic_wire.specs.declared.message.ToServer.TheVariants as ask
use Rattle.vic_wire.specs.declared.message.ToClient.{ToClient}
use Rattle.vic_wire.specs.Texts.{invoke_text, commit_text, seal_text}
use Rattle.vic_wire.specs.Hashes.{Group, chain}
use Rattle.vic_wire.specs.Reading.{read_request}
use Rattle.vic_rules.specs.Client.{digest, entries_of, seal_of}
use Rattle.vic_script.specs.Print.{is_among}
use Rattle.vic_view.specs.declared.replay.Place.{Place}
use Rattle.vic_view.specs.declared.replay.ClientPath.{ClientPath}

-- ---- hashes along a path, the oldest first

abbrev pub hashes_above : Group → List Entry → List Place → List Digest32
hashes_above g below [] = []
hashes_above g below (p ∷ ps) = digest (chain g (p.entry ∷ below)) ∷ hashes_above g (p.entry ∷ below) ps

abbrev pub hashes_of : Group → List Place → List Digest32
hashes_of g ps = digest (chain g []) ∷ hashes_above g [] ps

-- those of each of the paths
abbrev pub hashes_with : Group → List ClientPath → List (List Digest32)
hashes_with g all = map (λ (p : ClientPath). hashes_of g p.places) all

abbrev pub hash_at : List Digest32 → ℕ → List ℕ
hash_at hashes n = (slice_index_or hashes n (digest (replicate 32 0))).bytes

-- each place has an entry that can be spelled
abbrev pub IsPlaceEntry : Place → Type 0
IsPlaceEntry p = IsEntry p.entry

abbrev pub HasEntries : ClientPath → Type 0
HasEntries p = AllByRecursion IsPlaceEntry p.places

-- ---- texts

abbrev pub request_in : Option (List ℕ) → Option ToServer
request_in None = None
request_in (Some payload) = read_request payload

-- the text whose tag goes with a request, with the hash of each front of the path
abbrev pub made_by : (ℕ → List ℕ) → ℕ → Option ToServer → Option (List ℕ)
made_by at me None = None
made_by at me (Some (ask.Invoke known seq o tag)) = Some (invoke_text (record { client = me; seq = seq; op = o }))
made_by at me (Some (ask.Commit position done tag)) = Some (commit_text position (at position) done)
made_by at me (Some (ask.Seal position root tag)) = Some (seal_text position (at position) root.bytes)
made_by at me (Some (ask.Hello kind client)) = None
made_by at me (Some ask.Poll) = None
made_by at me (Some (ask.Sync known)) = None
made_by at me (Some (ask.Keep content)) = None
made_by at me (Some (ask.Fetch hash)) = None
made_by at me (Some ask.Bye) = None

abbrev pub seal_texts_by : (ℕ → List ℕ) → Option Seal → List (List ℕ)
seal_texts_by at None = []
seal_texts_by at (Some s) = if nat_eq s.position 0 then [] else seal_text s.position (at s.position) s.root.bytes ∷ []

-- the texts whose tags came with an answer
abbrev pub taken_with : (ℕ → List ℕ) → Option ToClient → List (List ℕ)
taken_with at None = []
taken_with at (Some m) = seal_texts_by at (seal_of m) ++ map (λ t. invoke_text t.entry) (entries_of m)

-- some of the texts isn't among those that were made
abbrev pub has_forged : List (List ℕ) → List (List ℕ) → Bool
has_forged made texts = list_any (λ t. not (is_among made t)) texts

-- the same texts, in whatever order
abbrev pub SameTexts : List (List ℕ) → List (List ℕ) → Type 0
SameTexts made texts = (t : List ℕ) → is_among made t ≡ is_among texts t
