-- What words of the claim mean, said once more in other words.
use Rattle.std.specs.List.{list_all}
use Rattle.std.specs.Str.{bytes_eq}
use Rattle.std.specs.Prelude.{◌≡◌, ◌↔◌, ℕ, zero, suc, ◌<◌, true, false, List, [], ◌∷◌, ◌++◌, Option, Some, None, nat_eq, if◌then◌else◌, Bool, not, ◌&&◌, ◌||◌}
use Rattle.vic_dict.specs.declared.op.Outcome.TheVariants as outcome
use Rattle.vic_dict.specs.Lists.{IsIn, front}
use Rattle.vic_dict.specs.Dictionary.{Dictionary, reply}
use Rattle.vic_dict.specs.declared.op.Entry.{Entry}
use Rattle.vic_wire.specs.declared.message.Seal.{Seal}
use Rattle.vic_wire.specs.declared.message.Tagged.{Tagged}
use Rattle.vic_wire.specs.declared.message.ToClient.TheVariants as say
use Rattle.vic_wire.specs.Texts.{genesis_text, chain_text, content_text}
use Rattle.vic_wire.specs.Hashes.{Group, chain, hash}
use Rattle.vic_wire.specs.Parts.{Part, read_part, part_texts}
use Rattle.vic_rules.specs.declared.trace.TraceStep.{TraceStep}
use Rattle.vic_rules.specs.declared.trace.Shown.{Shown}
use Rattle.vic_rules.specs.History.{standing, path, IsLawful, completions}
use Rattle.vic_dict.specs.declared.op.Answer.{Answer}
use Rattle.vic_rules.specs.Views.{confirmed_calls, left_by, IsLegal}
use Rattle.vic_laws.specs.OrderClaims.{BlocksAt, effect_of, PicksOwn}
use Rattle.vic_rules.specs.Trust.{answer_taken, IsForged, Collides, IsListed, parts_in, contents_known, node_texts_left}

-- ---- legal views

-- a shown call was done with the answer of a dictionary, or it was aborted
pub data IsExplained (d : Dictionary) (x : Shown) : Type 0 where
  by_answer : x.outcome ≡ outcome.Done (reply d x.entry.op) → IsExplained d x
  by_abort : (u : ℕ) → x.outcome ≡ outcome.Aborted u → IsExplained d x

-- a view is legal exactly where each of its calls was aborted, or has the answer of what the calls below it leave
abbrev pub LegalIs : Type 0
LegalIs = (v : List Shown) → IsLegal v ↔ ((newer : List Shown) (x : Shown) (older : List Shown) → v ≡ newer ++ x ∷ older → IsExplained (left_by older) x)

-- ---- listed texts

-- what a function gives of each item, one list behind the other
abbrev pub texts_of_each : {A : Type 0} → (A → List (List ℕ)) → List A → List (List ℕ)
texts_of_each f [] = []
texts_of_each f (x ∷ xs) = f x ++ texts_of_each f xs

-- the numbers from 1 to n, and from 0 to n
abbrev pub one_to : ℕ → List ℕ
one_to zero = []
one_to (suc n) = one_to n ++ suc n ∷ []

abbrev pub zero_to : ℕ → List ℕ
zero_to n = 0 ∷ one_to n

-- the texts of a path's hashes, the oldest entry first
unfoldable pub chain_texts_up : Group → List Entry → List (List ℕ)
chain_texts_up g [] = []
chain_texts_up g (e ∷ p) = chain_texts_up g p ++ chain_text (chain g p) e ∷ []

-- the parts that a client took, the oldest first
unfoldable pub parts_of : Group → ℕ → List TraceStep → List (List ℕ)
parts_of g me [] = []
parts_of g me (x ∷ past) = parts_of g me past ++ (if nat_eq x.client me then parts_in (answer_taken g past x) else [])

-- the texts of a part's nodes, each before those below it, the left side before the right
abbrev pub nodes_of : Option Part → List (List ℕ)
nodes_of None = []
nodes_of (Some part) = part_texts part

-- the texts of all paths, by client and position; of all parts that were taken, by client and step; and of the dictionaries that the fronts
-- of the paths leave, up to the highest seal, by client and position
abbrev pub texts_of_paths : Group → List TraceStep → List (List ℕ)
texts_of_paths g h = texts_of_each (λ i. chain_texts_up g (path g i h)) (one_to g.count)

abbrev pub texts_of_parts : Group → List TraceStep → List (List ℕ)
texts_of_parts g h = texts_of_each (λ i. texts_of_each (λ bytes. nodes_of (read_part bytes)) (parts_of g i h)) (one_to g.count)

abbrev pub texts_of_sealed : Group → List TraceStep → List (List ℕ)
texts_of_sealed g h = texts_of_each (λ i. texts_of_each (λ n. node_texts_left g h (front n (path g i h))) (zero_to (standing g i h).sealed)) (one_to g.count)

-- the texts of the contents that were sent to be kept or taken, the latest step first
abbrev pub texts_of_contents : Group → List TraceStep → List (List ℕ)
texts_of_contents g h = texts_of_each (λ content. content_text content ∷ []) (contents_known g h)

-- all texts of which the claim on collisions speaks, in the order in which they are looked through
abbrev pub listed_texts : Group → List TraceStep → List (List ℕ)
listed_texts g h = genesis_text g.mode g.count ∷ (texts_of_paths g h ++ (texts_of_parts g h ++ (texts_of_sealed g h ++ texts_of_contents g h)))

-- the texts that are listed are those of this list
abbrev pub ListedAre : Type 0
ListedAre = (g : Group) (h : List TraceStep) → IsLawful g h → (text : List ℕ) → IsListed g h text ↔ IsIn (listed_texts g h) text

-- ---- histories client by client

-- the steps of one client
abbrev pub own_steps : ℕ → List TraceStep → List TraceStep
own_steps me [] = []
own_steps me (x ∷ h) = if nat_eq x.client me then x ∷ own_steps me h else own_steps me h

-- a history is lawful exactly where the steps of each client are a lawful history by themselves, in whatever order they are merged
abbrev pub LawfulByClient : Type 0
LawfulByClient = (g : Group) (h : List TraceStep) → IsLawful g h ↔ ((me : ℕ) → IsLawful g (own_steps me h))

-- ---- aborts

-- a call is aborted exactly by the least position that stands in its way, between the seal of its Reply and itself
abbrev pub AbortedByConflictIn : Group → List TraceStep → Type 0
AbortedByConflictIn g h = (later : List TraceStep) (x : TraceStep) (past : List TraceStep) → h ≡ later ++ x ∷ past
    → (seal : Seal) (entries : List Tagged) (part : List ℕ) → answer_taken g past x ≡ Some (say.Reply seal entries part) → (e : Entry) (below : List Entry) → path g x.client (x ∷ past) ≡ e ∷ below
    → (u : ℕ) → (x.returned ≡ Some (outcome.Aborted u)) ↔ (BlocksAt x.client e.op seal.position below u × ((v : ℕ) → v < u → BlocksAt x.client e.op seal.position below v → ⊥))

abbrev pub AbortedByConflict : Type 0
AbortedByConflict = (g : Group) (h : List TraceStep) → IsLawful g h → AbortedByConflictIn g h

-- ---- collisions

-- a text is equal to another, or their hashes differ
abbrev pub is_apart : List ℕ → List ℕ → Bool
is_apart t u = bytes_eq t u || not (bytes_eq (hash t) (hash u))

abbrev pub are_apart : List (List ℕ) → Bool
are_apart [] = true
are_apart (t ∷ ts) = list_all (is_apart t) ts && are_apart ts

-- the test fails exactly where two different listed texts have one hash
abbrev pub ApartIs : Type 0
ApartIs = (g : Group) (h : List TraceStep) → IsLawful g h → (are_apart (listed_texts g h) ≡ false) ↔ Collides g h

-- ---- answers over what is sealed

-- unless a tag was forged or two texts collide: a call that is done has the answer of what the calls up to the seal of its Reply leave, after
-- the client's own done calls above the seal and whichever entries of others there take effect as well
abbrev pub SealedAnswersStandIn : Group → List TraceStep → Type 0
SealedAnswersStandIn g h = (IsForged g h → ⊥) → (Collides g h → ⊥) → (later : List TraceStep) (x : TraceStep) (past : List TraceStep) → h ≡ later ++ x ∷ past
    → (seal : Seal) (entries : List Tagged) (bytes : List ℕ) → answer_taken g past x ≡ Some (say.Reply seal entries bytes) → (e : Entry) (below : List Entry) → path g x.client (x ∷ past) ≡ e ∷ below
    → (a : Answer) → x.returned ≡ Some (outcome.Done a) → (picks : List Entry → Bool) → PicksOwn (completions g h) x.client picks
    → a ≡ reply (effect_of picks seal.position (left_by (confirmed_calls (completions g h) (front seal.position below))) below) e.op

abbrev pub SealedAnswersStand : Type 0
SealedAnswersStand = (g : Group) (h : List TraceStep) → IsLawful g h → SealedAnswersStandIn g h
