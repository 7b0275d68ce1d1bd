-- Which texts clients tagged and took, and which texts the claims speak of.
use Rattle.std.specs.Prelude.{◌≡◌, ◌≢◌, ℕ, ◌≤◌, List, [], ◌∷◌, ◌++◌, map, Option, Some, None, is_none, nat_eq, if◌then◌else◌, ◌⊎◌}
use Rattle.vic_dict.specs.Lists.{IsIn, front}
use Rattle.std.specs.Option.{option_to_list}
use Rattle.vic_dict.specs.declared.op.Entry.{Entry}
use Rattle.vic_wire.specs.declared.message.Seal.{Seal}
use Rattle.vic_wire.specs.declared.message.ToClient.{ToClient}
use Rattle.vic_wire.specs.declared.message.ToClient.TheVariants as say
use Rattle.vic_wire.specs.Texts.{invoke_text, genesis_text, chain_text, content_text}
use Rattle.vic_wire.specs.Hashes.{Group, chain, hash}
use Rattle.vic_wire.specs.Trees.{tree_of, node_texts}
use Rattle.vic_wire.specs.Reading.{read_answer}
use Rattle.vic_rules.specs.declared.trace.Input.{Input}
use Rattle.vic_rules.specs.declared.trace.Input.TheVariants as input
use Rattle.vic_rules.specs.declared.trace.TraceStep.{TraceStep}
use Rattle.vic_wire.specs.Parts.{Part, read_part, part_texts}
use Rattle.vic_rules.specs.Client.{Standing, Sending, Invokes, Commits, Polls, Seals, Syncs, Keeps, Fetches, made_text, entries_of, seal_of, seal_text_on}
use Rattle.vic_rules.specs.History.{standing, path, move_of, completions}
use Rattle.vic_rules.specs.Views.{confirmed_calls, left_by}

-- the answer that a client took at a step without halting
abbrev pub answer_unless_halted : Standing → Input → Option ToClient
answer_unless_halted after (input.Payload payload) = if is_none after.halted then read_answer payload else None
answer_unless_halted after _ = None

unfoldable pub answer_taken : Group → List TraceStep → TraceStep → Option ToClient
answer_taken g past x = answer_unless_halted (move_of g past x).next x.input

abbrev pub seal_texts : Group → List Entry → Option Seal → List (List ℕ)
seal_texts g p None = []
seal_texts g p (Some seal) = if nat_eq seal.position 0 then [] else seal_text_on g p seal.position seal.root.bytes ∷ []

-- the texts whose tags came with an answer and were checked
abbrev pub checked_texts : Group → List Entry → Option ToClient → List (List ℕ)
checked_texts g p None = []
checked_texts g p (Some m) = seal_texts g p (seal_of m) ++ map (λ t. invoke_text t.entry) (entries_of m)

abbrev pub texts_taken : Group → List TraceStep → TraceStep → List (List ℕ)
texts_taken g past x = checked_texts g (move_of g past x).next.path (answer_taken g past x)

abbrev pub text_sent : Group → ℕ → Standing → Option Sending → List (List ℕ)
text_sent g me after None = []
text_sent g me after (Some sending) = option_to_list (made_text g me after sending)

-- every text that a client tagged in a history
unfoldable pub texts_made : Group → List TraceStep → List (List ℕ)
texts_made g [] = []
texts_made g (x ∷ past) = text_sent g x.client (move_of g past x).next (move_of g past x).sends ++ texts_made g past

-- some text was taken whose tag no client had made before
abbrev pub IsForged : Group → List TraceStep → Type 0
IsForged g [] = ⊥
IsForged g (x ∷ past) = IsForged g past ⊎ ((text : List ℕ) × IsIn (texts_taken g past x) text × (IsIn (texts_made g past) text → ⊥))

-- ---- texts that are listed

abbrev pub chain_texts : Group → List Entry → List (List ℕ)
chain_texts g [] = []
chain_texts g (e ∷ p) = chain_text (chain g p) e ∷ chain_texts g p

abbrev pub parts_in : Option ToClient → List (List ℕ)
parts_in (Some (say.Reply seal entries part)) = part ∷ []
parts_in (Some (say.Update seal part)) = part ∷ []
parts_in _ = []

-- the parts that were taken
unfoldable pub parts_taken : Group → List TraceStep → List (List ℕ)
parts_taken g [] = []
parts_taken g (x ∷ past) = parts_in (answer_taken g past x) ++ parts_taken g past

-- the contents that clients sent to be kept, and those that they took
abbrev pub content_sent : Option Sending → List (List ℕ)
content_sent (Some (Keeps content)) = content ∷ []
content_sent (Some (Invokes n o)) = []
content_sent (Some (Commits done)) = []
content_sent (Some Polls) = []
content_sent (Some Seals) = []
content_sent (Some Syncs) = []
content_sent (Some (Fetches h)) = []
content_sent None = []

abbrev pub content_in : Option ToClient → List (List ℕ)
content_in (Some (say.Content content)) = content ∷ []
content_in _ = []

unfoldable pub contents_known : Group → List TraceStep → List (List ℕ)
contents_known g [] = []
contents_known g (x ∷ past) = content_sent (move_of g past x).sends ++ (content_in (answer_taken g past x) ++ contents_known g past)

-- the dictionary that the confirmed calls of a path leave
abbrev pub node_texts_left : Group → List TraceStep → List Entry → List (List ℕ)
node_texts_left g h p = node_texts (tree_of (left_by (confirmed_calls (completions g h) p)))

-- the texts that the claim on collisions speaks of
pub data IsListed (g : Group) (h : List TraceStep) : List ℕ → Type 0 where
  of_genesis : {text : List ℕ} → text ≡ genesis_text g.mode g.count → IsListed g h text
  of_path : {text : List ℕ} (me : ℕ) → IsIn (chain_texts g (path g me h)) text → IsListed g h text
  of_part : {text : List ℕ} (bytes : List ℕ) (part : Part) → IsIn (parts_taken g h) bytes → read_part bytes ≡ Some part → IsIn (part_texts part) text → IsListed g h text
  of_content : {text : List ℕ} (content : List ℕ) → IsIn (contents_known g h) content → text ≡ content_text content → IsListed g h text
  of_sealed : {text : List ℕ} (me n : ℕ) → n ≤ (standing g me h).sealed → IsIn (node_texts_left g h (front n (path g me h))) text → IsListed g h text

-- two different listed texts have one hash
pub record Collides (g : Group) (h : List TraceStep) : Type 0 where
  pub one : List ℕ
  pub other : List ℕ
  pub one_listed : IsListed g h one
  pub other_listed : IsListed g h other
  pub differ : one ≢ other
  pub same_hash : hash one ≡ hash other
