-- What is made ready, and what takes a change back.
use Rattle.std.specs.Prelude.{◌≤◌, ◌≡◌, ℕ, ◌<◌, length}
use Rattle.std.specs.FinMap as map
use Rattle.vic_dict.specs.declared.limits.TheConstants.{LONGEST_VALUE}
use Rattle.vic_dict.specs.Dictionary.{Dictionary, IsKey}
use Rattle.vic_wire.specs.Trees.{Leaf}
use Rattle.vic_trie.specs.declared.ready.Ready.{Ready}
use Rattle.vic_trie.specs.declared.ready.Undo.{Undo}
use Rattle.vic_trie.specs.declared.ready.Undo.TheVariants.{Nothing, Gone, Back}
use Rattle.vic_trie.specs.Nodes.{tree, IsSound}

-- the fresh leaf is that of the pair
pub record IsReady (r : Ready) : Type 0 where
  pub key : IsKey r.key
  pub value : length r.value ≤ LONGEST_VALUE
  pub sound : IsSound r.fresh.value
  pub leaf : tree r.fresh.value ≡ Leaf r.key r.value

abbrev pub CanUndo : Undo → Type 0
CanUndo Nothing = Unit {0}
CanUndo (Gone k) = Unit {0}
CanUndo (Back r) = IsReady r

-- the dictionary once it is taken back
abbrev pub dictionary_undone : Undo → Dictionary → Dictionary
dictionary_undone Nothing d = d
dictionary_undone (Gone k) d = map.remove d k
dictionary_undone (Back r) d = map.insert d r.key r.value
