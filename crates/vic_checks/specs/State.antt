-- What a client keeps between two answers, and for which standings it stands.
use Rattle.std.specs.Prelude.{◌≡◌, ℕ, List, Option, Some, None, drop}
use Rattle.vic_dict.specs.declared.op.Entry.{Entry}
use Rattle.vic_wire.specs.declared.message.Tagged.{Tagged}
use Rattle.vic_wire.specs.Hashes.{Group}
use Rattle.vic_rules.specs.Client.{Standing, path_with_entries}
use Rattle.vic_chain.specs.Held.{ShowsPath}
use Rattle.vic_checks.specs.declared.state.State.{State}
use Rattle.vic_checks.specs.declared.state.Verdict.{Verdict}
use Rattle.vic_checks.specs.declared.state.Verdict.TheVariants as verdict

-- the group that a client is in
abbrev pub state_group : State → Group
state_group x = record { mode = x.mode; count = x.count; key = x.key }

-- what is kept stands for a client that hasn't halted: the window shows its path, and the rest is its own
pub record StandsForState (x : State) (s : Standing) : Type 0 where
  pub path : ShowsPath (state_group x) s.path x.window
  pub sealed : s.sealed ≡ x.window.sealed
  pub root : s.root ≡ x.window.root
  pub own : s.own ≡ x.own
  pub awaiting : s.awaiting ≡ x.awaiting
  pub halted : s.halted ≡ None

-- the check that a verdict names, if it names one
abbrev pub failed_at : Verdict → Option ℕ
failed_at verdict.Pass = None
failed_at (verdict.Halt check) = Some check

-- the path without its last entry, once the entries of an answer are put onto it
abbrev pub below_last : Standing → List Tagged → List Entry
below_last s entries = drop 1 (path_with_entries s entries)
