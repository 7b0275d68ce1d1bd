use Rattle.std.proofs.Common.{◌≡◌, ◌+◌, take}
use Rattle.vic_wire.specs.Hashes.{Group}
use Rattle.vic_chain.specs.Held.{ShowsPath, held_length, held_cut_to}
use Rattle.vic_rules.specs.Client.{Standing, onto}
use Rattle.vic_client.proofs.taking.extend_all.Given as goal

-- the entries so far stand on the path, and come off again
abbrev pub invariant-loop-item : goal.invariant-loop-item
invariant-loop-item l = record {
  length : held_length l.window ≡ held_length l.initial.window + l.item-index;
  sealed : l.window.sealed ≡ l.initial.window.sealed;
  shows : (g : Group) (s : Standing) → ShowsPath g s.path l.initial.window → ShowsPath g (onto (take l.item-index l.items) s.path) l.window;
  back : held_cut_to l.window (held_length l.initial.window) ≡ l.initial.window;
}
