use Rattle.std.proofs.Common.{◌≡◌, ◌+◌, ℕ, List, None}
use Rattle.vic_dict.specs.declared.op.Entry.{Entry}
use Rattle.vic_dict.specs.Lists.{front}
use Rattle.vic_wire.specs.Hashes.{Group}
use Rattle.vic_chain.specs.Held.{ShowsPath}
use Rattle.vic_rules.specs.Client.{onto, least_above, is_in_the_way}
use Rattle.vic_checks.proofs.deciding.first_in_the_way.Given as goal

-- no position so far is in the way
abbrev pub invariant-loop-position : goal.invariant-loop-position
invariant-loop-position l =
    (g : Group) (p : List Entry) (n : ℕ) → n + 1 ≡ l.position → ShowsPath g p l.window
    → least_above l.base (is_in_the_way l.me l.op) (front n (onto l.entries p)) ≡ None
