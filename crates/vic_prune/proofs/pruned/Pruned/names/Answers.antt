use Rattle.std.proofs.Common.{◌≡◌, ℕ, List, length, sym, ap, subst, ◌∙◌}
use Rattle.std.specs.Prelude.{nat_eq, map as map_list}
use Rattle.std.specs.List.{starts_with, filter}
use Rattle.vic_wire.specs.Trees.{pairs_of}
use Rattle.vic_prune.specs.Parts.{part}
use Rattle.vic_prune.specs.Listed.{AreListed}
use Rattle.vic_prune.proofs.Listing.{names_listed}
use Rattle.vic_prune.proofs.pruned.Pruned.names.Goals as goal

pub returns-then-are_listed : goal.returns-then-are_listed
returns-then-are_listed c =
    let ps = pairs_of (part c.args.self.now) in
    let is = c.as_slice.ensures ∙ c.in_ok-names.ensures in
    c.in_ok-names.ensures ∙ names_listed c.args.prefix.now ps (subst (λ ks. AreListed c.args.prefix.now ks (length ks)) is (c.are_listed.ensures c.if-are_listed.true))
