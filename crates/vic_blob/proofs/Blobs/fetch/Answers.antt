use Rattle.std.proofs.Common.{List, ℕ, ap, ◌∙◌}
use Rattle.vic_blob.specs.Keeping.{kept_under}
use Rattle.vic_blob.proofs.Blobs.fetch.Goals as goal

pub returns-in-Some-clause-small : goal.returns-in-Some-clause-small
returns-in-Some-clause-small c = λ content e. c.self.invariant.small c.args.hash.now.bytes content (ap (λ (xs : List (List ℕ)). kept_under xs c.args.hash.now.bytes) c.self.view_is ∙ e)

pub returns-in-None-clause-small : goal.returns-in-None-clause-small
returns-in-None-clause-small c = λ content e. c.self.invariant.small c.args.hash.now.bytes content (ap (λ (xs : List (List ℕ)). kept_under xs c.args.hash.now.bytes) c.self.view_is ∙ e)
