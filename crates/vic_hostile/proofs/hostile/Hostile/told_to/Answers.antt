use Rattle.std.proofs.Common.{◌≡◌, ℕ, List, sym, ap, ◌∙◌}
use Rattle.std.specs.Prelude.{Option, None}
use Rattle.vic_attacks.specs.Hostile.{Hostile, told_to}
use Rattle.vic_hostile.specs.Served.{places_in}
use Rattle.vic_hostile.proofs.Nobody.{nobody_told}
use Rattle.vic_hostile.proofs.hostile.Hostile.told_to.Goals as goal

pub returns-in_default : goal.returns-in_default
returns-in_default c =
    let who = c.args.who in
    let here : told_to c.args.self.now.told who ≡ told_to (places_in c.self.inside.told) who = ap (λ (h : Hostile). told_to h.told who) (sym c.self.view_is) in
    let none : told_to (places_in c.self.inside.told) who ≡ None = ap (λ (o : Option (List (Option (List ℕ)))). told_to (places_in o) who) c.in_default.is ∙ nobody_told 64 who in
    sym (here ∙ none)
