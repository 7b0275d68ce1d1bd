use Rattle.std.proofs.Common.{sym, subst}
use Rattle.vic_client.specs.Kept.{KeptClient, StandsFor}
use Rattle.vic_client.proofs.client.Client.length.Goals as goal

pub returns-clause-shows : goal.returns-clause-shows
returns-clause-shows c = λ s st.
    let shown = subst (λ (k : KeptClient). StandsFor k s) (sym c.self.view_is) st in
    c.length.ensures.shows _ s.path shown.path
