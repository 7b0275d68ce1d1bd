use Rattle.std.proofs.Common.{◌≡◌, ◌++◌, ◌∷◌, [], sym, ap, subst, ◌∙◌}
use Rattle.vic_order.specs.Order.{Server, serve}
use Rattle.vic_server.specs.Changes.{server_after}
use Rattle.vic_server.specs.Replay.{replay, opening_server, KeptServer}
use Rattle.vic_server.proofs.Replays.{replay-more}
use Rattle.vic_server.proofs.served.Served.enact.Goals as goal

pub invariant_of-self-2 : goal.invariant_of-self-2
invariant_of-self-2 c =
    let o = opening_server c.self.inside.mode c.self.inside.count c.self.inside.gathered in
    let same : server_after c.self.inside.machine c.args.change ≡ (serve c.self.inside.machine c.args.row.who c.args.row.payload).next = subst (λ (k : KeptServer). server_after k.server c.args.change ≡ (serve k.server c.args.row.who c.args.row.payload).next) (sym c.self.view_is) c.requires.same in
    let items : c.push_reserved.new.self.items ≡ c.self.inside.changes.items ++ c.args.row ∷ [] = cc in
    c.in_ok-enact.ensures.ok ∙ same ∙ ap (λ (s : Server). (serve s c.args.row.who c.args.row.payload).next) c.self.invariant ∙ sym (replay-more o c.self.inside.changes.items c.args.row)
    ∙ ap (replay o) (sym items)
