-- One change more at the end of a history.
use Rattle.std.proofs.Common.{◌≡◌, List, [], ◌∷◌, ◌++◌, refl}
use Rattle.vic_change.specs.declared.Change.{Change}
use Rattle.vic_order.specs.Order.{Server, serve}
use Rattle.vic_server.specs.Replay.{replay}

pub replay-more : (s : Server) (cs : List Change) (c : Change) → replay s (cs ++ c ∷ []) ≡ (serve (replay s cs) c.who c.payload).next
unfolding replay
replay-more s [] c = refl
replay-more s (d ∷ cs) c = replay-more (serve s d.who d.payload).next cs c
