-- Unless a tag was forged or two texts collide, the views of every lawful history hold.
use Rattle.vic_rules.specs.Headline.{EveryHistoryHolds}
use Rattle.vic_laws.proofs.Agreement.{views_agree, views_show_only_calls}
use Rattle.vic_laws.proofs.Complete.{views_complete}
use Rattle.vic_laws.proofs.RealTime.{views_in_order}
use Rattle.vic_laws.proofs.Legality.{views_legal}

pub every_history_holds : EveryHistoryHolds
every_history_holds g h lawful honest apart = record {
  legal = λ me low high. views_legal g h lawful honest apart me;
  complete = λ me low high. views_complete g h lawful me;
  only_calls = λ me low high. views_show_only_calls g h lawful me;
  real_time = λ me low high. views_in_order g h lawful honest me;
  agree = λ me other low high other_low other_high. views_agree g h lawful me other;
}
