-- What holds where an honest run leads.
use Rattle.std.proofs.Common.{◌≡◌, ℕ, List, length, ap, ◌∙◌, sym, arith}
use Rattle.vic_dict.specs.Lists.{front}
use Rattle.vic_dict.specs.declared.op.Mode.TheVariants as mode
use Rattle.vic_wire.specs.Hashes.{Group}
use Rattle.vic_rules.specs.declared.object.ObjectOutcome.TheVariants as ended
use Rattle.vic_rules.specs.declared.trace.TraceStep.{TraceStep}
use Rattle.vic_rules.specs.History.{standing}
use Rattle.vic_order.specs.Order.{Server}
use Rattle.vic_order.specs.Fates.{entries}
use Rattle.vic_order.specs.Scenes.{Scene, Event}
use Rattle.vic_order.specs.Honest.{IsHonestRun}
use Rattle.vic_honest.specs.SafeRuns.{AreApart, IsSafeRun}
use Rattle.vic_honest.specs.Claims.{IsFrontOf, HonestRunsHold, HonestRunsAreLawful}
use Rattle.vic_honest.proofs.Words.{front-joined}
use Rattle.vic_honest.proofs.Owns.{front-all}
use Rattle.vic_honest.proofs.Runs.{tags_made, all_lawful, all_fronts, all_go_on, all_fated, all_refusals, all_ends, all_sealed, aborts_leave_nothing}
use Rattle.vic_honest.proofs.InTheWay.{aborts_are_conflicts}
use Rattle.vic_honest.proofs.OneHistory.{one_history, views_are_fronts}
use Rattle.vic_honest.proofs.Loads.{loads_are_fated}
use Rattle.vic_honest.proofs.Replies.{replies_return, refusals_return}
use Rattle.vic_honest.proofs.Refusals.{refusals_are_limits, limits_are_refused, calls_are_ordered, contents_are_kept, contents_are_given}
use Rattle.vic_honest.proofs.Told.{refusals_are_told, stores_are_told}
use Rattle.vic_honest.proofs.Turned.{syncs_are_answered, turns_are_told}

-- a client's path is the oldest entries of the log
front_is : (s : Scene) (server : Server) (i : ℕ) → IsFrontOf s server i → (k : ℕ) × ((standing s.group i s.history).path ≡ entries (front k server.log))
front_is s server i f =
    (length f.seen, f.path ∙ ap entries (sym (ap (front (length f.seen)) f.log ∙ front-joined (length f.seen) f.newer f.seen (omega arith) ∙ front-all f.seen)))

-- a plain group's contents are apart
pub plain_apart : (g : Group) (h : List TraceStep) → g.mode ≡ mode.Plain → AreApart g h
plain_apart g h plain objects collide = let e : mode.Plain ≡ mode.Objects = sym plain ∙ objects in absurd cc

pub plain_safe : (s : Scene) (server : Server) (events : List Event) → s.group.mode ≡ mode.Plain → IsHonestRun s server events → IsSafeRun s server events
plain_safe s server events plain run = record { honest = run; apart = plain_apart s.group s.history plain }

pub honest_runs_are_lawful : HonestRunsAreLawful
honest_runs_are_lawful s server events run = record {
  lawful = all_lawful s server events run;
  unforged = tags_made s server events run;
  paths = λ i above upto. front_is s server i (all_fronts s server events run i above upto);
}

pub honest_runs_hold : HonestRunsHold
honest_runs_hold s server events run = record {
  lawful = all_lawful s server events run.honest;
  unforged = tags_made s server events run.honest;
  fated = all_fated s server events run;
  goes_on = record {
    stands_so = λ i above upto. (all_go_on s server events run i above upto).standing_so;
    returns_so = let count = run.honest.group.count in (all_go_on s server events run 1 (omega arith) (omega (arith, count.0))).returns_so;
    refuses_so = all_refusals s server events run;
    ends_so = λ x there number e. all_ends s server events run x there (ended.Refused number) e;
  };
  paths = λ i above upto. front_is s server i (all_fronts s server events run.honest i above upto);
  aborted = λ newer o below is u. aborts_are_conflicts o below u;
  left_alone = λ newer o below is aborts. aborts_leave_nothing o below aborts;
  sealed = all_sealed s server events run;
  one_history = one_history s server events run;
  views = views_are_fronts s server events run;
  returned = λ newer x past is payload given. record { reply = replies_return s server events run newer x past is payload given; refusal = refusals_return s server events run newer x past is payload given };
  refused = refusals_are_told s server events run;
  stores_refused = stores_are_told s server events run;
  loads = loads_are_fated s server events run;
  served_so = λ i above upto payload rest waits. record {
    refused = refusals_are_limits s server events run i above upto payload rest waits;
    limited = limits_are_refused s server events run i above upto payload rest waits;
    ordered = calls_are_ordered s server events run i above upto payload rest waits;
    kept = contents_are_kept s server events run i above upto payload rest waits;
    fetched = contents_are_given s server events run i above upto payload rest waits;
    synced = syncs_are_answered s.group server i payload (refusals_are_limits s server events run i above upto payload rest waits);
    turned = turns_are_told s.group server i payload (refusals_are_limits s server events run i above upto payload rest waits);
  };
}
