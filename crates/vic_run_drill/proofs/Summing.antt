-- The summary of what the code of a drill keeps is that of the drill.
use Rattle.std.proofs.Common.{◌≡◌, ℕ, List, ◌++◌, Option, Some, codes, sym, ap, ◌∙◌}
use Rattle.vic_order.specs.Order.{Server}
use Rattle.vic_order.specs.Scenes.{server_at}
use Rattle.vic_drill.specs.Drills.{DrillState, line, ends_done, ends_aborted, ends_refused, count_of, server_in, server_lines, summary, drill_at_start, drill_after_turn_below, drill_after_closing, drill_after_repeats, most_turns, most_events, drill_of, print_of_drill}
use Rattle.vic_run_drill.specs.declared.run.Drill.{Drill}
use Rattle.vic_run_drill.specs.Running.{Stands, summary_lines}

abbrev lines_by : ℕ → ℕ → ℕ → ℕ → ℕ → Option Server → List ℕ
lines_by clients calls done aborted refused server =
    line (codes "clients") clients ++ line (codes "calls") calls ++ line (codes "done") done ++ line (codes "aborted") aborted ++ line (codes "refused") refused ++ server_lines server

pub summary_is : (r : Drill) (d : DrillState) (n clients calls : ℕ) → Stands r d n → summary_lines clients calls r.tally r.served.server ≡ summary clients calls d.scene
summary_is r d n clients calls at =
    let own : Option Server = Some r.served.server in
    let server : server_in d.scene ≡ own = ap (λ (us : List (Option Server)). server_at us 1) at.scene.servers in
    ap (λ (k : ℕ). lines_by clients calls k r.tally.aborted r.tally.refused own) at.scene.done
    ∙ ap (λ (k : ℕ). lines_by clients calls (count_of ends_done d.scene.history) k r.tally.refused own) at.scene.aborted
    ∙ ap (λ (k : ℕ). lines_by clients calls (count_of ends_done d.scene.history) (count_of ends_aborted d.scene.history) k own) at.scene.refused
    ∙ ap (λ (o : Option Server). lines_by clients calls (count_of ends_done d.scene.history) (count_of ends_aborted d.scene.history) (count_of ends_refused d.scene.history) o) (sym server)

-- where the phases have their bounds, it is what is printed
pub printed : (number clients calls most events : ℕ) → most ≡ most_turns calls → events ≡ most_events clients calls
    → summary clients calls (drill_after_repeats events drill_after_closing (drill_after_repeats most (drill_after_turn_below calls) (drill_at_start number clients))).scene ≡ print_of_drill number clients calls
unfolding drill_of
printed number clients calls most events e f =
    ap (λ (k : ℕ). summary clients calls (drill_after_repeats events drill_after_closing (drill_after_repeats k (drill_after_turn_below calls) (drill_at_start number clients))).scene) e
    ∙ ap (λ (k : ℕ). summary clients calls (drill_after_repeats k drill_after_closing (drill_after_repeats (most_turns calls) (drill_after_turn_below calls) (drill_at_start number clients))).scene) f
