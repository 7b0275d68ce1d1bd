-- What holds of every drill.
use Rattle.std.specs.Prelude.{◌≡◌, ℕ, ◌<◌, ◌≤◌, length}
use Rattle.vic_dict.specs.declared.limits.TheConstants.{MOST_CLIENTS}
use Rattle.vic_order.specs.Order.{Server}
use Rattle.vic_order.specs.Scenes.{standing_in}
use Rattle.vic_order.specs.Honest.{IsHonestRun}
use Rattle.vic_honest.specs.Claims.{IsHonestScene}
use Rattle.vic_drill.specs.Drills.{DrillState, drill_group, drill_of}

-- the events of a drill so far are an honest run of its group: they lead to its scene, with this server. No client was called and
-- no step was made more than n times
pub record RunsHonestly (clients : ℕ) (d : DrillState) (n : ℕ) : Type 0 where
  pub drawing : length d.drawing.acts ≡ clients
  pub group : d.scene.group ≡ drill_group clients
  pub server : Server
  pub run : IsHonestRun d.scene server d.events
  pub called : (i : ℕ) → (standing_in d.scene i).calls ≤ n
  pub steps : length d.scene.history ≤ n

-- a drill is an honest run, so what holds of honest runs holds there
pub record IsHonestDrill (d : DrillState) : Type 0 where
  pub server : Server
  pub run : IsHonestRun d.scene server d.events
  pub holds : IsHonestScene d.scene d.events server

abbrev pub DrillsAreHonest : Type 0
DrillsAreHonest = (number clients calls : ℕ) → 0 < clients → clients ≤ MOST_CLIENTS → calls ≤ 100000 → IsHonestDrill (drill_of number clients calls)
