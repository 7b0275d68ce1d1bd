-- What trying a line makes of a world, and what is then printed.
use Rattle.std.specs.Prelude.{◌≡◌, ℕ, ◌+◌, ◌<◌, ◌≤◌, Bool, true, false, List, [], ◌++◌, map, Option, Some, None, nat_lt, if◌then◌else◌}
use Rattle.vic_dict.specs.declared.limits.TheConstants.{MOST_CLIENTS}
use Rattle.vic_attacks.specs.Hostile.{Hostile}
use Rattle.vic_view.specs.declared.transcript.Transcript.{Transcript}
use Rattle.vic_view.specs.Transcripts.{transcript_history, transcript_group}
use Rattle.vic_script.specs.declared.line.Line.{Line}
use Rattle.vic_script.specs.Lines.{line_of}
use Rattle.vic_order.specs.Scenes.{SceneOf}
use Rattle.vic_script.specs.Run.{script_limit, Bad, ScriptHeader, opening_by, Progress, Before, Heads, Stands, scene_in, ScriptRun, Trial, Fails, Does, trial_of_line, mode_in, group_in, history_in}
use Rattle.vic_script.specs.Print.{is_forged}
use Rattle.vic_runs.specs.Reached.{IsReached}
use Rattle.vic_group.specs.declared.header.Header.{Header}
use Rattle.vic_group.specs.declared.header.Headed.{Headed}
use Rattle.vic_group.specs.declared.header.Headed.TheVariants as headed
use Rattle.vic_group.specs.declared.play.BadLine.{BadLine}
use Rattle.vic_group.specs.declared.play.End.{End}
use Rattle.vic_group.specs.declared.play.End.TheVariants as end
use Rattle.vic_group.specs.declared.play.Ran.{Ran}
use Rattle.vic_group.specs.declared.play.Ran.TheVariants as ran
use Rattle.vic_group.specs.declared.world.World.{World}
use Rattle.vic_group.specs.World.{ShowsScene, states}

-- a server that may misbehave is what the rule of such servers says of it
abbrev pub state : Hostile → Hostile
state h = h

-- the one scene that a world of such servers can show
abbrev pub scene_of : World Hostile → SceneOf Hostile
scene_of w = record {
  group = transcript_group w.transcript;
  history = transcript_history w.transcript;
  up = map (λ m. m.up) w.members.items;
  down = map (λ m. m.down) w.members.items;
  served_by = map (λ m. m.server) w.members.items;
  servers = states state w.servers;
}

-- it shows it
abbrev pub ShowsItsScene : World Hostile → Type 0
ShowsItsScene w = ShowsScene state w (scene_of w)

-- ---- the header

-- the header that has been read
abbrev pub header_by : Header → ScriptHeader
header_by h = record { mode = h.mode; count = h.count; key = h.key; hostile = h.hostile }

-- where it leaves a script, if it has begun
abbrev pub progress_by : Option Header → Progress
progress_by None = Before
progress_by (Some h) = Heads (header_by h)

-- its group has 1 to 64 clients
abbrev pub HasFew : Option Header → Type 0
HasFew None = Unit {0}
HasFew (Some h) = (0 < h.count) × (h.count ≤ MOST_CLIENTS)

-- what a line came to before the first event: tried in its place it leads on there, or is bad; or it is the same in the scene that the
-- header opens
abbrev pub Leads : Progress → Option Line → Headed → Type 0
Leads place l (headed.Goes next) = (trial_of_line place l ≡ Does (progress_by next) []) × HasFew next
Leads place l (headed.Ends h) = (place ≡ Heads (header_by h)) × ((trial_of_line place l ≡ trial_of_line (Stands (opening_by (header_by h))) l) × HasFew (Some h))
Leads place l (headed.Bad h kind) = (trial_of_line place l ≡ Fails kind) × ((place ≡ progress_by h) × HasFew h)

-- ---- the lines behind it

-- a world shows where a script stands behind its header
abbrev pub ShowsProgress : World Hostile → Progress → Type 0
ShowsProgress w Before = ⊥
ShowsProgress w (Heads h) = ⊥
ShowsProgress w (Stands s) = ShowsScene state w s

-- and its scene is reached by so many lines
abbrev pub ShowsReached : World Hostile → Progress → ℕ → Type 0
ShowsReached w Before n = ⊥
ShowsReached w (Heads h) n = ⊥
ShowsReached w (Stands s) n = ShowsScene state w s × IsReached s n

-- what trying a line in a scene made of a world and of what was printed before
abbrev pub Tries : Trial → SceneOf Hostile → World Hostile → List ℕ → List ℕ → Option ℕ → Type 0
Tries (Fails kind) s w old new bad = (bad ≡ Some kind) × ((new ≡ old) × ShowsScene state w s)
Tries (Does place text) s w old new bad = (bad ≡ None) × ((new ≡ old ++ text) × ShowsProgress w place)

-- a line that ends so far in a script is tried
abbrev pub trial_at : ℕ → Progress → List ℕ → Trial
trial_at behind place text = if nat_lt script_limit behind then Fails 7 else trial_of_line place (line_of (mode_in (scene_in place)) text)

-- the same for the line of a number
abbrev pub Follows : ℕ → Trial → SceneOf Hostile → World Hostile → List ℕ → List ℕ → Option BadLine → Type 0
Follows n (Fails kind) s w old new bad = (bad ≡ Some (record { number = n; kind = kind })) × ((new ≡ old) × ShowsScene state w s)
Follows n (Does place text) s w old new bad = (bad ≡ None) × ((new ≡ old ++ text) × ShowsReached w place (n + 1))

-- how a run ends: with a bad line, or else by whether a tag was forged
abbrev pub end_by : Option Bad → Bool → End
end_by (Some b) forged = end.Bad
end_by None true = end.Forged
end_by None false = end.Whole

abbrev pub end_of : ScriptRun → End
end_of r = end_by r.bad (is_forged (group_in r.scene) (history_in r.scene))

-- a transcript is what a run did
abbrev pub Tells : ScriptRun → Transcript → Type 0
Tells r t = (transcript_group t ≡ group_in r.scene) × (transcript_history t ≡ history_in r.scene)

-- what the lines of a run come to: what was done, what they printed, and the bad line; or, where none is bad, a world that shows where it
-- stands
abbrev pub ComesTo : ScriptRun → Ran → Type 0
ComesTo r (ran.Stopped t text b) = (r.bad ≡ Some (record { number = b.number; kind = b.kind })) × ((r.text ≡ text) × Tells r t)
ComesTo r (ran.Whole w text) = (r.bad ≡ None) × ((r.text ≡ text) × ((r.scene ≡ Some (scene_of w)) × ShowsItsScene w))
