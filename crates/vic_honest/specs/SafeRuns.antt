-- Honest runs in which no two different contents that were sent have one hash.
use Rattle.std.specs.Prelude.{◌≡◌, ◌≢◌, ℕ, List, [], ◌∷◌, ◌++◌}
use Rattle.vic_dict.specs.declared.op.Mode.TheVariants as mode
use Rattle.vic_dict.specs.Lists.{IsIn}
use Rattle.vic_wire.specs.Hashes.{Group}
use Rattle.vic_rules.specs.declared.trace.TraceStep.{TraceStep}
use Rattle.vic_rules.specs.Objects.{content_hash}
use Rattle.vic_rules.specs.History.{move_of}
use Rattle.vic_rules.specs.Trust.{content_sent}
use Rattle.vic_order.specs.Order.{Server}
use Rattle.vic_order.specs.Scenes.{Scene, Event}
use Rattle.vic_order.specs.Honest.{IsHonestRun}

-- the contents that clients sent to be kept
unfoldable pub contents_sent : Group → List TraceStep → List (List ℕ)
contents_sent g [] = []
contents_sent g (x ∷ past) = content_sent (move_of g past x).sends ++ contents_sent g past

-- two different contents that clients sent have one hash
pub record ContentsCollide (g : Group) (h : List TraceStep) : Type 0 where
  pub one : List ℕ
  pub other : List ℕ
  pub one_sent : IsIn (contents_sent g h) one
  pub other_sent : IsIn (contents_sent g h) other
  pub differ : one ≢ other
  pub same_hash : content_hash one ≡ content_hash other

-- in a group with objects no two different contents that clients sent have one hash
abbrev pub AreApart : Group → List TraceStep → Type 0
AreApart g h = g.mode ≡ mode.Objects → ContentsCollide g h → ⊥

-- a run of which the laws hold: an honest one whose contents are apart. In a plain group each honest run is one
pub record IsSafeRun (s : Scene) (server : Server) (events : List Event) : Type 0 where
  pub honest : IsHonestRun s server events
  pub apart : AreApart s.group s.history
