-- What a client keeps, and for which standings it stands.
use Rattle.std.specs.Prelude.{◌≡◌, ℕ, Bool, ◌&&◌, List, Option, is_none}
use Rattle.vic_dict.specs.declared.op.Mode.{Mode}
use Rattle.vic_wire.specs.Hashes.{Group}
use Rattle.vic_rules.specs.declared.state.Own.{Own}
use Rattle.vic_rules.specs.declared.state.Awaiting.{Awaiting}
use Rattle.vic_rules.specs.declared.object.Phase.{Phase}
use Rattle.vic_rules.specs.declared.trace.Input.{Input}
use Rattle.vic_rules.specs.Client.{Standing, Move, step, payload_of, awaits_nothing}
use Rattle.vic_chain.specs.Held.{Held, ShowsPath}

-- who it is, its group, the window of its path, its own calls that aren't sealed, what it awaits, how often it called, how far its
-- call on objects has come, and the check at which it halted
pub record KeptClient : Type 0 where
  -- its number, from 1 on
  pub id : ℕ
  -- how many clients the group has
  pub count : ℕ
  -- plain, or with objects
  pub mode : Mode
  -- the bytes of the group's key
  pub key : List ℕ
  -- the highest seal, and the path above it
  pub window : Held
  -- its own calls that aren't sealed, the oldest first
  pub own : List Own
  -- the answer that it awaits, if one
  pub awaiting : Awaiting
  -- how many calls it has made
  pub calls : ℕ
  -- how far its call on objects has come
  pub phase : Phase
  -- the check at which it halted, if it did
  pub halted : Option ℕ

-- the group that it is in
abbrev pub kept_group : KeptClient → Group
kept_group c = record { mode = c.mode; count = c.count; key = c.key }

-- the window shows the path of the standing, and all else is the standing's own
pub record StandsFor (c : KeptClient) (s : Standing) : Type 0 where
  pub path : ShowsPath (kept_group c) s.path c.window
  pub sealed : s.sealed ≡ c.window.sealed
  pub root : s.root ≡ c.window.root
  pub own : s.own ≡ c.own
  pub awaiting : s.awaiting ≡ c.awaiting
  pub calls : s.calls ≡ c.calls
  pub phase : s.phase ≡ c.phase
  pub halted : s.halted ≡ c.halted

-- the client awaits nothing and has not halted
abbrev pub is_idle : KeptClient → Bool
is_idle c = awaits_nothing c.awaiting && is_none c.halted

-- the same client of the same group
pub record IsSameClient (old new : KeptClient) : Type 0 where
  pub id : new.id ≡ old.id
  pub group : kept_group new ≡ kept_group old

-- the move that a client's step makes from where it stands
abbrev pub kept_move : KeptClient → Standing → Input → Move
kept_move c s given = step (kept_group c) c.id s given

-- what is sent at a move
abbrev pub sent_at : KeptClient → Move → Option (List ℕ)
sent_at c v = payload_of (kept_group c) c.id v.next v.sends
