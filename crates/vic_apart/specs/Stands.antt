-- Where clients stand, as their steps tell it.
use Rattle.std.specs.Prelude.{◌≡◌, ℕ, ◌+◌, ◌<◌, List, [], ◌∷◌, ◌++◌, length, Option, Some, None, slice_index_or}
use Rattle.vic_wire.specs.declared.message.ToClient.{ToClient}
use Rattle.vic_wire.specs.declared.message.ToClient.TheVariants as say
use Rattle.vic_wire.specs.Hashes.{Group}
use Rattle.vic_rules.specs.declared.trace.TraceStep.{TraceStep}
use Rattle.vic_rules.specs.History.{standing}
use Rattle.vic_laws.specs.Meanings.{parts_of}
use Rattle.vic_view.specs.Replay.{replayed_path}
use Rattle.vic_apart.specs.declared.stand.Stand.{Stand}

abbrev pub no_stand : Stand
no_stand = record { path = []; sealed = 0; parts = [] }

-- where a client stands that took an answer. Its path is read from all its steps at once
abbrev pub stand_with : Option ToClient → Stand → Stand
stand_with None s = s
stand_with (Some (say.Reply seal entries part)) s = record { path = s.path; sealed = seal.position; parts = s.parts ++ part ∷ [] }
stand_with (Some (say.Update seal part)) s = record { path = s.path; sealed = seal.position + 1; parts = s.parts ++ part ∷ [] }
stand_with (Some (say.Entries seal entries)) s = record { path = s.path; sealed = seal.position; parts = s.parts }
stand_with (Some say.Hi) s = s
stand_with (Some say.Wait) s = s
stand_with (Some (say.Refused r)) s = s
stand_with (Some say.Kept) s = s
stand_with (Some (say.Content c)) s = s
stand_with (Some say.Gone) s = s
stand_with (Some say.Absent) s = s

-- the client has taken so much of a history
pub record HasTaken (g : Group) (me : ℕ) (h : List TraceStep) (s : Stand) : Type 0 where
  pub sealed : s.sealed ≡ (standing g me h).sealed
  pub parts : s.parts ≡ parts_of g me h

-- the client stands so after the history
pub record StandsAs (g : Group) (me : ℕ) (h : List TraceStep) (s : Stand) : Type 0 where
  pub path : s.path ≡ (replayed_path me h).places
  pub sealed : s.sealed ≡ (standing g me h).sealed
  pub parts : s.parts ≡ parts_of g me h

-- and so do the clients from 1 on, so many
pub record AreStands (count : ℕ) (g : Group) (h : List TraceStep) (all : List Stand) : Type 0 where
  pub size : length all ≡ count
  pub each : (k : ℕ) → k < count → StandsAs g (k + 1) h (slice_index_or all k no_stand)
