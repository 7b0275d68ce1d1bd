use Rattle.std.proofs.Common.{◌≡◌, ◌≤◌, ℕ, List, length, IsTrue}
use Rattle.vic_client.specs.Kept.{is_idle}
use Rattle.vic_session.specs.Talks.{Talk, Talker}
use Rattle.vic_session.specs.Talking.{On, Led, IsWithin}
use Rattle.vic_session.proofs.lines.go_on.Given as goal

-- the lines so far sent nothing, and the talk goes on from here
abbrev pub invariant-loop-alloc : goal.invariant-loop-alloc
invariant-loop-alloc l = record {
  idle : IsTrue (is_idle l.client);
  few : l.client.calls ≤ l.place.number;
  within : IsWithin l.place;
  total : l.place.total ≡ l.initial.place.total;
  same : l.client ≡ l.initial.client;
  led : (w : Talker) (t : Talk) (start : List ℕ) → On w t start l.initial.client l.initial.place l.initial.out → Led w t start l.client l.place l.out;
}

abbrev pub decreases-loop-alloc : goal.decreases-loop-alloc
decreases-loop-alloc l = length l.place.rest.now
