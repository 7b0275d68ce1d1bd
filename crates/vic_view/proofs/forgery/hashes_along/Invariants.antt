use Rattle.std.proofs.Common.{◌≡◌, ◌++◌, take, drop, reverse}
use Rattle.std.specs.List.{AllByRecursion}
use Rattle.vic_wire.specs.Hashes.{chain}
use Rattle.vic_view.specs.Transcripts.{transcript_group}
use Rattle.vic_view.specs.Making.{IsPlaceEntry, hashes_above, hashes_of}
use Rattle.vic_view.proofs.Replays.{entries}
use Rattle.vic_view.proofs.forgery.hashes_along.Given as goal

abbrev pub invariant-loop-place : goal.invariant-loop-place
invariant-loop-place l = record {
  spelled : AllByRecursion IsPlaceEntry (drop l.place-index l.places);
  hashes : l.hashes ++ hashes_above (transcript_group l.t) (reverse (entries (take l.place-index l.places))) (drop l.place-index l.places) ≡ hashes_of (transcript_group l.t) l.places;
  last : l.last.bytes ≡ chain (transcript_group l.t) (reverse (entries (take l.place-index l.places)));
}
