use Rattle.std.proofs.Common.{◌≡◌, take, drop}
use Rattle.std.specs.List.{AllByRecursion}
use Rattle.vic_view.specs.Transcripts.{transcript_group}
use Rattle.vic_view.specs.Making.{HasEntries, hashes_with}
use Rattle.vic_view.proofs.forgery.all_hashes.Given as goal

abbrev pub invariant-loop-path : goal.invariant-loop-path
invariant-loop-path l = AllByRecursion HasEntries (drop l.path-index l.paths) × (l.all ≡ hashes_with (transcript_group l.t) (take l.path-index l.paths))
