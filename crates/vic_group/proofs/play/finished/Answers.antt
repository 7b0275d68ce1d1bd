use Rattle.std.proofs.Common.{None, ap, ◌∙◌}
use Rattle.vic_group.specs.Playing.{end_by}
use Rattle.vic_group.proofs.play.finished.Goals as goal

pub put_views-requires : goal.put_views-requires
put_views-requires c = c.requires.lawful

pub returns : goal.returns
returns c = (c.in_ok-forged.ensures.text, c.whole_end.ensures ∙ ap (end_by None) c.in_ok-forged.ensures.forged)
