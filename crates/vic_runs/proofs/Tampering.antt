-- The lines that aren't honest are those that tamper.
use Rattle.std.specs.Prelude.{◌≡◌, false}
use Rattle.std.proofs.Common.{refl, true≢false}
use Rattle.vic_script.specs.declared.line.Line.{Line}
use Rattle.vic_script.specs.declared.line.Line.TheVariants as line
use Rattle.vic_script.specs.Scenes.{is_honest_line}
use Rattle.vic_runs.specs.Tampering.{Tampers, gives, repeats, flips, resends, copies, moves, turns_hostile, HonestLineIs}

tampers : (l : Line) → is_honest_line l ≡ false → Tampers l
tampers (line.Clients n) e = absurd (true≢false e)
tampers (line.Objects n) e = absurd (true≢false e)
tampers (line.Key digits) e = absurd (true≢false e)
tampers (line.Hostile name n) e = turns_hostile name n
tampers (line.Call i o) e = absurd (true≢false e)
tampers (line.Object i c) e = absurd (true≢false e)
tampers (line.Poll i) e = absurd (true≢false e)
tampers (line.Sync i) e = absurd (true≢false e)
tampers (line.Serve i) e = absurd (true≢false e)
tampers (line.Take i) e = absurd (true≢false e)
tampers (line.Run i) e = absurd (true≢false e)
tampers (line.Give i payload) e = gives i payload
tampers (line.Again i) e = repeats i
tampers (line.Flip i n) e = flips i n
tampers (line.Resend i) e = resends i
tampers (line.Copy n t) e = copies n t
tampers (line.Move i n) e = moves i n
tampers line.Skip e = absurd (true≢false e)

not_honest : (l : Line) → Tampers l → is_honest_line l ≡ false
not_honest _ (gives i payload) = refl
not_honest _ (repeats i) = refl
not_honest _ (flips i n) = refl
not_honest _ (resends i) = refl
not_honest _ (copies n t) = refl
not_honest _ (moves i n) = refl
not_honest _ (turns_hostile name n) = refl

pub honest_line_tells : HonestLineIs
honest_line_tells l = (tampers l, not_honest l)
