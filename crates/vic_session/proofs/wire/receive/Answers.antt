use Rattle.std.proofs.Common.{◌≡◌, ◌++◌, ◌+◌, List, ℕ, take, length, ap, subst, ◌∙◌, Ok, Err, rules, arith}
use Rattle.std.proofs.lemmas.Grind.{common_steps}
use Rattle.std.proofs.lemmas.List.{length-append, length-take-le}
use Rattle.vic_conn.specs.Frames.{Waits, Broken, front_of}
use Rattle.vic_conn.proofs.Spelled.{fronts_are}
use Rattle.vic_session.proofs.wire.receive.Goals as goal
use Rattle.vic_ports.proofs.Told.{behind_more}

pub returns-in-Err-TooLong : goal.returns-in-Err-TooLong
returns-in-Err-TooLong g c =
    let i = c.reads.invariant in
    let r = i.so_far in
    let n = c.in-Err-TooLong.field-0-0 in
    let broken : front_of c.reads.reader ≡ Broken n = ((c.take_frame.ensures.too_long n).0 (c.in-Err-TooLong.is ∙ ap Err c.in-Err-TooLong.field-0-is)).1 in
    (r.0, (r.1.0, (i.written, ((n, subst (λ (l : List ℕ). front_of l ≡ Broken n) r.1.1 broken), i.quiet))))

pub returns-then-is_err : goal.returns-then-is_err
returns-then-is_err g c =
    let i = c.reads.invariant in
    let r = i.so_far in
    let given = c.in-Bytes.ensures.given in
    (r.0 ++ take c.in-Bytes.n c.read.new.into, (behind_more r.0 (take c.in-Bytes.n c.read.new.into) _ _ _ r.1.0 given.0.2, (given.1 ∙ i.written, given.0.4 ∙ i.quiet)))

pub reads-smaller : goal.reads-smaller
reads-smaller g c =
    let none = c.in-Ok-None.is ∙ ap Ok c.in-Ok-None.field-0-is in
    let waits : front_of c.reads.reader ≡ Waits = c.take_frame.ensures.none.0 none in
    let few = fronts_are.short c.reads.reader waits in
    let given = c.in-Bytes.ensures.given in
    let some = given.0.0 in
    let same : c.take_frame.new.self ≡ c.reads.reader = c.take_frame.ensures.none_stays none in
    let more : c.feed.new.self ≡ c.reads.reader ++ take c.in-Bytes.n c.read.new.into = first_of (search rules, grind (arith, common_steps)) in
    let longer : length c.feed.new.self ≡ length c.reads.reader + length (take c.in-Bytes.n c.read.new.into) = ap length more ∙ length-append c.reads.reader (take c.in-Bytes.n c.read.new.into) in
    let piece : length (take c.in-Bytes.n c.read.new.into) ≡ c.in-Bytes.n = length-take-le c.in-Bytes.n c.read.new.into given.0.1 in
    omega (arith, few, some, longer, piece)
