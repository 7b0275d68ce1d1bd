use Rattle.std.proofs.Common.{◌≡◌, ◌++◌, List, ℕ, take, ap, subst, ◌∙◌, Err}
use Rattle.vic_conn.specs.Frames.{Broken, front_of}
use Rattle.vic_gate.proofs.worker.next_frame.Goals as goal
use Rattle.vic_ports.proofs.Told.{behind_more}

pub returns-in-Err-TooLong : goal.returns-in-Err-TooLong
returns-in-Err-TooLong g c =
    let i = c.loop.invariant in
    let r = i.so_far in
    let n = c.in-Err-TooLong.field-0-0 in
    let broken : front_of c.loop.reader ≡ Broken n = ((c.take_frame.ensures.too_long n).0 (c.in-Err-TooLong.is ∙ ap Err c.in-Err-TooLong.field-0-is)).1 in
    (r.0, (r.1.0, (i.written, ((n, subst (λ (l : List ℕ). front_of l ≡ Broken n) r.1.1 broken), i.quiet))))

pub returns-then-is_err : goal.returns-then-is_err
returns-then-is_err g c =
    let i = c.loop.invariant in
    let r = i.so_far in
    let given = c.in-Bytes.ensures.given in
    (r.0 ++ take c.in-Bytes.n c.read.new.into, (behind_more r.0 (take c.in-Bytes.n c.read.new.into) _ _ _ r.1.0 given.0.2, (given.1 ∙ i.written, given.0.4 ∙ i.quiet)))
