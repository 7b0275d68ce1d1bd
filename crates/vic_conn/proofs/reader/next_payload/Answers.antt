use Rattle.std.proofs.Common.{◌≡◌, ◌<◌, ◌≤◌, Ok, Err, ap, ◌∙◌, arith}
use Rattle.std.specs.Int.{w32}
use Rattle.vic_wire.specs.Reading.{number_at}
use Rattle.vic_conn.specs.Frames.{Whole}
use Rattle.vic_conn.proofs.Fronts.{zero_refused, long_refused, length_allowed, bad_length, whole_told, whole_behind}
use Rattle.vic_conn.proofs.Taking.{waits_for_length, waits_for_payload, has_payload}
use Rattle.vic_conn.proofs.reader.next_payload.Goals as goal

pub returns-in_default-clause-ok : goal.returns-in_default-clause-ok
returns-in_default-clause-ok c =
    let bytes = c.args.bytes.now in
    let e = c.in_default.ensures in
    waits_for_length bytes c.in_default.field-0 (rw c.new-cut.ensures at e.gives) (λ is. e.no_memory (ap Err is))

pub returns-then-size-eq0-clause-err : goal.returns-then-size-eq0-clause-err
returns-then-size-eq0-clause-err c =
    let bytes = c.args.bytes.now in
    let at : number_at w32 bytes ≡ Ok (c.in-Ok.size, c.take_u32.new.self) = rw c.new-cut.ensures at c.in-Ok.ensures.gives in
    let n = c.in-Ok.size in
    let broken = bad_length bytes _ n at (zero_refused n c.if-size-eq0.true) in
    cc (broken, c.if-size-eq0.true)

pub returns-then-size-gt-LONGEST_FRAME-clause-err : goal.returns-then-size-gt-LONGEST_FRAME-clause-err
returns-then-size-gt-LONGEST_FRAME-clause-err c =
    let bytes = c.args.bytes.now in
    let at : number_at w32 bytes ≡ Ok (c.in-Ok.size, c.take_u32.new.self) = rw c.new-cut.ensures at c.in-Ok.ensures.gives in
    let n = c.in-Ok.size in
    let long : 16777216 < n = omega (arith, c.if-size-gt-LONGEST_FRAME.true) in
    (omega (arith, long), bad_length bytes _ n at (long_refused n long))

pub returns-in-Ok-take_bytes-clause-ok : goal.returns-in-Ok-take_bytes-clause-ok
returns-in-Ok-take_bytes-clause-ok c =
    let bytes = c.args.bytes.now in
    let at : number_at w32 bytes ≡ Ok (c.in-Ok.size, c.take_u32.new.self) = rw c.new-cut.ensures at c.in-Ok.ensures.gives in
    let n = c.in-Ok.size in
    let some : 0 < n = omega arith in
    let most : n ≤ 16777216 = omega (arith, c.if-size-gt-LONGEST_FRAME.false) in
    let p = c.in-Ok-take_bytes.payload.now in
    let whole = has_payload bytes c.take_u32.new.self p c.take_bytes.new.self n at (length_allowed n some most) c.in-Ok-take_bytes.ensures.gives in
    whole ∙ ap (Whole p) (whole_behind bytes p c.take_bytes.new.self (whole_told bytes p c.take_bytes.new.self whole))

pub returns-in-Err-clause-ok : goal.returns-in-Err-clause-ok
returns-in-Err-clause-ok c =
    let bytes = c.args.bytes.now in
    let at : number_at w32 bytes ≡ Ok (c.in-Ok.size, c.take_u32.new.self) = rw c.new-cut.ensures at c.in-Ok.ensures.gives in
    let n = c.in-Ok.size in
    let some : 0 < n = omega arith in
    let most : n ≤ 16777216 = omega (arith, c.if-size-gt-LONGEST_FRAME.false) in
    let e = c.in-Err.ensures in
    waits_for_payload bytes c.take_u32.new.self n c.in-Err.field-0 at (length_allowed n some most) e.gives (λ is. e.no_memory (ap Err is))
