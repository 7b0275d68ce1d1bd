use Rattle.std.proofs.Common.{◌≡◌, length, arith}
use Rattle.vic_conn.proofs.Left.{some_left}
use Rattle.vic_conn.proofs.reader.FrameReader.mid.Goals as goal

pub returns : goal.returns
returns c =
    let taken = c.self.inside.taken in
    let items = c.self.inside.bytes.items in
    let len : c.len.result ≡ length items = omega (arith, c.len.ensures, c.self.inside.bytes.ok.0) in
    rw (len, ← c.self.view_is) (some_left taken items)
