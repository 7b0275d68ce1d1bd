-- The spelling of a message whose digests, part and content are bytes is bytes.
use Rattle.std.proofs.Common.{◌≤◌, ℕ, ◌<◌, Bool, true, false, cond, eqb, List, [], ◌∷◌, ◌++◌, length, arith}
use Rattle.std.specs.List.{flat_map, AllByRecursion}
use Rattle.std.specs.Int.{w16, w32, to_be_bytes}
use Rattle.vic_dict.specs.Lists.{AreBytes}
use Rattle.vic_dict.specs.Dictionary.{Fits, AreBytesIn}
use Rattle.vic_dict.specs.declared.op.Op.{Op}
use Rattle.vic_dict.specs.declared.op.Op.TheVariants as op
use Rattle.vic_dict.specs.declared.op.Mode.{Mode}
use Rattle.vic_dict.specs.declared.op.Mode.TheVariants as mode
use Rattle.vic_dict.specs.declared.op.Entry.{Entry}
use Rattle.vic_dict.proofs.ByteLists.{AreBytes-nil, AreBytes-cons, AreBytes-append}
use Rattle.vic_wire.specs.declared.message.Seal.{Seal}
use Rattle.vic_wire.specs.declared.message.Tagged.{Tagged}
use Rattle.vic_wire.specs.declared.message.ToClient.{ToClient}
use Rattle.vic_wire.specs.declared.message.ToClient.TheVariants as say
use Rattle.vic_wire.specs.declared.message.ToServer.{ToServer}
use Rattle.vic_wire.specs.declared.message.ToServer.TheVariants as ask
use Rattle.vic_wire.specs.Texts.{short_text, op_text, entry_text, mode_byte, status_byte}
use Rattle.vic_wire.specs.Messages.{IsEntry, IsTagged, seal_field, tagged_field, entries_field, answer_text, HasSpelling, request_text, HasRequestSpelling}
use Rattle.vic_spellings.specs.Spellings.{HasBytes, HaveByteTags, HoldsBytes, RequestHoldsBytes}
use Rattle.vic_spellings.proofs.Bytes.{bytes-w16, bytes-w32}

pub bytes-short : (text : List ℕ) → length text ≤ 255 → AreBytes text → AreBytes (short_text text)
bytes-short text lt h = AreBytes-cons (length text) text (omega (arith, lt)) h

pub bytes-op : (o : Op) → Fits o → AreBytesIn o → AreBytes (op_text o)
bytes-op (op.Put k v) fits h = AreBytes-cons 1 (short_text k ++ short_text v) (omega arith) (AreBytes-append (short_text k) (short_text v) (bytes-short k fits.0.1 h.0) (bytes-short v (omega (arith, fits.1)) h.1))
bytes-op (op.Get k) fits h = AreBytes-cons 2 (short_text k) (omega arith) (bytes-short k fits.1 h)
bytes-op (op.Del k) fits h = AreBytes-cons 3 (short_text k) (omega arith) (bytes-short k fits.1 h)
bytes-op (op.List p) fits h = AreBytes-cons 4 (short_text p) (omega arith) (bytes-short p fits h)

pub bytes-entry : (e : Entry) → IsEntry e → AreBytes (entry_text e)
bytes-entry e fits = AreBytes-cons e.client (to_be_bytes w32 e.seq ++ op_text e.op) (omega (arith, fits.client)) (AreBytes-append (to_be_bytes w32 e.seq) (op_text e.op) (bytes-w32 e.seq) (bytes-op e.op fits.op.0 fits.op.1))

pub bytes-tagged : (t : Tagged) → IsTagged t → AreBytes t.tag.bytes → AreBytes (tagged_field t)
bytes-tagged t fits h = AreBytes-append (entry_text t.entry) t.tag.bytes (bytes-entry t.entry fits.entry) h

pub bytes-tagged_list : (ts : List Tagged) → AllByRecursion IsTagged ts → HaveByteTags ts → AreBytes (flat_map tagged_field ts)
bytes-tagged_list [] fits h = AreBytes-nil
bytes-tagged_list (t ∷ ts) fits h = AreBytes-append (tagged_field t) (flat_map tagged_field ts) (bytes-tagged t fits.0 h.0) (bytes-tagged_list ts fits.1 h.1)

pub bytes-entries : (ts : List Tagged) → AllByRecursion IsTagged ts → HaveByteTags ts → AreBytes (entries_field ts)
bytes-entries ts fits h = AreBytes-append (to_be_bytes w16 (length ts)) (flat_map tagged_field ts) (bytes-w16 (length ts)) (bytes-tagged_list ts fits h)

either_bytes : (b : Bool) (xs ys : List ℕ) → AreBytes xs → AreBytes ys → AreBytes (cond b xs ys)
either_bytes true xs ys h k = h
either_bytes false xs ys h k = k

pub bytes-seal : (s : Seal) → HasBytes s → AreBytes (seal_field s)
bytes-seal s h =
    either_bytes (eqb s.position 0) (to_be_bytes w32 0) (to_be_bytes w32 s.position ++ (s.root.bytes ++ s.tag.bytes)) (bytes-w32 0)
    (AreBytes-append (to_be_bytes w32 s.position) (s.root.bytes ++ s.tag.bytes) (bytes-w32 s.position) (AreBytes-append s.root.bytes s.tag.bytes h.0 h.1))

-- a byte alone
bytes-one : (n : ℕ) → n < 256 → AreBytes (n ∷ [])
bytes-one n lt = AreBytes-cons n [] lt AreBytes-nil

pub answer-bytes : (m : ToClient) → HasSpelling m → HoldsBytes m → AreBytes (answer_text m)
answer-bytes say.Hi fits h = bytes-one 0x41 (omega arith)
answer-bytes (say.Reply seal entries part) fits h =
    AreBytes-cons 0x42 ((seal_field seal ++ entries_field entries) ++ part) (omega arith) (AreBytes-append (seal_field seal ++ entries_field entries) part (AreBytes-append (seal_field seal) (entries_field entries) (bytes-seal seal h.0) (bytes-entries entries fits.1.1.1 h.1.0)) h.1.1)
answer-bytes say.Wait fits h = bytes-one 0x43 (omega arith)
answer-bytes (say.Update seal part) fits h = AreBytes-cons 0x44 (seal_field seal ++ part) (omega arith) (AreBytes-append (seal_field seal) part (bytes-seal seal h.0) h.1)
answer-bytes (say.Entries seal entries) fits h = AreBytes-cons 0x45 (seal_field seal ++ entries_field entries) (omega arith) (AreBytes-append (seal_field seal) (entries_field entries) (bytes-seal seal h.0) (bytes-entries entries fits.1.1 h.1))
answer-bytes (say.Refused reason) fits h = AreBytes-cons 0x46 (reason ∷ []) (omega arith) (bytes-one reason (omega (arith, fits)))
answer-bytes say.Kept fits h = bytes-one 0x47 (omega arith)
answer-bytes (say.Content content) fits h = AreBytes-cons 0x48 content (omega arith) h
answer-bytes say.Gone fits h = bytes-one 0x49 (omega arith)
answer-bytes say.Absent fits h = bytes-one 0x4a (omega arith)

mode-byte : (m : Mode) → mode_byte m < 256
mode-byte mode.Plain = omega arith
mode-byte mode.Objects = omega arith

status-byte : (done : Bool) → status_byte done < 256
status-byte true = omega arith
status-byte false = omega arith

pub request-bytes : (m : ToServer) → HasRequestSpelling m → RequestHoldsBytes m → AreBytes (request_text m)
request-bytes (ask.Hello kind client) fits h =
    AreBytes-cons 0x21 (1 ∷ mode_byte kind ∷ client ∷ []) (omega arith) (AreBytes-cons 1 (mode_byte kind ∷ client ∷ []) (omega arith) (AreBytes-cons (mode_byte kind) (client ∷ []) (mode-byte kind) (bytes-one client fits)))
request-bytes (ask.Invoke known seq o tag) fits h =
    AreBytes-cons 0x22 (to_be_bytes w32 known ++ (to_be_bytes w32 seq ++ (op_text o ++ tag.bytes))) (omega arith)
    (AreBytes-append (to_be_bytes w32 known) (to_be_bytes w32 seq ++ (op_text o ++ tag.bytes)) (bytes-w32 known)
    (AreBytes-append (to_be_bytes w32 seq) (op_text o ++ tag.bytes) (bytes-w32 seq) (AreBytes-append (op_text o) tag.bytes (bytes-op o fits.1.1.0.0 fits.1.1.0.1) h)))
request-bytes (ask.Commit position done tag) fits h =
    AreBytes-cons 0x23 (to_be_bytes w32 position ++ (status_byte done ∷ tag.bytes)) (omega arith)
    (AreBytes-append (to_be_bytes w32 position) (status_byte done ∷ tag.bytes) (bytes-w32 position) (AreBytes-cons (status_byte done) tag.bytes (status-byte done) h))
request-bytes ask.Poll fits h = bytes-one 0x24 (omega arith)
request-bytes (ask.Seal position root tag) fits h =
    AreBytes-cons 0x25 (to_be_bytes w32 position ++ (root.bytes ++ tag.bytes)) (omega arith)
    (AreBytes-append (to_be_bytes w32 position) (root.bytes ++ tag.bytes) (bytes-w32 position) (AreBytes-append root.bytes tag.bytes h.0 h.1))
request-bytes (ask.Sync known) fits h = AreBytes-cons 0x26 (to_be_bytes w32 known) (omega arith) (bytes-w32 known)
request-bytes (ask.Keep content) fits h = AreBytes-cons 0x27 content (omega arith) h
request-bytes (ask.Fetch hash) fits h = AreBytes-cons 0x28 hash.bytes (omega arith) h
request-bytes ask.Bye fits h = bytes-one 0x29 (omega arith)
