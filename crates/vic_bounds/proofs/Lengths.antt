-- How long the texts of messages are.
use Rattle.std.proofs.Common.{◌≡◌, ℕ, ◌+◌, ◌*◌, ◌<◌, ◌≤◌, List, [], ◌∷◌, ◌++◌, length, Bool, true, false, cond, refl, ap, sym, subst, arith}
use Rattle.std.specs.Prelude.{◌==◌, if◌then◌else◌}
use Rattle.std.specs.List.{flat_map, AllByRecursion}
use Rattle.std.specs.Int.{w16, w32, to_be_bytes}
use Rattle.std.proofs.lemmas.List.{length-append}
use Rattle.vic_dict.specs.declared.op.Op.{Op}
use Rattle.vic_dict.specs.declared.op.Op.TheVariants as op
use Rattle.vic_dict.specs.declared.op.Entry.{Entry}
use Rattle.vic_dict.specs.Dictionary.{Fits}
use Rattle.vic_wire.specs.declared.message.Tagged.{Tagged}
use Rattle.vic_wire.specs.declared.message.Seal.{Seal}
use Rattle.vic_wire.specs.declared.message.ToServer.{ToServer}
use Rattle.vic_wire.specs.declared.message.ToServer.TheVariants as ask
use Rattle.vic_wire.specs.declared.message.ToClient.{ToClient}
use Rattle.vic_wire.specs.declared.message.ToClient.TheVariants as say
use Rattle.vic_wire.specs.Texts.{short_text, op_text, entry_text, status_byte}
use Rattle.vic_wire.specs.Messages.{IsEntry, IsSeal, IsTagged, HasSpelling, tagged_field, seal_field, entries_field, answer_text, HasRequestSpelling, request_text}
use Rattle.vic_bounds.specs.Bounds.{HasShortPart}

op_short : (o : Op) → Fits o → length (op_text o) ≤ 322
op_short (op.Put k v) f = omega (arith, f, length-append (short_text k) (short_text v))
op_short (op.Get k) f = omega (arith, f)
op_short (op.Del k) f = omega (arith, f)
op_short (op.List p) f = omega (arith, f)

tagged_short : (t : Tagged) → IsTagged t → length (tagged_field t) ≤ 359
tagged_short t is = omega (arith, op_short t.entry.op is.entry.op.0, is.tag, length-append (entry_text t.entry) t.tag.bytes, length-append (to_be_bytes w32 t.entry.seq) (op_text t.entry.op))

entries_short : (ts : List Tagged) → AllByRecursion IsTagged ts → length (flat_map tagged_field ts) ≤ 359 * length ts
entries_short [] a = omega arith
entries_short (t ∷ ts) a = omega (arith, tagged_short t a.0, entries_short ts a.1, length-append (tagged_field t) (flat_map tagged_field ts))

seal_short : (s : Seal) → IsSeal s → length (seal_field s) ≤ 68
seal_short s is = by_test (s.position == 0)
  where
    by_test : (b : Bool) → length (cond b (to_be_bytes w32 0) (to_be_bytes w32 s.position ++ s.root.bytes ++ s.tag.bytes)) ≤ 68
    by_test true = omega arith
    by_test false = omega (arith, is.root, is.tag, length-append (to_be_bytes w32 s.position ++ s.root.bytes) s.tag.bytes, length-append (to_be_bytes w32 s.position) s.root.bytes)

-- an answer has at most so many bytes that its envelope fits a frame
pub answer_short : (a : ToClient) → HasSpelling a → HasShortPart a → length (answer_text a) ≤ 16777211
answer_short say.Hi h p = omega arith
answer_short (say.Reply seal entries part) h p =
    omega (arith, p, seal_short seal h.0, h.1.1.0, entries_short entries h.1.1.1, length-append (seal_field seal ++ entries_field entries) part, length-append (seal_field seal) (entries_field entries), length-append (to_be_bytes w16 (length entries)) (flat_map tagged_field entries))
answer_short say.Wait h p = omega arith
answer_short (say.Update seal part) h p = omega (arith, p, seal_short seal h, length-append (seal_field seal) part)
answer_short (say.Entries seal entries) h p =
    omega (arith, seal_short seal h.0, h.1.0, entries_short entries h.1.1, length-append (seal_field seal) (entries_field entries), length-append (to_be_bytes w16 (length entries)) (flat_map tagged_field entries))
answer_short (say.Refused reason) h p = omega arith
answer_short say.Kept h p = omega arith
answer_short (say.Content content) h p = omega (arith, h)
answer_short say.Gone h p = omega arith
answer_short say.Absent h p = omega arith

pub answer_some : (a : ToClient) → 0 < length (answer_text a)
answer_some say.Hi = omega arith
answer_some (say.Reply seal entries part) = omega arith
answer_some say.Wait = omega arith
answer_some (say.Update seal part) = omega arith
answer_some (say.Entries seal entries) = omega arith
answer_some (say.Refused reason) = omega arith
answer_some say.Kept = omega arith
answer_some (say.Content content) = omega arith
answer_some say.Gone = omega arith
answer_some say.Absent = omega arith

-- a request, likewise, and none is empty
pub request_short : (m : ToServer) → HasRequestSpelling m → length (request_text m) ≤ 16777210
request_short (ask.Hello mode client) h = omega arith
request_short (ask.Invoke known seq o tag) h =
    omega (arith, op_short o h.1.1.0.0, h.1.1.1, length-append (to_be_bytes w32 known ++ to_be_bytes w32 seq ++ op_text o) tag.bytes, length-append (to_be_bytes w32 known ++ to_be_bytes w32 seq) (op_text o), length-append (to_be_bytes w32 known) (to_be_bytes w32 seq))
request_short (ask.Commit position done tag) h = omega (arith, h.1, length-append (to_be_bytes w32 position) (status_byte done ∷ tag.bytes))
request_short ask.Poll h = omega arith
request_short (ask.Seal position root tag) h = omega (arith, h.1, length-append (to_be_bytes w32 position ++ root.bytes) tag.bytes, length-append (to_be_bytes w32 position) root.bytes)
request_short (ask.Sync known) h = omega arith
request_short (ask.Keep content) h = omega (arith, h)
request_short (ask.Fetch hash) h = omega (arith, h)
request_short ask.Bye h = omega arith

pub request_some : (m : ToServer) → 0 < length (request_text m)
request_some (ask.Hello mode client) = omega arith
request_some (ask.Invoke known seq o tag) = omega arith
request_some (ask.Commit position done tag) = omega arith
request_some ask.Poll = omega arith
request_some (ask.Seal position root tag) = omega arith
request_some (ask.Sync known) = omega arith
request_some (ask.Keep content) = omega arith
request_some (ask.Fetch hash) = omega arith
request_some ask.Bye = omega arith
