-- Whole requests: what is read is what was spelled, and what is spelled is read again.
use Rattle.std.proofs.Common.{◌≡◌, ℕ, zero, suc, ◌^◌, ◌<◌, ◌≤◌, Bool, true, false, cond, eqb, ltb, leb, List, [], ◌∷◌, ◌++◌, length, Some, Result, Ok, Err, refl, sym, ap, subst, ◌∙◌, arith}
use Rattle.std.specs.Int.{w32, to_be_bytes}
use Rattle.std.proofs.lemmas.Bool.{eqb-true, lt-ltb, leb-true, le-leb}
use Rattle.std.proofs.lemmas.List.{append-nil}
use Rattle.vic_dict.specs.Lists.{AreBytes}
use Rattle.vic_dict.specs.declared.op.Op.{Op}
use Rattle.vic_dict.specs.declared.op.Mode.{Mode}
use Rattle.vic_dict.specs.declared.op.Mode.TheVariants as mode
use Rattle.vic_dict.proofs.ByteLists.{AreBytes-nil}
use Rattle.vic_wire.specs.declared.message.Digest32.{Digest32}
use Rattle.vic_wire.specs.declared.message.ToServer.{ToServer}
use Rattle.vic_wire.specs.declared.message.ToServer.TheVariants as ask
use Rattle.vic_wire.specs.Texts.{op_text, mode_byte, status_byte}
use Rattle.vic_wire.specs.Messages.{IsDigest, request_text, HasRequestSpelling}
use Rattle.vic_wire.specs.Reading.{FieldFault, Value, ◌>>=◌, byte_at, number_at, if_allowed, digest_at, op_at, if_ended, mode_of, hello_at, invoke_at, commit_at, seal_request_at, sync_at, fetch_at, request_of_kind, some_read, read_request}
use Rattle.vic_spellings.specs.Spellings.{RequestHoldsBytes}
use Rattle.vic_spellings.proofs.Steps.{bind_ok, allowed_ok, by_kind, err_is_none, ended_ok, some_ok, ok_is, Takes, Takes-then}
use Rattle.vic_spellings.proofs.Fields.{byte_takes, w32_takes, w32_again, positive_takes, digest_takes, digest_again}
use Rattle.vic_spellings.proofs.Operations.{op_takes, op_again}

-- the payload is the spelling of the request
abbrev pub SpellsRequest : List ℕ → ToServer → Type 0
SpellsRequest bytes m = HasRequestSpelling m × (bytes ≡ request_text m) × RequestHoldsBytes m

-- a request of one byte
bare_found : (kind : ℕ) (bare : ToServer) (bytes : List ℕ) (m : ToServer) → SpellsRequest (kind ∷ []) bare → if_ended (bare, bytes) ≡ Ok m → SpellsRequest (kind ∷ bytes) m
bare_found kind bare bytes m is e =
    let d = ended_ok (bare, bytes) m e in
    subst (λ (n : ToServer). SpellsRequest (kind ∷ bytes) n) d.1 (is.0, ap (λ (t : List ℕ). kind ∷ t) d.0 ∙ is.1, is.2)

-- what was taken up to the end
taken_whole : (bytes text rest : List ℕ) → Takes bytes text rest → rest ≡ [] → bytes ≡ text
taken_whole bytes text rest t e = t.parts ∙ ap (λ (r : List ℕ). text ++ r) e ∙ append-nil text

-- the same with the byte of the kind before it
taken_all : (kind : ℕ) (bytes text rest : List ℕ) → Takes bytes text rest → rest ≡ [] → kind ∷ bytes ≡ kind ∷ text
taken_all kind bytes text rest t e = ap (λ (r : List ℕ). kind ∷ r) (taken_whole bytes text rest t e)

-- a byte and a text up to the end
byte_and_whole : (bytes : List ℕ) (b : ℕ) (after text rest : List ℕ) → bytes ≡ b ∷ after → Takes after text rest → rest ≡ [] → Takes bytes (b ∷ text) []
byte_and_whole bytes b after text rest e t f = record { parts = e ∙ ap (λ (r : List ℕ). b ∷ r) (t.parts ∙ ap (λ (r : List ℕ). text ++ r) f); rest_fits = AreBytes-nil }

mode_takes : (b : ℕ) (m : Mode) → mode_of b ≡ Ok m → b ≡ mode_byte m
mode_takes b m e =
    let found : Result Mode FieldFault = Ok m in
    let none : Result Mode FieldFault = Err Value in
    let plain : Result Mode FieldFault = Ok mode.Plain in
    let objects : Result Mode FieldFault = Ok mode.Objects in
    let P : ℕ → Type 0 = λ (n : ℕ). n ≡ mode_byte m in
    by_kind P b 0 plain (cond (eqb b 1) objects none) found e (λ h. ap mode_byte (ok_is mode.Plain m h))
    (λ e1. by_kind P b 1 objects none found e1 (λ h. ap mode_byte (ok_is mode.Objects m h))
    (λ e2. absurd (err_is_none Value m e2)))

hello_spelled : (bytes after_version after_kind rest : List ℕ) (b : ℕ) (kind : Mode) (client : ℕ) → bytes ≡ 1 ∷ after_version → after_version ≡ b ∷ after_kind → b ≡ mode_byte kind → after_kind ≡ client ∷ rest → rest ≡ []
    → 0x21 ∷ bytes ≡ request_text (ask.Hello kind client)
hello_spelled bytes after_version after_kind rest b kind client e f g h i = cc

hello_found : (bytes : List ℕ) (m : ToServer) → AreBytes bytes → hello_at bytes ≡ Ok m → SpellsRequest (0x21 ∷ bytes) m
unfolding hello_at
hello_found bytes m fits e =
    let a = bind_ok (byte_at bytes) (λ v. if_allowed (eqb v.0 1) v >>= λ version. byte_at version.1 >>= λ m. mode_of m.0 >>= λ kind. byte_at m.1 >>= λ c. if_ended (ask.Hello kind c.0, c.1)) m e in
    let b = bind_ok (if_allowed (eqb a.0.0 1) a.0) (λ version. byte_at version.1 >>= λ m. mode_of m.0 >>= λ kind. byte_at m.1 >>= λ c. if_ended (ask.Hello kind c.0, c.1)) m a.2 in
    let c = bind_ok (byte_at b.0.1) (λ m. mode_of m.0 >>= λ kind. byte_at m.1 >>= λ c. if_ended (ask.Hello kind c.0, c.1)) m b.2 in
    let d = bind_ok (mode_of c.0.0) (λ kind. byte_at c.0.1 >>= λ c. if_ended (ask.Hello kind c.0, c.1)) m c.2 in
    let f = bind_ok (byte_at c.0.1) (λ c. if_ended (ask.Hello d.0 c.0, c.1)) m d.2 in
    let made : ToServer = ask.Hello d.0 f.0.0 in
    let g = ended_ok (made, f.0.1) m f.2 in
    let version = version_takes bytes a.0 b.0 fits a.1 b.1 in
    let kind = byte_takes b.0.1 c.0 version.1 c.1 in
    let client = byte_takes c.0.1 f.0 kind.2 f.1 in
    subst (λ (n : ToServer). SpellsRequest (0x21 ∷ bytes) n) {x = made} g.1 (client.1, hello_spelled bytes b.0.1 c.0.1 f.0.1 c.0.0 d.0 f.0.0 version.0 kind.0 (mode_takes c.0.0 d.0 d.1) client.0 g.0, tt)
  where
    version_takes : (bytes : List ℕ) (x y : ℕ × List ℕ) → AreBytes bytes → byte_at bytes ≡ Ok x → if_allowed (eqb x.0 1) x ≡ Ok y → (bytes ≡ 1 ∷ y.1) × AreBytes y.1
    version_takes bytes x y fits e f =
        let a = allowed_ok (eqb x.0 1) x y f in
        let t = byte_takes bytes x fits e in
        subst (λ (z : ℕ × List ℕ). (bytes ≡ 1 ∷ z.1) × AreBytes z.1) a.1 (t.0 ∙ ap (λ (n : ℕ). n ∷ x.1) (eqb-true x.0 1 a.0), t.2)

invoke_found : (bytes : List ℕ) (m : ToServer) → AreBytes bytes → invoke_at bytes ≡ Ok m → SpellsRequest (0x22 ∷ bytes) m
unfolding invoke_at
invoke_found bytes m fits e =
    let a = bind_ok (number_at w32 bytes) (λ known. number_at w32 known.1 >>= λ s. if_allowed (ltb 0 s.0) s >>= λ seq. op_at seq.1 >>= λ o. digest_at o.1 >>= λ tag. if_ended (ask.Invoke known.0 seq.0 o.0 tag.0, tag.1)) m e in
    let b = bind_ok (number_at w32 a.0.1) (λ s. if_allowed (ltb 0 s.0) s >>= λ seq. op_at seq.1 >>= λ o. digest_at o.1 >>= λ tag. if_ended (ask.Invoke a.0.0 seq.0 o.0 tag.0, tag.1)) m a.2 in
    let c = bind_ok (if_allowed (ltb 0 b.0.0) b.0) (λ seq. op_at seq.1 >>= λ o. digest_at o.1 >>= λ tag. if_ended (ask.Invoke a.0.0 seq.0 o.0 tag.0, tag.1)) m b.2 in
    let d = bind_ok (op_at c.0.1) (λ o. digest_at o.1 >>= λ tag. if_ended (ask.Invoke a.0.0 c.0.0 o.0 tag.0, tag.1)) m c.2 in
    let f = bind_ok (digest_at d.0.1) (λ tag. if_ended (ask.Invoke a.0.0 c.0.0 d.0.0 tag.0, tag.1)) m d.2 in
    let made : ToServer = ask.Invoke a.0.0 c.0.0 d.0.0 f.0.0 in
    let g = ended_ok (made, f.0.1) m f.2 in
    let known = w32_takes bytes a.0 fits a.1 in
    let seq = positive_takes a.0.1 b.0 c.0 known.0.rest_fits b.1 c.1 in
    let o = op_takes c.0.1 d.0 seq.0.rest_fits d.1 in
    let tag = digest_takes d.0.1 f.0 o.0.rest_fits f.1 in
    let t1 = Takes-then c.0.1 (op_text d.0.0) d.0.1 f.0.0.bytes f.0.1 o.0 tag.0 in
    let t2 = Takes-then a.0.1 (to_be_bytes w32 c.0.0) c.0.1 (op_text d.0.0 ++ f.0.0.bytes) f.0.1 seq.0 t1 in
    let t3 = Takes-then bytes (to_be_bytes w32 a.0.0) a.0.1 (to_be_bytes w32 c.0.0 ++ (op_text d.0.0 ++ f.0.0.bytes)) f.0.1 known.0 t2 in
    let whole = taken_all 0x22 bytes (to_be_bytes w32 a.0.0 ++ (to_be_bytes w32 c.0.0 ++ (op_text d.0.0 ++ f.0.0.bytes))) f.0.1 t3 g.0 in
    subst (λ (n : ToServer). SpellsRequest (0x22 ∷ bytes) n) {x = made} g.1 ((known.1, (seq.1, ((o.1, o.2), tag.1))), whole, tag.2)

-- the status byte, which is read as whether it is 0
status_takes : (bytes : List ℕ) (x y : ℕ × List ℕ) → AreBytes bytes → byte_at bytes ≡ Ok x → if_allowed (leb x.0 1) x ≡ Ok y → (bytes ≡ status_byte (eqb y.0 0) ∷ y.1) × AreBytes y.1
status_takes bytes x y fits e f =
    let a = allowed_ok (leb x.0 1) x y f in
    let t = byte_takes bytes x fits e in
    let low : x.0 ≤ 1 = leb-true x.0 1 a.0 in
    subst (λ (z : ℕ × List ℕ). (bytes ≡ status_byte (eqb z.0 0) ∷ z.1) × AreBytes z.1) a.1 (t.0 ∙ ap (λ (n : ℕ). n ∷ x.1) (status_is x.0 low), t.2)
  where
    status_is : (n : ℕ) → n ≤ 1 → n ≡ status_byte (eqb n 0)
    status_is zero le = refl
    status_is (suc zero) le = refl
    status_is (suc (suc n)) le = absurd (omega arith)

commit_found : (bytes : List ℕ) (m : ToServer) → AreBytes bytes → commit_at bytes ≡ Ok m → SpellsRequest (0x23 ∷ bytes) m
unfolding commit_at
commit_found bytes m fits e =
    let a = bind_ok (number_at w32 bytes) (λ p. if_allowed (ltb 0 p.0) p >>= λ position. byte_at position.1 >>= λ s. if_allowed (leb s.0 1) s >>= λ status. digest_at status.1 >>= λ tag. if_ended (ask.Commit position.0 (eqb status.0 0) tag.0, tag.1)) m e in
    let b = bind_ok (if_allowed (ltb 0 a.0.0) a.0) (λ position. byte_at position.1 >>= λ s. if_allowed (leb s.0 1) s >>= λ status. digest_at status.1 >>= λ tag. if_ended (ask.Commit position.0 (eqb status.0 0) tag.0, tag.1)) m a.2 in
    let c = bind_ok (byte_at b.0.1) (λ s. if_allowed (leb s.0 1) s >>= λ status. digest_at status.1 >>= λ tag. if_ended (ask.Commit b.0.0 (eqb status.0 0) tag.0, tag.1)) m b.2 in
    let d = bind_ok (if_allowed (leb c.0.0 1) c.0) (λ status. digest_at status.1 >>= λ tag. if_ended (ask.Commit b.0.0 (eqb status.0 0) tag.0, tag.1)) m c.2 in
    let f = bind_ok (digest_at d.0.1) (λ tag. if_ended (ask.Commit b.0.0 (eqb d.0.0 0) tag.0, tag.1)) m d.2 in
    let made : ToServer = ask.Commit b.0.0 (eqb d.0.0 0) f.0.0 in
    let g = ended_ok (made, f.0.1) m f.2 in
    let position = positive_takes bytes a.0 b.0 fits a.1 b.1 in
    let status = status_takes b.0.1 c.0 d.0 position.0.rest_fits c.1 d.1 in
    let tag = digest_takes d.0.1 f.0 status.1 f.1 in
    let last = byte_and_whole b.0.1 (status_byte (eqb d.0.0 0)) d.0.1 f.0.0.bytes f.0.1 status.0 tag.0 g.0 in
    let all = Takes-then bytes (to_be_bytes w32 b.0.0) b.0.1 (status_byte (eqb d.0.0 0) ∷ f.0.0.bytes) [] position.0 last in
    let whole = taken_all 0x23 bytes (to_be_bytes w32 b.0.0 ++ (status_byte (eqb d.0.0 0) ∷ f.0.0.bytes)) [] all refl in
    subst (λ (n : ToServer). SpellsRequest (0x23 ∷ bytes) n) {x = made} g.1 ((position.1, tag.1), whole, tag.2)

seal_found : (bytes : List ℕ) (m : ToServer) → AreBytes bytes → seal_request_at bytes ≡ Ok m → SpellsRequest (0x25 ∷ bytes) m
unfolding seal_request_at
seal_found bytes m fits e =
    let a = bind_ok (number_at w32 bytes) (λ p. if_allowed (ltb 0 p.0) p >>= λ position. digest_at position.1 >>= λ root. digest_at root.1 >>= λ tag. if_ended (ask.Seal position.0 root.0 tag.0, tag.1)) m e in
    let b = bind_ok (if_allowed (ltb 0 a.0.0) a.0) (λ position. digest_at position.1 >>= λ root. digest_at root.1 >>= λ tag. if_ended (ask.Seal position.0 root.0 tag.0, tag.1)) m a.2 in
    let c = bind_ok (digest_at b.0.1) (λ root. digest_at root.1 >>= λ tag. if_ended (ask.Seal b.0.0 root.0 tag.0, tag.1)) m b.2 in
    let d = bind_ok (digest_at c.0.1) (λ tag. if_ended (ask.Seal b.0.0 c.0.0 tag.0, tag.1)) m c.2 in
    let made : ToServer = ask.Seal b.0.0 c.0.0 d.0.0 in
    let g = ended_ok (made, d.0.1) m d.2 in
    let position = positive_takes bytes a.0 b.0 fits a.1 b.1 in
    let root = digest_takes b.0.1 c.0 position.0.rest_fits c.1 in
    let tag = digest_takes c.0.1 d.0 root.0.rest_fits d.1 in
    let t1 = Takes-then b.0.1 c.0.0.bytes c.0.1 d.0.0.bytes d.0.1 root.0 tag.0 in
    let t2 = Takes-then bytes (to_be_bytes w32 b.0.0) b.0.1 (c.0.0.bytes ++ d.0.0.bytes) d.0.1 position.0 t1 in
    let whole = taken_all 0x25 bytes (to_be_bytes w32 b.0.0 ++ (c.0.0.bytes ++ d.0.0.bytes)) d.0.1 t2 g.0 in
    subst (λ (n : ToServer). SpellsRequest (0x25 ∷ bytes) n) {x = made} g.1 ((position.1, (root.1, tag.1)), whole, (root.2, tag.2))

sync_found : (bytes : List ℕ) (m : ToServer) → AreBytes bytes → sync_at bytes ≡ Ok m → SpellsRequest (0x26 ∷ bytes) m
unfolding sync_at
sync_found bytes m fits e =
    let a = bind_ok (number_at w32 bytes) (λ known. if_ended (ask.Sync known.0, known.1)) m e in
    let made : ToServer = ask.Sync a.0.0 in
    let g = ended_ok (made, a.0.1) m a.2 in
    let known = w32_takes bytes a.0 fits a.1 in
    let whole = taken_all 0x26 bytes (to_be_bytes w32 a.0.0) a.0.1 known.0 g.0 in
    subst (λ (n : ToServer). SpellsRequest (0x26 ∷ bytes) n) {x = made} g.1 (known.1, whole, tt)

keep_found : (bytes : List ℕ) (m : ToServer) → AreBytes bytes → if_allowed (leb (length bytes) 8388608) (ask.Keep bytes) ≡ Ok m → SpellsRequest (0x27 ∷ bytes) m
keep_found bytes m fits e =
    let a = allowed_ok (leb (length bytes) 8388608) (ask.Keep bytes) m e in
    subst (λ (n : ToServer). SpellsRequest (0x27 ∷ bytes) n) a.1 (leb-true (length bytes) 8388608 a.0, refl, fits)

fetch_found : (bytes : List ℕ) (m : ToServer) → AreBytes bytes → fetch_at bytes ≡ Ok m → SpellsRequest (0x28 ∷ bytes) m
unfolding fetch_at
fetch_found bytes m fits e =
    let a = bind_ok (digest_at bytes) (λ hash. if_ended (ask.Fetch hash.0, hash.1)) m e in
    let made : ToServer = ask.Fetch a.0.0 in
    let g = ended_ok (made, a.0.1) m a.2 in
    let hash = digest_takes bytes a.0 fits a.1 in
    let whole = taken_all 0x28 bytes a.0.0.bytes a.0.1 hash.0 g.0 in
    subst (λ (n : ToServer). SpellsRequest (0x28 ∷ bytes) n) {x = made} g.1 (hash.1, whole, hash.2)

kind_found : (kind : ℕ) (bytes : List ℕ) (m : ToServer) → AreBytes bytes → request_of_kind kind bytes ≡ Ok m → SpellsRequest (kind ∷ bytes) m
unfolding request_of_kind
kind_found kind bytes m fits e =
    let P : ℕ → Type 0 = λ (n : ℕ). SpellsRequest (n ∷ bytes) m in
    let found : Result ToServer FieldFault = Ok m in
    let none : Result ToServer FieldFault = Err Value in
    let bye : Result ToServer FieldFault = if_ended (ask.Bye, bytes) in
    let at29 = cond (eqb kind 0x29) bye none in
    let at28 = cond (eqb kind 0x28) (fetch_at bytes) at29 in
    let keep : Result ToServer FieldFault = if_allowed (leb (length bytes) 8388608) (ask.Keep bytes) in
    let at27 = cond (eqb kind 0x27) keep at28 in
    let at26 = cond (eqb kind 0x26) (sync_at bytes) at27 in
    let at25 = cond (eqb kind 0x25) (seal_request_at bytes) at26 in
    let poll : Result ToServer FieldFault = if_ended (ask.Poll, bytes) in
    let at24 = cond (eqb kind 0x24) poll at25 in
    let at23 = cond (eqb kind 0x23) (commit_at bytes) at24 in
    let at22 = cond (eqb kind 0x22) (invoke_at bytes) at23 in
    by_kind P kind 0x21 (hello_at bytes) at22 found e (λ h. hello_found bytes m fits h)
    (λ e1. by_kind P kind 0x22 (invoke_at bytes) at23 found e1 (λ h. invoke_found bytes m fits h)
    (λ e2. by_kind P kind 0x23 (commit_at bytes) at24 found e2 (λ h. commit_found bytes m fits h)
    (λ e3. by_kind P kind 0x24 poll at25 found e3 (λ h. bare_found 0x24 ask.Poll bytes m (tt, refl, tt) h)
    (λ e4. by_kind P kind 0x25 (seal_request_at bytes) at26 found e4 (λ h. seal_found bytes m fits h)
    (λ e5. by_kind P kind 0x26 (sync_at bytes) at27 found e5 (λ h. sync_found bytes m fits h)
    (λ e6. by_kind P kind 0x27 keep at28 found e6 (λ h. keep_found bytes m fits h)
    (λ e7. by_kind P kind 0x28 (fetch_at bytes) at29 found e7 (λ h. fetch_found bytes m fits h)
    (λ e8. by_kind P kind 0x29 bye none found e8 (λ h. bare_found 0x29 ask.Bye bytes m (tt, refl, tt) h)
    (λ e9. absurd (err_is_none Value m e9))))))))))

-- the request that is read of a payload is the one that it spells
pub request_takes : (bytes : List ℕ) (m : ToServer) → AreBytes bytes → read_request bytes ≡ Some m → SpellsRequest bytes m
unfolding read_request
request_takes bytes m fits e =
    let a = bind_ok (byte_at bytes) (λ kind. request_of_kind kind.0 kind.1) m (some_ok (byte_at bytes >>= (λ kind. request_of_kind kind.0 kind.1)) m e) in
    let first = byte_takes bytes a.0 fits a.1 in
    subst (λ (bs : List ℕ). SpellsRequest bs m) (sym first.0) (kind_found a.0.0 a.0.1 m first.2 a.2)

pub request_fits : (bytes : List ℕ) (m : ToServer) → AreBytes bytes → read_request bytes ≡ Some m → HasRequestSpelling m
request_fits bytes m fits e = (request_takes bytes m fits e).0

pub request_spelled : (bytes : List ℕ) (m : ToServer) → AreBytes bytes → read_request bytes ≡ Some m → bytes ≡ request_text m
request_spelled bytes m fits e = (request_takes bytes m fits e).1

pub request_holds_bytes : (bytes : List ℕ) (m : ToServer) → AreBytes bytes → read_request bytes ≡ Some m → RequestHoldsBytes m
request_holds_bytes bytes m fits e = (request_takes bytes m fits e).2

-- ---- and again

hello_again : (kind : Mode) (client : ℕ) → hello_at (1 ∷ mode_byte kind ∷ client ∷ []) ≡ Ok (ask.Hello kind client)
unfolding hello_at
hello_again mode.Plain client = refl
hello_again mode.Objects client = refl

invoke_again : (known seq : ℕ) (o : Op) (tag : Digest32) → HasRequestSpelling (ask.Invoke known seq o tag)
    → invoke_at (to_be_bytes w32 known ++ (to_be_bytes w32 seq ++ (op_text o ++ (tag.bytes ++ [])))) ≡ Ok (ask.Invoke known seq o tag)
unfolding invoke_at
invoke_again known seq o tag fits =
    rw (w32_again known (to_be_bytes w32 seq ++ (op_text o ++ (tag.bytes ++ []))) fits.0, w32_again seq (op_text o ++ (tag.bytes ++ [])) fits.1.0.1, lt-ltb 0 seq fits.1.0.0, op_again o (tag.bytes ++ []) fits.1.1.0.0, digest_again tag [] fits.1.1.1) refl

commit_again : (position : ℕ) (done : Bool) (tag : Digest32) → HasRequestSpelling (ask.Commit position done tag)
    → commit_at (to_be_bytes w32 position ++ (status_byte done ∷ (tag.bytes ++ []))) ≡ Ok (ask.Commit position done tag)
unfolding commit_at
commit_again position true tag fits =
    rw (w32_again position (0 ∷ (tag.bytes ++ [])) fits.0.1, lt-ltb 0 position fits.0.0, digest_again tag [] fits.1) refl
commit_again position false tag fits =
    rw (w32_again position (1 ∷ (tag.bytes ++ [])) fits.0.1, lt-ltb 0 position fits.0.0, digest_again tag [] fits.1) refl

seal_request_again : (position : ℕ) (root tag : Digest32) → HasRequestSpelling (ask.Seal position root tag)
    → seal_request_at (to_be_bytes w32 position ++ (root.bytes ++ (tag.bytes ++ []))) ≡ Ok (ask.Seal position root tag)
unfolding seal_request_at
seal_request_again position root tag fits =
    rw (w32_again position (root.bytes ++ (tag.bytes ++ [])) fits.0.1, lt-ltb 0 position fits.0.0, digest_again root (tag.bytes ++ []) fits.1.0, digest_again tag [] fits.1.1) refl

sync_again : (known : ℕ) → known < 2 ^ 32 → sync_at (to_be_bytes w32 known ++ []) ≡ Ok (ask.Sync known)
unfolding sync_at
sync_again known fits = ap (λ (r : Result (ℕ × List ℕ) FieldFault). r >>= λ n. if_ended (ask.Sync n.0, n.1)) (w32_again known [] fits)

keep_again : (content : List ℕ) → HasRequestSpelling (ask.Keep content) → request_of_kind 0x27 content ≡ Ok (ask.Keep content)
unfolding request_of_kind
keep_again content fits = rw (le-leb (length content) 8388608 fits) refl

fetch_again : (hash : Digest32) → IsDigest hash → fetch_at (hash.bytes ++ []) ≡ Ok (ask.Fetch hash)
unfolding fetch_at
fetch_again hash fits = rw (digest_again hash [] fits) refl

-- a request that has a spelling is read of it
pub request_again : (m : ToServer) → HasRequestSpelling m → read_request (request_text m) ≡ Some m
unfolding read_request request_of_kind
request_again (ask.Hello kind client) fits = ap some_read (hello_again kind client)
request_again (ask.Invoke known seq o tag) fits =
    ap (λ (t : List ℕ). some_read (invoke_at (to_be_bytes w32 known ++ (to_be_bytes w32 seq ++ t)))) (ap (λ (t : List ℕ). op_text o ++ t) (sym (append-nil tag.bytes))) ∙ ap some_read (invoke_again known seq o tag fits)
request_again (ask.Commit position done tag) fits =
    ap (λ (t : List ℕ). some_read (commit_at (to_be_bytes w32 position ++ (status_byte done ∷ t)))) (sym (append-nil tag.bytes)) ∙ ap some_read (commit_again position done tag fits)
request_again ask.Poll fits = refl
request_again (ask.Seal position root tag) fits =
    ap (λ (t : List ℕ). some_read (seal_request_at (to_be_bytes w32 position ++ (root.bytes ++ t)))) (sym (append-nil tag.bytes)) ∙ ap some_read (seal_request_again position root tag fits)
request_again (ask.Sync known) fits = ap some_read (sync_again known fits)
request_again (ask.Keep content) fits = ap some_read (keep_again content fits)
request_again (ask.Fetch hash) fits =
    ap (λ (t : List ℕ). some_read (fetch_at t)) (sym (append-nil hash.bytes)) ∙ ap some_read (fetch_again hash fits)
request_again ask.Bye fits = refl
