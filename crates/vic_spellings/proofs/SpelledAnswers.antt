-- Whole answers: what is read is what was spelled, and what is spelled is read again.
use Rattle.std.proofs.Common.{◌≡◌, ℕ, cond, eqb, ltb, leb, ◌&&◌, List, [], ◌∷◌, ◌++◌, length, Some, Result, Ok, Err, refl, sym, ap, subst, ◌∙◌, append_assoc, arith}
use Rattle.std.proofs.lemmas.Bool.{lt-ltb, leb-true, le-leb}
use Rattle.std.proofs.lemmas.List.{append-nil}
use Rattle.vic_dict.specs.Lists.{AreBytes}
use Rattle.vic_wire.specs.declared.message.Seal.{Seal}
use Rattle.vic_wire.specs.declared.message.Tagged.{Tagged}
use Rattle.vic_wire.specs.declared.message.ToClient.{ToClient}
use Rattle.vic_wire.specs.declared.message.ToClient.TheVariants as say
use Rattle.vic_wire.specs.Messages.{seal_field, entries_field, answer_text, HasSpelling}
use Rattle.vic_wire.specs.Reading.{FieldFault, Value, ◌>>=◌, byte_at, if_allowed, seal_at, entries_at, if_ended, update_at, answer_of_kind, some_read, read_answer}
use Rattle.vic_spellings.specs.Spellings.{HoldsBytes}
use Rattle.vic_spellings.proofs.Steps.{bind_ok, allowed_ok, by_kind, err_is_none, ended_ok, some_ok, ok_is, Takes-then}
use Rattle.vic_spellings.proofs.Fields.{byte_takes, within_takes}
use Rattle.vic_spellings.proofs.Entries.{entries_takes, entries_again}
use Rattle.vic_spellings.proofs.Seals.{seal_takes, seal_again}

-- the payload, whose first byte is the kind, is the spelling of the answer
abbrev pub Spells : List ℕ → ToClient → Type 0
Spells bytes m = HasSpelling m × (bytes ≡ answer_text m) × HoldsBytes m

-- an answer of one byte
bare_found : (kind : ℕ) (bare : ToClient) (bytes : List ℕ) (m : ToClient) → Spells (kind ∷ []) bare → if_ended (bare, bytes) ≡ Ok m → Spells (kind ∷ bytes) m
bare_found kind bare bytes m is e =
    let d = ended_ok (bare, bytes) m e in
    subst (λ (n : ToClient). Spells (kind ∷ bytes) n) d.1 (is.0, ap (λ (t : List ℕ). kind ∷ t) d.0 ∙ is.1, is.2)

reply_found : (bytes : List ℕ) (m : ToClient) → AreBytes bytes → (seal_at bytes >>= (λ s. entries_at 1 8192 s.1 >>= (λ es. Ok (say.Reply s.0 es.0 es.1)))) ≡ Ok m → Spells (0x42 ∷ bytes) m
reply_found bytes m fits e =
    let a = bind_ok (seal_at bytes) (λ s. entries_at 1 8192 s.1 >>= (λ es. Ok (say.Reply s.0 es.0 es.1))) m e in
    let b = bind_ok (entries_at 1 8192 a.0.1) (λ es. Ok (say.Reply a.0.0 es.0 es.1)) m a.2 in
    let s = seal_takes bytes a.0 fits a.1 in
    let es = entries_takes 1 8192 a.0.1 b.0 s.0.rest_fits b.1 in
    let whole : bytes ≡ (seal_field a.0.0 ++ entries_field b.0.0) ++ b.0.1 = (Takes-then bytes (seal_field a.0.0) a.0.1 (entries_field b.0.0) b.0.1 s.0 es.0).parts in
    let made : ToClient = say.Reply a.0.0 b.0.0 b.0.1 in
    subst (λ (n : ToClient). Spells (0x42 ∷ bytes) n) {x = made} (ok_is made m b.2) ((s.1, (omega (arith, es.1), (es.1.1, es.2))), ap (λ (t : List ℕ). 0x42 ∷ t) whole, (s.2, (es.3, es.0.rest_fits)))

update_found : (bytes : List ℕ) (m : ToClient) → AreBytes bytes → update_at bytes ≡ Ok m → Spells (0x44 ∷ bytes) m
unfolding update_at
update_found bytes m fits e =
    let a = bind_ok (seal_at bytes) (λ s. Ok (say.Update s.0 s.1)) m e in
    let s = seal_takes bytes a.0 fits a.1 in
    let made : ToClient = say.Update a.0.0 a.0.1 in
    subst (λ (n : ToClient). Spells (0x44 ∷ bytes) n) {x = made} (ok_is made m a.2) (s.1, ap (λ (t : List ℕ). 0x44 ∷ t) s.0.parts, (s.2, s.0.rest_fits))

entries_found : (bytes : List ℕ) (m : ToClient) → AreBytes bytes → (seal_at bytes >>= (λ s. entries_at 0 8192 s.1 >>= (λ es. if_ended (say.Entries s.0 es.0, es.1)))) ≡ Ok m → Spells (0x45 ∷ bytes) m
entries_found bytes m fits e =
    let a = bind_ok (seal_at bytes) (λ s. entries_at 0 8192 s.1 >>= (λ es. if_ended (say.Entries s.0 es.0, es.1))) m e in
    let b = bind_ok (entries_at 0 8192 a.0.1) (λ es. if_ended (say.Entries a.0.0 es.0, es.1)) m a.2 in
    let s = seal_takes bytes a.0 fits a.1 in
    let es = entries_takes 0 8192 a.0.1 b.0 s.0.rest_fits b.1 in
    let made : ToClient = say.Entries a.0.0 b.0.0 in
    let d = ended_ok (made, b.0.1) m b.2 in
    let last : a.0.1 ≡ entries_field b.0.0 = es.0.parts ∙ ap (λ (t : List ℕ). entries_field b.0.0 ++ t) d.0 ∙ append-nil (entries_field b.0.0) in
    let whole : bytes ≡ seal_field a.0.0 ++ entries_field b.0.0 = s.0.parts ∙ ap (λ (t : List ℕ). seal_field a.0.0 ++ t) last in
    subst (λ (n : ToClient). Spells (0x45 ∷ bytes) n) {x = made} d.1 ((s.1, (es.1.1, es.2)), ap (λ (t : List ℕ). 0x45 ∷ t) whole, (s.2, es.3))

refused_found : (bytes : List ℕ) (m : ToClient) → AreBytes bytes → (byte_at bytes >>= (λ r. if_allowed (ltb 0 r.0 && leb r.0 7) r >>= (λ x. if_ended (say.Refused x.0, x.1)))) ≡ Ok m → Spells (0x46 ∷ bytes) m
refused_found bytes m fits e =
    let a = bind_ok (byte_at bytes) (λ r. if_allowed (ltb 0 r.0 && leb r.0 7) r >>= (λ x. if_ended (say.Refused x.0, x.1))) m e in
    let b = bind_ok (if_allowed (ltb 0 a.0.0 && leb a.0.0 7) a.0) (λ x. if_ended (say.Refused x.0, x.1)) m a.2 in
    let t = within_takes 7 bytes a.0 b.0 fits a.1 b.1 in
    let made : ToClient = say.Refused b.0.0 in
    let d = ended_ok (made, b.0.1) m b.2 in
    let whole : bytes ≡ b.0.0 ∷ [] = t.0 ∙ ap (λ (r : List ℕ). b.0.0 ∷ r) d.0 in
    subst (λ (n : ToClient). Spells (0x46 ∷ bytes) n) {x = made} d.1 (t.1, ap (λ (r : List ℕ). 0x46 ∷ r) whole, tt)

content_found : (bytes : List ℕ) (m : ToClient) → AreBytes bytes → if_allowed (leb (length bytes) 8388608) (say.Content bytes) ≡ Ok m → Spells (0x48 ∷ bytes) m
content_found bytes m fits e =
    let a = allowed_ok (leb (length bytes) 8388608) (say.Content bytes) m e in
    subst (λ (n : ToClient). Spells (0x48 ∷ bytes) n) a.1 (leb-true (length bytes) 8388608 a.0, refl, fits)

kind_found : (kind : ℕ) (bytes : List ℕ) (m : ToClient) → AreBytes bytes → answer_of_kind kind bytes ≡ Ok m → Spells (kind ∷ bytes) m
unfolding answer_of_kind
kind_found kind bytes m fits e =
    let P : ℕ → Type 0 = λ (n : ℕ). Spells (n ∷ bytes) m in
    let found : Result ToClient FieldFault = Ok m in
    let none : Result ToClient FieldFault = Err Value in
    let absent : Result ToClient FieldFault = if_ended (say.Absent, bytes) in
    let at4a = cond (eqb kind 0x4a) absent none in
    let gone : Result ToClient FieldFault = if_ended (say.Gone, bytes) in
    let at49 = cond (eqb kind 0x49) gone at4a in
    let content : Result ToClient FieldFault = if_allowed (leb (length bytes) 8388608) (say.Content bytes) in
    let at48 = cond (eqb kind 0x48) content at49 in
    let kept : Result ToClient FieldFault = if_ended (say.Kept, bytes) in
    let at47 = cond (eqb kind 0x47) kept at48 in
    let refused : Result ToClient FieldFault = byte_at bytes >>= (λ r. if_allowed (ltb 0 r.0 && leb r.0 7) r >>= (λ x. if_ended (say.Refused x.0, x.1))) in
    let at46 = cond (eqb kind 0x46) refused at47 in
    let entries : Result ToClient FieldFault = seal_at bytes >>= (λ s. entries_at 0 8192 s.1 >>= (λ es. if_ended (say.Entries s.0 es.0, es.1))) in
    let at45 = cond (eqb kind 0x45) entries at46 in
    let update : Result ToClient FieldFault = update_at bytes in
    let at44 = cond (eqb kind 0x44) update at45 in
    let wait : Result ToClient FieldFault = if_ended (say.Wait, bytes) in
    let at43 = cond (eqb kind 0x43) wait at44 in
    let reply : Result ToClient FieldFault = seal_at bytes >>= (λ s. entries_at 1 8192 s.1 >>= (λ es. Ok (say.Reply s.0 es.0 es.1))) in
    let at42 = cond (eqb kind 0x42) reply at43 in
    let hi : Result ToClient FieldFault = if_ended (say.Hi, bytes) in
    by_kind P kind 0x41 hi at42 found e (λ h. bare_found 0x41 say.Hi bytes m (tt, refl, tt) h)
    (λ e1. by_kind P kind 0x42 reply at43 found e1 (λ h. reply_found bytes m fits h)
    (λ e2. by_kind P kind 0x43 wait at44 found e2 (λ h. bare_found 0x43 say.Wait bytes m (tt, refl, tt) h)
    (λ e3. by_kind P kind 0x44 update at45 found e3 (λ h. update_found bytes m fits h)
    (λ e4. by_kind P kind 0x45 entries at46 found e4 (λ h. entries_found bytes m fits h)
    (λ e5. by_kind P kind 0x46 refused at47 found e5 (λ h. refused_found bytes m fits h)
    (λ e6. by_kind P kind 0x47 kept at48 found e6 (λ h. bare_found 0x47 say.Kept bytes m (tt, refl, tt) h)
    (λ e7. by_kind P kind 0x48 content at49 found e7 (λ h. content_found bytes m fits h)
    (λ e8. by_kind P kind 0x49 gone at4a found e8 (λ h. bare_found 0x49 say.Gone bytes m (tt, refl, tt) h)
    (λ e9. by_kind P kind 0x4a absent none found e9 (λ h. bare_found 0x4a say.Absent bytes m (tt, refl, tt) h)
    (λ ea. absurd (err_is_none Value m ea)))))))))))

-- the answer that is read of a payload is the one that it spells
pub answer_takes : (bytes : List ℕ) (m : ToClient) → AreBytes bytes → read_answer bytes ≡ Some m → Spells bytes m
unfolding read_answer
answer_takes bytes m fits e =
    let a = bind_ok (byte_at bytes) (λ kind. answer_of_kind kind.0 kind.1) m (some_ok (byte_at bytes >>= (λ kind. answer_of_kind kind.0 kind.1)) m e) in
    let first = byte_takes bytes a.0 fits a.1 in
    subst (λ (bs : List ℕ). Spells bs m) (sym first.0) (kind_found a.0.0 a.0.1 m first.2 a.2)

pub answer_fits : (bytes : List ℕ) (m : ToClient) → AreBytes bytes → read_answer bytes ≡ Some m → HasSpelling m
answer_fits bytes m fits e = (answer_takes bytes m fits e).0

pub answer_spelled : (bytes : List ℕ) (m : ToClient) → AreBytes bytes → read_answer bytes ≡ Some m → bytes ≡ answer_text m
answer_spelled bytes m fits e = (answer_takes bytes m fits e).1

pub answer_holds_bytes : (bytes : List ℕ) (m : ToClient) → AreBytes bytes → read_answer bytes ≡ Some m → HoldsBytes m
answer_holds_bytes bytes m fits e = (answer_takes bytes m fits e).2

-- the part of an answer is bytes
pub part_in_reply : (bytes : List ℕ) (seal : Seal) (entries : List Tagged) (part : List ℕ) → AreBytes bytes → read_answer bytes ≡ Some (say.Reply seal entries part) → AreBytes part
part_in_reply bytes seal entries part fits e = (answer_holds_bytes bytes (say.Reply seal entries part) fits e).1.1

pub part_in_update : (bytes : List ℕ) (seal : Seal) (part : List ℕ) → AreBytes bytes → read_answer bytes ≡ Some (say.Update seal part) → AreBytes part
part_in_update bytes seal part fits e = (answer_holds_bytes bytes (say.Update seal part) fits e).1

-- ---- and again

reply_again : (seal : Seal) (entries : List Tagged) (part : List ℕ) → HasSpelling (say.Reply seal entries part) → answer_of_kind 0x42 (seal_field seal ++ (entries_field entries ++ part)) ≡ Ok (say.Reply seal entries part)
unfolding answer_of_kind
reply_again seal entries part fits =
    rw (seal_again seal (entries_field entries ++ part) fits.0, entries_again 1 8192 entries part (omega arith) (omega (arith, fits.1.0)) fits.1.1.0 fits.1.1.1) refl

update_again : (seal : Seal) (part : List ℕ) → HasSpelling (say.Update seal part) → answer_of_kind 0x44 (seal_field seal ++ part) ≡ Ok (say.Update seal part)
unfolding answer_of_kind update_at
update_again seal part fits = rw (seal_again seal part fits) refl

listed_again : (seal : Seal) (entries : List Tagged) → HasSpelling (say.Entries seal entries) → answer_of_kind 0x45 (seal_field seal ++ (entries_field entries ++ [])) ≡ Ok (say.Entries seal entries)
unfolding answer_of_kind
listed_again seal entries fits =
    rw (seal_again seal (entries_field entries ++ []) fits.0, entries_again 0 8192 entries [] (omega arith) (omega arith) fits.1.0 fits.1.1) refl

refused_again : (reason : ℕ) → HasSpelling (say.Refused reason) → answer_of_kind 0x46 (reason ∷ []) ≡ Ok (say.Refused reason)
unfolding answer_of_kind
refused_again reason fits = rw (lt-ltb 0 reason fits.0, le-leb reason 7 fits.1) refl

content_again : (content : List ℕ) → HasSpelling (say.Content content) → answer_of_kind 0x48 content ≡ Ok (say.Content content)
unfolding answer_of_kind
content_again content fits = rw (le-leb (length content) 8388608 fits) refl

-- an answer that has a spelling is read of it
pub answer_again : (m : ToClient) → HasSpelling m → read_answer (answer_text m) ≡ Some m
unfolding read_answer answer_of_kind
answer_again say.Hi fits = refl
answer_again (say.Reply seal entries part) fits =
    ap (λ (t : List ℕ). some_read (answer_of_kind 0x42 t)) (append_assoc (seal_field seal) (entries_field entries) part) ∙ ap some_read (reply_again seal entries part fits)
answer_again say.Wait fits = refl
answer_again (say.Update seal part) fits = ap some_read (update_again seal part fits)
answer_again (say.Entries seal entries) fits =
    ap (λ (t : List ℕ). some_read (answer_of_kind 0x45 (seal_field seal ++ t))) (sym (append-nil (entries_field entries))) ∙ ap some_read (listed_again seal entries fits)
answer_again (say.Refused reason) fits = ap some_read (refused_again reason fits)
answer_again say.Kept fits = refl
answer_again (say.Content content) fits = ap some_read (content_again content fits)
answer_again say.Gone fits = refl
answer_again say.Absent fits = refl
