-- Entries, their lists, and seals: what is read is what was spelled, and what is spelled is read again.
use Rattle.std.proofs.Common.{◌≡◌, ℕ, zero, suc, ◌^◌, ◌<◌, ◌≤◌, ltb, leb, ◌&&◌, List, [], ◌∷◌, ◌++◌, length, Ok, refl, sym, ap, subst, ◌∙◌, append_assoc, arith}
use Rattle.std.specs.List.{flat_map, AllByRecursion}
use Rattle.std.specs.Int.{w16, w32, to_be_bytes}
use Rattle.std.proofs.lemmas.Bool.{lt-ltb, leb-true, le-leb, and_parts}
use Rattle.vic_dict.specs.Lists.{AreBytes}
use Rattle.vic_dict.specs.declared.op.Entry.{Entry}
use Rattle.vic_wire.specs.declared.message.Tagged.{Tagged}
use Rattle.vic_wire.specs.Texts.{op_text, entry_text}
use Rattle.vic_wire.specs.Messages.{IsEntry, IsTagged, tagged_field, entries_field}
use Rattle.vic_wire.specs.Reading.{◌>>=◌, byte_at, number_at, if_allowed, digest_at, op_at, entry_at, tagged_at, tagged_list_at, entries_at}
use Rattle.vic_spellings.specs.Spellings.{HaveByteTags}
use Rattle.vic_spellings.proofs.Steps.{bind_ok, allowed_ok, ok_is, Takes, Takes-none, Takes-then, Takes-cons}
use Rattle.vic_spellings.proofs.Fields.{within_takes, positive_takes, w16_takes, w16_again, w32_again, digest_takes, digest_again}
use Rattle.vic_spellings.proofs.Operations.{op_takes, op_again}

-- ---- entries

pub entry_takes : (bytes : List ℕ) (x : Entry × List ℕ) → AreBytes bytes → entry_at bytes ≡ Ok x → Takes bytes (entry_text x.0) x.1 × IsEntry x.0
unfolding entry_at
entry_takes bytes x fits e =
    let a = bind_ok (byte_at bytes) (λ c. if_allowed (ltb 0 c.0 && leb c.0 64) c >>= λ client. number_at w32 client.1 >>= λ s. if_allowed (ltb 0 s.0) s >>= λ seq. op_at seq.1 >>= λ o. Ok (record { client = client.0; seq = seq.0; op = o.0 }, o.1)) x e in
    let b = bind_ok (if_allowed (ltb 0 a.0.0 && leb a.0.0 64) a.0) (λ client. number_at w32 client.1 >>= λ s. if_allowed (ltb 0 s.0) s >>= λ seq. op_at seq.1 >>= λ o. Ok (record { client = client.0; seq = seq.0; op = o.0 }, o.1)) x a.2 in
    let c = bind_ok (number_at w32 b.0.1) (λ s. if_allowed (ltb 0 s.0) s >>= λ seq. op_at seq.1 >>= λ o. Ok (record { client = b.0.0; seq = seq.0; op = o.0 }, o.1)) x b.2 in
    let d = bind_ok (if_allowed (ltb 0 c.0.0) c.0) (λ seq. op_at seq.1 >>= λ o. Ok (record { client = b.0.0; seq = seq.0; op = o.0 }, o.1)) x c.2 in
    let f = bind_ok (op_at d.0.1) (λ o. Ok (record { client = b.0.0; seq = d.0.0; op = o.0 }, o.1)) x d.2 in
    let client = within_takes 64 bytes a.0 b.0 fits a.1 b.1 in
    let seq = positive_takes b.0.1 c.0 d.0 client.2 c.1 d.1 in
    let o = op_takes d.0.1 f.0 seq.0.rest_fits f.1 in
    let made : Entry × List ℕ = (record { client = b.0.0; seq = d.0.0; op = f.0.0 }, f.0.1) in
    let whole : Takes bytes (entry_text made.0) made.1 = subst (λ (t : List ℕ). Takes t (entry_text made.0) made.1) (sym client.0) (Takes-cons b.0.0 b.0.1 (to_be_bytes w32 d.0.0 ++ op_text f.0.0) f.0.1 (Takes-then b.0.1 (to_be_bytes w32 d.0.0) d.0.1 (op_text f.0.0) f.0.1 seq.0 o.0)) in
    subst (λ (y : Entry × List ℕ). Takes bytes (entry_text y.0) y.1 × IsEntry y.0) {x = made} (ok_is made x f.2) (whole, record { client = client.1; seq = seq.1; op = (o.1, o.2) })

pub entry_again : (e : Entry) (rest : List ℕ) → IsEntry e → entry_at (entry_text e ++ rest) ≡ Ok (e, rest)
unfolding entry_at
entry_again e rest fits =
    let regrouped : entry_text e ++ rest ≡ e.client ∷ (to_be_bytes w32 e.seq ++ (op_text e.op ++ rest)) = ap (λ (t : List ℕ). e.client ∷ t) (append_assoc (to_be_bytes w32 e.seq) (op_text e.op) rest) in
    ap entry_at regrouped ∙ rw (lt-ltb 0 e.client fits.client.0, le-leb e.client 64 fits.client.1, w32_again e.seq (op_text e.op ++ rest) fits.seq.1, lt-ltb 0 e.seq fits.seq.0, op_again e.op rest fits.op.0) refl

-- ---- entries with their tags

pub tagged_takes : (bytes : List ℕ) (x : Tagged × List ℕ) → AreBytes bytes → tagged_at bytes ≡ Ok x → Takes bytes (tagged_field x.0) x.1 × IsTagged x.0 × AreBytes x.0.tag.bytes
unfolding tagged_at
tagged_takes bytes x fits e =
    let a = bind_ok (entry_at bytes) (λ e. digest_at e.1 >>= λ t. Ok (record { entry = e.0; tag = t.0 }, t.1)) x e in
    let b = bind_ok (digest_at a.0.1) (λ t. Ok (record { entry = a.0.0; tag = t.0 }, t.1)) x a.2 in
    let entry = entry_takes bytes a.0 fits a.1 in
    let tag = digest_takes a.0.1 b.0 entry.0.rest_fits b.1 in
    let both = Takes-then bytes (entry_text a.0.0) a.0.1 b.0.0.bytes b.0.1 entry.0 tag.0 in
    let made : Tagged × List ℕ = (record { entry = a.0.0; tag = b.0.0 }, b.0.1) in
    subst (λ (y : Tagged × List ℕ). Takes bytes (tagged_field y.0) y.1 × IsTagged y.0 × AreBytes y.0.tag.bytes) (ok_is made x b.2) (both, record { entry = entry.1; tag = tag.1 }, tag.2)

pub tagged_again : (t : Tagged) (rest : List ℕ) → IsTagged t → tagged_at (tagged_field t ++ rest) ≡ Ok (t, rest)
unfolding tagged_at
tagged_again t rest fits =
    let regrouped : tagged_field t ++ rest ≡ entry_text t.entry ++ (t.tag.bytes ++ rest) = append_assoc (entry_text t.entry) t.tag.bytes rest in
    ap tagged_at regrouped ∙ rw (entry_again t.entry (t.tag.bytes ++ rest) fits.entry, digest_again t.tag rest fits.tag) refl

pub tagged_list_takes : (n : ℕ) (bytes : List ℕ) (x : List Tagged × List ℕ) → AreBytes bytes → tagged_list_at n bytes ≡ Ok x
    → Takes bytes (flat_map tagged_field x.0) x.1 × (length x.0 ≡ n) × AllByRecursion IsTagged x.0 × HaveByteTags x.0
unfolding tagged_list_at
tagged_list_takes zero bytes x fits e =
    subst (λ (y : List Tagged × List ℕ). Takes bytes (flat_map tagged_field y.0) y.1 × (length y.0 ≡ 0) × AllByRecursion IsTagged y.0 × HaveByteTags y.0) (ok_is ([], bytes) x e) (Takes-none bytes fits, refl, tt, tt)
tagged_list_takes (suc n) bytes x fits e =
    let a = bind_ok (tagged_at bytes) (λ first. tagged_list_at n first.1 >>= λ others. Ok (first.0 ∷ others.0, others.1)) x e in
    let b = bind_ok (tagged_list_at n a.0.1) (λ others. Ok (a.0.0 ∷ others.0, others.1)) x a.2 in
    let first = tagged_takes bytes a.0 fits a.1 in
    let others = tagged_list_takes n a.0.1 b.0 first.0.rest_fits b.1 in
    let both = Takes-then bytes (tagged_field a.0.0) a.0.1 (flat_map tagged_field b.0.0) b.0.1 first.0 others.0 in
    let made : List Tagged × List ℕ = (a.0.0 ∷ b.0.0, b.0.1) in
    subst (λ (y : List Tagged × List ℕ). Takes bytes (flat_map tagged_field y.0) y.1 × (length y.0 ≡ suc n) × AllByRecursion IsTagged y.0 × HaveByteTags y.0) (ok_is made x b.2) (both, ap suc others.1, (first.1, others.2), (first.2, others.3))

pub tagged_list_again : (ts : List Tagged) (rest : List ℕ) → AllByRecursion IsTagged ts → tagged_list_at (length ts) (flat_map tagged_field ts ++ rest) ≡ Ok (ts, rest)
unfolding tagged_list_at
tagged_list_again [] rest fits = refl
tagged_list_again (t ∷ ts) rest fits =
    let regrouped : flat_map tagged_field (t ∷ ts) ++ rest ≡ tagged_field t ++ (flat_map tagged_field ts ++ rest) = append_assoc (tagged_field t) (flat_map tagged_field ts) rest in
    ap (tagged_list_at (suc (length ts))) regrouped ∙ rw (tagged_again t (flat_map tagged_field ts ++ rest) fits.0, tagged_list_again ts rest fits.1) refl

pub entries_takes : (least most : ℕ) (bytes : List ℕ) (x : List Tagged × List ℕ) → AreBytes bytes → entries_at least most bytes ≡ Ok x
    → Takes bytes (entries_field x.0) x.1 × ((least ≤ length x.0) × (length x.0 ≤ most)) × AllByRecursion IsTagged x.0 × HaveByteTags x.0
unfolding entries_at
entries_takes least most bytes x fits e =
    let a = bind_ok (number_at w16 bytes) (λ n. if_allowed (leb least n.0 && leb n.0 most) n >>= λ count. tagged_list_at count.0 count.1) x e in
    let b = bind_ok (if_allowed (leb least a.0.0 && leb a.0.0 most) a.0) (λ count. tagged_list_at count.0 count.1) x a.2 in
    let counted = allowed_ok (leb least a.0.0 && leb a.0.0 most) a.0 b.0 b.1 in
    let tests = and_parts (leb least a.0.0) (leb a.0.0 most) counted.0 in
    let number = w16_takes bytes a.0 fits a.1 in
    let count : Takes bytes (to_be_bytes w16 b.0.0) b.0.1 × ((least ≤ b.0.0) × (b.0.0 ≤ most)) =
    subst (λ (y : ℕ × List ℕ). Takes bytes (to_be_bytes w16 y.0) y.1 × ((least ≤ y.0) × (y.0 ≤ most))) counted.1 (number.0, (leb-true least a.0.0 tests.0, leb-true a.0.0 most tests.1)) in
    let items = tagged_list_takes b.0.0 b.0.1 x count.0.rest_fits b.2 in
    let front : Takes bytes (to_be_bytes w16 (length x.0)) b.0.1 × ((least ≤ length x.0) × (length x.0 ≤ most)) =
    subst (λ (n : ℕ). Takes bytes (to_be_bytes w16 n) b.0.1 × ((least ≤ n) × (n ≤ most))) (sym items.1) count in
    (Takes-then bytes (to_be_bytes w16 (length x.0)) b.0.1 (flat_map tagged_field x.0) x.1 front.0 items.0, front.1, items.2, items.3)

pub entries_again : (least most : ℕ) (ts : List Tagged) (rest : List ℕ) → most < 2 ^ 16 → least ≤ length ts → length ts ≤ most → AllByRecursion IsTagged ts
    → entries_at least most (entries_field ts ++ rest) ≡ Ok (ts, rest)
unfolding entries_at
entries_again least most ts rest limit low high fits =
    let regrouped : entries_field ts ++ rest ≡ to_be_bytes w16 (length ts) ++ (flat_map tagged_field ts ++ rest) = append_assoc (to_be_bytes w16 (length ts)) (flat_map tagged_field ts) rest in
    ap (entries_at least most) regrouped ∙ rw (w16_again (length ts) (flat_map tagged_field ts ++ rest) (omega arith), le-leb least (length ts) low, le-leb (length ts) most high, tagged_list_again ts rest fits) refl
