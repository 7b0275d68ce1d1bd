-- Lines before a header and in it, and the group that a header tells.
use Rattle.std.proofs.Common.{◌≡◌, ℕ, ◌%◌, ◌<◌, ◌≤◌, Bool, true, false, ◌&&◌, List, [], length, Option, Some, None, Result, refl, sym, subst, arith}
use Rattle.std.specs.Prelude.{if◌then◌else◌, is_none, option_map, unwrap_or, nat_eq, nat_le}
use Rattle.std.specs.List.{list_all}
use Rattle.std.specs.Result.{result_ok}
use Rattle.std.proofs.lemmas.Bool.{and_parts, leb-true, eqb-true}
use Rattle.std.proofs.lemmas.List.Sums.{AllPass-from_list_all}
use Rattle.hex.specs.Hex.{decode_of, is_hex_digit}
use Rattle.hex.specs.declared.error.FromHexError.{FromHexError}
use Rattle.hex.proofs.HexLemmas.{decode_of-ok, decode_of-digits}
use Rattle.vic_dict.specs.declared.op.Mode.{Mode}
use Rattle.vic_dict.specs.declared.op.Mode.TheVariants as mode
use Rattle.vic_wire.specs.Hashes.{IsGroup}
use Rattle.vic_script.specs.declared.line.Line.{Line}
use Rattle.vic_script.specs.declared.line.Line.TheVariants as line
use Rattle.vic_script.specs.Lines.{is_key_digits, kind_named}
use Rattle.vic_script.specs.Run.{zero_key, Attack, ScriptHeader, group_by, opening_by, Before, Heads, Trial, Fails, Does, trial_in_scene, trial_before_header, trial_in_header}

-- ---- lines

-- the header of so many clients, before it names a key or how its server misbehaves
abbrev pub begun : Mode → ℕ → ScriptHeader
begun kind count = record { mode = kind; count = count; key = None; hostile = None }

-- the header with the key that digits spell
abbrev pub keyed : ScriptHeader → List ℕ → ScriptHeader
keyed h digits = record h { key = result_ok (decode_of digits) }

-- how a server misbehaves, by a name and a number
abbrev pub attack_named : List ℕ → ℕ → Option Attack
attack_named name n = option_map (λ k. record { kind = k; after = n }) (kind_named name)

-- the header with a server that misbehaves so
abbrev pub turned : ScriptHeader → List ℕ → ℕ → ScriptHeader
turned h name n = record h { hostile = attack_named name n }

-- a line before the header begins it, is skipped, or is bad
pub first_so : (P : Line → Trial → Type 0) → ((count : ℕ) → P (line.Clients count) (Does (Heads (begun mode.Plain count)) [])) → ((count : ℕ) → P (line.Objects count) (Does (Heads (begun mode.Objects count)) [])) → P line.Skip (Does Before []) → ((l : Line) → P l (Fails 1)) → (l : Line) → P l (trial_before_header l)
first_so P plain objects skips fails (line.Clients count) = plain count
first_so P plain objects skips fails (line.Objects count) = objects count
first_so P plain objects skips fails (line.Key digits) = fails (line.Key digits)
first_so P plain objects skips fails (line.Hostile name k) = fails (line.Hostile name k)
first_so P plain objects skips fails (line.Call i o) = fails (line.Call i o)
first_so P plain objects skips fails (line.Object i c) = fails (line.Object i c)
first_so P plain objects skips fails (line.Poll i) = fails (line.Poll i)
first_so P plain objects skips fails (line.Sync i) = fails (line.Sync i)
first_so P plain objects skips fails (line.Serve i) = fails (line.Serve i)
first_so P plain objects skips fails (line.Take i) = fails (line.Take i)
first_so P plain objects skips fails (line.Run i) = fails (line.Run i)
first_so P plain objects skips fails (line.Give i payload) = fails (line.Give i payload)
first_so P plain objects skips fails (line.Again i) = fails (line.Again i)
first_so P plain objects skips fails (line.Flip i k) = fails (line.Flip i k)
first_so P plain objects skips fails (line.Resend i) = fails (line.Resend i)
first_so P plain objects skips fails (line.Copy k t) = fails (line.Copy k t)
first_so P plain objects skips fails (line.Move i k) = fails (line.Move i k)
first_so P plain objects skips fails line.Skip = skips

key-either : (P : Trial → Type 0) (b : Bool) (t : Trial) → P t → P (Fails 1) → P (if b then t else Fails 1)
key-either P true t names fails = names
key-either P false t names fails = fails

first-either : (P : Trial → Type 0) (o : Option Attack) (t : Trial) → (o ≡ None → P t) → P (Fails 1) → P (if is_none o then t else Fails 1)
first-either P None t turns twice = turns refl
first-either P (Some a) t turns twice = twice

-- a line in the header names the key, names how its server misbehaves, names one of them where it may not, is skipped, or is tried in the
-- scene that the header opens
pub header_so : (P : Line → Trial → Type 0) (h : ScriptHeader) → ((digits : List ℕ) → P (line.Key digits) (Does (Heads (keyed h digits)) [])) → ((digits : List ℕ) → P (line.Key digits) (Fails 1))
    → ((name : List ℕ) (n : ℕ) → h.hostile ≡ None → P (line.Hostile name n) (Does (Heads (turned h name n)) [])) → ((name : List ℕ) (n : ℕ) → P (line.Hostile name n) (Fails 1))
    → P line.Skip (Does (Heads h) []) → ((l : Line) → P l (trial_in_scene (opening_by h) l)) → (l : Line) → P l (trial_in_header h l)
header_so P h keys again turns twice skips ends (line.Key digits) =
    key-either (P (line.Key digits)) (is_none h.key && is_none h.hostile) (Does (Heads (keyed h digits)) []) (keys digits) (again digits)
header_so P h keys again turns twice skips ends (line.Hostile name n) = first-either (P (line.Hostile name n)) h.hostile (Does (Heads (turned h name n)) []) (turns name n) (twice name n)
header_so P h keys again turns twice skips ends (line.Clients count) = ends (line.Clients count)
header_so P h keys again turns twice skips ends (line.Objects count) = ends (line.Objects count)
header_so P h keys again turns twice skips ends (line.Call i o) = ends (line.Call i o)
header_so P h keys again turns twice skips ends (line.Object i c) = ends (line.Object i c)
header_so P h keys again turns twice skips ends (line.Poll i) = ends (line.Poll i)
header_so P h keys again turns twice skips ends (line.Sync i) = ends (line.Sync i)
header_so P h keys again turns twice skips ends (line.Serve i) = ends (line.Serve i)
header_so P h keys again turns twice skips ends (line.Take i) = ends (line.Take i)
header_so P h keys again turns twice skips ends (line.Run i) = ends (line.Run i)
header_so P h keys again turns twice skips ends (line.Give i payload) = ends (line.Give i payload)
header_so P h keys again turns twice skips ends (line.Again i) = ends (line.Again i)
header_so P h keys again turns twice skips ends (line.Flip i k) = ends (line.Flip i k)
header_so P h keys again turns twice skips ends (line.Resend i) = ends (line.Resend i)
header_so P h keys again turns twice skips ends (line.Copy k t) = ends (line.Copy k t)
header_so P h keys again turns twice skips ends (line.Move i k) = ends (line.Move i k)
header_so P h keys again turns twice skips ends line.Skip = skips

-- ---- groups

-- 2 to 128 digits in an even number spell 1 to 64 bytes
pub key_spelled : (digits : List ℕ) → is_key_digits digits ≡ true → (0 < length (unwrap_or (result_ok (decode_of digits)) zero_key)) × (length (unwrap_or (result_ok (decode_of digits)) zero_key) ≤ 64)
key_spelled digits e =
    let digital : Bool = list_all is_hex_digit digits in
    let paired : Bool = nat_eq (length digits % 2) 0 in
    let some = and_parts (nat_le 2 (length digits)) (nat_le (length digits) 128 && (paired && digital)) e in
    let most = and_parts (nat_le (length digits) 128) (paired && digital) some.1 in
    let even = and_parts paired digital most.1 in
    let r = decode_of-digits digits (eqb-true (length digits % 2) 0 even.0) (AllPass-from_list_all is_hex_digit digits even.1) in
    let twice = (decode_of-ok digits r.0 r.1).2 in
    subst (λ (d : Result (List ℕ) FromHexError). (0 < length (unwrap_or (result_ok d) zero_key)) × (length (unwrap_or (result_ok d) zero_key) ≤ 64)) (sym r.1)
    (omega (arith, twice, leb-true 2 (length digits) some.0), omega (arith, twice, leb-true (length digits) 128 most.0))

pub begun_is_group : (kind : Mode) (count : ℕ) → 0 < count → count ≤ 64 → IsGroup (group_by (begun kind count))
begun_is_group kind count above upto = record { count = (above, upto); key = (omega arith, omega arith) }

-- a header stays one of a group with the key that digits spell
pub keyed_is_group : (h : ScriptHeader) (digits : List ℕ) → IsGroup (group_by h) → is_key_digits digits ≡ true → IsGroup (group_by (keyed h digits))
keyed_is_group h digits is e = record { count = is.count; key = key_spelled digits e }
