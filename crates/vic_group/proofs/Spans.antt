-- A script that is too long: only its front matters, and it has a bad line.
use Rattle.std.proofs.Common.{◌≡◌, ℕ, suc, ◌+◌, ◌<◌, ◌≤◌, Bool, true, false, List, [], ◌∷◌, ◌++◌, length, take, is_some, refl, ap, arith}
use Rattle.std.specs.Prelude.{if◌then◌else◌, nat_eq, nat_lt, min}
use Rattle.std.proofs.lemmas.Bool.{ltb-false}
use Rattle.std.proofs.lemmas.List.{take-append-le, length-take}
use Rattle.vic_script.specs.Lines.{put_first, lines_of, line_of}
use Rattle.vic_script.specs.Run.{script_limit, Progress, Before, scene_in, ScriptRun, run_to_bad_line, Trial, Fails, Does, trial_of_line, mode_in, run_by_trial, line_end, run_from, run_of, bad_line_of}

-- ---- only the front matters

taken-same : (n : ℕ) (bytes rest : List ℕ) → n < length bytes → take (n + 1) (bytes ++ rest) ≡ take (n + 1) bytes
taken-same n bytes rest more = take-append-le (n + 1) bytes rest (omega (arith, more))

pub run-front : (bytes rest : List ℕ) → script_limit < length bytes → run_of (bytes ++ rest) ≡ run_of bytes
unfolding run_of
run-front bytes rest more = ap (λ (known : List ℕ). run_from (length known) 0 1 Before (lines_of known)) (taken-same script_limit bytes rest more)

-- ---- the bytes of lines, each with one that ends it

abbrev pub span : List (List ℕ) → ℕ
span [] = 0
span (text ∷ texts) = length text + 1 + span texts

span-put_first : (b n : ℕ) (pieces : List (List ℕ)) → n ≤ span pieces → suc n ≤ span (put_first b pieces)
span-put_first b n [] h = omega (arith, h)
span-put_first b n (piece ∷ pieces) h = omega (arith, h)

span-either : (b : Bool) (n : ℕ) (x y : List (List ℕ)) → n ≤ span x → n ≤ span y → n ≤ span (if b then x else y)
span-either true n x y h k = h
span-either false n x y h k = k

pub span-lines_of : (bs : List ℕ) → length bs ≤ span (lines_of bs)
unfolding lines_of
span-lines_of [] = omega arith
span-lines_of (b ∷ bs) =
    let rest = span-lines_of bs in
    span-either (nat_eq b 10) (suc (length bs)) ([] ∷ lines_of bs) (put_first b (lines_of bs)) (omega (arith, rest)) (span-put_first b (length bs) (lines_of bs) rest)

-- ---- a script that is too long has a bad line

abbrev HasBad : ScriptRun → Type 0
HasBad p = is_some p.bad ≡ true

bad-either : (b : Bool) (x y : ScriptRun) → HasBad x → (b ≡ false → HasBad y) → HasBad (if b then x else y)
bad-either true x y h k = h
bad-either false x y h k = k refl

bad-followed : (n : ℕ) (place : Progress) (t : Trial) (rest : Progress → ScriptRun) → ((next : Progress) → HasBad (rest next)) → HasBad (run_by_trial n place t rest)
bad-followed n place (Fails k) rest each = refl
bad-followed n place (Does next text) rest each = each next

-- a line that doesn't reach past the limit ends where the next one begins
place-within : (m total before n : ℕ) → m < total → nat_lt m (min (before + n + 1) total) ≡ false → (min (before + n + 1) total ≡ before + n + 1) × (before + n + 1 ≤ m)
place-within m total before n more e = let within = ltb-false m (min (before + n + 1) total) e in (omega (arith, more, within), omega (arith, more, within))

bad-run_from : (total before n : ℕ) (place : Progress) (texts : List (List ℕ)) → script_limit < total → before ≤ script_limit → total ≤ before + span texts → HasBad (run_from total before n place texts)
unfolding run_from
bad-run_from total before n place [] more few all = absurd (omega (arith, more, few, all))
bad-run_from total before n place (text ∷ texts) more few all =
    let behind : ℕ = line_end total before text in
    let rest : Progress → ScriptRun = λ next. run_from total behind (n + 1) next texts in
    let t : Trial = trial_of_line place (line_of (mode_in (scene_in place)) text) in
    bad-either (nat_lt script_limit behind) (run_to_bad_line place n 7) (run_by_trial n place t rest) refl
    (λ e. let w = place-within script_limit total before (length text) more e in
    bad-followed n place t rest
    (λ next. bad-run_from total behind (n + 1) next texts more (omega (arith, w.0, w.1)) (omega (arith, w.0, w.1, all))))

bad-known : (known : List ℕ) → script_limit < length known → HasBad (run_from (length known) 0 1 Before (lines_of known))
bad-known known more = bad-run_from (length known) 0 1 Before (lines_of known) more (omega arith) (omega (arith, span-lines_of known))

length-known : (n : ℕ) (script : List ℕ) → n < length script → n < length (take (n + 1) script)
length-known n script more = omega (arith, more, length-take (n + 1) script)

pub long-bad : (script : List ℕ) → script_limit < length script → is_some (bad_line_of script) ≡ true
unfolding run_of
long-bad script more = bad-known (take (script_limit + 1) script) (length-known script_limit script more)
