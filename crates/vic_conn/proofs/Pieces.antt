-- All frames of a stream, and of a stream in pieces.
use Rattle.std.proofs.Common.{◌≡◌, ℕ, zero, suc, ◌+◌, ◌<◌, ◌≤◌, List, [], ◌∷◌, ◌++◌, length, drop, refl, sym, ap, ◌∙◌, arith}
use Rattle.std.specs.List.{concat}
use Rattle.std.proofs.lemmas.List.{length-drop, nil_from_length, append-nil, append_assoc, append_cancel_left}
use Rattle.vic_conn.specs.Frames.{Goes, Waits, Whole, Broken, front_of, before, split_by, frames_within, frames_of, by_pieces}
use Rattle.vic_conn.specs.FrameLaws.{OneByOne, AnyPieces}
use Rattle.vic_conn.proofs.Fronts.{whole_told, whole_behind, whole_fits}
use Rattle.vic_conn.proofs.Growing.{whole_stays}

-- what stands behind a frame is shorter
shorter : (bytes p behind : List ℕ) → front_of bytes ≡ Whole p behind → length behind < length bytes
shorter bytes p behind e =
    let h = whole_told bytes p behind e in
    let fits = whole_fits bytes p behind h in
    let len : length behind ≡ length (drop (4 + length p) bytes) = ap length (whole_behind bytes p behind h) in
    omega (arith, length-drop (4 + length p) bytes)

-- two ways to split what stands behind a frame that are the same
same_split : (f g : List ℕ → List (List ℕ) × List ℕ) (bytes : List ℕ) (goes : Goes) → ((p behind : List ℕ) → goes ≡ Whole p behind → f behind ≡ g behind) → split_by f bytes goes ≡ split_by g bytes goes
same_split f g bytes Waits same = refl
same_split f g bytes (Whole p behind) same = ap (before p) (same p behind refl)
same_split f g bytes (Broken n) same = refl

none_within : (n : ℕ) → frames_within n [] ≡ ([], [])
unfolding frames_within front_of
none_within zero = refl
none_within (suc n) = refl

none_short : (n : ℕ) (bytes : List ℕ) → length bytes ≤ 0 → frames_within n bytes ≡ ([], bytes)
none_short n bytes short = let e = nil_from_length bytes (omega arith) in rw e (none_within n)

within_suc : (n : ℕ) (bytes : List ℕ) → frames_within (suc n) bytes ≡ split_by (frames_within n) bytes (front_of bytes)
unfolding frames_within
within_suc n bytes = refl

-- any two bounds that suffice give the same
pub same_bound : (m n : ℕ) (bytes : List ℕ) → length bytes ≤ m → length bytes ≤ n → frames_within m bytes ≡ frames_within n bytes
same_bound zero n bytes g h = none_short zero bytes g ∙ sym (none_short n bytes g)
same_bound (suc m) zero bytes g h = none_short (suc m) bytes h ∙ sym (none_short zero bytes h)
same_bound (suc m) (suc n) bytes g h =
    within_suc m bytes
    ∙ same_split (frames_within m) (frames_within n) bytes (front_of bytes) (λ p behind e. same_bound m n behind (omega (arith, shorter bytes p behind e)) (omega (arith, shorter bytes p behind e)))
    ∙ sym (within_suc n bytes)

pub enough : (n : ℕ) (bytes : List ℕ) → length bytes ≤ n → frames_within n bytes ≡ frames_of bytes
unfolding frames_of
enough n bytes h = same_bound n (length bytes) bytes h (omega arith)

-- all frames, by what stands in front
by_front : (bytes : List ℕ) → frames_of bytes ≡ split_by frames_of bytes (front_of bytes)
by_front bytes =
    let n = length bytes in
    sym (enough (suc n) bytes (omega arith))
    ∙ within_suc n bytes
    ∙ same_split (frames_within n) frames_of bytes (front_of bytes) (λ p behind e. enough n behind (omega (arith, shorter bytes p behind e)))

pub first_whole : (bytes p behind : List ℕ) → front_of bytes ≡ Whole p behind → frames_of bytes ≡ before p (frames_of behind)
first_whole bytes p behind e = by_front bytes ∙ ap (split_by frames_of bytes) e

pub first_waits : (bytes : List ℕ) → front_of bytes ≡ Waits → frames_of bytes ≡ ([], bytes)
first_waits bytes e = by_front bytes ∙ ap (split_by frames_of bytes) e

pub first_broken : (bytes : List ℕ) (n : ℕ) → front_of bytes ≡ Broken n → frames_of bytes ≡ ([], bytes)
first_broken bytes n e = by_front bytes ∙ ap (split_by frames_of bytes) e

pub one_by_one : OneByOne
one_by_one = record { whole = first_whole; waits = first_waits; broken = first_broken; bound = enough }

-- ---- two pieces

-- the frames of a stream that is split already, and of what is left with more behind it
abbrev then_more : List (List ℕ) × List ℕ → List ℕ → List (List ℕ) × List ℕ
then_more first ys = (first.0 ++ (frames_of (first.1 ++ ys)).0, (frames_of (first.1 ++ ys)).1)

nothing_first : (xs ys : List ℕ) → frames_of xs ≡ ([], xs) → frames_of (xs ++ ys) ≡ then_more (frames_of xs) ys
nothing_first xs ys e = sym (ap (λ first. then_more first ys) e)

-- a step: what stands behind the first frame, which is shorter, splits so
pieces_at : (xs ys : List ℕ) → ((behind : List ℕ) → length behind < length xs → frames_of (behind ++ ys) ≡ then_more (frames_of behind) ys)
    → (goes : Goes) → front_of xs ≡ goes → frames_of (xs ++ ys) ≡ then_more (frames_of xs) ys
pieces_at xs ys below Waits e = nothing_first xs ys (first_waits xs e)
pieces_at xs ys below (Whole p behind) e =
    first_whole (xs ++ ys) p (behind ++ ys) (whole_stays xs ys p behind e)
    ∙ ap (before p) (below behind (shorter xs p behind e))
    ∙ sym (ap (λ first. then_more first ys) (first_whole xs p behind e))
pieces_at xs ys below (Broken n) e = nothing_first xs ys (first_broken xs n e)

pieces_by : (n : ℕ) (xs ys : List ℕ) → length xs < n → frames_of (xs ++ ys) ≡ then_more (frames_of xs) ys
pieces_by zero xs ys h = absurd (omega arith)
pieces_by (suc n) xs ys h = pieces_at xs ys (λ behind less. pieces_by n behind ys (omega arith)) (front_of xs) refl

two_pieces : (xs ys : List ℕ) → frames_of (xs ++ ys) ≡ then_more (frames_of xs) ys
two_pieces xs ys = pieces_by (suc (length xs)) xs ys (omega arith)

-- ---- any number of pieces

-- no whole frame is in front of the bytes that are left
none_left : (xs : List ℕ) → frames_of (frames_of xs).1 ≡ ([], (frames_of xs).1)
none_left xs =
    let first = frames_of xs in
    let then = frames_of first.1 in
    let again : first ≡ (first.0 ++ then.0, then.1) = ap frames_of (sym (append-nil xs)) ∙ two_pieces xs [] ∙ ap (λ left. (first.0 ++ (frames_of left).0, (frames_of left).1)) (append-nil first.1) in
    let none : then.0 ≡ [] = append_cancel_left first.0 then.0 [] (sym (ap (λ s. s.0) again) ∙ sym (append-nil first.0)) in
    ap (λ taken. (taken, then.1)) none ∙ ap (λ left. ([], left)) (sym (ap (λ s. s.1) again))

-- the frames taken piece by piece behind bytes without one are those of all joined
pieces_behind : (left : List ℕ) (pieces : List (List ℕ)) → frames_of left ≡ ([], left) → by_pieces left pieces ≡ frames_of (left ++ concat pieces)
unfolding by_pieces
pieces_behind left [] none = sym none ∙ ap frames_of (sym (append-nil left))
pieces_behind left (p ∷ ps) none =
    let now = frames_of (left ++ p) in
    ap (λ later. (now.0 ++ later.0, later.1)) (pieces_behind now.1 ps (none_left (left ++ p)))
    ∙ sym (two_pieces (left ++ p) (concat ps))
    ∙ ap frames_of (append_assoc left p (concat ps))

pub any_pieces : AnyPieces
unfolding front_of
any_pieces = record { two = two_pieces; all = λ pieces. pieces_behind [] pieces (first_waits [] refl) }
