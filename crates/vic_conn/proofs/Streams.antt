-- A stream that is read piece by piece, and whose frames are taken one by one.
use Rattle.std.proofs.Common.{◌≡◌, ℕ, List, [], ◌∷◌, ◌++◌, refl, sym, ap, ◌∙◌, append_assoc, append-nil}
use Rattle.vic_conn.specs.Frames.{Waits, Whole, Broken, front_of, before, frames_of}
use Rattle.vic_conn.specs.FrameLaws.{StaysDecided, OneByOne}

-- all that was read is these payloads and then what is left, whatever comes behind
pub record Splits (all : List ℕ) (payloads : List (List ℕ)) (left : List ℕ) : Type 0 where
  pub so : (ys : List ℕ) → frames_of (all ++ ys) ≡ (payloads ++ (frames_of (left ++ ys)).0, (frames_of (left ++ ys)).1)

pub splits_none : Splits [] [] []
splits_none = record { so = λ ys. refl }

-- a piece more was read
pub splits_fed : (all : List ℕ) (ps : List (List ℕ)) (left piece : List ℕ) → Splits all ps left → Splits (all ++ piece) ps (left ++ piece)
splits_fed all ps left piece s = record {
  so = λ ys. ap frames_of (append_assoc all piece ys) ∙ s.so (piece ++ ys) ∙ ap (λ (l : List ℕ). (ps ++ (frames_of l).0, (frames_of l).1)) (sym (append_assoc left piece ys));
}

-- the frame in front was taken
pub splits_taken : StaysDecided → OneByOne → (all : List ℕ) (ps : List (List ℕ)) (left p behind : List ℕ) → Splits all ps left → front_of left ≡ Whole p behind → Splits all (ps ++ p ∷ []) behind
splits_taken d o all ps left p behind s front = record {
  so = λ ys.
      let one : frames_of (left ++ ys) ≡ before p (frames_of (behind ++ ys)) = o.whole (left ++ ys) p (behind ++ ys) (d.whole left ys p behind front) in
      s.so ys ∙ ap (λ (f : List (List ℕ) × List ℕ). (ps ++ f.0, f.1)) one ∙ ap (λ (l : List (List ℕ)). (l, (frames_of (behind ++ ys)).1)) (sym (append_assoc ps (p ∷ []) (frames_of (behind ++ ys)).0));
}

-- no whole frame is left
pub splits_waits : OneByOne → (all : List ℕ) (ps : List (List ℕ)) (left : List ℕ) → Splits all ps left → front_of left ≡ Waits → frames_of all ≡ (ps, left)
splits_waits o all ps left s front =
    ap frames_of (sym (append-nil all)) ∙ s.so [] ∙ ap (λ (l : List ℕ). (ps ++ (frames_of l).0, (frames_of l).1)) (append-nil left)
    ∙ ap (λ (f : List (List ℕ) × List ℕ). (ps ++ f.0, f.1)) (o.waits left front) ∙ ap (λ (l : List (List ℕ)). (l, left)) (append-nil ps)

pub splits_broken : OneByOne → (all : List ℕ) (ps : List (List ℕ)) (left : List ℕ) (n : ℕ) → Splits all ps left → front_of left ≡ Broken n → frames_of all ≡ (ps, left)
splits_broken o all ps left n s front =
    ap frames_of (sym (append-nil all)) ∙ s.so [] ∙ ap (λ (l : List ℕ). (ps ++ (frames_of l).0, (frames_of l).1)) (append-nil left)
    ∙ ap (λ (f : List (List ℕ) × List ℕ). (ps ++ f.0, f.1)) (o.broken left n front) ∙ ap (λ (l : List (List ℕ)). (l, left)) (append-nil ps)

-- whatever is left
pub splits_any : (all : List ℕ) (ps : List (List ℕ)) (left : List ℕ) → Splits all ps left → frames_of all ≡ (ps ++ (frames_of left).0, (frames_of left).1)
splits_any all ps left s = ap frames_of (sym (append-nil all)) ∙ s.so [] ∙ ap (λ (l : List ℕ). (ps ++ (frames_of l).0, (frames_of l).1)) (append-nil left)
