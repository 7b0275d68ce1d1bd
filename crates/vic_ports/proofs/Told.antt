-- What reads and writes add up to.
use Rattle.std.proofs.Common.{◌≡◌, ℕ, List, [], ◌++◌, Option, Some, None, refl, sym, ap, subst, ◌∙◌, append_assoc, append-nil}
use Rattle.vic_ports.specs.Causes.{LeavesBehind}
use Rattle.vic_ports.specs.Written.{AppendedAll, AppendedFront}

-- where nothing was written, a front of a text was
pub none_sent : (text : List ℕ) (held : Option (List ℕ)) → AppendedFront text held held
none_sent text None = refl
none_sent text (Some held) = ([], text, (refl, ap Some (sym (append-nil held))))

-- a piece more was read
pub behind_more : (a b : List ℕ) (old mid new : Option (List ℕ)) → LeavesBehind a old mid → LeavesBehind b mid new → LeavesBehind (a ++ b) old new
behind_more a b None mid new x y = let P : Option (List ℕ) → Type 0 = λ m. LeavesBehind b m new in subst P x y
behind_more a b (Some l) mid new x y =
    let P : Option (List ℕ) → Type 0 = λ m. LeavesBehind b m new in
    let z : LeavesBehind b (Some x.0) new = subst P x.1 y in
    (z.0, z.1, x.2 ∙ ap (λ (r : List ℕ). a ++ r) z.2 ∙ sym (append_assoc a b z.0))

-- nothing was read
pub none_read : (held : Option (List ℕ)) → LeavesBehind [] held held
none_read None = refl
none_read (Some l) = (l, refl, refl)

-- two texts were written whole, or the second to its front
pub all_all : (x y : List ℕ) (old mid new : Option (List ℕ)) → AppendedAll x old mid → AppendedAll y mid new → AppendedAll (x ++ y) old new
all_all x y None mid new a b = let P : Option (List ℕ) → Type 0 = λ m. AppendedAll y m new in subst P a b
all_all x y (Some held) mid new a b =
    let P : Option (List ℕ) → Type 0 = λ m. AppendedAll y m new in
    let e : new ≡ Some ((held ++ x) ++ y) = subst P a b in
    e ∙ ap Some (append_assoc held x y)

pub all_front : (x y : List ℕ) (old mid new : Option (List ℕ)) → AppendedAll x old mid → AppendedFront y mid new → AppendedFront (x ++ y) old new
all_front x y None mid new a b = let P : Option (List ℕ) → Type 0 = λ m. AppendedFront y m new in subst P a b
all_front x y (Some held) mid new a b =
    let P : Option (List ℕ) → Type 0 = λ m. AppendedFront y m new in
    let e : AppendedFront y (Some (held ++ x)) new = subst P a b in
    (x ++ e.0, e.1, (ap (λ (l : List ℕ). x ++ l) e.2.0 ∙ sym (append_assoc x e.0 e.1), e.2.1 ∙ ap Some (append_assoc held x e.0)))

pub all_is_front : (x : List ℕ) (old new : Option (List ℕ)) → AppendedAll x old new → AppendedFront x old new
all_is_front x None new a = a
all_is_front x (Some held) new a = (x, [], (sym (append-nil x), a))

-- where nothing was written, all of no text was
pub none_all : (held : Option (List ℕ)) → AppendedAll [] held held
none_all None = refl
none_all (Some l) = ap Some (sym (append-nil l))
