-- How a session ends on a link that serves it.
use Rattle.std.proofs.Common.{◌≡◌, ◌⊎◌, inl, inr, ℕ, List, [], ◌∷◌, ◌++◌, fold, Option, Some, refl, sym, ap, subst, ◌∙◌, append_assoc, append-nil}
use Rattle.vic_wire.specs.Hashes.{Group}
use Rattle.vic_wire.specs.declared.message.ToClient.TheVariants as say
use Rattle.vic_wire.specs.Reading.{read_answer}
use Rattle.vic_conn.specs.Frames.{Broken, front_of, frames_of}
use Rattle.vic_conn.proofs.Growing.{broken_stays}
use Rattle.vic_conn.proofs.Pieces.{first_broken, any_pieces}
use Rattle.vic_ports.specs.Causes.{LeavesBehind, IsSpent}
use Rattle.vic_session.specs.declared.end.SessionEnd.{SessionEnd}
use Rattle.vic_session.specs.declared.end.SessionEnd.TheVariants as ends
use Rattle.vic_session.specs.Talks.{Talk, Talker, Doing, Leaves, Bad, Halts, talk_after_payload, opening_talk, talk, talker}
use Rattle.vic_session.specs.Sessions.{Stage, Greets, Talks, Goes_away, Read, IsOver, IsAt, AllAwaited, IsStrange, HaltsBy, first_of, IsSession}
use Rattle.vic_session.specs.Laws.{IsServed, SessionsAreComplete}

-- ---- two talks over fronts of one list

-- a talk that comes to its end takes no more
too_long : (w : Talker) (t : Talk) (xs : List (List ℕ)) (p : List ℕ) (ps zs : List (List ℕ)) → zs ≡ xs ++ p ∷ ps → AllAwaited w t zs → IsOver (fold (talk_after_payload w) t xs).doing → ⊥
too_long w t [] p ps zs e all over = let here : AllAwaited w t (p ∷ ps) = subst (λ (l : List (List ℕ)). AllAwaited w t l) e all in here.0 over
too_long w t (x ∷ xs) p ps zs e all over =
    let here : AllAwaited w t (x ∷ (xs ++ p ∷ ps)) = subst (λ (l : List (List ℕ)). AllAwaited w t l) e all in
    too_long w (talk_after_payload w t x) xs p ps (xs ++ p ∷ ps) refl here.1 over

-- so two that do, over fronts of one list, take the same
same_end : (w : Talker) (t : Talk) (xs ys a b : List (List ℕ)) → xs ++ a ≡ ys ++ b → AllAwaited w t xs → AllAwaited w t ys → IsOver (fold (talk_after_payload w) t xs).doing → IsOver (fold (talk_after_payload w) t ys).doing
    → (xs ≡ ys) × (a ≡ b)
same_end w t [] [] a b e ax ay ox oy = (refl, e)
same_end w t [] (y ∷ ys) a b e ax ay ox oy = absurd (ay.0 ox)
same_end w t (x ∷ xs) [] a b e ax ay ox oy = absurd (ax.0 oy)
same_end w t (x ∷ xs) (y ∷ ys) a b e ax ay ox oy =
    let first : x ≡ y = cc in
    let rest : xs ++ a ≡ ys ++ b = cc in
    let there : AllAwaited w (talk_after_payload w t x) ys = subst (λ (z : List ℕ). AllAwaited w (talk_after_payload w t z) ys) (sym first) ay.1 in
    let over : IsOver (fold (talk_after_payload w) (talk_after_payload w t x) ys).doing = subst (λ (z : List ℕ). IsOver (fold (talk_after_payload w) (talk_after_payload w t z) ys).doing) (sym first) oy in
    let same = same_end w (talk_after_payload w t x) xs ys a b rest ax.1 there ox over in
    (ap (λ (z : List ℕ). z ∷ xs) first ∙ ap (λ (l : List (List ℕ)). y ∷ l) same.0, same.1)

-- ---- what was read, of all that there is

-- the frames of what was read are the first of all
read_first : (bytes read rest : List ℕ) → bytes ≡ read ++ rest → (tail : List (List ℕ)) × ((frames_of bytes).0 ≡ (frames_of read).0 ++ tail)
read_first bytes read rest e =
    ((frames_of ((frames_of read).1 ++ rest)).0, ap (λ (l : List ℕ). (frames_of l).0) e ∙ ap (λ (x : List (List ℕ) × List ℕ). x.0) (any_pieces.two read rest))

-- behind a broken length there is none
none_behind : (bytes read rest : List ℕ) (n : ℕ) → bytes ≡ read ++ rest → front_of (frames_of read).1 ≡ Broken n → (frames_of bytes).0 ≡ (frames_of read).0
unfolding read_first
none_behind bytes read rest n e broken =
    let none : frames_of ((frames_of read).1 ++ rest) ≡ ([], (frames_of read).1 ++ rest) = first_broken ((frames_of read).1 ++ rest) n (broken_stays (frames_of read).1 rest n broken) in
    (read_first bytes read rest e).1 ∙ ap (λ (x : List (List ℕ) × List ℕ). (frames_of read).0 ++ x.0) none ∙ append-nil (frames_of read).0

nothing_left : (rest : List ℕ) (left : Option (List ℕ)) → left ≡ Some rest → IsSpent left → rest ≡ []
nothing_left [] left e spent = refl
nothing_left (b ∷ rest) left e spent = let some : IsSpent (Some (b ∷ rest)) = subst (λ (l : Option (List ℕ)). IsSpent l) e spent in absurd cc

first_is : (more tail : List (List ℕ)) (p x : List ℕ) (xs : List (List ℕ)) → first_of more ≡ Some p → more ++ tail ≡ x ∷ xs → p ≡ x
first_is [] tail p x xs first e = absurd cc
first_is (q ∷ more) tail p x xs first e = cc

module _ (g : Group) (me : ℕ) (script : List ℕ) (payloads : List (List ℕ)) (v : IsServed g me script payloads) where
  w : Talker
  w = talker g me script

  over : IsOver (fold (talk_after_payload (talker g me script)) (opening_talk (talker g me script) script) v.taken).doing
  unfolding talk
  over = subst (λ (d : Doing). IsOver d) (sym v.leaves) tt

  -- it did not take all payloads
  too_many : (taken : List (List ℕ)) (hi : List ℕ) → hi ∷ taken ≡ payloads → AllAwaited (talker g me script) (opening_talk (talker g me script) script) taken → ⊥
  too_many taken hi e all =
      let joined : hi ∷ taken ≡ v.hi ∷ v.taken ++ v.gone ∷ v.more = e ∙ v.in_order in
      let rest : taken ≡ v.taken ++ v.gone ∷ v.more = cc in
      too_long (talker g me script) (opening_talk (talker g me script) script) v.taken v.gone v.more taken rest all over

  -- where it came to its end, it took those
  same : (taken more tail : List (List ℕ)) (hi : List ℕ) → (hi ∷ taken ++ more) ++ tail ≡ payloads → AllAwaited (talker g me script) (opening_talk (talker g me script) script) taken
      → IsOver (talk (talker g me script) script taken).doing → (taken ≡ v.taken) × (more ++ tail ≡ v.gone ∷ v.more)
  unfolding talk
  same taken more tail hi e all ends =
      let joined : hi ∷ ((taken ++ more) ++ tail) ≡ v.hi ∷ v.taken ++ v.gone ∷ v.more = e ∙ v.in_order in
      let rest : (taken ++ more) ++ tail ≡ v.taken ++ v.gone ∷ v.more = cc in
      same_end (talker g me script) (opening_talk (talker g me script) script) taken v.taken (more ++ tail) (v.gone ∷ v.more) (sym (append_assoc taken more tail) ∙ rest) all v.awaited ends over

  -- whatever its stage is, there is more
  not_all : (stage : Stage) (read taken more : List (List ℕ)) → Read stage read taken more → AllAwaited (talker g me script) (opening_talk (talker g me script) script) taken → more ≡ [] → read ≡ payloads → ⊥
  not_all Greets read taken more r all none e = let no : [] ≡ v.hi ∷ v.taken ++ v.gone ∷ v.more = sym none ∙ sym r.1 ∙ e ∙ v.in_order in absurd cc
  not_all Talks read taken more r all none e =
      too_many taken r.0 (sym (r.1.1 ∙ ap (λ (l : List (List ℕ)). r.0 ∷ taken ++ l) none ∙ append-nil (r.0 ∷ taken)) ∙ e) all
  not_all Goes_away read taken more r all none e =
      too_many taken r.0 (sym (r.1.1 ∙ ap (λ (l : List (List ℕ)). r.0 ∷ taken ++ l) none ∙ append-nil (r.0 ∷ taken)) ∙ e) all

  -- a talk that came to its end has left
  must_leave : (stage : Stage) (read taken more tail : List (List ℕ)) → stage ≡ Talks → Read stage read taken more → read ++ tail ≡ payloads → AllAwaited (talker g me script) (opening_talk (talker g me script) script) taken
      → IsOver (talk (talker g me script) script taken).doing → (talk (talker g me script) script taken).doing ≡ Leaves
  must_leave stage read taken more tail talks reads e all ends =
      let r : Read Talks read taken more = subst (λ (s : Stage). Read s read taken more) talks reads in
      let is = same taken more tail r.0 (ap (λ (l : List (List ℕ)). l ++ tail) (sym r.1.1) ∙ e) all ends in
      ap (λ (l : List (List ℕ)). (talk (talker g me script) script l).doing) is.0 ∙ v.leaves

  hi_first : (read taken more tail : List (List ℕ)) (p : List ℕ) → Read Greets read taken more → read ++ tail ≡ payloads → first_of more ≡ Some p → read_answer p ≡ Some say.Hi
  hi_first read taken more tail p r e first =
      let is = first_is more tail p v.hi (v.taken ++ v.gone ∷ v.more) first (ap (λ (l : List (List ℕ)). l ++ tail) (sym r.1) ∙ e ∙ v.in_order) in
      ap read_answer is ∙ v.hi_is

  -- the answers to Hello and to Bye are as they should be
  not_strange : (stage : Stage) (read taken more tail : List (List ℕ)) (h : List ℕ) → Read stage read taken more → read ++ tail ≡ payloads → AllAwaited (talker g me script) (opening_talk (talker g me script) script) taken
      → IsAt stage (talk (talker g me script) script taken).doing → IsStrange stage (first_of more) h → ⊥
  not_strange Greets read taken more tail h r e all at x = x.1.1.1.0 (hi_first read taken more tail x.0 r e x.1.0)
  not_strange Talks read taken more tail h r e all at x = x
  not_strange Goes_away read taken more tail h r e all at x =
      let is = same taken more tail r.0 (ap (λ (l : List (List ℕ)). l ++ tail) (sym r.1.1) ∙ e) all (subst (λ (d : Doing). IsOver d) (sym at) tt) in
      let first = first_is more tail x.0 v.gone v.more x.1.0 is.1 in
      x.1.1.1 (ap read_answer first ∙ v.gone_is)

pub complete : SessionsAreComplete
complete g me script old new out printed end s quiet bytes told v = by_end end s
  where
    by_end : (end : SessionEnd) → IsSession g me script old out end new printed → (end ≡ ends.Ok) ⊎ (end ≡ ends.NoMemory)
    by_end ends.Ok s = inl refl
    by_end ends.NoMemory s = inr refl
    by_end (ends.BadLine n k) s =
        let took : LeavesBehind s.read (Some bytes) new.left = subst (λ (l : Option (List ℕ)). LeavesBehind s.read l new.left) told s.took in
        let all = read_first bytes s.read took.0 took.2 in
        let bad = s.ends_so.1.0 in
        let left = must_leave g me script (frames_of bytes).0 v s.stage (frames_of s.read).0 s.taken s.more all.0 s.ends_so.0 s.reads (sym all.1) s.awaited (subst (λ (d : Doing). IsOver d) (sym bad) tt) in
        let no : Bad k ≡ Leaves = sym bad ∙ left in absurd cc
    by_end (ends.Halted k h) s =
        let took : LeavesBehind s.read (Some bytes) new.left = subst (λ (l : Option (List ℕ)). LeavesBehind s.read l new.left) told s.took in
        let all = read_first bytes s.read took.0 took.2 in
        let by_cause : HaltsBy s.stage (talk (talker g me script) script s.taken).doing k h.bytes (first_of s.more) → ⊥ = λ x. elim x [
          | inl c ↦
              let halts = c.1.1.0 in
              let left = must_leave g me script (frames_of bytes).0 v s.stage (frames_of s.read).0 s.taken s.more all.0 c.0 s.reads (sym all.1) s.awaited (subst (λ (d : Doing). IsOver d) (sym halts) tt) in
              let no : Halts k c.1.0 ≡ Leaves = sym halts ∙ left in absurd cc
          | inr c ↦ not_strange g me script (frames_of bytes).0 v s.stage (frames_of s.read).0 s.taken s.more all.0 h.bytes s.reads (sym all.1) s.awaited s.at c.1
        ] in absurd (by_cause s.ends_so.0)
    by_end ends.LinkFault s =
        let took : LeavesBehind s.read (Some bytes) new.left = subst (λ (l : Option (List ℕ)). LeavesBehind s.read l new.left) told s.took in
        elim s.ends_so [
          | inl c ↦ absurd (quiet c.0)
          | inr c ↦
              let cut = c.1 in
              let none : took.0 ≡ [] = nothing_left took.0 new.left took.1 cut.1.1.0.1 in
              let is : s.read ≡ bytes = sym (took.2 ∙ ap (λ (l : List ℕ). s.read ++ l) none ∙ append-nil s.read) in
              absurd (not_all g me script (frames_of bytes).0 v s.stage (frames_of s.read).0 s.taken s.more s.reads s.awaited cut.1.0 (ap (λ (l : List ℕ). (frames_of l).0) is))
        ]
    by_end ends.BadFrame s =
        let took : LeavesBehind s.read (Some bytes) new.left = subst (λ (l : Option (List ℕ)). LeavesBehind s.read l new.left) told s.took in
        let broken = s.ends_so.1.1.0 in
        absurd (not_all g me script (frames_of bytes).0 v s.stage (frames_of s.read).0 s.taken s.more s.reads s.awaited s.ends_so.1.0 (sym (none_behind bytes s.read took.0 broken.0 took.2 broken.1)))
    by_end (ends.GreetingRefused r) s =
        let took : LeavesBehind s.read (Some bytes) new.left = subst (λ (l : Option (List ℕ)). LeavesBehind s.read l new.left) told s.took in
        let all = read_first bytes s.read took.0 took.2 in
        let reads : Read Greets (frames_of s.read).0 s.taken s.more = subst (λ (x : Stage). Read x (frames_of s.read).0 s.taken s.more) s.ends_so.0 s.reads in
        let answer = s.ends_so.1.0 in
        let hi = hi_first g me script (frames_of bytes).0 v (frames_of s.read).0 s.taken s.more all.0 answer.0 reads (sym all.1) answer.1.0 in
        let no : Some (say.Refused r) ≡ Some say.Hi = sym answer.1.1 ∙ hi in absurd cc
