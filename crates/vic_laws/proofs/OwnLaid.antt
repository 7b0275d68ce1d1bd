-- The own calls that a client lays over a part are the own done calls of its path.
use Rattle.std.specs.Prelude.{◌≡◌, ℕ, ◌<◌, ◌≤◌, ◌⊎◌, Bool, true, false, ◌&&◌, List, [], ◌∷◌, ◌++◌, length, Option, Some, nat_lt, nat_eq, if◌then◌else◌}
use Rattle.std.specs.List.{AllByRecursion, filter, fold}
use Rattle.std.proofs.Common.{refl, ap, subst, sym, ◌∙◌, inl, inr, arith, append_assoc, le-ltb, lt-ltb, eq-eqb, ne_eqb, le_trans}
use Rattle.std.proofs.lemmas.Bool.{cases_eq, cases_lt}
use Rattle.vic_dict.specs.declared.op.Entry.{Entry}
use Rattle.vic_dict.specs.declared.op.Outcome.{Outcome}
use Rattle.vic_dict.specs.Dictionary.{Dictionary, after}
use Rattle.vic_wire.specs.Hashes.{Group}
use Rattle.vic_rules.specs.declared.state.Own.{Own}
use Rattle.vic_rules.specs.declared.trace.TraceStep.{TraceStep}
use Rattle.vic_wire.specs.Parts.{walked}
use Rattle.vic_rules.specs.Client.{Standing, is_done, done_op, own_calls_over, decision}
use Rattle.vic_rules.specs.History.{standing, path, move_of, AreSteps, Completion, completions}
use Rattle.vic_rules.specs.Views.{confirmation}
use Rattle.vic_laws.proofs.Steps.{Kind, is_quiet, is_called, is_replied, is_updated, is_listed, call_of, IsOther}
use Rattle.vic_laws.specs.OrderClaims.{was_done}
use Rattle.vic_laws.proofs.Standings.{standing_moved, standing_kept, earlier_steps}
use Rattle.vic_laws.proofs.Calls.{RepliedAt, kind_of, completed_by, completion_joins}
use Rattle.vic_laws.proofs.Agreement.{confirmed_by}
use Rattle.vic_laws.proofs.Growth.{confirmed_stays, completions_grow}

-- what a call of a path leaves, if it is confirmed and done
abbrev pub own_op : Dictionary → Entry → Option Completion → Dictionary
own_op d e c = if was_done c then after d e.op else d

-- a client's confirmed done calls above a base of a path, laid over a dictionary in order
unfoldable pub own_laid : List Completion → ℕ → ℕ → Dictionary → List Entry → Dictionary
own_laid cs me base d [] = d
own_laid cs me base d (e ∷ p) = if nat_lt base (length (e ∷ p)) && nat_eq e.client me then own_op (own_laid cs me base d p) e (confirmation cs (e ∷ p)) else own_laid cs me base d p

if_true : {A : Type 0} (b : Bool) (x y : A) → b ≡ true → (if b then x else y) ≡ x
if_true b x y e = ap (λ c. if c then x else y) e

if_false : {A : Type 0} (b : Bool) (x y : A) → b ≡ false → (if b then x else y) ≡ y
if_false b x y e = ap (λ c. if c then x else y) e

and_false : (a b : Bool) → b ≡ false → (a && b) ≡ false
and_false true b e = e
and_false false b e = refl

-- an own entry above the base is laid
pub laid_own : (cs : List Completion) (me base : ℕ) (d : Dictionary) (e : Entry) (p : List Entry) → base < length (e ∷ p) → e.client ≡ me
    → own_laid cs me base d (e ∷ p) ≡ own_op (own_laid cs me base d p) e (confirmation cs (e ∷ p))
unfolding own_laid
laid_own cs me base d e p above mine =
    ap (λ b. if b && nat_eq e.client me then own_op (own_laid cs me base d p) e (confirmation cs (e ∷ p)) else own_laid cs me base d p) (lt-ltb base (length (e ∷ p)) above)
    ∙ if_true (nat_eq e.client me) _ _ (eq-eqb e.client me mine)

-- another client's isn't
pub laid_other : (cs : List Completion) (me base : ℕ) (d : Dictionary) (e : Entry) (p : List Entry) → (e.client ≡ me → ⊥) → own_laid cs me base d (e ∷ p) ≡ own_laid cs me base d p
unfolding own_laid
laid_other cs me base d e p other = if_false (nat_lt base (length (e ∷ p)) && nat_eq e.client me) _ _ (and_false (nat_lt base (length (e ∷ p))) (nat_eq e.client me) (ne_eqb e.client me other))

-- nor is what isn't above the base
pub laid_below : (cs : List Completion) (me base : ℕ) (d : Dictionary) (p : List Entry) → length p ≤ base → own_laid cs me base d p ≡ d
unfolding own_laid
laid_below cs me base d [] le = refl
laid_below cs me base d (e ∷ p) le =
    ap (λ b. if b && nat_eq e.client me then own_op (own_laid cs me base d p) e (confirmation cs (e ∷ p)) else own_laid cs me base d p) (le-ltb base (length (e ∷ p)) le)
    ∙ laid_below cs me base d p (omega (arith, le))

-- other clients' entries on a path change nothing
laid_others : (cs : List Completion) (count me base : ℕ) (d : Dictionary) (others p : List Entry) → AllByRecursion (IsOther count me) others → own_laid cs me base d (others ++ p) ≡ own_laid cs me base d p
laid_others cs count me base d [] p a = refl
laid_others cs count me base d (e ∷ others) p a = laid_other cs me base d e (others ++ p) a.0.1 ∙ laid_others cs count me base d others p a.1

-- ---- each own entry of a path is confirmed

abbrev pub OwnOnes : List Completion → ℕ → List Entry → Type 0
OwnOnes cs me [] = Unit {0}
OwnOnes cs me (e ∷ p) = (e.client ≡ me → (c : Completion) × (confirmation cs (e ∷ p) ≡ Some c)) × OwnOnes cs me p

pub own_ones_stay : (ds cs : List Completion) (me : ℕ) (p : List Entry) → OwnOnes cs me p → OwnOnes (ds ++ cs) me p
own_ones_stay ds cs me [] a = tt
own_ones_stay ds cs me (e ∷ p) a = ((λ mine. ((a.0 mine).0, confirmed_stays ds cs (e ∷ p) (a.0 mine).0 (a.0 mine).1)), own_ones_stay ds cs me p a.1)

own_ones_others : (cs : List Completion) (count me : ℕ) (others p : List Entry) → AllByRecursion (IsOther count me) others → OwnOnes cs me p → OwnOnes cs me (others ++ p)
own_ones_others cs count me [] p a b = b
own_ones_others cs count me (e ∷ others) p a b = ((λ mine. absurd (a.0.1 mine)), own_ones_others cs count me others p a.1 b)

-- what is laid stays where each own entry is confirmed
laid_stays : (ds cs : List Completion) (me base : ℕ) (d : Dictionary) (p : List Entry) → OwnOnes cs me p → own_laid (ds ++ cs) me base d p ≡ own_laid cs me base d p
unfolding own_laid
laid_stays ds cs me base d [] a = refl
laid_stays ds cs me base d (e ∷ p) a = now (cases_eq e.client me) (laid_stays ds cs me base d p a.1)
  where
    now : (e.client ≡ me) ⊎ (e.client ≡ me → ⊥) → own_laid (ds ++ cs) me base d p ≡ own_laid cs me base d p → own_laid (ds ++ cs) me base d (e ∷ p) ≡ own_laid cs me base d (e ∷ p)
    now (inl mine) ih =
        ap (λ c. if nat_lt base (length (e ∷ p)) && nat_eq e.client me then own_op (own_laid (ds ++ cs) me base d p) e c else own_laid (ds ++ cs) me base d p)
        (confirmed_stays ds cs (e ∷ p) (a.0 mine).0 (a.0 mine).1 ∙ sym (a.0 mine).1)
        ∙ ap (λ w. if nat_lt base (length (e ∷ p)) && nat_eq e.client me then own_op w e (confirmation cs (e ∷ p)) else w) ih
    now (inr other) ih = laid_other (ds ++ cs) me base d e p other ∙ (ih ∙ sym (laid_other cs me base d e p other))

own_ones_kept : (g : Group) (x : TraceStep) (past : List TraceStep) → AreSteps g (x ∷ past) → (ds : List Completion) → completions g (x ∷ past) ≡ ds ++ completions g past
    → OwnOnes (completions g past) x.client (standing g x.client past).path → Kind g x.client (standing g x.client past) x.input (move_of g past x)
    → OwnOnes (completions g (x ∷ past)) x.client (move_of g past x).next.path
own_ones_kept g x past steps ds more a k = now k
  where
    s : Standing
    s = standing g x.client past

    cs : List Completion
    cs = completions g (x ∷ past)

    b : OwnOnes (completions g (x ∷ past)) x.client (standing g x.client past).path
    b = subst (λ c. OwnOnes c x.client (standing g x.client past).path) (sym more) (own_ones_stay ds (completions g past) x.client (standing g x.client past).path a)

    now : Kind g x.client (standing g x.client past) x.input (move_of g past x) → OwnOnes (completions g (x ∷ past)) x.client (move_of g past x).next.path
    now (is_quiet q) = subst (OwnOnes (completions g (x ∷ past)) x.client) (sym q.path) b
    now (is_called c) = subst (λ v. OwnOnes (completions g (x ∷ past)) x.client v.next.path) (sym c.moved) b
    now (is_replied r) = subst (λ v. OwnOnes (completions g (x ∷ past)) x.client v.next.path) (sym r.moved) (
      (λ mine. (completed_by r, confirmed_by g (x ∷ past) steps (call_of x.client r.seq r.op ∷ (r.others ++ (standing g x.client past).path)) (completed_by r) (completion_joins g past x steps.1 r) refl)),
      own_ones_others (completions g (x ∷ past)) g.count x.client r.others (standing g x.client past).path r.from_others b,
    )
    now (is_updated u) = subst (λ v. OwnOnes (completions g (x ∷ past)) x.client v.next.path) (sym u.moved) b
    now (is_listed l) = subst (λ v. OwnOnes (completions g (x ∷ past)) x.client v.next.path) (sym l.moved)
        (own_ones_others (completions g (x ∷ past)) g.count x.client l.others (standing g x.client past).path l.from_others b)

-- each own entry of a client's path is confirmed
pub own_ones : (g : Group) (h : List TraceStep) → AreSteps g h → (me : ℕ) → OwnOnes (completions g h) me (path g me h)
unfolding standing
own_ones g [] steps me = tt
own_ones g (x ∷ past) steps me = now (cases_eq x.client me) (own_ones g past steps.0 x.client) (own_ones g past steps.0 me)
  where
    more : (ds : List Completion) × (completions g (x ∷ past) ≡ ds ++ completions g past)
    more = completions_grow g (x ∷ []) past

    now : (x.client ≡ me) ⊎ (x.client ≡ me → ⊥) → OwnOnes (completions g past) x.client (path g x.client past) → OwnOnes (completions g past) me (path g me past) → OwnOnes (completions g (x ∷ past)) me (path g me (x ∷ past))
    now (inl e) mine other = subst (λ j. OwnOnes (completions g (x ∷ past)) j (path g j (x ∷ past))) e
        (subst (λ s. OwnOnes (completions g (x ∷ past)) x.client s.path) (sym (standing_moved g x.client x past refl))
        (own_ones_kept g x past steps more.0 more.1 mine (kind_of g past x steps.1)))
    now (inr e) mine other = subst (λ s. OwnOnes (completions g (x ∷ past)) me s.path) (sym (standing_kept g me x past e))
        (subst (λ c. OwnOnes c me (path g me past)) (sym more.1) (own_ones_stay more.0 (completions g past) me (path g me past) other))

-- ---- the own calls as a client keeps them

fold_one : (b : Bool) (d : Dictionary) (o : Own) → fold done_op d (if b then o ∷ [] else []) ≡ (if b then done_op d o else d)
fold_one true d o = refl
fold_one false d o = refl

fold_more : (b : Bool) (d : Dictionary) (x o : Own) (c : Bool) (longer shorter : List Own) → ((w : Dictionary) → fold done_op w longer ≡ (if c then done_op (fold done_op w shorter) o else fold done_op w shorter))
    → fold done_op d (if b then x ∷ longer else longer) ≡ (if c then done_op (fold done_op d (if b then x ∷ shorter else shorter)) o else fold done_op d (if b then x ∷ shorter else shorter))
fold_more true d x o c longer shorter f = f (done_op d x)
fold_more false d x o c longer shorter f = f d

-- the last own call is laid last, if it stands above the base
laid_last : (own : List Own) (o : Own) (base : ℕ) (d : Dictionary) → own_calls_over (own ++ o ∷ []) base d ≡ (if nat_lt base o.position then done_op (own_calls_over own base d) o else own_calls_over own base d)
laid_last [] o base d = fold_one (nat_lt base o.position) d o
laid_last (x ∷ own) o base d =
    fold_more (nat_lt base x.position) d x o (nat_lt base o.position) (filter (λ w. nat_lt base w.position) (own ++ o ∷ [])) (filter (λ w. nat_lt base w.position) own) (λ w. laid_last own o base w)

-- an own call that isn't above the base isn't laid
laid_first : (first : Own) (rest : List Own) (base : ℕ) (d : Dictionary) → first.position ≤ base → own_calls_over (first ∷ rest) base d ≡ own_calls_over rest base d
laid_first first rest base d le = ap (λ b. fold done_op d (if b then first ∷ filter (λ w. nat_lt base w.position) rest else filter (λ w. nat_lt base w.position) rest)) (le-ltb base first.position le)

-- over what is sealed, a client lays the own done calls of its path
abbrev pub Lays : List Completion → ℕ → Standing → Type 0
Lays cs me s = (base : ℕ) (d : Dictionary) → s.sealed ≤ base → own_calls_over s.own base d ≡ own_laid cs me base d s.path

done_same : (a b : Dictionary) (o : Own) (e : Entry) (c : Completion) → a ≡ b → o.op ≡ e.op → is_done c.outcome ≡ o.done → done_op a o ≡ own_op b e (Some c)
done_same a b o e c same op status =
    ap (λ w. if o.done then after w o.op else w) same ∙ (ap (λ q. if o.done then after b q else b) op ∙ ap (λ t. if t then after b e.op else b) (sym status))

module _ (g : Group) (x : TraceStep) (past : List TraceStep) (steps : AreSteps g (x ∷ past)) where
  -- what stood before lies as before among more completions
  lays_stay : (me : ℕ) → Lays (completions g past) me (standing g me past) → Lays (completions g (x ∷ past)) me (standing g me past)
  lays_stay me before base d le =
      let more = completions_grow g (x ∷ []) past in
      before base d le ∙ (sym (laid_stays more.0 (completions g past) me base d (path g me past) (own_ones g past steps.0 me)) ∙ ap (λ cs. own_laid cs me base d (path g me past)) (sym more.1))

  lays_kept : Lays (completions g (x ∷ past)) x.client (standing g x.client past) → Kind g x.client (standing g x.client past) x.input (move_of g past x)
      → Lays (completions g (x ∷ past)) x.client (move_of g past x).next
  lays_kept before (is_quiet k) = λ base d le.
      ap (λ own. own_calls_over own base d) k.own ∙ (before base d (subst (λ n. n ≤ base) k.sealed le) ∙ ap (own_laid (completions g (x ∷ past)) x.client base d) (sym k.path))
  lays_kept before (is_called k) = subst (λ v. Lays (completions g (x ∷ past)) x.client v.next) (sym k.moved) before
  lays_kept before (is_replied k) = subst (λ v. Lays (completions g (x ∷ past)) x.client v.next) (sym k.moved) (λ base d le. now base d le (cases_lt base (length p)))
    where
      s : Standing
      s = standing g x.client past

      cs : List Completion
      cs = completions g (x ∷ past)

      call : Entry
      call = call_of x.client k.seq k.op

      below : List Entry
      below = k.others ++ (standing g x.client past).path

      p : List Entry
      p = call_of x.client k.seq k.op ∷ (k.others ++ (standing g x.client past).path)

      ends : Outcome
      ends = decision x.client (standing g x.client past) (k.others ++ (standing g x.client past).path) k.seal.position k.part k.op

      new : Own
      new = record { position = length (call_of x.client k.seq k.op ∷ (k.others ++ (standing g x.client past).path)); op = k.op; done = is_done ends }

      same : (base : ℕ) (d : Dictionary) → k.seal.position ≤ base → own_calls_over (standing g x.client past).own base d ≡ own_laid (completions g (x ∷ past)) x.client base d (k.others ++ (standing g x.client past).path)
      same base d le = before base d (le_trans k.sealing.goes le) ∙ sym (laid_others (completions g (x ∷ past)) g.count x.client base d k.others (standing g x.client past).path k.from_others)

      found : confirmation (completions g (x ∷ past)) p ≡ Some (completed_by k)
      found = confirmed_by g (x ∷ past) steps p (completed_by k) (completion_joins g past x steps.1 k) refl

      now : (base : ℕ) (d : Dictionary) → k.seal.position ≤ base → (base < length p) ⊎ (length p ≤ base) → own_calls_over ((standing g x.client past).own ++ new ∷ []) base d ≡ own_laid (completions g (x ∷ past)) x.client base d p
      now base d le (inl above) =
          laid_last (standing g x.client past).own new base d
          ∙ (if_true (nat_lt base new.position) _ _ (lt-ltb base (length p) above)
          ∙ (done_same (own_calls_over (standing g x.client past).own base d) (own_laid (completions g (x ∷ past)) x.client base d below) new call (completed_by k) (same base d le) refl refl
          ∙ (ap (own_op (own_laid (completions g (x ∷ past)) x.client base d below) call) (sym found)
          ∙ sym (laid_own (completions g (x ∷ past)) x.client base d call below above refl))))
      now base d le (inr up) =
          laid_last (standing g x.client past).own new base d
          ∙ (if_false (nat_lt base new.position) _ _ (le-ltb base (length p) up)
          ∙ (same base d le
          ∙ (laid_below (completions g (x ∷ past)) x.client base d below (omega arith) ∙ sym (laid_below (completions g (x ∷ past)) x.client base d p up))))
  lays_kept before (is_updated k) = subst (λ v. Lays (completions g (x ∷ past)) x.client v.next) (sym k.moved) (λ base d le.
      sym (laid_first k.first k.rest base d (subst (λ n. n ≤ base) (sym k.next_is) le))
      ∙ (ap (λ own. own_calls_over own base d) (sym k.own_is) ∙ before base d (omega (arith, le, k.sealing.goes))))
  lays_kept before (is_listed k) = subst (λ v. Lays (completions g (x ∷ past)) x.client v.next) (sym k.moved) (λ base d le.
      before base d (le_trans k.sealing.goes le) ∙ sym (laid_others (completions g (x ∷ past)) g.count x.client base d k.others (standing g x.client past).path k.from_others))

-- each client lays its own done calls
lays : (g : Group) (h : List TraceStep) → AreSteps g h → (me : ℕ) → Lays (completions g h) me (standing g me h)
unfolding standing own_laid
lays g [] steps me = λ base d le. refl
lays g (x ∷ past) steps me = now (cases_eq x.client me) (lays g past steps.0 x.client) (lays g past steps.0 me)
  where
    now : (x.client ≡ me) ⊎ (x.client ≡ me → ⊥) → Lays (completions g past) x.client (standing g x.client past) → Lays (completions g past) me (standing g me past) → Lays (completions g (x ∷ past)) me (standing g me (x ∷ past))
    now (inl e) mine other = subst (λ j. Lays (completions g (x ∷ past)) j (standing g j (x ∷ past))) e
        (subst (Lays (completions g (x ∷ past)) x.client) (sym (standing_moved g x.client x past refl))
        (lays_kept g x past steps (lays_stay g x past steps x.client mine) (kind_of g past x steps.1)))
    now (inr e) mine other = subst (Lays (completions g (x ∷ past)) me) (sym (standing_kept g me x past e)) (lays_stay g x past steps me other)

-- what a client lays over the part of its Reply is laid by the path below the call, in the whole history
pub lays_at : (g : Group) (whole : List TraceStep) → AreSteps g whole → (later : List TraceStep) (x : TraceStep) (past : List TraceStep) → whole ≡ later ++ x ∷ past → (r : RepliedAt g past x)
    → own_calls_over (standing g x.client past).own r.seal.position (walked r.part r.op) ≡ own_laid (completions g whole) x.client r.seal.position (walked r.part r.op) (r.others ++ path g x.client past)
lays_at g whole lawful later x past e r =
    let p = path g x.client past in
    let steps = earlier_steps g later (x ∷ past) (subst (AreSteps g) e lawful) in
    let more = completions_grow g (later ++ x ∷ []) past in
    lays g past steps.0 x.client r.seal.position (walked r.part r.op) r.sealing.goes
    ∙ (sym (laid_stays more.0 (completions g past) x.client r.seal.position (walked r.part r.op) p (own_ones g past steps.0 x.client))
    ∙ (ap (λ cs. own_laid cs x.client r.seal.position (walked r.part r.op) p) (sym more.1 ∙ ap (completions g) (append_assoc later (x ∷ []) past ∙ sym e))
    ∙ sym (laid_others (completions g whole) g.count x.client r.seal.position (walked r.part r.op) r.others p r.from_others)))
