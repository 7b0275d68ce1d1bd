-- What is shown in views: each shown call is confirmed by its one completion, so views agree and show only calls.
use Rattle.std.proofs.Common.{◌≡◌, inl, inr, Bool, true, false, List, [], ◌∷◌, ◌++◌, Option, Some, None, refl, sym, ◌∙◌, ap, subst, Decides, if◌then◌else◌}
use Rattle.std.specs.Cmp.Lexicographic.{pointwise}
use Rattle.std.proofs.lemmas.Slice.Eq.{slice_eq-Decides}
use Rattle.vic_dict.specs.declared.op.Entry.{Entry}
use Rattle.vic_dict.specs.Lists.{IsIn}
use Rattle.vic_wire.specs.Hashes.{Group}
use Rattle.vic_rules.specs.declared.trace.TraceStep.{TraceStep}
use Rattle.vic_rules.specs.declared.trace.Shown.{Shown}
use Rattle.vic_rules.specs.Client.{same_entry}
use Rattle.vic_rules.specs.History.{AreSteps, Completion, completions}
use Rattle.vic_rules.specs.Views.{or_else, confirmation, shown_as, confirmed_calls, last_prefix, view_of, IsSameCall, Agree, IsAnswered, ShowsOnlyCalls}
use Rattle.vic_laws.specs.OrderClaims.{CompletedOnce, ConfirmedIs, ConfirmedByOwner, ViewsAgree, ViewsShowOnlyCalls}
use Rattle.vic_laws.proofs.SameOp.{same_entry-Decides}
use Rattle.vic_laws.proofs.Calls.{Numbered, numbered, number_of, one_completion, newest_entry, completion_answers}

-- ---- what confirms a path

-- the test of two paths decides whether they are equal
pub same_path-Decides : (p q : List Entry) → Decides (pointwise same_entry p q) (p ≡ q)
same_path-Decides p q = slice_eq-Decides same_entry-Decides p q (pointwise same_entry p q) refl

-- what the search for a path's completion has found
abbrev pub Confirms : List Completion → List Entry → Option Completion → Type 0
Confirms cs p None = Unit {0}
Confirms cs p (Some c) = IsIn cs c × (c.prefix ≡ p)

confirms_more : (c : Completion) (cs : List Completion) (p : List Entry) (o : Option Completion) → Confirms cs p o → (b : Bool) → pointwise same_entry c.prefix p ≡ b
    → Confirms (c ∷ cs) p (or_else o (if b then Some c else None))
confirms_more c cs p (Some d) f b e = (inr f.0, f.1)
confirms_more c cs p None f true e = (inl refl, (same_path-Decides c.prefix p).0 e)
confirms_more c cs p None f false e = tt

confirms : (cs : List Completion) (p : List Entry) → Confirms cs p (confirmation cs p)
unfolding confirmation
confirms [] p = tt
confirms (c ∷ cs) p = confirms_more c cs p (confirmation cs p) (confirms cs p) (pointwise same_entry c.prefix p) refl

-- what confirms a path is one of the completions, and has this path
pub confirmed_tells : (cs : List Completion) (p : List Entry) (c : Completion) → confirmation cs p ≡ Some c → IsIn cs c × (c.prefix ≡ p)
confirmed_tells cs p c e = subst (Confirms cs p) e (confirms cs p)

or_else_some : (o : Option Completion) (c : Completion) → (d : Completion) × (or_else o (Some c) ≡ Some d)
or_else_some None c = (c, refl)
or_else_some (Some d) c = (d, refl)

-- the path of a completion is confirmed
pub confirmed_found : (cs : List Completion) (p : List Entry) (c : Completion) → IsIn cs c → c.prefix ≡ p → (d : Completion) × (confirmation cs p ≡ Some d)
unfolding confirmation
confirmed_found [] p c h e = absurd h
confirmed_found (b ∷ cs) p c (inl same) e =
    let test : pointwise same_entry b.prefix p ≡ true = (same_path-Decides b.prefix p).1 (ap (λ (d : Completion). d.prefix) same ∙ e) in
    let some : (d : Completion) × (or_else (confirmation cs p) (Some b) ≡ Some d) = or_else_some (confirmation cs p) b in
    (some.0, ap (λ (t : Bool). or_else (confirmation cs p) (if t then Some b else None)) test ∙ some.1)
confirmed_found (b ∷ cs) p c (inr h) e =
    let older : (d : Completion) × (confirmation cs p ≡ Some d) = confirmed_found cs p c h e in
    (older.0, ap (λ (o : Option Completion). or_else o (if pointwise same_entry b.prefix p then Some b else None)) older.1)

-- a completion is of its path's newest entry's client and number
pub completion_owner : (g : Group) (h : List TraceStep) → AreSteps g h → (c : Completion) → IsIn (completions g h) c → (e : Entry) (below : List Entry) → c.prefix ≡ e ∷ below
    → c.client ≡ e.client
completion_owner g h steps c w e below is =
    let n : Numbered c = numbered g h steps c w in
    n.owner ∙ ap (λ (a : Entry). a.client) (newest_entry n.entry e n.below below (sym n.is ∙ is))

-- two completions whose newest entries are of one call are one
pub same_completion : (g : Group) (h : List TraceStep) → AreSteps g h → (c d : Completion) → IsIn (completions g h) c → IsIn (completions g h) d
    → (e f : Entry) (p q : List Entry) → c.prefix ≡ e ∷ p → d.prefix ≡ f ∷ q → IsSameCall e f → c ≡ d
same_completion g h steps c d hc hd e f p q ec ed same =
    one_completion g h steps c d hc hd
    (completion_owner g h steps c hc e p ec ∙ same.0 ∙ sym (completion_owner g h steps d hd f q ed))
    (ap number_of ec ∙ same.1 ∙ sym (ap number_of ed))

-- a call has at most one completion
pub completed_once : CompletedOnce
completed_once g h lawful c d hc hd e f p q ec ed same = same_completion g h lawful.steps c d hc hd e f p q ec ed same

-- the path of a completion is confirmed by it
pub confirmed_by : (g : Group) (h : List TraceStep) → AreSteps g h → (p : List Entry) (c : Completion) → IsIn (completions g h) c → c.prefix ≡ p → confirmation (completions g h) p ≡ Some c
confirmed_by g h steps p c w e =
    let found : (d : Completion) × (confirmation (completions g h) p ≡ Some d) = confirmed_found (completions g h) p c w e in
    let tells : IsIn (completions g h) found.0 × (found.0.prefix ≡ p) = confirmed_tells (completions g h) p found.0 found.1 in
    let n : Numbered c = numbered g h steps c w in
    let same : found.0 ≡ c =
    same_completion g h steps found.0 c tells.0 w n.entry n.entry n.below n.below (tells.1 ∙ sym e ∙ n.is) n.is (refl, refl) in
    found.1 ∙ ap Some same

-- what confirms a path is the one completion with this path
pub confirmed_is : ConfirmedIs
confirmed_is g h lawful p c = (
  confirmed_tells (completions g h) p c,
  λ w. confirmed_by g h lawful.steps p c w.0 w.1,
)

-- and it is that of the newest entry's client
pub confirmed_by_owner : ConfirmedByOwner
confirmed_by_owner g h lawful e below c is =
    let tells : IsIn (completions g h) c × (c.prefix ≡ e ∷ below) = confirmed_tells (completions g h) (e ∷ below) c is in
    completion_owner g h lawful.steps c tells.0 e below tells.1

-- ---- where a call is shown

-- a call that is shown stands at a position of the path that a completion confirms
pub record ShownAt (cs : List Completion) (p : List Entry) (x : Shown) (older : List Shown) : Type 0 where
  pub above : List Entry
  pub entry : Entry
  pub below : List Entry
  pub by : Completion
  pub is : p ≡ above ++ entry ∷ below
  pub confirms : confirmation cs (entry ∷ below) ≡ Some by
  pub shown : x ≡ record { entry = entry; outcome = by.outcome }
  pub rest : older ≡ confirmed_calls cs below

nil_splits : (newer older : List Shown) (x : Shown) → ◌≡◌ {A = List Shown} [] (newer ++ x ∷ older) → ⊥
nil_splits [] older x e = cc
nil_splits (y ∷ newer) older x e = cc

pub head_of : (x y : Shown) (v w : List Shown) → x ∷ v ≡ y ∷ w → x ≡ y
head_of x y v w e = cc

pub tail_of : (x y : Shown) (v w : List Shown) → x ∷ v ≡ y ∷ w → v ≡ w
tail_of x y v w e = cc

shown_above : (cs : List Completion) (e : Entry) (p : List Entry) (x : Shown) (older : List Shown) → ShownAt cs p x older → ShownAt cs (e ∷ p) x older
shown_above cs e p x older s = record {
  above = e ∷ s.above;
  entry = s.entry;
  below = s.below;
  by = s.by;
  is = ap (λ (q : List Entry). e ∷ q) s.is;
  confirms = s.confirms;
  shown = s.shown;
  rest = s.rest;
}

shown_more : (cs : List Completion) (e : Entry) (p : List Entry) (newer : List Shown) (x : Shown) (older : List Shown)
    → (o : Option Completion) → confirmation cs (e ∷ p) ≡ o → shown_as e o ++ confirmed_calls cs p ≡ newer ++ x ∷ older
    → ((newer : List Shown) → confirmed_calls cs p ≡ newer ++ x ∷ older → ShownAt cs p x older) → ShownAt cs (e ∷ p) x older
shown_more cs e p newer x older None c is before = shown_above cs e p x older (before newer is)
shown_more cs e p [] x older (Some b) c is before = record {
  above = [];
  entry = e;
  below = p;
  by = b;
  is = refl;
  confirms = c;
  shown = sym (head_of (record { entry = e; outcome = b.outcome }) x (confirmed_calls cs p) older is);
  rest = sym (tail_of (record { entry = e; outcome = b.outcome }) x (confirmed_calls cs p) older is);
}
shown_more cs e p (y ∷ newer) x older (Some b) c is before =
    shown_above cs e p x older (before newer (tail_of (record { entry = e; outcome = b.outcome }) y (confirmed_calls cs p) (newer ++ x ∷ older) is))

-- each call that a path shows stands at a position of it
pub shown_at : (cs : List Completion) (p : List Entry) (newer : List Shown) (x : Shown) (older : List Shown) → confirmed_calls cs p ≡ newer ++ x ∷ older → ShownAt cs p x older
unfolding confirmed_calls
shown_at cs [] newer x older e = absurd (nil_splits newer older x e)
shown_at cs (f ∷ p) newer x older e = shown_more cs f p newer x older (confirmation cs (f ∷ p)) refl e (λ n w. shown_at cs p n x older w)

-- a list with an item splits there
pub splits_at : {X : Type 0} (xs : List X) (x : X) → IsIn xs x → (newer : List X) × (older : List X) × (xs ≡ newer ++ x ∷ older)
splits_at [] x h = absurd h
splits_at {X} (y ∷ xs) x (inl e) = ([], xs, ap (λ (z : X). z ∷ xs) e)
splits_at {X} (y ∷ xs) x (inr h) =
    let s = splits_at xs x h in
    (y ∷ s.0, s.1, ap (λ (zs : List X). y ∷ zs) s.2)

-- the same of a call that is among those that a path shows
pub shown_in : (cs : List Completion) (p : List Entry) (x : Shown) → IsIn (confirmed_calls cs p) x → (older : List Shown) × ShownAt cs p x older
shown_in cs p x h =
    let s = splits_at (confirmed_calls cs p) x h in
    (s.1, shown_at cs p s.0 x s.1 s.2)

-- a confirmed position shows its call
pub confirmed_more : (cs : List Completion) (e : Entry) (p : List Entry) (c : Completion) → confirmation cs (e ∷ p) ≡ Some c
    → confirmed_calls cs (e ∷ p) ≡ record { entry = e; outcome = c.outcome } ∷ confirmed_calls cs p
unfolding confirmed_calls
confirmed_more cs e p c is = ap (λ (o : Option Completion). shown_as e o ++ confirmed_calls cs p) is

-- a call that is shown, with the older ones, is what its position shows
pub shown_list : (cs : List Completion) (p : List Entry) (x : Shown) (older : List Shown) (s : ShownAt cs p x older) → ◌≡◌ {A = List Shown} (x ∷ older) (confirmed_calls cs (s.entry ∷ s.below))
shown_list cs p x older s =
    ap (λ (y : Shown). y ∷ older) s.shown
    ∙ ap (λ (v : List Shown). record { entry = s.entry; outcome = s.by.outcome } ∷ v) s.rest
    ∙ sym (confirmed_more cs s.entry s.below s.by s.confirms)

-- it is shown by that position's entry
pub shown_entry : (cs : List Completion) (p : List Entry) (x : Shown) (older : List Shown) (s : ShownAt cs p x older) → x.entry ≡ s.entry
shown_entry cs p x older s = ap (λ (y : Shown). y.entry) s.shown

-- ---- views agree

-- two calls that are shown and are one call were completed on one path
pub same_place : (g : Group) (h : List TraceStep) → AreSteps g h → (p q : List Entry) (x y : Shown) (v w : List Shown)
    → (s : ShownAt (completions g h) p x v) (t : ShownAt (completions g h) q y w) → IsSameCall x.entry y.entry
    → ◌≡◌ {A = List Entry} (s.entry ∷ s.below) (t.entry ∷ t.below)
same_place g h steps p q x y v w s t same =
    let cs : List Completion = completions g h in
    let a : IsIn cs s.by × (s.by.prefix ≡ s.entry ∷ s.below) = confirmed_tells cs (s.entry ∷ s.below) s.by s.confirms in
    let b : IsIn cs t.by × (t.by.prefix ≡ t.entry ∷ t.below) = confirmed_tells cs (t.entry ∷ t.below) t.by t.confirms in
    let ex : x.entry ≡ s.entry = shown_entry cs p x v s in
    let ey : y.entry ≡ t.entry = shown_entry cs q y w t in
    let call : IsSameCall s.entry t.entry = (
      sym (ap (λ (e : Entry). e.client) ex) ∙ same.0 ∙ ap (λ (e : Entry). e.client) ey,
      sym (ap (λ (e : Entry). e.seq) ex) ∙ same.1 ∙ ap (λ (e : Entry). e.seq) ey,
    ) in
    sym a.1 ∙ ap (λ (c : Completion). c.prefix) (same_completion g h steps s.by t.by a.0 b.0 s.entry t.entry s.below t.below a.1 b.1 call) ∙ b.1

paths_agree : (g : Group) (h : List TraceStep) → AreSteps g h → (p q : List Entry) → Agree (confirmed_calls (completions g h) p) (confirmed_calls (completions g h) q)
paths_agree g h steps p q x y newer1 older1 newer2 older2 ex ey same =
    let cs : List Completion = completions g h in
    let s : ShownAt cs p x older1 = shown_at cs p newer1 x older1 ex in
    let t : ShownAt cs q y older2 = shown_at cs q newer2 y older2 ey in
    shown_list cs p x older1 s
    ∙ ap (confirmed_calls cs) (same_place g h steps p q x y older1 older2 s t same)
    ∙ sym (shown_list cs q y older2 t)

-- every two views agree up to each call that stands in both
pub views_agree : ViewsAgree
unfolding view_of
views_agree g h lawful i j = paths_agree g h lawful.steps (last_prefix i (completions g h)) (last_prefix j (completions g h))

-- ---- views show only calls

pub only_calls_at : (g : Group) (h : List TraceStep) → AreSteps g h → (p : List Entry) → ShowsOnlyCalls g h (confirmed_calls (completions g h) p)
only_calls_at g h steps p x w =
    let cs : List Completion = completions g h in
    let found : (older : List Shown) × ShownAt cs p x older = shown_in cs p x w in
    let s : ShownAt cs p x found.0 = found.1 in
    let a : IsIn cs s.by × (s.by.prefix ≡ s.entry ∷ s.below) = confirmed_tells cs (s.entry ∷ s.below) s.by s.confirms in
    subst (λ (y : Shown). IsAnswered g h y.entry y.outcome) (sym s.shown) (completion_answers g h steps s.by a.0 s.entry s.below a.1)

-- each view shows only what was called and answered so
pub views_show_only_calls : ViewsShowOnlyCalls
unfolding view_of
views_show_only_calls g h lawful me = only_calls_at g h lawful.steps (last_prefix me (completions g h))
