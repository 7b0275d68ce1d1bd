-- Each view has all that its client completed, and each such call once.
use Rattle.std.proofs.Common.{◌≡◌, ℕ, suc, ◌+◌, ◌⊎◌, inl, inr, Bool, true, false, cond, List, [], ◌∷◌, ◌++◌, length, Option, Some, None, nat_eq, refl, sym, ◌∙◌, ap, subst, arith, append_assoc, eq-eqb, ne_eqb, eqb-true, count_by, if◌then◌else◌, length-append}
use Rattle.std.proofs.lemmas.Bool.{cases_eq, cases_Bool, and_parts, and_from}
use Rattle.std.proofs.lemmas.List.Sums.{sum_by-append, sum_by-cons}
use Rattle.vic_dict.specs.declared.op.Op.{Op}
use Rattle.vic_dict.specs.declared.op.Outcome.{Outcome}
use Rattle.vic_dict.specs.declared.op.Outcome.TheVariants as outcome
use Rattle.vic_dict.specs.declared.op.Entry.{Entry}
use Rattle.vic_dict.specs.Dictionary.{Dictionary}
use Rattle.vic_dict.specs.Lists.{IsIn}
use Rattle.vic_wire.specs.Parts.{Part}
use Rattle.vic_wire.specs.Hashes.{Group}
use Rattle.vic_rules.specs.declared.state.Awaiting.TheVariants as awaits
use Rattle.vic_rules.specs.declared.trace.Input.{Input}
use Rattle.vic_rules.specs.declared.trace.Input.TheVariants as input
use Rattle.vic_rules.specs.declared.trace.TraceStep.{TraceStep}
use Rattle.vic_rules.specs.declared.trace.Shown.{Shown}
use Rattle.vic_rules.specs.Client.{Standing, Move, step, decision, decided_outcome}
use Rattle.vic_rules.specs.History.{standing, path, move_of, IsStep, AreSteps, Completion, completion, completions}
use Rattle.vic_rules.specs.Views.{confirmation, confirmed_calls, last_prefix, view_of, IsSameCall, NoStepOf, IsAnswered, IsCompleted, is_call, HasAll, shown_as}
use Rattle.vic_laws.specs.OrderClaims.{CompletedAs, CompletionsAre, ViewsComplete}
use Rattle.vic_laws.proofs.Words.{in_right}
use Rattle.vic_laws.proofs.Steps.{Replied, Kind, is_quiet, is_called, is_replied, is_updated, is_listed, call_of}
use Rattle.vic_laws.proofs.Standings.{standing_moved, standing_kept, earlier_steps}
use Rattle.vic_laws.proofs.Calls.{kind_of, called_if, Grows, path_grows, completed_by, completes_one, RepliedAt, completions_after, completion_after, completion_stays, completion_joins, completion_answers, same_number, same_asked}
use Rattle.vic_laws.proofs.Agreement.{confirmed_by, completion_owner, ShownAt, shown_at, shown_in, splits_at, confirmed_more, same_place}

-- ---- an answered call is completed

-- a client stands still while others step
pub standing_quiet : (g : Group) (me : ℕ) (between past : List TraceStep) → NoStepOf me between → standing g me (between ++ past) ≡ standing g me past
standing_quiet g me [] past q = refl
standing_quiet g me (x ∷ between) past q = standing_kept g me x (between ++ past) q.0 ∙ standing_quiet g me between past q.1

-- completions of an earlier history stay
pub completions_stay : (g : Group) (later past : List TraceStep) (c : Completion) → IsIn (completions g past) c → IsIn (completions g (later ++ past)) c
completions_stay g [] past c h = h
completions_stay g (x ∷ later) past c h = completion_stays g (later ++ past) x c (completions_stay g later past c h)

-- what was completed stays so
pub completed_later : (g : Group) (later past : List TraceStep) (e : Entry) (o : Outcome) → CompletedAs g past e o → CompletedAs g (later ++ past) e o
completed_later g later past e o c = record {
  by = c.by;
  below = c.below;
  there = completions_stay g later past c.by c.there;
  is = c.is;
  ends = c.ends;
}

-- the client that was called awaits the Reply
awaits_call : (g : Group) (me : ℕ) (s : Standing) (o : Op) → (step g me s (input.Call o)).next.awaiting ≡ awaits.Reply (s.calls + 1) o false
unfolding step
awaits_call g me s o = refl

completion_some : (me : ℕ) (p : List Entry) (o : Outcome) → IsCompleted o → completion me p (Some o) ≡ [] → ⊥
completion_some me p (outcome.Done a) h e = cc
completion_some me p (outcome.Aborted u) h e = cc
completion_some me p (outcome.Refused r) h e = h
completion_some me p (outcome.Halted k) h e = h

no_outcome : (o : Outcome) → ◌≡◌ {A = Option Outcome} None (Some o) → ⊥
no_outcome o e = cc

one_outcome : (o p : Outcome) → ◌≡◌ {A = Option Outcome} (Some o) (Some p) → o ≡ p
one_outcome o p e = cc

-- a step that returned a completed outcome took a Reply
pub replied_if : (g : Group) (me : ℕ) (s : Standing) (i : Input) (v : Move) → Kind g me s i v → (o : Outcome) → IsCompleted o → v.returns ≡ Some o → Replied g me s i v
replied_if g me s i v (is_quiet q) o done e =
    absurd (completion_some me v.next.path o done (ap (completion me v.next.path) (sym e) ∙ q.completes_nothing me v.next.path))
replied_if g me s i v (is_called a) o done e = absurd (no_outcome o (sym (ap (λ (m : Move). m.returns) a.moved) ∙ e))
replied_if g me s i v (is_replied r) o done e = r
replied_if g me s i v (is_updated u) o done e = absurd (no_outcome o (sym (ap (λ (m : Move). m.returns) u.moved) ∙ e))
replied_if g me s i v (is_listed l) o done e = absurd (no_outcome o (sym (ap (λ (m : Move). m.returns) l.moved) ∙ e))

completed_here : (g : Group) (past : List TraceStep) (x : TraceStep) → IsStep g past x → (e : Entry) (o : Outcome)
    → x.client ≡ e.client → x.returned ≡ Some o → IsCompleted o → (load : Bool) → (standing g e.client past).awaiting ≡ awaits.Reply e.seq e.op load
    → CompletedAs g (x ∷ past) e o
completed_here g past x is e o owner returned done load awaiting =
    let s : Standing = standing g x.client past in
    let r : RepliedAt g past x = replied_if g x.client s x.input (move_of g past x) (kind_of g past x is) o done (sym is.returned ∙ returned) in
    let now : awaits.Reply r.seq r.op r.load ≡ awaits.Reply e.seq e.op load =
    sym r.awaited ∙ ap (λ (m : ℕ). (standing g m past).awaiting) owner ∙ awaiting in
    let seq : r.seq ≡ e.seq = same_number r.seq e.seq r.op e.op r.load load now in
    let op : r.op ≡ e.op = same_asked r.seq e.seq r.op e.op r.load load now in
    let same : call_of x.client r.seq r.op ≡ e = λ i. record { client = owner i; seq = seq i; op = op i } in
    record {
      by = completed_by r;
      below = r.others ++ s.path;
      there = completion_joins g past x is r;
      is = ap (λ (a : Entry). a ∷ (r.others ++ s.path)) same;
      ends = one_outcome (completed_by r).outcome o (sym (ap (λ (m : Move). m.returns) r.moved) ∙ sym is.returned ∙ returned);
    }

-- a call that was answered by a completed outcome has such a completion
pub answered_completion : (g : Group) (h : List TraceStep) → AreSteps g h → (e : Entry) (o : Outcome) → IsCompleted o → IsAnswered g h e o → CompletedAs g h e o
answered_completion g h steps e o done a =
    let rest : List TraceStep = a.between ++ a.call ∷ a.past in
    let now : AreSteps g (a.answer ∷ rest) = earlier_steps g a.later (a.answer ∷ rest) (subst (AreSteps g) a.is steps) in
    let quiet : standing g e.client rest ≡ standing g e.client (a.call ∷ a.past) = standing_quiet g e.client a.between (a.call ∷ a.past) a.quiet in
    let moved : standing g e.client (a.call ∷ a.past) ≡ (move_of g a.past a.call).next = standing_moved g e.client a.call a.past a.makes.client in
    let s : Standing = standing g a.call.client a.past in
    let made : AreSteps g (a.call ∷ a.past) = earlier_steps g a.between (a.call ∷ a.past) now.0 in
    let c = called_if g a.call.client s a.call.input (move_of g a.past a.call) (kind_of g a.past a.call made.1) e.seq e.op a.asked in
    let called : (move_of g a.past a.call).next.awaiting ≡ awaits.Reply (s.calls + 1) c.0.op c.0.load = ap (λ (m : Move). m.next.awaiting) c.0.moved in
    let awaiting : (standing g e.client rest).awaiting ≡ awaits.Reply e.seq e.op c.0.load =
    ap (λ (t : Standing). t.awaiting) (quiet ∙ moved) ∙ called ∙ (ap (λ (n : ℕ). awaits.Reply n c.0.op c.0.load) c.1.0 ∙ ap (λ (o : Op). awaits.Reply e.seq o c.0.load) c.1.1) in
    subst (λ (k : List TraceStep). CompletedAs g k e o) (sym a.is)
    (completed_later g a.later (a.answer ∷ rest) e o
    (completed_here g rest a.answer now.1 e o a.owner a.returned done c.0.load awaiting))

pub decided_completed : (u : Option ℕ) (d : Dictionary) (o : Op) → IsCompleted (decided_outcome u d o)
decided_completed None d o = tt
decided_completed (Some u) d o = tt

pub decision_completed : (me : ℕ) (s : Standing) (below : List Entry) (base : ℕ) (part : Part) (o : Op) → IsCompleted (decision me s below base part o)
unfolding decision
decision_completed me s below base part o = decided_completed _ _ o

-- each completion is done or aborted
pub is_completed : (g : Group) (h : List TraceStep) → AreSteps g h → (c : Completion) → IsIn (completions g h) c → IsCompleted c.outcome
unfolding completions
is_completed g [] steps c w = absurd w
is_completed g (x ∷ past) steps c w =
    let Goal : IsIn (completions g past) c ⊎ ((r : RepliedAt g past x) × (completed_by r ≡ c)) → Type 0 = λ k. IsCompleted c.outcome in
    elim (completion_after g past x steps.1 c w) as Goal [
      | inl old ↦ is_completed g past steps.0 c old
      | inr new ↦
          (let r : RepliedAt g past x = new.0 in
          let s : Standing = standing g x.client past in
          subst (λ (d : Completion). IsCompleted d.outcome) new.1 (decision_completed x.client s (r.others ++ s.path) r.seal.position r.part r.op))
    ]

-- the completions are the calls that were asked for and answered so
pub completions_are : CompletionsAre
completions_are g h lawful e o = (
  λ a. answered_completion g h lawful.steps e o a.0 a.1,
  λ c. (
    subst IsCompleted c.ends (is_completed g h lawful.steps c.by c.there),
    subst (IsAnswered g h e) c.ends (completion_answers g h lawful.steps c.by c.there e c.below c.is),
  ),
)

-- ---- completions of a client have nested paths

grows_grows : (p q r : List Entry) → Grows p q → Grows q r → Grows p r
grows_grows p q r a b = (b.0 ++ a.0, b.1 ∙ ap (λ (t : List Entry). b.0 ++ t) a.1 ∙ sym (append_assoc b.0 a.0 p))

-- a client's path has the path of each of its completions
pub path_has : (g : Group) (h : List TraceStep) → AreSteps g h → (c : Completion) → IsIn (completions g h) c → Grows c.prefix (path g c.client h)
unfolding completions
path_has g [] steps c w = absurd w
path_has g (x ∷ past) steps c w =
    let Goal : IsIn (completions g past) c ⊎ ((r : RepliedAt g past x) × (completed_by r ≡ c)) → Type 0 = λ k. Grows c.prefix (path g c.client (x ∷ past)) in
    elim (completion_after g past x steps.1 c w) as Goal [
      | inl old ↦ grows_grows c.prefix (path g c.client past) (path g c.client (x ∷ past)) (path_has g past steps.0 c old) (path_grows g c.client x past steps.1)
      | inr new ↦ subst (λ (d : Completion). Grows d.prefix (path g d.client (x ∷ past))) new.1
          ([], ap (λ (s : Standing). s.path) (standing_moved g x.client x past refl) ∙ ap (λ (m : Move). m.next.path) new.0.moved)
    ]

-- a step completes nothing, or the call of its Reply
completes_what : (g : Group) (me : ℕ) (s : Standing) (i : Input) (v : Move) → Kind g me s i v
    → (completion me v.next.path v.returns ≡ []) ⊎ ((r : Replied g me s i v) × (completion me v.next.path v.returns ≡ completed_by r ∷ []))
completes_what g me s i v (is_quiet q) = inl (q.completes_nothing me v.next.path)
completes_what g me s i v (is_called a) = inl (ap (λ (m : Move). completion me m.next.path m.returns) a.moved)
completes_what g me s i v (is_replied r) = inr (r, completes_one r)
completes_what g me s i v (is_updated u) = inl (ap (λ (m : Move). completion me m.next.path m.returns) u.moved)
completes_what g me s i v (is_listed l) = inl (ap (λ (m : Move). completion me m.next.path m.returns) l.moved)

last_own : (c : Completion) (cs : List Completion) → last_prefix c.client (c ∷ cs) ≡ c.prefix
unfolding last_prefix
last_own c cs = ap (λ (b : Bool). if b then c.prefix else last_prefix c.client cs) (eq-eqb c.client c.client refl)

last_other : (c : Completion) (cs : List Completion) (me : ℕ) → (c.client ≡ me → ⊥) → last_prefix me (c ∷ cs) ≡ last_prefix me cs
unfolding last_prefix
last_other c cs me differ = ap (λ (b : Bool). if b then c.prefix else last_prefix me cs) (ne_eqb c.client me differ)

last_joins : (g : Group) (past : List TraceStep) (x : TraceStep) → IsStep g past x → (r : RepliedAt g past x) → (c : Completion)
    → Grows c.prefix (path g c.client (x ∷ past)) → Grows c.prefix (last_prefix c.client (completions g past)) ⊎ (x.client ≡ c.client)
    → Grows c.prefix (last_prefix c.client (completed_by r ∷ completions g past))
last_joins g past x is r c now older =
    let Goal : (x.client ≡ c.client) ⊎ (x.client ≡ c.client → ⊥) → Type 0 = λ w. Grows c.prefix (last_prefix c.client (completed_by r ∷ completions g past)) in
    let Past : Grows c.prefix (last_prefix c.client (completions g past)) ⊎ (x.client ≡ c.client) → Type 0 = λ w. (x.client ≡ c.client → ⊥) → Grows c.prefix (last_prefix c.client (completions g past)) in
    elim (cases_eq x.client c.client) as Goal [
      | inl same ↦
          (let ends : path g c.client (x ∷ past) ≡ (completed_by r).prefix =
          ap (λ (s : Standing). s.path) (standing_moved g c.client x past same) ∙ ap (λ (m : Move). m.next.path) r.moved in
          let last : last_prefix c.client (completed_by r ∷ completions g past) ≡ (completed_by r).prefix =
          subst (λ (m : ℕ). last_prefix m (completed_by r ∷ completions g past) ≡ (completed_by r).prefix) same (last_own (completed_by r) (completions g past)) in
          (now.0, last ∙ sym ends ∙ now.1))
      | inr differ ↦
          (let before : Grows c.prefix (last_prefix c.client (completions g past)) =
          (elim older as Past [ inl w ↦ λ d. w | inr e ↦ λ d. absurd (d e) ]) differ in
          (before.0, last_other (completed_by r) (completions g past) c.client differ ∙ before.1))
    ]

-- the path of a client's last completion has the path of each of its completions
pub last_has : (g : Group) (h : List TraceStep) → AreSteps g h → (c : Completion) → IsIn (completions g h) c → Grows c.prefix (last_prefix c.client (completions g h))
unfolding completions
last_has g [] steps c w = absurd w
last_has g (x ∷ past) steps c w =
    let s : Standing = standing g x.client past in
    let v : Move = move_of g past x in
    let after : completions g (x ∷ past) ≡ completion x.client v.next.path v.returns ++ completions g past = completions_after g past x steps.1 in
    let What : Type 0 = (completion x.client v.next.path v.returns ≡ []) ⊎ ((r : RepliedAt g past x) × (completion x.client v.next.path v.returns ≡ completed_by r ∷ [])) in
    let Goal : What → Type 0 = λ k. Grows c.prefix (last_prefix c.client (completions g (x ∷ past))) in
    let From : IsIn (completions g past) c ⊎ ((r : RepliedAt g past x) × (completed_by r ≡ c)) → Type 0 =
    λ k. Grows c.prefix (last_prefix c.client (completions g past)) ⊎ (x.client ≡ c.client) in
    elim (completes_what g x.client s x.input v (kind_of g past x steps.1)) as Goal [
      | inl none ↦
          (let same : completions g (x ∷ past) ≡ completions g past = after ∙ ap (λ (cs : List Completion). cs ++ completions g past) none in
          subst (λ (cs : List Completion). Grows c.prefix (last_prefix c.client cs)) (sym same)
          (last_has g past steps.0 c (subst (λ (cs : List Completion). IsIn cs c) same w)))
      | inr one ↦
          (let more : completions g (x ∷ past) ≡ completed_by one.0 ∷ completions g past = after ∙ ap (λ (cs : List Completion). cs ++ completions g past) one.1 in
          subst (λ (cs : List Completion). Grows c.prefix (last_prefix c.client cs)) (sym more)
          (last_joins g past x steps.1 one.0 c (path_has g (x ∷ past) steps c w)
          (elim (completion_after g past x steps.1 c w) as From [
            | inl old ↦ inl (last_has g past steps.0 c old)
            | inr new ↦ inr (ap (λ (d : Completion). d.client) new.1)
          ])))
    ]

-- ---- a view shows each completed call once

-- what a longer path shows ends with what its front shows
pub confirmed_below : (cs : List Completion) (above q : List Entry) → (newer : List Shown) × (confirmed_calls cs (above ++ q) ≡ newer ++ confirmed_calls cs q)
unfolding confirmed_calls
confirmed_below cs [] q = ([], refl)
confirmed_below cs (e ∷ above) q =
    let older : (newer : List Shown) × (confirmed_calls cs (above ++ q) ≡ newer ++ confirmed_calls cs q) = confirmed_below cs above q in
    let new : List Shown = shown_as e (confirmation cs (e ∷ (above ++ q))) in
    (new ++ older.0, ap (λ (v : List Shown). new ++ v) older.1 ∙ sym (append_assoc new older.0 (confirmed_calls cs q)))

-- of two positions of one path that show one call, none is below the other
pub not_twice : (g : Group) (h : List TraceStep) → AreSteps g h → (p : List Entry) (newer : List Shown) (x : Shown) (older : List Shown)
    → confirmed_calls (completions g h) p ≡ newer ++ x ∷ older → (y : Shown) → IsIn older y → IsSameCall x.entry y.entry → ⊥
not_twice g h steps p newer x older e y w same =
    let cs : List Completion = completions g h in
    let s : ShownAt cs p x older = shown_at cs p newer x older e in
    let found : (rest : List Shown) × ShownAt cs s.below y rest = shown_in cs s.below y (subst (λ (v : List Shown). IsIn v y) s.rest w) in
    let t : ShownAt cs s.below y found.0 = found.1 in
    let place : ◌≡◌ {A = List Entry} (s.entry ∷ s.below) (t.entry ∷ t.below) = same_place g h steps p s.below x y older found.0 s t same in
    let one : suc (length s.below) ≡ suc (length t.below) = ap length place in
    let two : length s.below ≡ length (t.above ++ t.entry ∷ t.below) = ap length t.is in
    omega (arith, length-append t.above (t.entry ∷ t.below))

same_back : (a b : Entry) → IsSameCall a b → IsSameCall b a
same_back a b s = (sym s.0, sym s.1)

is_call_tells : (e : Entry) (x : Shown) → is_call e x ≡ true → IsSameCall x.entry e
is_call_tells e x h =
    let both = and_parts (nat_eq x.entry.client e.client) (nat_eq x.entry.seq e.seq) h in
    (eqb-true x.entry.client e.client both.0, eqb-true x.entry.seq e.seq both.1)

is_call_here : (e : Entry) (o : Outcome) → is_call e (record { entry = e; outcome = o }) ≡ true
is_call_here e o = and_from (nat_eq e.client e.client) (nat_eq e.seq e.seq) (eq-eqb e.client e.client refl) (eq-eqb e.seq e.seq refl)

abbrev one_if : Bool → ℕ
one_if b = cond b 1 0

count_none : (e : Entry) (v : List Shown) → ((x : Shown) → IsIn v x → IsSameCall x.entry e → ⊥) → count_by (is_call e) v ≡ 0
count_none e [] h = refl
count_none e (x ∷ v) h =
    let Goal : (is_call e x ≡ true) ⊎ (is_call e x ≡ false) → Type 0 = λ c. count_by (is_call e) (x ∷ v) ≡ 0 in
    elim (cases_Bool (is_call e x)) as Goal [
      | inl t ↦ absurd (h x (inl refl) (is_call_tells e x t))
      | inr f ↦
          (let rest : count_by (is_call e) v ≡ 0 = count_none e v (λ y w. h y (inr w)) in
          let here : one_if (is_call e x) ≡ 0 = ap one_if f in
          let more : count_by (is_call e) (x ∷ v) ≡ one_if (is_call e x) + count_by (is_call e) v = sum_by-cons (λ (y : Shown). one_if (is_call e y)) x v in
          let zero : one_if (is_call e x) + count_by (is_call e) v ≡ 0 = omega (arith, here, rest) in
          more ∙ zero)
    ]

count_split : (test : Shown → Bool) (newer : List Shown) (x : Shown) (older : List Shown) → test x ≡ true
    → count_by test (newer ++ x ∷ older) ≡ count_by test newer + (1 + count_by test older)
count_split test newer x older t =
    let apart : count_by test (newer ++ x ∷ older) ≡ count_by test newer + count_by test (x ∷ older) =
    sum_by-append (λ (y : Shown). one_if (test y)) newer (x ∷ older) in
    let more : count_by test (x ∷ older) ≡ one_if (test x) + count_by test older = sum_by-cons (λ (y : Shown). one_if (test y)) x older in
    apart ∙ ap (λ (n : ℕ). count_by test newer + n) (more ∙ ap (λ (b : Bool). one_if b + count_by test older) t)

abbrev shown_with : Entry → List Shown → Outcome → List Shown
shown_with e older o = record { entry = e; outcome = o } ∷ older

-- a completed call stands once in what a path shows that has the call's own path
pub shows_once : (g : Group) (h : List TraceStep) → AreSteps g h → (e : Entry) (o : Outcome) → (c : CompletedAs g h e o) → (p : List Entry) → Grows c.by.prefix p
    → IsIn (confirmed_calls (completions g h) p) (record { entry = e; outcome = o }) × (count_by (is_call e) (confirmed_calls (completions g h) p) ≡ 1)
shows_once g h steps e o c p grown =
    let cs : List Completion = completions g h in
    let x : Shown = record { entry = e; outcome = o } in
    let place : p ≡ grown.0 ++ e ∷ c.below = grown.1 ∙ ap (λ (q : List Entry). grown.0 ++ q) c.is in
    let by : confirmation cs (e ∷ c.below) ≡ Some c.by = confirmed_by g h steps (e ∷ c.below) c.by c.there c.is in
    let more : confirmed_calls cs (e ∷ c.below) ≡ x ∷ confirmed_calls cs c.below =
    confirmed_more cs e c.below c.by by ∙ ap (shown_with e (confirmed_calls cs c.below)) c.ends in
    let below : (newer : List Shown) × (confirmed_calls cs (grown.0 ++ e ∷ c.below) ≡ newer ++ confirmed_calls cs (e ∷ c.below)) = confirmed_below cs grown.0 (e ∷ c.below) in
    let newer : List Shown = below.0 in
    let older : List Shown = confirmed_calls cs c.below in
    let is : confirmed_calls cs p ≡ newer ++ x ∷ older =
    ap (confirmed_calls cs) place ∙ below.1 ∙ ap (λ (v : List Shown). newer ++ v) more in
    let none_older : count_by (is_call e) older ≡ 0 = count_none e older (λ y w s. not_twice g h steps p newer x older is y w (same_back y.entry e s)) in
    let none_newer : count_by (is_call e) newer ≡ 0 = count_none e newer (λ y w s.
    let parts = splits_at newer y w in
    let whole : confirmed_calls cs p ≡ parts.0 ++ y ∷ (parts.1 ++ x ∷ older) =
    is ∙ ap (λ (v : List Shown). v ++ x ∷ older) parts.2 ∙ append_assoc parts.0 (y ∷ parts.1) (x ∷ older) in
    not_twice g h steps p parts.0 y (parts.1 ++ x ∷ older) whole x (in_right parts.1 (x ∷ older) x (inl refl)) s) in
    let counted : count_by (is_call e) (newer ++ x ∷ older) ≡ count_by (is_call e) newer + (1 + count_by (is_call e) older) =
    count_split (is_call e) newer x older (is_call_here e o) in
    let one : count_by (is_call e) newer + (1 + count_by (is_call e) older) ≡ 1 = omega (arith, none_newer, none_older) in (
      subst (λ (v : List Shown). IsIn v x) (sym is) (in_right newer (x ∷ older) x (inl refl)),
      ap (count_by (is_call e)) is ∙ counted ∙ one,
    )

complete_at : (g : Group) (h : List TraceStep) → AreSteps g h → (me : ℕ) → HasAll g me h (confirmed_calls (completions g h) (last_prefix me (completions g h)))
complete_at g h steps me e o owner done answered =
    let c : CompletedAs g h e o = answered_completion g h steps e o done answered in
    let client : c.by.client ≡ me = completion_owner g h steps c.by c.there e c.below c.is ∙ owner in
    shows_once g h steps e o c (last_prefix me (completions g h))
    (subst (λ (m : ℕ). Grows c.by.prefix (last_prefix m (completions g h))) client (last_has g h steps c.by c.there))

-- each view has all that its client completed, and each such call once
pub views_complete : ViewsComplete
unfolding view_of
views_complete g h lawful me = complete_at g h lawful.steps me
