-- Calls and completions along a history: each completion is that of a call, and a call has at most one.
use Rattle.std.proofs.Common.{◌≡◌, ℕ, ◌+◌, ◌<◌, ◌≤◌, ◌⊎◌, inl, inr, Bool, List, [], ◌∷◌, ◌++◌, Option, Some, None, refl, sym, ◌∙◌, ap, subst, arith}
use Rattle.std.proofs.lemmas.Bool.{cases_eq}
use Rattle.vic_dict.specs.declared.op.Op.{Op}
use Rattle.vic_dict.specs.declared.op.Entry.{Entry}
use Rattle.vic_dict.specs.declared.op.Outcome.{Outcome}
use Rattle.vic_dict.specs.Dictionary.{Dictionary}
use Rattle.vic_dict.specs.Lists.{IsIn}
use Rattle.vic_wire.specs.Hashes.{Group}
use Rattle.vic_rules.specs.declared.state.Awaiting.TheVariants as awaits
use Rattle.vic_rules.specs.declared.trace.Input.{Input}
use Rattle.vic_rules.specs.declared.trace.TraceStep.{TraceStep}
use Rattle.vic_rules.specs.Client.{Standing, Move, Invokes, decision, decided_outcome}
use Rattle.vic_rules.specs.History.{standing, path, move_of, IsStep, AreSteps, Completion, completion, completions}
use Rattle.vic_rules.specs.Views.{MakesCall, NoStepOf, IsAnswered}
use Rattle.vic_laws.proofs.Words.{in_left, in_right, in_either}
use Rattle.vic_laws.proofs.Steps.{PhaseFits, Called, Replied, Kind, is_quiet, is_called, is_replied, is_updated, is_listed, call_of}
use Rattle.vic_laws.proofs.StepKinds.{step_kind, decided_opens, rests_turn, rests_nothing, no_commit, no_seal, nothing_sent}
use Rattle.vic_laws.proofs.Standings.{standing_moved, standing_kept}

-- ---- what kind a step is

-- each step of a lawful history is of one kind
pub kind_of : (g : Group) (past : List TraceStep) (x : TraceStep) → IsStep g past x → Kind g x.client (standing g x.client past) x.input (move_of g past x)
kind_of g past x is = step_kind g x.client (standing g x.client past) x.input is.may

-- ---- what a call on objects keeps can be called

opens_kind : (g : Group) (me : ℕ) (s : Standing) (i : Input) (v : Move) → Kind g me s i v → PhaseFits s.calls s.phase → PhaseFits v.next.calls v.next.phase
opens_kind g me s i v (is_quiet q) h = subst (λ (n : ℕ). PhaseFits n v.next.phase) (sym q.calls) (q.opens h)
opens_kind g me s i v (is_called a) h = subst (λ (m : Move). PhaseFits m.next.calls m.next.phase) (sym a.moved) (a.opens (s.calls + 1))
opens_kind g me s i v (is_replied r) h = subst (λ (m : Move). PhaseFits m.next.calls m.next.phase) (sym r.moved) (decided_opens s s.phase (decision me s (r.others ++ s.path) r.seal.position r.part r.op) h)
opens_kind g me s i v (is_updated u) h = subst (λ (m : Move). PhaseFits m.next.calls m.next.phase) (sym u.moved) h
opens_kind g me s i v (is_listed l) h = subst (λ (m : Move). PhaseFits m.next.calls m.next.phase) (sym l.moved) h

pub phases_fit : (g : Group) (h : List TraceStep) → AreSteps g h → (me : ℕ) → PhaseFits (standing g me h).calls (standing g me h).phase
unfolding standing
phases_fit g [] steps me = tt
phases_fit g (x ∷ past) steps me =
    let Goal : (x.client ≡ me) ⊎ (x.client ≡ me → ⊥) → Type 0 = λ c. PhaseFits (standing g me (x ∷ past)).calls (standing g me (x ∷ past)).phase in
    elim (cases_eq x.client me) as Goal [
      | inl same ↦ subst (λ (m : ℕ). PhaseFits (standing g m (x ∷ past)).calls (standing g m (x ∷ past)).phase) same
          (subst (λ (s : Standing). PhaseFits s.calls s.phase) (sym (standing_moved g x.client x past refl))
          (opens_kind g x.client (standing g x.client past) x.input (move_of g past x) (kind_of g past x steps.1) (phases_fit g past steps.0 x.client)))
      | inr differ ↦ subst (λ (s : Standing). PhaseFits s.calls s.phase) (sym (standing_kept g me x past differ)) (phases_fit g past steps.0 me)
    ]

-- ---- what a step calls

same_invoke : (n m : ℕ) (o q : Op) → Some (Invokes n o) ≡ Some (Invokes m q) → (n ≡ m) × (o ≡ q)
same_invoke n m o q e = (cc, cc)

-- a step that sends a call is one that calls
pub called_if : (g : Group) (me : ℕ) (s : Standing) (i : Input) (v : Move) → Kind g me s i v → (n : ℕ) (o : Op) → v.sends ≡ Some (Invokes n o)
    → (a : Called g me s i v) × ((s.calls + 1 ≡ n) × (a.op ≡ o))
called_if g me s i v (is_quiet q) n o e = absurd (q.calls_nothing n o e)
called_if g me s i v (is_called a) n o e = (a, same_invoke (s.calls + 1) n a.op o (sym (ap (λ (m : Move). m.sends) a.moved) ∙ e))
called_if g me s i v (is_replied r) n o e = absurd (no_commit _ n o (sym (ap (λ (m : Move). m.sends) r.moved) ∙ e))
called_if g me s i v (is_updated u) n o e = absurd (no_seal n o (sym (ap (λ (m : Move). m.sends) u.moved) ∙ e))
called_if g me s i v (is_listed l) n o e = absurd (nothing_sent n o (sym (ap (λ (m : Move). m.sends) l.moved) ∙ e))

-- ---- paths grow

-- the path is the older one with new entries on it
abbrev pub Grows : List Entry → List Entry → Type 0
Grows older now = (new : List Entry) × (now ≡ new ++ older)

-- each kind of step leaves the path, with new entries on it or without
pub grows_by : (g : Group) (me : ℕ) (s : Standing) (i : Input) (v : Move) → Kind g me s i v → Grows s.path v.next.path
grows_by g me s i v (is_quiet q) = ([], q.path)
grows_by g me s i v (is_called c) = ([], ap (λ (m : Move). m.next.path) c.moved)
grows_by g me s i v (is_replied r) = (call_of me r.seq r.op ∷ r.others, ap (λ (m : Move). m.next.path) r.moved)
grows_by g me s i v (is_updated u) = ([], ap (λ (m : Move). m.next.path) u.moved)
grows_by g me s i v (is_listed l) = (l.others, ap (λ (m : Move). m.next.path) l.moved)

-- a client's path after one more step is the older one with new entries on it
pub path_grows : (g : Group) (me : ℕ) (x : TraceStep) (past : List TraceStep) → IsStep g past x → Grows (path g me past) (path g me (x ∷ past))
path_grows g me x past is =
    let Goal : (x.client ≡ me) ⊎ (x.client ≡ me → ⊥) → Type 0 = λ c. Grows (path g me past) (path g me (x ∷ past)) in
    elim (cases_eq x.client me) as Goal [
      | inl e ↦ subst (λ (m : ℕ). Grows (path g m past) (path g m (x ∷ past))) e
          (let grown = grows_by g x.client (standing g x.client past) x.input (move_of g past x) (kind_of g past x is) in
          (grown.0, ap (λ (s : Standing). s.path) (standing_moved g x.client x past refl) ∙ grown.1))
      | inr differ ↦ ([], ap (λ (s : Standing). s.path) (standing_kept g me x past differ))
    ]

-- ---- completions

-- the completion that a Reply makes
abbrev pub completed_by : {g : Group} {me : ℕ} {s : Standing} {i : Input} {v : Move} → Replied g me s i v → Completion
completed_by {g} {me} {s} {i} {v} r = record {
  client = me;
  prefix = call_of me r.seq r.op ∷ (r.others ++ s.path);
  outcome = decision me s (r.others ++ s.path) r.seal.position r.part r.op;
}

completion_decided : (me : ℕ) (p : List Entry) (u : Option ℕ) (d : Dictionary) (o : Op)
    → completion me p (Some (decided_outcome u d o)) ≡ record { client = me; prefix = p; outcome = decided_outcome u d o } ∷ []
completion_decided me p None d o = refl
completion_decided me p (Some u) d o = refl

-- a Reply makes one completion
pub completes_one : {g : Group} {me : ℕ} {s : Standing} {i : Input} {v : Move} (r : Replied g me s i v) → completion me v.next.path v.returns ≡ completed_by r ∷ []
unfolding decision
completes_one {g} {me} {s} {i} {v} r =
    ap (λ (m : Move). completion me m.next.path m.returns) r.moved
    ∙ completion_decided me (call_of me r.seq r.op ∷ (r.others ++ s.path)) _ _ r.op

-- what a step completes, if it does: the call that the Reply was for
completed_at : (g : Group) (me : ℕ) (s : Standing) (i : Input) (v : Move) → Kind g me s i v → (c : Completion) → IsIn (completion me v.next.path v.returns) c
    → (r : Replied g me s i v) × (completed_by r ≡ c)
completed_at g me s i v (is_quiet q) c h = absurd (subst (λ (cs : List Completion). IsIn cs c) (q.completes_nothing me v.next.path) h)
completed_at g me s i v (is_called a) c h = absurd (subst (λ (m : Move). IsIn (completion me m.next.path m.returns) c) a.moved h)
completed_at g me s i v (is_replied r) c h =
    let one : IsIn (completed_by r ∷ []) c = subst (λ (cs : List Completion). IsIn cs c) (completes_one r) h in
    let Goal : IsIn (completed_by r ∷ []) c → Type 0 = λ w. (r : Replied g me s i v) × (completed_by r ≡ c) in
    elim one as Goal [ inl e ↦ (r, e) | inr w ↦ absurd w ]
completed_at g me s i v (is_updated u) c h = absurd (subst (λ (m : Move). IsIn (completion me m.next.path m.returns) c) u.moved h)
completed_at g me s i v (is_listed l) c h = absurd (subst (λ (m : Move). IsIn (completion me m.next.path m.returns) c) l.moved h)

-- the Reply taken at a step
abbrev pub RepliedAt : Group → List TraceStep → TraceStep → Type 0
RepliedAt g past x = Replied g x.client (standing g x.client past) x.input (move_of g past x)

-- the completions after one more step, by its move
pub completions_after : (g : Group) (past : List TraceStep) (x : TraceStep) → IsStep g past x
    → completions g (x ∷ past) ≡ completion x.client (move_of g past x).next.path (move_of g past x).returns ++ completions g past
unfolding completions
completions_after g past x is =
    ap (λ (s : Standing). completion x.client s.path x.returned ++ completions g past) (standing_moved g x.client x past refl)
    ∙ ap (λ (o : Option Outcome). completion x.client (move_of g past x).next.path o ++ completions g past) is.returned

-- a completion after one more step is an older one, or that of the Reply taken at the step
pub completion_after : (g : Group) (past : List TraceStep) (x : TraceStep) → IsStep g past x → (c : Completion) → IsIn (completions g (x ∷ past)) c
    → IsIn (completions g past) c ⊎ ((r : RepliedAt g past x) × (completed_by r ≡ c))
completion_after g past x is c h =
    let new : List Completion = completion x.client (move_of g past x).next.path (move_of g past x).returns in
    let apart : IsIn new c ⊎ IsIn (completions g past) c =
    in_either new (completions g past) c (subst (λ (cs : List Completion). IsIn cs c) (completions_after g past x is) h) in
    let Goal : IsIn new c ⊎ IsIn (completions g past) c → Type 0 = λ w. IsIn (completions g past) c ⊎ ((r : RepliedAt g past x) × (completed_by r ≡ c)) in
    elim apart as Goal [
      | inl a ↦ inr (completed_at g x.client (standing g x.client past) x.input (move_of g past x) (kind_of g past x is) c a)
      | inr b ↦ inl b
    ]

-- an older completion stays
pub completion_stays : (g : Group) (past : List TraceStep) (x : TraceStep) (c : Completion) → IsIn (completions g past) c → IsIn (completions g (x ∷ past)) c
unfolding completions
completion_stays g past x c h = in_right (completion x.client (path g x.client (x ∷ past)) x.returned) (completions g past) c h

-- the Reply's completion joins
pub completion_joins : (g : Group) (past : List TraceStep) (x : TraceStep) → IsStep g past x → (r : RepliedAt g past x) → IsIn (completions g (x ∷ past)) (completed_by r)
completion_joins g past x is r =
    let new : List Completion = completion x.client (move_of g past x).next.path (move_of g past x).returns in
    let there : IsIn new (completed_by r) = subst (λ (cs : List Completion). IsIn cs (completed_by r)) (sym (completes_one r)) (inl refl) in
    subst (λ (cs : List Completion). IsIn cs (completed_by r)) (sym (completions_after g past x is)) (in_left new (completions g past) (completed_by r) there)

-- each completion is of its path's newest entry, and by that entry's client
pub record Numbered (c : Completion) : Type 0 where
  pub entry : Entry
  pub below : List Entry
  pub is : c.prefix ≡ entry ∷ below
  pub owner : c.client ≡ entry.client

numbered_reply : {g : Group} {me : ℕ} {s : Standing} {i : Input} {v : Move} (r : Replied g me s i v) → Numbered (completed_by r)
numbered_reply {g} {me} {s} {i} {v} r = record { entry = call_of me r.seq r.op; below = r.others ++ s.path; is = refl; owner = refl }

-- each completion of a lawful history is so
pub numbered : (g : Group) (h : List TraceStep) → AreSteps g h → (c : Completion) → IsIn (completions g h) c → Numbered c
unfolding completions
numbered g [] steps c h = absurd h
numbered g (x ∷ past) steps c h =
    let Goal : IsIn (completions g past) c ⊎ ((r : RepliedAt g past x) × (completed_by r ≡ c)) → Type 0 = λ w. Numbered c in
    elim (completion_after g past x steps.1 c h) as Goal [
      | inl old ↦ numbered g past steps.0 c old
      | inr new ↦ subst Numbered new.1 (numbered_reply new.0)
    ]

-- the number of the newest entry's call
abbrev pub number_of : List Entry → ℕ
number_of [] = 0
number_of (e ∷ p) = e.seq

-- a client's completions are of calls that it made, and a call whose Reply it awaits is newer than each of them
pub record Counts (me : ℕ) (s : Standing) (cs : List Completion) : Type 0 where
  pub most : (c : Completion) → IsIn cs c → c.client ≡ me → number_of c.prefix ≤ s.calls
  pub awaited : (n : ℕ) (o : Op) (load : Bool) → s.halted ≡ None → s.awaiting ≡ awaits.Reply n o load → n ≡ s.calls
  pub newer : (n : ℕ) (o : Op) (load : Bool) → s.halted ≡ None → s.awaiting ≡ awaits.Reply n o load → (c : Completion) → IsIn cs c → c.client ≡ me → number_of c.prefix < n

-- the number and the operation of an awaited Reply
pub same_number : (n k : ℕ) (o p : Op) (load loads : Bool) → awaits.Reply n o load ≡ awaits.Reply k p loads → n ≡ k
same_number n k o p load loads e = cc

pub same_asked : (n k : ℕ) (o p : Op) (load loads : Bool) → awaits.Reply n o load ≡ awaits.Reply k p loads → o ≡ p
same_asked n k o p load loads e = cc

-- after its own step the client's counts hold on
counts_own : (g : Group) (me : ℕ) (s : Standing) (i : Input) (v : Move) → Kind g me s i v → (cs : List Completion) → Counts me s cs
    → Counts me v.next (completion me v.next.path v.returns ++ cs)
counts_own g me s i v (is_quiet q) cs h =
    subst (λ (new : List Completion). Counts me v.next (new ++ cs)) (sym (q.completes_nothing me v.next.path)) (record {
      most = λ c a e. subst (λ (k : ℕ). number_of c.prefix ≤ k) (sym q.calls) (h.most c a e);
      awaited = λ n o load alive e. absurd (q.rests n o load alive e);
      newer = λ n o load alive e. absurd (q.rests n o load alive e);
    })
counts_own g me s i v (is_called a) cs h =
    subst (λ (m : Move). Counts me m.next (completion me m.next.path m.returns ++ cs)) (sym a.moved) (record {
      most = λ c w e. let k : number_of c.prefix ≤ s.calls = h.most c w e in omega arith;
      awaited = λ n o load alive e. sym (same_number (s.calls + 1) n a.op o a.load load e);
      newer = λ n o load alive e c w f.
          let k : number_of c.prefix ≤ s.calls = h.most c w f in
          let is : s.calls + 1 ≡ n = same_number (s.calls + 1) n a.op o a.load load e in
          omega arith;
    })
counts_own g me s i v (is_replied r) cs h =
    let seq : r.seq ≡ s.calls = h.awaited r.seq r.op r.load r.alive r.awaited in
    let calls : v.next.calls ≡ s.calls = ap (λ (m : Move). m.next.calls) r.moved in
    let awaiting : v.next.awaiting ≡ awaits.Turn = ap (λ (m : Move). m.next.awaiting) r.moved in
    subst (λ (new : List Completion). Counts me v.next (new ++ cs)) (sym (completes_one r)) (record {
      most = λ c w e.
          let Goal : IsIn (completed_by r ∷ cs) c → Type 0 = λ w. number_of c.prefix ≤ v.next.calls in
          elim w as Goal [
            | inl is ↦ subst (λ (d : Completion). number_of d.prefix ≤ v.next.calls) is (omega arith)
            | inr old ↦ subst (λ (k : ℕ). number_of c.prefix ≤ k) (sym calls) (h.most c old e)
          ];
      awaited = λ n o load alive e. absurd (rests_turn n o load (sym awaiting ∙ e));
      newer = λ n o load alive e. absurd (rests_turn n o load (sym awaiting ∙ e));
    })
counts_own g me s i v (is_updated u) cs h =
    subst (λ (m : Move). Counts me m.next (completion me m.next.path m.returns ++ cs)) (sym u.moved) (record {
      most = h.most;
      awaited = λ n o load alive e. absurd (rests_turn n o load e);
      newer = λ n o load alive e. absurd (rests_turn n o load e);
    })
counts_own g me s i v (is_listed l) cs h =
    subst (λ (m : Move). Counts me m.next (completion me m.next.path m.returns ++ cs)) (sym l.moved) (record {
      most = h.most;
      awaited = λ n o load alive e. absurd (rests_nothing n o load e);
      newer = λ n o load alive e. absurd (rests_nothing n o load e);
    })

-- a completion of another client is older than the step
older_completion : (g : Group) (past : List TraceStep) (x : TraceStep) → IsStep g past x → (c : Completion) → (x.client ≡ c.client → ⊥)
    → IsIn (completions g (x ∷ past)) c → IsIn (completions g past) c
older_completion g past x is c differ h =
    let Goal : IsIn (completions g past) c ⊎ ((r : RepliedAt g past x) × (completed_by r ≡ c)) → Type 0 = λ w. IsIn (completions g past) c in
    elim (completion_after g past x is c h) as Goal [
      | inl old ↦ old
      | inr new ↦ absurd (differ (ap (λ (d : Completion). d.client) new.1))
    ]

counts_other : (g : Group) (past : List TraceStep) (x : TraceStep) → IsStep g past x → (me : ℕ) → (x.client ≡ me → ⊥)
    → Counts me (standing g me past) (completions g past) → Counts me (standing g me past) (completions g (x ∷ past))
counts_other g past x is me differ h = record {
  most = λ c w e. h.most c (older_completion g past x is c (λ f. differ (f ∙ e)) w) e;
  awaited = h.awaited;
  newer = λ n o load alive a c w e. h.newer n o load alive a c (older_completion g past x is c (λ f. differ (f ∙ e)) w) e;
}

counts_at_own : (g : Group) (past : List TraceStep) (x : TraceStep) → IsStep g past x
    → Counts x.client (standing g x.client past) (completions g past) → Counts x.client (standing g x.client (x ∷ past)) (completions g (x ∷ past))
counts_at_own g past x is h =
    let new : Counts x.client (move_of g past x).next (completion x.client (move_of g past x).next.path (move_of g past x).returns ++ completions g past) =
    counts_own g x.client (standing g x.client past) x.input (move_of g past x) (kind_of g past x is) (completions g past) h in
    subst (λ (s : Standing). Counts x.client s (completions g (x ∷ past))) (sym (standing_moved g x.client x past refl))
    (subst (λ (cs : List Completion). Counts x.client (move_of g past x).next cs) (sym (completions_after g past x is)) new)

-- the counts of each client hold along a history
pub counts : (g : Group) (h : List TraceStep) → AreSteps g h → (me : ℕ) → Counts me (standing g me h) (completions g h)
unfolding standing completions
counts g [] steps me = record {
  most = λ c w e. absurd w;
  awaited = λ n o load alive e. absurd (rests_nothing n o load e);
  newer = λ n o load alive e. absurd (rests_nothing n o load e);
}
counts g (x ∷ past) steps me =
    let Goal : (x.client ≡ me) ⊎ (x.client ≡ me → ⊥) → Type 0 = λ c. Counts me (standing g me (x ∷ past)) (completions g (x ∷ past)) in
    elim (cases_eq x.client me) as Goal [
      | inl e ↦ subst (λ (m : ℕ). Counts m (standing g m (x ∷ past)) (completions g (x ∷ past))) e
          (counts_at_own g past x steps.1 (counts g past steps.0 x.client))
      | inr differ ↦ subst (λ (s : Standing). Counts me s (completions g (x ∷ past))) (sym (standing_kept g me x past differ))
          (counts_other g past x steps.1 me differ (counts g past steps.0 me))
    ]

-- the Reply's completion is newer than each of its client
newer_reply : (g : Group) (past : List TraceStep) (x : TraceStep) → AreSteps g past → (r : RepliedAt g past x) → (c : Completion) → IsIn (completions g past) c
    → c.client ≡ x.client → number_of c.prefix < r.seq
newer_reply g past x steps r c h e = (counts g past steps x.client).newer r.seq r.op r.load r.alive r.awaited c h e

same_head : (c d : Completion) → ◌≡◌ {A = List Completion} (c ∷ []) (d ∷ []) → c ≡ d
same_head c d e = cc

-- a step makes at most one completion
completed_once : (g : Group) (past : List TraceStep) (x : TraceStep) (r q : RepliedAt g past x) → completed_by r ≡ completed_by q
completed_once g past x r q = same_head (completed_by r) (completed_by q) (sym (completes_one r) ∙ completes_one q)

both_completions : (g : Group) (past : List TraceStep) (x : TraceStep) → AreSteps g past → (c d : Completion)
    → IsIn (completions g past) c ⊎ ((r : RepliedAt g past x) × (completed_by r ≡ c))
    → IsIn (completions g past) d ⊎ ((r : RepliedAt g past x) × (completed_by r ≡ d))
    → c.client ≡ d.client → number_of c.prefix ≡ number_of d.prefix
    → (IsIn (completions g past) c → IsIn (completions g past) d → c ≡ d) → c ≡ d
both_completions g past x steps c d (inl a) (inl b) client number older = older a b
both_completions g past x steps c d (inl a) (inr b) client number older =
    let owner : x.client ≡ d.client = ap (λ (w : Completion). w.client) b.1 in
    let seq : b.0.seq ≡ number_of d.prefix = ap (λ (w : Completion). number_of w.prefix) b.1 in
    let lt : number_of c.prefix < b.0.seq = newer_reply g past x steps b.0 c a (client ∙ sym owner) in
    absurd (omega arith)
both_completions g past x steps c d (inr a) (inl b) client number older =
    let owner : x.client ≡ c.client = ap (λ (w : Completion). w.client) a.1 in
    let seq : a.0.seq ≡ number_of c.prefix = ap (λ (w : Completion). number_of w.prefix) a.1 in
    let lt : number_of d.prefix < a.0.seq = newer_reply g past x steps a.0 d b (sym client ∙ sym owner) in
    absurd (omega arith)
both_completions g past x steps c d (inr a) (inr b) client number older = sym a.1 ∙ completed_once g past x a.0 b.0 ∙ b.1

-- a call has at most one completion
pub one_completion : (g : Group) (h : List TraceStep) → AreSteps g h → (c d : Completion) → IsIn (completions g h) c → IsIn (completions g h) d
    → c.client ≡ d.client → number_of c.prefix ≡ number_of d.prefix → c ≡ d
unfolding completions
one_completion g [] steps c d hc hd client number = absurd hc
one_completion g (x ∷ past) steps c d hc hd client number =
    both_completions g past x steps.0 c d (completion_after g past x steps.1 c hc) (completion_after g past x steps.1 d hd) client number
    (λ a b. one_completion g past steps.0 c d a b client number)

-- ---- calls that were asked for

-- the call that a client awaits the Reply to was made at a step of its own, and it made no step since
pub record Asked (g : Group) (h : List TraceStep) (me n : ℕ) (o : Op) : Type 0 where
  pub between : List TraceStep
  pub call : TraceStep
  pub past : List TraceStep
  pub is : h ≡ between ++ call ∷ past
  pub makes : MakesCall g past call (call_of me n o)
  pub asked : (move_of g past call).sends ≡ Some (Invokes n o)
  pub quiet : NoStepOf me between

asked_other : (g : Group) (x : TraceStep) (past : List TraceStep) (me n : ℕ) (o : Op) → (x.client ≡ me → ⊥) → Asked g past me n o → Asked g (x ∷ past) me n o
asked_other g x past me n o differ a = record {
  between = x ∷ a.between;
  call = a.call;
  past = a.past;
  is = ap (λ (h : List TraceStep). x ∷ h) a.is;
  makes = a.makes;
  asked = a.asked;
  quiet = (differ, a.quiet);
}

asked_now : (g : Group) (x : TraceStep) (past : List TraceStep) → Called g x.client (standing g x.client past) x.input (move_of g past x)
    → (n : ℕ) (o : Op) (load : Bool) → (move_of g past x).next.awaiting ≡ awaits.Reply n o load → Asked g (x ∷ past) x.client n o
asked_now g x past a n o load e =
    let s : Standing = standing g x.client past in
    let awaiting : awaits.Reply (s.calls + 1) a.op a.load ≡ awaits.Reply n o load = sym (ap (λ (m : Move). m.next.awaiting) a.moved) ∙ e in
    let number : s.calls + 1 ≡ n = same_number (s.calls + 1) n a.op o a.load load awaiting in
    let op : a.op ≡ o = same_asked (s.calls + 1) n a.op o a.load load awaiting in
    let sends : (move_of g past x).sends ≡ Some (Invokes n o) = ap (λ (m : Move). m.sends) a.moved ∙ (ap (λ (k : ℕ). Some (Invokes k a.op)) number ∙ ap (λ (q : Op). Some (Invokes n q)) op) in
    record {
      between = [];
      call = x;
      past = past;
      is = refl;
      makes = record { client = refl; op = o; sends = sends };
      asked = sends;
      quiet = tt;
    }

asked_own : (g : Group) (x : TraceStep) (past : List TraceStep) → Kind g x.client (standing g x.client past) x.input (move_of g past x)
    → (n : ℕ) (o : Op) (load : Bool) → (move_of g past x).next.halted ≡ None → (move_of g past x).next.awaiting ≡ awaits.Reply n o load → Asked g (x ∷ past) x.client n o
asked_own g x past (is_quiet q) n o load alive e = absurd (q.rests n o load alive e)
asked_own g x past (is_called a) n o load alive e = asked_now g x past a n o load e
asked_own g x past (is_replied r) n o load alive e = absurd (rests_turn n o load (sym (ap (λ (m : Move). m.next.awaiting) r.moved) ∙ e))
asked_own g x past (is_updated u) n o load alive e = absurd (rests_turn n o load (sym (ap (λ (m : Move). m.next.awaiting) u.moved) ∙ e))
asked_own g x past (is_listed l) n o load alive e = absurd (rests_nothing n o load (sym (ap (λ (m : Move). m.next.awaiting) l.moved) ∙ e))

-- whenever a client awaits a Reply, the call was asked for so
pub asked_since : (g : Group) (h : List TraceStep) → AreSteps g h → (me n : ℕ) (o : Op) (load : Bool)
    → (standing g me h).halted ≡ None → (standing g me h).awaiting ≡ awaits.Reply n o load → Asked g h me n o
unfolding standing
asked_since g [] steps me n o load alive e = absurd (rests_nothing n o load e)
asked_since g (x ∷ past) steps me n o load alive e =
    let Goal : (x.client ≡ me) ⊎ (x.client ≡ me → ⊥) → Type 0 = λ c. Asked g (x ∷ past) me n o in
    elim (cases_eq x.client me) as Goal [
      | inl same ↦ subst (λ (m : ℕ). Asked g (x ∷ past) m n o) same
          (let leads : standing g me (x ∷ past) ≡ (move_of g past x).next = subst (λ (m : ℕ). standing g m (x ∷ past) ≡ (move_of g past x).next) same (standing_moved g x.client x past refl) in
          asked_own g x past (kind_of g past x steps.1) n o load
          (sym (ap (λ (s : Standing). s.halted) leads) ∙ alive) (sym (ap (λ (s : Standing). s.awaiting) leads) ∙ e))
      | inr differ ↦
          (let keeps : standing g me (x ∷ past) ≡ standing g me past = standing_kept g me x past differ in
          asked_other g x past me n o differ
          (asked_since g past steps.0 me n o load (sym (ap (λ (s : Standing). s.halted) keeps) ∙ alive) (sym (ap (λ (s : Standing). s.awaiting) keeps) ∙ e)))
    ]

-- ---- each completion answers a call that was asked for

later_answer : (g : Group) (x : TraceStep) (past : List TraceStep) (e : Entry) (o : Outcome) → IsAnswered g past e o → IsAnswered g (x ∷ past) e o
later_answer g x past e o a = record {
  later = x ∷ a.later;
  answer = a.answer;
  between = a.between;
  call = a.call;
  past = a.past;
  is = ap (λ (h : List TraceStep). x ∷ h) a.is;
  makes = a.makes;
  asked = a.asked;
  quiet = a.quiet;
  owner = a.owner;
  returned = a.returned;
}

answered_now : (g : Group) (x : TraceStep) (past : List TraceStep) → AreSteps g past → IsStep g past x → (r : RepliedAt g past x)
    → IsAnswered g (x ∷ past) (call_of x.client r.seq r.op) (completed_by r).outcome
answered_now g x past steps is r =
    let a : Asked g past x.client r.seq r.op = asked_since g past steps x.client r.seq r.op r.load r.alive r.awaited in
    record {
      later = [];
      answer = x;
      between = a.between;
      call = a.call;
      past = a.past;
      is = ap (λ (h : List TraceStep). x ∷ h) a.is;
      makes = a.makes;
      asked = a.asked;
      quiet = a.quiet;
      owner = refl;
      returned = is.returned ∙ ap (λ (m : Move). m.returns) r.moved;
    }

-- equal paths have one newest entry
pub newest_entry : (a b : Entry) (p q : List Entry) → a ∷ p ≡ b ∷ q → a ≡ b
newest_entry a b p q e = cc

-- each completion is the answer to a call that its client was asked for
pub completion_answers : (g : Group) (h : List TraceStep) → AreSteps g h → (c : Completion) → IsIn (completions g h) c
    → (e : Entry) (below : List Entry) → c.prefix ≡ e ∷ below → IsAnswered g h e c.outcome
unfolding completions
completion_answers g [] steps c w e below is = absurd w
completion_answers g (x ∷ past) steps c w e below is =
    let Goal : IsIn (completions g past) c ⊎ ((r : RepliedAt g past x) × (completed_by r ≡ c)) → Type 0 = λ k. IsAnswered g (x ∷ past) e c.outcome in
    elim (completion_after g past x steps.1 c w) as Goal [
      | inl old ↦ later_answer g x past e c.outcome (completion_answers g past steps.0 c old e below is)
      | inr new ↦
          (let r : RepliedAt g past x = new.0 in
          let same : call_of x.client r.seq r.op ≡ e = newest_entry (call_of x.client r.seq r.op) e (r.others ++ (standing g x.client past).path) below
          (ap (λ (d : Completion). d.prefix) new.1 ∙ is) in
          subst (λ (a : Entry). IsAnswered g (x ∷ past) a c.outcome) same
          (subst (λ (d : Completion). IsAnswered g (x ∷ past) (call_of x.client r.seq r.op) d.outcome) new.1 (answered_now g x past steps.0 steps.1 r)))
    ]
