-- The replay gives each client's path: a step tells the answer that was taken, and so the entries that join the path.
use Rattle.std.proofs.Common.{◌≡◌, ℕ, inl, inr, Bool, true, false, not, List, [], ◌∷◌, ◌++◌, map, reverse, Option, Some, None, is_none, if◌then◌else◌, refl, sym, ◌∙◌, ap, append_assoc}
use Rattle.std.proofs.lemmas.Bool.{cases_eq, eq-eqb, ne_eqb}
use Rattle.std.proofs.lemmas.List.{reverse-append, map-append}
use Rattle.vic_dict.specs.declared.op.Op.{Op}
use Rattle.vic_dict.specs.declared.op.Entry.{Entry}
use Rattle.vic_dict.specs.declared.op.Outcome.{Outcome}
use Rattle.vic_dict.specs.Dictionary.{Dictionary}
use Rattle.vic_wire.specs.declared.message.Seal.{Seal}
use Rattle.vic_wire.specs.declared.message.Tagged.{Tagged}
use Rattle.vic_wire.specs.declared.message.ToClient.{ToClient}
use Rattle.vic_wire.specs.declared.message.ToClient.TheVariants as say
use Rattle.vic_wire.specs.Hashes.{Group}
use Rattle.vic_wire.specs.Parts.{Part, read_part}
use Rattle.vic_wire.specs.Reading.{read_answer}
use Rattle.vic_rules.specs.declared.object.Phase.{Phase}
use Rattle.vic_rules.specs.declared.object.Phase.TheVariants as phase
use Rattle.vic_rules.specs.Objects.{step_on_kept}
use Rattle.vic_rules.specs.declared.state.Awaiting.{Awaiting}
use Rattle.vic_rules.specs.declared.state.Awaiting.TheVariants as awaits
use Rattle.vic_rules.specs.declared.state.Own.{Own}
use Rattle.vic_rules.specs.declared.trace.Input.{Input}
use Rattle.vic_rules.specs.declared.trace.Input.TheVariants as input
use Rattle.vic_rules.specs.declared.trace.TraceStep.{TraceStep}
use Rattle.vic_rules.specs.Client.{Standing, Move, onto, path_with_entries, entries_of, decided_outcome, decision, move_on_reply, move_on_update, move_on_wait, move_by_object_step, move_on_refusal, move_on_answer, move_on_verdict, move_on_payload, verdict, step}
use Rattle.vic_rules.specs.History.{standing, path, move_of, IsStep, AreSteps}
use Rattle.vic_rules.specs.Trust.{answer_unless_halted}
use Rattle.vic_laws.proofs.Steps.{Kind, is_quiet, is_called, is_replied, is_updated, is_listed}
use Rattle.vic_laws.proofs.StepKinds.{step_kind, onto_is}
use Rattle.vic_laws.proofs.Standings.{standing_moved, standing_kept}
use Rattle.vic_view.specs.declared.replay.Place.{Place}
use Rattle.vic_view.specs.declared.replay.ClientPath.{ClientPath}
use Rattle.vic_view.specs.Replay.{is_halt, read_by, entries_in, entries_at, completed_with, places_with, path_after, replayed_path}

-- ---- what was taken

-- a move returns a halt exactly where the client has then halted
abbrev Tells : Move → Type 0
Tells v = is_none v.next.halted ≡ not (is_halt v.returns)

decided_tells : (u : Option ℕ) (d : Dictionary) (o : Op) → is_halt (Some (decided_outcome u d o)) ≡ false
decided_tells None d o = refl
decided_tells (Some u) d o = refl

replied_tells : (me : ℕ) (s : Standing) (seal : Seal) (p : List Entry) (part : Option Part) (a : Awaiting) → s.halted ≡ None → Tells (move_on_reply me s seal p part a)
unfolding decision
replied_tells me s seal (e ∷ below) (Some part) (awaits.Reply n o load) alive =
    ap is_none alive ∙ ap not (sym (decided_tells _ _ o))
replied_tells me s seal p part a alive = refl

updated_tells : (s : Standing) (seal : Seal) (part : Option Part) (own : List Own) → s.halted ≡ None → Tells (move_on_update s seal part own)
updated_tells s seal (Some part) (o ∷ others) alive = ap is_none alive
updated_tells s seal part own alive = refl

waited_tells : (s : Standing) (p : Phase) → s.halted ≡ None → Tells (move_on_wait s p)
waited_tells s phase.Closed alive = ap is_none alive
waited_tells s (phase.Keeping k h len) alive = ap is_none alive
waited_tells s phase.Calling alive = ap is_none alive
waited_tells s (phase.Fetching h len) alive = ap is_none alive

refused_tells : (s : Standing) (r : ℕ) (a : Awaiting) → s.halted ≡ None → Tells (move_on_refusal s r a)
refused_tells s r awaits.Nothing alive = ap is_none alive
refused_tells s r (awaits.Reply n o load) alive = ap is_none alive
refused_tells s r awaits.Turn alive = ap is_none alive
refused_tells s r awaits.Entries alive = ap is_none alive
refused_tells s r awaits.Kept alive = ap is_none alive
refused_tells s r (awaits.Content h len) alive = ap is_none alive

-- a store whose content is kept calls its put
kept_tells : (s : Standing) (p : Phase) → s.halted ≡ None → Tells (move_by_object_step s false (step_on_kept p))
kept_tells s phase.Closed alive = refl
kept_tells s (phase.Keeping k h len) alive = ap is_none alive
kept_tells s phase.Calling alive = refl
kept_tells s (phase.Fetching h len) alive = refl

taken_tells : (me : ℕ) (s : Standing) (m : ToClient) → s.halted ≡ None → Tells (move_on_answer me s m)
taken_tells me s (say.Reply seal entries part) alive = replied_tells me s seal (path_with_entries s entries) (read_part part) s.awaiting alive
taken_tells me s say.Wait alive = waited_tells s s.phase alive
taken_tells me s (say.Update seal part) alive = updated_tells s seal (read_part part) s.own alive
taken_tells me s (say.Entries seal entries) alive = ap is_none alive
taken_tells me s (say.Refused r) alive = refused_tells s r s.awaiting alive
taken_tells me s say.Kept alive = kept_tells s s.phase alive
taken_tells me s (say.Content c) alive = ap is_none alive
taken_tells me s say.Hi alive = refl
taken_tells me s say.Gone alive = refl
taken_tells me s say.Absent alive = refl

read_tells : (me : ℕ) (s : Standing) (m : Option ToClient) (k : Option ℕ) → s.halted ≡ None → Tells (move_on_verdict me s m k)
read_tells me s m (Some k) alive = refl
read_tells me s (Some m) None alive = taken_tells me s m alive
read_tells me s None None alive = refl

payload_tells : (g : Group) (me : ℕ) (s : Standing) (halted : Option ℕ) (payload : List ℕ) → s.halted ≡ halted → Tells (move_on_payload g me s halted payload)
payload_tells g me s (Some k) payload e = refl
payload_tells g me s None payload e = read_tells me s (read_answer payload) (verdict g me s payload) e

if_not : {X : Type 0} (b : Bool) (x y : X) → (if not b then x else y) ≡ (if b then y else x)
if_not true x y = refl
if_not false x y = refl

-- the answer that was taken is told by the input and what was returned
pub taken_told : (g : Group) (me : ℕ) (s : Standing) (i : Input) → answer_unless_halted (step g me s i).next i ≡ read_by i (step g me s i).returns
unfolding step
taken_told g me s (input.Call o) = refl
taken_told g me s (input.Object c) = refl
taken_told g me s input.Poll = refl
taken_told g me s input.Sync = refl
taken_told g me s (input.Payload payload) =
    let v : Move = move_on_payload g me s s.halted payload in
    ap (λ (b : Bool). if b then read_answer payload else None) (payload_tells g me s s.halted payload refl) ∙ if_not (is_halt v.returns) (read_answer payload) None

-- ---- the path

no_entries : (o : Option ToClient) → ((m : ToClient) → o ≡ Some m → entries_of m ≡ []) → [] ≡ entries_in o
no_entries None h = refl
no_entries (Some m) h = sym (h m refl)

onto_taken : (g : Group) (me : ℕ) (s : Standing) (i : Input) (v : Move) → Kind g me s i v → v.next.path ≡ onto (entries_in (answer_unless_halted v.next i)) s.path
onto_taken g me s i v (is_quiet q) =
    q.path ∙ ap (λ (ts : List Tagged). onto ts s.path) (no_entries (answer_unless_halted v.next i) (λ m e. (q.seals_nothing m e).1))
onto_taken g me s i v (is_called c) =
    ap (λ (m : Move). m.next.path) c.moved
    ∙ ap (λ (ts : List Tagged). onto ts s.path) (no_entries (answer_unless_halted v.next i) (λ m e. ap entries_of (c.takes m e)))
onto_taken g me s i v (is_replied r) =
    ap (λ (m : Move). m.next.path) r.moved
    ∙ ap (λ (es : List Entry). es ++ s.path) (sym r.news)
    ∙ sym (onto_is r.entries s.path)
    ∙ ap (λ (o : Option ToClient). onto (entries_in o) s.path) (sym r.takes)
onto_taken g me s i v (is_updated u) = ap (λ (m : Move). m.next.path) u.moved ∙ ap (λ (o : Option ToClient). onto (entries_in o) s.path) (sym u.takes)
onto_taken g me s i v (is_listed l) =
    ap (λ (m : Move). m.next.path) l.moved
    ∙ ap (λ (es : List Entry). es ++ s.path) (sym l.news)
    ∙ sym (onto_is l.entries s.path)
    ∙ ap (λ (o : Option ToClient). onto (entries_in o) s.path) (sym l.takes)

-- the entries that a step tells join the path of its client
pub path_joined : (g : Group) (past : List TraceStep) (x : TraceStep) → IsStep g past x → path g x.client (x ∷ past) ≡ onto (entries_at x) (path g x.client past)
path_joined g past x is =
    let s : Standing = standing g x.client past in
    ap (λ (t : Standing). t.path) (standing_moved g x.client x past refl)
    ∙ onto_taken g x.client s x.input (move_of g past x) (step_kind g x.client s x.input is.may)
    ∙ ap (λ (o : Option ToClient). onto (entries_in o) s.path) (taken_told g x.client s x.input)
    ∙ ap (λ (o : Option Outcome). onto (entries_in (read_by x.input o)) s.path) (sym is.returned)

-- the entries of places
abbrev pub entries : List Place → List Entry
entries ps = map (λ (p : Place). p.entry) ps

pub entries_with : (o : Option Outcome) (ts : List Tagged) → entries (places_with o ts) ≡ map (λ (t : Tagged). t.entry) ts
entries_with o [] = refl
entries_with o (t ∷ ts) = ap (λ (es : List Entry). t.entry ∷ es) (entries_with o ts)

pub onto_reverse : (ts : List Tagged) (p : List Entry) → onto ts p ≡ reverse (map (λ (t : Tagged). t.entry) ts) ++ p
onto_reverse [] p = refl
onto_reverse (t ∷ ts) p =
    let es : List Entry = map (λ (t : Tagged). t.entry) ts in
    onto_reverse ts (t.entry ∷ p)
    ∙ sym (append_assoc (reverse es) (t.entry ∷ []) p)
    ∙ ap (λ (xs : List Entry). xs ++ p) (sym (reverse-append (t.entry ∷ []) es))

-- the newest first, entries join a path in front of it
pub reverse_joined : (ps : List Place) (o : Option Outcome) (ts : List Tagged) → reverse (entries (ps ++ places_with o ts)) ≡ onto ts (reverse (entries ps))
reverse_joined ps o ts =
    ap reverse (map-append (λ (p : Place). p.entry) ps (places_with o ts) ∙ ap (λ (es : List Entry). entries ps ++ es) (entries_with o ts))
    ∙ reverse-append (entries ps) (map (λ (t : Tagged). t.entry) ts)
    ∙ sym (onto_reverse ts (reverse (entries ps)))

pub replayed_own : (me : ℕ) (x : TraceStep) (past : List TraceStep) → x.client ≡ me → replayed_path me (x ∷ past) ≡ path_after x (replayed_path me past)
unfolding replayed_path
replayed_own me x past e = ap (λ (b : Bool). if b then path_after x (replayed_path me past) else replayed_path me past) (eq-eqb x.client me e)

pub replayed_other : (me : ℕ) (x : TraceStep) (past : List TraceStep) → (x.client ≡ me → ⊥) → replayed_path me (x ∷ past) ≡ replayed_path me past
unfolding replayed_path
replayed_other me x past e = ap (λ (b : Bool). if b then path_after x (replayed_path me past) else replayed_path me past) (ne_eqb x.client me e)

-- what is said by cases of whose step it is
pub own_or_other : (me : ℕ) (x : TraceStep) (P : Type 0) → (x.client ≡ me → P) → ((x.client ≡ me → ⊥) → P) → P
own_or_other me x P own other = elim (cases_eq x.client me) [ inl e ↦ own e | inr e ↦ other e ]

-- the replay gives the client's path
pub replays_path : (g : Group) (h : List TraceStep) → AreSteps g h → (me : ℕ) → reverse (entries (replayed_path me h).places) ≡ path g me h
unfolding replayed_path standing path_after
replays_path g [] steps me = refl
replays_path g (x ∷ past) steps me =
    own_or_other me x (reverse (entries (replayed_path me (x ∷ past)).places) ≡ path g me (x ∷ past))
    (λ e.
    ap (λ (p : ClientPath). reverse (entries p.places)) (replayed_own me x past e)
    ∙ reverse_joined (replayed_path me past).places (completed_with x.returned) (entries_at x)
    ∙ ap (onto (entries_at x)) (replays_path g past steps.0 me)
    ∙ ap (λ (i : ℕ). onto (entries_at x) (path g i past)) (sym e)
    ∙ sym (path_joined g past x steps.1)
    ∙ ap (λ (i : ℕ). path g i (x ∷ past)) e)
    (λ e.
    ap (λ (p : ClientPath). reverse (entries p.places)) (replayed_other me x past e)
    ∙ replays_path g past steps.0 me
    ∙ sym (ap (λ (s : Standing). s.path) (standing_kept g me x past e)))
