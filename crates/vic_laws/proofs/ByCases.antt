-- What words of the claim mean, by cases and places.
use Rattle.std.specs.Prelude.{◌≡◌, ℕ, suc, ◌+◌, ◌<◌, ◌≤◌, ◌⊎◌, Bool, List, [], ◌∷◌, ◌++◌, length, map, Option, Some, None, is_none, nat_eq, if◌then◌else◌}
use Rattle.std.proofs.Common.{refl, ap, subst, sym, ◌∙◌, inl, inr, arith, append_assoc, length-append, ne_eqb, eq-eqb}
use Rattle.std.proofs.lemmas.Bool.{cases_eq}
use Rattle.vic_dict.specs.declared.op.Outcome.{Outcome}
use Rattle.vic_dict.specs.declared.op.Outcome.TheVariants as outcome
use Rattle.vic_dict.specs.declared.op.Entry.{Entry}
use Rattle.vic_dict.specs.Lists.{IsIn, front}
use Rattle.vic_wire.specs.declared.message.Seal.{Seal}
use Rattle.vic_wire.specs.declared.message.Tagged.{Tagged}
use Rattle.vic_wire.specs.declared.message.ToClient.{ToClient}
use Rattle.vic_wire.specs.Texts.{invoke_text, commit_text, seal_text}
use Rattle.vic_wire.specs.Hashes.{Group, chain, tag_of}
use Rattle.vic_wire.specs.Reading.{read_answer}
use Rattle.vic_rules.specs.declared.trace.Input.{Input}
use Rattle.vic_rules.specs.declared.trace.Input.TheVariants as input
use Rattle.vic_rules.specs.declared.trace.TraceStep.{TraceStep}
use Rattle.vic_rules.specs.declared.trace.Shown.{Shown}
use Rattle.vic_rules.specs.Client.{Standing, Move, Sending, Invokes, Commits, Polls, Seals, Syncs, Keeps, Fetches, entries_of, seal_of, seal_text_on, commit_text_on, payload_of, tag_for, digest}
use Rattle.vic_rules.specs.History.{standing, path, move_of, IsStep, AreSteps, Completion, completion, completions}
use Rattle.vic_rules.specs.Views.{confirmed_calls, last_prefix, view_of, MakesCall, NoStepOf, IsAnswered, IsCompleted, ReturnedBefore}
use Rattle.vic_rules.specs.Trust.{answer_taken, answer_unless_halted, seal_texts, checked_texts, texts_taken, texts_made, text_sent}
use Rattle.vic_laws.specs.ByCases.{RealTimeIs, TakesAnswer, TookIs, TakesText, of_entry, of_seal, TextsTakenAre, MakesText, with_call, with_status, with_seal, IsMadeIn, TextsMadeAre, CompletesAt, CompletesNowhere, EndsAt, at_call, at_start, ViewsEnd}
use Rattle.vic_laws.proofs.Words.{some_same, none_is_some, in_left, in_right, in_either}
use Rattle.vic_laws.proofs.Standings.{standing_moved, earlier_steps}
use Rattle.vic_laws.proofs.Calls.{kind_of, called_if}
use Rattle.vic_laws.proofs.Growth.{front_whole}
use Rattle.vic_laws.proofs.RealTime.{calls_grow}

-- ---- ends of lists

cons_parts : {X : Type 0} (x y : X) (v w : List X) → x ∷ v ≡ y ∷ w → (x ≡ y) × (v ≡ w)
cons_parts x y v w e = (cc, cc)

-- the shorter end of a list is an end of the longer
end_within : {X : Type 0} (xs ys zs ws : List X) → xs ++ zs ≡ ys ++ ws → length zs ≤ length ws → (mid : List X) × (ws ≡ mid ++ zs)
end_within xs [] zs ws e le = (xs, sym e)
end_within [] (y ∷ ys) zs ws e le =
    let size : length zs ≡ length (y ∷ (ys ++ ws)) = ap length e in
    absurd (omega (arith, le, size, length-append ys ws))
end_within (x ∷ xs) (y ∷ ys) zs ws e le = end_within xs ys zs ws (cons_parts x y (xs ++ zs) (ys ++ ws) e).1 le

-- ends of one length are the same, and so is what stands before them
ends_same : {X : Type 0} (xs ys zs ws : List X) → xs ++ zs ≡ ys ++ ws → length zs ≡ length ws → (xs ≡ ys) × (zs ≡ ws)
ends_same [] [] zs ws e l = (refl, e)
ends_same [] (y ∷ ys) zs ws e l =
    let size : length zs ≡ length (y ∷ (ys ++ ws)) = ap length e in
    absurd (omega (arith, l, size, length-append ys ws))
ends_same (x ∷ xs) [] zs ws e l =
    let size : length (x ∷ (xs ++ zs)) ≡ length ws = ap length e in
    absurd (omega (arith, l, size, length-append xs zs))
ends_same (x ∷ xs) (y ∷ ys) zs ws e l =
    let parts = cons_parts x y (xs ++ zs) (ys ++ ws) e in
    let rest = ends_same xs ys zs ws parts.1 l in
    (ap (λ a. a ∷ xs) parts.0 ∙ ap (λ v. y ∷ v) rest.0, rest.1)

-- ---- real time

calls_later : (g : Group) (me : ℕ) (later past : List TraceStep) → AreSteps g (later ++ past) → (standing g me past).calls ≤ (standing g me (later ++ past)).calls
calls_later g me [] past steps = omega arith
calls_later g me (x ∷ later) past steps =
    let one = calls_grow g me x (later ++ past) steps.1 in
    let before = calls_later g me later past steps.0 in
    omega (arith, one, before)

-- the number of a call is one more than its client had made before, and so many it has made behind the step
number_at : (g : Group) (past : List TraceStep) (x : TraceStep) (e : Entry) → IsStep g past x → MakesCall g past x e
    → ((standing g e.client past).calls + 1 ≡ e.seq) × ((standing g e.client (x ∷ past)).calls ≡ e.seq)
number_at g past x e is m =
    let called = called_if g x.client (standing g x.client past) x.input (move_of g past x) (kind_of g past x is) e.seq m.op m.sends in (
      subst (λ (c : ℕ). (standing g c past).calls + 1 ≡ e.seq) m.client called.1.0,
      ap (λ (s : Standing). s.calls) (standing_moved g e.client x past m.client) ∙ (ap (λ (w : Move). w.next.calls) called.0.moved ∙ called.1.0),
    )

-- a call isn't made before a step by which it was made
not_before : (g : Group) (h : List TraceStep) → AreSteps g h → (e : Entry) (l1 l2 : List TraceStep) (x y : TraceStep) (p q : List TraceStep)
    → h ≡ l1 ++ x ∷ p → h ≡ l2 ++ y ∷ q → MakesCall g p x e → MakesCall g q y e → length p < length q → ⊥
not_before g h steps e l1 l2 x y p q a b m n less =
    let within = end_within (l1) (l2 ++ y ∷ []) (x ∷ p) q (sym a ∙ (b ∙ sym (append_assoc l2 (y ∷ []) q))) (omega (arith, less)) in
    let there : AreSteps g (y ∷ q) = earlier_steps g l2 (y ∷ q) (subst (AreSteps g) b steps) in
    let here : AreSteps g (x ∷ p) = earlier_steps g l1 (x ∷ p) (subst (AreSteps g) a steps) in
    let number = (number_at g p x e here.1 m).1 in
    let more : (standing g e.client (x ∷ p)).calls ≤ (standing g e.client q).calls =
    subst (λ (k : List TraceStep). (standing g e.client (x ∷ p)).calls ≤ (standing g e.client k).calls) (sym within.1) (calls_later g e.client within.0 (x ∷ p) (subst (AreSteps g) within.1 there.0)) in
    let next = (number_at g q y e there.1 n).0 in
    omega (arith, number, more, next)

-- so it is made at one place
one_place : (g : Group) (h : List TraceStep) → AreSteps g h → (e : Entry) (l1 l2 : List TraceStep) (x y : TraceStep) (p q : List TraceStep)
    → h ≡ l1 ++ x ∷ p → h ≡ l2 ++ y ∷ q → MakesCall g p x e → MakesCall g q y e → length p ≡ length q
one_place g h steps e l1 l2 x y p q a b m n =
    let low = not_before g h steps e l1 l2 x y p q a b m n in
    let high = not_before g h steps e l2 l1 y x q p b a n m in
    omega (arith, low, high)

none_of_it : (me : ℕ) (newer : List TraceStep) (x : TraceStep) (older : List TraceStep) → x.client ≡ me → NoStepOf me (newer ++ x ∷ older) → ⊥
none_of_it me [] x older mine q = q.0 mine
none_of_it me (y ∷ newer) x older mine q = none_of_it me newer x older mine q.1

-- the steps behind which an answer stands
abbrev answered_after : {g : Group} {h : List TraceStep} {e : Entry} {o : Outcome} → IsAnswered g h e o → List TraceStep
answered_after p = p.between ++ p.call ∷ p.past

-- the call of one who was answered, in the whole history
call_at : {g : Group} {h : List TraceStep} {e : Entry} {o : Outcome} (p : IsAnswered g h e o) → h ≡ (p.later ++ p.answer ∷ p.between) ++ p.call ∷ p.past
call_at p = p.is ∙ sym (append_assoc p.later (p.answer ∷ p.between) (p.call ∷ p.past))

-- a call isn't answered later than it was
no_later : (g : Group) (h : List TraceStep) → AreSteps g h → (e : Entry) (o r : Outcome) (p : IsAnswered g h e o) (q : IsAnswered g h e r) → length (answered_after p) < length (answered_after q) → ⊥
no_later g h steps e o r p q less =
    let same = one_place g h steps e (p.later ++ p.answer ∷ p.between) (q.later ++ q.answer ∷ q.between) p.call q.call p.past q.past (call_at p) (call_at q) p.makes q.makes in
    let within = end_within p.later (q.later ++ q.answer ∷ []) (p.answer ∷ answered_after p) (answered_after q)
    (sym p.is ∙ (q.is ∙ sym (append_assoc q.later (q.answer ∷ []) (answered_after q)))) (omega (arith, less)) in
    let split = ends_same q.between (within.0 ++ p.answer ∷ p.between) (q.call ∷ q.past) (p.call ∷ p.past)
    (within.1 ∙ sym (append_assoc within.0 (p.answer ∷ p.between) (p.call ∷ p.past))) (omega (arith, same)) in
    none_of_it e.client within.0 p.answer p.between p.owner (subst (NoStepOf e.client) split.0 q.quiet)

-- an answer in an earlier history is one in the whole
abbrev answered_later : (g : Group) (h later past : List TraceStep) → h ≡ later ++ past → (e : Entry) (o : Outcome) → IsAnswered g past e o → IsAnswered g h e o
answered_later g h later past is e o p = record {
  later = later ++ p.later;
  answer = p.answer;
  between = p.between;
  call = p.call;
  past = p.past;
  is = is ∙ (ap (λ (k : List TraceStep). later ++ k) p.is ∙ sym (append_assoc later p.later (p.answer ∷ answered_after p)));
  makes = p.makes;
  asked = p.asked;
  quiet = p.quiet;
  owner = p.owner;
  returned = p.returned;
}

returned_to : (g : Group) (h : List TraceStep) → AreSteps g h → (a b : Shown) (p : IsAnswered g h a.entry a.outcome) (q : IsAnswered g h b.entry b.outcome)
    → ReturnedBefore g h a b → length (p.answer ∷ answered_after p) ≤ length q.past
returned_to g h steps a b p q r =
    let same = one_place g h steps b.entry r.later (q.later ++ q.answer ∷ q.between) r.x q.call r.past q.past r.is (call_at q) r.makes q.makes in
    let first = answered_later g h (r.later ++ r.x ∷ []) r.past (r.is ∙ sym (append_assoc r.later (r.x ∷ []) r.past)) a.entry a.outcome r.returned in
    let not_after : length (answered_after r.returned) < length (answered_after p) → ⊥ = no_later g h steps a.entry a.outcome a.outcome first p in
    let size : length r.past ≡ length r.returned.later + suc (length (answered_after r.returned)) = ap length r.returned.is ∙ length-append r.returned.later (r.returned.answer ∷ answered_after r.returned) in
    omega (arith, same, not_after, size)

returned_from : (g : Group) (h : List TraceStep) (a b : Shown) (p : IsAnswered g h a.entry a.outcome) (q : IsAnswered g h b.entry b.outcome)
    → length (p.answer ∷ answered_after p) ≤ length q.past → ReturnedBefore g h a b
returned_from g h a b p q le =
    let within = end_within p.later ((q.later ++ q.answer ∷ q.between) ++ q.call ∷ []) (p.answer ∷ answered_after p) q.past
    (sym p.is ∙ (call_at q ∙ sym (append_assoc (q.later ++ q.answer ∷ q.between) (q.call ∷ []) q.past))) le in
    record {
      later = q.later ++ q.answer ∷ q.between;
      x = q.call;
      past = q.past;
      is = call_at q;
      makes = q.makes;
      returned = record {
        later = within.0;
        answer = p.answer;
        between = p.between;
        call = p.call;
        past = p.past;
        is = within.1;
        makes = p.makes;
        asked = p.asked;
        quiet = p.quiet;
        owner = p.owner;
        returned = p.returned;
      };
    }

pub real_time_is : RealTimeIs
real_time_is g h lawful a b p q = (returned_to g h lawful.steps a b p q, returned_from g h a b p q)

-- ---- what was taken

then_is : (g : Group) (past : List TraceStep) (x : TraceStep) → standing g x.client (x ∷ past) ≡ (move_of g past x).next
then_is g past x = standing_moved g x.client x past refl

took_to : (g : Group) (past : List TraceStep) (x : TraceStep) (m : ToClient) → answer_taken g past x ≡ Some m → TakesAnswer g past x m
unfolding answer_taken
took_to g past x m e = now x.input refl e
  where
    going : (payload : List ℕ) (o : Option ℕ) → (move_of g past x).next.halted ≡ o → x.input ≡ input.Payload payload → (if is_none o then read_answer payload else None) ≡ Some m → TakesAnswer g past x m
    going payload None at came f = record { payload = payload; came = came; is = f; goes_on = ap (λ (s : Standing). s.halted) (then_is g past x) ∙ at }
    going payload (Some k) at came f = absurd (none_is_some f)

    now : (i : Input) → x.input ≡ i → answer_unless_halted (move_of g past x).next i ≡ Some m → TakesAnswer g past x m
    now (input.Call o) came f = absurd (none_is_some f)
    now (input.Object c) came f = absurd (none_is_some f)
    now input.Poll came f = absurd (none_is_some f)
    now input.Sync came f = absurd (none_is_some f)
    now (input.Payload payload) came f = going payload (move_of g past x).next.halted refl came f

took_from : (g : Group) (past : List TraceStep) (x : TraceStep) (m : ToClient) → TakesAnswer g past x m → answer_taken g past x ≡ Some m
unfolding answer_taken
took_from g past x m t =
    let on : (move_of g past x).next.halted ≡ None = ap (λ (s : Standing). s.halted) (sym (then_is g past x)) ∙ t.goes_on in
    ap (answer_unless_halted (move_of g past x).next) t.came ∙ (ap (λ o. if is_none o then read_answer t.payload else None) on ∙ t.is)

pub took_is : TookIs
took_is g past x m = (took_to g past x m, took_from g past x m)

in_map : (ts : List Tagged) (t : List ℕ) → IsIn (map (λ (e : Tagged). invoke_text e.entry) ts) t → (e : Tagged) × IsIn ts e × (t ≡ invoke_text e.entry)
in_map [] t i = absurd i
in_map (e ∷ ts) t (inl same) = (e, inl refl, sym same)
in_map (e ∷ ts) t (inr i) = let r = in_map ts t i in (r.0, inr r.1, r.2)

map_in : (ts : List Tagged) (t : List ℕ) (e : Tagged) → IsIn ts e → t ≡ invoke_text e.entry → IsIn (map (λ (e : Tagged). invoke_text e.entry) ts) t
map_in [] t e i same = absurd i
map_in (f ∷ ts) t e (inl is) same = inl (ap (λ (w : Tagged). invoke_text w.entry) is ∙ sym same)
map_in (f ∷ ts) t e (inr i) same = inr (map_in ts t e i same)

path_then : (g : Group) (past : List TraceStep) (x : TraceStep) → (move_of g past x).next.path ≡ path g x.client (x ∷ past)
path_then g past x = ap (λ (s : Standing). s.path) (sym (then_is g past x))

taken_to : (g : Group) (past : List TraceStep) (x : TraceStep) (t : List ℕ) → IsIn (texts_taken g past x) t → TakesText g past x t
unfolding seal_text_on
taken_to g past x t i = now (answer_taken g past x) refl i
  where
    by_seal : (m : ToClient) → TakesAnswer g past x m → (o : Option Seal) → seal_of m ≡ o → IsIn (seal_texts g (move_of g past x).next.path o) t → TakesText g past x t
    by_seal m k None at j = absurd j
    by_seal m k (Some s) at j = by_position (cases_eq s.position 0) j
      where
        only : IsIn (seal_text_on g (move_of g past x).next.path s.position s.root.bytes ∷ []) t → seal_text_on g (move_of g past x).next.path s.position s.root.bytes ≡ t
        only (inl same) = same
        only (inr none) = absurd none

        by_position : (s.position ≡ 0) ⊎ (s.position ≡ 0 → ⊥) → IsIn (if nat_eq s.position 0 then [] else seal_text_on g (move_of g past x).next.path s.position s.root.bytes ∷ []) t → TakesText g past x t
        by_position (inl zero) w = absurd (subst (λ (b : Bool). IsIn (if b then [] else seal_text_on g (move_of g past x).next.path s.position s.root.bytes ∷ []) t) (eq-eqb s.position 0 zero) w)
        by_position (inr above) w =
            of_seal m s k at above
            (sym (only (subst (λ (b : Bool). IsIn (if b then [] else seal_text_on g (move_of g past x).next.path s.position s.root.bytes ∷ []) t) (ne_eqb s.position 0 above) w))
            ∙ ap (λ (p : List Entry). seal_text s.position (chain g (front s.position p)) s.root.bytes) (path_then g past x))

    now : (o : Option ToClient) → answer_taken g past x ≡ o → IsIn (checked_texts g (move_of g past x).next.path o) t → TakesText g past x t
    now None at j = absurd j
    now (Some m) at j =
        let k = took_to g past x m at in
        elim (in_either (seal_texts g (move_of g past x).next.path (seal_of m)) (map (λ (e : Tagged). invoke_text e.entry) (entries_of m)) t j) [
          | inl a ↦ by_seal m k (seal_of m) refl a
          | inr b ↦ (let r = in_map (entries_of m) t b in of_entry m r.0 k r.1 r.2)
        ]

taken_from : (g : Group) (past : List TraceStep) (x : TraceStep) (t : List ℕ) → TakesText g past x t → IsIn (texts_taken g past x) t
unfolding seal_text_on
taken_from g past x t (of_entry m e k i same) =
    subst (λ o. IsIn (checked_texts g (move_of g past x).next.path o) t) (sym (took_from g past x m k))
    (in_right (seal_texts g (move_of g past x).next.path (seal_of m)) (map (λ (e : Tagged). invoke_text e.entry) (entries_of m)) t (map_in (entries_of m) t e i same))
taken_from g past x t (of_seal m s k at above same) =
    subst (λ o. IsIn (checked_texts g (move_of g past x).next.path o) t) (sym (took_from g past x m k))
    (in_left (seal_texts g (move_of g past x).next.path (seal_of m)) (map (λ (e : Tagged). invoke_text e.entry) (entries_of m)) t
    (subst (λ o. IsIn (seal_texts g (move_of g past x).next.path o) t) (sym at)
    (subst (λ (b : Bool). IsIn (if b then [] else seal_text_on g (move_of g past x).next.path s.position s.root.bytes ∷ []) t) (sym (ne_eqb s.position 0 above))
    (inl (sym (same ∙ ap (λ (p : List Entry). seal_text s.position (chain g (front s.position p)) s.root.bytes) (sym (path_then g past x))))))))

pub texts_taken_are : TextsTakenAre
texts_taken_are g past x t = (taken_to g past x t, taken_from g past x t)

-- ---- what was made

pub only_one : (a t : List ℕ) → IsIn (a ∷ []) t → t ≡ a
only_one a t (inl same) = sym same
only_one a t (inr none) = absurd none

makes_at : (g : Group) (past : List TraceStep) (x : TraceStep) → IsStep g past x → (t : List ℕ) → IsIn (text_sent g x.client (move_of g past x).next (move_of g past x).sends) t → MakesText g past x t
unfolding commit_text_on seal_text_on
makes_at g past x is t i = now (move_of g past x).sends refl i
  where
    v : Standing
    v = (move_of g past x).next

    sent_so : (o : Option Sending) → (move_of g past x).sends ≡ o → x.sent ≡ payload_of g x.client v o
    sent_so o e = is.sent ∙ ap (payload_of g x.client v) e

    tag_is : (u : List ℕ) → t ≡ u → (tag_for g u).bytes ≡ tag_of g.key t
    tag_is u e = ap (tag_of g.key) (sym e)

    whole : front (length v.path) v.path ≡ v.path
    whole = front_whole (length v.path) v.path (omega arith)

    now : (o : Option Sending) → (move_of g past x).sends ≡ o → IsIn (text_sent g x.client v o) t → MakesText g past x t
    now None at j = absurd j
    now (Some (Invokes n o)) at j =
        let e = only_one _ t j in with_call (length v.path) n o (tag_for g (invoke_text (record { client = x.client; seq = n; op = o }))) (sent_so (Some (Invokes n o)) at) (tag_is _ e) e
    now (Some (Commits done)) at j =
        let e = only_one _ t j in
        with_status (length v.path) done (tag_for g (commit_text_on g v.path done)) (sent_so (Some (Commits done)) at) (tag_is _ e)
        (e ∙ (ap (λ (p : List Entry). commit_text (length v.path) (chain g p) done) (sym whole) ∙ ap (λ (p : List Entry). commit_text (length v.path) (chain g (front (length v.path) p)) done) (path_then g past x)))
    now (Some Polls) at j = absurd j
    now (Some Seals) at j =
        let e = only_one _ t j in
        with_seal v.sealed (digest v.root) (tag_for g (seal_text_on g v.path v.sealed v.root)) (sent_so (Some Seals) at) (tag_is _ e)
        (e ∙ ap (λ (p : List Entry). seal_text v.sealed (chain g (front v.sealed p)) v.root) (path_then g past x))
    now (Some Syncs) at j = absurd j
    now (Some (Keeps content)) at j = absurd j
    now (Some (Fetches k)) at j = absurd j

made_along : (g : Group) (h : List TraceStep) → AreSteps g h → (t : List ℕ) → IsIn (texts_made g h) t → IsMadeIn g h t
unfolding texts_made
made_along g [] steps t i = absurd i
made_along g (x ∷ past) steps t i = elim (in_either (text_sent g x.client (move_of g past x).next (move_of g past x).sends) (texts_made g past) t i) [
  | inl a ↦ record { later = []; x = x; past = past; is = refl; makes = makes_at g past x steps.1 t a }
  | inr b ↦ (let r = made_along g past steps.0 t b in record { later = x ∷ r.later; x = r.x; past = r.past; is = ap (λ (w : List TraceStep). x ∷ w) r.is; makes = r.makes })
]

pub texts_made_are : TextsMadeAre
texts_made_are g h lawful t i = made_along g h lawful.steps t i

-- ---- where a view ends

completion_of : (me : ℕ) (p : List Entry) (o : Outcome) → IsCompleted o → completion me p (Some o) ≡ record { client = me; prefix = p; outcome = o } ∷ []
completion_of me p (outcome.Done a) c = refl
completion_of me p (outcome.Aborted u) c = refl
completion_of me p (outcome.Refused r) c = absurd c
completion_of me p (outcome.Halted k) c = absurd c

prefix_here : (me : ℕ) (c : Completion) (cs : List Completion) → c.client ≡ me → last_prefix me (c ∷ cs) ≡ c.prefix
unfolding last_prefix
prefix_here me c cs e = ap (λ (b : Bool). if b then c.prefix else last_prefix me cs) (eq-eqb c.client me e)

prefix_other : (me : ℕ) (c : Completion) (cs : List Completion) → (c.client ≡ me → ⊥) → last_prefix me (c ∷ cs) ≡ last_prefix me cs
unfolding last_prefix
prefix_other me c cs e = ap (λ (b : Bool). if b then c.prefix else last_prefix me cs) (ne_eqb c.client me e)

prefix_at : (g : Group) (me : ℕ) (x : TraceStep) (past : List TraceStep) → CompletesAt me x → last_prefix me (completions g (x ∷ past)) ≡ path g me (x ∷ past)
unfolding completions
prefix_at g me x past c =
    ap (λ (o : Option Outcome). last_prefix me (completion x.client (path g x.client (x ∷ past)) o ++ completions g past)) c.1.1
    ∙ (ap (λ (cs : List Completion). last_prefix me (cs ++ completions g past)) (completion_of x.client (path g x.client (x ∷ past)) c.1.0 c.1.2)
    ∙ (prefix_here me (record { client = x.client; prefix = path g x.client (x ∷ past); outcome = c.1.0 }) (completions g past) c.0 ∙ ap (λ (i : ℕ). path g i (x ∷ past)) c.0))

prefix_kept : (g : Group) (me : ℕ) (x : TraceStep) (past : List TraceStep) → (CompletesAt me x → ⊥) → last_prefix me (completions g (x ∷ past)) ≡ last_prefix me (completions g past)
unfolding completions
prefix_kept g me x past none = now x.returned refl
  where
    whole : Outcome → Completion
    whole o = record { client = x.client; prefix = path g x.client (x ∷ past); outcome = o }

    other : (o : Outcome) → IsCompleted o → x.returned ≡ Some o → x.client ≡ me → ⊥
    other o c e mine = none (mine, (o, e, c))

    now : (o : Option Outcome) → x.returned ≡ o → last_prefix me (completion x.client (path g x.client (x ∷ past)) o ++ completions g past) ≡ last_prefix me (completions g past)
    now None e = refl
    now (Some (outcome.Done a)) e = prefix_other me (record { client = x.client; prefix = path g x.client (x ∷ past); outcome = outcome.Done a }) (completions g past) (other (outcome.Done a) tt e)
    now (Some (outcome.Aborted u)) e = prefix_other me (record { client = x.client; prefix = path g x.client (x ∷ past); outcome = outcome.Aborted u }) (completions g past) (other (outcome.Aborted u) tt e)
    now (Some (outcome.Refused r)) e = refl
    now (Some (outcome.Halted k)) e = refl

prefix_before : (g : Group) (me : ℕ) (later past : List TraceStep) → CompletesNowhere me later → last_prefix me (completions g (later ++ past)) ≡ last_prefix me (completions g past)
prefix_before g me [] past none = refl
prefix_before g me (x ∷ later) past none = prefix_kept g me x (later ++ past) none.0 ∙ prefix_before g me later past none.1

prefix_first : (g : Group) (me : ℕ) (h : List TraceStep) → CompletesNowhere me h → last_prefix me (completions g h) ≡ []
unfolding completions last_prefix
prefix_first g me [] none = refl
prefix_first g me (x ∷ past) none = prefix_kept g me x past none.0 ∙ prefix_first g me past none.1

ends_so : (g : Group) (h : List TraceStep) (me : ℕ) (p : List Entry) → EndsAt g h me p → last_prefix me (completions g h) ≡ p
ends_so g h me p (at_call later x past is none done there) =
    ap (λ (k : List TraceStep). last_prefix me (completions g k)) is ∙ (prefix_before g me later (x ∷ past) none ∙ (prefix_at g me x past done ∙ sym there))
ends_so g h me p (at_start none there) = prefix_first g me h none ∙ sym there

completes_or : (me : ℕ) (x : TraceStep) → CompletesAt me x ⊎ (CompletesAt me x → ⊥)
completes_or me x = now (cases_eq x.client me) x.returned refl
  where
    now : (x.client ≡ me) ⊎ (x.client ≡ me → ⊥) → (o : Option Outcome) → x.returned ≡ o → CompletesAt me x ⊎ (CompletesAt me x → ⊥)
    now (inr other) o e = inr (λ c. other c.0)
    now (inl mine) None e = inr (λ c. none_is_some (sym e ∙ c.1.1))
    now (inl mine) (Some (outcome.Done a)) e = inl (mine, (outcome.Done a, e, tt))
    now (inl mine) (Some (outcome.Aborted u)) e = inl (mine, (outcome.Aborted u, e, tt))
    now (inl mine) (Some (outcome.Refused r)) e = inr (λ c. subst IsCompleted (sym (some_same (sym e ∙ c.1.1))) c.1.2)
    now (inl mine) (Some (outcome.Halted k)) e = inr (λ c. subst IsCompleted (sym (some_same (sym e ∙ c.1.1))) c.1.2)

ends_somewhere : (g : Group) (h : List TraceStep) (me : ℕ) → (p : List Entry) × EndsAt g h me p
ends_somewhere g [] me = ([], at_start tt refl)
ends_somewhere g (x ∷ past) me = now (completes_or me x) (ends_somewhere g past me)
  where
    more : (CompletesAt me x → ⊥) → (p : List Entry) → EndsAt g past me p → EndsAt g (x ∷ past) me p
    more none p (at_call later y older is quiet done there) = at_call (x ∷ later) y older (ap (λ (w : List TraceStep). x ∷ w) is) (none, quiet) done there
    more none p (at_start quiet there) = at_start (none, quiet) there

    now : CompletesAt me x ⊎ (CompletesAt me x → ⊥) → ((p : List Entry) × EndsAt g past me p) → (p : List Entry) × EndsAt g (x ∷ past) me p
    now (inl done) before = (path g me (x ∷ past), at_call [] x past refl tt done refl)
    now (inr none) before = (before.0, more none before.0 before.1)

pub views_end : ViewsEnd
unfolding view_of
views_end g h me = (ends_somewhere g h me, λ p ends. ap (confirmed_calls (completions g h)) (ends_so g h me p ends))
