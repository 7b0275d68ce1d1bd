-- Unless a tag was forged, each view keeps real-time order: no call stands on a path before it was made.
use Rattle.std.proofs.Common.{◌≡◌, ℕ, ◌+◌, ◌<◌, ◌≤◌, ◌^◌, ◌⊎◌, inl, inr, Bool, true, false, List, [], ◌∷◌, ◌++◌, length, take, Option, refl, sym, ◌∙◌, ap, subst, arith, bytes_eq}
use Rattle.std.specs.Int.{w32, to_be_bytes, from_be_bytes}
use Rattle.std.proofs.lemmas.Bool.{cases_eq, cases_Bool}
use Rattle.std.proofs.lemmas.Bool.Decides.{not_from_Decides}
use Rattle.std.proofs.lemmas.List.{take_at}
use Rattle.std.proofs.lemmas.Nat.{from_be_bytes-to_be_bytes_4}
use Rattle.std.proofs.lemmas.Slice.Eq.{bytes_eq-Decides}
use Rattle.vic_dict.specs.declared.op.Entry.{Entry}
use Rattle.vic_dict.specs.Lists.{IsIn}
use Rattle.vic_wire.specs.Texts.{invoke_text, op_text}
use Rattle.vic_wire.specs.Hashes.{Group}
use Rattle.vic_rules.specs.declared.trace.Input.{Input}
use Rattle.vic_rules.specs.declared.trace.TraceStep.{TraceStep}
use Rattle.vic_rules.specs.declared.trace.Shown.{Shown}
use Rattle.vic_rules.specs.Client.{Standing, Move, commit_text_on, seal_text_on}
use Rattle.vic_rules.specs.History.{standing, path, move_of, IsStep, AreSteps, Completion, completions}
use Rattle.vic_rules.specs.Views.{confirmed_calls, last_prefix, view_of, IsCompleted, ReturnedBefore, Earlier, IsInRealTime}
use Rattle.vic_rules.specs.Trust.{answer_taken, answer_unless_halted, checked_texts, texts_taken, text_sent, texts_made, IsForged}
use Rattle.vic_laws.specs.OrderClaims.{CompletedAs, ViewsInRealTime}
use Rattle.vic_laws.proofs.Words.{in_right, in_either}
use Rattle.vic_laws.proofs.Steps.{PhaseFits, Kind, is_quiet, is_called, is_replied, is_updated, is_listed, call_of}
use Rattle.vic_laws.proofs.Standings.{standing_moved, standing_kept, earlier_steps}
use Rattle.vic_laws.proofs.Calls.{kind_of, phases_fit, called_if, Grows, completion_stays, newest_entry}
use Rattle.vic_laws.proofs.Agreement.{confirmed_tells, same_completion, ShownAt, shown_in, shown_entry, shown_list}
use Rattle.vic_laws.proofs.Complete.{answered_completion, is_completed, completions_stay, path_has, confirmed_below}

-- ---- texts of calls

-- texts that begin with other numbers differ
other_kind : (a b : ℕ) (s t : List ℕ) → (a ≡ b → ⊥) → a ∷ s ≡ b ∷ t → ⊥
other_kind a b s t differ e = differ (ap first e)
  where
    first : List ℕ → ℕ
    first [] = 0
    first (x ∷ xs) = x

rest_of : (a b : ℕ) (s t : List ℕ) → a ∷ s ≡ b ∷ t → s ≡ t
rest_of a b s t e = cc

pub first_of_list : (a b : ℕ) (s t : List ℕ) → a ∷ s ≡ b ∷ t → a ≡ b
first_of_list a b s t e = cc

length-w32 : (n : ℕ) → length (to_be_bytes w32 n) ≡ 4
length-w32 n = refl

-- numbers of four bytes that begin one text are equal
same_w32 : (n k : ℕ) (s t : List ℕ) → n < 2 ^ 32 → k < 2 ^ 32 → to_be_bytes w32 n ++ s ≡ to_be_bytes w32 k ++ t → n ≡ k
same_w32 n k s t fn fk e =
    let bytes : to_be_bytes w32 n ≡ to_be_bytes w32 k =
    sym (take_at (to_be_bytes w32 n) s 4 (length-w32 n)) ∙ ap (take 4) e ∙ take_at (to_be_bytes w32 k) t 4 (length-w32 k) in
    sym (from_be_bytes-to_be_bytes_4 n fn) ∙ ap (from_be_bytes w32) bytes ∙ from_be_bytes-to_be_bytes_4 k fk

-- the text of a call tells its client and its number
text_client : (a b : Entry) → invoke_text a ≡ invoke_text b → a.client ≡ b.client
text_client a b e =
    first_of_list a.client b.client (to_be_bytes w32 a.seq ++ op_text a.op) (to_be_bytes w32 b.seq ++ op_text b.op)
    (rest_of 17 17 (a.client ∷ to_be_bytes w32 a.seq ++ op_text a.op) (b.client ∷ to_be_bytes w32 b.seq ++ op_text b.op) e)

text_number : (a b : Entry) → a.seq < 2 ^ 32 → b.seq < 2 ^ 32 → invoke_text a ≡ invoke_text b → a.seq ≡ b.seq
text_number a b fa fb e =
    same_w32 a.seq b.seq (op_text a.op) (op_text b.op) fa fb
    (rest_of a.client b.client (to_be_bytes w32 a.seq ++ op_text a.op) (to_be_bytes w32 b.seq ++ op_text b.op)
    (rest_of 17 17 (a.client ∷ to_be_bytes w32 a.seq ++ op_text a.op) (b.client ∷ to_be_bytes w32 b.seq ++ op_text b.op) e))

commit_is_no_call : (g : Group) (p : List Entry) (done : Bool) (e : Entry) → commit_text_on g p done ≡ invoke_text e → ⊥
unfolding commit_text_on
commit_is_no_call g p done e h = other_kind 18 17 _ _ (λ q. absurd (omega arith)) h

seal_is_no_call : (g : Group) (p : List Entry) (position : ℕ) (root : List ℕ) (e : Entry) → seal_text_on g p position root ≡ invoke_text e → ⊥
unfolding seal_text_on
seal_is_no_call g p position root e h = other_kind 19 17 _ _ (λ q. absurd (omega arith)) h

commit_not_sent : (g : Group) (p : List Entry) (done : Bool) (e : Entry) → IsIn (commit_text_on g p done ∷ []) (invoke_text e) → ⊥
commit_not_sent g p done e (inl h) = commit_is_no_call g p done e h
commit_not_sent g p done e (inr none) = none

seal_not_sent : (g : Group) (p : List Entry) (position : ℕ) (root : List ℕ) (e : Entry) → IsIn (seal_text_on g p position root ∷ []) (invoke_text e) → ⊥
seal_not_sent g p position root e (inl h) = seal_is_no_call g p position root e h
seal_not_sent g p position root e (inr none) = none

-- ---- the number of a call whose text was made

calls_move : (g : Group) (me : ℕ) (s : Standing) (i : Input) (v : Move) → Kind g me s i v → s.calls ≤ v.next.calls
calls_move g me s i v (is_quiet q) = let e : v.next.calls ≡ s.calls = q.calls in omega arith
calls_move g me s i v (is_called a) = let e : v.next.calls ≡ s.calls + 1 = ap (λ (m : Move). m.next.calls) a.moved in omega arith
calls_move g me s i v (is_replied r) = let e : v.next.calls ≡ s.calls = ap (λ (m : Move). m.next.calls) r.moved in omega arith
calls_move g me s i v (is_updated u) = let e : v.next.calls ≡ s.calls = ap (λ (m : Move). m.next.calls) u.moved in omega arith
calls_move g me s i v (is_listed l) = let e : v.next.calls ≡ s.calls = ap (λ (m : Move). m.next.calls) l.moved in omega arith

-- a client's count of calls never falls
pub calls_grow : (g : Group) (me : ℕ) (x : TraceStep) (past : List TraceStep) → IsStep g past x → (standing g me past).calls ≤ (standing g me (x ∷ past)).calls
calls_grow g me x past is =
    let Goal : (x.client ≡ me) ⊎ (x.client ≡ me → ⊥) → Type 0 = λ c. (standing g me past).calls ≤ (standing g me (x ∷ past)).calls in
    elim (cases_eq x.client me) as Goal [
      | inl same ↦ subst (λ (m : ℕ). (standing g m past).calls ≤ (standing g m (x ∷ past)).calls) same
          (subst (λ (s : Standing). (standing g x.client past).calls ≤ s.calls) (sym (standing_moved g x.client x past refl))
          (calls_move g x.client (standing g x.client past) x.input (move_of g past x) (kind_of g past x is)))
      | inr differ ↦ subst (λ (s : Standing). (standing g me past).calls ≤ s.calls) (sym (standing_kept g me x past differ))
          (let n : ℕ = (standing g me past).calls in omega arith)
    ]

-- a call's text that a client sends is that of its newest call
sent_number : (g : Group) (me : ℕ) (s : Standing) (i : Input) (v : Move) → Kind g me s i v → PhaseFits s.calls s.phase → (e : Entry) → e.seq < 2 ^ 32
    → IsIn (text_sent g me v.next v.sends) (invoke_text e) → (me ≡ e.client) × (e.seq ≤ v.next.calls)
sent_number g me s i v (is_quiet q) h e few w = absurd (subst (λ (ts : List (List ℕ)). IsIn ts (invoke_text e)) q.sends_nothing w)
sent_number g me s i v (is_called a) h e few w =
    let call : Entry = call_of me (s.calls + 1) a.op in
    let sent : IsIn (invoke_text call ∷ []) (invoke_text e) = subst (λ (m : Move). IsIn (text_sent g me m.next m.sends) (invoke_text e)) a.moved w in
    let calls : v.next.calls ≡ s.calls + 1 = ap (λ (m : Move). m.next.calls) a.moved in
    let Goal : IsIn (invoke_text call ∷ []) (invoke_text e) → Type 0 = λ k. (me ≡ e.client) × (e.seq ≤ v.next.calls) in
    elim sent as Goal [
      | inl same ↦
          (let number : s.calls + 1 ≡ e.seq = text_number call e (a.few h) few same in
          (text_client call e same, omega arith))
      | inr none ↦ absurd none
    ]
sent_number g me s i v (is_replied r) h e few w = absurd (commit_not_sent g _ _ e (subst (λ (m : Move). IsIn (text_sent g me m.next m.sends) (invoke_text e)) r.moved w))
sent_number g me s i v (is_updated u) h e few w = absurd (seal_not_sent g _ _ _ e (subst (λ (m : Move). IsIn (text_sent g me m.next m.sends) (invoke_text e)) u.moved w))
sent_number g me s i v (is_listed l) h e few w = absurd (subst (λ (m : Move). IsIn (text_sent g me m.next m.sends) (invoke_text e)) l.moved w)

-- a client has made no text of a call with a number above its count
pub made_number : (g : Group) (h : List TraceStep) → AreSteps g h → (e : Entry) → e.seq < 2 ^ 32 → IsIn (texts_made g h) (invoke_text e) → e.seq ≤ (standing g e.client h).calls
unfolding texts_made
made_number g [] steps e few w = absurd w
made_number g (x ∷ past) steps e few w =
    let v : Move = move_of g past x in
    let new : List (List ℕ) = text_sent g x.client v.next v.sends in
    let Goal : IsIn new (invoke_text e) ⊎ IsIn (texts_made g past) (invoke_text e) → Type 0 = λ k. e.seq ≤ (standing g e.client (x ∷ past)).calls in
    elim (in_either new (texts_made g past) (invoke_text e) w) as Goal [
      | inl now ↦
          (let sent : (x.client ≡ e.client) × (e.seq ≤ v.next.calls) = sent_number g x.client (standing g x.client past) x.input v (kind_of g past x steps.1) (phases_fit g past steps.0 x.client) e few now in
          subst (λ (s : Standing). e.seq ≤ s.calls) (sym (standing_moved g e.client x past sent.0)) sent.1)
      | inr old ↦
          (let before : e.seq ≤ (standing g e.client past).calls = made_number g past steps.0 e few old in
          let grow : (standing g e.client past).calls ≤ (standing g e.client (x ∷ past)).calls = calls_grow g e.client x past steps.1 in
          omega arith)
    ]

-- ---- each entry of a path was called

-- a text is in a list, or it isn't
pub in_or_not : (texts : List (List ℕ)) (t : List ℕ) → IsIn texts t ⊎ (IsIn texts t → ⊥)
in_or_not [] t = inr (λ w. w)
in_or_not (s ∷ texts) t =
    in_or_not_more s texts t (cases_Bool (bytes_eq s t)) (in_or_not texts t)
  where
    in_or_not_more : (s : List ℕ) (texts : List (List ℕ)) (t : List ℕ) → (bytes_eq s t ≡ true) ⊎ (bytes_eq s t ≡ false) → IsIn texts t ⊎ (IsIn texts t → ⊥) → IsIn (s ∷ texts) t ⊎ (IsIn (s ∷ texts) t → ⊥)
    in_or_not_more s texts t (inl same) rest = inl (inl ((bytes_eq-Decides s t).0 same))
    in_or_not_more s texts t (inr differ) (inl w) = inl (inr w)
    in_or_not_more s texts t (inr differ) (inr none) = inr (λ w.
        let Goal : IsIn (s ∷ texts) t → Type 0 = λ k. ⊥ in
        elim w as Goal [ inl e ↦ not_from_Decides (bytes_eq s t) (bytes_eq-Decides s t) differ e | inr k ↦ none k ])

-- unless it is forged, a text that was taken was made before
pub taken_was_made_before : (g : Group) (past : List TraceStep) (x : TraceStep) → (IsForged g (x ∷ past) → ⊥) → (t : List ℕ) → IsIn (texts_taken g past x) t → IsIn (texts_made g past) t
taken_was_made_before g past x honest t w =
    let Goal : IsIn (texts_made g past) t ⊎ (IsIn (texts_made g past) t → ⊥) → Type 0 = λ k. IsIn (texts_made g past) t in
    elim (in_or_not (texts_made g past) t) as Goal [
      | inl made ↦ made
      | inr none ↦ absurd (honest (inr (t, w, none)))
    ]

-- a new entry of a path came with a text that was checked
new_entry_checked : (g : Group) (me : ℕ) (s : Standing) (i : Input) (v : Move) → Kind g me s i v → (e : Entry) → IsIn v.next.path e
    → IsIn s.path e ⊎ IsIn (checked_texts g v.next.path (answer_unless_halted v.next i)) (invoke_text e)
new_entry_checked g me s i v (is_quiet q) e w = inl (subst (λ (p : List Entry). IsIn p e) q.path w)
new_entry_checked g me s i v (is_called a) e w = inl (subst (λ (m : Move). IsIn m.next.path e) a.moved w)
new_entry_checked g me s i v (is_replied r) e w =
    let call : Entry = call_of me r.seq r.op in
    let there : IsIn ((call ∷ r.others) ++ s.path) e = subst (λ (m : Move). IsIn m.next.path e) r.moved w in
    let Goal : IsIn (call ∷ r.others) e ⊎ IsIn s.path e → Type 0 = λ k. IsIn s.path e ⊎ IsIn (checked_texts g v.next.path (answer_unless_halted v.next i)) (invoke_text e) in
    elim (in_either (call ∷ r.others) s.path e there) as Goal [
      | inl new ↦ inr (r.arrived.checked e new)
      | inr old ↦ inl old
    ]
new_entry_checked g me s i v (is_updated u) e w = inl (subst (λ (m : Move). IsIn m.next.path e) u.moved w)
new_entry_checked g me s i v (is_listed l) e w =
    let there : IsIn (l.others ++ s.path) e = subst (λ (m : Move). IsIn m.next.path e) l.moved w in
    let Goal : IsIn l.others e ⊎ IsIn s.path e → Type 0 = λ k. IsIn s.path e ⊎ IsIn (checked_texts g v.next.path (answer_unless_halted v.next i)) (invoke_text e) in
    elim (in_either l.others s.path e there) as Goal [
      | inl new ↦ inr (l.arrived.checked e new)
      | inr old ↦ inl old
    ]

pub took_is : (g : Group) (past : List TraceStep) (x : TraceStep) → answer_taken g past x ≡ answer_unless_halted (move_of g past x).next x.input
unfolding answer_taken
took_is g past x = refl

-- unless a tag was forged, each entry of a path was called
pub path_made : (g : Group) (h : List TraceStep) → AreSteps g h → (IsForged g h → ⊥) → (me : ℕ) (e : Entry) → IsIn (path g me h) e → IsIn (texts_made g h) (invoke_text e)
unfolding standing texts_made
path_made g [] steps honest me e w = absurd w
path_made g (x ∷ past) steps honest me e w =
    let v : Move = move_of g past x in
    let new : List (List ℕ) = text_sent g x.client v.next v.sends in
    let older : (m : ℕ) → IsIn (path g m past) e → IsIn (texts_made g past) (invoke_text e) = λ m k. path_made g past steps.0 (λ f. honest (inl f)) m e k in
    let Goal : (x.client ≡ me) ⊎ (x.client ≡ me → ⊥) → Type 0 = λ k. IsIn (new ++ texts_made g past) (invoke_text e) in
    elim (cases_eq x.client me) as Goal [
      | inl same ↦
          (let there : IsIn v.next.path e = subst (λ (s : Standing). IsIn s.path e) (standing_moved g me x past same) w in
          let Arrives : IsIn (path g x.client past) e ⊎ IsIn (checked_texts g v.next.path (answer_unless_halted v.next x.input)) (invoke_text e) → Type 0 = λ k. IsIn (texts_made g past) (invoke_text e) in
          in_right new (texts_made g past) (invoke_text e)
          (elim (new_entry_checked g x.client (standing g x.client past) x.input v (kind_of g past x steps.1) e there) as Arrives [
            | inl old ↦ older x.client old
            | inr checked ↦ taken_was_made_before g past x honest (invoke_text e)
                (subst (λ (o : Option _). IsIn (checked_texts g v.next.path o) (invoke_text e)) (sym (took_is g past x)) checked)
          ]))
      | inr differ ↦
          in_right new (texts_made g past) (invoke_text e)
          (older me (subst (λ (s : Standing). IsIn s.path e) (standing_kept g me x past differ) w))
    ]

-- what is forged earlier is forged
pub forged_earlier : (g : Group) (later past : List TraceStep) → IsForged g past → IsForged g (later ++ past)
forged_earlier g [] past f = f
forged_earlier g (x ∷ later) past f = inl (forged_earlier g later past f)

-- ---- real time

-- a call that is still to be made stands on no path
pub not_yet : (g : Group) (past : List TraceStep) → AreSteps g past → (IsForged g past → ⊥) → (me : ℕ) (e : Entry) → e.seq < 2 ^ 32 → (standing g e.client past).calls < e.seq → IsIn (path g me past) e → ⊥
not_yet g past steps honest me e few ahead w =
    let number : e.seq ≤ (standing g e.client past).calls = made_number g past steps e few (path_made g past steps honest me e w) in
    omega arith

-- of two ends of one list, the one is an end of the other
pub ends_compare : {X : Type 0} (xs ys zs ws : List X) → xs ++ zs ≡ ys ++ ws → ((mid : List X) × (ws ≡ mid ++ zs)) ⊎ ((mid : List X) × (zs ≡ mid ++ ws))
ends_compare [] ys zs ws e = inr (ys, e)
ends_compare (x ∷ xs) [] zs ws e = inl (x ∷ xs, sym e)
ends_compare (x ∷ xs) (y ∷ ys) zs ws e = ends_compare xs ys zs ws (same_rest x y (xs ++ zs) (ys ++ ws) e)
  where
    same_rest : {X : Type 0} (x y : X) (v w : List X) → x ∷ v ≡ y ∷ w → v ≡ w
    same_rest x y v w e = cc

-- a call that was made after another had returned doesn't stand on that one's path
never_below : (g : Group) (h : List TraceStep) → AreSteps g h → (IsForged g h → ⊥) → (p : List Entry) (a b : Shown) (older : List Shown)
    → (s : ShownAt (completions g h) p a older) → ReturnedBefore g h a b → IsIn (s.entry ∷ s.below) b.entry → ⊥
never_below g h steps honest p a b older s r w =
    let cs : List Completion = completions g h in
    let tells : IsIn cs s.by × (s.by.prefix ≡ s.entry ∷ s.below) = confirmed_tells cs (s.entry ∷ s.below) s.by s.confirms in
    let now : AreSteps g (r.x ∷ r.past) = earlier_steps g r.later (r.x ∷ r.past) (subst (AreSteps g) r.is steps) in
    let honest_past : IsForged g r.past → ⊥ = λ f. honest (subst (IsForged g) (sym r.is) (forged_earlier g r.later (r.x ∷ r.past) (inl f))) in
    let done : IsCompleted a.outcome = subst (λ (y : Shown). IsCompleted y.outcome) (sym s.shown) (is_completed g h steps s.by tells.0) in
    let c : CompletedAs g r.past a.entry a.outcome = answered_completion g r.past now.0 a.entry a.outcome done r.returned in
    let there : IsIn cs c.by = subst (λ (k : List TraceStep). IsIn (completions g k) c.by) (sym r.is)
    (completions_stay g r.later (r.x ∷ r.past) c.by (completion_stays g r.past r.x c.by c.there)) in
    let entry : a.entry ≡ s.entry = shown_entry cs p a older s in
    let same : s.by ≡ c.by = same_completion g h steps s.by c.by tells.0 there s.entry a.entry s.below c.below tells.1 c.is
    (sym (ap (λ (e : Entry). e.client) entry), sym (ap (λ (e : Entry). e.seq) entry)) in
    let place : ◌≡◌ {A = List Entry} (s.entry ∷ s.below) c.by.prefix = sym tells.1 ∙ ap (λ (d : Completion). d.prefix) same in
    let grown : Grows c.by.prefix (path g c.by.client r.past) = path_has g r.past now.0 c.by c.there in
    let on_path : IsIn (path g c.by.client r.past) b.entry =
    subst (λ (q : List Entry). IsIn q b.entry) (sym grown.1) (in_right grown.0 c.by.prefix b.entry (subst (λ (q : List Entry). IsIn q b.entry) place w)) in
    let calls = called_if g r.x.client (standing g r.x.client r.past) r.x.input (move_of g r.past r.x) (kind_of g r.past r.x now.1) b.entry.seq r.makes.op r.makes.sends in
    let few : (standing g r.x.client r.past).calls + 1 < 2 ^ 32 = calls.0.few (phases_fit g r.past now.0 r.x.client) in
    let number : (standing g r.x.client r.past).calls + 1 ≡ b.entry.seq = calls.1.0 in
    let here : (standing g r.x.client r.past).calls ≡ (standing g b.entry.client r.past).calls = ap (λ (m : ℕ). (standing g m r.past).calls) r.makes.client in
    not_yet g r.past now.0 honest_past c.by.client b.entry (omega arith) (omega arith) on_path

-- what stands above another on a path is shown later
shown_in_order : (cs : List Completion) (p : List Entry) (a b : Shown) (older_a older_b : List Shown) (s : ShownAt cs p a older_a) (t : ShownAt cs p b older_b)
    (mid : List Entry) → t.below ≡ mid ++ s.entry ∷ s.below → Earlier (confirmed_calls cs p) a b
shown_in_order cs p a b older_a older_b s t mid e =
    let outer : (newer : List Shown) × (confirmed_calls cs (t.above ++ t.entry ∷ t.below) ≡ newer ++ confirmed_calls cs (t.entry ∷ t.below)) =
    confirmed_below cs t.above (t.entry ∷ t.below) in
    let inner : (newer : List Shown) × (confirmed_calls cs (mid ++ s.entry ∷ s.below) ≡ newer ++ confirmed_calls cs (s.entry ∷ s.below)) =
    confirmed_below cs mid (s.entry ∷ s.below) in
    let below : older_b ≡ inner.0 ++ a ∷ older_a =
    t.rest ∙ ap (confirmed_calls cs) e ∙ inner.1 ∙ ap (λ (v : List Shown). inner.0 ++ v) (sym (shown_list cs p a older_a s)) in
    let top : confirmed_calls cs (t.entry ∷ t.below) ≡ b ∷ (inner.0 ++ a ∷ older_a) =
    sym (shown_list cs p b older_b t) ∙ ap (λ (v : List Shown). b ∷ v) below in
    record {
      newer = outer.0;
      between = inner.0;
      older = older_a;
      is = ap (confirmed_calls cs) t.is ∙ outer.1 ∙ ap (λ (v : List Shown). outer.0 ++ v) top;
    }

in_order_if : (cs : List Completion) (p : List Entry) (a b : Shown) (older_a older_b : List Shown) (s : ShownAt cs p a older_a) (t : ShownAt cs p b older_b)
    → (IsIn (s.entry ∷ s.below) b.entry → ⊥) → (mid : List Entry) → ◌≡◌ {A = List Entry} (t.entry ∷ t.below) (mid ++ s.entry ∷ s.below) → Earlier (confirmed_calls cs p) a b
in_order_if cs p a b older_a older_b s t never [] e =
    absurd (never (inl (sym (shown_entry cs p b older_b t ∙ newest_entry t.entry s.entry t.below s.below e))))
in_order_if cs p a b older_a older_b s t never (m ∷ mid) e =
    shown_in_order cs p a b older_a older_b s t mid (entries_after t.entry m t.below (mid ++ s.entry ∷ s.below) e)
  where
    entries_after : (x y : Entry) (v w : List Entry) → x ∷ v ≡ y ∷ w → v ≡ w
    entries_after x y v w e = cc

pub in_order_at : (g : Group) (h : List TraceStep) → AreSteps g h → (IsForged g h → ⊥) → (p : List Entry) → IsInRealTime g h (confirmed_calls (completions g h) p)
in_order_at g h steps honest p a b wa wb r =
    let cs : List Completion = completions g h in
    let fa : (older : List Shown) × ShownAt cs p a older = shown_in cs p a wa in
    let fb : (older : List Shown) × ShownAt cs p b older = shown_in cs p b wb in
    let s : ShownAt cs p a fa.0 = fa.1 in
    let t : ShownAt cs p b fb.0 = fb.1 in
    let upper : List Entry = s.entry ∷ s.below in
    let lower : List Entry = t.entry ∷ t.below in
    let never : IsIn (s.entry ∷ s.below) b.entry → ⊥ = never_below g h steps honest p a b fa.0 s r in
    let Goal : ((mid : List Entry) × (lower ≡ mid ++ upper)) ⊎ ((mid : List Entry) × (upper ≡ mid ++ lower)) → Type 0 = λ k. Earlier (confirmed_calls cs p) a b in
    elim (ends_compare s.above t.above upper lower (sym s.is ∙ t.is)) as Goal [
      | inl above ↦ in_order_if cs p a b fa.0 fb.0 s t never above.0 above.1
      | inr below ↦ absurd (never (subst (λ (q : List Entry). IsIn q b.entry) (sym below.1)
          (in_right below.0 lower b.entry (inl (sym (shown_entry cs p b fb.0 t))))))
    ]

-- unless a tag was forged, each view keeps real-time order
pub views_in_order : ViewsInRealTime
unfolding view_of
views_in_order g h lawful honest me = in_order_at g h lawful.steps honest (last_prefix me (completions g h))
