-- Each answer in a view is that of a dictionary after the calls before it.
use Rattle.std.specs.Prelude.{◌≡◌, ℕ, ◌<◌, ◌≤◌, ◌⊎◌, List, [], ◌∷◌, ◌++◌, length, Option, Some, None}
use Rattle.std.proofs.Common.{refl, ap, subst, sym, ◌∙◌, inl, inr, arith, append_assoc, le_of_suc-le-suc}
use Rattle.std.proofs.lemmas.Bool.{cases_lt}
use Rattle.vic_dict.specs.declared.op.Op.{Op}
use Rattle.vic_dict.specs.declared.op.Entry.{Entry}
use Rattle.vic_dict.specs.Lists.{IsIn, front}
use Rattle.vic_dict.specs.Dictionary.{Dictionary, reply}
use Rattle.vic_wire.specs.Parts.{walked}
use Rattle.vic_commute.proofs.Heeding.{HeededAlike, looked_alike, heeded_reply}
use Rattle.vic_wire.specs.Hashes.{Group}
use Rattle.vic_rules.specs.declared.trace.TraceStep.{TraceStep}
use Rattle.vic_rules.specs.declared.trace.Shown.{Shown}
use Rattle.vic_rules.specs.Client.{Standing, in_the_way, decided_outcome, decision, own_calls_over}
use Rattle.vic_rules.specs.History.{standing, path, AreSteps, Completion, completions}
use Rattle.vic_rules.specs.Views.{confirmation, confirmed_calls, shown_as, left_by, last_prefix, view_of, Explains, IsLegal}
use Rattle.vic_rules.specs.Trust.{IsForged, Collides}
use Rattle.vic_laws.specs.Claims.{ViewsAreLegal}
use Rattle.vic_laws.specs.OrderClaims.{effect_of, was_done}
use Rattle.vic_laws.proofs.Steps.{call_of}
use Rattle.vic_laws.proofs.Standings.{earlier_steps}
use Rattle.vic_laws.proofs.Calls.{RepliedAt, completed_by, completion_after}
use Rattle.vic_laws.proofs.Agreement.{confirmed_tells}
use Rattle.vic_laws.proofs.Dictionaries.{leaves_done}
use Rattle.vic_laws.proofs.Growth.{front_grows, front_whole}
use Rattle.vic_laws.proofs.OwnLaid.{own_op, own_laid, lays_at}
use Rattle.vic_laws.proofs.AnswersStand.{effect_above, effect_below, effects_alike, reply_stands}
use Rattle.vic_laws.proofs.SealedAnswers.{part_shows}

-- ---- what the calls of a path leave

shown_leaves : (e : Entry) (c : Option Completion) (v : List Shown) → left_by (shown_as e c ++ v) ≡ own_op (left_by v) e c
unfolding left_by
shown_leaves e None v = refl
shown_leaves e (Some c) v = leaves_done (left_by v) (record { entry = e; outcome = c.outcome }) c.outcome

left_more : (cs : List Completion) (e : Entry) (p : List Entry) → left_by (confirmed_calls cs (e ∷ p)) ≡ own_op (left_by (confirmed_calls cs p)) e (confirmation cs (e ∷ p))
unfolding confirmed_calls
left_more cs e p = shown_leaves e (confirmation cs (e ∷ p)) (confirmed_calls cs p)

-- over what is left at the base, the choice of all that is confirmed as done leaves what all calls leave
left_chosen : (cs : List Completion) (base : ℕ) (d : Dictionary) (p : List Entry) → d ≡ left_by (confirmed_calls cs (front base p)) → effect_of (λ q. was_done (confirmation cs q)) base d p ≡ left_by (confirmed_calls cs p)
left_chosen cs base d [] is = effect_below _ base d [] (omega arith) ∙ (is ∙ ap (λ q. left_by (confirmed_calls cs q)) (front_whole base [] (omega arith)))
left_chosen cs base d (e ∷ p) is = now (cases_lt base (length (e ∷ p))) (left_chosen cs base d p)
  where
    now : (base < length (e ∷ p)) ⊎ (length (e ∷ p) ≤ base) → (d ≡ left_by (confirmed_calls cs (front base p)) → effect_of (λ q. was_done (confirmation cs q)) base d p ≡ left_by (confirmed_calls cs p))
        → effect_of (λ q. was_done (confirmation cs q)) base d (e ∷ p) ≡ left_by (confirmed_calls cs (e ∷ p))
    now (inl above) before =
        effect_above (λ q. was_done (confirmation cs q)) base d e p above
        ∙ (ap (λ w. own_op w e (confirmation cs (e ∷ p))) (before (is ∙ ap (λ q. left_by (confirmed_calls cs q)) (front_grows (e ∷ []) p base (le_of_suc-le-suc above))))
        ∙ sym (left_more cs e p))
    now (inr up) before = effect_below (λ q. was_done (confirmation cs q)) base d (e ∷ p) up ∙ (is ∙ ap (λ q. left_by (confirmed_calls cs q)) (front_whole base (e ∷ p) up))

-- ---- what a decision shows

-- a decision over a dictionary explains itself by one that answers as that does, where nothing is in the way
decided_explains : (u : Option ℕ) (d left : Dictionary) (x : Shown) (o : Op) → x.entry.op ≡ o → (u ≡ None → reply d o ≡ reply left o) → Explains left x (decided_outcome u d o)
decided_explains None d left x o same alike = alike refl ∙ ap (reply left) (sym same)
decided_explains (Some u) d left x o same alike = tt

-- ---- along a whole history

-- the step that made a completion
record MadeAt (g : Group) (whole : List TraceStep) (c : Completion) : Type 0 where
  later : List TraceStep
  x : TraceStep
  past : List TraceStep
  is : whole ≡ later ++ x ∷ past
  replied : RepliedAt g past x
  made : completed_by replied ≡ c

made_at : (g : Group) (whole : List TraceStep) → AreSteps g whole → (later h : List TraceStep) → whole ≡ later ++ h → (c : Completion) → IsIn (completions g h) c → MadeAt g whole c
unfolding completions
made_at g whole lawful later [] e c there = absurd there
made_at g whole lawful later (x ∷ past) e c there =
    now (completion_after g past x (earlier_steps g later (x ∷ past) (subst (AreSteps g) e lawful)).1 c there) (made_at g whole lawful (later ++ x ∷ []) past (e ∙ sym (append_assoc later (x ∷ []) past)) c)
  where
    now : IsIn (completions g past) c ⊎ ((r : RepliedAt g past x) × (completed_by r ≡ c)) → (IsIn (completions g past) c → MadeAt g whole c) → MadeAt g whole c
    now (inl old) before = before old
    now (inr new) before = record { later = later; x = x; past = past; is = e; replied = new.0; made = new.1 }

module _ (g : Group) (whole : List TraceStep) (lawful : AreSteps g whole) (honest : IsForged g whole → ⊥) (apart : Collides g whole → ⊥) where
  -- the answer of a Reply is that of what the confirmed calls below it leave
  reply_explains : (later : List TraceStep) (x : TraceStep) (past : List TraceStep) → whole ≡ later ++ x ∷ past → (r : RepliedAt g past x) → (shown : Shown) → shown.entry.op ≡ r.op
      → Explains (left_by (confirmed_calls (completions g whole) (r.others ++ path g x.client past))) shown (completed_by r).outcome
  unfolding decision
  reply_explains later x past e r shown same =
      decided_explains (in_the_way x.client r.op r.seal.position below) (own_calls_over s.own r.seal.position (walked r.part r.op)) (left_by (confirmed_calls (completions g whole) below)) shown r.op same alike
    where
      s : Standing
      s = standing g x.client past

      below : List Entry
      below = r.others ++ path g x.client past

      -- what is laid over it is laid by the path
      laid_is : own_calls_over s.own r.seal.position (walked r.part r.op) ≡ own_laid (completions g whole) x.client r.seal.position (walked r.part r.op) below
      laid_is = lays_at g whole lawful later x past e r

      alike : in_the_way x.client r.op r.seal.position below ≡ None → reply (own_calls_over s.own r.seal.position (walked r.part r.op)) r.op ≡ reply (left_by (confirmed_calls (completions g whole) below)) r.op
      alike none =
          ap (λ d. reply d r.op) laid_is
          ∙ (reply_stands r.op x.client r.seal.position (completions g whole) (walked r.part r.op) (λ q. was_done (confirmation (completions g whole) q)) (λ c p mine. refl) below none
          ∙ (heeded_reply r.op _ _ (effects_alike r.op (λ q. was_done (confirmation (completions g whole) q)) r.seal.position (walked r.part r.op) base_left shows_base below)
          ∙ ap (λ d. reply d r.op) (left_chosen (completions g whole) r.seal.position base_left below refl)))
        where
          base_left : Dictionary
          base_left = left_by (confirmed_calls (completions g whole) (front r.seal.position below))

          -- the walk shows what the calls up to the seal leave wherever the operation looks
          shows_base : HeededAlike r.op (walked r.part r.op) base_left
          shows_base = looked_alike r.op (walked r.part r.op) base_left (part_shows g whole lawful honest apart later x past e r)

  -- each confirmed call is explained by the confirmed calls below it
  confirmed_explains : (e : Entry) (p : List Entry) (c : Completion) → confirmation (completions g whole) (e ∷ p) ≡ Some c
      → Explains (left_by (confirmed_calls (completions g whole) p)) (record { entry = e; outcome = c.outcome }) c.outcome
  confirmed_explains e p c found =
      let tells = confirmed_tells (completions g whole) (e ∷ p) c found in
      let m = made_at g whole lawful [] whole refl c tells.0 in
      let same : call_of m.x.client m.replied.seq m.replied.op ∷ (m.replied.others ++ path g m.x.client m.past) ≡ e ∷ p = ap (λ w. w.prefix) m.made ∙ tells.1 in
      let newest_is : call_of m.x.client m.replied.seq m.replied.op ≡ e = cc in
      let rest_is : m.replied.others ++ path g m.x.client m.past ≡ p = cc in
      subst (λ w. Explains (left_by (confirmed_calls (completions g whole) p)) (record { entry = e; outcome = c.outcome }) w) (ap (λ w. w.outcome) m.made)
      (subst (λ q. Explains (left_by (confirmed_calls (completions g whole) q)) (record { entry = e; outcome = c.outcome }) (completed_by m.replied).outcome) rest_is
      (reply_explains m.later m.x m.past m.is m.replied (record { entry = e; outcome = c.outcome }) (ap (λ w. w.op) (sym newest_is))))

  legal_more : (e : Entry) (p : List Entry) (o : Option Completion) → confirmation (completions g whole) (e ∷ p) ≡ o → IsLegal (confirmed_calls (completions g whole) p)
      → IsLegal (shown_as e o ++ confirmed_calls (completions g whole) p)
  legal_more e p None found before = before
  legal_more e p (Some c) found before = (before, confirmed_explains e p c found)

  -- the confirmed calls of every path are legal
  legal_path : (p : List Entry) → IsLegal (confirmed_calls (completions g whole) p)
  unfolding confirmed_calls
  legal_path [] = tt
  legal_path (e ∷ p) = legal_more e p (confirmation (completions g whole) (e ∷ p)) refl (legal_path p)

pub views_legal : ViewsAreLegal
unfolding view_of
views_legal g h lawful honest apart me = legal_path g h lawful.steps honest apart (last_prefix me (completions g h))
