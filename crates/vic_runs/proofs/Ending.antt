-- The first text that was taken forged, and what the end of a print has.
use Rattle.std.specs.Prelude.{◌≡◌, ℕ, zero, suc, ◌+◌, ◌-◌, ◌<◌, ◌≤◌, ◌⊎◌, Bool, true, false, List, [], ◌∷◌, ◌++◌, length, Option, Some, None, is_some, if◌then◌else◌}
use Rattle.std.specs.List.{flat_map}
use Rattle.std.proofs.Common.{refl, ap, subst, sym, ◌∙◌, inl, inr, arith, append_assoc, true≢false}
use Rattle.std.proofs.lemmas.Bool.{cases_eq}
use Rattle.std.proofs.lemmas.List.{append-nil}
use Rattle.vic_dict.specs.Lists.{IsIn}
use Rattle.vic_wire.specs.Hashes.{Group}
use Rattle.vic_rules.specs.declared.trace.TraceStep.{TraceStep}
use Rattle.vic_rules.specs.Trust.{IsForged, texts_taken, texts_made}
use Rattle.vic_laws.proofs.Words.{some_same, none_is_some}
use Rattle.vic_script.specs.Run.{ScriptRun, run_of, group_in, history_in, script_group, script_history}
use Rattle.vic_script.specs.Print.{is_among, ForgedText, first_forged_of, forged_text_at, or_forged_text, first_forged, is_forged, view_lines, numbers_from, all_views, agree_line, all_agreements, tags_line, end_text, print_of}
use Rattle.vic_script.proofs.Forged.{is_among-in, in-is_among, is_forged-Decides}
use Rattle.vic_runs.specs.Prints.{IsFirstForged, FirstForgedIs, StandsIn, PrintsHaveViews, PrintsHaveAgreements}

-- ---- the first forged text

-- of a payload: the text is forged, and those before it were made
record FirstOf (made texts : List (List ℕ)) (t : List ℕ) : Type 0 where
  before : List (List ℕ)
  behind : List (List ℕ)
  taken : texts ≡ before ++ t ∷ behind
  fine : (u : List ℕ) → IsIn before u → IsIn made u
  forged : IsIn made t → ⊥

among_not : (made : List (List ℕ)) (t : List ℕ) → is_among made t ≡ false → IsIn made t → ⊥
among_not made t e i = true≢false (sym (in-is_among made t i) ∙ e)

first_to : (made texts : List (List ℕ)) (t : List ℕ) → first_forged_of made texts ≡ Some t → FirstOf made texts t
first_to made [] t e = absurd (none_is_some e)
first_to made (u ∷ texts) t e = now (is_among made u) refl e (first_to made texts t)
  where
    now : (b : Bool) → is_among made u ≡ b → (if b then first_forged_of made texts else Some u) ≡ Some t → (first_forged_of made texts ≡ Some t → FirstOf made texts t) → FirstOf made (u ∷ texts) t
    now true at f later =
        let r = later f in
        record {
          before = u ∷ r.before;
          behind = r.behind;
          taken = ap (λ w. u ∷ w) r.taken;
          fine = λ w i. elim i [ inl e ↦ subst (IsIn made) e (is_among-in made u at) | inr j ↦ r.fine w j ];
          forged = r.forged;
        }
    now false at f later =
        let same : u ≡ t = some_same f in
        record { before = []; behind = texts; taken = ap (λ w. w ∷ texts) same; fine = λ w i. absurd i; forged = subst (λ w. IsIn made w → ⊥) same (among_not made u at) }

first_from : (made before behind : List (List ℕ)) (t : List ℕ) → ((u : List ℕ) → IsIn before u → IsIn made u) → (IsIn made t → ⊥) → first_forged_of made (before ++ t ∷ behind) ≡ Some t
first_from made [] behind t fine forged = now (is_among made t) refl
  where
    now : (b : Bool) → is_among made t ≡ b → (if b then first_forged_of made behind else Some t) ≡ Some t
    now true e = absurd (forged (is_among-in made t e))
    now false e = refl
first_from made (u ∷ before) behind t fine forged =
    ap (λ b. if b then first_forged_of made (before ++ t ∷ behind) else Some u) (in-is_among made u (fine u (inl refl))) ∙ first_from made before behind t (λ w i. fine w (inr i)) forged

forged_by : (g : Group) (h : List TraceStep) (u : ForgedText) → first_forged g h ≡ Some u → is_forged g h ≡ true
unfolding is_forged
forged_by g h u e = ap is_some e

forged_not : (g : Group) (h : List TraceStep) → first_forged g h ≡ None → is_forged g h ≡ true → ⊥
unfolding is_forged
forged_not g h e told = true≢false (sym told ∙ ap is_some e)

none_first : (g : Group) (h : List TraceStep) → (IsForged g h → ⊥) → first_forged g h ≡ None
none_first g h honest = now (first_forged g h) refl
  where
    now : (o : Option ForgedText) → first_forged g h ≡ o → first_forged g h ≡ None
    now None e = e
    now (Some u) e = absurd (honest ((is_forged-Decides g h).0 (forged_by g h u e)))

none_before : (g : Group) (h : List TraceStep) → first_forged g h ≡ None → IsForged g h → ⊥
none_before g h e f = forged_not g h e ((is_forged-Decides g h).1 f)

first_is : (g : Group) (h : List TraceStep) (u : ForgedText) → first_forged g h ≡ Some u → IsFirstForged g h u
unfolding first_forged
first_is g [] u e = absurd (none_is_some e)
first_is g (x ∷ past) u e = now (first_forged g past) refl e (first_is g past u)
  where
    later_on : IsFirstForged g past u → IsFirstForged g (x ∷ past) u
    later_on r = record { later = x ∷ r.later; x = r.x; past = r.past; is = ap (λ w. x ∷ w) r.is; step = r.step; before = r.before; behind = r.behind; taken = r.taken; made = r.made; forged = r.forged; first = r.first }

    here : first_forged g past ≡ None → (o : Option (List ℕ)) → first_forged_of (texts_made g past) (texts_taken g past x) ≡ o → forged_text_at (length (x ∷ past)) o ≡ Some u → IsFirstForged g (x ∷ past) u
    here none None at f = absurd (none_is_some f)
    here none (Some t) at f =
        let same : record { step = length (x ∷ past); text = t } ≡ u = some_same f in
        let r = first_to (texts_made g past) (texts_taken g past x) t at in
        subst (IsFirstForged g (x ∷ past)) same (record {
          later = [];
          x = x;
          past = past;
          is = refl;
          step = refl;
          before = r.before;
          behind = r.behind;
          taken = r.taken;
          made = r.fine;
          forged = r.forged;
          first = none_before g past none;
        })

    now : (o : Option ForgedText) → first_forged g past ≡ o → or_forged_text o (forged_text_at (length (x ∷ past)) (first_forged_of (texts_made g past) (texts_taken g past x))) ≡ Some u
        → (first_forged g past ≡ Some u → IsFirstForged g past u) → IsFirstForged g (x ∷ past) u
    now None none f before = here none (first_forged_of (texts_made g past) (texts_taken g past x)) refl f
    now (Some w) at f before = later_on (before (at ∙ f))

first_along : (g : Group) (later : List TraceStep) (x : TraceStep) (past : List TraceStep) (u : ForgedText) → first_forged g (x ∷ past) ≡ Some u → first_forged g (later ++ x ∷ past) ≡ Some u
unfolding first_forged
first_along g [] x past u e = e
first_along g (y ∷ later) x past u e =
    ap (λ o. or_forged_text o (forged_text_at (length (y ∷ (later ++ x ∷ past))) (first_forged_of (texts_made g (later ++ x ∷ past)) (texts_taken g (later ++ x ∷ past) y)))) (first_along g later x past u e)

is_first : (g : Group) (h : List TraceStep) (u : ForgedText) → IsFirstForged g h u → first_forged g h ≡ Some u
unfolding first_forged
is_first g h u r =
    let found : first_forged_of (texts_made g r.past) (texts_taken g r.past r.x) ≡ Some u.text = ap (first_forged_of (texts_made g r.past)) r.taken ∙ first_from (texts_made g r.past) r.before r.behind u.text r.made r.forged in
    let here : first_forged g (r.x ∷ r.past) ≡ Some u =
    ap (λ o. or_forged_text o (forged_text_at (length (r.x ∷ r.past)) (first_forged_of (texts_made g r.past) (texts_taken g r.past r.x)))) (none_first g r.past r.first)
    ∙ (ap (forged_text_at (length (r.x ∷ r.past))) found ∙ ap (λ n. Some (record { step = n; text = u.text })) (sym r.step)) in
    ap (first_forged g) r.is ∙ first_along g r.later r.x r.past u here

pub first_forged_is : FirstForgedIs
first_forged_is g h u = (first_is g h u, is_first g h u)

-- ---- the end of a print

stands_left : (a b piece : List ℕ) → StandsIn a piece → StandsIn (a ++ b) piece
stands_left a b piece s = record { before = s.before; behind = s.behind ++ b; is = ap (λ w. w ++ b) s.is ∙ (append_assoc s.before (piece ++ s.behind) b ∙ ap (λ w. s.before ++ w) (append_assoc piece s.behind b)) }

stands_right : (a b piece : List ℕ) → StandsIn b piece → StandsIn (a ++ b) piece
stands_right a b piece s = record { before = a ++ s.before; behind = s.behind; is = ap (λ w. a ++ w) s.is ∙ sym (append_assoc a s.before (piece ++ s.behind)) }

stands_whole : (a : List ℕ) → StandsIn a a
stands_whole a = record { before = []; behind = []; is = sym (append-nil a) }

-- what is made of one of the numbers stands in what is made of them all
stands_made : (f : ℕ → List ℕ) (first n k : ℕ) (piece : List ℕ) → first ≤ k → k < first + n → StandsIn (f k) piece → StandsIn (flat_map f (numbers_from first n)) piece
stands_made f first zero k piece low high s = absurd (omega arith)
stands_made f first (suc n) k piece low high s = now (cases_eq first k) (λ above. stands_made f (first + 1) n k piece above (omega (arith, high)) s)
  where
    now : (first ≡ k) ⊎ (first ≡ k → ⊥) → (first + 1 ≤ k → StandsIn (flat_map f (numbers_from (first + 1) n)) piece) → StandsIn (f first ++ flat_map f (numbers_from (first + 1) n)) piece
    now (inl e) later = stands_left (f first) (flat_map f (numbers_from (first + 1) n)) piece (subst (λ i. StandsIn (f i) piece) (sym e) s)
    now (inr apart) later = stands_right (f first) (flat_map f (numbers_from (first + 1) n)) piece (later (omega (arith, low, apart)))

module _ (g : Group) (h : List TraceStep) where
  abbrev lines : List ℕ
  lines = all_views g h ++ all_agreements g h

  has_view : (i : ℕ) → 0 < i → i ≤ g.count → StandsIn (end_text g h None) (view_lines g h i)
  has_view i low high =
      stands_left lines (tags_line (is_forged g h)) (view_lines g h i)
      (stands_left (all_views g h) (all_agreements g h) (view_lines g h i)
      (stands_made (view_lines g h) 1 g.count i (view_lines g h i) (omega arith) (omega (arith, high)) (stands_whole (view_lines g h i))))

  has_agreement : (i j : ℕ) → 0 < i → i < j → j ≤ g.count → StandsIn (end_text g h None) (agree_line g h i j)
  has_agreement i j low less high =
      stands_left lines (tags_line (is_forged g h)) (agree_line g h i j)
      (stands_right (all_views g h) (all_agreements g h) (agree_line g h i j)
      (stands_made (λ k. flat_map (agree_line g h k) (numbers_from (k + 1) (g.count - k))) 1 g.count i (agree_line g h i j) (omega arith) (omega (arith, less, high))
      (stands_made (agree_line g h i) (i + 1) (g.count - i) j (agree_line g h i j) (omega (arith, less)) (omega (arith, less, high)) (stands_whole (agree_line g h i j)))))

print_has : (p : ScriptRun) (piece : List ℕ) → p.bad ≡ None → StandsIn (end_text (group_in p.scene) (history_in p.scene) None) piece → StandsIn (print_of p) piece
unfolding print_of
print_has p piece good s = stands_right p.text (end_text (group_in p.scene) (history_in p.scene) p.bad) piece (subst (λ b. StandsIn (end_text (group_in p.scene) (history_in p.scene) b) piece) (sym good) s)

pub prints_have_views : PrintsHaveViews
prints_have_views script good i low high = print_has (run_of script) (view_lines (script_group script) (script_history script) i) good (has_view (script_group script) (script_history script) i low high)

pub prints_have_agreements : PrintsHaveAgreements
prints_have_agreements script good i j low less high =
    print_has (run_of script) (agree_line (script_group script) (script_history script) i j) good (has_agreement (script_group script) (script_history script) i j low less high)
