-- The answer of a call that is done doesn't depend on which entries of others between the seal and the call take effect.
use Rattle.std.specs.Prelude.{◌≡◌, ℕ, ◌<◌, ◌≤◌, ◌⊎◌, Bool, true, false, not, ◌&&◌, List, [], ◌∷◌, length, Option, Some, None, nat_lt, if◌then◌else◌}
use Rattle.std.proofs.Common.{refl, ap, subst, subst₂, sym, ◌∙◌, inl, inr, arith, lt-ltb, le-ltb, ne_eqb, true≢false}
use Rattle.std.proofs.lemmas.Bool.{cases_eq, cases_lt}
use Rattle.vic_dict.specs.declared.op.Op.{Op}
use Rattle.vic_dict.specs.declared.op.Entry.{Entry}
use Rattle.vic_dict.specs.declared.op.Answer.{Answer}
use Rattle.vic_dict.specs.declared.op.Outcome.TheVariants as outcome
use Rattle.vic_dict.specs.Dictionary.{Dictionary, reply, after}
use Rattle.vic_wire.specs.Conflict.{conflicts, blocks}
use Rattle.vic_wire.specs.Parts.{walked}
use Rattle.vic_rules.specs.Client.{or_this, least_above, is_in_the_way, in_the_way, decided_outcome}
use Rattle.vic_rules.specs.History.{Completion, completions}
use Rattle.vic_rules.specs.Views.{confirmation}
use Rattle.vic_commute.proofs.Heeding.{HeededAlike, heeded_itself, same_after, unblocked_after, heeded_reply, apart_unblocked}
use Rattle.vic_laws.specs.OrderClaims.{effect_of, was_done, PicksOwn, AnswersStand}
use Rattle.vic_laws.proofs.Words.{some_same}
use Rattle.vic_laws.proofs.OwnLaid.{own_laid, laid_own, laid_other, laid_below}
use Rattle.vic_laws.proofs.Decisions.{done_by_none, decided_over}

-- ---- what stands in the way

pub or_this_none : (a b : Option ℕ) → or_this a b ≡ None → (a ≡ None) × (b ≡ None)
or_this_none None b e = (refl, e)
or_this_none (Some u) b e = absurd cc

chosen_none : (b : Bool) (n : ℕ) → (if b then Some n else None) ≡ None → b ≡ false
chosen_none true n e = absurd cc
chosen_none false n e = refl

-- where nothing above the base passes the test, nothing does below the newest entry, and neither does that one
none_above : (base : ℕ) (test : ℕ → Entry → Bool) (e : Entry) (p : List Entry) → least_above base test (e ∷ p) ≡ None → (least_above base test p ≡ None) × (base < length (e ∷ p) → test (length (e ∷ p)) e ≡ false)
unfolding least_above
none_above base test e p none =
    let both = or_this_none (least_above base test p) _ none in
    (both.0, λ above. ap (λ b. b && test (length (e ∷ p)) e) (sym (lt-ltb base (length (e ∷ p)) above)) ∙ chosen_none (nat_lt base (length (e ∷ p)) && test (length (e ∷ p)) e) (length (e ∷ p)) both.1)

-- another client's entry that isn't in the way doesn't conflict
not_in_the_way : (me : ℕ) (o : Op) (position : ℕ) (e : Entry) → (e.client ≡ me → ⊥) → is_in_the_way me o position e ≡ false → conflicts e.op o ≡ false
not_in_the_way me o position e other none = ap (λ b. not b && conflicts e.op o) (sym (ne_eqb e.client me other)) ∙ none

-- ---- what a choice leaves

-- an entry above the base takes effect where it is picked
pub effect_above : (picks : List Entry → Bool) (base : ℕ) (d : Dictionary) (e : Entry) (p : List Entry) → base < length (e ∷ p)
    → effect_of picks base d (e ∷ p) ≡ (if picks (e ∷ p) then after (effect_of picks base d p) e.op else effect_of picks base d p)
unfolding effect_of
effect_above picks base d e p above = ap (λ b. if b && picks (e ∷ p) then after (effect_of picks base d p) e.op else effect_of picks base d p) (lt-ltb base (length (e ∷ p)) above)

-- what isn't above the base takes none
pub effect_below : (picks : List Entry → Bool) (base : ℕ) (d : Dictionary) (p : List Entry) → length p ≤ base → effect_of picks base d p ≡ d
unfolding effect_of
effect_below picks base d [] le = refl
effect_below picks base d (e ∷ p) le =
    ap (λ b. if b && picks (e ∷ p) then after (effect_of picks base d p) e.op else effect_of picks base d p) (le-ltb base (length (e ∷ p)) le)
    ∙ effect_below picks base d p (omega (arith, le))

-- ---- the walk along a path

both_done : (o : Op) (a b : Dictionary) (e : Entry) (done : Bool) → HeededAlike o a b → HeededAlike o (if done then after a e.op else a) (if done then after b e.op else b)
both_done o a b e true alike = same_after o e.op a b alike
both_done o a b e false alike = alike

one_done : (o : Op) (a b : Dictionary) (e : Entry) (done : Bool) → (blocks e.op o ≡ false) ⊎ (done ≡ false) → HeededAlike o a b → HeededAlike o a (if done then after b e.op else b)
one_done o a b e true (inl away) alike = unblocked_after o e.op a b away alike
one_done o a b e true (inr none) alike = absurd (true≢false none)
one_done o a b e false away alike = alike

-- each entry of others above the base doesn't block the operation, or isn't picked
abbrev pub LeavesAlone : ℕ → Op → ℕ → (List Entry → Bool) → List Entry → Type 0
LeavesAlone me o base picks [] = Unit {0}
LeavesAlone me o base picks (e ∷ p) = (base < length (e ∷ p) → (e.client ≡ me → ⊥) → (blocks e.op o ≡ false) ⊎ (picks (e ∷ p) ≡ false)) × LeavesAlone me o base picks p

-- where nothing conflicts above the base, each of them leaves alone, whatever is picked
leaves_alone : (me : ℕ) (o : Op) (base : ℕ) (picks : List Entry → Bool) (p : List Entry) → in_the_way me o base p ≡ None → LeavesAlone me o base picks p
leaves_alone me o base picks [] none = tt
leaves_alone me o base picks (e ∷ p) none =
    let both = none_above base (is_in_the_way me o) e p none in
    ((λ above other. inl (apart_unblocked e.op o (not_in_the_way me o (length (e ∷ p)) e other (both.1 above)))), leaves_alone me o base picks p both.0)

-- the own calls over a dictionary, and any choice that picks those, are alike to an operation that the entries of others leave alone
walk : (o : Op) (me base : ℕ) (cs : List Completion) (d : Dictionary) (picks : List Entry → Bool) → PicksOwn cs me picks → (p : List Entry) → LeavesAlone me o base picks p
    → HeededAlike o (own_laid cs me base d p) (effect_of picks base d p)
walk o me base cs d picks own [] alone = subst₂ (HeededAlike o) (sym (laid_below cs me base d [] (omega arith))) (sym (effect_below picks base d [] (omega arith))) (heeded_itself o d)
walk o me base cs d picks own (e ∷ p) alone = now (cases_lt base (length (e ∷ p))) (walk o me base cs d picks own p alone.1)
  where
    step : base < length (e ∷ p) → (e.client ≡ me) ⊎ (e.client ≡ me → ⊥) → HeededAlike o (own_laid cs me base d p) (effect_of picks base d p)
        → HeededAlike o (own_laid cs me base d (e ∷ p)) (if picks (e ∷ p) then after (effect_of picks base d p) e.op else effect_of picks base d p)
    step above (inl mine) alike =
        subst₂ (λ w b. HeededAlike o w (if b then after (effect_of picks base d p) e.op else effect_of picks base d p)) (sym (laid_own cs me base d e p above mine)) (sym (own e p mine))
        (both_done o (own_laid cs me base d p) (effect_of picks base d p) e (was_done (confirmation cs (e ∷ p))) alike)
    step above (inr other) alike =
        subst (λ w. HeededAlike o w (if picks (e ∷ p) then after (effect_of picks base d p) e.op else effect_of picks base d p)) (sym (laid_other cs me base d e p other))
        (one_done o (own_laid cs me base d p) (effect_of picks base d p) e (picks (e ∷ p)) (alone.0 above other) alike)

    now : (base < length (e ∷ p)) ⊎ (length (e ∷ p) ≤ base) → HeededAlike o (own_laid cs me base d p) (effect_of picks base d p) → HeededAlike o (own_laid cs me base d (e ∷ p)) (effect_of picks base d (e ∷ p))
    now (inl above) alike = subst (HeededAlike o (own_laid cs me base d (e ∷ p))) (sym (effect_above picks base d e p above)) (step above (cases_eq e.client me) alike)
    now (inr up) alike = subst₂ (HeededAlike o) (sym (laid_below cs me base d (e ∷ p) up)) (sym (effect_below picks base d (e ∷ p) up)) (heeded_itself o d)

-- what is alike to an operation stays so under any choice
pub effects_alike : (o : Op) (picks : List Entry → Bool) (base : ℕ) (a b : Dictionary) → HeededAlike o a b → (p : List Entry) → HeededAlike o (effect_of picks base a p) (effect_of picks base b p)
unfolding effect_of
effects_alike o picks base a b alike [] = alike
effects_alike o picks base a b alike (e ∷ p) = both_done o (effect_of picks base a p) (effect_of picks base b p) e (nat_lt base (length (e ∷ p)) && picks (e ∷ p)) (effects_alike o picks base a b alike p)

-- so they answer alike
pub reply_stands : (o : Op) (me base : ℕ) (cs : List Completion) (d : Dictionary) (picks : List Entry → Bool) → PicksOwn cs me picks → (p : List Entry) → in_the_way me o base p ≡ None
    → reply (own_laid cs me base d p) o ≡ reply (effect_of picks base d p) o
reply_stands o me base cs d picks own p none =
    heeded_reply o (own_laid cs me base d p) (effect_of picks base d p) (walk o me base cs d picks own p (leaves_alone me o base picks p none))

-- ---- the law

-- what is done answers as the dictionary that it is decided over
done_answers : (u : Option ℕ) (d : Dictionary) (o : Op) (a : Answer) → decided_outcome u d o ≡ outcome.Done a → a ≡ reply d o
done_answers None d o a e = cc
done_answers (Some u) d o a e = absurd cc

pub answers_stand : AnswersStand
answers_stand g h lawful later x past whole seal entries bytes t e below path_is a returned part is_part picks own =
    let d = decided_over g h lawful.steps later x past whole seal entries bytes t e below path_is in
    let laid = own_laid (completions g h) x.client seal.position (walked d.part e.op) below in
    let u = in_the_way x.client e.op seal.position below in
    let done : decided_outcome u laid e.op ≡ outcome.Done a = some_same (sym d.returned ∙ returned) in
    done_answers u laid e.op a done
    ∙ (reply_stands e.op x.client seal.position (completions g h) (walked d.part e.op) picks own below (done_by_none u laid e.op a done)
    ∙ ap (λ w. reply (effect_of picks seal.position (walked w e.op) below) e.op) (some_same (sym d.is_part ∙ is_part)))
