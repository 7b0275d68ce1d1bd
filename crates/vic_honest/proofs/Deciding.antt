-- A client decides of its call what the whole log below it makes of it.
use Rattle.std.proofs.Common.{◌≡◌, ℕ, ◌<◌, Bool, true, false, not, ◌&&◌, List, [], ◌∷◌, ◌++◌, length, Option, Some, None, inl, inr, refl, sym, ap, subst, ◌∙◌, arith, length-append}
use Rattle.std.specs.Prelude.{if◌then◌else◌, nat_eq, nat_lt}
use Rattle.std.specs.List.{filter, fold}
use Rattle.std.proofs.lemmas.List.Sums.{fold-append}
use Rattle.std.proofs.lemmas.Bool.{lt-ltb, cases_Bool}
use Rattle.vic_dict.specs.declared.op.Op.{Op}
use Rattle.vic_dict.specs.declared.op.Entry.{Entry}
use Rattle.vic_dict.specs.declared.op.Outcome.TheVariants as outcome
use Rattle.vic_dict.specs.Dictionary.{Dictionary, reply, after}
use Rattle.vic_wire.specs.Conflict.{conflicts}
use Rattle.vic_commute.proofs.Commuting.{Alike, alike_itself, after_same, other_after, reply_alike}
use Rattle.vic_wire.specs.Parts.{Part, walked}
use Rattle.vic_rules.specs.declared.state.Own.{Own}
use Rattle.vic_rules.specs.Client.{Standing, least_above, is_in_the_way, in_the_way, done_op, own_calls_over, decided_outcome, decision, is_done}
use Rattle.vic_order.specs.Order.{Ordered}
use Rattle.vic_order.specs.Fates.{entries, fate, dictionary_by}
use Rattle.vic_honest.proofs.Words.{length-entries}
use Rattle.vic_honest.proofs.Owns.{owns, owns-low, owns-mine, owns-other, own_of, above}
use Rattle.vic_laws.proofs.AnswersStand.{or_this_none}

-- the dictionary after one more entry
pub dictionary-next : (o : Ordered) (below : List Ordered) → dictionary_by (o ∷ below) ≡ (if is_done (fate o below) then after (dictionary_by below) o.entry.op else dictionary_by below)
unfolding dictionary_by fate
dictionary-next o below = refl

pub none_above : (base : ℕ) (test : ℕ → Entry → Bool) (e : Entry) (path : List Entry) → least_above base test (e ∷ path) ≡ None
    → (least_above base test path ≡ None) × ((if nat_lt base (length (e ∷ path)) && test (length (e ∷ path)) e then Some (length (e ∷ path)) else None) ≡ None)
unfolding least_above
none_above base test e path h = or_this_none (least_above base test path) (if nat_lt base (length (e ∷ path)) && test (length (e ∷ path)) e then Some (length (e ∷ path)) else None) h

pub not_chosen : (a b : Bool) (u : ℕ) → a ≡ true → (if a && b then Some u else None) ≡ None → b ≡ false
not_chosen a true u e h = let f = sym (ap (λ c. if c && true then Some u else None) e) ∙ h in absurd cc
not_chosen a false u e h = refl

pub no_conflict : (mine conflict : Bool) → mine ≡ false → (not mine && conflict) ≡ false → conflict ≡ false
no_conflict true conflict e h = absurd cc
no_conflict false conflict e h = h

-- what the own done calls alone leave on the base is alike, at the operation, to what all done calls leave
walk : (me : ℕ) (o : Op) (over base : List Ordered) → in_the_way me o (length base) (entries (over ++ base)) ≡ None
    → Alike o (fold done_op (dictionary_by base) (owns me (length base) (over ++ base))) (dictionary_by (over ++ base))
walk me o [] base free = subst (λ xs. Alike o (fold done_op (dictionary_by base) xs) (dictionary_by base)) (sym (owns-low me (length base) base (omega arith))) (alike_itself o (dictionary_by base))
walk me o (x ∷ over) base free =
    let below : List Ordered = over ++ base in
    let higher : length base < length (x ∷ below) = omega (arith, length-append over base) in
    let parts = none_above (length base) (is_in_the_way me o) x.entry (entries below) free in
    let lt : nat_lt (length base) (length (x.entry ∷ entries below)) ≡ true = lt-ltb (length base) (length (x.entry ∷ entries below)) (omega (arith, length-entries below)) in
    let away : is_in_the_way me o (length (x.entry ∷ entries below)) x.entry ≡ false = not_chosen (nat_lt (length base) (length (x.entry ∷ entries below))) (is_in_the_way me o (length (x.entry ∷ entries below)) x.entry) (length (x.entry ∷ entries below)) lt parts.1 in
    let rest = walk me o over base parts.0 in
    let d : Dictionary = fold done_op (dictionary_by base) (owns me (length base) below) in
    subst (λ e. Alike o (fold done_op (dictionary_by base) (owns me (length base) (x ∷ below))) e) (sym (dictionary-next x below))
    (elim (cases_Bool (nat_eq x.entry.client me)) [
      | inl mine ↦
          subst (λ xs. Alike o (fold done_op (dictionary_by base) xs) (if is_done (fate x below) then after (dictionary_by below) x.entry.op else dictionary_by below)) (sym (owns-mine me (length base) x below mine higher))
          (subst (λ e. Alike o e (if is_done (fate x below) then after (dictionary_by below) x.entry.op else dictionary_by below)) (sym (fold-append done_op (dictionary_by base) (owns me (length base) below) (own_of x below ∷ [])))
          (own_step d rest (is_done (fate x below))))
      | inr other ↦
          subst (λ xs. Alike o (fold done_op (dictionary_by base) xs) (if is_done (fate x below) then after (dictionary_by below) x.entry.op else dictionary_by below)) (sym (owns-other me (length base) x below other))
          (other_step d rest (no_conflict (nat_eq x.entry.client me) (conflicts x.entry.op o) other away) (is_done (fate x below)))
    ])
  where
    own_step : (d : Dictionary) → Alike o d (dictionary_by (over ++ base)) → (done : Bool)
        → Alike o (if done then after d x.entry.op else d) (if done then after (dictionary_by (over ++ base)) x.entry.op else dictionary_by (over ++ base))
    own_step d alike true = after_same o x.entry.op d (dictionary_by (over ++ base)) alike
    own_step d alike false = alike

    other_step : (d : Dictionary) → Alike o d (dictionary_by (over ++ base)) → conflicts x.entry.op o ≡ false → (done : Bool)
        → Alike o d (if done then after (dictionary_by (over ++ base)) x.entry.op else dictionary_by (over ++ base))
    other_step d alike apart true = other_after o x.entry.op d (dictionary_by (over ++ base)) apart alike
    other_step d alike apart false = alike

same_decided : (w : Option ℕ) (d e : Dictionary) (o : Op) → (w ≡ None → reply d o ≡ reply e o) → decided_outcome w d o ≡ decided_outcome w e o
same_decided None d e o same = ap outcome.Done (same refl)
same_decided (Some u) d e o same = refl

-- calls laid over what is alike leave what is alike
done_alike : (o x : Op) (d e : Dictionary) (done : Bool) → Alike o d e → Alike o (if done then after d x else d) (if done then after e x else e)
done_alike o x d e true alike = after_same o x d e alike
done_alike o x d e false alike = alike

fold_alike : (o : Op) (xs : List Own) (d e : Dictionary) → Alike o d e → Alike o (fold done_op d xs) (fold done_op e xs)
fold_alike o [] d e alike = alike
fold_alike o (x ∷ xs) d e alike = fold_alike o xs (done_op d x) (done_op e x) (done_alike o x.op d e x.done alike)

-- a client that lays its own calls above the base on the base's dictionary decides as the log does
pub decides : (me : ℕ) (t : Standing) (x : Ordered) (over base : List Ordered) (part : Part) → Alike x.entry.op (walked part x.entry.op) (dictionary_by base) → x.entry.client ≡ me → x.sealed_then ≡ length base
    → filter (above (length base)) t.own ≡ owns me (length base) (over ++ base)
    → decision me t (entries (over ++ base)) (length base) part x.entry.op ≡ fate x (over ++ base)
unfolding decision fate
decides me t x over base part shows client at_base own =
    same_decided (in_the_way me x.entry.op (length base) (entries (over ++ base))) (own_calls_over t.own (length base) (walked part x.entry.op)) (dictionary_by (over ++ base)) x.entry.op
    (λ free. reply_alike x.entry.op (own_calls_over t.own (length base) (walked part x.entry.op)) (dictionary_by (over ++ base))
    (λ k looks. fold_alike x.entry.op (filter (above (length base)) t.own) (walked part x.entry.op) (dictionary_by base) shows k looks
    ∙ subst (λ xs. Alike x.entry.op (fold done_op (dictionary_by base) xs) (dictionary_by (over ++ base))) (sym own) (walk me x.entry.op over base free) k looks))
    ∙ ap (λ i. decided_outcome (in_the_way i x.entry.op (length base) (entries (over ++ base))) (dictionary_by (over ++ base)) x.entry.op) (sym client)
    ∙ ap (λ n. decided_outcome (in_the_way x.entry.client x.entry.op n (entries (over ++ base))) (dictionary_by (over ++ base)) x.entry.op) (sym at_base)
