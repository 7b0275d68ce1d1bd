-- What a client decides of its call when it takes the Reply: done where nothing is in the way, and else aborted by the least that is.
use Rattle.std.proofs.Common.{◌≡◌, ℕ, ◌++◌, ◌∷◌, List, Option, Some, None, refl, sym, ◌∙◌, ap, subst, subst₂}
use Rattle.vic_dict.specs.declared.op.Op.{Op}
use Rattle.vic_dict.specs.declared.op.Answer.{Answer}
use Rattle.vic_dict.specs.declared.op.Entry.{Entry}
use Rattle.vic_dict.specs.declared.op.Outcome.TheVariants as outcome
use Rattle.vic_dict.specs.Dictionary.{Dictionary}
use Rattle.vic_wire.specs.declared.message.Seal.{Seal}
use Rattle.vic_wire.specs.declared.message.Tagged.{Tagged}
use Rattle.vic_wire.specs.declared.message.ToClient.TheVariants as say
use Rattle.vic_wire.specs.Hashes.{Group}
use Rattle.vic_rules.specs.declared.trace.TraceStep.{TraceStep}
use Rattle.vic_rules.specs.Client.{is_in_the_way, in_the_way, decided_outcome, decision}
use Rattle.vic_rules.specs.History.{standing, path, move_of, AreSteps, IsStep, Completion, completions}
use Rattle.vic_rules.specs.Trust.{answer_taken}
use Rattle.vic_wire.specs.Parts.{Part, read_part, walked}
use Rattle.vic_laws.specs.OrderClaims.{PassesAt, BlocksAt, DoneMeetsNoConflict, AbortedByTheLeast}
use Rattle.vic_wire.specs.Conflict.{conflicts}
use Rattle.std.proofs.lemmas.Bool.{and_parts, and_from, eq-eqb, ne_eqb}
use Rattle.std.specs.Prelude.{◌≢◌, ◌<◌, true, not, nat_eq}
use Rattle.vic_laws.proofs.Words.{some_same, none_is_some}
use Rattle.vic_laws.proofs.Steps.{Kind, is_quiet, is_called, is_replied, is_updated, is_listed, call_of}
use Rattle.vic_laws.proofs.Standings.{standing_moved, earlier_steps}
use Rattle.vic_laws.proofs.Calls.{RepliedAt, kind_of}
use Rattle.vic_laws.proofs.OwnLaid.{own_laid, lays_at}
use Rattle.vic_laws.proofs.SameOp.{least_above_tells, none_above_tells}

-- ---- what a decision tells

-- what is done had nothing in the way
pub done_by_none : (u : Option ℕ) (d : Dictionary) (o : Op) (a : Answer) → decided_outcome u d o ≡ outcome.Done a → u ≡ None
done_by_none None d o a e = refl
done_by_none (Some u) d o a e = absurd cc

-- what is aborted had this position in the way
pub aborted_by_some : (u : Option ℕ) (d : Dictionary) (o : Op) (v : ℕ) → decided_outcome u d o ≡ outcome.Aborted v → u ≡ Some v
aborted_by_some None d o v e = absurd cc
aborted_by_some (Some u) d o v e = cc

-- ---- the Reply that was taken

same_reply : (s z : Seal) (ts us : List Tagged) (p q : List ℕ) → say.Reply s ts p ≡ say.Reply z us q → (s ≡ z) × (p ≡ q)
same_reply s z ts us p q e = (cc, cc)

-- a Reply that a client took is the Reply to its call
pub reply_taken : (g : Group) (x : TraceStep) (past : List TraceStep) → Kind g x.client (standing g x.client past) x.input (move_of g past x) → (seal : Seal) (entries : List Tagged) (part : List ℕ)
    → answer_taken g past x ≡ Some (say.Reply seal entries part) → (r : RepliedAt g past x) × ((r.seal ≡ seal) × (r.bytes ≡ part))
unfolding answer_taken
reply_taken g x past (is_quiet k) seal entries part t = absurd (none_is_some (sym (k.seals_nothing (say.Reply seal entries part) t).0))
reply_taken g x past (is_called k) seal entries part t = absurd (let e = k.takes (say.Reply seal entries part) t in cc)
reply_taken g x past (is_replied k) seal entries part t = (k, same_reply k.seal seal k.entries entries k.bytes part (some_same (sym k.takes ∙ t)))
reply_taken g x past (is_updated k) seal entries part t = absurd (let e = some_same (sym k.takes ∙ t) in cc)
reply_taken g x past (is_listed k) seal entries part t = absurd (let e = some_same (sym k.takes ∙ t) in cc)

-- a step returned what is decided of this call over the path below it and the part of these bytes, with the own done calls above this position laid over it
pub record DecidedOver (cs : List Completion) (x : TraceStep) (position : ℕ) (bytes : List ℕ) (e : Entry) (below : List Entry) : Type 0 where
  pub part : Part
  pub is_part : read_part bytes ≡ Some part
  pub returned : x.returned ≡ Some (decided_outcome (in_the_way x.client e.op position below) (own_laid cs x.client position (walked part e.op) below) e.op)

pub same_parts : (a b : Entry) (p q : List Entry) → a ∷ p ≡ b ∷ q → (a ≡ b) × (p ≡ q)
same_parts a b p q e = (cc, cc)

-- a step that took a Reply decided so
pub decided_over : (g : Group) (h : List TraceStep) → AreSteps g h → (later : List TraceStep) (x : TraceStep) (past : List TraceStep) → h ≡ later ++ x ∷ past
    → (seal : Seal) (entries : List Tagged) (bytes : List ℕ) → answer_taken g past x ≡ Some (say.Reply seal entries bytes) → (e : Entry) (below : List Entry) → path g x.client (x ∷ past) ≡ e ∷ below
    → DecidedOver (completions g h) x seal.position bytes e below
unfolding decision
decided_over g h lawful later x past whole seal entries bytes t e below path_is = now (reply_taken g x past (kind_of g past x is) seal entries bytes t)
  where
    is : IsStep g past x
    is = (earlier_steps g later (x ∷ past) (subst (AreSteps g) whole lawful)).1

    now : (r : RepliedAt g past x) × ((r.seal ≡ seal) × (r.bytes ≡ bytes)) → DecidedOver (completions g h) x seal.position bytes e below
    now (r, s) =
        let grown : path g x.client (x ∷ past) ≡ call_of x.client r.seq r.op ∷ (r.others ++ path g x.client past) =
        ap (λ w. w.path) (standing_moved g x.client x past refl) ∙ ap (λ v. v.next.path) r.moved in
        let same = same_parts (call_of x.client r.seq r.op) e (r.others ++ path g x.client past) below (sym grown ∙ path_is) in
        subst₂ (λ z b. DecidedOver (completions g h) x z.position b e below) s.0 s.1
        (subst₂ (DecidedOver (completions g h) x r.seal.position r.bytes) same.0 same.1 (record {
          part = r.part;
          is_part = r.is_part;
          returned = is.returned ∙ (ap (λ v. v.returns) r.moved ∙ ap (λ d. Some (decided_outcome (in_the_way x.client r.op r.seal.position (r.others ++ path g x.client past)) d r.op)) (lays_at g h lawful later x past whole r));
        }))

-- ---- what is in the way

pub other_client : (a b : ℕ) → not (nat_eq a b) ≡ true → a ≢ b
other_client a b e same = let equal : nat_eq a b ≡ true = eq-eqb a b same in absurd cc

-- the client's test and the words of conflicts say the same
pub blocks : (me : ℕ) (o : Op) (base : ℕ) (path : List Entry) (u : ℕ) → base < u → PassesAt (is_in_the_way me o) path u → BlocksAt me o base path u
blocks me o base path u above h =
    let both = and_parts (not (nat_eq h.entry.client me)) (conflicts h.entry.op o) h.passes in
    record { above = above; within = h.within; entry = h.entry; there = h.there; other = other_client h.entry.client me both.0; conflict = both.1 }

pub passes : (me : ℕ) (o : Op) (base : ℕ) (path : List Entry) (u : ℕ) → BlocksAt me o base path u → PassesAt (is_in_the_way me o) path u
passes me o base path u h = record {
  within = h.within;
  entry = h.entry;
  there = h.there;
  passes = and_from (not (nat_eq h.entry.client me)) (conflicts h.entry.op o) (ap not (ne_eqb h.entry.client me h.other)) h.conflict;
}

-- ---- the laws

-- a call that is done meets no conflict above the seal of its Reply
pub done_meets_no_conflict : DoneMeetsNoConflict
done_meets_no_conflict g h lawful later x past whole seal entries part t e below path_is a returned u b =
    let d = decided_over g h lawful.steps later x past whole seal entries part t e below path_is in
    (none_above_tells seal.position (is_in_the_way x.client e.op) below).0
    (done_by_none (in_the_way x.client e.op seal.position below) (own_laid (completions g h) x.client seal.position (walked d.part e.op) below) e.op a (some_same (sym d.returned ∙ returned)))
    u b.above (passes x.client e.op seal.position below u b)

-- a call is aborted exactly by the least position of a conflict above the seal of its Reply
pub aborted_by_the_least : AbortedByTheLeast
aborted_by_the_least g h lawful later x past whole seal entries part t e below path_is u =
    let d = decided_over g h lawful.steps later x past whole seal entries part t e below path_is in
    let tells = least_above_tells seal.position _ below u in (
      λ returned. tells.0 (aborted_by_some (in_the_way x.client e.op seal.position below) (own_laid (completions g h) x.client seal.position (walked d.part e.op) below) e.op u (some_same (sym d.returned ∙ returned))),
      λ least. d.returned ∙ ap (λ w. Some (decided_outcome w (own_laid (completions g h) x.client seal.position (walked d.part e.op) below) e.op)) (tells.1 least),
    )
