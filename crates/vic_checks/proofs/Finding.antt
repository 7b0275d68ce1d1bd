-- What own calls leave under a key, and in a dictionary.
use Rattle.std.specs.Prelude.{◌≡◌, ℕ, ◌<◌, Bool, true, false, cond, ◌&&◌, List, [], ◌∷◌, length, drop, Option, Some, None, is_some, nat_lt, if◌then◌else◌}
use Rattle.std.specs.FinMap as map
use Rattle.std.proofs.Common.{refl, ap, sym, ◌∙◌, arith, true≢false}
use Rattle.std.proofs.lemmas.Cmp.{nat_list_cmp_total}
use Rattle.std.proofs.lemmas.Map.Text.{is_eq-slice_cmp}
use Rattle.vic_dict.specs.declared.op.Op.{Op}
use Rattle.vic_dict.specs.declared.op.Op.TheVariants as op
use Rattle.vic_dict.specs.declared.op.Outcome.TheVariants as outcome
use Rattle.vic_dict.specs.Dictionary.{Dictionary, after, reply, answer_of_get, answer_of_del}
use Rattle.vic_rules.specs.declared.state.Own.{Own}
use Rattle.vic_dict.specs.declared.op.Entry.{Entry}
use Rattle.vic_wire.specs.declared.message.Seal.{Seal}
use Rattle.vic_wire.specs.declared.message.Tagged.{Tagged}
use Rattle.vic_wire.specs.Parts.{Part, walked}
use Rattle.vic_rules.specs.declared.state.Awaiting.{Awaiting}
use Rattle.vic_rules.specs.declared.state.Awaiting.TheVariants as awaits
use Rattle.vic_rules.specs.Client.{Standing, onto, own_calls_over, in_the_way, decision, loads_reference, done_op, decided_outcome, finds_reference}
use Rattle.vic_checks.specs.Finding.{leaves_at, left_at}

get_after : (o : Op) (d : Dictionary) (q : List ℕ) → map.get (after d o) q ≡ leaves_at o q (map.get d q)
get_after (op.Put k v) d q = map.get-insert nat_list_cmp_total d k v q ∙ ap (λ b. cond b (Some v) (map.get d q)) (is_eq-slice_cmp q k)
get_after (op.Get k) d q = refl
get_after (op.Del k) d q = map.get-remove nat_list_cmp_total d k q ∙ ap (λ b. cond b None (map.get d q)) (is_eq-slice_cmp q k)
get_after (op.List p) d q = refl

-- an own call is done again where it stands above the position
pub left_is : (base : ℕ) (o : Own) (q : List ℕ) (d : Dictionary) → left_at base o q (map.get d q) ≡ map.get (if nat_lt base o.position then done_op d o else d) q
left_is base o q d = now (nat_lt base o.position) o.done
  where
    now : (a b : Bool) → (if a && b then leaves_at o.op q (map.get d q) else map.get d q) ≡ map.get (if a then (if b then after d o.op else d) else d) q
    now true true = sym (get_after o.op d q)
    now true false = refl
    now false b = refl

-- only a get finds a value
pub only_gets_find : (u : Option ℕ) (d : Dictionary) (o : Op) → ((k : List ℕ) → o ≡ op.Get k → ⊥) → finds_reference (decided_outcome u d o) ≡ true
only_gets_find (Some u) d o other = refl
only_gets_find None d (op.Put k v) other = refl
only_gets_find None d (op.Get k) other = absurd (other k refl)
only_gets_find None d (op.Del k) other = gone_finds (map.get d k)
  where
    gone_finds : (x : Option (List ℕ)) → finds_reference (outcome.Done (answer_of_del x)) ≡ true
    gone_finds None = refl
    gone_finds (Some v) = refl
only_gets_find None d (op.List p) other = refl

-- ---- what a decision finds

decided_some : (u : Option ℕ) (d : Dictionary) (o : Op) → is_some u ≡ true → finds_reference (decided_outcome u d o) ≡ true
decided_some (Some u) d o e = refl
decided_some None d o e = absurd (true≢false (sym e))

-- an aborted call finds nothing
pub aborted_finds : (me : ℕ) (s : Standing) (below : List Entry) (base : ℕ) (part : Part) (o : Op) → is_some (in_the_way me o base below) ≡ true → finds_reference (decision me s below base part o) ≡ true
unfolding decision
aborted_finds me s below base part o e = decided_some (in_the_way me o base below) (own_calls_over s.own base (walked part o)) o e

decided_get : (u : Option ℕ) (d : Dictionary) (o : Op) (k : List ℕ) (x : Option (List ℕ)) → is_some u ≡ false → o ≡ op.Get k → map.get d k ≡ x → finds_reference (decided_outcome u d o) ≡ finds_reference (outcome.Done (answer_of_get x))
decided_get (Some u) d o k x e is gets = absurd (true≢false e)
decided_get None d o k x e is gets = ap (λ q. finds_reference (outcome.Done (reply d q))) is ∙ ap (λ y. finds_reference (outcome.Done (answer_of_get y))) gets

-- a get that nothing stands in the way of finds what the own calls leave
pub get_finds : (me : ℕ) (s : Standing) (below : List Entry) (base : ℕ) (part : Part) (o : Op) (k : List ℕ) (own : List Own) (x : Option (List ℕ)) → is_some (in_the_way me o base below) ≡ false → o ≡ op.Get k
    → s.own ≡ own → map.get (own_calls_over own base (walked part (op.Get k))) k ≡ x → finds_reference (decision me s below base part o) ≡ finds_reference (outcome.Done (answer_of_get x))
unfolding decision
get_finds me s below base part o k own x e is same gets =
    decided_get (in_the_way me o base below) (own_calls_over s.own base (walked part o)) o k x e is (ap (λ q. map.get (own_calls_over s.own base (walked part q)) k) is ∙ (ap (λ w. map.get (own_calls_over w base (walked part (op.Get k))) k) same ∙ gets))

-- any other call finds no value
pub others_find : (me : ℕ) (s : Standing) (below : List Entry) (base : ℕ) (part : Part) (o : Op) → ((k : List ℕ) → o ≡ op.Get k → ⊥) → finds_reference (decision me s below base part o) ≡ true
unfolding decision
others_find me s below base part o other = only_gets_find (in_the_way me o base below) (own_calls_over s.own base (walked part o)) o other

-- a Reply to a load: its last entry is left out
pub load_finds : (me : ℕ) (s : Standing) (seal : Seal) (path : List Entry) (found : Option Part) (part : Part) (a : Awaiting) (n : ℕ) (o : Op) → 0 < length path → found ≡ Some part → a ≡ awaits.Reply n o true
    → loads_reference me s seal path found a ≡ finds_reference (decision me s (drop 1 path) seal.position part o)
load_finds me s seal [] found part a n o some is awaited = absurd (omega (arith, some))
load_finds me s seal (e ∷ below) found part a n o some is awaited = ap (λ f. loads_reference me s seal (e ∷ below) f a) is ∙ ap (λ w. loads_reference me s seal (e ∷ below) (Some part) w) awaited

pub grown_some : (ts : List Tagged) (p : List Entry) → 0 < length ts → 0 < length (onto ts p)
grown_some [] p h = absurd (omega (arith, h))
grown_some (t ∷ ts) p h = longer ts (t.entry ∷ p) (omega arith)
  where
    longer : (us : List Tagged) (q : List Entry) → 0 < length q → 0 < length (onto us q)
    longer [] q l = l
    longer (u ∷ us) q l = longer us (u.entry ∷ q) (omega arith)
