-- Own calls stand above the highest seal in the order of their positions, and the path goes at most 1,024 beyond it.
use Rattle.std.specs.Prelude.{◌≡◌, ℕ, ◌+◌, ◌<◌, ◌≤◌, List, [], ◌∷◌, ◌++◌, length}
use Rattle.std.specs.List.{AllByRecursion}
use Rattle.std.proofs.Common.{subst, sym, arith, length-append}
use Rattle.vic_dict.specs.declared.op.Entry.{Entry}
use Rattle.vic_wire.specs.Hashes.{Group}
use Rattle.vic_rules.specs.declared.state.Own.{Own}
use Rattle.vic_rules.specs.declared.trace.Input.{Input}
use Rattle.vic_rules.specs.Client.{Standing, Move, MayStep, step}
use Rattle.vic_laws.specs.Limits.{OwnStandAbove, PathsStayNear}
use Rattle.vic_laws.proofs.Words.{all_at}
use Rattle.vic_laws.proofs.Steps.{Kind, is_quiet, is_called, is_replied, is_updated, is_listed, StandsAbove, call_of}
use Rattle.vic_laws.proofs.StepKinds.{step_kind}
use Rattle.vic_laws.proofs.Paths.{at_each_standing}

-- positions above low, each above the one before, and none above high
abbrev Rise : ℕ → ℕ → List Own → Type 0
Rise low high [] = Unit {0}
Rise low high (o ∷ own) = (low < o.position) × (o.position ≤ high) × Rise o.position high own

all_above : (low high : ℕ) (own : List Own) → Rise low high own → AllByRecursion (StandsAbove low) own
all_above low high [] r = tt
all_above low high (o ∷ own) r = (r.0, weaker own (all_above o.position high own r.2))
  where
    weaker : (os : List Own) → AllByRecursion (StandsAbove o.position) os → AllByRecursion (StandsAbove low) os
    weaker [] a = tt
    weaker (q ∷ os) a = (omega (arith, r.0, a.0), weaker os a.1)

raised : (low base high : ℕ) (own : List Own) → Rise low high own → AllByRecursion (StandsAbove base) own → Rise base high own
raised low base high [] r a = tt
raised low base high (o ∷ own) r a = (a.0, r.1, r.2)

longer : (low high more : ℕ) (own : List Own) → high ≤ more → Rise low high own → Rise low more own
longer low high more [] le r = tt
longer low high more (o ∷ own) le r = (r.0, omega (arith, le, r.1), longer o.position high more own le r.2)

-- one more at the end
joined : (low high : ℕ) (own : List Own) (o : Own) → low < o.position → high < o.position → Rise low high own → Rise low o.position (own ++ o ∷ [])
joined low high [] o above far r = (above, omega arith, tt)
joined low high (q ∷ own) o above far r = (r.0, omega (arith, far, r.1), joined q.position high own o (omega (arith, far, r.1)) far r.2)

record StaysNear (s : Standing) : Type 0 where
  own : Rise s.sealed (length s.path) s.own
  path : length s.path ≤ s.sealed + 1024

near_kept : (g : Group) (me : ℕ) (s : Standing) (i : Input) (v : Move) → Kind g me s i v → StaysNear s → StaysNear v.next
near_kept g me s i v (is_quiet k) n = record {
  own = subst (Rise v.next.sealed (length v.next.path)) (sym k.own) (subst (λ low. Rise low (length v.next.path) s.own) (sym k.sealed) (subst (λ (p : List Entry). Rise s.sealed (length p) s.own) (sym k.path) n.own));
  path = subst (λ low. length v.next.path ≤ low + 1024) (sym k.sealed) (subst (λ (p : List Entry). length p ≤ s.sealed + 1024) (sym k.path) n.path);
}
near_kept g me s i v (is_called k) n = subst (λ (w : Move). StaysNear w.next) (sym k.moved) (record { own = n.own; path = n.path })
near_kept g me s i v (is_replied k) n =
    let p : List Entry = call_of me k.seq k.op ∷ (k.others ++ s.path) in
    let size : length (k.others ++ s.path) ≡ length k.others + length s.path = length-append k.others s.path in
    subst (λ (w : Move). StaysNear w.next) (sym k.moved) (record {
      own = joined k.seal.position (length s.path) s.own _ k.below (omega (arith, size)) (raised s.sealed k.seal.position (length s.path) s.own n.own k.sealing.own);
      path = k.near;
    })
near_kept g me s i v (is_updated k) n =
    let r : Rise s.sealed (length s.path) (k.first ∷ k.rest) = subst (Rise s.sealed (length s.path)) k.own_is n.own in
    let goes : s.sealed ≤ k.seal.position = k.sealing.goes in
    subst (λ (w : Move). StaysNear w.next) (sym k.moved) (record {
      own = subst (λ low. Rise low (length s.path) k.rest) k.next_is r.2;
      path = omega (arith, goes, n.path);
    })
near_kept g me s i v (is_listed k) n =
    let size : length (k.others ++ s.path) ≡ length k.others + length s.path = length-append k.others s.path in
    subst (λ (w : Move). StaysNear w.next) (sym k.moved) (record {
      own = longer k.seal.position (length s.path) (length (k.others ++ s.path)) s.own (omega (arith, size)) (raised s.sealed k.seal.position (length s.path) s.own n.own k.sealing.own);
      path = k.near;
    })

abbrev Near : ℕ → Standing → Type 0
Near me s = StaysNear s

all_near : (g : Group) (me : ℕ) (s : Standing) (i : Input) → MayStep g s i → StaysNear s → StaysNear (step g me s i).next
all_near g me s i may n = near_kept g me s i (step g me s i) (step_kind g me s i may) n

pub own_stand_above : OwnStandAbove
own_stand_above g h lawful me o i =
    let n = at_each_standing g Near (λ j. record { own = tt; path = omega arith }) (all_near g) h lawful.steps me in
    all_at (StandsAbove _) _ o (all_above _ _ _ n.own) i

pub paths_stay_near : PathsStayNear
paths_stay_near g h lawful me = (at_each_standing g Near (λ j. record { own = tt; path = omega arith }) (all_near g) h lawful.steps me).path
