-- How what a server keeps true goes on with each change.
use Rattle.std.proofs.Common.{◌≡◌, ℕ, zero, suc, ◌+◌, ◌-◌, ◌<◌, ◌≤◌, Bool, true, false, cond, List, [], ◌∷◌, ◌++◌, length, set, get_or, reverse, replicate, Option, Some, None, refl, sym, ap, subst, ◌∙◌, arith, nat_eq}
use Rattle.std.specs.Prelude.{slice_get}
use Rattle.std.proofs.lemmas.List.{reverse-append, length-set, length-replicate, length_push}
use Rattle.vic_dict.specs.declared.op.Op.{Op}
use Rattle.std.specs.List.{sum_by}
use Rattle.std.specs.FinMap as map
use Rattle.std.proofs.lemmas.Option.{slice_get_past}
use Rattle.vic_dict.specs.Dictionary.{Dictionary, nothing}
use Rattle.vic_dict.proofs.Rows.{no_rows, rows_of}
use Rattle.vic_wire.specs.declared.message.Seal.{Seal}
use Rattle.vic_order.specs.declared.Stage.{Stage}
use Rattle.vic_order.specs.declared.Stage.TheVariants as stage
use Rattle.vic_order.specs.Order.{Ordered, Committed, Member, commit_in, op_weight, unsealed_weight}
use Rattle.vic_server.specs.Keeping.{IsSound, IsWithin, AreWithin, status_in, or_nothing, pairs_weight}
use Rattle.vic_server.proofs.Logs.{unsealed_weight-more, unsealed_weight-next}
use Rattle.vic_server.proofs.Weights.{row_weight}

-- ---- the index

set_here : {X : Type 0} (xs : List X) (i : ℕ) (x : X) → i < length xs → slice_get (set xs i x) i ≡ Some x
set_here [] i x lt = absurd (omega arith)
set_here (y ∷ xs) zero x lt = refl
set_here (y ∷ xs) (suc i) x lt = set_here xs i x (omega arith)

set_elsewhere : {X : Type 0} (xs : List X) (i j : ℕ) (x : X) → (j ≡ i → ⊥) → slice_get (set xs i x) j ≡ slice_get xs j
set_elsewhere [] i j x apart = refl
set_elsewhere (y ∷ xs) zero zero x apart = absurd (apart refl)
set_elsewhere (y ∷ xs) zero (suc j) x apart = refl
set_elsewhere (y ∷ xs) (suc i) zero x apart = refl
set_elsewhere (y ∷ xs) (suc i) (suc j) x apart = set_elsewhere xs i j x (λ e. apart (ap suc e))

pushed_none : (xs : List (Option Bool)) (place : ℕ) → status_in (xs ++ None ∷ []) place ≡ status_in xs place
pushed_none [] zero = refl
pushed_none [] (suc place) = refl
pushed_none (x ∷ xs) zero = refl
pushed_none (x ∷ xs) (suc place) = pushed_none xs place

-- ---- where clients stand

within_more : (n k : ℕ) (s : Stage) → n ≤ k → IsWithin n s → IsWithin k s
within_more n k stage.Away le h = h
within_more n k stage.Ready le h = h
within_more n k (stage.Open t) le h = omega (arith, le, h)
within_more n k stage.Left le h = h

pub all_within_more : (n k : ℕ) (members : List Member) → n ≤ k → AreWithin n members → AreWithin k members
all_within_more n k [] le h = h
all_within_more n k (m ∷ members) le h = (within_more n k m.stage le h.0, all_within_more n k members le h.1)

all_within_set : (n : ℕ) (members : List Member) (i : ℕ) (m : Member) → IsWithin n m.stage → AreWithin n members → AreWithin n (set members i m)
all_within_set n [] i m w h = h
all_within_set n (x ∷ members) zero m w h = (w, h.1)
all_within_set n (x ∷ members) (suc i) m w h = (h.0, all_within_set n members i m w h.1)

pub all_within_alike : (n k : ℕ) (m : Member) → IsWithin n m.stage → AreWithin n (replicate k m)
all_within_alike n zero m w = tt
all_within_alike n (suc k) m w = (w, all_within_alike n k m w)

-- ---- a server without entries

no_weight : pairs_weight nothing ≡ 0
no_weight = ap (sum_by row_weight) (ap map.entries (sym no_rows) ∙ rows_of [] (record { rising = refl; fit = tt; bytes = tt }))

no_entries : unsealed_weight 0 [] ≡ 0
unfolding unsealed_weight
no_entries = refl

pub sound_fresh : (count : ℕ) (m : Member) → (0 < count) × (count ≤ 64) → IsWithin 0 m.stage → IsSound [] [] [] [] nothing (replicate count m) 0
sound_fresh count m bounds w =
    let len = length-replicate count m in
    record {
      room = omega arith;
      sealed = omega arith;
      indexed = omega arith;
      statuses = λ place. sym (ap or_nothing (slice_get_past {X = Option Bool} [] place (omega arith)));
      count = (omega (arith, bounds.0, len), omega (arith, bounds.1, len));
      stages = all_within_alike 0 count m w;
      weight = omega (arith, no_weight, no_entries);
      light = omega arith;
    }

-- ---- the changes

module _ (rows : List Ordered) (commits : List Committed) (index : List (Option Bool)) (seals : List Seal) (d : Dictionary) (members : List Member) (counted : ℕ) where
  -- an entry comes in
  pub sound_row : (x : Ordered) (more : List (Option Bool)) → IsSound rows commits index seals d members counted → length rows < 1048576 → counted + op_weight x.entry.op ≤ 8388608
      → ((place : ℕ) → status_in more place ≡ status_in index place) → length rows < length more
      → IsSound (rows ++ x ∷ []) commits more seals d members (counted + op_weight x.entry.op)
  sound_row x more h room light same fits =
      let len = length_push rows x in
      let sealed = h.sealed in
      let before = h.weight in
      let grows = unsealed_weight-more (length seals) rows x sealed in
      record {
        room = omega (arith, room, len);
        sealed = omega (arith, sealed, len);
        indexed = omega (arith, fits, len);
        statuses = λ place. h.statuses place ∙ sym (same place);
        count = h.count;
        stages = all_within_more _ _ members (omega (arith, len)) h.stages;
        weight = omega (arith, before, grows);
        light = light;
      }

  commit_here : (c : Committed) (q place : ℕ) → c.position ≡ suc q → q < length index → ((p : ℕ) → commit_in (reverse commits) (suc p) ≡ status_in index p)
      → commit_in (reverse (commits ++ c ∷ [])) (suc place) ≡ status_in (set index q (Some c.done)) place
  commit_here c q place is lt before =
      ap (λ l. commit_in l (suc place)) (reverse-append commits (c ∷ []))
      ∙ ap (λ n. cond (nat_eq n (suc place)) (Some c.done) (commit_in (reverse commits) (suc place))) is
      ∙ elim (nat_eq (suc q) (suc place)) as (λ b. nat_eq (suc q) (suc place) ≡ b → cond b (Some c.done) (commit_in (reverse commits) (suc place)) ≡ status_in (set index q (Some c.done)) place) [
        | true ↦ λ e. let same : q ≡ place = grind (arith, e) in ap or_nothing (sym (subst (λ p. slice_get (set index q (Some c.done)) p ≡ Some (Some c.done)) same (set_here index q (Some c.done) lt)))
        | false ↦ λ e. let apart : place ≡ q → ⊥ = grind (arith, e) in before place ∙ ap or_nothing (sym (set_elsewhere index q place (Some c.done) apart))
      ] refl

  -- a commit comes in
  pub sound_commit : (c : Committed) (q : ℕ) → IsSound rows commits index seals d members counted → c.position ≡ suc q → q < length rows
      → IsSound rows (commits ++ c ∷ []) (set index q (Some c.done)) seals d members counted
  sound_commit c q h is lt =
      let indexed = h.indexed in
      let len = length-set index q (Some c.done) in
      record {
        room = h.room;
        sealed = h.sealed;
        indexed = omega (arith, indexed, len);
        statuses = λ place. commit_here c q place is (omega (arith, lt, indexed)) h.statuses;
        count = h.count;
        stages = h.stages;
        weight = h.weight;
        light = h.light;
      }

  -- a client stands elsewhere
  pub sound_member : (i : ℕ) (m : Member) → IsSound rows commits index seals d members counted → IsWithin (length rows) m.stage → IsSound rows commits index seals d (set members i m) counted
  sound_member i m h w =
      let count = h.count in
      let len = length-set members i m in
      record {
        room = h.room;
        sealed = h.sealed;
        indexed = h.indexed;
        statuses = h.statuses;
        count = (omega (arith, count.0, len), omega (arith, count.1, len));
        stages = all_within_set _ members i m w h.stages;
        weight = h.weight;
        light = h.light;
      }

  -- the next position is sealed, with the dictionary that it leaves and what the weight loses
  pub sound_seal : (x : Seal) (next : Dictionary) (freed : ℕ) (e : Ordered) → IsSound rows commits index seals d members counted → length seals < length rows
      → pairs_weight next + freed ≡ pairs_weight d + op_weight (get_or rows (length seals) e).entry.op
      → IsSound rows commits index (seals ++ x ∷ []) next members (counted - freed) × (freed ≤ counted)
  sound_seal x next freed e h lt weighs =
      let len = length_push seals x in
      let suc_len : length (seals ++ x ∷ []) ≡ suc (length seals) = omega (arith, len) in
      let before = h.weight in
      let step = unsealed_weight-next (length seals) rows e lt in
      let light = h.light in
      let now : counted - freed ≡ pairs_weight next + unsealed_weight (suc (length seals)) (reverse rows) = omega (arith, before, step, weighs) in (
        record {
          room = h.room;
          sealed = omega (arith, lt, len);
          indexed = h.indexed;
          statuses = h.statuses;
          count = h.count;
          stages = h.stages;
          weight = now ∙ ap (λ n. pairs_weight next + unsealed_weight n (reverse rows)) (sym suc_len);
          light = omega (arith, light);
        },
        omega (arith, before, step, weighs),
      )

  -- the same, from what the code knows of the entry
  pub sound_sealed : (x : Seal) (next : Dictionary) (freed : ℕ) (row : Ordered) (o : Op) (place : ℕ) → IsSound rows commits index seals d members counted → length seals < length rows
      → place ≡ length seals → row ≡ get_or rows place row → o ≡ row.entry.op → pairs_weight next + freed ≡ pairs_weight d + op_weight o
      → IsSound rows commits index (seals ++ x ∷ []) next members (counted - freed) × (freed ≤ counted)
  sound_sealed x next freed row o place h lt here at op weighs =
      sound_seal x next freed row h lt (weighs ∙ ap (λ q. pairs_weight d + op_weight q) (op ∙ ap (λ r. r.entry.op) (at ∙ ap (λ n. get_or rows n row) here)))
