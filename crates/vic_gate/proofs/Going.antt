-- A worker that goes on: what holds between two frames, and what it did where it ends.
use Rattle.std.proofs.Common.{◌≡◌, inl, inr, ℕ, List, [], ◌∷◌, ◌++◌, map, Option, Some, None, Ok, Err, refl, sym, ap, subst, ◌∙◌, append_assoc, append-nil}
use Rattle.std.specs.Prelude.{◌+◌, ◌-◌}
use Rattle.std.proofs.lemmas.List.{map-append}
use Rattle.std.proofs.lemmas.Grind.{flat_map-append}
use Rattle.vic_conn.specs.Frames.{Waits, front_of, frame_text, frames_of}
use Rattle.vic_conn.proofs.Growing.{stays}
use Rattle.vic_conn.proofs.Pieces.{one_by_one}
use Rattle.vic_conn.proofs.Streams.{Splits, splits_none, splits_fed, splits_taken, splits_waits, splits_broken, splits_any}
use Rattle.vic_ports.specs.Causes.{Rose, LeavesBehind}
use Rattle.vic_ports.specs.Written.{AppendedAll, AppendedFront}
use Rattle.vic_ports.specs.Links.{Told}
use Rattle.vic_ports.proofs.Told.{none_read, behind_more, all_all, all_front, all_is_front, none_all}
use Rattle.vic_gate.specs.declared.worker.WorkEnd.{WorkEnd}
use Rattle.vic_gate.specs.declared.worker.WorkEnd.TheVariants as ends
use Rattle.vic_gate.specs.Workers.{Handled, Manner, Chain, LastStep, EndsBy, IsWorked, StopsBy, Waited, Handles, frames}
use Rattle.vic_gate.proofs.Chains.{chain_more}

pub record Going {A G P : Type 0} (manner : Manner A G) (answers : P → ℕ → List ℕ → Option A → P → Type 0) (old : Told) (p : P) (now : Told) (q : P) (known : G) (left : List ℕ) : Type 0 where
  pub read : List ℕ
  pub took : LeavesBehind read old.left now.left
  pub handled : List (Handled A)
  pub splits : Splits read (map (λ x. x.payload) handled) left
  pub chain : Chain manner answers manner.first p handled known q
  pub sent : AppendedAll (frames manner handled) old.written now.written
  pub quiet : now.faults ≡ old.faults

frames_more : {A G : Type 0} (manner : Manner A G) (handled : List (Handled A)) (x : Handled A) → frames manner (handled ++ x ∷ []) ≡ frames manner handled ++ frame_text (manner.text x.answer)
frames_more {A = A} manner handled x = flat_map-append (λ (y : Handled A). frame_text (manner.text y.answer)) handled (x ∷ []) ∙ ap (λ (l : List ℕ). frames manner handled ++ l) (append-nil (frame_text (manner.text x.answer)))

module _ {A G P : Type 0} (manner : Manner A G) (answers : P → ℕ → List ℕ → Option A → P → Type 0) (old : Told) (p : P) where
  pub going_start : Going manner answers old p old p manner.first []
  going_start = record { read = []; took = none_read old.left; handled = []; splits = splits_none; chain = (refl, refl); sent = none_all old.written; quiet = refl }

  -- a frame was taken: what was read, and how it splits
  taken_read : (now mid : Told) (q : P) (g : G) (left after payload : List ℕ) (i : Going manner answers old p now q g left) (w : Waited left after now mid (Ok payload)) → LeavesBehind (i.read ++ w.0) old.left mid.left
  taken_read now mid q g left after payload i w = behind_more i.read w.0 old.left now.left mid.left i.took w.1.0

  taken_splits : (now mid : Told) (q : P) (g : G) (left after payload : List ℕ) (i : Going manner answers old p now q g left) (w : Waited left after now mid (Ok payload))
      → Splits (i.read ++ w.0) (map (λ x. x.payload) i.handled ++ payload ∷ []) after
  taken_splits now mid q g left after payload i w =
      splits_taken stays one_by_one (i.read ++ w.0) (map (λ x. x.payload) i.handled) (left ++ w.0) payload after (splits_fed i.read (map (λ x. x.payload) i.handled) left w.0 i.splits) w.1.1.1.1

  -- and answered
  pub going_more : (now mid new : Told) (q r : P) (g h : G) (left after payload : List ℕ) → Going manner answers old p now q g left → Waited left after now mid (Ok payload) → Handles manner answers g q payload mid (Ok h) new r → Going manner answers old p new r h after
  going_more now mid new q r g h left after payload i w d =
      let x : Handled A = record { who = manner.asks g; payload = payload; answer = d.0 } in
      record {
        read = i.read ++ w.0;
        took = subst (λ (l : Option (List ℕ)). LeavesBehind (i.read ++ w.0) old.left l) (sym d.1.1.1.1.0) (taken_read now mid q g left after payload i w);
        handled = i.handled ++ x ∷ [];
        splits = subst (λ (l : List (List ℕ)). Splits (i.read ++ w.0) l after) (sym (map-append (λ (y : Handled A). y.payload) i.handled (x ∷ []))) (taken_splits now mid q g left after payload i w);
        chain = subst (λ (k : G). Chain manner answers manner.first p (i.handled ++ x ∷ []) k r) (sym d.1.1.0) (chain_more manner answers manner.first g p q r i.handled x i.chain refl d.1.0);
        sent = subst (λ (t : List ℕ). AppendedAll t old.written new.written) (sym (frames_more manner i.handled x))
            (all_all (frames manner i.handled) (frame_text (manner.text d.0)) old.written mid.written new.written (subst (λ (l : Option (List ℕ)). AppendedAll (frames manner i.handled) old.written l) (sym w.1.1.0) i.sent) d.1.1.1.0);
        quiet = d.1.1.1.1.1 ∙ w.1.1.1.0 ∙ i.quiet;
      }

  written_on : (now new : Told) (q : P) (g : G) (left : List ℕ) (i : Going manner answers old p now q g left) → new.written ≡ now.written → AppendedAll (frames manner i.handled) old.written new.written
  written_on now new q g left i same = subst (λ (l : Option (List ℕ)). AppendedAll (frames manner i.handled) old.written l) (sym same) i.sent

  -- where no whole frame is left
  module _ (now new : Told) (q : P) (g : G) (left piece : List ℕ) (i : Going manner answers old p now q g left) (took : LeavesBehind piece now.left new.left) (same : new.written ≡ now.written) where
    fed : Splits (i.read ++ piece) (map (λ x. x.payload) i.handled) (left ++ piece)
    fed = splits_fed i.read (map (λ x. x.payload) i.handled) left piece i.splits

    all_read : LeavesBehind (i.read ++ piece) old.left new.left
    all_read = behind_more i.read piece old.left now.left new.left i.took took

    -- the worker ended, with no whole frame left
    ended_so : (end : WorkEnd) → LastStep manner answers end [] g q q → frames_of (i.read ++ piece) ≡ (map (λ x. x.payload) i.handled, left ++ piece) → EndsBy manner end old new i.handled [] (left ++ piece) → IsWorked manner answers old p end new q
    ended_so end stops split so = record {
      read = i.read ++ piece;
      took = all_read;
      handled = i.handled;
      more = [];
      in_order = ap (λ (f : List (List ℕ) × List ℕ). f.0) split ∙ sym (append-nil (map (λ x. x.payload) i.handled));
      known = g;
      last = q;
      chain = i.chain;
      stops = stops;
      ends_so = subst (λ (r : List ℕ). EndsBy manner end old new i.handled [] r) (sym (ap (λ (f : List (List ℕ) × List ℕ). f.1) split)) so;
    }

    -- or with whatever is left
    stopped_so : (end : WorkEnd) → LastStep manner answers end (frames_of (left ++ piece)).0 g q q → EndsBy manner end old new i.handled (frames_of (left ++ piece)).0 (frames_of (left ++ piece)).1 → IsWorked manner answers old p end new q
    stopped_so end stops so =
        let split = splits_any (i.read ++ piece) (map (λ x. x.payload) i.handled) (left ++ piece) fed in
        record {
          read = i.read ++ piece;
          took = all_read;
          handled = i.handled;
          more = (frames_of (left ++ piece)).0;
          in_order = ap (λ (f : List (List ℕ) × List ℕ). f.0) split;
          known = g;
          last = q;
          chain = i.chain;
          stops = stops;
          ends_so = subst (λ (r : List ℕ). EndsBy manner end old new i.handled (frames_of (left ++ piece)).0 r) (sym (ap (λ (f : List (List ℕ) × List ℕ). f.1) split)) so;
        }

  nothing_waits : front_of [] ≡ Waits
  unfolding front_of
  nothing_waits = refl

  -- no frame came
  pub worked_none : (now new : Told) (q : P) (g : G) (left after : List ℕ) (end : WorkEnd) → Going manner answers old p now q g left → Waited left after now new (Err end) → IsWorked manner answers old p end new q
  worked_none now new q g left after ends.Ended i w =
      let s = w.1.1.1 in
      let waits : front_of (left ++ w.0) ≡ Waits = subst (λ (l : List ℕ). front_of l ≡ Waits) (sym s.0) nothing_waits in
      ended_so now new q g left w.0 i w.1.0 w.1.1.0 ends.Ended refl (splits_waits one_by_one (i.read ++ w.0) (map (λ x. x.payload) i.handled) (left ++ w.0) (fed now new q g left w.0 i w.1.0 w.1.1.0) waits)
      (refl, (s.0, (s.1.0, (s.1.1 ∙ i.quiet, written_on now new q g left i w.1.1.0))))
  worked_none now new q g left after ends.BadFrame i w =
      let s = w.1.1.1 in
      ended_so now new q g left w.0 i w.1.0 w.1.1.0 ends.BadFrame refl (splits_broken one_by_one (i.read ++ w.0) (map (λ x. x.payload) i.handled) (left ++ w.0) s.0.0 (fed now new q g left w.0 i w.1.0 w.1.1.0) s.0.1)
      (refl, (s.0.0, (s.0.1, (s.1 ∙ i.quiet, written_on now new q g left i w.1.1.0))))
  worked_none now new q g left after ends.LinkFault i w = by_fault w.1.1.1
    where
      by_fault : StopsBy ends.LinkFault now new (left ++ w.0) → IsWorked manner answers old p ends.LinkFault new q
      by_fault (inl rose) =
          stopped_so now new q g left w.0 i w.1.0 w.1.1.0 ends.LinkFault refl
          (inl (subst (λ (n : ℕ). Rose n new.faults) i.quiet rose, all_is_front (frames manner i.handled) old.written new.written (written_on now new q g left i w.1.1.0)))
      by_fault (inr s) =
          ended_so now new q g left w.0 i w.1.0 w.1.1.0 ends.LinkFault refl (splits_waits one_by_one (i.read ++ w.0) (map (λ x. x.payload) i.handled) (left ++ w.0) (fed now new q g left w.0 i w.1.0 w.1.1.0) s.1.0)
          (inr (refl, (s.0, (s.1.0, (s.1.1.0, (s.1.1.1 ∙ i.quiet, written_on now new q g left i w.1.1.0))))))
  worked_none now new q g left after ends.NoMemory i w =
      stopped_so now new q g left w.0 i w.1.0 w.1.1.0 ends.NoMemory (inl refl) (w.1.1.1 ∙ i.quiet, all_is_front (frames manner i.handled) old.written new.written (written_on now new q g left i w.1.1.0))

  -- a frame was taken, and the worker ended with it
  pub worked_last : (now mid new : Told) (q r : P) (g : G) (left after payload : List ℕ) (end : WorkEnd) → Going manner answers old p now q g left → Waited left after now mid (Ok payload)
      → Handles manner answers g q payload mid (Err end) new r → IsWorked manner answers old p end new r
  worked_last now mid new q r g left after payload end i w d = by_end end d
    where
      split : frames_of (i.read ++ w.0) ≡ ((map (λ x. x.payload) i.handled ++ payload ∷ []) ++ (frames_of after).0, (frames_of after).1)
      split = splits_any (i.read ++ w.0) (map (λ x. x.payload) i.handled ++ payload ∷ []) after (taken_splits now mid q g left after payload i w)

      took : mid.left ≡ new.left → LeavesBehind (i.read ++ w.0) old.left new.left
      took same = subst (λ (l : Option (List ℕ)). LeavesBehind (i.read ++ w.0) old.left l) same (taken_read now mid q g left after payload i w)

      front : (a : A) → AppendedFront (frame_text (manner.text a)) mid.written new.written → AppendedFront (frames manner (i.handled ++ record { who = manner.asks g; payload = payload; answer = a } ∷ [])) old.written new.written
      front a f = subst (λ (t : List ℕ). AppendedFront t old.written new.written) (sym (frames_more manner i.handled (record { who = manner.asks g; payload = payload; answer = a })))
          (all_front (frames manner i.handled) (frame_text (manner.text a)) old.written mid.written new.written (written_on now mid q g left i w.1.1.0) f)

      answered : (end : WorkEnd) (a : A) → answers q (manner.asks g) payload (Some a) r → LastStep manner answers end (frames_of after).0 (manner.after g payload a) r r → new.left ≡ mid.left
          → EndsBy manner end old new (i.handled ++ record { who = manner.asks g; payload = payload; answer = a } ∷ []) (frames_of after).0 (frames_of after).1 → IsWorked manner answers old p end new r
      answered end a s stops same so = record {
        read = i.read ++ w.0;
        took = took (sym same);
        handled = i.handled ++ record { who = manner.asks g; payload = payload; answer = a } ∷ [];
        more = (frames_of after).0;
        in_order = ap (λ (f : List (List ℕ) × List ℕ). f.0) split ∙ ap (λ (l : List (List ℕ)). l ++ (frames_of after).0) (sym (map-append (λ (y : Handled A). y.payload) i.handled (record { who = manner.asks g; payload = payload; answer = a } ∷ [])));
        known = manner.after g payload a;
        last = r;
        chain = chain_more manner answers manner.first g p q r i.handled (record { who = manner.asks g; payload = payload; answer = a }) i.chain refl s;
        stops = stops;
        ends_so = subst (λ (x : List ℕ). EndsBy manner end old new (i.handled ++ record { who = manner.asks g; payload = payload; answer = a } ∷ []) (frames_of after).0 x) (sym (ap (λ (f : List (List ℕ) × List ℕ). f.1) split)) so;
      }

      unanswered : answers q (manner.asks g) payload None r → new ≡ mid → IsWorked manner answers old p ends.NoMemory new r
      unanswered s same = record {
        read = i.read ++ w.0;
        took = took (sym (ap (λ (t : Told). t.left) same));
        handled = i.handled;
        more = payload ∷ (frames_of after).0;
        in_order = ap (λ (f : List (List ℕ) × List ℕ). f.0) split ∙ append_assoc (map (λ x. x.payload) i.handled) (payload ∷ []) (frames_of after).0;
        known = g;
        last = q;
        chain = i.chain;
        stops = inr (payload, ((frames_of after).0, (refl, s)));
        ends_so = (ap (λ (t : Told). t.faults) same ∙ w.1.1.1.0 ∙ i.quiet, all_is_front (frames manner i.handled) old.written new.written (written_on now new q g left i (ap (λ (t : Told). t.written) same ∙ w.1.1.0)));
      }

      by_memory : Handles manner answers g q payload mid (Err ends.NoMemory) new r → IsWorked manner answers old p ends.NoMemory new r
      by_memory (inl s) = answered ends.NoMemory s.0 s.1.0 (inl refl) s.1.1.1.0 (s.1.1.1.1 ∙ w.1.1.1.0 ∙ i.quiet, front s.0 s.1.1.0)
      by_memory (inr s) = unanswered s.0 s.1

      by_end : (end : WorkEnd) → Handles manner answers g q payload mid (Err end) new r → IsWorked manner answers old p end new r
      by_end ends.Ended d = absurd d
      by_end ends.BadFrame d = absurd d
      by_end ends.LinkFault d = answered ends.LinkFault d.0 d.1.0 refl d.1.1.1.0 (inl (subst (λ (n : ℕ). Rose n new.faults) (w.1.1.1.0 ∙ i.quiet) d.1.1.1.1, front d.0 d.1.1.0))
      by_end ends.NoMemory d = by_memory d
