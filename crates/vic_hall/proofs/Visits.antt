-- Lines that came and went back, as lists; and the jobs of a hall, as a run.
use Rattle.std.proofs.Common.{◌≡◌, ℕ, ◌+◌, ◌<◌, ◌≤◌, List, [], ◌∷◌, ◌++◌, length, map, get_or, Option, Some, None, refl, sym, ap, subst, ◌∙◌, arith, append_assoc, append-nil, length-append, inl, inr, zero, suc, Bool, cond}
use Rattle.std.specs.Prelude.{slice_get}
use Rattle.std.proofs.lemmas.List.{length-map}
use Rattle.std.specs.Option.{option_map}
use Rattle.std.proofs.lemmas.Bool.{lt-ltb}
use Rattle.std.specs.List.{All, range_with_len}
use Rattle.std.proofs.lemmas.List.Elements.{All-map}
use Rattle.std.proofs.lemmas.Option.{slice_get-get_or, none-some, same_Some, slice_get-map, slice_get_within, get_or_from_slice_get}
use Rattle.std.proofs.lemmas.List.FromFn.{length-range_with_len, get_or-range_with_len}
use mathlib.Core.List.{IsPrefix}
use Rattle.vic_ports.specs.Links.{Told, Lines, ComesIn, GoesBack, put_back}
use Rattle.vic_change.specs.declared.Change.{Change}
use Rattle.vic_change.specs.Changes.{of_seat}
use Rattle.vic_order.specs.Order.{Server}
use Rattle.vic_server.specs.Replay.{KeptServer, replay}
use Rattle.vic_turn.specs.Changes.{Each}
use Rattle.vic_turn.specs.Passes.{LockView, PassView, IsPassOf, IsFresh}
use Rattle.vic_turn.proofs.Histories.{prefix_self, prefix_trans}
use Rattle.vic_gate.specs.declared.worker.WorkEnd.{WorkEnd}
use Rattle.vic_gate.specs.declared.worker.WorkEnd.TheVariants as ends
use Rattle.vic_gate.specs.Workers.{Handled, Chain, LastStep, IsWorked, by_hello, greeted_after, asker}
use Rattle.vic_wire.specs.declared.message.ToClient.{ToClient}
use Rattle.vic_hall.specs.declared.crew.Job.{Job}
use Rattle.vic_hall.specs.Hosting.{lines, HaveCome, HaveGone, Visited}
use Rattle.vic_hall.specs.Jobs.{Worked}
use Rattle.vic_hall.specs.Runs.{Place, place, start, answers_at, Attends, IsRun}
use Rattle.vic_hall.specs.Steps.{HallStep}
use Rattle.vic_hall.proofs.Places.{place_of, step_at, step_seen, chain_seen, chain_at}

-- ---- lines

-- no line came or went back
pub come_none : (a : Option Lines) → HaveCome [] a a
come_none None = refl
come_none (Some was) = ap (λ (l : List Told). Some (lines l was.back)) (sym (append-nil was.came))

pub gone_none : (a : Option Lines) → HaveGone [] a a
gone_none None = refl
gone_none (Some was) = λ room. ap (λ (l : List Told). Some (lines was.came l)) (sym (append-nil was.back))

-- one more line came
pub come_more : (ts : List Told) (t : Told) (a b c : Option Lines) → HaveCome ts a b → ComesIn t b c → HaveCome (ts ++ t ∷ []) a c
come_more ts t None b c h k = subst (λ (o : Option Lines). ComesIn t o c) h k
come_more ts t (Some was) b c h k = subst (λ (o : Option Lines). ComesIn t o c) h k ∙ ap (λ (l : List Told). Some (lines l was.back)) (append_assoc was.came ts (t ∷ []))

put_back_room : (l : Lines) (t : Told) → length l.back < length l.came → put_back l t ≡ lines l.came (l.back ++ t ∷ [])
put_back_room l t room = ap (λ (b : Bool). cond b (lines l.came (l.back ++ t ∷ [])) l) (lt-ltb (length l.back) (length l.came) room)

-- one more line went back
pub gone_more : (ts : List Told) (t : Told) (a b c : Option Lines) → HaveGone ts a b → GoesBack t b c → HaveGone (ts ++ t ∷ []) a c
gone_more ts t None b c h k = subst (λ (o : Option Lines). GoesBack t o c) h k
gone_more ts t (Some was) b c h k = λ room.
    let left : length was.back + length ts ≤ length was.came = omega (arith, length-append ts (t ∷ [])) in
    let some : length (was.back ++ ts) < length was.came = omega (arith, length-append ts (t ∷ []), length-append was.back ts) in
    subst (λ (o : Option Lines). GoesBack t o c) (h left) k
    ∙ ap (λ (l : Lines). Some l) (put_back_room (lines was.came (was.back ++ ts)) t some)
    ∙ ap (λ (l : List Told). Some (lines was.came l)) (append_assoc was.back ts (t ∷ []))

-- lines came, and as many went back
pub visited : (came back : List Told) (a b c : Option Lines) → HaveCome came a b → HaveGone back b c → length back ≡ length came → Visited (lines came back) a c
visited came back None b c h k e = subst (λ (o : Option Lines). HaveGone back o c) h k
visited came back (Some was) b c h k e = λ room.
    let here : HaveGone back (Some (lines (was.came ++ came) was.back)) c = subst (λ (o : Option Lines). HaveGone back o c) h k in
    here (omega (arith, length-append was.came came))

-- ---- workers

chain_number : (fixed : KeptServer) (known after : Option ℕ) (p q : PassView KeptServer) (xs : List (Handled ToClient)) → Chain by_hello (HallStep fixed) known p xs after q → q.number ≡ p.number
chain_number fixed known after p q [] c = ap (λ (r : PassView KeptServer). r.number) (sym c.0)
chain_number fixed known after p q (x ∷ xs) c = chain_number fixed (greeted_after known x.payload x.answer) after c.0 q xs c.1.1.1 ∙ c.1.1.0.1

last_number : (fixed : KeptServer) (end : WorkEnd) (more : List (List ℕ)) (known : Option ℕ) (p q : PassView KeptServer) → LastStep by_hello (HallStep fixed) end more known p q → q.number ≡ p.number
last_number fixed ends.Ended more known p q s = ap (λ (r : PassView KeptServer). r.number) (sym s)
last_number fixed ends.LinkFault more known p q s = ap (λ (r : PassView KeptServer). r.number) (sym s)
last_number fixed ends.BadFrame more known p q s = ap (λ (r : PassView KeptServer). r.number) (sym s)
last_number fixed ends.NoMemory more known p q (inl s) = ap (λ (r : PassView KeptServer). r.number) (sym s)
last_number fixed ends.NoMemory more known p q (inr s) = s.1.1.1.1

same_seen : (p q : PassView KeptServer) → p ≡ q → IsPrefix p.seen q.seen
same_seen p q e = subst (λ (r : PassView KeptServer). IsPrefix p.seen r.seen) e (prefix_self p.seen)

last_seen : (fixed : KeptServer) (end : WorkEnd) (more : List (List ℕ)) (known : Option ℕ) (p q : PassView KeptServer) → LastStep by_hello (HallStep fixed) end more known p q → IsPrefix p.seen q.seen
last_seen fixed ends.Ended more known p q s = same_seen p q s
last_seen fixed ends.LinkFault more known p q s = same_seen p q s
last_seen fixed ends.BadFrame more known p q s = same_seen p q s
last_seen fixed ends.NoMemory more known p q (inl s) = same_seen p q s
last_seen fixed ends.NoMemory more known p q (inr s) = step_seen fixed p q (asker known) s.0 None s.1.1.1

last_at : (k fixed : KeptServer) (seat : ℕ) (end : WorkEnd) (more : List (List ℕ)) (known : Option ℕ) (p q : PassView KeptServer) → fixed.opening ≡ k.opening → p.number ≡ seat
    → LastStep by_hello (HallStep fixed) end more known p q → IsPrefix q.seen k.changes → LastStep by_hello (answers_at k seat) end more known (place_of p) (place_of q)
last_at k fixed seat ends.Ended more known p q o n s is = ap place_of s
last_at k fixed seat ends.LinkFault more known p q o n s is = ap place_of s
last_at k fixed seat ends.BadFrame more known p q o n s is = ap place_of s
last_at k fixed seat ends.NoMemory more known p q o n (inl s) is = inl (ap place_of s)
last_at k fixed seat ends.NoMemory more known p q o n (inr s) is = inr (s.0, (s.1.0, (s.1.1.0, step_at k fixed seat p q (asker known) s.0 None o n s.1.1.1 is)))

-- a worker whose pass was fresh attends its connection, in the history at the end
pub attends : (k fixed : KeptServer) (seat : ℕ) (old new : Told) (end : WorkEnd) (p q : PassView KeptServer) → fixed.opening ≡ k.opening → p.number ≡ seat → p.seen ≡ [] → p.mine ≡ []
    → IsWorked by_hello (HallStep fixed) old p end new q → IsPrefix q.seen k.changes → of_seat q.number k.changes ≡ q.mine → Attends k seat old end new
attends k fixed seat old new end p q o n seen mine w is own =
    let at_last : w.last.number ≡ seat = chain_number fixed None w.known p w.last w.handled w.chain ∙ n in
    let at_end : q.number ≡ seat = last_number fixed end w.more w.known w.last q w.stops ∙ at_last in
    let before : IsPrefix w.last.seen k.changes = prefix_trans w.last.seen q.seen k.changes (last_seen fixed end w.more w.known w.last q w.stops) is in
    let from : place_of p ≡ start = ap (λ (l : List Change). place (length l) (p.mine)) seen ∙ ap (λ (l : List Change). place 0 l) mine in
    record {
      last = place_of q;
      worked = record {
        read = w.read;
        took = w.took;
        handled = w.handled;
        more = w.more;
        in_order = w.in_order;
        known = w.known;
        last = place_of w.last;
        chain = subst (λ (s : Place). Chain by_hello (answers_at k seat) None s w.handled w.known (place_of w.last)) from (chain_at k fixed seat None w.known p w.last w.handled o n w.chain before);
        stops = last_at k fixed seat end w.more w.known w.last q o at_last w.stops is;
        ends_so = w.ends_so;
      };
      own = ap (λ (i : ℕ). of_seat i k.changes) (sym at_end) ∙ own;
    }

-- ---- jobs

from_map : {X Y : Type 0} (f : X → Y) (xs : List X) (i : ℕ) (y : Y) → slice_get (map f xs) i ≡ Some y → (x : X) × ((slice_get xs i ≡ Some x) × (f x ≡ y))
from_map f [] i y e = absurd (none-some y e)
from_map f (x ∷ xs) zero y e = (x, (refl, same_Some (f x) y e))
from_map f (x ∷ xs) (suc i) y e = from_map f xs i y e

at_place : {X : Type 0} (P : X → Type 0) (xs : List X) (i : ℕ) (x : X) → slice_get xs i ≡ Some x → All P xs → P x
at_place P xs i x e all = subst P (get_or_from_slice_get xs i x x e) (all i x (slice_get_within xs i x e))

-- the numbers of passes are their places, from 1 on
number_at : {X : Type 0} (f : X → ℕ) (xs : List X) (n i : ℕ) (x : X) → map f xs ≡ range_with_len 1 n → slice_get xs i ≡ Some x → f x ≡ i + 1
number_at f xs n i x e is =
    let long : length xs ≡ n = sym (length-map xs f) ∙ ap length e ∙ length-range_with_len 1 n in
    let within : i < n = omega (arith, slice_get_within xs i x is) in
    let here : slice_get (map f xs) i ≡ Some (f x) = slice_get-map f xs i ∙ ap (option_map f) is in
    let there : get_or (map f xs) i 0 ≡ f x = get_or_from_slice_get (map f xs) i (f x) 0 here in
    let by_range : get_or (map f xs) i 0 ≡ 1 + i = ap (λ (l : List ℕ). get_or l i 0) e ∙ get_or-range_with_len 1 n i 0 within in
    omega arith

-- the jobs of a hall, before and after their workers, are a run
pub is_run : {L : Type 0} (told : L → Told) (hall : LockView KeptServer) (from to : List (Job L)) (k : KeptServer) → hall.fixed.opening ≡ k.opening → k.server ≡ replay k.opening k.changes
    → map (λ j. j.pass.number) from ≡ range_with_len 1 hall.count → All (λ j. IsFresh hall j.pass) from → length to ≡ length from
    → ((i : ℕ) (d : Job L) → i < length to → Worked hall.fixed told (get_or from i d) (get_or to i d))
    → All (λ j. of_seat j.pass.number k.changes ≡ j.pass.mine) to → All (λ j. IsPrefix j.pass.seen k.changes) to → Each (λ c. (0 < c.seat) × (c.seat ≤ hall.count)) k.changes
    → IsRun hall.count k.opening (lines (map (λ j. told j.link) from) (map (λ j. told j.link) to)) (map (λ j. j.end) to) k
is_run {L} told hall from to k o inv numbers fresh len worked own seen seats = record {
  opening_is = refl;
  server_is = inv;
  came = length-map from (λ j. told j.link) ∙ long;
  back = length-map to (λ j. told j.link) ∙ len ∙ long;
  workers = length-map to (λ j. j.end) ∙ len ∙ long;
  each = λ i old new end is_old is_new is_end.
      let a = from_map (λ (j : Job L). told j.link) from i old is_old in
      let b = from_map (λ (j : Job L). told j.link) to i new is_new in
      let e = from_map (λ (j : Job L). j.end) to i end is_end in
      let same : e.0 ≡ b.0 = same_Some e.0 b.0 (sym e.1.0 ∙ b.1.0) in
      let ended : b.0.end ≡ end = ap (λ (j : Job L). j.end) (sym same) ∙ e.1.1 in
      let at_b : get_or to i a.0 ≡ b.0 = get_or_from_slice_get to i b.0 a.0 b.1.0 in
      let at_a : get_or from i a.0 ≡ a.0 = get_or_from_slice_get from i a.0 a.0 a.1.0 in
      let did : Worked hall.fixed told (get_or from i a.0) (get_or to i a.0) = worked i a.0 (slice_get_within to i b.0 b.1.0) in
      let did_a : Worked hall.fixed told a.0 (get_or to i a.0) = subst (λ (j : Job L). Worked hall.fixed told j (get_or to i a.0)) at_a did in
      let did_b : Worked hall.fixed told a.0 b.0 = subst (λ (j : Job L). Worked hall.fixed told a.0 j) at_b did_a in
      let f = at_place (λ (j : Job L). IsFresh hall j.pass) from i a.0 a.1.0 fresh in
      let it : Attends k (i + 1) (told a.0.link) b.0.end (told b.0.link) =
      attends k hall.fixed (i + 1) (told a.0.link) (told b.0.link) b.0.end a.0.pass b.0.pass o (number_at (λ (j : Job L). j.pass.number) from hall.count i a.0 numbers a.1.0) f.1 f.2 did_b
      (at_place (λ (j : Job L). IsPrefix j.pass.seen k.changes) to i b.0 b.1.0 seen) (at_place (λ (j : Job L). of_seat j.pass.number k.changes ≡ j.pass.mine) to i b.0 b.1.0 own) in
      let it_old = subst (λ (t : Told). Attends k (i + 1) t b.0.end (told b.0.link)) a.1.1 it in
      let it_new = subst (λ (t : Told). Attends k (i + 1) old b.0.end t) b.1.1 it_old in
      subst (λ (x : WorkEnd). Attends k (i + 1) old x new) ended it_new;
  nothing_else = seats;
}
  where
    long : length from ≡ hall.count
    long = sym (length-map from (λ j. j.pass.number)) ∙ ap length numbers ∙ length-range_with_len 1 hall.count

-- what holds of the passes of jobs
of_map : {X Y : Type 0} (P : Y → Type 0) (f : X → Y) (xs : List X) (ys : List Y) → ys ≡ map f xs → All P ys → All (λ (x : X). P (f x)) xs
of_map P f xs ys e all = λ k d h.
    let is : slice_get xs k ≡ Some (get_or xs k d) = slice_get-get_or xs k d h in
    at_place P ys k (f (get_or xs k d)) (ap (λ l. slice_get l k) e ∙ slice_get-map f xs k ∙ ap (option_map f) is) all

pub fresh_jobs : {L : Type 0} (hall : LockView KeptServer) (jobs : List (Job L)) (ps : List (PassView KeptServer)) → map (λ j. j.pass) jobs ≡ ps → All (IsFresh hall) ps → All (λ j. IsFresh hall j.pass) jobs
fresh_jobs {L} hall jobs ps e fresh = of_map (λ (p : PassView KeptServer). IsFresh hall p) (λ (j : Job L). j.pass) jobs ps (sym e) fresh

pub own_passes : {L : Type 0} (hall : LockView KeptServer) (jobs : List (Job L)) (ps : List (PassView KeptServer)) → ps ≡ map (λ j. j.pass) jobs → All (λ j. IsPassOf hall j.pass) jobs → All (λ p. p.lock ≡ hall.id) ps
own_passes {L} hall jobs ps e own =
    subst (λ (l : List (PassView KeptServer)). All (λ (p : PassView KeptServer). p.lock ≡ hall.id) l) (sym e)
    (All-map (λ (p : PassView KeptServer). p.lock ≡ hall.id) (λ (j : Job L). j.pass) jobs (λ k d h. (own k d h).0))

map_twice : {L : Type 0} (jobs : List (Job L)) → map (λ p. p.number) (map (λ j. j.pass) jobs) ≡ map (λ j. j.pass.number) jobs
map_twice [] = refl
map_twice (j ∷ js) = ap (λ (l : List ℕ). j.pass.number ∷ l) (map_twice js)

pub numbers_of : {L : Type 0} (jobs : List (Job L)) (ps : List (PassView KeptServer)) (n m : ℕ) → map (λ j. j.pass) jobs ≡ ps → map (λ p. p.number) ps ≡ range_with_len 1 n → m ≡ n → map (λ j. j.pass.number) jobs ≡ range_with_len 1 m
numbers_of jobs ps n m e is same = sym (map_twice jobs) ∙ ap (λ (l : List (PassView KeptServer)). map (λ p. p.number) l) e ∙ is ∙ ap (range_with_len 1) (sym same)

pub as_many : {X : Type 0} (f : X → ℕ) (xs : List X) (n : ℕ) → map f xs ≡ range_with_len 1 n → length xs ≡ n
as_many f xs n e = sym (length-map xs f) ∙ ap length e ∙ length-range_with_len 1 n

pub passes_back : {L : Type 0} (from to : List (Job L)) (ps : List (PassView KeptServer)) (n : ℕ) → ps ≡ map (λ j. j.pass) to → length to ≡ length from → map (λ j. j.pass.number) from ≡ range_with_len 1 n → length ps ≡ n
passes_back {L} from to ps n e len numbers = ap length e ∙ length-map to (λ (j : Job L). j.pass) ∙ len ∙ as_many (λ (j : Job L). j.pass.number) from n numbers

-- the jobs of a hall, before and after their workers, the passes and ends that were kept of them, and the server at the end
pub ran : {L : Type 0} (told : L → Told) (hall : LockView KeptServer) (from to : List (Job L)) (ps : List (PassView KeptServer)) (es : List WorkEnd) (k : KeptServer) → k.opening ≡ hall.fixed.opening → k.server ≡ replay k.opening k.changes
    → map (λ j. j.pass.number) from ≡ range_with_len 1 hall.count → All (λ j. IsFresh hall j.pass) from → length to ≡ length from
    → ((i : ℕ) (d : Job L) → i < length to → Worked hall.fixed told (get_or from i d) (get_or to i d))
    → ps ≡ map (λ j. j.pass) to → es ≡ map (λ j. j.end) to
    → All (λ p. of_seat p.number k.changes ≡ p.mine) ps → All (λ p. IsPrefix p.seen k.changes) ps → Each (λ c. (0 < c.seat) × (c.seat ≤ hall.count)) k.changes
    → IsRun hall.count hall.fixed.opening (lines (map (λ j. told j.link) from) (map (λ j. told j.link) to)) es k
ran {L} told hall from to ps es k o inv numbers fresh len worked kept_passes kept_ends own seen seats =
    let l : Lines = lines (map (λ (j : Job L). told j.link) from) (map (λ (j : Job L). told j.link) to) in
    let base : IsRun hall.count k.opening l (map (λ (j : Job L). j.end) to) k = is_run told hall from to k (sym o) inv numbers fresh len worked
    (of_map (λ (p : PassView KeptServer). of_seat p.number k.changes ≡ p.mine) (λ (j : Job L). j.pass) to ps kept_passes own)
    (of_map (λ (p : PassView KeptServer). IsPrefix p.seen k.changes) (λ (j : Job L). j.pass) to ps kept_passes seen) seats in
    subst (λ (x : List WorkEnd). IsRun hall.count hall.fixed.opening l x k) (sym kept_ends) (subst (λ (s : Server). IsRun hall.count s l (map (λ (j : Job L). j.end) to) k) o base)
