-- The phases of a drill: events again and again, and stopping where nothing changes any more.
use Rattle.std.proofs.Common.{◌≡◌, ℕ, zero, suc, ◌+◌, ◌-◌, ◌<◌, ◌≤◌, Bool, true, false, List, [], ◌∷◌, length, replicate, Option, Some, None, option_map, if◌then◌else◌, refl, sym, ap, subst, ◌∙◌, arith}
use Rattle.std.proofs.lemmas.Bool.{lt-ltb, le-ltb}
use Rattle.std.specs.Prelude.{Result, Ok, Err, IfOk, OnOk}
use Rattle.vic_dict.specs.declared.bytes.NoMemory.{NoMemory}
use Rattle.vic_dict.specs.declared.op.Mode.TheVariants as mode
use Rattle.vic_order.specs.Order.{Server, Ordered, fresh_server, ready_member, sealed_count, ordered_at}
use Rattle.vic_order.specs.Scenes.{Scene, server_at, Asks}
use Rattle.vic_rules.specs.declared.trace.Input.TheVariants as input
use Rattle.vic_gen.specs.Drawing.{drawing_from, next_drawing, client_drawn}
use Rattle.vic_drill.specs.Drills.{DrillState, drill_at_start, drill_after_event, waits_for, drill_after_delivery, drill_after_next_act, drill_after_turn_of, drill_after_turn, drill_after_turn_below, drill_after_repeats, first_waiting, server_in, unsealed_in, drill_after_poll, drill_after_closing_by, drill_after_closing}
use Rattle.vic_drill.specs.Laws.{RunsHonestly}
use Rattle.vic_drill.proofs.Waiting.{IsFirst, first_is}
use Rattle.vic_drill.proofs.Honest.{more-runs, drill_at_start-runs, runs-safe}
use Rattle.vic_drill.proofs.Drilled.{owner-member}
use Rattle.vic_run_drill.specs.declared.tally.Tally.{Tally}
use Rattle.vic_run_drill.specs.declared.run.Drill.{Drill}
use Rattle.vic_run_drill.specs.Running.{Stands, HaveComeIn, WentOn, Closes}

-- ---- again and again

-- once more at the end is once more at the beginning
pub repeats_more : (f : DrillState → DrillState) (k : ℕ) (d : DrillState) → drill_after_repeats (k + 1) f d ≡ f (drill_after_repeats k f d)
unfolding drill_after_repeats
repeats_more f zero d = refl
repeats_more f (suc k) d =
    let more : suc k + 1 ≡ suc (k + 1) = omega arith in
    ap (λ (j : ℕ). drill_after_repeats j f d) more ∙ repeats_more f k (f d)

-- where f changes nothing, it never does
pub repeats_same : (f : DrillState → DrillState) (k : ℕ) (d : DrillState) → f d ≡ d → drill_after_repeats k f d ≡ d
unfolding drill_after_repeats
repeats_same f zero d e = refl
repeats_same f (suc k) d e = ap (λ (x : DrillState). drill_after_repeats k f x) e ∙ repeats_same f k d e

-- some times, and then the others
pub repeats_all : (f : DrillState → DrillState) (k m n : ℕ) (d : DrillState) → k + m ≡ n → drill_after_repeats n f d ≡ drill_after_repeats m f (drill_after_repeats k f d)
unfolding drill_after_repeats
repeats_all f zero m n d e = ap (λ (j : ℕ). drill_after_repeats j f d) (let same : n ≡ m = omega (arith, e) in same)
repeats_all f (suc k) m zero d e = absurd (omega (arith, e))
repeats_all f (suc k) m (suc n) d e = repeats_all f k m n (f d) (omega (arith, e))

-- where f changes nothing after some of them, all come to the same
pub repeats_end : (f : DrillState → DrillState) (k n : ℕ) (d : DrillState) → k ≤ n → f (drill_after_repeats k f d) ≡ drill_after_repeats k f d → drill_after_repeats n f d ≡ drill_after_repeats k f d
repeats_end f k n d le e = repeats_all f k (n - k) n d (omega (arith, le)) ∙ repeats_same f (n - k) (drill_after_repeats k f d) e

-- ---- what is stood for

pub more_stands : (r : Drill) (d : DrillState) (n m : ℕ) → n ≤ m → Stands r d n → Stands r d m
more_stands r d n m le at = record { scene = at.scene; drawing = at.drawing; calls = at.calls; runs = more-runs (length r.seats.items) d n m le at.runs }

-- ---- turns

-- a turn, of the client that is drawn, after what its client did
pub turned_on : (r : Drill) (d : DrillState) (n : ℕ) (who : ℕ) → who ≡ client_drawn d.drawing → WentOn r (record d { drawing = next_drawing d.drawing }) n who true → Stands r (drill_after_turn d) (n + 1)
turned_on r d n who is at =
    let e : DrillState = record d { drawing = next_drawing d.drawing } in
    let goes : drill_after_turn_of who e ≡ drill_after_delivery who e = ap (λ (b : Bool). if b then drill_after_delivery who e else drill_after_next_act who e) at.0 in
    subst (λ (me : ℕ). Stands r (drill_after_turn_of me e) (n + 1)) is (subst (λ (x : DrillState). Stands r x (n + 1)) (sym goes) at.1)

pub turned_next : (r : Drill) (d : DrillState) (n : ℕ) (who : ℕ) → who ≡ client_drawn d.drawing → waits_for d.scene who ≡ false → Stands r (drill_after_next_act who (record d { drawing = next_drawing d.drawing })) (n + 1) → Stands r (drill_after_turn d) (n + 1)
turned_next r d n who is none at =
    let e : DrillState = record d { drawing = next_drawing d.drawing } in
    let goes : drill_after_turn_of who e ≡ drill_after_next_act who e = ap (λ (b : Bool). if b then drill_after_delivery who e else drill_after_next_act who e) none in
    subst (λ (me : ℕ). Stands r (drill_after_turn_of me e) (n + 1)) is (subst (λ (x : DrillState). Stands r x (n + 1)) (sym goes) at)

-- a turn while calls are left, and none where they were made
pub turn_left : (calls : ℕ) (d : DrillState) → d.calls < calls → drill_after_turn_below calls d ≡ drill_after_turn d
turn_left calls d lt = ap (λ (b : Bool). if b then drill_after_turn d else d) (lt-ltb d.calls calls lt)

pub turn_none : (calls : ℕ) (d : DrillState) → calls ≤ d.calls → drill_after_turn_below calls d ≡ d
turn_none calls d le = ap (λ (b : Bool). if b then drill_after_turn d else d) (le-ltb d.calls calls le)

-- ---- closing

-- the first client that waits goes on
pub closes_first : (d : DrillState) (who : ℕ) → first_waiting d.scene 1 d.scene.group.count ≡ Some who → drill_after_closing d ≡ drill_after_delivery who d
closes_first d who e = ap (λ (o : Option ℕ). drill_after_closing_by o d) e

first_waits : (s : Scene) (i n me : ℕ) (o : Option ℕ) → o ≡ Some me → IsFirst s i n o → waits_for s me ≡ true
first_waits s i n me None e f = absurd cc
first_waits s i n me (Some k) e f = let same : k ≡ me = cc in subst (λ (j : ℕ). waits_for s j ≡ true) same f.2

none_waits : (s : Scene) (i n : ℕ) (o : Option ℕ) → o ≡ None → IsFirst s i n o → (j : ℕ) → i ≤ j → j < i + n → waits_for s j ≡ false
none_waits s i n None e f = f
none_waits s i n (Some k) e f = absurd cc

pub first_goes : (d : DrillState) (who : ℕ) → first_waiting d.scene 1 d.scene.group.count ≡ Some who → waits_for d.scene who ≡ true
first_goes d who e = first_waits d.scene 1 d.scene.group.count who (first_waiting d.scene 1 d.scene.group.count) e (first_is d.scene 1 d.scene.group.count)

pub none_go : (d : DrillState) → first_waiting d.scene 1 d.scene.group.count ≡ None → (j : ℕ) → 1 ≤ j → j < 1 + d.scene.group.count → waits_for d.scene j ≡ false
none_go d e = none_waits d.scene 1 d.scene.group.count (first_waiting d.scene 1 d.scene.group.count) e (first_is d.scene 1 d.scene.group.count)

pub first_closes : (r : Drill) (d : DrillState) (n who : ℕ) (b : Bool) → first_waiting d.scene 1 d.scene.group.count ≡ Some who → WentOn r d n who b → Closes r d n b
first_closes r d n who true e at = subst (λ (x : DrillState). Stands r x (n + 1)) (sym (closes_first d who e)) at.1
first_closes r d n who false e at = let waits : waits_for d.scene who ≡ true = first_goes d who e in absurd (let no : true ≡ false = sym waits ∙ at.0 in cc)

module _ (r : Drill) (d : DrillState) (n : ℕ) (at : Stands r d n) where
  server_is : server_in d.scene ≡ Some r.served.server
  server_is = ap (λ (us : List (Option Server)). server_at us 1) at.scene.servers

  next_is : unsealed_in (server_in d.scene) ≡ ordered_at r.served.server (sealed_count r.served.server + 1)
  next_is = ap unsealed_in server_is

  owner_by : (o : Option Ordered) (owner : ℕ) → option_map (λ (x : Ordered). x.entry.client) o ≡ Some owner → (x : Ordered) × ((o ≡ Some x) × (x.entry.client ≡ owner))
  owner_by None owner e = absurd cc
  owner_by (Some x) owner e = (x, (refl, cc))

  nobody_by : (o : Option Ordered) → option_map (λ (x : Ordered). x.entry.client) o ≡ None → o ≡ None
  nobody_by None e = refl
  nobody_by (Some x) e = absurd cc

  module _ (none : first_waiting d.scene 1 d.scene.group.count ≡ None) where
    closes_is : drill_after_closing d ≡ drill_after_poll (unsealed_in (server_in d.scene)) d
    closes_is = ap (λ (o : Option ℕ). drill_after_closing_by o d) none

    -- all is sealed
    pub closes_no_more : option_map (λ (x : Ordered). x.entry.client) (ordered_at r.served.server (sealed_count r.served.server + 1)) ≡ None → drill_after_closing d ≡ d
    closes_no_more e = closes_is ∙ ap (λ (o : Option Ordered). drill_after_poll o d) (next_is ∙ nobody_by (ordered_at r.served.server (sealed_count r.served.server + 1)) e)

    -- the owner of the next entry polls
    pub closes_by_poll : (owner : ℕ) → option_map (λ (x : Ordered). x.entry.client) (ordered_at r.served.server (sealed_count r.served.server + 1)) ≡ Some owner → drill_after_closing d ≡ drill_after_event (Asks owner input.Poll) d
    closes_by_poll owner e =
        let found = owner_by (ordered_at r.served.server (sealed_count r.served.server + 1)) owner e in
        closes_is ∙ ap (λ (o : Option Ordered). drill_after_poll o d) (next_is ∙ found.1.0) ∙ ap (λ (me : ℕ). drill_after_event (Asks me input.Poll) d) found.1.1

    -- it is a client of the group, for whom nothing is under way
    pub owner_rests : (owner : ℕ) → option_map (λ (x : Ordered). x.entry.client) (ordered_at r.served.server (sealed_count r.served.server + 1)) ≡ Some owner
        → ((0 < owner) × (owner ≤ length r.seats.items)) × (waits_for d.scene owner ≡ false)
    owner_rests owner e =
        let found = owner_by (ordered_at r.served.server (sealed_count r.served.server + 1)) owner e in
        let one : Some at.runs.server ≡ Some r.served.server = sym at.runs.run.one ∙ server_is in
        let same : r.served.server ≡ at.runs.server = cc in
        let there : ordered_at at.runs.server (sealed_count r.served.server + 1) ≡ Some found.0 = ap (λ (v : Server). ordered_at v (sealed_count r.served.server + 1)) (sym same) ∙ found.1.0 in
        let who = owner-member d.scene at.runs.server d (runs-safe (length r.seats.items) d n at.runs) (sealed_count r.served.server + 1) found.0 there in
        let count = at.scene.count in
        let some : 0 < owner = omega (arith, who.0, found.1.1) in
        let most : owner ≤ length r.seats.items = omega (arith, who.1, found.1.1, count) in
        ((some, most), none_go d none owner (omega (arith, some)) (omega (arith, most, count)))

-- ---- the beginning

pub begins : (r : Drill) (number clients : ℕ) → 0 < clients → clients ≤ 64 → HaveComeIn clients clients r.seats.items → r.served.server ≡ fresh_server mode.Plain clients ready_member → r.generator ≡ drawing_from number clients
    → r.calls ≡ 0 → r.tally ≡ record { done = 0; aborted = 0; refused = 0 } → Stands r (drill_at_start number clients) 0
begins r number clients some few have server drawing calls tally = record {
  scene = record {
    count = have.count;
    up = have.up;
    down = have.down;
    served_by = ap (λ (l : ℕ). replicate l 1) (sym have.count);
    servers = ap (λ (v : Server). Some v ∷ None ∷ None ∷ None ∷ []) (sym server);
    clients = have.clients;
    done = ap (λ (t : Tally). t.done) tally;
    aborted = ap (λ (t : Tally). t.aborted) tally;
    refused = ap (λ (t : Tally). t.refused) tally;
  };
  drawing = drawing;
  calls = calls;
  runs = subst (λ (c : ℕ). RunsHonestly c (drill_at_start number clients) 0) (sym have.count) (drill_at_start-runs number clients some few);
}

-- ---- the first for whom something is under way

pub first_none : (s : Scene) (i n m : ℕ) → waits_for s i ≡ false → n ≡ suc m → first_waiting s i n ≡ first_waiting s (i + 1) m
unfolding first_waiting
first_none s i zero m none e = absurd (omega (arith, e))
first_none s i (suc n) m none e = ap (λ (b : Bool). if b then Some i else first_waiting s (i + 1) n) none ∙ ap (λ (j : ℕ). first_waiting s (i + 1) j) (let same : n ≡ m = omega (arith, e) in same)

pub first_one : (s : Scene) (i n m : ℕ) → waits_for s i ≡ true → n ≡ suc m → first_waiting s i n ≡ Some i
unfolding first_waiting
first_one s i zero m some e = absurd (omega (arith, e))
first_one s i (suc n) m some e = ap (λ (b : Bool). if b then Some i else first_waiting s (i + 1) n) some

pub first_end : (s : Scene) (i n : ℕ) → n ≡ 0 → first_waiting s i n ≡ None
unfolding first_waiting
first_end s i zero e = refl
first_end s i (suc n) e = absurd (omega (arith, e))

pub first_bounds : (d : DrillState) (who : ℕ) → first_waiting d.scene 1 d.scene.group.count ≡ Some who → (0 < who) × (who ≤ d.scene.group.count)
first_bounds d who e = within d.scene.group.count (first_waiting d.scene 1 d.scene.group.count) e (first_is d.scene 1 d.scene.group.count)
  where
    within : (n : ℕ) (o : Option ℕ) → o ≡ Some who → IsFirst d.scene 1 n o → (0 < who) × (who ≤ n)
    within n None is f = absurd cc
    within n (Some k) is f = let same : k ≡ who = cc in let low = f.0 in let high = f.1 in (omega (arith, same, low), omega (arith, same, high))

-- ---- what may have found no memory

pub on_ok_map : {T : Type 0} (r : Result T NoMemory) (P Q : Type 0) → (P → Q) → OnOk r P → OnOk r Q
on_ok_map (Ok x) P Q f p = f p
on_ok_map (Err e) P Q f p = tt

pub if_ok_map : {T : Type 0} (r : Result T NoMemory) (P Q : T → Type 0) → ((x : T) → P x → Q x) → IfOk r P → IfOk r Q
if_ok_map (Ok x) P Q f p = f x p
if_ok_map (Err e) P Q f p = tt
