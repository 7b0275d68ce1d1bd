-- A talk takes only so many payloads: each answer takes something from what may still come.
use Rattle.std.proofs.Common.{◌≡◌, ℕ, zero, suc, ◌+◌, ◌*◌, ◌<◌, ◌≤◌, Bool, true, false, List, [], ◌∷◌, length, length-append, Option, Some, None, nat_eq, nat_lt, if◌then◌else◌, refl, sym, ap, subst, ◌∙◌, arith}
use Rattle.std.proofs.lemmas.Bool.{and_parts}
use Rattle.vic_dict.specs.declared.op.Op.{Op}
use Rattle.vic_dict.specs.declared.op.Mode.{Mode}
use Rattle.vic_dict.specs.declared.op.Entry.{Entry}
use Rattle.vic_wire.specs.Hashes.{Group}
use Rattle.vic_wire.specs.declared.message.Seal.{Seal}
use Rattle.vic_wire.specs.declared.message.ToClient.{ToClient}
use Rattle.vic_wire.specs.declared.message.ToClient.TheVariants as say
use Rattle.vic_wire.specs.Parts.{Part, read_part}
use Rattle.vic_wire.specs.Reading.{read_answer}
use Rattle.vic_rules.specs.declared.state.Own.{Own}
use Rattle.vic_rules.specs.declared.state.Awaiting.{Awaiting}
use Rattle.vic_rules.specs.declared.state.Awaiting.TheVariants as awaits
use Rattle.vic_rules.specs.declared.object.ObjectCall.{ObjectCall}
use Rattle.vic_rules.specs.declared.object.ObjectCall.TheVariants as object
use Rattle.vic_rules.specs.declared.object.Phase.{Phase}
use Rattle.vic_rules.specs.declared.object.Phase.TheVariants as phase
use Rattle.vic_rules.specs.Objects.{step_on_kept}
use Rattle.vic_rules.specs.declared.trace.Input.TheVariants as input
use Rattle.vic_rules.specs.Client.{Standing, step, path_with_entries, is_awaited, has_form, verdict, verdict_on, move_on_reply, move_on_wait, move_by_object_step, move_on_refusal, move_on_update, move_on_answer, move_on_verdict, move_on_payload}
use Rattle.vic_client.specs.Kept.{KeptClient}
use Rattle.vic_script.specs.Lines.{lines_of}
use Rattle.vic_script.specs.Run.{script_limit}
use Rattle.vic_text.specs.declared.client_line.ClientLine.{ClientLine}
use Rattle.vic_text.specs.declared.client_line.ClientLine.TheVariants as line
use Rattle.vic_text.specs.ClientLines.{client_line_of}
use Rattle.vic_session.specs.declared.place.At.{At}
use Rattle.vic_session.specs.declared.place.At.TheVariants as at
use Rattle.vic_session.specs.declared.place.Place.{Place}
use Rattle.vic_session.specs.Talks.{Talk, Talker, Doing, Calls, Tells, Settles, Leaves, Bad, Halts, talk_after_step, talk_after_asking, talk_from_line, talk_with_state, unsettled_count, talk_at_next_line, talk_after_line, talk_by_check, talk_after_payload, is_idle}
use Rattle.vic_session.specs.Talking.{On, IsDoing, IsBusy}
use Rattle.vic_session.specs.Sessions.{IsOver}
use Rattle.vic_session.proofs.Extends.{here, after_step, hears_is}

-- ---- the client

-- how many answers may still come to what is awaited: to a call its Reply, two for its entry, which is then unsealed, and two more, by
-- which it waits and fetches a content; to a content that is to be kept, one more
abbrev pub open_of : Awaiting → ℕ
open_of awaits.Nothing = 0
open_of (awaits.Reply n o load) = 5
open_of awaits.Turn = 2
open_of awaits.Entries = 1
open_of awaits.Kept = 6
open_of (awaits.Content h n) = 1

abbrev pub load_of : Standing → ℕ
load_of s = 2 * length s.own + open_of s.awaiting

open_some : (a : Awaiting) (m : ToClient) → is_awaited a m ≡ true → 0 < open_of a
open_some awaits.Nothing m e = absurd cc
open_some (awaits.Reply n o load) m e = omega arith
open_some awaits.Turn m e = omega arith
open_some awaits.Entries m e = omega arith
open_some awaits.Kept m e = omega arith
open_some (awaits.Content h n) m e = omega arith

falls_replied : (me : ℕ) (s : Standing) (seal : Seal) (path : List Entry) (part : Option Part) (a : Awaiting) → s.awaiting ≡ a → (move_on_reply me s seal path part a).next.halted ≡ None
    → load_of (move_on_reply me s seal path part a).next < load_of s
falls_replied me s seal [] part a is live = absurd cc
falls_replied me s seal (e ∷ below) None a is live = absurd cc
falls_replied me s seal (e ∷ below) (Some part) (awaits.Reply n o load) is live =
    let five : open_of s.awaiting ≡ 5 = ap open_of is in
    let one : length (move_on_reply me s seal (e ∷ below) (Some part) (awaits.Reply n o load)).next.own ≡ length s.own + 1 = length-append s.own _ in
    omega (arith, five, one)
falls_replied me s seal (e ∷ below) (Some part) awaits.Nothing is live = absurd cc
falls_replied me s seal (e ∷ below) (Some part) awaits.Turn is live = absurd cc
falls_replied me s seal (e ∷ below) (Some part) awaits.Entries is live = absurd cc
falls_replied me s seal (e ∷ below) (Some part) awaits.Kept is live = absurd cc
falls_replied me s seal (e ∷ below) (Some part) (awaits.Content h n) is live = absurd cc

falls_updated : (s : Standing) (seal : Seal) (part : Option Part) (own : List Own) → s.own ≡ own → 0 < open_of s.awaiting → (move_on_update s seal part own).next.halted ≡ None → load_of (move_on_update s seal part own).next < load_of s
falls_updated s seal None own is some live = absurd cc
falls_updated s seal (Some part) [] is some live = absurd cc
falls_updated s seal (Some part) (o ∷ others) is some live =
    let more : length s.own ≡ suc (length others) = ap length is in
    omega (arith, more, some)

-- a Wait is awaited at a turn, and Kept where a content is to be kept
two_open : (a : Awaiting) → is_awaited a say.Wait ≡ true → open_of a ≡ 2
two_open awaits.Nothing e = absurd cc
two_open (awaits.Reply n o load) e = absurd cc
two_open awaits.Turn e = refl
two_open awaits.Entries e = absurd cc
two_open awaits.Kept e = absurd cc
two_open (awaits.Content h n) e = absurd cc

six_open : (a : Awaiting) → is_awaited a say.Kept ≡ true → open_of a ≡ 6
six_open awaits.Nothing e = absurd cc
six_open (awaits.Reply n o load) e = absurd cc
six_open awaits.Turn e = absurd cc
six_open awaits.Entries e = absurd cc
six_open awaits.Kept e = refl
six_open (awaits.Content h n) e = absurd cc

falls_waited : (s : Standing) (p : Phase) → open_of s.awaiting ≡ 2 → load_of (move_on_wait s p).next < load_of s
falls_waited s phase.Closed two = omega (arith, two)
falls_waited s (phase.Keeping k h len) two = omega (arith, two)
falls_waited s phase.Calling two = omega (arith, two)
falls_waited s (phase.Fetching h len) two = omega (arith, two)

falls_kept : (s : Standing) (p : Phase) → open_of s.awaiting ≡ 6 → (move_by_object_step s false (step_on_kept p)).next.halted ≡ None → load_of (move_by_object_step s false (step_on_kept p)).next < load_of s
falls_kept s phase.Closed six live = absurd cc
falls_kept s (phase.Keeping k h len) six live = omega (arith, six)
falls_kept s phase.Calling six live = absurd cc
falls_kept s (phase.Fetching h len) six live = absurd cc

falls_refused : (s : Standing) (r : ℕ) (a : Awaiting) → 0 < open_of s.awaiting → load_of (move_on_refusal s r a).next < load_of s
falls_refused s r awaits.Nothing some = omega (arith, some)
falls_refused s r (awaits.Reply n o load) some = omega (arith, some)
falls_refused s r awaits.Turn some = omega (arith, some)
falls_refused s r awaits.Entries some = omega (arith, some)
falls_refused s r awaits.Kept some = omega (arith, some)
falls_refused s r (awaits.Content h n) some = omega (arith, some)

falls_taken : (me : ℕ) (s : Standing) (m : ToClient) → is_awaited s.awaiting m ≡ true → (move_on_answer me s m).next.halted ≡ None → load_of (move_on_answer me s m).next < load_of s
falls_taken me s (say.Reply seal entries part) is live = falls_replied me s seal (path_with_entries s entries) (read_part part) s.awaiting refl live
falls_taken me s say.Wait is live = falls_waited s s.phase (two_open s.awaiting is)
falls_taken me s (say.Update seal part) is live = falls_updated s seal (read_part part) s.own refl (open_some s.awaiting (say.Update seal part) is) live
falls_taken me s (say.Entries seal entries) is live = let some = open_some s.awaiting (say.Entries seal entries) is in omega (arith, some)
falls_taken me s (say.Refused r) is live = falls_refused s r s.awaiting (open_some s.awaiting (say.Refused r) is)
falls_taken me s say.Hi is live = absurd cc
falls_taken me s say.Kept is live = falls_kept s s.phase (six_open s.awaiting is) live
falls_taken me s (say.Content c) is live = let some = open_some s.awaiting (say.Content c) is in omega (arith, some)
falls_taken me s say.Gone is live = absurd cc
falls_taken me s say.Absent is live = absurd cc

-- what passes the first check is awaited
form_awaited : (s : Standing) (m : ToClient) → has_form s m ≡ true → is_awaited s.awaiting m ≡ true
form_awaited s (say.Reply seal entries part) e = (and_parts _ _ e).0
form_awaited s (say.Update seal part) e = (and_parts _ _ e).0
form_awaited s (say.Entries seal entries) e = (and_parts _ _ e).0
form_awaited s say.Wait e = e
form_awaited s (say.Refused r) e = e
form_awaited s say.Hi e = e
form_awaited s say.Kept e = e
form_awaited s (say.Content c) e = e
form_awaited s say.Gone e = e
form_awaited s say.Absent e = e

first_passes : (b : Bool) (others : Option ℕ) → (if b then others else Some 1) ≡ None → b ≡ true
first_passes true others e = refl
first_passes false others e = absurd cc

passes_on : (g : Group) (me : ℕ) (s : Standing) (m : ToClient) → verdict_on g me s (Some m) ≡ None → is_awaited s.awaiting m ≡ true
passes_on g me s m e = form_awaited s m (first_passes (has_form s m) _ e)

falls_by : (g : Group) (me : ℕ) (s : Standing) (m : Option ToClient) (k : Option ℕ) → verdict_on g me s m ≡ k → (move_on_verdict me s m k).next.halted ≡ None → load_of (move_on_verdict me s m k).next < load_of s
falls_by g me s m (Some k) is live = absurd cc
falls_by g me s (Some m) None is live = falls_taken me s m (passes_on g me s m is) live
falls_by g me s None None is live = absurd cc

falls_on : (g : Group) (me : ℕ) (s : Standing) (k : Option ℕ) (payload : List ℕ) → (move_on_payload g me s k payload).next.halted ≡ None → load_of (move_on_payload g me s k payload).next < load_of s
unfolding verdict
falls_on g me s (Some k) payload live = absurd cc
falls_on g me s None payload live = falls_by g me s (read_answer payload) (verdict g me s payload) refl live

-- a client that takes an answer and doesn't halt
falls_step : (g : Group) (me : ℕ) (s : Standing) (payload : List ℕ) → (step g me s (input.Payload payload)).next.halted ≡ None → load_of (step g me s (input.Payload payload)).next < load_of s
unfolding step
falls_step g me s payload live = falls_on g me s s.halted payload live

-- ---- the talk

-- how many answers a line may need, and lines may
abbrev pub need_of : Option ClientLine → ℕ
need_of None = 0
need_of (Some line.Skip) = 0
need_of (Some (line.Call o)) = 5
need_of (Some (line.Object c)) = 6
need_of (Some line.Poll) = 2
need_of (Some line.Sync) = 1
need_of (Some (line.Settle n)) = 2 * n

abbrev pub needs : Mode → List (List ℕ) → ℕ
needs kind [] = 0
needs kind (text ∷ texts) = need_of (client_line_of kind text) + needs kind texts

-- how many answers may come to the polls that are left
abbrev pub left_of : Doing → ℕ
left_of Calls = 0
left_of Tells = 0
left_of (Settles n) = 2 * n
left_of Leaves = 0
left_of (Bad k) = 0
left_of (Halts k p) = 0

-- how many answers a talk may still need
abbrev pub need_at : Talker → Talk → ℕ
need_at w t = needs w.group.mode t.lines + left_of t.doing + load_of t.now

need_call : (w : Talker) (t : Talk) (o : Op) (d : Doing) → need_at w (talk_after_asking w t (input.Call o) d) ≡ needs w.group.mode t.lines + left_of d + (2 * length t.now.own + 5)
unfolding talk_after_step step
need_call w t o d = refl

need_object : (w : Talker) (t : Talk) (c : ObjectCall) (d : Doing) → need_at w (talk_after_asking w t (input.Object c) d) ≤ needs w.group.mode t.lines + left_of d + (2 * length t.now.own + 6)
unfolding talk_after_step step
need_object w t (object.Store k c) d = omega arith
need_object w t (object.Load k) d = omega arith
need_object w t (object.Erase k) d = omega arith
need_object w t (object.Names p) d = omega arith

need_poll : (w : Talker) (t : Talk) (d : Doing) → need_at w (talk_after_asking w t input.Poll d) ≡ needs w.group.mode t.lines + left_of d + (2 * length t.now.own + 2)
unfolding talk_after_step step
need_poll w t d = refl

need_sync : (w : Talker) (t : Talk) (d : Doing) → need_at w (talk_after_asking w t input.Sync d) ≡ needs w.group.mode t.lines + left_of d + (2 * length t.now.own + 1)
unfolding talk_after_step step
need_sync w t d = refl

-- where a talk isn't over, it needs at most so much
abbrev AtMost : Talker → Talk → ℕ → Type 0
AtMost w t most = (IsOver t.doing → ⊥) → need_at w t ≤ most

over : (w : Talker) (t : Talk) (most : ℕ) → IsOver t.doing → AtMost w t most
over w t most is = λ busy. absurd (busy is)

either : (w : Talker) (b : Bool) (x y : Talk) (most : ℕ) → AtMost w x most → AtMost w y most → AtMost w (if b then x else y) most
either w true x y most f g = f
either w false x y most f g = g

begun : (w : Talker) (t : Talk) (l : Option ClientLine) (next : Talk → Talk) → ((u : Talk) → AtMost w (next u) (needs w.group.mode t.lines + 2 * length u.now.own))
    → AtMost w (talk_from_line w t l next) (need_of l + needs w.group.mode t.lines + 2 * length t.now.own)
begun w t None next h = λ busy. absurd (busy tt)
begun w t (Some line.Skip) next h = λ busy. (let x : need_at w (next t) ≤ needs w.group.mode t.lines + 2 * length t.now.own = h t busy in omega (arith, x))
begun w t (Some (line.Call o)) next h = λ busy. (let x = need_call w t o Calls in omega (arith, x))
begun w t (Some (line.Object c)) next h = λ busy. (let x = need_object w t c Calls in omega (arith, x))
begun w t (Some line.Poll) next h = λ busy. (let x = need_poll w t Tells in omega (arith, x))
begun w t (Some line.Sync) next h = λ busy. (let x = need_sync w t Tells in omega (arith, x))
begun w t (Some (line.Settle zero)) next h = λ busy.
    (let x : need_at w (next (talk_with_state t)) ≤ needs w.group.mode t.lines + 2 * length t.now.own = h (talk_with_state t) busy in omega (arith, x))
begun w t (Some (line.Settle (suc n))) next h =
    either w (nat_eq (unsettled_count t) 0) (next (talk_with_state t)) (talk_after_asking w t input.Poll (Settles n)) (2 * suc n + needs w.group.mode t.lines + 2 * length t.now.own)
    (λ busy. (let x : need_at w (next (talk_with_state t)) ≤ needs w.group.mode t.lines + 2 * length t.now.own = h (talk_with_state t) busy in omega (arith, x)))
    (λ busy. (let x = need_poll w t (Settles n) in omega (arith, x)))

gone_on : (w : Talker) (t : Talk) (texts : List (List ℕ)) → AtMost w (talk_at_next_line w t texts) (needs w.group.mode texts + 2 * length t.now.own)
unfolding talk_at_next_line
gone_on w t [] = λ busy. absurd (busy tt)
gone_on w t (text ∷ texts) =
    let u = here w t text texts in
    either w (nat_lt script_limit u.behind) (record u { doing = Bad 7 }) (talk_from_line w u (client_line_of w.group.mode text) (λ v. talk_at_next_line w v texts)) (needs w.group.mode (text ∷ texts) + 2 * length t.now.own)
    (λ busy. absurd (busy tt)) (begun w u (client_line_of w.group.mode text) (λ v. talk_at_next_line w v texts) (λ v. gone_on w v texts))

told_on : (w : Talker) (t : Talk) → AtMost w (let u = talk_with_state t in talk_at_next_line w u u.lines) (needs w.group.mode t.lines + 2 * length t.now.own)
told_on w t = gone_on w (talk_with_state t) t.lines

-- what it is at is over
ended : (w : Talker) (t : Talk) (d : Doing) → t.doing ≡ d → AtMost w (talk_after_line w t d) (needs w.group.mode t.lines + left_of d + 2 * length t.now.own)
ended w t Calls is = λ busy. (let x = gone_on w t t.lines busy in omega (arith, x))
ended w t Tells is = λ busy. (let x = told_on w t busy in omega (arith, x))
ended w t (Settles zero) is = λ busy. (let x = told_on w t busy in omega (arith, x))
ended w t (Settles (suc n)) is =
    either w (nat_eq (unsettled_count t) 0) (let u = talk_with_state t in talk_at_next_line w u u.lines) (talk_after_asking w t input.Poll (Settles n)) (needs w.group.mode t.lines + 2 * suc n + 2 * length t.now.own)
    (λ busy. (let x = told_on w t busy in omega (arith, x))) (λ busy. (let x = need_poll w t (Settles n) in omega (arith, x)))
ended w t Leaves is = over w t (needs w.group.mode t.lines + 0 + 2 * length t.now.own) (subst (λ (d : Doing). IsOver d) (sym is) tt)
ended w t (Bad k) is = over w t (needs w.group.mode t.lines + 0 + 2 * length t.now.own) (subst (λ (d : Doing). IsOver d) (sym is) tt)
ended w t (Halts k p) is = over w t (needs w.group.mode t.lines + 0 + 2 * length t.now.own) (subst (λ (d : Doing). IsOver d) (sym is) tt)

gone_from : (w : Talker) (t : Talk) (payload : List ℕ) → AtMost w (talk_by_check w t payload None) (need_at w t)
gone_from w t payload =
    either w (is_idle t.now) (talk_after_line w t t.doing) t (need_at w t)
    (λ busy. (let x = ended w t t.doing refl busy in omega (arith, x))) (λ busy. omega arith)

falls_halted : (w : Talker) (t : Talk) (payload : List ℕ) (k : Option ℕ) → (after_step w t payload).now.halted ≡ k → (IsOver (talk_by_check w (after_step w t payload) payload k).doing → ⊥)
    → need_at w (talk_by_check w (after_step w t payload) payload k) < need_at w t
unfolding talk_after_step
falls_halted w t payload (Some k) is busy = absurd (busy tt)
falls_halted w t payload None is busy =
    let most = gone_from w (after_step w t payload) payload busy in
    let less : load_of (after_step w t payload).now < load_of t.now = falls_step w.group w.me t.now payload is in
    let same : need_at w (after_step w t payload) ≡ needs w.group.mode t.lines + left_of t.doing + load_of (after_step w t payload).now = refl in
    omega (arith, most, less, same)

-- a talk that takes an answer and isn't over needs less then
pub falls : (w : Talker) (t : Talk) (payload : List ℕ) → (IsOver (talk_after_payload w t payload).doing → ⊥) → need_at w (talk_after_payload w t payload) < need_at w t
falls w t payload busy =
    subst (λ (v : Talk). need_at w v < need_at w t) (sym (hears_is w t payload))
    (falls_halted w t payload (talk_after_step w t (input.Payload payload)).now.halted refl (subst (λ (v : Talk). IsOver v.doing → ⊥) (hears_is w t payload) busy))

-- ---- a session

-- how many answers a client may still be given at its place of a script: one more where it awaits one
abbrev rank_at : At → ℕ → ℕ
rank_at at.Calls n = suc n
rank_at at.Tells n = suc n
rank_at (at.Settles k) n = suc (n + 2 * k)
rank_at at.Leaves n = 0
rank_at (at.Bad k) n = 0
rank_at (at.Halts k h) n = 0

abbrev pub rank : KeptClient → Place → ℕ
rank c p = rank_at p.doing (needs c.mode (lines_of p.rest.now) + (2 * length c.own + open_of c.awaiting))

busy_is : (a : At) (d : Doing) (n : ℕ) → IsBusy a → IsDoing a d → rank_at a n ≡ suc (n + left_of d)
busy_is at.Calls d n b is = let z : left_of d ≡ 0 = ap left_of is in omega (arith, z)
busy_is at.Tells d n b is = let z : left_of d ≡ 0 = ap left_of is in omega (arith, z)
busy_is (at.Settles k) d n b is = let z : left_of d ≡ 2 * k = ap left_of is in omega (arith, z)
busy_is at.Leaves d n b is = absurd b
busy_is (at.Bad k) d n b is = absurd b
busy_is (at.Halts k h) d n b is = absurd b

not_over : (d e : Doing) → d ≡ e → (IsOver e → ⊥) → IsOver d → ⊥
not_over d e is f o = f (subst (λ (x : Doing). IsOver x) is o)

rank_less : (a : At) (d : Doing) (n m : ℕ) → IsDoing a d → ((IsOver d → ⊥) → n + left_of d < m) → rank_at a n < suc m
rank_less at.Calls d n m is f = let x = f (not_over d Calls is (λ o. o)) in omega (arith, x)
rank_less at.Tells d n m is f = let x = f (not_over d Tells is (λ o. o)) in omega (arith, x)
rank_less (at.Settles k) d n m is f =
    let x = f (not_over d (Settles k) is (λ o. o)) in
    let z : left_of d ≡ 2 * k = ap left_of is in
    omega (arith, x, z)
rank_less at.Leaves d n m is f = omega arith
rank_less (at.Bad k) d n m is f = omega arith
rank_less (at.Halts k h) d n m is f = omega arith

load_is : (w : Talker) (t : Talk) (start : List ℕ) (c : KeptClient) (p : Place) (out : List ℕ) → On w t start c p out
    → needs c.mode (lines_of p.rest.now) + (2 * length c.own + open_of c.awaiting) ≡ needs w.group.mode t.lines + load_of t.now
load_is w t start c p out on =
    let lines : needs c.mode (lines_of p.rest.now) ≡ needs w.group.mode t.lines
    = ap (λ (g : Group). needs g.mode (lines_of p.rest.now)) on.group ∙ ap (needs w.group.mode) (sym on.lines) in
    let own : length c.own ≡ length t.now.own = ap length (sym on.stands_so.own) in
    let waits : open_of c.awaiting ≡ open_of t.now.awaiting = ap open_of (sym on.stands_so.awaiting) in
    omega (arith, lines, own, waits)

pub rank_falls : (w : Talker) (t : Talk) (start payload : List ℕ) (c d : KeptClient) (p q : Place) (out text : List ℕ) → On w t start c p out → IsDoing p.doing t.doing → IsBusy p.doing
    → On w (talk_after_payload w t payload) start d q text → IsDoing q.doing (talk_after_payload w t payload).doing → rank d q < rank c p
rank_falls w t start payload c d p q out text on doing busy goes at =
    let was = load_is w t start c p out on in
    let is = load_is w (talk_after_payload w t payload) start d q text goes in
    let old = busy_is p.doing t.doing (needs c.mode (lines_of p.rest.now) + (2 * length c.own + open_of c.awaiting)) busy doing in
    let less : rank_at q.doing (needs d.mode (lines_of q.rest.now) + (2 * length d.own + open_of d.awaiting)) < suc (needs w.group.mode t.lines + left_of t.doing + load_of t.now)
    = rank_less q.doing (talk_after_payload w t payload).doing (needs d.mode (lines_of q.rest.now) + (2 * length d.own + open_of d.awaiting)) (needs w.group.mode t.lines + left_of t.doing + load_of t.now) at
    (λ go. (let x = falls w t payload go in omega (arith, x, is))) in
    omega (arith, was, old, less)
