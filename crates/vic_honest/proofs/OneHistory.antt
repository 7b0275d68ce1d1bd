-- The completed calls in the order of the log are one legal history in real-time order.
use Rattle.vic_honest.specs.Claims.{IsOneHistory, completed_in}
use Rattle.vic_honest.specs.SafeRuns.{IsSafeRun}
use Rattle.vic_order.specs.Scenes.{Event, Scene}
use Rattle.std.proofs.Common.{◌≡◌, ℕ, suc, ◌<◌, ◌≤◌, Bool, true, false, List, [], ◌∷◌, ◌++◌, length, Option, Some, None, ◌⊎◌, inl, inr, refl, sym, ap, subst, ◌∙◌, arith, append_assoc}
use Rattle.std.specs.Prelude.{if◌then◌else◌, nat_eq, nat_lt}
use Rattle.std.specs.List.{AllByRecursion}
use Rattle.std.proofs.lemmas.List.{append-nil}
use Rattle.std.proofs.lemmas.Bool.{lt-ltb, eqb-false, ne_eqb, eq-eqb}
use Rattle.vic_dict.specs.Lists.{IsIn}
use Rattle.vic_dict.specs.declared.op.Op.{Op}
use Rattle.vic_dict.specs.declared.op.Entry.{Entry}
use Rattle.vic_dict.specs.declared.op.Outcome.{Outcome}
use Rattle.vic_dict.specs.declared.op.Outcome.TheVariants as outcome
use Rattle.vic_dict.specs.Dictionary.{Dictionary, reply, after}
use Rattle.vic_wire.specs.declared.message.ToClient.TheVariants as say
use Rattle.vic_wire.specs.Conflict.{conflicts}
use Rattle.vic_wire.specs.Hashes.{Group}
use Rattle.vic_commute.proofs.Commuting.{Alike, alike_itself, after_same, other_after, reply_alike}
use Rattle.vic_rules.specs.declared.trace.Shown.{Shown}
use Rattle.vic_rules.specs.Client.{Standing, Invokes, Commits, Polls, Seals, Syncs, least_above, is_in_the_way, in_the_way, decided_outcome, is_done, Fetches}
use Rattle.vic_rules.specs.Client.{Keeps as Contains}
use Rattle.vic_rules.specs.History.{standing, path, Completion, completions}
use Rattle.vic_rules.specs.Views.{confirmation, confirmed_calls, last_prefix, view_of, shown_as, left_by, outcome_leaves, Explains, IsLegal}
use Rattle.vic_rules.specs.Trust.{texts_made}
use Rattle.vic_laws.proofs.Words.{all_at}
use Rattle.vic_laws.proofs.Agreement.{confirmed_tells, only_calls_at}
use Rattle.vic_laws.specs.OrderClaims.{CompletedAs}
use Rattle.vic_laws.proofs.Calls.{Grows}
use Rattle.vic_laws.proofs.Complete.{answered_completion, confirmed_below, shows_once}
use Rattle.vic_laws.proofs.RealTime.{in_order_at}
use Rattle.vic_laws.proofs.OwnLaid.{OwnOnes, own_ones}
use Rattle.vic_laws.proofs.Dictionaries.{leaves_done}
use Rattle.vic_order.specs.Order.{Ordered, Server, sealed_count}
use Rattle.vic_order.specs.Fates.{entries, fate, dictionary_by}
use Rattle.vic_honest.proofs.Words.{entries-joined, length-entries, all-second}
use Rattle.vic_honest.proofs.Standing.{World, world_of, EntryFits, WorldFits, Doing, Rests, Sends, Gets}
use Rattle.vic_honest.proofs.Owns.{AllOn, AllOn-at, NoneOf, same_end}
use Rattle.vic_honest.proofs.Deciding.{dictionary-next, none_above, not_chosen, no_conflict}
use Rattle.vic_honest.proofs.Knowing.{IsOrdered, IsPast, Does, ClientKnows}
use Rattle.vic_honest.proofs.Learning.{IsFated}
use Rattle.vic_honest.proofs.Known.{WorldKnows}
use Rattle.vic_honest.proofs.Runs.{run_fits, run_knows}

-- ---- what a log's confirmed calls leave

-- what confirms an entry has its fate
abbrev pub Fated : List Completion → List Ordered → Type 0
Fated cs [] = Unit {0}
Fated cs (x ∷ low) = ((c : Completion) → confirmation cs (entries (x ∷ low)) ≡ Some c → c.outcome ≡ fate x low) × Fated cs low

-- an entry that isn't confirmed doesn't conflict with the operation
abbrev pub Quiet : List Completion → Op → List Ordered → Type 0
Quiet cs o [] = Unit {0}
Quiet cs o (x ∷ low) = (confirmation cs (entries (x ∷ low)) ≡ None → conflicts x.entry.op o ≡ false) × Quiet cs o low

calls-next : (cs : List Completion) (x : Ordered) (low : List Ordered) → confirmed_calls cs (entries (x ∷ low)) ≡ shown_as x.entry (confirmation cs (entries (x ∷ low))) ++ confirmed_calls cs (entries low)
unfolding confirmed_calls
calls-next cs x low = refl

left-next : (x : Shown) (v : List Shown) → left_by (x ∷ v) ≡ outcome_leaves (left_by v) x x.outcome
unfolding left_by
left-next x v = refl

calls-nil : (cs : List Completion) → confirmed_calls cs [] ≡ []
unfolding confirmed_calls
calls-nil cs = refl

left_nothing : left_by [] ≡ dictionary_by []
unfolding left_by dictionary_by
left_nothing = refl

same_step : (o op : Op) (d e : Dictionary) (done : Bool) → Alike o d e → Alike o (if done then after d op else d) (if done then after e op else e)
same_step o op d e true alike = after_same o op d e alike
same_step o op d e false alike = alike

quiet_step : (o op : Op) (d e : Dictionary) (done : Bool) → conflicts op o ≡ false → Alike o d e → Alike o d (if done then after e op else e)
quiet_step o op d e true apart alike = other_after o op d e apart alike
quiet_step o op d e false apart alike = alike

-- the confirmed calls leave what is alike, at the operation, to what all entries leave
confirmed_leave : (cs : List Completion) (o : Op) (log : List Ordered) → Fated cs log → Quiet cs o log → Alike o (left_by (confirmed_calls cs (entries log))) (dictionary_by log)
confirmed_leave cs o [] fated quiet = subst (λ v. Alike o (left_by v) (dictionary_by [])) (sym (calls-nil cs)) (subst (Alike o (left_by [])) left_nothing (alike_itself o (left_by [])))
confirmed_leave cs o (x ∷ low) fated quiet =
    let rest = confirmed_leave cs o low fated.1 quiet.1 in
    let v : List Shown = confirmed_calls cs (entries low) in
    subst (λ w. Alike o (left_by w) (dictionary_by (x ∷ low))) (sym (calls-next cs x low))
    (subst (Alike o (left_by (shown_as x.entry (confirmation cs (entries (x ∷ low))) ++ v))) (sym (dictionary-next x low))
    (elim (confirmation cs (entries (x ∷ low))) as (λ c. confirmation cs (entries (x ∷ low)) ≡ c → Alike o (left_by (shown_as x.entry c ++ v)) (if is_done (fate x low) then after (dictionary_by low) x.entry.op else dictionary_by low)) [
      | None ↦ λ e. quiet_step o x.entry.op (left_by v) (dictionary_by low) (is_done (fate x low)) (quiet.0 e) rest
      | Some c ↦ λ e.
          let y : Shown = record { entry = x.entry; outcome = c.outcome } in
          let leaves : left_by (y ∷ v) ≡ (if is_done (fate x low) then after (left_by v) x.entry.op else left_by v) =
          left-next y v ∙ leaves_done (left_by v) y c.outcome ∙ ap (λ z. if is_done z then after (left_by v) x.entry.op else left_by v) (fated.0 c e) in
          subst (λ d. Alike o d (if is_done (fate x low) then after (dictionary_by low) x.entry.op else dictionary_by low)) (sym leaves)
          (same_step o x.entry.op (left_by v) (dictionary_by low) (is_done (fate x low)) rest)
    ] refl))

-- ---- legality

-- each confirmed call that is done has no unconfirmed one in its way
abbrev pub Clear : List Completion → List Ordered → Type 0
Clear cs [] = Unit {0}
Clear cs (x ∷ low) = (in_the_way x.entry.client x.entry.op x.sealed_then (entries low) ≡ None → Quiet cs x.entry.op low) × Clear cs low

explained : (w : Option ℕ) (d e : Dictionary) (x : Shown) → (w ≡ None → reply e x.entry.op ≡ reply d x.entry.op) → Explains d x (decided_outcome w e x.entry.op)
explained None d e x same = same refl
explained (Some u) d e x same = tt

fate_explained : (x : Ordered) (low : List Ordered) (d : Dictionary) → (in_the_way x.entry.client x.entry.op x.sealed_then (entries low) ≡ None → reply (dictionary_by low) x.entry.op ≡ reply d x.entry.op)
    → Explains d (record { entry = x.entry; outcome = fate x low }) (fate x low)
unfolding fate
fate_explained x low d same = explained (in_the_way x.entry.client x.entry.op x.sealed_then (entries low)) d (dictionary_by low) (record { entry = x.entry; outcome = fate x low }) same

pub confirmed_legal : (cs : List Completion) (log : List Ordered) → Fated cs log → Clear cs log → IsLegal (confirmed_calls cs (entries log))
confirmed_legal cs [] fated clear = subst IsLegal (sym (calls-nil cs)) tt
confirmed_legal cs (x ∷ low) fated clear =
    let rest = confirmed_legal cs low fated.1 clear.1 in
    let v : List Shown = confirmed_calls cs (entries low) in
    subst IsLegal (sym (calls-next cs x low))
    (elim (confirmation cs (entries (x ∷ low))) as (λ c. confirmation cs (entries (x ∷ low)) ≡ c → IsLegal (shown_as x.entry c ++ v)) [
      | None ↦ λ e. rest
      | Some c ↦ λ e. (
        rest,
        subst (λ z. Explains (left_by v) (record { entry = x.entry; outcome = z }) z) (sym (fated.0 c e))
            (fate_explained x low (left_by v) (λ free. sym (reply_alike x.entry.op (left_by v) (dictionary_by low) (confirmed_leave cs x.entry.op low fated.1 (clear.0 free))))),
      )
    ] refl)

-- ---- in a world

-- an item of a joined list stands in the one part or in the other
in_part : (newer seen above : List Ordered) (u : Ordered) (low : List Ordered) → newer ++ seen ≡ above ++ u ∷ low
    → ((over : List Ordered) × (seen ≡ over ++ u ∷ low)) ⊎ ((between : List Ordered) × ((newer ≡ above ++ u ∷ between) × (low ≡ between ++ seen)))
in_part [] seen above u low e = inl (above, e)
in_part (x ∷ newer) seen [] u low e = let top : x ≡ u = cc in let rest : newer ++ seen ≡ low = cc in inr (newer, (ap (λ y. y ∷ newer) top, sym rest))
in_part (x ∷ newer) seen (y ∷ above) u low e =
    let top : x ≡ y = cc in
    let rest : newer ++ seen ≡ above ++ u ∷ low = cc in
    elim (in_part newer seen above u low rest) [
      | inl a ↦ inl a
      | inr b ↦ inr (b.0, (ap (λ l. x ∷ l) b.1.0 ∙ ap (λ z. z ∷ (above ++ u ∷ b.0)) top, b.1.1))
    ]

NotOf-at : (me : ℕ) (above : List Ordered) (u : Ordered) (low : List Ordered) → NoneOf me (above ++ u ∷ low) → nat_eq u.entry.client me ≡ false
NotOf-at me [] u low h = h.0
NotOf-at me (x ∷ above) u low h = NotOf-at me above u low h.1

-- the one own entry of a list
one_own : (me : ℕ) (above : List Ordered) (u : Ordered) (low later : List Ordered) (o : Ordered) (between : List Ordered) → NoneOf me later → NoneOf me between → nat_eq u.entry.client me ≡ true
    → above ++ u ∷ low ≡ later ++ o ∷ between → (above ≡ later) × (u ∷ low ≡ o ∷ between)
one_own me [] u low [] o between a b mine e = (refl, e)
one_own me [] u low (z ∷ later) o between a b mine e = let top : u ≡ z = cc in let other : nat_eq u.entry.client me ≡ false = subst (λ y. nat_eq y.entry.client me ≡ false) (sym top) a.0 in absurd cc
one_own me (n ∷ above) u low [] o between a b mine e =
    let rest : above ++ u ∷ low ≡ between = cc in let other = NotOf-at me above u low (subst (NoneOf me) (sym rest) b) in absurd cc
one_own me (n ∷ above) u low (z ∷ later) o between a b mine e =
    let top : n ≡ z = cc in
    let rest : above ++ u ∷ low ≡ later ++ o ∷ between = cc in
    let r = one_own me above u low later o between a.1 b mine rest in (ap (λ l. n ∷ l) r.0 ∙ ap (λ y. y ∷ later) top, r.1)

abbrev IsOpen : ℕ → Server → List Ordered → Ordered → List Ordered → Type 0
IsOpen me s above u low = (sealed_count s < length (u ∷ low)) × NoneOf me above

none_open : (me : ℕ) (s : Server) (newer above : List Ordered) (u : Ordered) (between low : List Ordered) → NoneOf me newer → newer ≡ above ++ u ∷ between → nat_eq u.entry.client me ≡ true → IsOpen me s above u low
none_open me s newer above u between low none e mine = let other = NotOf-at me above u between (subst (NoneOf me) e none) in absurd cc

-- an own entry that the client hasn't seen is the one whose Reply is under way
unseen_open : (g : Group) (me : ℕ) (s : Server) (t : Standing) (seen newer above : List Ordered) (u : Ordered) (between low : List Ordered) (doing : Doing) → Does g me s t seen newer doing
    → newer ≡ above ++ u ∷ between → low ≡ between ++ seen → nat_eq u.entry.client me ≡ true → IsOpen me s above u low
unseen_open g me s t seen newer above u between low Rests d e f mine = none_open me s newer above u between low d.1.others e mine
unseen_open g me s t seen newer above u between low (Sends (Invokes n o)) d e f mine = none_open me s newer above u between low d.calm.others e mine
unseen_open g me s t seen newer above u between low (Sends (Commits done)) d e f mine = none_open me s newer above u between low d.others e mine
unseen_open g me s t seen newer above u between low (Sends Polls) d e f mine = none_open me s newer above u between low d.1.others e mine
unseen_open g me s t seen newer above u between low (Sends Seals) d e f mine = none_open me s newer above u between low d.others e mine
unseen_open g me s t seen newer above u between low (Sends Syncs) d e f mine = none_open me s newer above u between low d.1.others e mine
unseen_open g me s t seen newer above u between low (Sends (Contains c)) d e f mine = none_open me s newer above u between low d.calm.others e mine
unseen_open g me s t seen newer above u between low (Sends (Fetches h)) d e f mine = none_open me s newer above u between low d.calm.others e mine
unseen_open g me s t seen newer above u between low (Gets say.Hi) d e f mine = absurd d
unseen_open g me s t seen newer above u between low (Gets (say.Reply seal es part)) d e f mine =
    let one = one_own me above u between d.later d.o d.between d.later_others d.others mine (sym e ∙ d.split) in
    let long : length (u ∷ low) ≡ length (d.o ∷ (d.between ++ seen)) = ap (λ l. suc (length l)) f ∙ ap (λ l. length (l ++ seen)) one.1 in
    (omega (arith, d.higher, long), subst (NoneOf me) (sym one.0) d.later_others)
unseen_open g me s t seen newer above u between low (Gets say.Wait) d e f mine = none_open me s newer above u between low d.1.others e mine
unseen_open g me s t seen newer above u between low (Gets (say.Update seal part)) d e f mine = none_open me s newer above u between low d.calm.others e mine
unseen_open g me s t seen newer above u between low (Gets (say.Entries seal es)) d e f mine = none_open me s newer above u between low d.calm.others e mine
unseen_open g me s t seen newer above u between low (Gets (say.Refused r)) (inl d) e f mine = none_open me s newer above u between low d.calm.others e mine
unseen_open g me s t seen newer above u between low (Gets (say.Refused r)) (inr d) e f mine = none_open me s newer above u between low d.calm.others e mine
unseen_open g me s t seen newer above u between low (Gets say.Kept) d e f mine = none_open me s newer above u between low d.calm.others e mine
unseen_open g me s t seen newer above u between low (Gets (say.Content c)) d e f mine = none_open me s newer above u between low d.calm.others e mine
unseen_open g me s t seen newer above u between low (Gets say.Gone) d e f mine = absurd d
unseen_open g me s t seen newer above u between low (Gets say.Absent) d e f mine = absurd d

own_one_at : (cs : List Completion) (me : ℕ) (above : List Entry) (e : Entry) (p : List Entry) → OwnOnes cs me (above ++ e ∷ p) → e.client ≡ me → (c : Completion) × (confirmation cs (e ∷ p) ≡ Some c)
own_one_at cs me [] e p h mine = h.0 mine
own_one_at cs me (x ∷ above) e p h mine = own_one_at cs me above e p h.1 mine

-- a search that finds nothing finds nothing at each place
none_at : (base : ℕ) (test : ℕ → Entry → Bool) (above : List Ordered) (u : Ordered) (low : List Ordered) → least_above base test (entries (above ++ u ∷ low)) ≡ None → base < length (u ∷ low) → test (length (u.entry ∷ entries low)) u.entry ≡ false
none_at base test [] u low e higher =
    let lt : nat_lt base (length (u.entry ∷ entries low)) ≡ true = lt-ltb base (length (u.entry ∷ entries low)) (omega (arith, length-entries low)) in
    not_chosen (nat_lt base (length (u.entry ∷ entries low))) (test (length (u.entry ∷ entries low)) u.entry) (length (u.entry ∷ entries low)) lt (none_above base test u.entry (entries low) e).1
none_at base test (x ∷ above) u low e higher = none_at base test above u low (none_above base test x.entry (entries (above ++ u ∷ low)) e).0 higher

abbrev top_fate : List Ordered → Outcome
top_fate [] = outcome.Refused 0
top_fate (o ∷ below) = fate o below

module _ (g : Group) (w : World) (fit : WorldFits g w) (know : WorldKnows g w) where
  abbrev cs : List Completion
  cs = completions g w.history

  -- an entry that isn't confirmed is its client's open call
  unconfirmed_open : (above : List Ordered) (u : Ordered) (low : List Ordered) → w.server.log ≡ above ++ u ∷ low → confirmation cs (entries (u ∷ low)) ≡ None → IsOpen u.entry.client w.server above u low
  unconfirmed_open above u low is none =
      let me : ℕ = u.entry.client in
      let entry : EntryFits (texts_made g w.history) u = (all-second (EntryFits (texts_made g w.history)) above (u ∷ low) (subst (AllByRecursion (EntryFits (texts_made g w.history))) is fit.server.log)).0 in
      let upto : me ≤ g.count = (AllOn-at (IsOrdered g) above u low (subst (AllOn (IsOrdered g)) is know.server.ordered)).member in
      let c : ClientKnows g me w.server (standing g me w.history) (w.up me) (w.down me) = know.clients me entry.spelled.client.0 upto in
      elim (in_part c.newer c.seen above u low (sym c.keeps.log ∙ is)) [
        | inl a ↦
            let at : path g me w.history ≡ entries a.0 ++ u.entry ∷ entries low = c.keeps.path ∙ ap entries a.1 ∙ entries-joined a.0 (u ∷ low) in
            let found = own_one_at cs me (entries a.0) u.entry (entries low) (subst (OwnOnes cs me) at (own_ones g w.history fit.steps me)) refl in
            let both = sym none ∙ found.1 in absurd cc
        | inr b ↦ unseen_open g me w.server (standing g me w.history) c.seen c.newer above u b.0 low c.doing c.does b.1.0 b.1.1 (eq-eqb me me refl)
      ]

  fated_on : (above low : List Ordered) → w.server.log ≡ above ++ low → Fated cs low
  fated_on above [] is = tt
  fated_on above (x ∷ low) is = (
    (λ c e.
        let tells = confirmed_tells cs (entries (x ∷ low)) c e in
        let f : IsFated w.server.log c = all_at (IsFated w.server.log) cs c know.fates tells.0 in
        let long : length (x ∷ low) ≡ length (f.o ∷ f.below) = sym (length-entries (x ∷ low)) ∙ ap length (sym tells.1 ∙ f.prefix) ∙ length-entries (f.o ∷ f.below) in
        let same : x ∷ low ≡ f.o ∷ f.below = same_end above (x ∷ low) f.newer (f.o ∷ f.below) (sym is ∙ f.is) long in
        f.outcome ∙ ap top_fate (sym same)),
    fated_on (above ++ x ∷ []) low (is ∙ sym (append_assoc above (x ∷ []) low)),
  )

  -- a done call has no open one in its way
  quiet_on : (above : List Ordered) (x : Ordered) (low : List Ordered) → w.server.log ≡ above ++ x ∷ low → in_the_way x.entry.client x.entry.op x.sealed_then (entries low) ≡ None
      → (mid rest : List Ordered) → low ≡ mid ++ rest → Quiet cs x.entry.op rest
  quiet_on above x low is free mid [] e = tt
  quiet_on above x low is free mid (u ∷ rest) e = (
    (λ none.
        let at : w.server.log ≡ (above ++ x ∷ mid) ++ u ∷ rest = is ∙ ap (λ l. above ++ x ∷ l) e ∙ sym (append_assoc above (x ∷ mid) (u ∷ rest)) in
        let opened = unconfirmed_open (above ++ x ∷ mid) u rest at none in
        let past : x.sealed_then ≤ sealed_count w.server = (all-second (IsPast (sealed_count w.server)) above (x ∷ low) (subst (AllByRecursion (IsPast (sealed_count w.server))) is know.server.past)).0 in
        let away : is_in_the_way x.entry.client x.entry.op (length (u.entry ∷ entries rest)) u.entry ≡ false =
        none_at x.sealed_then (is_in_the_way x.entry.client x.entry.op) mid u rest (ap (λ l. in_the_way x.entry.client x.entry.op x.sealed_then (entries l)) (sym e) ∙ free) (omega (arith, past, opened.0)) in
        let other : nat_eq u.entry.client x.entry.client ≡ false =
        ne_eqb u.entry.client x.entry.client (λ same. eqb-false x.entry.client u.entry.client (NotOf-at u.entry.client above x mid opened.1) (sym same)) in
        no_conflict (nat_eq u.entry.client x.entry.client) (conflicts u.entry.op x.entry.op) other away),
    quiet_on above x low is free (mid ++ u ∷ []) rest (e ∙ sym (append_assoc mid (u ∷ []) rest)),
  )

  clear_on : (above low : List Ordered) → w.server.log ≡ above ++ low → Clear cs low
  clear_on above [] is = tt
  clear_on above (x ∷ low) is = ((λ free. quiet_on above x low is free [] low refl), clear_on (above ++ x ∷ []) low (is ∙ sym (append_assoc above (x ∷ []) low)))

  pub world_legal : IsLegal (confirmed_calls cs (entries w.server.log))
  world_legal = confirmed_legal cs w.server.log (fated_on [] w.server.log refl) (clear_on [] w.server.log refl)

-- the path of each completed call is a front of the log
world_has : (g : Group) (w : World) → WorldKnows g w → (c : Completion) → IsIn (completions g w.history) c → Grows c.prefix (entries w.server.log)
world_has g w know c there =
    let f : IsFated w.server.log c = all_at (IsFated w.server.log) (completions g w.history) c know.fates there in
    (entries f.newer, ap entries f.is ∙ entries-joined f.newer (f.o ∷ f.below) ∙ ap (λ p. entries f.newer ++ p) (sym f.prefix))

pub one_history : (s : Scene) (server : Server) (events : List Event) → IsSafeRun s server events
    → IsOneHistory s.group s.history (completed_in s.group s.history server.log)
one_history s server events run =
    let w : World = world_of s server in
    let fit : WorldFits s.group w = (run_fits s server events run.honest).fits in
    let know : WorldKnows s.group w = run_knows s server events run in
    record {
      legal = world_legal s.group w fit know;
      in_order = in_order_at s.group w.history fit.steps fit.honest (entries w.server.log);
      all = λ me e o owner done answered.
          let c : CompletedAs s.group w.history e o = answered_completion s.group w.history fit.steps e o done answered in
          shows_once s.group w.history fit.steps e o c (entries w.server.log) (world_has s.group w know c.by c.there);
      only = only_calls_at s.group w.history fit.steps (entries w.server.log);
    }

-- ---- views

-- the path up to a client's last completed call is a front of the log
last_front : (me : ℕ) (log : List Ordered) (cs : List Completion) → AllByRecursion (IsFated log) cs → Grows (last_prefix me cs) (entries log)
unfolding last_prefix
last_front me log [] h = (entries log, sym (append-nil (entries log)))
last_front me log (c ∷ cs) h =
    elim (nat_eq c.client me) as (λ b. Grows (if b then c.prefix else last_prefix me cs) (entries log)) [
      | true ↦ (entries h.0.newer, ap entries h.0.is ∙ entries-joined h.0.newer (h.0.o ∷ h.0.below) ∙ ap (λ p. entries h.0.newer ++ p) (sym h.0.prefix))
      | false ↦ last_front me log cs h.1
    ]

pub views_are_fronts : (s : Scene) (server : Server) (events : List Event) → IsSafeRun s server events → (me : ℕ)
    → (newer : List Shown) × (completed_in s.group s.history server.log ≡ newer ++ view_of s.group me s.history)
unfolding view_of
views_are_fronts s server events run me =
    let w : World = world_of s server in
    let cs : List Completion = completions s.group w.history in
    let grown = last_front me w.server.log cs (run_knows s server events run).fates in
    let shown = confirmed_below cs grown.0 (last_prefix me cs) in
    (shown.0, ap (confirmed_calls cs) grown.1 ∙ shown.1)
