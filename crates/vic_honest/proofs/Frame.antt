-- What stays of a client's standing while the server serves others.
use Rattle.std.proofs.Common.{◌≡◌, ℕ, suc, zero, ◌-◌, ◌<◌, ◌≤◌, Bool, true, List, [], ◌∷◌, ◌++◌, length, set, Some, inl, inr, refl, sym, ap, subst, ◌∙◌, arith, append_assoc}
use Rattle.std.specs.Prelude.{nat_eq, slice_get}
use Rattle.std.specs.List.{AllByRecursion}
use Rattle.std.proofs.lemmas.Bool.{eq-eqb}
use Rattle.vic_wire.specs.declared.message.ToClient.{ToClient}
use Rattle.vic_wire.specs.declared.message.ToClient.TheVariants as say
use Rattle.vic_wire.specs.Hashes.{Group}
use Rattle.vic_rules.specs.Client.{Standing, Invokes, Commits, Polls, Seals, Syncs, Fetches}
use Rattle.vic_rules.specs.Client.{Keeps as Contains}
use Rattle.vic_dict.specs.declared.op.Op.{Op}
use Rattle.vic_dict.specs.Lists.{IsIn}
use Rattle.vic_dict.specs.declared.op.Mode.TheVariants as mode
use Rattle.vic_honest.proofs.Referred.{IsKept, Refers, refers_more}
use Rattle.vic_order.specs.Order.{Ordered, Server, Member, sealed_count, commit_at, member, set_member, or_away}
use Rattle.vic_honest.proofs.Standing.{Doing, Rests, Sends, Gets}
use Rattle.vic_honest.proofs.Owns.{NoneOf, NoneOf-joined, owns-more, IsAbove}
use Rattle.vic_honest.proofs.Knowing.{Keeps, Calm, OnObjects, ReplyComes, Does, ClientKnows}

-- ---- members

set_same : (xs : List Member) (i : ℕ) (m : Member) → i < length xs → slice_get (set xs i m) i ≡ Some m
set_same [] i m h = absurd (omega arith)
set_same (x ∷ xs) zero m h = refl
set_same (x ∷ xs) (suc i) m h = set_same xs i m (omega arith)

set_other : (xs : List Member) (i j : ℕ) (m : Member) → (i ≡ j → ⊥) → slice_get (set xs i m) j ≡ slice_get xs j
set_other [] i j m h = refl
set_other (x ∷ xs) zero zero m h = absurd (h refl)
set_other (x ∷ xs) zero (suc j) m h = refl
set_other (x ∷ xs) (suc i) zero m h = refl
set_other (x ∷ xs) (suc i) (suc j) m h = set_other xs i j m (λ e. h (ap suc e))

pub member-same : (s : Server) (i : ℕ) (m : Member) → 0 < i → i ≤ length s.members → member (set_member s i m) i ≡ m
member-same s i m above upto = ap or_away (set_same s.members (i - 1) m (omega arith))

pub member-other : (s : Server) (i j : ℕ) (m : Member) → 0 < i → 0 < j → (j ≡ i → ⊥) → member (set_member s i m) j ≡ member s j
member-other s i j m above higher apart = ap or_away (set_other s.members (i - 1) (j - 1) m (λ e. apart (omega arith)))

-- ---- the server did nothing for a client

-- it went from s to u, and may have ordered, committed and sealed calls of others
pub record Later (j : ℕ) (s u : Server) : Type 0 where
  pub new : List Ordered
  pub grown : u.log ≡ new ++ s.log
  pub others : NoneOf j new
  pub count : sealed_count s ≤ sealed_count u
  pub same : member u j ≡ member s j
  pub commits : (newer : List Ordered) (o : Ordered) (below : List Ordered) → s.log ≡ newer ++ o ∷ below → nat_eq o.entry.client j ≡ true → commit_at u (length (o ∷ below)) ≡ commit_at s (length (o ∷ below))
  pub kind : u.mode ≡ s.mode
  pub contents : (h : List ℕ) (len : ℕ) → IsKept s.contents h len → IsKept u.contents h len
  pub still_kept : (c : List ℕ) → IsIn s.contents c → IsIn u.contents c
  pub passes : (newer : List Ordered) (o : Ordered) (below : List Ordered) → s.log ≡ newer ++ o ∷ below → nat_eq o.entry.client j ≡ true → sealed_count s < length (o ∷ below) → sealed_count u < length (o ∷ below)

module _ (g : Group) (j : ℕ) (s u : Server) (l : Later j s u) (t : Standing) (seen newer : List Ordered) (log : s.log ≡ newer ++ seen) where
  calm_stays : Calm j s t newer → Calm j u t (l.new ++ newer)
  calm_stays c = record {
    ready = ap (λ m. m.stage) l.same ∙ c.ready;
    sealed = omega (arith, c.sealed, l.count);
    others = NoneOf-joined j l.new newer l.others c.others;
  }

  -- a place of the path as one of the log
  in_log : (above : List Ordered) (o : Ordered) (below : List Ordered) → seen ≡ above ++ o ∷ below → s.log ≡ (newer ++ above) ++ o ∷ below
  in_log above o below split = log ∙ ap (λ x. newer ++ x) split ∙ sym (append_assoc newer above (o ∷ below))

  -- the count stays where the next one is its own
  count_stays : (above : List Ordered) (o : Ordered) (below : List Ordered) → seen ≡ above ++ o ∷ below → nat_eq o.entry.client j ≡ true → sealed_count s ≡ length below → sealed_count u ≡ length below
  count_stays above o below split mine count =
      let higher = l.passes (newer ++ above) o below (in_log above o below split) mine (omega (arith, count)) in omega (arith, l.count, count, higher)

  committed_stays : (above : List Ordered) (o : Ordered) (below : List Ordered) (done : Bool) → seen ≡ above ++ o ∷ below → nat_eq o.entry.client j ≡ true → commit_at s (length (o ∷ below)) ≡ Some done
      → commit_at u (length (o ∷ below)) ≡ Some done
  committed_stays above o below done split mine committed = l.commits (newer ++ above) o below (in_log above o below split) mine ∙ committed

  keeps_stays : Keeps j s t seen newer → Keeps j u t seen (l.new ++ newer)
  keeps_stays k = record {
    over = k.over;
    base = k.base;
    log = l.grown ∙ ap (λ x. l.new ++ x) log ∙ sym (append_assoc l.new newer seen);
    path = k.path;
    going = k.going;
    cut = k.cut;
    sealed = k.sealed;
    root = k.root;
    own = k.own;
    unsealed = subst (AllByRecursion (IsAbove (sealed_count u))) (sym k.own)
        (owns-more j (length k.base) (λ n. sealed_count s < n) (λ n. sealed_count u < n) seen (subst (AllByRecursion (IsAbove (sealed_count s))) k.own k.unsealed)
        (λ above o below split mine higher. l.passes (newer ++ above) o below (in_log above o below split) mine higher));
    last = subst (λ m. m.last ≤ t.calls) (sym l.same) k.last;
    fetching = λ h len is. let f = k.fetching h len is in (l.kind ∙ f.0, l.contents h.bytes len f.1);
  }

  objects_stay : (load : Bool) → OnObjects s t load → OnObjects u t load
  objects_stay load o = record { calling = λ e. l.kind ∙ o.calling e; loads = λ e. l.kind ∙ o.loads e }

  refers_stays : (o : Op) → (s.mode ≡ mode.Objects → Refers s.contents o) → u.mode ≡ mode.Objects → Refers u.contents o
  refers_stays o r objects = refers_more s.contents u.contents l.contents o (r (sym l.kind ∙ objects))

  reply_stays : (m : ToClient) → ReplyComes g j s t seen newer m → ReplyComes g j u t seen (l.new ++ newer) m
  reply_stays m r = record {
    later = l.new ++ r.later;
    o = r.o;
    between = r.between;
    over = r.over;
    base = r.base;
    number = r.number;
    op = r.op;
    load = r.load;
    objects = objects_stay r.load r.objects;
    split = ap (λ x. l.new ++ x) r.split ∙ sym (append_assoc l.new r.later (r.o ∷ r.between));
    cut = r.cut;
    awaiting = r.awaiting;
    entry = r.entry;
    later_others = NoneOf-joined j l.new r.later l.others r.later_others;
    others = r.others;
    sealed_then = r.sealed_then;
    from = r.from;
    upto = omega (arith, r.upto, l.count);
    higher = l.passes r.later r.o (r.between ++ seen) (log ∙ ap (λ x. x ++ seen) r.split ∙ append_assoc r.later (r.o ∷ r.between) seen) (ap (λ e. nat_eq e.client j) r.entry ∙ eq-eqb j j refl) r.higher;
    stage = ap (λ x. x.stage) l.same ∙ r.stage;
    message = r.message;
  }

  does_stays : (doing : Doing) → Does g j s t seen newer doing → Does g j u t seen (l.new ++ newer) doing
  does_stays Rests d = (d.0, calm_stays d.1)
  does_stays (Sends (Invokes n o)) d = record { load = d.load; objects = objects_stay d.load d.objects; refers = refers_stays o d.refers; awaiting = d.awaiting; number = d.number; new = subst (λ m. m.last < n) (sym l.same) d.new; fits = d.fits; calm = calm_stays d.calm }
  does_stays (Sends (Commits done)) d = record {
    o = d.o;
    below = d.below;
    awaiting = d.awaiting;
    top = d.top;
    mine = d.mine;
    status = d.status;
    sealed = omega (arith, d.sealed, l.count);
    others = NoneOf-joined j l.new newer l.others d.others;
    stage = ap (λ m. m.stage) l.same ∙ d.stage;
  }
  does_stays (Sends Polls) d = (d.0, calm_stays d.1)
  does_stays (Sends Seals) d = record {
    above = d.above;
    o = d.o;
    below = d.below;
    done = d.done;
    awaiting = d.awaiting;
    split = d.split;
    mine = d.mine;
    count = count_stays d.above d.o d.below d.split d.mine d.count;
    position = d.position;
    committed = committed_stays d.above d.o d.below d.done d.split d.mine d.committed;
    ready = ap (λ m. m.stage) l.same ∙ d.ready;
    others = NoneOf-joined j l.new newer l.others d.others;
  }
  does_stays (Sends Syncs) d = (d.0, calm_stays d.1)
  does_stays (Sends (Contains c)) d = record { key = d.key; awaiting = d.awaiting; at = d.at; holds = d.holds; small = d.small; objects = l.kind ∙ d.objects; calm = calm_stays d.calm }
  does_stays (Sends (Fetches h)) d = record {
    digest = d.digest;
    len = d.len;
    is = d.is;
    awaiting = d.awaiting;
    kept = l.contents h d.len d.kept;
    long = d.long;
    objects = l.kind ∙ d.objects;
    calm = calm_stays d.calm;
  }
  does_stays (Gets say.Hi) d = d
  does_stays (Gets (say.Reply seal es part)) d = reply_stays (say.Reply seal es part) d
  does_stays (Gets say.Wait) d = (d.0, calm_stays d.1)
  does_stays (Gets (say.Update seal part)) d = record {
    above = d.above;
    o = d.o;
    below = d.below;
    done = d.done;
    awaiting = d.awaiting;
    split = d.split;
    mine = d.mine;
    count = count_stays d.above d.o d.below d.split d.mine d.count;
    committed = committed_stays d.above d.o d.below d.done d.split d.mine d.committed;
    calm = calm_stays d.calm;
    message = d.message;
  }
  does_stays (Gets (say.Entries seal es)) d = record {
    later = l.new ++ d.later;
    between = d.between;
    over = d.over;
    base = d.base;
    split = ap (λ x. l.new ++ x) d.split ∙ sym (append_assoc l.new d.later d.between);
    cut = d.cut;
    awaiting = d.awaiting;
    from = d.from;
    upto = omega (arith, d.upto, l.count);
    near = d.near;
    calm = calm_stays d.calm;
    message = d.message;
  }
  does_stays (Gets (say.Refused r)) (inl d) = inl (record { number = d.number; op = d.op; load = d.load; awaiting = d.awaiting; limit = d.limit; calm = calm_stays d.calm })
  does_stays (Gets (say.Refused r)) (inr d) = inr (record { awaiting = d.awaiting; full = d.full; calm = calm_stays d.calm })
  does_stays (Gets say.Kept) d = record {
    key = d.key;
    h = d.h;
    len = d.len;
    awaiting = d.awaiting;
    at = d.at;
    holds = d.holds;
    kept = l.contents d.h.bytes d.len d.kept;
    small = d.small;
    objects = l.kind ∙ d.objects;
    calm = calm_stays d.calm;
  }
  does_stays (Gets (say.Content c)) d = record { digest = d.digest; len = d.len; awaiting = d.awaiting; is = d.is; kept = l.still_kept c d.kept; objects = l.kind ∙ d.objects; calm = calm_stays d.calm }
  does_stays (Gets say.Gone) d = d
  does_stays (Gets say.Absent) d = d

pub client_stays : (g : Group) (j : ℕ) (s u : Server) → Later j s u → (t : Standing) (up down : List (List ℕ)) → ClientKnows g j s t up down → ClientKnows g j u t up down
client_stays g j s u l t up down c = record {
  seen = c.seen;
  newer = l.new ++ c.newer;
  keeps = keeps_stays g j s u l t c.seen c.newer c.keeps.log c.keeps;
  doing = c.doing;
  up_is = c.up_is;
  down_is = c.down_is;
  spelled = c.spelled;
  does = does_stays g j s u l t c.seen c.newer c.keeps.log c.doing c.does;
}

-- a server that stays as it is
pub same_server : (j : ℕ) (s : Server) → Later j s s
same_server j s = record { new = []; grown = refl; others = tt; count = omega arith; same = refl; commits = λ newer o below is mine. refl; kind = refl; contents = λ h len k. k; still_kept = λ c i. i; passes = λ newer o below is mine higher. higher }
