-- Each request of a client that stands well is served, and its answer is right.
use Rattle.std.proofs.Common.{◌≡◌, ℕ, suc, ◌+◌, ◌-◌, ◌<◌, ◌≤◌, Bool, true, false, not, ◌&&◌, ◌||◌, List, [], ◌∷◌, ◌++◌, length, take, drop, min, Option, Some, None, inl, inr, refl, sym, ap, subst, ◌∙◌, arith, length-append, length-drop, length-set, append_assoc}
use Rattle.std.specs.Prelude.{if◌then◌else◌, nat_eq, nat_lt, nat_le}
use Rattle.std.specs.List.{AllByRecursion, sum_by}
use Rattle.std.proofs.lemmas.Bool.{eqb-true, eqb-false, eq-eqb, ne_eqb, lt-ltb, le-leb, and_from, not-true, cases_eq}
use Rattle.std.proofs.lemmas.List.{take-append-drop, drop-append-le}
use Rattle.vic_dict.specs.Lists.{front}
use Rattle.vic_dict.specs.declared.op.Op.{Op}
use Rattle.vic_dict.specs.Dictionary.{after}
use Rattle.vic_wire.specs.declared.message.Digest32.{Digest32}
use Rattle.vic_wire.specs.declared.message.Seal.{Seal}
use Rattle.vic_wire.specs.declared.message.ToClient.{ToClient}
use Rattle.vic_wire.specs.declared.message.ToClient.TheVariants as say
use Rattle.vic_wire.specs.Texts.{invoke_text}
use Rattle.vic_wire.specs.Hashes.{Group}
use Rattle.vic_wire.specs.Parts.{part_for}
use Rattle.vic_rules.specs.declared.state.Awaiting.TheVariants as awaits
use Rattle.vic_rules.specs.Client.{Standing, Sending, Invokes, Commits, Polls, Seals, Syncs, Fetches, request_of, seal_text_on, commit_text_on, digest, tag_for, first_failing, is_done}
use Rattle.vic_rules.specs.Client.{Keeps as Contains}
use Rattle.vic_rules.specs.Objects.{content_hash, is_content_of}
use Rattle.vic_dict.specs.declared.op.Mode.TheVariants as mode
use Rattle.vic_honest.proofs.Referred.{has, kept_by, found_in, IsKept, Refers, refers_more, kept_more, kept_here, kept_wanted, found_there}
use Rattle.vic_laws.proofs.Words.{all_weaker}
use Rattle.vic_order.specs.declared.Stage.{Stage}
use Rattle.vic_order.specs.declared.Stage.TheVariants as stage
use Rattle.vic_order.specs.Order.{Ordered, Server, Member, Answered, answer_alone, answer_with_change, answer_by_tests, answer_unless_refused, size, sealed_count, seal_at_position, top_seal, ordered_at, commit_at, member, set_stage, is_ready, is_open_at, is_inside, is_put, is_member, op_weight, weight, entries_above, turn, with_commit, with_seal, owns_committed, applied_to, ordered_next, same_mode, is_kept, content_with, serve_read}
use Rattle.vic_order.specs.Fates.{entries, fate, dictionary_by}
use Rattle.vic_honest.specs.Claims.{passed_limit}
use Rattle.vic_honest.proofs.Words.{length-entries, told, above-told}
use Rattle.vic_honest.proofs.Standing.{Sends, Gets}
use Rattle.vic_honest.proofs.Serving.{passed, test_passed, seal_text-joined}
use Rattle.vic_honest.proofs.Owns.{same_end, Cut, cut_at, root_on, seal_on, seals_on, owns-above, IsAbove}
use Rattle.vic_honest.proofs.Deciding.{dictionary-next}
use Rattle.vic_honest.proofs.Knowing.{IsPast, ServerKnows, Keeps, Calm, InvokeGoes, CommitGoes, SealGoes, KeepGoes, FetchGoes, Does}
use Rattle.vic_honest.proofs.Frame.{same_server, member-same, member-other}
use Rattle.vic_honest.proofs.Answering.{Answers, count_is, top_is, base_is, seal_at-is, ordered_at-is, turn_does}

-- a test that passes refuses nothing
pub guard_ok : (s : Server) (n : ℕ) (b : Bool) (a : Answered) → b ≡ true → answer_by_tests s ((n, b) ∷ []) a ≡ a
guard_ok s n b a e = ap (λ c. answer_unless_refused s (if c then None else Some n) a) e

-- what a call that is ordered leaves and is answered
abbrev pub ordered_by : Server → ℕ → ℕ → ℕ → Op → Digest32 → Answered
ordered_by s me known n o tag = answer_with_change (ordered_next s me n o tag) (say.Reply (top_seal s) (entries_above known (ordered_next s me n o tag).log) (part_for s.dictionary o))

-- the status that a log gives its newest entry
abbrev status_of : List Ordered → Bool
status_of [] = false
status_of (o ∷ below) = is_done (fate o below)

not_both : (me j : ℕ) (o : Ordered) → nat_eq o.entry.client me ≡ true → nat_eq o.entry.client j ≡ true → j ≡ me
not_both me j o mine theirs = sym (eqb-true o.entry.client j theirs) ∙ eqb-true o.entry.client me mine

failing : (P : ℕ → Type 0) (tests : List (ℕ × Bool)) (r : ℕ) → AllByRecursion (λ c. P c.0) tests → first_failing tests ≡ Some r → P r
failing P [] r h e = absurd cc
failing P (c ∷ cs) r h e =
    elim (c.1) as (λ b. (if b then first_failing cs else Some c.0) ≡ Some r → P r) [
      | true ↦ λ f. failing P cs r h.1 f
      | false ↦ λ f. let is : c.0 ≡ r = cc in subst P is h.0
    ] e

abbrev seal_by : Group → ℕ → List ℕ → List ℕ → Seal
seal_by g position root text = record { position = position; root = digest root; tag = tag_for g text }

-- the seal that a client makes of a log is the right one
seal_made-is : (g : Group) (o : Ordered) (below : List Ordered) (position : ℕ) (root text : List ℕ) → position ≡ length (o ∷ below) → root ≡ root_on (o ∷ below)
    → text ≡ seal_text_on g (entries (o ∷ below)) (length (o ∷ below)) (root_on (o ∷ below)) → seal_by g position root text ≡ seal_on g (o ∷ below)
unfolding seal_on
seal_made-is g o below position root text e1 e2 e3 =
    ap (λ p. seal_by g p root text) e1 ∙ ap (λ r. seal_by g (length (o ∷ below)) r text) e2 ∙ ap (seal_by g (length (o ∷ below)) (root_on (o ∷ below))) e3

module _ (g : Group) (s : Server) (k : ServerKnows g s) (me : ℕ) (above : 0 < me) (upto : me ≤ g.count) (t : Standing) (seen newer : List Ordered) (keeps : Keeps me s t seen newer) where
  abbrev pub Gives : Answered → Type 0
  Gives a = Answers g me s t seen newer a

  length-path : length t.path ≡ length seen
  length-path = ap length keeps.path ∙ length-entries seen

  length-log : length s.log ≡ length newer + length seen
  length-log = ap length keeps.log ∙ length-append newer seen

  length-base : length s.log ≡ length k.over + length k.base
  length-base = ap length k.is ∙ length-append k.over k.base

  count : sealed_count s ≡ length k.base
  count = count_is g s k

  within : me ≤ length s.members
  within = omega (arith, k.members)

  pub is_inside-here : (a : Stage) → (member s me).stage ≡ a → is_inside a ≡ true → is_member s me ≡ true
  is_inside-here a at inside =
      and_from (nat_lt 0 me) (nat_le me (length s.members) && is_inside (member s me).stage) (lt-ltb 0 me above)
      (and_from (nat_le me (length s.members)) (is_inside (member s me).stage) (le-leb me (length s.members) within) (ap is_inside at ∙ inside))

  -- ---- Poll

  poll_answers : t.awaiting ≡ awaits.Turn → Calm me s t newer → Gives (serve_read s me (Some (request_of g me t Polls)))
  poll_answers awaiting calm =
      let a : Answered = answer_alone s (turn s me) in
      subst Gives (sym (guard_ok s 6 (is_member s me) _ (is_inside-here stage.Ready calm.ready refl) ∙ guard_ok s 5 (is_ready (member s me).stage) a (ap is_ready calm.ready))) (record {
        new = [];
        knows = k;
        keeps = keeps;
        does = turn_does g me s k t seen newer keeps.log awaiting calm;
        still_kept = λ c i. i;
        others = λ j higher apart. same_server j s;
      })

  -- ---- Commit

  commit_answers : (done : Bool) → CommitGoes me s t seen newer done → Gives (serve_read s me (Some (request_of g me t (Commits done))))
  commit_answers done go =
      let tag : Digest32 = tag_for g (commit_text_on g t.path done) in
      let mid : Server = with_commit s (length t.path) done tag in
      let next : Server = set_stage mid me stage.Ready in
      let a : Answered = answer_with_change next (turn next me) in
      let now : Member = record (member s me) { stage = stage.Ready } in
      let member_is : member next me ≡ now = member-same mid me now above within in
      let opened : is_open_at (length t.path) (member s me).stage ≡ true = ap (is_open_at (length t.path)) go.stage ∙ eq-eqb (length seen) (length t.path) (sym length-path) in
      let there : (newer2 : List Ordered) (o2 : Ordered) (below2 : List Ordered) → s.log ≡ newer2 ++ o2 ∷ below2 → nat_eq (length t.path) (length (o2 ∷ below2)) ≡ true → o2 ∷ below2 ≡ go.o ∷ go.below =
      λ newer2 o2 below2 is e. same_end newer2 (o2 ∷ below2) newer seen (sym is ∙ keeps.log) (sym (eqb-true (length t.path) (length (o2 ∷ below2)) e) ∙ length-path) ∙ go.top in
      let knows : ServerKnows g next = record {
        over = k.over;
        base = k.base;
        is = k.is;
        members = length-set s.members (me - 1) now ∙ k.members;
        ordered = k.ordered;
        near = k.near;
        seals = k.seals;
        dictionary = k.dictionary;
        fates = λ newer2 o2 below2 d is.
            elim (nat_eq (length t.path) (length (o2 ∷ below2))) as (λ b. nat_eq (length t.path) (length (o2 ∷ below2)) ≡ b → (if b then Some done else commit_at s (length (o2 ∷ below2))) ≡ Some d → d ≡ is_done (fate o2 below2)) [
              | true ↦ λ e c. let same : done ≡ d = cc in sym same ∙ go.status ∙ ap status_of (sym (there newer2 o2 below2 is e))
              | false ↦ λ e c. k.fates newer2 o2 below2 d is c
            ] refl;
        unmade = λ n past. ap (λ b. if b then Some done else commit_at s n) (ne_eqb (length t.path) n (λ e. omega (arith, length-path, length-log))) ∙ k.unmade n past;
        past = k.past;
        kind = k.kind;
        referred = k.referred;
      } in
      subst Gives (sym (guard_ok s 6 (is_member s me) _ (is_inside-here (stage.Open (length seen)) go.stage refl) ∙ guard_ok s 5 (is_open_at (length t.path) (member s me).stage) a opened)) (record {
        new = [];
        knows = knows;
        keeps = record {
          over = keeps.over;
          base = keeps.base;
          log = keeps.log;
          path = keeps.path;
          going = keeps.going;
          cut = keeps.cut;
          sealed = keeps.sealed;
          root = keeps.root;
          own = keeps.own;
          unsealed = keeps.unsealed;
          last = subst (λ m. m.last ≤ t.calls) (sym member_is) keeps.last;
          fetching = keeps.fetching;
        };
        does = turn_does g me next knows t seen newer keeps.log go.awaiting (record { ready = ap (λ m. m.stage) member_is; sealed = go.sealed; others = go.others });
        still_kept = λ c i. i;
        others = λ j higher apart. record {
          new = [];
          grown = refl;
          others = tt;
          count = omega arith;
          same = member-other mid me j now above higher apart;
          commits = λ newer2 o2 below2 is theirs.
              elim (nat_eq (length t.path) (length (o2 ∷ below2))) as (λ b. nat_eq (length t.path) (length (o2 ∷ below2)) ≡ b → (if b then Some done else commit_at s (length (o2 ∷ below2))) ≡ commit_at s (length (o2 ∷ below2))) [
                | true ↦ λ e. let same = there newer2 o2 below2 is e in let top : o2 ≡ go.o = cc in absurd (apart (not_both me j go.o go.mine (subst (λ y. nat_eq y.entry.client j ≡ true) top theirs)))
                | false ↦ λ e. refl
              ] refl;
          kind = refl;
          contents = λ h len kept. kept;
          still_kept = λ c i. i;
          passes = λ newer2 o2 below2 is theirs low. low;
        };
      })

  -- ---- Seal

  seal_answers : SealGoes me s t seen newer → Gives (serve_read s me (Some (request_of g me t Seals)))
  seal_answers go =
      let text : List ℕ = seal_text_on g t.path t.sealed t.root in
      let x : Seal = seal_by g t.sealed t.root text in
      let o : Ordered = go.o in
      let below : List Ordered = go.below in
      let next : Server = with_seal s x in
      let a : Answered = answer_with_change next (turn next me) in
      let own_base : keeps.base ≡ o ∷ below = same_end keeps.over keeps.base go.above (o ∷ below) (sym keeps.cut ∙ go.split) (sym keeps.sealed ∙ go.position) in
      let in_log : s.log ≡ (newer ++ go.above) ++ o ∷ below = keeps.log ∙ ap (λ l. newer ++ l) go.split ∙ sym (append_assoc newer go.above (o ∷ below)) in
      let base_below : k.base ≡ below = base_is g s k ((newer ++ go.above) ++ o ∷ []) below (in_log ∙ sym (append_assoc (newer ++ go.above) (o ∷ []) below)) go.count in
      let at : ordered_at s t.sealed ≡ Some o = ap (ordered_at s) go.position ∙ ordered_at-is s (newer ++ go.above) o below in_log in
      let committed : commit_at s t.sealed ≡ Some go.done = ap (commit_at s) go.position ∙ go.committed in
      let status : go.done ≡ is_done (fate o below) = k.fates (newer ++ go.above) o below go.done in_log go.committed in
      let root_is : t.root ≡ root_on (o ∷ below) = keeps.root ∙ ap root_on own_base in
      let test : (is_ready (member s me).stage && (nat_eq t.sealed (sealed_count s + 1) && owns_committed me (ordered_at s t.sealed) (commit_at s t.sealed))) ≡ true =
      and_from (is_ready (member s me).stage) (nat_eq t.sealed (sealed_count s + 1) && owns_committed me (ordered_at s t.sealed) (commit_at s t.sealed)) (ap is_ready go.ready)
      (and_from (nat_eq t.sealed (sealed_count s + 1)) (owns_committed me (ordered_at s t.sealed) (commit_at s t.sealed)) (eq-eqb t.sealed (sealed_count s + 1) (omega (arith, go.position, go.count)))
      (ap (λ y. owns_committed me y (commit_at s t.sealed)) at ∙ ap (owns_committed me (Some o)) committed ∙ go.mine)) in
      let text_is : text ≡ seal_text_on g (entries (o ∷ below)) (length (o ∷ below)) (root_on (o ∷ below)) =
      ap (λ p. seal_text_on g p t.sealed t.root) (keeps.path ∙ ap entries go.split) ∙ seal_text-joined g go.above (o ∷ below) t.sealed t.root (omega (arith, go.position))
      ∙ ap (λ n. seal_text_on g (entries (o ∷ below)) n t.root) go.position ∙ ap (seal_text_on g (entries (o ∷ below)) (length (o ∷ below))) root_is in
      let knows : ServerKnows g next = record {
        over = newer ++ go.above;
        base = o ∷ below;
        is = in_log;
        members = k.members;
        ordered = k.ordered;
        near = omega (arith, k.near, ap length base_below);
        seals = ap (λ y. y ∷ s.seals) (seal_made-is g o below t.sealed t.root text go.position root_is text_is) ∙ ap (λ l. seal_on g (o ∷ below) ∷ l) (k.seals ∙ ap (seals_on g) base_below);
        dictionary = ap (λ y. applied_to s.dictionary y (commit_at s t.sealed)) at ∙ ap (applied_to s.dictionary (Some o)) committed
            ∙ ap (λ b. if b then after s.dictionary o.entry.op else s.dictionary) status
            ∙ ap (λ d. if is_done (fate o below) then after d o.entry.op else d) (k.dictionary ∙ ap dictionary_by base_below) ∙ sym (dictionary-next o below);
        fates = k.fates;
        unmade = k.unmade;
        past = all_weaker (IsPast (sealed_count s)) (IsPast (sealed_count next)) (λ y h. omega (arith, h)) s.log k.past;
        kind = k.kind;
        referred = k.referred;
      } in
      let counted : length keeps.base ≡ sealed_count next = omega (arith, ap length own_base, go.count) in
      subst Gives (sym (guard_ok s 6 (is_member s me) _ (is_inside-here stage.Ready go.ready refl)
      ∙ guard_ok s 5 (is_ready (member s me).stage && (nat_eq t.sealed (sealed_count s + 1) && owns_committed me (ordered_at s t.sealed) (commit_at s t.sealed))) a test)) (record {
        new = [];
        knows = knows;
        keeps = record {
          over = keeps.over;
          base = keeps.base;
          log = keeps.log;
          path = keeps.path;
          going = keeps.going;
          cut = keeps.cut;
          sealed = keeps.sealed;
          root = keeps.root;
          own = keeps.own;
          unsealed = subst (λ n. AllByRecursion (IsAbove n) t.own) counted (subst (AllByRecursion (IsAbove (length keeps.base))) (sym keeps.own) (owns-above me (length keeps.base) seen));
          last = keeps.last;
          fetching = keeps.fetching;
        };
        does = turn_does g me next knows t seen newer keeps.log go.awaiting (record { ready = go.ready; sealed = omega (arith, keeps.sealed, counted); others = go.others });
        still_kept = λ c i. i;
        others = λ j higher apart. record {
          new = [];
          grown = refl;
          others = tt;
          count = omega arith;
          same = refl;
          commits = λ newer2 o2 below2 is theirs. refl;
          kind = refl;
          contents = λ h len kept. kept;
          still_kept = λ c i. i;
          passes = λ newer2 o2 below2 is theirs low. elim (cases_eq (length (o2 ∷ below2)) (length (o ∷ below))) [
            | inl e ↦
                let same : o2 ∷ below2 ≡ o ∷ below = same_end newer2 (o2 ∷ below2) (newer ++ go.above) (o ∷ below) (sym is ∙ in_log) e in
                let top : o2 ≡ o = cc in absurd (apart (not_both me j o go.mine (subst (λ y. nat_eq y.entry.client j ≡ true) top theirs)))
            | inr apart_here ↦ between_counts (sealed_count s) (length below) (length below2) go.count low apart_here
          ];
        };
      })
    where
      between_counts : (n a b : ℕ) → n ≡ a → n < suc b → (suc b ≡ suc a → ⊥) → suc n < suc b
      between_counts n a b e low apart = omega arith

  -- ---- Sync

  sync_answers : t.awaiting ≡ awaits.Entries → Calm me s t newer → Gives (serve_read s me (Some (request_of g me t Syncs)))
  sync_answers awaiting calm =
      let e : ℕ = min (size s) (length t.path + 8192) in
      let n : ℕ = min (sealed_count s) e in
      let x : Seal = seal_at_position s n in
      let past : ℕ = size s - e in
      let few : past ≤ length newer = omega (arith, length-path, length-log) in
      let between : List Ordered = drop past newer in
      let later : List Ordered = take past newer in
      let a : Answered = answer_alone s (say.Entries x (entries_above (length t.path) (front e s.log))) in
      let long : length (between ++ seen) ≡ e = omega (arith, length-append between seen, length-drop past newer, length-path, length-log) in
      let c : Cut (between ++ seen) n = cut_at (between ++ seen) n (omega (arith, long)) in
      let d : Cut k.base n = cut_at k.base n (omega (arith, count)) in
      let log_split : s.log ≡ later ++ (between ++ seen) = keeps.log ∙ ap (λ l. l ++ seen) (sym (take-append-drop past newer)) ∙ append_assoc later between seen in
      let same : d.base ≡ c.base = same_end (k.over ++ d.over) d.base (later ++ c.over) c.base
      (append_assoc k.over d.over d.base ∙ ap (λ l. k.over ++ l) (sym d.is) ∙ sym k.is ∙ log_split ∙ ap (λ l. later ++ l) c.is ∙ sym (append_assoc later c.over c.base)) (d.long ∙ sym c.long) in
      let seal_is : x ≡ seal_on g c.base = seal_at-is g s d.over d.base n (k.seals ∙ ap (seals_on g) d.is) (sym d.long) ∙ ap (seal_on g) same in
      let told_is : entries_above (length t.path) (front e s.log) ≡ told between =
      ap (λ m. entries_above m (drop past s.log)) length-path ∙ ap (λ l. entries_above (length seen) l) (ap (drop past) keeps.log ∙ drop-append-le past newer seen few) ∙ above-told between seen in
      let test : (is_ready (member s me).stage && nat_le (length t.path) (size s)) ≡ true =
      and_from (is_ready (member s me).stage) (nat_le (length t.path) (size s)) (ap is_ready calm.ready) (le-leb (length t.path) (size s) (omega (arith, length-path, length-log))) in
      subst Gives (sym (guard_ok s 6 (is_member s me) _ (is_inside-here stage.Ready calm.ready refl) ∙ guard_ok s 5 (is_ready (member s me).stage && nat_le (length t.path) (size s)) a test)) (record {
        new = [];
        knows = k;
        keeps = keeps;
        does = record {
          later = later;
          between = between;
          over = c.over;
          base = c.base;
          split = sym (take-append-drop past newer);
          cut = c.is;
          awaiting = awaiting;
          from = omega (arith, c.long, calm.sealed, keeps.sealed, ap length keeps.cut, length-append keeps.over keeps.base, length-path, length-log);
          upto = omega (arith, c.long);
          near = omega (arith, c.long, long, k.near, count);
          calm = calm;
          message = ap (λ y. say.Entries y (entries_above (length t.path) (front e s.log))) seal_is ∙ ap (say.Entries (seal_on g c.base)) told_is;
        };
        still_kept = λ c i. i;
        others = λ j higher apart. same_server j s;
      })

  -- ---- Invoke

  invoke_answers : (n : ℕ) (o : Op) → InvokeGoes me s t newer n o → Gives (serve_read s me (Some (request_of g me t (Invokes n o))))
  invoke_answers n o go =
      let text : List ℕ = invoke_text (record { client = me; seq = n; op = o }) in
      let x : Ordered = record { entry = record { client = me; seq = n; op = o }; tag = tag_for g text; sealed_then = sealed_count s } in
      let now : Member = record { last = n; stage = stage.Open (size s + 1) } in
      let next : Server = ordered_next s me n o (tag_for g text) in
      let answer : ToClient = say.Reply (top_seal s) (entries_above (length t.path) next.log) (part_for s.dictionary o) in
      let b5 : Bool = is_ready (member s me).stage && (nat_lt (member s me).last n && nat_le (length t.path) (size s)) in
      let b2 : Bool = not (nat_eq (size s - sealed_count s) 1024) in
      let b3 : Bool = not (is_put o) || nat_le (weight s + op_weight o) 8388608 in
      let b1 : Bool = nat_le ((size s + 1) - length t.path) 8192 in
      let rest : List (ℕ × Bool) = (4, not (nat_eq (size s) 1048576)) ∷ (2, b2) ∷ (3, b3) ∷ (1, b1) ∷ [] in
      let test : b5 ≡ true =
      and_from (is_ready (member s me).stage) (nat_lt (member s me).last n && nat_le (length t.path) (size s)) (ap is_ready go.calm.ready)
      (and_from (nat_lt (member s me).last n) (nat_le (length t.path) (size s)) (lt-ltb (member s me).last n go.new) (le-leb (length t.path) (size s) (omega (arith, length-path, length-log)))) in
      let at_rest : first_failing ((5, b5) ∷ rest) ≡ first_failing rest = ap (λ b. if b then first_failing rest else Some 5) test in
      let member_is : member next me ≡ now = member-same (record s { log = x ∷ s.log }) me now above within in
      let told_is : entries_above (length t.path) (x ∷ s.log) ≡ told (x ∷ newer) =
      ap (λ m. entries_above m (x ∷ s.log)) length-path ∙ ap (λ l. entries_above (length seen) (x ∷ l)) keeps.log ∙ above-told (x ∷ newer) seen in
      subst Gives (sym (guard_ok s 6 (is_member s me) _ (is_inside-here stage.Ready go.calm.ready refl)))
      (passed Gives s (first_failing ((5, b5) ∷ rest)) (answer_with_change next answer)
      (λ r e. record {
        new = [];
        knows = k;
        keeps = keeps;
        does = inl (record {
          number = n;
          op = o;
          load = go.load;
          awaiting = go.awaiting;
          limit = failing (λ m. (0 < m) × (m ≤ 4)) rest r ((omega arith, omega arith), ((omega arith, omega arith), ((omega arith, omega arith), ((omega arith, omega arith), tt)))) (sym at_rest ∙ e);
          calm = go.calm;
        });
        still_kept = λ c i. i;
        others = λ j higher apart. same_server j s;
      })
      (λ e.
      let p4 = test_passed (not (nat_eq (size s) 1048576)) 4 (first_failing ((2, b2) ∷ (3, b3) ∷ (1, b1) ∷ [])) (sym at_rest ∙ e) in
      let p2 = test_passed b2 2 (first_failing ((3, b3) ∷ (1, b1) ∷ [])) p4.1 in
      let full : size s - sealed_count s ≡ 1024 → ⊥ = eqb-false (size s - sealed_count s) 1024 (not-true (nat_eq (size s - sealed_count s) 1024) p2.0) in
      let room : size s + 1 ≤ length k.base + 1024 = more_room (size s) (sealed_count s) (length k.base) count k.near full in
      record {
        new = x ∷ [];
        knows = record {
          over = x ∷ k.over;
          base = k.base;
          is = ap (λ l. x ∷ l) k.is;
          members = length-set s.members (me - 1) now ∙ k.members;
          ordered = (record { member = upto; tag = refl; near = omega (arith, room, count) }, k.ordered);
          near = omega (arith, room);
          seals = k.seals;
          dictionary = k.dictionary;
          fates = new_fates x;
          unmade = λ m past. k.unmade m (omega arith);
          past = (omega arith, k.past);
          kind = k.kind;
          referred = λ objects. (go.refers objects, k.referred objects);
        };
        keeps = record {
          over = keeps.over;
          base = keeps.base;
          log = ap (λ l. x ∷ l) keeps.log;
          path = keeps.path;
          going = keeps.going;
          cut = keeps.cut;
          sealed = keeps.sealed;
          root = keeps.root;
          own = keeps.own;
          unsealed = keeps.unsealed;
          last = subst (λ m. m.last ≤ t.calls) (sym member_is) (omega (arith, go.number));
          fetching = keeps.fetching;
        };
        does = record {
          later = [];
          o = x;
          between = newer;
          over = k.over;
          base = k.base;
          number = n;
          op = o;
          load = go.load;
          objects = record { calling = go.objects.calling; loads = go.objects.loads };
          split = refl;
          cut = sym keeps.log ∙ k.is;
          awaiting = go.awaiting;
          entry = refl;
          later_others = tt;
          others = go.calm.others;
          sealed_then = count;
          from = omega (arith, go.calm.sealed, count);
          upto = omega (arith, count);
          higher = omega (arith, count, length-base, ap length keeps.log);
          stage = ap (λ m. m.stage) member_is ∙ ap stage.Open (omega (arith, ap length keeps.log));
          message = ap (λ y. say.Reply y (entries_above (length t.path) (x ∷ s.log)) (part_for s.dictionary o)) (top_is g s k)
              ∙ ap (λ ts. say.Reply (seal_on g k.base) ts (part_for s.dictionary o)) told_is ∙ ap (λ d. say.Reply (seal_on g k.base) (told (x ∷ newer)) (part_for d o)) k.dictionary;
        };
        still_kept = λ c i. i;
        others = λ j higher apart. record {
          new = x ∷ [];
          grown = refl;
          others = (ne_eqb me j (λ same. apart (sym same)), tt);
          count = omega arith;
          same = member-other (record s { log = x ∷ s.log }) me j now above higher apart;
          commits = λ newer2 o2 below2 is theirs. refl;
          kind = refl;
          contents = λ h len kept. kept;
          still_kept = λ c i. i;
          passes = λ newer2 o2 below2 is theirs low. low;
        };
      }))
    where
      more_room : (n c b : ℕ) → c ≡ b → n ≤ b + 1024 → (n - c ≡ 1024 → ⊥) → n + 1 ≤ b + 1024
      more_room n c b e near full = omega arith

      new_fates : (x : Ordered) (newer2 : List Ordered) (o2 : Ordered) (below2 : List Ordered) (done : Bool) → x ∷ s.log ≡ newer2 ++ o2 ∷ below2 → commit_at s (length (o2 ∷ below2)) ≡ Some done → done ≡ is_done (fate o2 below2)
      new_fates x [] o2 below2 done is committed =
          let none = k.unmade (length (o2 ∷ below2)) (omega (arith, ap length is)) in absurd cc
      new_fates x (y ∷ newer2) o2 below2 done is committed = let rest : s.log ≡ newer2 ++ o2 ∷ below2 = cc in k.fates newer2 o2 below2 done rest committed

  -- a call of a client that stands well is refused at a limit, and else it is ordered
  pub invoke_is : (n : ℕ) (o : Op) → InvokeGoes me s t newer n o
      → serve_read s me (Some (request_of g me t (Invokes n o))) ≡ answer_unless_refused s (passed_limit s (length t.path) o) (ordered_by s me (length t.path) n o (tag_for g (invoke_text (record { client = me; seq = n; op = o }))))
  invoke_is n o go =
      let tag : Digest32 = tag_for g (invoke_text (record { client = me; seq = n; op = o })) in
      let rest : Option ℕ = passed_limit s (length t.path) o in
      let test : (is_ready (member s me).stage && (nat_lt (member s me).last n && nat_le (length t.path) (size s))) ≡ true =
      and_from (is_ready (member s me).stage) (nat_lt (member s me).last n && nat_le (length t.path) (size s)) (ap is_ready go.calm.ready)
      (and_from (nat_lt (member s me).last n) (nat_le (length t.path) (size s)) (lt-ltb (member s me).last n go.new) (le-leb (length t.path) (size s) (omega (arith, length-path, length-log)))) in
      guard_ok s 6 (is_member s me) _ (is_inside-here stage.Ready go.calm.ready refl)
      ∙ ap (λ b. answer_unless_refused s (if b then rest else Some 5) (ordered_by s me (length t.path) n o tag)) test

  -- ---- Keep and Fetch

  objects_ok : (member s me).stage ≡ stage.Ready → s.mode ≡ mode.Objects → (is_ready (member s me).stage && same_mode s.mode mode.Objects) ≡ true
  objects_ok ready objects = and_from (is_ready (member s me).stage) (same_mode s.mode mode.Objects) (ap is_ready ready) (ap (λ m. same_mode m mode.Objects) objects)

  kept_does : (u : Server) (c : List ℕ) → KeepGoes me s t newer c → u.mode ≡ s.mode → sealed_count s ≡ sealed_count u → member u me ≡ member s me → IsKept u.contents (content_hash c) (length c)
      → Does g me u t seen newer (Gets say.Kept)
  kept_does u c go kind count_same same kept = record {
    key = go.key;
    h = record { bytes = content_hash c };
    len = length c;
    awaiting = go.awaiting;
    at = go.at;
    holds = go.holds;
    kept = kept;
    small = go.small;
    objects = kind ∙ go.objects;
    calm = record { ready = ap (λ m. m.stage) same ∙ go.calm.ready; sealed = omega (arith, go.calm.sealed, count_same); others = go.calm.others };
  }

  keep_answers : (c : List ℕ) → KeepGoes me s t newer c → ((x : List ℕ) → kept_by s.contents (content_hash c) ≡ Some x → x ≡ c) → Gives (serve_read s me (Some (request_of g me t (Contains c))))
  keep_answers c go one =
      let full : Bool = not (nat_le 1048576 (length s.contents)) && nat_le (sum_by length s.contents + length c) 1073741824 in
      let a : Answered = if is_kept s.contents (content_hash c) then answer_alone s say.Kept else answer_by_tests s ((7, full) ∷ []) (answer_with_change (record s { contents = c ∷ s.contents }) say.Kept) in
      subst Gives (sym (guard_ok s 6 (is_member s me) _ (is_inside-here stage.Ready go.calm.ready refl)
      ∙ guard_ok s 5 (is_ready (member s me).stage && same_mode s.mode mode.Objects) a (objects_ok go.calm.ready go.objects))) (by_tests (is_kept s.contents (content_hash c)) full refl)
    where
      stays_so : Does g me s t seen newer (Gets say.Kept) → Gives (answer_alone s say.Kept)
      stays_so does = record { new = []; knows = k; keeps = keeps; does = does; still_kept = λ c i. i; others = λ j higher apart. same_server j s }

      by_tests : (b full : Bool) → is_kept s.contents (content_hash c) ≡ b → Gives (if b then answer_alone s say.Kept else answer_by_tests s ((7, full) ∷ []) (answer_with_change (record s { contents = c ∷ s.contents }) say.Kept))
      by_tests true full e =
          let found = found_there (has (content_hash c)) s.contents e in
          stays_so (kept_does s c go refl refl refl (record { content = found.0; found = found.1; long = ap length (one found.0 found.1) }))
      by_tests false false e = record {
        new = [];
        knows = k;
        keeps = keeps;
        does = inr (record { awaiting = go.awaiting; full = refl; calm = go.calm });
        still_kept = λ c i. i;
        others = λ j higher apart. same_server j s;
      }
      by_tests false true e =
          let more : (h : List ℕ) (len : ℕ) → IsKept s.contents h len → IsKept (c ∷ s.contents) h len = kept_more s.contents c e in
          record {
            new = [];
            knows = record {
              over = k.over;
              base = k.base;
              is = k.is;
              members = k.members;
              ordered = k.ordered;
              near = k.near;
              seals = k.seals;
              dictionary = k.dictionary;
              fates = k.fates;
              unmade = k.unmade;
              past = k.past;
              kind = k.kind;
              referred = λ objects. all_weaker (λ o. Refers s.contents o.entry.op) (λ o. Refers (c ∷ s.contents) o.entry.op) (λ o r. refers_more s.contents (c ∷ s.contents) more o.entry.op r) s.log (k.referred objects);
            };
            keeps = record {
              over = keeps.over;
              base = keeps.base;
              log = keeps.log;
              path = keeps.path;
              going = keeps.going;
              cut = keeps.cut;
              sealed = keeps.sealed;
              root = keeps.root;
              own = keeps.own;
              unsealed = keeps.unsealed;
              last = keeps.last;
              fetching = λ h len is. let f = keeps.fetching h len is in (f.0, more h.bytes len f.1);
            };
            does = kept_does (record s { contents = c ∷ s.contents }) c go refl refl refl (kept_here s.contents c);
            still_kept = λ x i. inr i;
            others = λ j higher apart. record {
              new = [];
              grown = refl;
              others = tt;
              count = omega arith;
              same = refl;
              commits = λ newer2 o2 below2 is theirs. refl;
              kind = refl;
              contents = more;
              still_kept = λ c i. inr i;
              passes = λ newer2 o2 below2 is theirs low. low;
            };
          }

  fetch_answers : (h : List ℕ) → FetchGoes me s t newer h → Gives (serve_read s me (Some (request_of g me t (Fetches h))))
  fetch_answers h go =
      let a : Answered = answer_alone s (content_with s.contents h) in
      subst Gives (sym (guard_ok s 6 (is_member s me) _ (is_inside-here stage.Ready go.calm.ready refl)
      ∙ guard_ok s 5 (is_ready (member s me).stage && same_mode s.mode mode.Objects) a (objects_ok go.calm.ready go.objects)
      ∙ ap (λ o. answer_alone s (elim o [ Some c ↦ say.Content c | None ↦ say.Absent ])) go.kept.found)) (record {
        new = [];
        knows = k;
        keeps = keeps;
        does = record {
          digest = go.digest;
          len = go.len;
          awaiting = go.awaiting;
          is = ap (λ x. is_content_of x go.len go.kept.content) (sym go.is) ∙ kept_wanted s.contents h go.len go.kept;
          kept = (found_in (has h) s.contents go.kept.content go.kept.found).0;
          objects = go.objects;
          calm = go.calm;
        };
        still_kept = λ c i. i;
        others = λ j higher apart. same_server j s;
      })

  -- what they are answered
  pub keep_is : (c : List ℕ) → KeepGoes me s t newer c → serve_read s me (Some (request_of g me t (Contains c)))
      ≡ (if is_kept s.contents (content_hash c) then answer_alone s say.Kept
      else answer_by_tests s ((7, not (nat_le 1048576 (length s.contents)) && nat_le (sum_by length s.contents + length c) 1073741824) ∷ []) (answer_with_change (record s { contents = c ∷ s.contents }) say.Kept))
  keep_is c go =
      guard_ok s 6 (is_member s me) _ (is_inside-here stage.Ready go.calm.ready refl)
      ∙ guard_ok s 5 (is_ready (member s me).stage && same_mode s.mode mode.Objects) _ (objects_ok go.calm.ready go.objects)

  pub fetch_is : (h : List ℕ) (go : FetchGoes me s t newer h) → serve_read s me (Some (request_of g me t (Fetches h))) ≡ answer_alone s (say.Content go.kept.content)
  fetch_is h go =
      guard_ok s 6 (is_member s me) _ (is_inside-here stage.Ready go.calm.ready refl)
      ∙ guard_ok s 5 (is_ready (member s me).stage && same_mode s.mode mode.Objects) (answer_alone s (content_with s.contents h)) (objects_ok go.calm.ready go.objects)
      ∙ ap (λ o. answer_alone s (elim o [ Some c ↦ say.Content c | None ↦ say.Absent ])) go.kept.found

  -- of a content that is sent the server keeps no other with its hash
  abbrev pub IsOne : Sending → Type 0
  IsOne (Contains c) = (x : List ℕ) → kept_by s.contents (content_hash c) ≡ Some x → x ≡ c
  IsOne (Invokes n o) = Unit {0}
  IsOne (Commits done) = Unit {0}
  IsOne Polls = Unit {0}
  IsOne Seals = Unit {0}
  IsOne Syncs = Unit {0}
  IsOne (Fetches h) = Unit {0}

  pub request_answers : (sending : Sending) → Does g me s t seen newer (Sends sending) → IsOne sending → Gives (serve_read s me (Some (request_of g me t sending)))
  request_answers (Invokes n o) d one = invoke_answers n o d
  request_answers (Commits done) d one = commit_answers done d
  request_answers Polls d one = poll_answers d.0 d.1
  request_answers Seals d one = seal_answers d
  request_answers Syncs d one = sync_answers d.0 d.1
  request_answers (Contains c) d one = keep_answers c d one
  request_answers (Fetches h) d one = fetch_answers h d
