-- The answers of an honest server pass the nine checks.
use Rattle.std.proofs.Common.{◌≡◌, ℕ, suc, zero, ◌+◌, ◌-◌, ◌≤◌, Bool, true, false, cond, not, ◌&&◌, List, [], ◌∷◌, ◌++◌, length, Some, None, is_some, refl, sym, ap, subst, ◌∙◌, arith, length-append, append_assoc}
use Rattle.std.specs.Prelude.{if◌then◌else◌, nat_eq, nat_lt, nat_le, ◌||◌, not, ◌&&◌}
use Rattle.std.specs.List.{AllByRecursion, list_all}
use Rattle.std.specs.Str.{bytes_eq}
use Rattle.std.specs.FinMap as map
use Rattle.std.proofs.lemmas.Bool.{and_from, lt-ltb, le-leb, eq-eqb, or_right, not_from_false}
use Rattle.std.proofs.lemmas.Cmp.{nat_list_cmp_total}
use Rattle.std.proofs.lemmas.Slice.Eq.{bytes_eq-Decides}
use Rattle.std.specs.Ordering.{nat_cmp}
use Rattle.std.specs.Cmp.Lexicographic.{slice_cmp}
use Rattle.vic_dict.specs.declared.op.Op.{Op}
use Rattle.vic_dict.specs.declared.op.Op.TheVariants as op
use Rattle.vic_dict.specs.Dictionary.{Dictionary, nothing, after, IsProper}
use Rattle.vic_wire.specs.declared.message.Seal.{Seal}
use Rattle.vic_wire.specs.declared.message.Tagged.{Tagged}
use Rattle.vic_wire.specs.declared.message.ToClient.{ToClient}
use Rattle.vic_wire.specs.declared.message.ToClient.TheVariants as say
use Rattle.vic_wire.specs.Texts.{invoke_text}
use Rattle.vic_wire.specs.Hashes.{Group, tag_of, empty_root}
use Rattle.vic_wire.specs.Trees.{tree_of, tree_by, root_of, dictionary_root}
use Rattle.vic_wire.specs.Cuts.{cut_for}
use Rattle.vic_wire.specs.Parts.{Part, read_part, part_for, part_root, reaches}
use Rattle.vic_order.specs.Order.{update_part}
use Rattle.vic_honest.proofs.SentParts.{IsSent, sent_for, sent_update, for_reaches}
use Rattle.vic_roots.proofs.Proper.{proper-nothing, proper-after}
use Rattle.vic_wire.specs.declared.message.Digest32.{Digest32}
use Rattle.vic_rules.specs.Objects.{is_content_of}
use Rattle.vic_rules.specs.declared.state.Own.{Own}
use Rattle.vic_rules.specs.declared.state.Awaiting.TheVariants as awaits
use Rattle.vic_rules.specs.Client.{Standing, path_with_entries, same_entry, is_awaited, has_form, is_open, is_other, is_reply_to, has_members, is_tagged, has_tags, entries_of, seal_of, is_not_older, is_sealed, seal_text_on, keeps_own, has_root, has_open_op, has_own_op, is_proved, is_next, has_turn, has_content, is_wanted, first_failing, verdict_on, is_done, is_write}
use Rattle.vic_laws.proofs.SameOp.{entry_same_itself}
use Rattle.vic_laws.proofs.StepKinds.{onto_is}
use Rattle.vic_order.specs.Order.{Ordered, tagged_entry}
use Rattle.vic_order.specs.Fates.{entries, fate, dictionary_by}
use Rattle.vic_honest.proofs.Words.{told, newest-told, length-told, length-entries, entries-joined}
use Rattle.vic_honest.proofs.Standing.{EntryFits}
use Rattle.vic_honest.proofs.Serving.{seal_text-joined}
use Rattle.vic_honest.proofs.Owns.{AllOn, NoneOf, root_on, seal_on, seal_on-position, own_of, IsAbove}
use Rattle.vic_honest.proofs.Deciding.{dictionary-next}
use Rattle.vic_honest.proofs.Knowing.{IsOrdered}

-- ---- dictionaries by logs

pub nothing_is : dictionary_by [] ≡ nothing
unfolding dictionary_by
nothing_is = refl

-- the dictionary by a log of spelled entries is proper
pub proper_by : (made : List (List ℕ)) (log : List Ordered) → AllByRecursion (EntryFits made) log → IsProper (dictionary_by log)
proper_by made [] h = subst IsProper (sym nothing_is) proper-nothing
proper_by made (o ∷ below) h =
    let rest = proper_by made below h.1 in
    subst IsProper (sym (dictionary-next o below)) (elim (is_done (fate o below)) as (λ b. IsProper (if b then after (dictionary_by below) o.entry.op else dictionary_by below)) [
      | true ↦ proper-after (dictionary_by below) o.entry.op rest h.0.spelled.op.0 h.0.spelled.op.1
      | false ↦ rest
    ])

at_most_one : (b : Bool) (n : ℕ) → cond b n (n + 1) ≤ n + 1
at_most_one true n = omega arith
at_most_one false n = omega arith

no_more : (b : Bool) (n : ℕ) → cond b (n - 1) n ≤ n + 1
no_more true n = omega arith
no_more false n = omega arith

len-after : (d : Dictionary) (o : Op) → map.len (after d o) ≤ map.len d + 1
len-after d (op.Put k v) = subst (λ n. n ≤ map.len d + 1) (sym (map.len-insert nat_list_cmp_total d k v)) (at_most_one (map.contains_key d k) (map.len d))
len-after d (op.Get k) = omega arith
len-after d (op.Del k) = subst (λ n. n ≤ map.len d + 1) (sym (map.len-remove nat_list_cmp_total d k)) (no_more (map.contains_key d k) (map.len d))
len-after d (op.List p) = omega arith

pub len_by : (log : List Ordered) → map.len (dictionary_by log) ≤ length log
len_by [] = subst (λ d. map.len d ≤ 0) (sym nothing_is) (omega (arith, map.len-empty (slice_cmp nat_cmp) (List ℕ)))
len_by (o ∷ below) =
    let rest = len_by below in
    subst (λ d. map.len d ≤ length (o ∷ below)) (sym (dictionary-next o below)) (elim (is_done (fate o below)) as (λ b. map.len (if b then after (dictionary_by below) o.entry.op else dictionary_by below) ≤ length (o ∷ below)) [
      | true ↦ omega (arith, len-after (dictionary_by below) o.entry.op, rest)
      | false ↦ omega (arith, rest)
    ])

-- the parts that are cut from its tree
pub part_is : (made : List (List ℕ)) (log : List Ordered) → AllByRecursion (EntryFits made) log → (o : Op) → IsSent (dictionary_by log) (part_for (dictionary_by log) o) (cut_for (tree_of (dictionary_by log)) o)
part_is made log h o = sent_for (dictionary_by log) (proper_by made log h) o

pub update_is : (made : List (List ℕ)) (log : List Ordered) → AllByRecursion (EntryFits made) log → (o : Op) (done : Bool)
    → (part : Part) × IsSent (dictionary_by log) (update_part (dictionary_by log) o done) part × ((not (done && is_write o) || reaches part o) ≡ true)
update_is made log h o done = sent_update (dictionary_by log) (proper_by made log h) o done

empty_tree : (n : ℕ) → n ≡ 0 → root_of (tree_by n (map.entries nothing)) ≡ empty_root
unfolding tree_by
empty_tree zero e = refl
empty_tree (suc n) e = absurd (omega arith)

pub root_on-nil : root_on [] ≡ empty_root
unfolding root_on dictionary_root tree_of dictionary_by
root_on-nil = empty_tree (map.len nothing) (map.len-empty (slice_cmp nat_cmp) (List ℕ))

pub seal_on-root : (g : Group) (log : List Ordered) → (seal_on g log).root.bytes ≡ root_on log
unfolding seal_on
seal_on-root g [] = sym root_on-nil
seal_on-root g (o ∷ below) = refl

-- the right seal of the older part of a log holds on the log
pub seal_holds : (g : Group) (new base : List Ordered) → is_sealed g (entries (new ++ base)) (Some (seal_on g base)) ≡ true
unfolding seal_on
seal_holds g new [] = refl
seal_holds g new (o ∷ below) =
    let n : ℕ = length (o ∷ below) in
    or_right (nat_eq n 0) (bytes_eq (tag_of g.key (seal_text_on g (entries (o ∷ below)) n (root_on (o ∷ below)))) (tag_of g.key (seal_text_on g (entries (new ++ o ∷ below)) n (root_on (o ∷ below)))))
    ((bytes_eq-Decides _ _).1 (ap (tag_of g.key) (sym (seal_text-joined g new (o ∷ below) n (root_on (o ∷ below)) (omega arith)))))

-- ---- lists of tests

all_push : {X : Type 0} (test : X → Bool) (xs : List X) (x : X) → list_all test xs ≡ true → test x ≡ true → list_all test (xs ++ x ∷ []) ≡ true
all_push test [] x h e = and_from (test x) true e refl
all_push test (y ∷ xs) x h e = let p = parts (test y) (list_all test xs) h in and_from (test y) (list_all test (xs ++ x ∷ [])) p.0 (all_push test xs x p.1 e)
  where
    parts : (a b : Bool) → (a && b) ≡ true → (a ≡ true) × (b ≡ true)
    parts true b e = (refl, e)
    parts false b e = absurd cc

tags_hold : (g : Group) (log : List Ordered) → AllOn (IsOrdered g) log → list_all (is_tagged g.key) (told log) ≡ true
tags_hold g [] h = refl
tags_hold g (o ∷ below) h = all_push (is_tagged g.key) (told below) (tagged_entry o) (tags_hold g below h.1) ((bytes_eq-Decides o.tag.bytes (tag_of g.key (invoke_text o.entry))).1 h.0.tag)

others_hold : (g : Group) (me : ℕ) (log : List Ordered) → AllOn (IsOrdered g) log → NoneOf me log → list_all (is_other g.count me) (entries log) ≡ true
others_hold g me [] h none = refl
others_hold g me (o ∷ below) h none =
    and_from (is_other g.count me o.entry) (list_all (is_other g.count me) (entries below))
    (and_from (nat_le o.entry.client g.count) (not (nat_eq o.entry.client me)) (le-leb o.entry.client g.count h.0.member) (not_from_false (nat_eq o.entry.client me) none.0))
    (others_hold g me below h.1 none.1)

own_hold : (n : ℕ) (own : List Own) → AllByRecursion (IsAbove n) own → list_all (λ o. nat_lt n o.position) own ≡ true
own_hold n [] h = refl
own_hold n (o ∷ own) h = and_from (nat_lt n o.position) (list_all (λ x. nat_lt n x.position) own) (lt-ltb n o.position h.0) (own_hold n own h.1)

first_ok : (n : ℕ) (b : Bool) (cs : List (ℕ × Bool)) → b ≡ true → first_failing cs ≡ None → first_failing ((n, b) ∷ cs) ≡ None
first_ok n b cs e h = ap (λ c. if c then first_failing cs else Some n) e ∙ h

none_fails : (g : Group) (me : ℕ) (t : Standing) (m : ToClient) → has_form t m ≡ true → has_members g me t m ≡ true → has_tags g m ≡ true → is_not_older t (seal_of m) ≡ true
    → is_sealed g (path_with_entries t (entries_of m)) (seal_of m) ≡ true → keeps_own t (seal_of m) ≡ true → is_proved t m ≡ true → has_turn t m ≡ true → has_content me t m ≡ true → verdict_on g me t (Some m) ≡ None
none_fails g me t m e1 e2 e3 e4 e5 e6 e7 e8 e9 =
    let c9 : List (ℕ × Bool) = (9, has_content me t m) ∷ [] in
    let c8 : List (ℕ × Bool) = (8, has_turn t m) ∷ c9 in
    let c7 : List (ℕ × Bool) = (7, is_proved t m) ∷ c8 in
    let c6 : List (ℕ × Bool) = (6, keeps_own t (seal_of m)) ∷ c7 in
    let c5 : List (ℕ × Bool) = (5, is_sealed g (path_with_entries t (entries_of m)) (seal_of m)) ∷ c6 in
    let c4 : List (ℕ × Bool) = (4, is_not_older t (seal_of m)) ∷ c5 in
    let c3 : List (ℕ × Bool) = (3, has_tags g m) ∷ c4 in
    let c2 : List (ℕ × Bool) = (2, has_members g me t m) ∷ c3 in
    first_ok 1 (has_form t m) c2 e1 (first_ok 2 (has_members g me t m) c3 e2 (first_ok 3 (has_tags g m) c4 e3 (first_ok 4 (is_not_older t (seal_of m)) c5 e4
    (first_ok 5 (is_sealed g (path_with_entries t (entries_of m)) (seal_of m)) c6 e5 (first_ok 6 (keeps_own t (seal_of m)) c7 e6 (first_ok 7 (is_proved t m) c8 e7 (first_ok 8 (has_turn t m) c9 e8 (first_ok 9 (has_content me t m) [] e9 refl))))))))

-- ---- the answers

-- the path with the entries of an answer
pub grown_told : (t : Standing) (between seen : List Ordered) → t.path ≡ entries seen → path_with_entries t (told between) ≡ entries (between ++ seen)
grown_told t between seen path =
    onto_is (told between) t.path ∙ ap (λ p. p ++ t.path) (newest-told between) ∙ ap (λ p. entries between ++ p) path ∙ sym (entries-joined between seen)

shown : (g : Group) (base : List Ordered) (bytes : List ℕ) (part : Part) → IsSent (dictionary_by base) bytes part
    → has_root (read_part bytes) (seal_on g base).root.bytes ≡ true
unfolding root_on
shown g base bytes part is =
    ap (λ p. has_root p (seal_on g base).root.bytes) is.read ∙ (bytes_eq-Decides (part_root part) (seal_on g base).root.bytes).1 (is.root ∙ sym (seal_on-root g base))

read_some : (part : List ℕ) (d : Part) → read_part part ≡ Some d → is_some (read_part part) ≡ true
read_some part d e = ap is_some e

module _ (g : Group) (made : List (List ℕ)) (me : ℕ) (t : Standing) (seen : List Ordered) (path : t.path ≡ entries seen) where
  same_length : length t.path ≡ length seen
  same_length = ap length path ∙ length-entries seen

  pub reply_passes : (o : Ordered) (between over base : List Ordered) (number : ℕ) (call : Op) (load : Bool) → between ++ seen ≡ over ++ base → t.awaiting ≡ awaits.Reply number call load
      → o.entry ≡ record { client = me; seq = number; op = call } → AllOn (IsOrdered g) (o ∷ between) → NoneOf me between → o.sealed_then ≡ length base → t.sealed ≤ length base
      → length (o ∷ (between ++ seen)) ≤ o.sealed_then + 1024 → length (o ∷ (between ++ seen)) ≤ 1048576 → AllByRecursion (EntryFits made) base → AllByRecursion (IsAbove (length base)) t.own
      → has_content me t (say.Reply (seal_on g base) (told (o ∷ between)) (part_for (dictionary_by base) o.entry.op)) ≡ true
      → verdict_on g me t (Some (say.Reply (seal_on g base) (told (o ∷ between)) (part_for (dictionary_by base) o.entry.op))) ≡ None
  reply_passes o between over base number call load cut awaiting entry ordered none then_is from near few fits own content =
      let seal : Seal = seal_on g base in
      let part : List ℕ = part_for (dictionary_by base) o.entry.op in
      let ts : List Tagged = told (o ∷ between) in
      let m : ToClient = say.Reply seal ts part in
      let n : ℕ = length t.path + length ts in
      let long : n ≡ length (o ∷ (between ++ seen)) = omega (arith, same_length, length-told (o ∷ between), length-append between seen) in
      let pos : seal.position ≡ length base = seal_on-position g base in
      let within : length base ≤ length (between ++ seen) = omega (arith, ap length cut, length-append over base) in
      let is_sent = part_is made base fits o.entry.op in
      let is_part = is_sent.read in
      let call_is : o.entry.op ≡ call = ap (λ e. e.op) entry in
      none_fails g me t m
      (and_from (is_awaited t.awaiting m) (is_some (read_part part) && (nat_le n 1048576 && (nat_lt seal.position n && nat_le (n - seal.position) 1024))) (ap (λ a. is_awaited a m) awaiting)
      (and_from (is_some (read_part part)) (nat_le n 1048576 && (nat_lt seal.position n && nat_le (n - seal.position) 1024)) (ap is_some is_part)
      (and_from (nat_le n 1048576) (nat_lt seal.position n && nat_le (n - seal.position) 1024) (le-leb n 1048576 (omega arith))
      (and_from (nat_lt seal.position n) (nat_le (n - seal.position) 1024) (lt-ltb seal.position n (omega arith)) (le-leb (n - seal.position) 1024 (omega arith))))))
      (ap (is_reply_to g.count me t.awaiting) (newest-told (o ∷ between))
      ∙ and_from (nat_le o.entry.client g.count) (is_open me t.awaiting o.entry && list_all (is_other g.count me) (entries between)) (le-leb o.entry.client g.count ordered.0.member)
      (and_from (is_open me t.awaiting o.entry) (list_all (is_other g.count me) (entries between))
      (ap (λ a. is_open me a o.entry) awaiting ∙ ap (λ e. same_entry e (record { client = me; seq = number; op = call })) entry ∙ entry_same_itself (record { client = me; seq = number; op = call }))
      (others_hold g me between ordered.1 none)))
      (tags_hold g (o ∷ between) ordered)
      (le-leb t.sealed seal.position (omega arith))
      (ap (λ p. is_sealed g p (Some seal)) (grown_told t (o ∷ between) seen path ∙ ap (λ l. entries (o ∷ l)) cut) ∙ seal_holds g (o ∷ over) base)
      (own_hold seal.position t.own (subst (λ k. AllByRecursion (IsAbove k) t.own) (sym pos) own))
      (and_from (has_root (read_part part) seal.root.bytes) (has_open_op (read_part part) t.awaiting) (shown g base part (cut_for (tree_of (dictionary_by base)) o.entry.op) is_sent)
      (ap (λ p. has_open_op p t.awaiting) is_part ∙ ap (has_open_op (Some (cut_for (tree_of (dictionary_by base)) o.entry.op))) awaiting
      ∙ ap (reaches (cut_for (tree_of (dictionary_by base)) o.entry.op)) (sym call_is) ∙ for_reaches (dictionary_by base) (proper_by made base fits) o.entry.op))
      refl
      content

  pub update_passes : (above : List Ordered) (o : Ordered) (below : List Ordered) (rest : List Own) (done : Bool) → done ≡ (own_of o below).done → seen ≡ above ++ o ∷ below → t.awaiting ≡ awaits.Turn → t.sealed ≤ length below
      → length seen ≤ 1048576 → AllByRecursion (EntryFits made) below → AllByRecursion (IsAbove (length below)) t.own → t.own ≡ own_of o below ∷ rest
      → verdict_on g me t (Some (say.Update (seal_on g below) (update_part (dictionary_by below) o.entry.op done))) ≡ None
  update_passes above o below rest done status split awaiting from few fits own next =
      let seal : Seal = seal_on g below in
      let part : List ℕ = update_part (dictionary_by below) o.entry.op done in
      let m : ToClient = say.Update seal part in
      let pos : seal.position ≡ length below = seal_on-position g below in
      let within : length below ≤ length seen = omega (arith, ap length split, length-append above (o ∷ below)) in
      let is_sent = update_is made below fits o.entry.op done in
      let is_part = is_sent.1.read in
      none_fails g me t m
      (and_from (is_awaited t.awaiting m) (is_some (read_part part) && (nat_le (length t.path) 1048576 && nat_le seal.position (length t.path))) (ap (λ a. is_awaited a m) awaiting)
      (and_from (is_some (read_part part)) (nat_le (length t.path) 1048576 && nat_le seal.position (length t.path)) (ap is_some is_part)
      (and_from (nat_le (length t.path) 1048576) (nat_le seal.position (length t.path)) (le-leb (length t.path) 1048576 (omega (arith, same_length))) (le-leb seal.position (length t.path) (omega (arith, same_length))))))
      refl
      refl
      (le-leb t.sealed seal.position (omega arith))
      (ap (λ p. is_sealed g p (Some seal)) (path ∙ ap entries (split ∙ sym (append_assoc above (o ∷ []) below))) ∙ seal_holds g (above ++ o ∷ []) below)
      (own_hold seal.position t.own (subst (λ k. AllByRecursion (IsAbove k) t.own) (sym pos) own))
      (and_from (has_root (read_part part) seal.root.bytes) (has_own_op (read_part part) t.own) (shown g below part is_sent.0 is_sent.1)
      (ap (λ p. has_own_op p t.own) is_part ∙ ap (has_own_op (Some is_sent.0)) next ∙ ap (λ b. not (b && is_write o.entry.op) || reaches is_sent.0 o.entry.op) (sym status) ∙ is_sent.2))
      (ap (is_next (seal.position + 1)) next ∙ eq-eqb (length (o ∷ below)) (seal.position + 1) (omega arith))
      refl

  pub entries_pass : (between over base : List Ordered) → between ++ seen ≡ over ++ base → t.awaiting ≡ awaits.Entries → AllOn (IsOrdered g) between → NoneOf me between → t.sealed ≤ length base
      → length (between ++ seen) ≤ length base + 1024 → length (between ++ seen) ≤ 1048576 → AllByRecursion (IsAbove (length base)) t.own
      → verdict_on g me t (Some (say.Entries (seal_on g base) (told between))) ≡ None
  entries_pass between over base cut awaiting ordered none from near few own =
      let seal : Seal = seal_on g base in
      let ts : List Tagged = told between in
      let m : ToClient = say.Entries seal ts in
      let n : ℕ = length t.path + length ts in
      let long : n ≡ length (between ++ seen) = omega (arith, same_length, length-told between, length-append between seen) in
      let pos : seal.position ≡ length base = seal_on-position g base in
      let within : length base ≤ length (between ++ seen) = omega (arith, ap length cut, length-append over base) in
      none_fails g me t m
      (and_from (is_awaited t.awaiting m) (nat_le n 1048576 && (nat_le seal.position n && nat_le (n - seal.position) 1024)) (ap (λ a. is_awaited a m) awaiting)
      (and_from (nat_le n 1048576) (nat_le seal.position n && nat_le (n - seal.position) 1024) (le-leb n 1048576 (omega arith))
      (and_from (nat_le seal.position n) (nat_le (n - seal.position) 1024) (le-leb seal.position n (omega arith)) (le-leb (n - seal.position) 1024 (omega arith)))))
      (ap (list_all (is_other g.count me)) (newest-told between) ∙ others_hold g me between ordered none)
      (tags_hold g between ordered)
      (le-leb t.sealed seal.position (omega arith))
      (ap (λ p. is_sealed g p (Some seal)) (grown_told t between seen path ∙ ap entries cut) ∙ seal_holds g over base)
      (own_hold seal.position t.own (subst (λ k. AllByRecursion (IsAbove k) t.own) (sym pos) own))
      refl
      refl
      refl

-- the answers without a seal
pub wait_passes : (g : Group) (me : ℕ) (t : Standing) → t.awaiting ≡ awaits.Turn → verdict_on g me t (Some say.Wait) ≡ None
wait_passes g me t awaiting = none_fails g me t say.Wait (ap (λ a. is_awaited a say.Wait) awaiting) refl refl refl refl refl refl refl refl

pub refusal_passes : (g : Group) (me : ℕ) (t : Standing) (r number : ℕ) (call : Op) (load : Bool) → t.awaiting ≡ awaits.Reply number call load → verdict_on g me t (Some (say.Refused r)) ≡ None
refusal_passes g me t r number call load awaiting = none_fails g me t (say.Refused r) (ap (λ a. is_awaited a (say.Refused r)) awaiting) refl refl refl refl refl refl refl refl

pub keep_refusal_passes : (g : Group) (me : ℕ) (t : Standing) (r : ℕ) → t.awaiting ≡ awaits.Kept → verdict_on g me t (Some (say.Refused r)) ≡ None
keep_refusal_passes g me t r awaiting = none_fails g me t (say.Refused r) (ap (λ a. is_awaited a (say.Refused r)) awaiting) refl refl refl refl refl refl refl refl

pub kept_passes : (g : Group) (me : ℕ) (t : Standing) → t.awaiting ≡ awaits.Kept → verdict_on g me t (Some say.Kept) ≡ None
kept_passes g me t awaiting = none_fails g me t say.Kept (ap (λ a. is_awaited a say.Kept) awaiting) refl refl refl refl refl refl refl refl

pub content_passes : (g : Group) (me : ℕ) (t : Standing) (c : List ℕ) (h : Digest32) (len : ℕ) → t.awaiting ≡ awaits.Content h len → is_content_of h.bytes len c ≡ true → verdict_on g me t (Some (say.Content c)) ≡ None
content_passes g me t c h len awaiting wanted =
    none_fails g me t (say.Content c) (ap (λ a. is_awaited a (say.Content c)) awaiting) refl refl refl refl refl refl refl (ap (λ a. is_wanted a c) awaiting ∙ wanted)
