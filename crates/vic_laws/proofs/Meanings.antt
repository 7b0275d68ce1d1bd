-- Legal views by their splits, and the listed texts as a list.
use Rattle.std.specs.Prelude.{Bool, true, false, nat_eq, if◌then◌else◌, ◌≡◌, ℕ, zero, suc, ◌<◌, ◌≤◌, ◌⊎◌, List, [], ◌∷◌, ◌++◌, Option, Some, None}
use Rattle.std.proofs.Common.{refl, ap, subst, sym, ◌∙◌, inl, inr, arith}
use Rattle.std.proofs.lemmas.Bool.{cases_eq, cases_lt, eq-eqb, ne_eqb}
use Rattle.vic_dict.specs.declared.op.Outcome.{Outcome}
use Rattle.vic_dict.specs.declared.op.Outcome.TheVariants as outcome
use Rattle.vic_dict.specs.declared.op.Entry.{Entry}
use Rattle.vic_dict.specs.Lists.{IsIn, front}
use Rattle.vic_dict.specs.Dictionary.{Dictionary}
use Rattle.vic_wire.specs.Texts.{chain_text, content_text}
use Rattle.vic_wire.specs.Hashes.{Group, chain}
use Rattle.vic_wire.specs.Parts.{Part, read_part}
use Rattle.vic_rules.specs.declared.trace.TraceStep.{TraceStep}
use Rattle.vic_rules.specs.declared.trace.Shown.{Shown}
use Rattle.vic_rules.specs.Client.{Standing, at_start, step, MayStep, payload_of}
use Rattle.vic_rules.specs.History.{standing, path, IsStep, AreSteps, IsLawful}
use Rattle.vic_rules.specs.Views.{left_by, Explains, IsLegal}
use Rattle.vic_rules.specs.Trust.{IsListed, of_genesis, of_path, of_part, of_content, of_sealed, chain_texts, parts_in, parts_taken, contents_known, node_texts_left, answer_taken}
use Rattle.vic_laws.specs.Meanings.{IsExplained, by_answer, by_abort, LegalIs, texts_of_each, one_to, zero_to, chain_texts_up, parts_of, nodes_of, texts_of_paths, texts_of_parts, texts_of_sealed, texts_of_contents, listed_texts, ListedAre, own_steps, LawfulByClient}
use Rattle.vic_laws.proofs.Words.{in_left, in_right, in_either}
use Rattle.vic_laws.proofs.Standings.{standing_moved, standing_kept}
use Rattle.vic_laws.proofs.Growth.{front_none, front_whole}

-- ---- legal views

explained_to : (d : Dictionary) (x : Shown) (o : Outcome) → x.outcome ≡ o → Explains d x o → IsExplained d x
explained_to d x (outcome.Done a) e s = by_answer (e ∙ ap outcome.Done s)
explained_to d x (outcome.Aborted u) e s = by_abort u e
explained_to d x (outcome.Refused r) e s = absurd s
explained_to d x (outcome.Halted k) e s = absurd s

explained_from : (d : Dictionary) (x : Shown) → IsExplained d x → Explains d x x.outcome
explained_from d x (by_answer e) = subst (Explains d x) (sym e) refl
explained_from d x (by_abort u e) = subst (Explains d x) (sym e) tt

no_split : (newer : List Shown) (x : Shown) (older : List Shown) → ◌≡◌ {A = List Shown} [] (newer ++ x ∷ older) → ⊥
no_split [] x older e = absurd cc
no_split (y ∷ newer) x older e = absurd cc

legal_to : (v : List Shown) → IsLegal v → (newer : List Shown) (x : Shown) (older : List Shown) → v ≡ newer ++ x ∷ older → IsExplained (left_by older) x
legal_to [] l newer x older e = absurd (no_split newer x older e)
legal_to (y ∷ v) l [] x older e =
    let heads : y ≡ x = cc in
    let tails : v ≡ older = cc in
    subst (λ z. IsExplained (left_by older) z) heads (subst (λ w. IsExplained (left_by w) y) tails (explained_to (left_by v) y y.outcome refl l.1))
legal_to (y ∷ v) l (z ∷ newer) x older e = let tails : v ≡ newer ++ x ∷ older = cc in legal_to v l.0 newer x older tails

legal_from : (v : List Shown) → ((newer : List Shown) (x : Shown) (older : List Shown) → v ≡ newer ++ x ∷ older → IsExplained (left_by older) x) → IsLegal v
legal_from [] f = tt
legal_from (y ∷ v) f = (legal_from v (λ newer x older e. f (y ∷ newer) x older (ap (λ w. y ∷ w) e)), explained_from (left_by v) y (f [] y v refl))

pub legal_tells : LegalIs
legal_tells v = (legal_to v, legal_from v)

-- ---- listed texts

in_gathered : {A : Type 0} (f : A → List (List ℕ)) (xs : List A) (x : A) (t : List ℕ) → IsIn xs x → IsIn (f x) t → IsIn (texts_of_each f xs) t
in_gathered f [] x t i j = absurd i
in_gathered f (y ∷ xs) x t (inl e) j = in_left (f y) (texts_of_each f xs) t (subst (λ z. IsIn (f z) t) (sym e) j)
in_gathered f (y ∷ xs) x t (inr i) j = in_right (f y) (texts_of_each f xs) t (in_gathered f xs x t i j)

of_gathered : {A : Type 0} (f : A → List (List ℕ)) (xs : List A) (t : List ℕ) → IsIn (texts_of_each f xs) t → (x : A) × IsIn xs x × IsIn (f x) t
of_gathered f [] t i = absurd i
of_gathered f (y ∷ xs) t i = elim (in_either (f y) (texts_of_each f xs) t i) [
  | inl a ↦ (y, inl refl, a)
  | inr b ↦ (let r = of_gathered f xs t b in (r.0, inr r.1, r.2))
]

in_one_to : (n k : ℕ) → 0 < k → k ≤ n → IsIn (one_to n) k
in_one_to zero k low le = absurd (omega arith)
in_one_to (suc n) k low le = now (cases_eq (suc n) k) (in_one_to n k low)
  where
    now : (suc n ≡ k) ⊎ (suc n ≡ k → ⊥) → (k ≤ n → IsIn (one_to n) k) → IsIn (one_to (suc n)) k
    now (inl e) before = in_right (one_to n) (suc n ∷ []) k (inl e)
    now (inr apart) before = in_left (one_to n) (suc n ∷ []) k (before (below (cases_lt n k)))
      where
        below : (n < k) ⊎ (k ≤ n) → k ≤ n
        below (inl more) = let e : suc n ≡ k = omega (arith, le) in absurd (apart e)
        below (inr l) = l

of_one_to : (n k : ℕ) → IsIn (one_to n) k → (0 < k) × (k ≤ n)
of_one_to zero k i = absurd i
of_one_to (suc n) k i = elim (in_either (one_to n) (suc n ∷ []) k i) [
  | inl a ↦ (let r = of_one_to n k a in (r.0, omega (arith, r.1)))
  | inr b ↦ (let r = only b in (omega (arith, r), omega (arith, r)))
]
  where
    only : IsIn (suc n ∷ []) k → suc n ≡ k
    only (inl e) = e
    only (inr i) = absurd i

in_zero_to : (n k : ℕ) → k ≤ n → IsIn (zero_to n) k
in_zero_to n zero le = inl refl
in_zero_to n (suc k) le = inr (in_one_to n (suc k) (omega arith) le)

of_zero_to : (n k : ℕ) → IsIn (zero_to n) k → k ≤ n
of_zero_to n k (inl e) = omega (arith, e)
of_zero_to n k (inr i) = (of_one_to n k i).1

-- the texts of a path are the same from either end
chains_to : (g : Group) (p : List Entry) (t : List ℕ) → IsIn (chain_texts g p) t → IsIn (chain_texts_up g p) t
unfolding chain_texts_up
chains_to g [] t i = i
chains_to g (e ∷ p) t (inl same) = in_right (chain_texts_up g p) (chain_text (chain g p) e ∷ []) t (inl same)
chains_to g (e ∷ p) t (inr i) = in_left (chain_texts_up g p) (chain_text (chain g p) e ∷ []) t (chains_to g p t i)

chains_from : (g : Group) (p : List Entry) (t : List ℕ) → IsIn (chain_texts_up g p) t → IsIn (chain_texts g p) t
unfolding chain_texts_up
chains_from g [] t i = i
chains_from g (e ∷ p) t i = elim (in_either (chain_texts_up g p) (chain_text (chain g p) e ∷ []) t i) [ inl a ↦ inr (chains_from g p t a) | inr b ↦ only b ]
  where
    only : IsIn (chain_text (chain g p) e ∷ []) t → IsIn (chain_texts g (e ∷ p)) t
    only (inl same) = inl same
    only (inr j) = absurd j

-- a number that is no member's stands at the start
nobody_stands : (g : Group) (me : ℕ) → ((i : ℕ) → 0 < i → i ≤ g.count → i ≡ me → ⊥) → (h : List TraceStep) → AreSteps g h → standing g me h ≡ at_start
unfolding standing
nobody_stands g me none [] steps = refl
nobody_stands g me none (x ∷ past) steps =
    standing_kept g me x past (none x.client steps.1.member.0 steps.1.member.1) ∙ nobody_stands g me none past steps.0

-- whose part it was
part_owner : (g : Group) (h : List TraceStep) → AreSteps g h → (bytes : List ℕ) → IsIn (parts_taken g h) bytes → (i : ℕ) × (0 < i) × (i ≤ g.count) × IsIn (parts_of g i h) bytes
unfolding parts_taken parts_of
part_owner g [] steps bytes i = absurd i
part_owner g (x ∷ past) steps bytes i = elim (in_either (parts_in (answer_taken g past x)) (parts_taken g past) bytes i) [
  | inl a ↦ (
    x.client,
    steps.1.member.0,
    steps.1.member.1,
    in_right (parts_of g x.client past) (if nat_eq x.client x.client then parts_in (answer_taken g past x) else []) bytes (subst (λ b. IsIn (if b then parts_in (answer_taken g past x) else []) bytes) (sym (eq-eqb x.client x.client refl)) a),
  )
  | inr b ↦ (let r = part_owner g past steps.0 bytes b in (r.0, r.1, r.2, in_left (parts_of g r.0 past) (if nat_eq x.client r.0 then parts_in (answer_taken g past x) else []) bytes r.3))
]

part_taken : (g : Group) (me : ℕ) (h : List TraceStep) (bytes : List ℕ) → IsIn (parts_of g me h) bytes → IsIn (parts_taken g h) bytes
unfolding parts_taken parts_of
part_taken g me [] bytes i = absurd i
part_taken g me (x ∷ past) bytes i = elim (in_either (parts_of g me past) (if nat_eq x.client me then parts_in (answer_taken g past x) else []) bytes i) [
  | inl a ↦ in_right (parts_in (answer_taken g past x)) (parts_taken g past) bytes (part_taken g me past bytes a)
  | inr b ↦ in_left (parts_in (answer_taken g past x)) (parts_taken g past) bytes (now (nat_eq x.client me) b)
]
  where
    now : (b : Bool) → IsIn (if b then parts_in (answer_taken g past x) else []) bytes → IsIn (parts_in (answer_taken g past x)) bytes
    now true j = j
    now false j = absurd j

module _ (g : Group) (h : List TraceStep) (lawful : IsLawful g h) where
  abbrev chained : ℕ → List (List ℕ)
  chained i = chain_texts_up g (path g i h)

  abbrev parted : ℕ → List (List ℕ)
  parted i = texts_of_each (λ bytes. nodes_of (read_part bytes)) (parts_of g i h)

  abbrev left_at : Standing → List (List ℕ)
  left_at s = texts_of_each (λ n. node_texts_left g h (front n s.path)) (zero_to s.sealed)

  abbrev members : List ℕ
  members = one_to g.count

  -- a number is a member's, or stands at the start
  member_or : (me : ℕ) → IsIn members me ⊎ (standing g me h ≡ at_start)
  member_or me = now (cases_lt 0 me) (cases_lt g.count me)
    where
      now : (0 < me) ⊎ (me ≤ 0) → (g.count < me) ⊎ (me ≤ g.count) → IsIn members me ⊎ (standing g me h ≡ at_start)
      now (inl low) (inr high) = inl (in_one_to g.count me low high)
      now (inr none) high = inr (nobody_stands g me (λ i low l e. omega (arith, low, none, e)) h lawful.steps)
      now (inl low) (inl above) = inr (nobody_stands g me (λ i low l e. omega (arith, l, above, e)) h lawful.steps)

  first_member : IsIn members 1
  first_member = in_one_to g.count 1 (omega arith) (omega (arith, lawful.group.count.0))

  abbrev behind_parts : List (List ℕ)
  behind_parts = texts_of_sealed g h ++ texts_of_contents g h

  abbrev behind_paths : List (List ℕ)
  behind_paths = texts_of_parts g h ++ behind_parts

  in_paths : (t : List ℕ) → IsIn (texts_of_paths g h) t → IsIn (listed_texts g h) t
  in_paths t i = inr (in_left (texts_of_paths g h) behind_paths t i)

  in_parts : (t : List ℕ) → IsIn (texts_of_parts g h) t → IsIn (listed_texts g h) t
  in_parts t i = inr (in_right (texts_of_paths g h) behind_paths t (in_left (texts_of_parts g h) behind_parts t i))

  in_sealed : (t : List ℕ) → IsIn (texts_of_sealed g h) t → IsIn (listed_texts g h) t
  in_sealed t i = inr (in_right (texts_of_paths g h) behind_paths t (in_right (texts_of_parts g h) behind_parts t (in_left (texts_of_sealed g h) (texts_of_contents g h) t i)))

  in_contents : (t : List ℕ) → IsIn (texts_of_contents g h) t → IsIn (listed_texts g h) t
  in_contents t i = inr (in_right (texts_of_paths g h) behind_paths t (in_right (texts_of_parts g h) behind_parts t (in_right (texts_of_sealed g h) (texts_of_contents g h) t i)))

  path_to : (me : ℕ) (t : List ℕ) → IsIn (chain_texts g (path g me h)) t → IsIn members me ⊎ (standing g me h ≡ at_start) → IsIn (listed_texts g h) t
  path_to me t i (inl there) = in_paths t (in_gathered chained members me t there (chains_to g (path g me h) t i))
  path_to me t i (inr start) = absurd (subst (λ s. IsIn (chain_texts g s.path) t) start i)

  -- the front of no entries is that of every path
  same_front : (n : ℕ) → n ≤ 0 → front n [] ≡ front 0 (path g 1 h)
  same_front n none = front_whole n [] (omega arith) ∙ sym (front_none (path g 1 h))

  sealed_to : (me n : ℕ) (t : List ℕ) → n ≤ (standing g me h).sealed → IsIn (node_texts_left g h (front n (path g me h))) t → IsIn members me ⊎ (standing g me h ≡ at_start) → IsIn (listed_texts g h) t
  sealed_to me n t le i (inl there) =
      in_sealed t (in_gathered (λ k. left_at (standing g k h)) members me t there (in_gathered (λ k. node_texts_left g h (front k (path g me h))) (zero_to (standing g me h).sealed) n t (in_zero_to (standing g me h).sealed n le) i))
  sealed_to me n t le i (inr start) =
      let none : n ≤ 0 = subst (λ (s : Standing). n ≤ s.sealed) start le in
      let here : IsIn (node_texts_left g h (front n [])) t = subst (λ (s : Standing). IsIn (node_texts_left g h (front n s.path)) t) start i in
      let there : IsIn (node_texts_left g h (front 0 (path g 1 h))) t = subst (λ p. IsIn (node_texts_left g h p) t) (same_front n none) here in
      in_sealed t (in_gathered (λ k. left_at (standing g k h)) members 1 t first_member (in_gathered (λ k. node_texts_left g h (front k (path g 1 h))) (zero_to (standing g 1 h).sealed) 0 t (inl refl) there))

  listed_to : (t : List ℕ) → IsListed g h t → IsIn (listed_texts g h) t
  listed_to t (of_genesis e) = inl (sym e)
  listed_to t (of_path me i) = path_to me t i (member_or me)
  listed_to t (of_part bytes part i e j) =
      let r = part_owner g h lawful.steps bytes i in
      in_parts t (in_gathered parted members r.0 t (in_one_to g.count r.0 r.1 r.2) (in_gathered (λ b. nodes_of (read_part b)) (parts_of g r.0 h) bytes t r.3 (subst (λ o. IsIn (nodes_of o) t) (sym e) j)))
  listed_to t (of_content content i e) = in_contents t (in_gathered (λ c. content_text c ∷ []) (contents_known g h) content t i (inl (sym e)))
  listed_to t (of_sealed me n le i) = sealed_to me n t le i (member_or me)

  of_nodes : (bytes : List ℕ) (o : Option Part) (t : List ℕ) → IsIn (parts_taken g h) bytes → read_part bytes ≡ o → IsIn (nodes_of o) t → IsListed g h t
  of_nodes bytes None t i e j = absurd j
  of_nodes bytes (Some part) t i e j = of_part bytes part i e j

  from_paths : (t : List ℕ) → IsIn (texts_of_paths g h) t → IsListed g h t
  from_paths t i = let r = of_gathered chained members t i in of_path r.0 (chains_from g (path g r.0 h) t r.2)

  from_parts : (t : List ℕ) → IsIn (texts_of_parts g h) t → IsListed g h t
  from_parts t i =
      let r = of_gathered parted members t i in
      let b = of_gathered (λ bytes. nodes_of (read_part bytes)) (parts_of g r.0 h) t r.2 in
      of_nodes b.0 (read_part b.0) t (part_taken g r.0 h b.0 b.1) refl b.2

  from_sealed : (t : List ℕ) → IsIn (texts_of_sealed g h) t → IsListed g h t
  from_sealed t i =
      let r = of_gathered (λ k. left_at (standing g k h)) members t i in
      let n = of_gathered (λ k. node_texts_left g h (front k (path g r.0 h))) (zero_to (standing g r.0 h).sealed) t r.2 in
      of_sealed r.0 n.0 (of_zero_to (standing g r.0 h).sealed n.0 n.1) n.2

  one_content : (content t : List ℕ) → IsIn (contents_known g h) content → IsIn (content_text content ∷ []) t → IsListed g h t
  one_content content t known (inl e) = of_content content known (sym e)
  one_content content t known (inr none) = absurd none

  from_contents : (t : List ℕ) → IsIn (texts_of_contents g h) t → IsListed g h t
  from_contents t i = let r = of_gathered (λ c. content_text c ∷ []) (contents_known g h) t i in one_content r.0 t r.1 r.2

  listed_from : (t : List ℕ) → IsIn (listed_texts g h) t → IsListed g h t
  listed_from t (inl e) = of_genesis (sym e)
  listed_from t (inr i) = elim (in_either (texts_of_paths g h) behind_paths t i) [
    | inl a ↦ from_paths t a
    | inr b ↦ elim (in_either (texts_of_parts g h) behind_parts t b) [
      | inl c ↦ from_parts t c
      | inr d ↦ elim (in_either (texts_of_sealed g h) (texts_of_contents g h) t d) [ inl e ↦ from_sealed t e | inr f ↦ from_contents t f ]
    ]
  ]

pub listed_tells : ListedAre
listed_tells g h lawful text = (listed_to g h lawful text, listed_from g h lawful text)

-- ---- histories client by client

own_here : (me : ℕ) (x : TraceStep) (h : List TraceStep) → x.client ≡ me → own_steps me (x ∷ h) ≡ x ∷ own_steps me h
own_here me x h e = ap (λ b. if b then x ∷ own_steps me h else own_steps me h) (eq-eqb x.client me e)

own_other : (me : ℕ) (x : TraceStep) (h : List TraceStep) → (x.client ≡ me → ⊥) → own_steps me (x ∷ h) ≡ own_steps me h
own_other me x h apart = ap (λ b. if b then x ∷ own_steps me h else own_steps me h) (ne_eqb x.client me apart)

-- a client stands where its own steps leave it
standing_own : (g : Group) (me : ℕ) (h : List TraceStep) → standing g me h ≡ standing g me (own_steps me h)
standing_own g me [] = refl
standing_own g me (x ∷ past) = now (cases_eq x.client me) (standing_own g me past)
  where
    now : (x.client ≡ me) ⊎ (x.client ≡ me → ⊥) → standing g me past ≡ standing g me (own_steps me past) → standing g me (x ∷ past) ≡ standing g me (own_steps me (x ∷ past))
    now (inl e) before =
        standing_moved g me x past e
        ∙ ap (λ s. (step g x.client s x.input).next) (subst (λ i. standing g i past ≡ standing g i (own_steps me past)) (sym e) before)
        ∙ sym (standing_moved g me x (own_steps me past) e)
        ∙ ap (standing g me) (sym (own_here me x past e))
    now (inr apart) before = standing_kept g me x past apart ∙ before ∙ ap (standing g me) (sym (own_other me x past apart))

-- a step looks at its client's standing alone
step_at : (g : Group) (x : TraceStep) (h k : List TraceStep) → standing g x.client h ≡ standing g x.client k → IsStep g h x → IsStep g k x
step_at g x h k e s = record {
  member = s.member;
  may = subst (λ w. MayStep g w x.input) e s.may;
  sent = subst (λ w. x.sent ≡ payload_of g x.client (step g x.client w x.input).next (step g x.client w x.input).sends) e s.sent;
  returned = subst (λ w. x.returned ≡ (step g x.client w x.input).returns) e s.returned;
  object = subst (λ w. x.object ≡ (step g x.client w x.input).object) e s.object;
}

steps_own : (g : Group) (me : ℕ) (h : List TraceStep) → AreSteps g h → AreSteps g (own_steps me h)
steps_own g me [] steps = tt
steps_own g me (x ∷ past) steps = now (cases_eq x.client me) (steps_own g me past steps.0)
  where
    now : (x.client ≡ me) ⊎ (x.client ≡ me → ⊥) → AreSteps g (own_steps me past) → AreSteps g (own_steps me (x ∷ past))
    now (inl e) before =
        subst (AreSteps g) (sym (own_here me x past e)) (
          before,
          step_at g x past (own_steps me past) (subst (λ i. standing g i past ≡ standing g i (own_steps me past)) (sym e) (standing_own g me past)) steps.1,
        )
    now (inr apart) before = subst (AreSteps g) (sym (own_other me x past apart)) before

steps_merged : (g : Group) (h : List TraceStep) → ((me : ℕ) → AreSteps g (own_steps me h)) → AreSteps g h
steps_merged g [] each = tt
steps_merged g (x ∷ past) each =
    (steps_merged g past rest, step_at g x (own_steps x.client past) past (sym (standing_own g x.client past)) (subst (AreSteps g) (own_here x.client x past refl) (each x.client)).1)
  where
    rest : (me : ℕ) → AreSteps g (own_steps me past)
    rest me = now (cases_eq x.client me)
      where
        now : (x.client ≡ me) ⊎ (x.client ≡ me → ⊥) → AreSteps g (own_steps me past)
        now (inl e) = (subst (AreSteps g) (own_here me x past e) (each me)).0
        now (inr apart) = subst (AreSteps g) (own_other me x past apart) (each me)

pub lawful_by_client : LawfulByClient
lawful_by_client g h = (
  λ lawful. (λ me. record { group = lawful.group; steps = steps_own g me h lawful.steps }),
  λ each. record { group = (each 0).group; steps = steps_merged g h (λ me. (each me).steps) },
)
