-- A commit whose text was made is that of a call that its owner completed, with this status, on this very path.
use Rattle.std.specs.Prelude.{◌≡◌, ℕ, ◌⊎◌, Bool, true, false, List, [], ◌∷◌, ◌++◌, length}
use Rattle.std.specs.List.{AllByRecursion}
use Rattle.std.specs.Int.{w32, to_be_bytes}
use Rattle.std.proofs.Common.{refl, ap, subst, sym, ◌∙◌, inl, inr, arith, append_assoc}
use Rattle.vic_dict.specs.declared.op.Entry.{Entry}
use Rattle.vic_dict.specs.Lists.{IsIn, front}
use Rattle.vic_wire.specs.Texts.{commit_text, status_byte}
use Rattle.vic_wire.specs.Hashes.{Group, chain}
use Rattle.vic_wire.specs.Messages.{IsEntry}
use Rattle.vic_rules.specs.declared.trace.Input.{Input}
use Rattle.vic_rules.specs.declared.trace.TraceStep.{TraceStep}
use Rattle.vic_rules.specs.Client.{Standing, Move, is_done, commit_text_on, seal_text_on}
use Rattle.vic_rules.specs.History.{standing, path, move_of, AreSteps, Completion, completions}
use Rattle.vic_rules.specs.Trust.{IsListed, of_genesis, texts_made, text_sent, chain_texts}
use Rattle.vic_laws.specs.Claims.{CommittedAs, CommitsTellIn, CommitsTell}
use Rattle.vic_laws.proofs.Words.{tail_same, in_either}
use Rattle.vic_laws.proofs.Steps.{Kind, is_quiet, is_called, is_replied, is_updated, is_listed, Replied}
use Rattle.vic_laws.proofs.Standings.{standing_moved, earlier_steps}
use Rattle.vic_laws.proofs.Chains.{TwoTexts, told_by_chain, length-chain}
use Rattle.vic_laws.proofs.Paths.{all_drop, texts_drop, path_listed, path_spelled, collides_from}
use Rattle.vic_laws.proofs.Calls.{kind_of, completed_by, completion_joins, completion_stays}
use Rattle.vic_laws.proofs.Growth.{path_later, texts_below}
use Rattle.vic_laws.proofs.Agreement.{confirmed_by}
use Rattle.vic_laws.proofs.SealsHeld.{first_apart}
use Rattle.vic_tree.proofs.Binding.{same_parts}

-- ---- one text, one commit

one_status : (d e : Bool) → status_byte d ∷ [] ≡ status_byte e ∷ [] → d ≡ e
one_status true true h = refl
one_status true false h = absurd cc
one_status false true h = absurd cc
one_status false false h = refl

pub commit_told : (n m : ℕ) (a b : List ℕ) (d e : Bool) → length a ≡ length b → commit_text n a d ≡ commit_text m b e → (a ≡ b) × (d ≡ e)
commit_told n m a b d e same h =
    let outer = same_parts (to_be_bytes w32 n) (to_be_bytes w32 m) (a ++ status_byte d ∷ []) (b ++ status_byte e ∷ []) refl
    (tail_same 18 18 (to_be_bytes w32 n ++ a ++ status_byte d ∷ []) (to_be_bytes w32 m ++ b ++ status_byte e ∷ []) h) in
    let inner = same_parts a b (status_byte d ∷ []) (status_byte e ∷ []) same outer.1 in
    (inner.0, one_status d e inner.1)

-- ---- what was made

-- a commit text of a completion of an earlier history
record MadeCommit (g : Group) (whole h : List TraceStep) (t : List ℕ) : Type 0 where
  by : Completion
  there : IsIn (completions g h) by
  done : Bool
  is : t ≡ commit_text (length by.prefix) (chain g by.prefix) done
  ends : is_done by.outcome ≡ done
  spelled : AllByRecursion IsEntry by.prefix
  texts : AllByRecursion (IsListed g whole) (chain_texts g by.prefix)

-- the Reply after which a commit was sent
record SentCommit (g : Group) (me : ℕ) (s : Standing) (i : Input) (v : Move) (t : List ℕ) : Type 0 where
  replied : Replied g me s i v
  is : t ≡ commit_text (length (completed_by replied).prefix) (chain g (completed_by replied).prefix) (is_done (completed_by replied).outcome)

sent_commit : (g : Group) (me : ℕ) (s : Standing) (i : Input) (v : Move) → Kind g me s i v → (t rest : List ℕ) → t ≡ 18 ∷ rest → IsIn (text_sent g me v.next v.sends) t → SentCommit g me s i v t
unfolding commit_text_on seal_text_on
sent_commit g me s i v (is_quiet k) t rest e there = absurd (subst (λ ts. IsIn ts t) k.sends_nothing there)
sent_commit g me s i v (is_called k) t rest e there = elim (subst (λ w. IsIn (text_sent g me w.next w.sends) t) k.moved there) [
  | inl same ↦ absurd (first_apart 17 18 _ rest t (λ q. omega (arith, q)) same e)
  | inr none ↦ absurd none
]
sent_commit g me s i v (is_replied k) t rest e there = elim (subst (λ w. IsIn (text_sent g me w.next w.sends) t) k.moved there) [
  | inl same ↦ record { replied = k; is = sym same }
  | inr none ↦ absurd none
]
sent_commit g me s i v (is_updated k) t rest e there = elim (subst (λ w. IsIn (text_sent g me w.next w.sends) t) k.moved there) [
  | inl same ↦ absurd (first_apart 19 18 _ rest t (λ q. omega (arith, q)) same e)
  | inr none ↦ absurd none
]
sent_commit g me s i v (is_listed k) t rest e there = absurd (subst (λ w. IsIn (text_sent g me w.next w.sends) t) k.moved there)

module _ (g : Group) (whole : List TraceStep) (lawful : AreSteps g whole) where
  -- the texts along a path of an earlier history are listed
  texts_along : (later h : List TraceStep) → whole ≡ later ++ h → (me : ℕ) → AllByRecursion (IsListed g whole) (chain_texts g (path g me h))
  texts_along later h e me =
      let grown = path_later g later h (subst (AreSteps g) e lawful) me in
      texts_below g (IsListed g whole) grown.0 (path g me h)
      (subst (λ p. AllByRecursion (IsListed g whole) (chain_texts g p)) (ap (path g me) e ∙ grown.1) (path_listed g whole me))

  made_commit : (later h : List TraceStep) → whole ≡ later ++ h → (t rest : List ℕ) → t ≡ 18 ∷ rest → IsIn (texts_made g h) t → MadeCommit g whole h t
  unfolding texts_made
  made_commit later [] e t rest starts there = absurd there
  made_commit later (x ∷ past) e t rest starts there =
      now (in_either (text_sent g x.client (move_of g past x).next (move_of g past x).sends) (texts_made g past) t there)
      (made_commit (later ++ x ∷ []) past (e ∙ sym (append_assoc later (x ∷ []) past)) t rest starts)
    where
      steps : AreSteps g (x ∷ past)
      steps = earlier_steps g later (x ∷ past) (subst (AreSteps g) e lawful)

      new : SentCommit g x.client (standing g x.client past) x.input (move_of g past x) t → MadeCommit g whole (x ∷ past) t
      new s =
          let path_is : path g x.client (x ∷ past) ≡ (completed_by s.replied).prefix = ap (λ w. w.path) (standing_moved g x.client x past refl) ∙ ap (λ v. v.next.path) s.replied.moved in
          record {
            by = completed_by s.replied;
            there = completion_joins g past x steps.1 s.replied;
            done = is_done (completed_by s.replied).outcome;
            is = s.is;
            ends = refl;
            spelled = subst (AllByRecursion IsEntry) path_is (path_spelled g (x ∷ past) steps x.client);
            texts = subst (λ p. AllByRecursion (IsListed g whole) (chain_texts g p)) path_is (texts_along later (x ∷ past) e x.client);
          }

      old : MadeCommit g whole past t → MadeCommit g whole (x ∷ past) t
      old m = record { by = m.by; there = completion_stays g past x m.by m.there; done = m.done; is = m.is; ends = m.ends; spelled = m.spelled; texts = m.texts }

      now : IsIn (text_sent g x.client (move_of g past x).next (move_of g past x).sends) t ⊎ IsIn (texts_made g past) t → (IsIn (texts_made g past) t → MadeCommit g whole past t) → MadeCommit g whole (x ∷ past) t
      now (inl sent) before = new (sent_commit g x.client (standing g x.client past) x.input (move_of g past x) (kind_of g past x steps.1) t rest starts sent)
      now (inr made) before = old (before made)

-- ---- the law

commit_starts : (g : Group) (p : List Entry) (done : Bool) → (rest : List ℕ) × (commit_text_on g p done ≡ 18 ∷ rest)
unfolding commit_text_on
commit_starts g p done = (_, refl)

commit_text_is : (g : Group) (p : List Entry) (done : Bool) → commit_text_on g p done ≡ commit_text (length p) (chain g p) done
unfolding commit_text_on
commit_text_is g p done = refl

pub commits_tell : (g : Group) (h : List TraceStep) → AreSteps g h → CommitsTellIn g h
commits_tell g h lawful apart me n done made =
    let p : List Entry = front n (path g me h) in
    let starts = commit_starts g p done in
    let m = made_commit g h lawful [] h refl (commit_text_on g p done) starts.0 starts.1 made in
    let told = commit_told (length p) (length m.by.prefix) (chain g p) (chain g m.by.prefix) done m.done (length-chain g p ∙ sym (length-chain g m.by.prefix)) (sym (commit_text_is g p done) ∙ m.is) in
    now m told.1 (told_by_chain g (IsListed g h) (of_genesis refl) m.by.prefix p m.spelled (all_drop IsEntry _ (path g me h) (path_spelled g h lawful me))
    m.texts (texts_drop g (IsListed g h) _ (path g me h) (path_listed g h me)) (sym told.0))
  where
    now : (m : MadeCommit g h h (commit_text_on g (front n (path g me h)) done)) → done ≡ m.done → (m.by.prefix ≡ front n (path g me h)) ⊎ TwoTexts (IsListed g h) → CommittedAs (completions g h) (front n (path g me h)) done
    now m status (inl same) = record { by = m.by; found = confirmed_by g h lawful (front n (path g me h)) m.by m.there same; ends = m.ends ∙ sym status }
    now m status (inr two) = absurd (apart (collides_from g h two))

pub commits_tell_all : CommitsTell
commits_tell_all g h lawful = commits_tell g h lawful.steps
