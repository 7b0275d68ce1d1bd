-- What the text of a made seal says.
use Rattle.std.specs.Prelude.{◌≡◌, ◌≢◌, ℕ, ◌<◌, ◌^◌, ◌⊎◌, List, [], ◌∷◌, ◌++◌, length, Some, if◌then◌else◌}
use Rattle.std.specs.List.{AllByRecursion}
use Rattle.std.specs.Int.{w32, to_be_bytes, from_be_bytes}
use Rattle.std.proofs.Common.{refl, ap, subst, sym, ◌∙◌, inl, inr, arith, length-append, ne_eqb}
use Rattle.std.proofs.lemmas.Nat.{from_be_bytes-to_be_bytes_4}
use Rattle.vic_dict.specs.declared.op.Entry.{Entry}
use Rattle.vic_dict.specs.Lists.{IsIn}
use Rattle.vic_wire.specs.declared.message.Seal.{Seal}
use Rattle.vic_wire.specs.declared.message.ToClient.{ToClient}
use Rattle.vic_wire.specs.Texts.{seal_text, genesis_text}
use Rattle.vic_wire.specs.Hashes.{Group, chain}
use Rattle.vic_wire.specs.Trees.{dictionary_root}
use Rattle.vic_wire.specs.Messages.{IsEntry}
use Rattle.vic_rules.specs.Client.{seal_of, seal_text_on}
use Rattle.vic_rules.specs.History.{Completion}
use Rattle.vic_rules.specs.Views.{confirmed_calls, left_by}
use Rattle.vic_rules.specs.Trust.{checked_texts, seal_texts, chain_texts}
use Rattle.vic_laws.specs.Claims.{AllConfirmed}
use Rattle.vic_laws.proofs.Words.{tail_same, in_left}
use Rattle.vic_laws.proofs.Chains.{TwoTexts, told_by_chain, length-chain}
use Rattle.vic_laws.proofs.Growth.{all_confirmed_stays, confirmed_calls_stay}
use Rattle.vic_tree.proofs.Binding.{same_parts}

-- the text of a seal above position 0 is checked
pub seal_checked : (g : Group) (p : List Entry) (m : ToClient) (s : Seal) → seal_of m ≡ Some s → s.position ≢ 0 → IsIn (checked_texts g p (Some m)) (seal_text_on g p s.position s.root.bytes)
seal_checked g p m s e away = in_left (seal_texts g p (seal_of m)) _ _ (subst (λ o. IsIn (seal_texts g p o) (seal_text_on g p s.position s.root.bytes)) (sym e) stands)
  where
    stands : IsIn (seal_texts g p (Some s)) (seal_text_on g p s.position s.root.bytes)
    stands = subst (λ b. IsIn (if b then [] else seal_text_on g p s.position s.root.bytes ∷ []) (seal_text_on g p s.position s.root.bytes)) (sym (ne_eqb s.position 0 away)) (inl refl)

-- ---- one text, one seal

pub seal_text_told : (n m : ℕ) (a b r q : List ℕ) → n < 2 ^ 32 → m < 2 ^ 32 → length a ≡ length b → seal_text n a r ≡ seal_text m b q → (n ≡ m) × (a ≡ b) × (r ≡ q)
seal_text_told n m a b r q small few l e =
    let outer = same_parts (to_be_bytes w32 n ++ a) (to_be_bytes w32 m ++ b) r q
    (omega (arith, length-append (to_be_bytes w32 n) a, length-append (to_be_bytes w32 m) b))
    (tail_same 19 19 (to_be_bytes w32 n ++ a ++ r) (to_be_bytes w32 m ++ b ++ q) e) in
    let inner = same_parts (to_be_bytes w32 n) (to_be_bytes w32 m) a b refl outer.0 in
    (sym (from_be_bytes-to_be_bytes_4 n small) ∙ (ap (from_be_bytes w32) inner.0 ∙ from_be_bytes-to_be_bytes_4 m few), inner.1, outer.1)

-- a seal text whose seal holds of the front of a path
pub record MadeSeal (g : Group) (IsOne : List ℕ → Type 0) (cs : List Completion) (t : List ℕ) : Type 0 where
  pub position : ℕ
  pub root : List ℕ
  pub front : List Entry
  pub is : t ≡ seal_text position (chain g front) root
  pub small : position < 2 ^ 32
  pub spelled : AllByRecursion IsEntry front
  pub texts : AllByRecursion IsOne (chain_texts g front)
  pub all : AllConfirmed cs front
  pub is_root : root ≡ dictionary_root (left_by (confirmed_calls cs front))

pub made_stays : (g : Group) (IsOne : List ℕ → Type 0) (ds cs : List Completion) (t : List ℕ) → MadeSeal g IsOne cs t → MadeSeal g IsOne (ds ++ cs) t
made_stays g IsOne ds cs t m = record {
  position = m.position;
  root = m.root;
  front = m.front;
  is = m.is;
  small = m.small;
  spelled = m.spelled;
  texts = m.texts;
  all = all_confirmed_stays ds cs m.front m.all;
  is_root = m.is_root ∙ ap (λ v. dictionary_root (left_by v)) (sym (confirmed_calls_stay ds cs m.front m.all));
}

-- the seal whose text was made so holds of each front that the text tells
pub made_holds : (g : Group) (IsOne : List ℕ → Type 0) → IsOne (genesis_text g.mode g.count) → (TwoTexts IsOne → ⊥) → (cs : List Completion) (n : ℕ) (q : List Entry) (root : List ℕ)
    → n < 2 ^ 32 → AllByRecursion IsEntry q → AllByRecursion IsOne (chain_texts g q) → MadeSeal g IsOne cs (seal_text n (chain g q) root)
    → AllConfirmed cs q × (root ≡ dictionary_root (left_by (confirmed_calls cs q)))
made_holds g IsOne genesis apart cs n q root small spelled texts m =
    let told = seal_text_told n m.position (chain g q) (chain g m.front) root m.root small m.small (length-chain g q ∙ sym (length-chain g m.front)) m.is in
    now told.2 (told_by_chain g IsOne genesis m.front q m.spelled spelled m.texts texts (sym told.1))
  where
    now : root ≡ m.root → (m.front ≡ q) ⊎ TwoTexts IsOne → AllConfirmed cs q × (root ≡ dictionary_root (left_by (confirmed_calls cs q)))
    now r (inl e) = (subst (AllConfirmed cs) e m.all, r ∙ (m.is_root ∙ ap (λ p. dictionary_root (left_by (confirmed_calls cs p))) e))
    now r (inr two) = absurd (apart two)
