-- One hash tells one path, or two different texts have one hash.
use Rattle.std.specs.Prelude.{◌≡◌, ◌≢◌, ℕ, ◌⊎◌, List, [], ◌∷◌, ◌++◌, length}
use Rattle.std.specs.List.{AllByRecursion}
use Rattle.std.specs.Str.{bytes_eq}
use Rattle.std.proofs.Common.{refl, ap, sym, ◌∙◌, inl, inr, true≢false}
use Rattle.std.proofs.lemmas.Bool.{cases_Bool}
use Rattle.std.proofs.lemmas.Slice.Eq.{bytes_eq-Decides}
use Rattle.sha2.proofs.Facts256.{length-sha256}
use Rattle.vic_dict.specs.declared.op.Entry.{Entry}
use Rattle.vic_wire.specs.Texts.{chain_text, genesis_text, entry_text}
use Rattle.vic_wire.specs.Hashes.{Group, chain, hash}
use Rattle.vic_wire.specs.Messages.{IsEntry}
use Rattle.vic_wire.specs.Reading.{entry_at}
use Rattle.vic_rules.specs.Trust.{chain_texts}
use Rattle.vic_spellings.proofs.Entries.{entry_again}
use Rattle.vic_spellings.proofs.Steps.{ok_is}
use Rattle.vic_laws.proofs.Words.{tail_same}
use Rattle.vic_tree.proofs.Binding.{same_parts}

-- two different texts of a kind that have one hash
abbrev pub TwoTexts : (List ℕ → Type 0) → Type 0
TwoTexts IsOne = (one : List ℕ) × (other : List ℕ) × IsOne one × IsOne other × (one ≢ other) × (hash one ≡ hash other)

-- two texts of one hash are equal, or they are such
pub told_by_hash : (IsOne : List ℕ → Type 0) (t u : List ℕ) → IsOne t → IsOne u → hash t ≡ hash u → (t ≡ u) ⊎ TwoTexts IsOne
told_by_hash IsOne t u a b e = elim (cases_Bool (bytes_eq t u)) [
  | inl same ↦ inl ((bytes_eq-Decides t u).0 same)
  | inr differ ↦ inr (t, u, a, b, (λ same. true≢false (sym ((bytes_eq-Decides t u).1 same) ∙ differ)), e)
]

pub length-chain : (g : Group) (p : List Entry) → length (chain g p) ≡ 32
unfolding chain
length-chain g [] = length-sha256 _
length-chain g (e ∷ p) = length-sha256 _

-- one text, one entry
pub same_entry_text : (e f : Entry) → IsEntry e → IsEntry f → entry_text e ≡ entry_text f → e ≡ f
same_entry_text e f a b s = ap (λ x. x.0) (ok_is (e, []) (f, []) (sym (entry_again e [] a) ∙ (again s ∙ entry_again f [] b)))
  where
    again : entry_text e ≡ entry_text f → entry_at (entry_text e ++ []) ≡ entry_at (entry_text f ++ [])
    again q = ap (λ t. entry_at (t ++ [])) q

-- a text of the path's own is no text of an entry that joined it
genesis_apart : (a b : List ℕ) → 5 ∷ a ≡ 1 ∷ b → ⊥
genesis_apart a b e = cc

module _ (g : Group) (IsOne : List ℕ → Type 0) (genesis : IsOne (genesis_text g.mode g.count)) where
  -- the hash of the empty path is that of no other
  empty_told : (e : Entry) (q : List Entry) → IsOne (chain_text (chain g q) e) → hash (genesis_text g.mode g.count) ≡ hash (chain_text (chain g q) e) → TwoTexts IsOne
  empty_told e q a s = elim (told_by_hash IsOne (genesis_text g.mode g.count) (chain_text (chain g q) e) genesis a s) [
    | inl same ↦ absurd (genesis_apart _ _ same)
    | inr two ↦ two
  ]

  -- one hash of two paths whose texts are of a kind, and whose entries have spellings: one path, or two such texts
  pub told_by_chain : (p q : List Entry) → AllByRecursion IsEntry p → AllByRecursion IsEntry q → AllByRecursion IsOne (chain_texts g p) → AllByRecursion IsOne (chain_texts g q)
      → chain g p ≡ chain g q → (p ≡ q) ⊎ TwoTexts IsOne
  unfolding chain
  told_by_chain [] [] sp sq a b s = inl refl
  told_by_chain [] (f ∷ q) sp sq a b s = inr (empty_told f q b.0 s)
  told_by_chain (e ∷ p) [] sp sq a b s = inr (empty_told e p a.0 (sym s))
  told_by_chain (e ∷ p) (f ∷ q) sp sq a b s = step (told_by_hash IsOne (chain_text (chain g p) e) (chain_text (chain g q) f) a.0 b.0 s) (λ r. told_by_chain p q sp.1 sq.1 a.1 b.1 r)
    where
      joined : (e ≡ f) → (p ≡ q) → e ∷ p ≡ f ∷ q
      joined x y = cc

      both : chain_text (chain g p) e ≡ chain_text (chain g q) f → (chain g p ≡ chain g q) × (entry_text e ≡ entry_text f)
      both t = same_parts (chain g p) (chain g q) (entry_text e) (entry_text f) (length-chain g p ∙ sym (length-chain g q)) (tail_same 1 1 (chain g p ++ entry_text e) (chain g q ++ entry_text f) t)

      after : e ≡ f → (p ≡ q) ⊎ TwoTexts IsOne → (e ∷ p ≡ f ∷ q) ⊎ TwoTexts IsOne
      after x (inl y) = inl (joined x y)
      after x (inr two) = inr two

      step : (chain_text (chain g p) e ≡ chain_text (chain g q) f) ⊎ TwoTexts IsOne → (chain g p ≡ chain g q → (p ≡ q) ⊎ TwoTexts IsOne) → (e ∷ p ≡ f ∷ q) ⊎ TwoTexts IsOne
      step (inl t) go = after (same_entry_text e f sp.0 sq.0 (both t).1) (go (both t).0)
      step (inr two) go = inr two
