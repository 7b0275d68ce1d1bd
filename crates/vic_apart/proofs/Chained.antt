-- The texts along a path, from its oldest entry on.
use Rattle.std.specs.Prelude.{◌≡◌, ℕ, ◌+◌, ◌<◌, List, [], ◌∷◌, ◌++◌, length, take, drop}
use Rattle.std.specs.List.{AllByRecursion}
use Rattle.std.proofs.Common.{ap, sym, ◌∙◌, get_or, append_assoc}
use Rattle.std.proofs.lemmas.List.{append-nil}
use Rattle.vic_wire.specs.Texts.{genesis_text, chain_text}
use Rattle.vic_wire.specs.Hashes.{Group, chain, hash}
use Rattle.vic_laws.specs.Meanings.{chain_texts_up}
use Rattle.vic_view.specs.Making.{IsPlaceEntry}
use Rattle.vic_view.specs.Plain.{prefix_of}
use Rattle.vic_view.proofs.Hashing.{genesis_is, chain_is, newest_entry, spelled_next}
use Rattle.vic_view.specs.declared.replay.Place.{Place}

-- what the loop over a path keeps, at a place
pub record Chained (g : Group) (first ts : List (List ℕ)) (last : List ℕ) (ps : List Place) (i : ℕ) : Type 0 where
  pub spelled : AllByRecursion IsPlaceEntry (drop i ps)
  pub texts : ts ≡ first ++ chain_texts_up g (prefix_of (take i ps))
  pub last_is : last ≡ chain g (prefix_of (take i ps))

pub chained_start : (g : Group) (ts : List (List ℕ)) (last text : List ℕ) (ps : List Place) → AllByRecursion IsPlaceEntry ps → text ≡ genesis_text g.mode g.count → last ≡ hash text
    → Chained g ts ts last ps 0
unfolding chain_texts_up
chained_start g ts last text ps spelled is e = record {
  spelled = spelled;
  texts = sym (append-nil ts);
  last_is = e ∙ ap hash is ∙ genesis_is g;
}

chained_up : (g : Group) (ps : List Place) (i : ℕ) (p : Place) → i < length ps → p ≡ get_or ps i p
    → chain_texts_up g (prefix_of (take (i + 1) ps)) ≡ chain_texts_up g (prefix_of (take i ps)) ++ chain_text (chain g (prefix_of (take i ps))) p.entry ∷ []
unfolding chain_texts_up
chained_up g ps i p lt is = ap (chain_texts_up g) (newest_entry ps i p lt is)

pub chained_next : (g : Group) (first ts us : List (List ℕ)) (last next text : List ℕ) (ps : List Place) (i : ℕ) (p : Place) → i < length ps → p ≡ get_or ps i p
    → Chained g first ts last ps i → text ≡ chain_text last p.entry → next ≡ hash text → us ≡ ts ++ text ∷ [] → Chained g first us next ps (i + 1)
chained_next g first ts us last next text ps i p lt is before made hashed e =
    let p_is : text ≡ chain_text (chain g (prefix_of (take i ps))) p.entry = made ∙ ap (λ (b : List ℕ). chain_text b p.entry) before.last_is in
    record {
      spelled = spelled_next ps i p lt is before.spelled;
      texts = e ∙ ap (λ (x : List (List ℕ)). x ++ text ∷ []) before.texts ∙ append_assoc first (chain_texts_up g (prefix_of (take i ps))) (text ∷ [])
          ∙ ap (λ (t : List ℕ). first ++ (chain_texts_up g (prefix_of (take i ps)) ++ t ∷ [])) p_is ∙ ap (λ (x : List (List ℕ)). first ++ x) (sym (chained_up g ps i p lt is));
      last_is = hashed ∙ ap hash p_is ∙ chain_is g p.entry (prefix_of (take i ps)) ∙ ap (chain g) (sym (newest_entry ps i p lt is));
    }
