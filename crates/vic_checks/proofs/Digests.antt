-- Comparisons of digests.
use Rattle.std.proofs.Common.{◌≡◌, ℕ, List, Bool, false, sym, arith, ◌∙◌, ap}
use Rattle.std.specs.Prelude.{◌↔◌, IsTrue, ◌||◌, nat_eq, Some}
use Rattle.std.specs.Str.{bytes_eq}
use Rattle.std.proofs.lemmas.Bool.Decides.{same_from_decides, nat_tests}
use Rattle.std.proofs.lemmas.Slice.Eq.{bytes_eq-Decides}
use Rattle.vic_dict.specs.declared.op.Entry.{Entry}
use Rattle.vic_dict.specs.Lists.{front}
use Rattle.vic_wire.specs.declared.message.Seal.{Seal}
use Rattle.vic_wire.specs.Texts.{seal_text}
use Rattle.vic_wire.specs.Hashes.{Group, chain, tag_of}
use Rattle.vic_rules.specs.Client.{is_sealed, seal_text_on}

-- a comparison with a digest that is known
pub same_as : (r : Bool) (a made known : List ℕ) → (IsTrue r ↔ (a ≡ made)) → made ≡ known → r ≡ bytes_eq a known
same_as r a made known h e =
    same_from_decides r (bytes_eq a known) ((λ p. h.0 p ∙ e), (λ q. h.1 (q ∙ sym e))) (bytes_eq-Decides a known)

-- the test of a seal's tag is that of the seal on a path whose hash is known
pub sealed_by : (g : Group) (path : List Entry) (seal : Seal) (key h : List ℕ) (r : Bool) → g.key ≡ key → h ≡ chain g (front seal.position path)
    → r ≡ (nat_eq seal.position 0 || bytes_eq seal.tag.bytes (tag_of key (seal_text seal.position h seal.root.bytes)))
    → r ≡ is_sealed g path (Some seal)
unfolding seal_text_on
sealed_by g path seal key h r k hash e =
    e ∙ ap (λ (x : List ℕ). nat_eq seal.position 0 || bytes_eq seal.tag.bytes (tag_of x (seal_text seal.position h seal.root.bytes))) (sym k)
    ∙ ap (λ (x : List ℕ). nat_eq seal.position 0 || bytes_eq seal.tag.bytes (tag_of g.key (seal_text seal.position x seal.root.bytes))) hash

-- a number that isn't 0 fails the first of two tests
pub or_false : (n : ℕ) (b : Bool) → (n ≡ 0 → ⊥) → b ≡ (nat_eq n 0 || b)
or_false n b h = let e : nat_eq n 0 ≡ false = grind (arith, nat_tests) in ap (λ (x : Bool). x || b) (sym e)
