-- What a window shows of a path, and that it goes on showing it.
use Rattle.std.proofs.Common.{◌≡◌, ℕ, zero, suc, ◌+◌, ◌-◌, ◌<◌, ◌≤◌, List, [], ◌∷◌, length, take, drop, Some, refl, sym, ap, ◌∙◌, arith, length-drop, get_or}
use Rattle.std.specs.Prelude.{slice_get}
use Rattle.std.specs.Option.{option_map}
use Rattle.vic_dict.specs.declared.op.Entry.{Entry}
use Rattle.vic_dict.specs.declared.op.Mode.{Mode}
use Rattle.vic_dict.specs.Lists.{front, newest}
use Rattle.vic_wire.specs.declared.message.Digest32.{Digest32}
use Rattle.vic_wire.specs.Hashes.{Group, chain, hash, empty_root}
use Rattle.vic_wire.specs.Texts.{genesis_text, chain_text}
use Rattle.vic_chain.specs.declared.window.ChainedEntry.{ChainedEntry}
use Rattle.vic_chain.specs.Held.{Held, held_length, held_hash, last_hash, held_with_entry, held_cut_to, held_sealed_at, path_on, AreChained, ShowsPath}

-- ---- links on a path

length-path_on : (below : List Entry) (links : List ChainedEntry) → length (path_on below links) ≡ length below + length links
length-path_on below [] = omega arith
length-path_on below (x ∷ links) = let e = length-path_on below links in omega (arith, e)

path_on-drop : (below : List Entry) (k : ℕ) (links : List ChainedEntry) → k ≤ length links
    → path_on below (drop k links) ≡ drop k (path_on below links)
path_on-drop below zero links h = refl
path_on-drop below (suc k) [] h = absurd (omega arith)
path_on-drop below (suc k) (x ∷ links) h = path_on-drop below k links (omega arith)

path_on-take : (below : List Entry) (k : ℕ) (links : List ChainedEntry)
    → path_on (path_on below (drop k links)) (take k links) ≡ path_on below links
path_on-take below zero links = refl
path_on-take below (suc k) [] = refl
path_on-take below (suc k) (x ∷ links) = ap (λ (p : List Entry). x.entry ∷ p) (path_on-take below k links)

AreChained-drop : (g : Group) (below : List Entry) (k : ℕ) (links : List ChainedEntry)
    → AreChained g below links → AreChained g below (drop k links)
AreChained-drop g below zero links h = h
AreChained-drop g below (suc k) [] h = h
AreChained-drop g below (suc k) (x ∷ links) h = AreChained-drop g below k links h.0

AreChained-take : (g : Group) (below : List Entry) (k : ℕ) (links : List ChainedEntry)
    → AreChained g below links → AreChained g (path_on below (drop k links)) (take k links)
AreChained-take g below zero links h = tt
AreChained-take g below (suc k) [] h = tt
AreChained-take g below (suc k) (x ∷ links) h =
    (AreChained-take g below k links h.0, h.1 ∙ ap (λ (p : List Entry). chain g (x.entry ∷ p)) (sym (path_on-take below k links)))

last_hash_is : (g : Group) (below : List Entry) (base : Digest32) (links : List ChainedEntry)
    → base.bytes ≡ chain g below → AreChained g below links → (last_hash base links).bytes ≡ chain g (path_on below links)
last_hash_is g below base [] b h = b
last_hash_is g below base (x ∷ links) b h = h.1

newest-path_on : (below : List Entry) (k : ℕ) (links : List ChainedEntry) (e : Entry)
    → option_map (λ (x : ChainedEntry). x.entry) (slice_get links k) ≡ Some e → newest (drop k (path_on below links)) ≡ Some e
newest-path_on below k [] e h = cc h
newest-path_on below zero (x ∷ links) e h = h
newest-path_on below (suc k) (x ∷ links) e h = newest-path_on below k links e h

-- the entry of the link at a place
pub link_at : (links : List ChainedEntry) (k n : ℕ) (x : ChainedEntry) → k ≡ n → n < length links → x ≡ get_or links n x
    → option_map (λ (y : ChainedEntry). y.entry) (slice_get links k) ≡ Some x.entry
link_at links k n x e lt h = ap (λ (i : ℕ). option_map (λ (y : ChainedEntry). y.entry) (slice_get links i)) e ∙ stands links n x lt h
  where
    stands : (links : List ChainedEntry) (n : ℕ) (x : ChainedEntry) → n < length links → x ≡ get_or links n x
        → option_map (λ (y : ChainedEntry). y.entry) (slice_get links n) ≡ Some x.entry
    stands [] n x lt h = absurd (omega arith)
    stands (y ∷ links) zero x lt h = ap (λ (z : ChainedEntry). Some z.entry) (sym h)
    stands (y ∷ links) (suc n) x lt h = stands links n x (omega arith) h

-- ---- windows

pub shows_length : (g : Group) (p : List Entry) (w : Held) → ShowsPath g p w → held_length w ≡ length p
shows_length g p w s = let e = length-path_on s.below w.links in omega (arith, e, ap length s.is, s.sealed)

-- so many links stand above a position
above : (g : Group) (p : List Entry) (w : Held) (n : ℕ) → ShowsPath g p w → held_length w - n ≡ length p - n
above g p w n s = ap (λ (x : ℕ). x - n) (shows_length g p w s)

-- the front up to a position from the seal on ends with the links up to it
front_is : (g : Group) (p : List Entry) (w : Held) (n : ℕ) → w.sealed ≤ n → (s : ShowsPath g p w)
    → path_on s.below (drop (held_length w - n) w.links) ≡ front n p
front_is g p w n le s =
    path_on-drop s.below (held_length w - n) w.links (omega arith)
    ∙ ap (λ (q : List Entry). drop (held_length w - n) q) (sym s.is)
    ∙ ap (λ (k : ℕ). drop k p) (above g p w n s)

pub shows_hash : (g : Group) (p : List Entry) (w : Held) (n : ℕ) → w.sealed ≤ n → ShowsPath g p w
    → (held_hash w n).bytes ≡ chain g (front n p)
shows_hash g p w n le s =
    last_hash_is g s.below w.base (drop (held_length w - n) w.links) s.base (AreChained-drop g s.below (held_length w - n) w.links s.chained)
    ∙ ap (chain g) (front_is g p w n le s)

pub shows_entry : (g : Group) (p : List Entry) (w : Held) (n : ℕ) (e : Entry)
    → option_map (λ (x : ChainedEntry). x.entry) (slice_get w.links (held_length w - n)) ≡ Some e → ShowsPath g p w
    → newest (front n p) ≡ Some e
shows_entry g p w n e h s =
    ap (λ (k : ℕ). newest (drop k p)) (sym (above g p w n s))
    ∙ ap (λ (q : List Entry). newest (drop (held_length w - n) q)) s.is
    ∙ newest-path_on s.below (held_length w - n) w.links e h

pub shows_start : (g : Group) (mode : Mode) (count : ℕ) → g.mode ≡ mode → g.count ≡ count
    → ShowsPath g [] (record { sealed = 0; root = empty_root; base = record { bytes = hash (genesis_text mode count) }; links = [] })
unfolding chain
shows_start g mode count m n = record {
  below = [];
  is = refl;
  sealed = refl;
  base = ap (λ (x : Mode). hash (genesis_text x count)) (sym m) ∙ ap (λ (x : ℕ). hash (genesis_text g.mode x)) (sym n);
  chained = tt;
}

-- the hash of a path with one more entry
chain-cons : (g : Group) (e : Entry) (p : List Entry) → chain g (e ∷ p) ≡ hash (chain_text (chain g p) e)
unfolding chain
chain-cons g e p = refl

pub shows_extended : (g : Group) (p : List Entry) (w : Held) (e : Entry) → ShowsPath g p w → ShowsPath g (e ∷ p) (held_with_entry w e)
shows_extended g p w e s = record {
  below = s.below;
  is = ap (λ (q : List Entry). e ∷ q) s.is;
  sealed = s.sealed;
  base = s.base;
  chained = (
    s.chained,
    ap (λ (h : List ℕ). hash (chain_text h e)) (last_hash_is g s.below w.base w.links s.base s.chained)
        ∙ sym (chain-cons g e (path_on s.below w.links)),
  );
}

pub shows_cut : (g : Group) (p : List Entry) (w : Held) (n : ℕ) → w.sealed ≤ n → ShowsPath g p w → ShowsPath g (front n p) (held_cut_to w n)
shows_cut g p w n le s = record {
  below = s.below;
  is = sym (front_is g p w n le s);
  sealed = s.sealed;
  base = s.base;
  chained = AreChained-drop g s.below (held_length w - n) w.links s.chained;
}

pub shows_advanced : (g : Group) (p : List Entry) (w : Held) (n : ℕ) (root : List ℕ) → w.sealed ≤ n → n ≤ held_length w
    → ShowsPath g p w → ShowsPath g p (held_sealed_at w n root)
shows_advanced g p w n root le within s =
    let k = held_length w - n in
    let kept : length (path_on s.below (drop k w.links)) ≡ n =
    let cut = length-path_on s.below (drop k w.links) in omega (arith, cut, length-drop k w.links, s.sealed) in
    record {
      below = path_on s.below (drop k w.links);
      is = s.is ∙ sym (path_on-take s.below k w.links);
      sealed = kept;
      base = last_hash_is g s.below w.base (drop k w.links) s.base (AreChained-drop g s.below k w.links s.chained);
      chained = AreChained-take g s.below k w.links s.chained;
    }
