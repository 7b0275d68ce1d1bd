-- The hashes along a path by the places of its entries.
use Rattle.std.proofs.Common.{◌≡◌, ℕ, suc, zero, ◌+◌, ◌<◌, ◌≤◌, List, [], ◌∷◌, ◌++◌, length, take, drop, reverse, get_or, refl, sym, ◌∙◌, ap, subst, arith, append_assoc, length-append}
use Rattle.std.proofs.lemmas.List.{reverse-append, append-nil, take_more, map-append, length-map, length-reverse, length-take-le, take-append-drop}
use Rattle.vic_dict.specs.declared.op.Entry.{Entry}
use Rattle.vic_dict.specs.Lists.{front}
use Rattle.vic_wire.specs.declared.message.Digest32.{Digest32}
use Rattle.std.specs.List.{AllByRecursion}
use Rattle.vic_wire.specs.Texts.{genesis_text, chain_text}
use Rattle.vic_wire.specs.Hashes.{Group, chain, hash}
use Rattle.vic_rules.specs.declared.trace.TraceStep.{TraceStep}
use Rattle.vic_rules.specs.Client.{digest}
use Rattle.vic_rules.specs.History.{path, AreSteps}
use Rattle.vic_laws.proofs.Growth.{front_grows, front_whole}
use Rattle.vic_view.specs.declared.replay.Place.{Place}
use Rattle.vic_view.specs.Replay.{replayed_path}
use Rattle.vic_view.specs.Making.{IsPlaceEntry, hashes_above, hashes_of, hash_at}
use Rattle.vic_view.proofs.Fronts.{rest_from, below_next}
use Rattle.vic_view.proofs.Replays.{entries, replays_path}

hash_above : (g : Group) (below : List Entry) (ps : List Place) (n : ℕ) (d : Digest32) → n ≤ length ps
    → get_or (digest (chain g below) ∷ hashes_above g below ps) n d ≡ digest (chain g (reverse (take n (entries ps)) ++ below))
hash_above g below ps zero d le = refl
hash_above g below [] (suc n) d le = absurd (omega arith)
hash_above g below (p ∷ ps) (suc n) d le =
    hash_above g (p.entry ∷ below) ps n d (omega arith) ∙ ap (λ (es : List Entry). digest (chain g es)) (below_next p.entry (take n (entries ps)) below)

-- a front of a list that is turned round
front_reverse : (es : List Entry) (n : ℕ) → n ≤ length es → front n (reverse es) ≡ reverse (take n es)
front_reverse es n le =
    let size : length (reverse (take n es)) ≡ n = length-reverse (take n es) ∙ length-take-le n es le in
    ap (front n) (ap reverse (sym (take-append-drop n es)) ∙ reverse-append (take n es) (drop n es))
    ∙ front_grows (reverse (drop n es)) (reverse (take n es)) n (omega (arith, size))
    ∙ front_whole n (reverse (take n es)) (omega (arith, size))

-- the hash with a number is that of the front as long
pub hash_is : (g : Group) (ps : List Place) (n : ℕ) → n ≤ length ps → hash_at (hashes_of g ps) n ≡ chain g (front n (reverse (entries ps)))
hash_is g ps n le =
    ap (λ (d : Digest32). d.bytes) (hash_above g [] ps n _ le)
    ∙ ap (chain g) (append-nil (reverse (take n (entries ps))) ∙ sym (front_reverse (entries ps) n (omega (arith, length-map ps (λ (p : Place). p.entry)))))

-- the hash of a front of a client's path, also of the path that it had before
pub hash_before : (g : Group) (h : List TraceStep) → AreSteps g h → (me : ℕ) (news p : List Entry) (n : ℕ) → path g me h ≡ news ++ p → n ≤ length p
    → hash_at (hashes_of g (replayed_path me h).places) n ≡ chain g (front n p)
hash_before g h steps me news p n grown le =
    let ps : List Place = (replayed_path me h).places in
    let whole : reverse (entries ps) ≡ news ++ p = replays_path g h steps me ∙ grown in
    let size : length ps ≡ length (news ++ p) = sym (length-map ps (λ (q : Place). q.entry)) ∙ sym (length-reverse (entries ps)) ∙ ap length whole in
    hash_is g ps n (omega (arith, size, length-append news p)) ∙ ap (λ (es : List Entry). chain g (front n es)) whole ∙ ap (chain g) (front_grows news p n le)

-- ---- what the loop keeps

pub genesis_is : (g : Group) → hash (genesis_text g.mode g.count) ≡ chain g []
unfolding chain
genesis_is g = refl

pub chain_is : (g : Group) (e : Entry) (p : List Entry) → hash (chain_text (chain g p) e) ≡ chain g (e ∷ p)
unfolding chain
chain_is g e p = refl

-- the first hash
pub hash_first : (g : Group) (ps : List Place) (hs ks : List Digest32) (d : Digest32) → hs ≡ [] → ks ≡ hs ++ d ∷ [] → d.bytes ≡ chain g [] → ks ++ hashes_above g [] ps ≡ hashes_of g ps
hash_first g ps hs ks d none e is =
    ap (λ (x : List Digest32). x ++ hashes_above g [] ps) (e ∙ ap (λ (x : List Digest32). x ++ d ∷ []) none) ∙ ap (λ (b : List ℕ). digest b ∷ hashes_above g [] ps) is

pub spelled_next : (ps : List Place) (i : ℕ) (p : Place) → i < length ps → p ≡ get_or ps i p → AllByRecursion IsPlaceEntry (drop i ps) → AllByRecursion IsPlaceEntry (drop (i + 1) ps)
spelled_next ps i p lt is a = (subst (AllByRecursion IsPlaceEntry) (rest_from ps i p lt is) a).1

pub newest_entry : (ps : List Place) (i : ℕ) (p : Place) → i < length ps → p ≡ get_or ps i p → reverse (entries (take (i + 1) ps)) ≡ p.entry ∷ reverse (entries (take i ps))
newest_entry ps i p lt is =
    ap (λ (qs : List Place). reverse (entries qs)) (take_more ps i p lt ∙ ap (λ (q : Place). take i ps ++ q ∷ []) (sym is))
    ∙ ap reverse (map-append (λ (q : Place). q.entry) (take i ps) (p ∷ []))
    ∙ reverse-append (entries (take i ps)) (p.entry ∷ [])

-- one more hash
pub hash_next : (g : Group) (ps : List Place) (i : ℕ) (p : Place) (hs ks : List Digest32) (d : Digest32) → i < length ps → p ≡ get_or ps i p
    → hs ++ hashes_above g (reverse (entries (take i ps))) (drop i ps) ≡ hashes_of g ps → d.bytes ≡ chain g (p.entry ∷ reverse (entries (take i ps))) → ks ≡ hs ++ d ∷ []
    → (ks ++ hashes_above g (reverse (entries (take (i + 1) ps))) (drop (i + 1) ps) ≡ hashes_of g ps) × (d.bytes ≡ chain g (reverse (entries (take (i + 1) ps))))
hash_next g ps i p hs ks d lt is before made e =
    let below : List Entry = reverse (entries (take i ps)) in
    let below_now : reverse (entries (take (i + 1) ps)) ≡ p.entry ∷ below = newest_entry ps i p lt is in
    let digest_is : d ≡ digest (chain g (p.entry ∷ below)) = ap digest made in (
      ap (λ (x : List Digest32). x ++ hashes_above g (reverse (entries (take (i + 1) ps))) (drop (i + 1) ps)) e
          ∙ append_assoc hs (d ∷ []) (hashes_above g (reverse (entries (take (i + 1) ps))) (drop (i + 1) ps))
          ∙ ap (λ (es : List Entry). hs ++ d ∷ hashes_above g es (drop (i + 1) ps)) below_now
          ∙ ap (λ (x : Digest32). hs ++ x ∷ hashes_above g (p.entry ∷ below) (drop (i + 1) ps)) digest_is
          ∙ ap (λ (qs : List Place). hs ++ hashes_above g below qs) (sym (rest_from ps i p lt is))
          ∙ before,
      made ∙ ap (chain g) (sym below_now),
    )
