-- A script has few lines, byte words spell bytes, and the calls that texts spell are within the limits.
use Rattle.std.proofs.Common.{◌≡◌, ℕ, suc, ◌<◌, ◌≤◌, Bool, true, false, ◌&&◌, List, [], ◌∷◌, length, Option, Some, None, Result, Ok, Err, refl, arith}
use Rattle.std.specs.Prelude.{if◌then◌else◌, nat_eq, nat_le, option_map, codes, drop, replicate}
use Rattle.std.specs.Str.{bytes_eq}
use Rattle.std.specs.List.{list_all, starts_with}
use Rattle.std.specs.Result.{result_ok}
use Rattle.std.proofs.lemmas.Bool.{and_parts, leb-true}
use Rattle.std.proofs.lemmas.Bool.Decides.{nat_tests}
use Rattle.std.proofs.lemmas.List.{length-replicate}
use Rattle.hex.specs.Hex.{decode_of}
use Rattle.hex.specs.declared.error.FromHexError.{FromHexError}
use Rattle.hex.proofs.HexLemmas.{decode_of-ok}
use Rattle.vic_dict.specs.declared.op.Op.{Op}
use Rattle.vic_dict.specs.declared.op.Op.TheVariants as op
use Rattle.vic_dict.specs.Lists.{AreBytes}
use Rattle.vic_dict.specs.Dictionary.{Fits, AreBytesIn}
use Rattle.vic_dict.proofs.ByteLists.{AreBytes-nil, AreBytes-cons}
use Rattle.vic_rules.specs.declared.object.ObjectCall.{ObjectCall}
use Rattle.vic_rules.specs.declared.object.ObjectCall.TheVariants as object
use Rattle.vic_rules.specs.Objects.{FitsObject, AreBytesInObject}
use Rattle.vic_script.specs.Words.{is_plain, is_lower_hex, is_percent, hex_word, word_bytes, word_number}
use Rattle.vic_script.specs.Lines.{put_first, lines_of, word_within, key_of, value_of, prefix_of, put_of, op_of, at_most, zeros_of, content_of, store_of, object_of}
use Rattle.vic_dict.proofs.ByteLists.{AreBytes-replicate}

-- ---- the lines of a script

length-put_first : (b n : ℕ) (pieces : List (List ℕ)) → length pieces ≤ n → length (put_first b pieces) ≤ suc n
length-put_first b n [] h = omega arith
length-put_first b n (piece ∷ pieces) h = omega (arith, h)

few-either : (b : Bool) (n : ℕ) (x y : List (List ℕ)) → length x ≤ n → length y ≤ n → length (if b then x else y) ≤ n
few-either true n x y h k = h
few-either false n x y h k = k

-- a script has at most as many lines as bytes
pub length-lines_of : (bs : List ℕ) → length (lines_of bs) ≤ length bs
unfolding lines_of
length-lines_of [] = omega arith
length-lines_of (b ∷ bs) =
    let rest = length-lines_of bs in
    few-either (nat_eq b 10) (suc (length bs)) ([] ∷ lines_of bs) (put_first b (lines_of bs)) (omega (arith, rest)) (length-put_first b (length bs) (lines_of bs) rest)

-- ---- byte words

abbrev pub BytesIn : Option (List ℕ) → Type 0
BytesIn None = Unit {0}
BytesIn (Some bytes) = AreBytes bytes

bytes_in-either : (b : Bool) (x y : Option (List ℕ)) → BytesIn x → BytesIn y → BytesIn (if b then x else y)
bytes_in-either true x y h k = h
bytes_in-either false x y h k = k

decoded-bytes : (r : Result (List ℕ) FromHexError) → ((bytes : List ℕ) → r ≡ Ok bytes → AreBytes bytes) → BytesIn (result_ok r)
decoded-bytes (Ok bytes) h = h bytes refl
decoded-bytes (Err e) h = tt

-- plain characters are bytes
plain-few : (c : ℕ) → is_plain c ≡ true → c < 256
plain-few c e = grind (arith, nat_tests)

plain-bytes : (word : List ℕ) → list_all is_plain word ≡ true → AreBytes word
plain-bytes [] e = AreBytes-nil
plain-bytes (c ∷ cs) e = let p = and_parts _ _ e in AreBytes-cons c cs (plain-few c p.0) (plain-bytes cs p.1)

plain-word : (word : List ℕ) (b : Bool) → (b ≡ true → AreBytes word) → BytesIn (if b then Some word else None)
plain-word word true h = h refl
plain-word word false h = tt

-- what a byte word spells is bytes
pub word-bytes : (word : List ℕ) → BytesIn (word_bytes word)
word-bytes [] = tt
word-bytes (c ∷ cs) =
    bytes_in-either (is_percent c) (hex_word cs) (if list_all is_plain (c ∷ cs) then Some (c ∷ cs) else None)
    (bytes_in-either (list_all is_lower_hex cs) (result_ok (decode_of cs)) None (decoded-bytes (decode_of cs) (λ bytes e. (decode_of-ok cs bytes e).3)) tt)
    (plain-word (c ∷ cs) (list_all is_plain (c ∷ cs)) (plain-bytes (c ∷ cs)))

-- bytes of a word, of which there are few enough
abbrev pub FewIn : ℕ → ℕ → Option (List ℕ) → Type 0
FewIn least most None = Unit {0}
FewIn least most (Some bytes) = AreBytes bytes × ((least ≤ length bytes) × (length bytes ≤ most))

few-in : (least most : ℕ) (bytes : List ℕ) → AreBytes bytes → (b : Bool) → (b ≡ true → (least ≤ length bytes) × (length bytes ≤ most)) → FewIn least most (if b then Some bytes else None)
few-in least most bytes h true few = (h, few refl)
few-in least most bytes h false few = tt

word_within-few : (least most : ℕ) (o : Option (List ℕ)) → BytesIn o → FewIn least most (word_within least most o)
word_within-few least most None h = tt
word_within-few least most (Some bytes) h =
    few-in least most bytes h (nat_le least (length bytes) && nat_le (length bytes) most)
    (λ e. let p = and_parts _ _ e in (leb-true _ _ p.0, leb-true _ _ p.1))

-- ---- operations

abbrev pub FitsOp : Option Op → Type 0
FitsOp None = Unit {0}
FitsOp (Some o) = Fits o × AreBytesIn o

op-either : (b : Bool) (x y : Option Op) → FitsOp x → FitsOp y → FitsOp (if b then x else y)
op-either true x y h k = h
op-either false x y h k = k

get-fits : (k : Option (List ℕ)) → FewIn 1 255 k → FitsOp (option_map op.Get k)
get-fits None h = tt
get-fits (Some k) h = ((omega (arith, h.1.0), omega (arith, h.1.1)), h.0)

del-fits : (k : Option (List ℕ)) → FewIn 1 255 k → FitsOp (option_map op.Del k)
del-fits None h = tt
del-fits (Some k) h = ((omega (arith, h.1.0), omega (arith, h.1.1)), h.0)

list-fits : (p : Option (List ℕ)) → FewIn 0 255 p → FitsOp (option_map op.List p)
list-fits None h = tt
list-fits (Some p) h = (omega (arith, h.1.1), h.0)

put-fits : (k v : Option (List ℕ)) → FewIn 1 255 k → FewIn 0 64 v → FitsOp (put_of k v)
put-fits (Some k) (Some v) h l = (((omega (arith, h.1.0), omega (arith, h.1.1)), omega (arith, l.1.1)), (h.0, l.0))
put-fits (Some k) None h l = tt
put-fits None v h l = tt

pub op-fits : (words : List (List ℕ)) → FitsOp (op_of words)
op-fits [] = tt
op-fits (name ∷ []) = tt
op-fits (name ∷ a ∷ []) =
    let key = word_within-few 1 255 (word_bytes a) (word-bytes a) in
    let prefix = word_within-few 0 255 (word_bytes a) (word-bytes a) in
    let lists : Option Op = if bytes_eq name (codes "list") then option_map op.List (prefix_of a) else None in
    let dels : Option Op = if bytes_eq name (codes "del") then option_map op.Del (key_of a) else lists in
    op-either (bytes_eq name (codes "get")) (option_map op.Get (key_of a)) dels (get-fits (key_of a) key)
    (op-either (bytes_eq name (codes "del")) (option_map op.Del (key_of a)) lists (del-fits (key_of a) key)
    (op-either (bytes_eq name (codes "list")) (option_map op.List (prefix_of a)) None (list-fits (prefix_of a) prefix) tt))
op-fits (name ∷ a ∷ b ∷ []) =
    op-either (bytes_eq name (codes "put")) (put_of (key_of a) (value_of b)) None
    (put-fits (key_of a) (value_of b) (word_within-few 1 255 (word_bytes a) (word-bytes a)) (word_within-few 0 64 (word_bytes b) (word-bytes b))) tt
op-fits (name ∷ a ∷ b ∷ c ∷ others) = tt

-- ---- calls on objects

abbrev pub FitsObjectIn : Option ObjectCall → Type 0
FitsObjectIn None = Unit {0}
FitsObjectIn (Some c) = FitsObject c × AreBytesInObject c

object-either : (b : Bool) (x y : Option ObjectCall) → FitsObjectIn x → FitsObjectIn y → FitsObjectIn (if b then x else y)
object-either true x y h k = h
object-either false x y h k = k

zeros-few : (o : Option ℕ) → FewIn 0 8388608 (option_map (λ n. replicate n 0) (at_most 8388608 o))
zeros-few None = tt
zeros-few (Some n) = now (nat_le n 8388608) (leb-true n 8388608)
  where
    now : (b : Bool) → (b ≡ true → n ≤ 8388608) → FewIn 0 8388608 (option_map (λ n. replicate n 0) (if b then Some n else None))
    now true few = let upto = few refl in (AreBytes-replicate n 0 (omega arith), (omega arith, omega (arith, upto, length-replicate {A = ℕ} n 0)))
    now false few = tt

few-either-way : (least most : ℕ) (b : Bool) (x y : Option (List ℕ)) → FewIn least most x → FewIn least most y → FewIn least most (if b then x else y)
few-either-way least most true x y h k = h
few-either-way least most false x y h k = k

content-few : (word : List ℕ) → FewIn 0 8388608 (content_of word)
content-few word =
    few-either-way 0 8388608 (starts_with nat_eq word (codes "zeros:")) (zeros_of (drop 6 word)) (word_within 0 8388608 (word_bytes word)) (zeros-few (word_number (drop 6 word)))
    (word_within-few 0 8388608 (word_bytes word) (word-bytes word))

load-fits : (k : Option (List ℕ)) → FewIn 1 255 k → FitsObjectIn (option_map object.Load k)
load-fits None h = tt
load-fits (Some k) h = ((omega (arith, h.1.0), omega (arith, h.1.1)), h.0)

erase-fits : (k : Option (List ℕ)) → FewIn 1 255 k → FitsObjectIn (option_map object.Erase k)
erase-fits None h = tt
erase-fits (Some k) h = ((omega (arith, h.1.0), omega (arith, h.1.1)), h.0)

names-fits : (p : Option (List ℕ)) → FewIn 0 255 p → FitsObjectIn (option_map object.Names p)
names-fits None h = tt
names-fits (Some p) h = (h.1.1, h.0)

store-fits : (k c : Option (List ℕ)) → FewIn 1 255 k → FewIn 0 8388608 c → FitsObjectIn (store_of k c)
store-fits (Some k) (Some c) h l = (((omega (arith, h.1.0), omega (arith, h.1.1)), l.1.1), (h.0, l.0))
store-fits (Some k) None h l = tt
store-fits None c h l = tt

pub object-fits : (words : List (List ℕ)) → FitsObjectIn (object_of words)
object-fits [] = tt
object-fits (name ∷ []) = tt
object-fits (name ∷ a ∷ []) =
    let key = word_within-few 1 255 (word_bytes a) (word-bytes a) in
    let prefix = word_within-few 0 255 (word_bytes a) (word-bytes a) in
    let lists : Option ObjectCall = if bytes_eq name (codes "names") then option_map object.Names (prefix_of a) else None in
    let erases : Option ObjectCall = if bytes_eq name (codes "erase") then option_map object.Erase (key_of a) else lists in
    object-either (bytes_eq name (codes "load")) (option_map object.Load (key_of a)) erases (load-fits (key_of a) key)
    (object-either (bytes_eq name (codes "erase")) (option_map object.Erase (key_of a)) lists (erase-fits (key_of a) key)
    (object-either (bytes_eq name (codes "names")) (option_map object.Names (prefix_of a)) None (names-fits (prefix_of a) prefix) tt))
object-fits (name ∷ a ∷ b ∷ []) =
    object-either (bytes_eq name (codes "store")) (store_of (key_of a) (content_of b)) None
    (store-fits (key_of a) (content_of b) (word_within-few 1 255 (word_bytes a) (word-bytes a)) (content-few b)) tt
object-fits (name ∷ a ∷ b ∷ c ∷ others) = tt
