-- Dictionaries, and what an operation answers and leaves.
use Rattle.std.specs.Prelude.{◌≤◌, ◌≡◌, ℕ, ◌<◌, List, length, filter, Option, Some, None, nat_eq}
use Rattle.std.specs.Ordering.{nat_cmp}
use Rattle.std.specs.Cmp.Lexicographic.{slice_cmp}
use Rattle.std.specs.List.{starts_with}
use Rattle.std.specs.FinMap.{FinMap}
use Rattle.std.specs.FinMap as map
use Rattle.std.specs.Coded.{Coded, coded_list, coded_ℕ}
use Rattle.vic_dict.specs.declared.limits.TheConstants.{LONGEST_KEY, LONGEST_VALUE}
use Rattle.vic_dict.specs.Lists.{AreBytes}
use Rattle.vic_dict.specs.declared.op.Op.{Op}
use Rattle.vic_dict.specs.declared.op.Op.TheVariants as op
use Rattle.vic_dict.specs.declared.op.Answer.{Answer}
use Rattle.vic_dict.specs.declared.op.Answer.TheVariants as answer

-- a finite map from keys to values, both byte texts
abbrev pub Dictionary : Type 0
Dictionary = FinMap (slice_cmp nat_cmp) (List ℕ)

-- the dictionary without a key
abbrev pub nothing : Dictionary
nothing = map.empty

-- the length of a key
abbrev pub IsKey : List ℕ → Type 0
IsKey k = (0 < length k) × (length k ≤ LONGEST_KEY)

-- the lengths of an operation's texts are within the limits
abbrev pub Fits : Op → Type 0
Fits (op.Put k v) = IsKey k × (length v ≤ LONGEST_VALUE)
Fits (op.Get k) = IsKey k
Fits (op.Del k) = IsKey k
Fits (op.List p) = length p ≤ LONGEST_KEY

-- the numbers of an operation's texts are bytes
abbrev pub AreBytesIn : Op → Type 0
AreBytesIn (op.Put k v) = AreBytes k × AreBytes v
AreBytesIn (op.Get k) = AreBytes k
AreBytesIn (op.Del k) = AreBytes k
AreBytesIn (op.List p) = AreBytes p

-- each key is 1 to 255 bytes
abbrev pub HasByteKeys : Dictionary → Type 0
HasByteKeys d = (k v : List ℕ) → map.get d k ≡ Some v → IsKey k × AreBytes k

-- each key is 1 to 255 bytes, and each value at most 64
abbrev pub IsProper : Dictionary → Type 0
IsProper d = (k v : List ℕ) → map.get d k ≡ Some v → (IsKey k × AreBytes k) × ((length v ≤ LONGEST_VALUE) × AreBytes v)

-- what a look-up answers, and what a removal does
abbrev pub answer_of_get : Option (List ℕ) → Answer
answer_of_get None = answer.NotFound
answer_of_get (Some v) = answer.Found v

abbrev pub answer_of_del : Option (List ℕ) → Answer
answer_of_del None = answer.Absent
answer_of_del (Some v) = answer.Removed

-- what an operation answers
abbrev pub reply : Dictionary → Op → Answer
reply d (op.Put k v) = answer.Stored
reply d (op.Get k) = answer_of_get (map.get d k)
reply d (op.Del k) = answer_of_del (map.get d k)
reply d (op.List p) = answer.Names (filter (λ k. starts_with nat_eq k p) (map.keys d))

-- the dictionary that it leaves
abbrev pub after : Dictionary → Op → Dictionary
after d (op.Put k v) = map.insert d k v
after d (op.Get k) = d
after d (op.Del k) = map.remove d k
after d (op.List p) = d

-- byte texts as data
abbrev pub bytes_code : Coded (List ℕ)
bytes_code = coded_list coded_ℕ
