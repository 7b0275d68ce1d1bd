-- A script has few lines, byte words spell bytes, and the lines that texts spell fit.
use Rattle.std.proofs.Common.{◌≡◌, ℕ, ◌<◌, ◌≤◌, Bool, true, false, ◌&&◌, List, [], ◌∷◌, Option, Some, None, refl, sym, subst, ◌∙◌}
use Rattle.std.specs.Prelude.{if◌then◌else◌, nat_lt, nat_le, option_map, is_some, codes}
use Rattle.std.specs.Str.{bytes_eq}
use Rattle.std.proofs.lemmas.Bool.{and_parts, ltb-true, leb-true}
use Rattle.vic_dict.specs.declared.op.Op.{Op}
use Rattle.vic_dict.specs.declared.op.Mode.{Mode}
use Rattle.vic_dict.specs.declared.op.Mode.TheVariants as mode
use Rattle.vic_rules.specs.declared.object.ObjectCall.{ObjectCall}
use Rattle.vic_script.specs.declared.line.Line.{Line}
use Rattle.vic_script.specs.declared.line.Line.TheVariants as line
use Rattle.vic_script.specs.Words.{word_bytes, word_number, word_capped}
use Rattle.vic_script.specs.Lines.{words_of, op_of, call_of, group_line, object_of, object_call_of, named_line, give_of, pair_of, is_server_number, copy_of, paired_line, header_of, is_key_digits, key_line, kind_named, hostile_line, next_header_of, called_line, event_of, or_line, line_in, is_skipped, line_of}
use Rattle.vic_script.specs.Run.{is_honest}
use Rattle.vic_script.proofs.Lines.{BytesIn, word-bytes, FitsOp, op-fits, FitsObjectIn, object-fits}
use Rattle.vic_runs.specs.Claims.{FitsLine}

-- ---- lines

-- the line, if there is one, fits
abbrev pub FitsIn : Option Line → Type 0
FitsIn None = Unit {0}
FitsIn (Some l) = FitsLine l

line-either : (b : Bool) (x y : Option Line) → FitsIn x → FitsIn y → FitsIn (if b then x else y)
line-either true x y h k = h
line-either false x y h k = k

line-mapped : (f : ℕ → Line) (o : Option ℕ) → ((n : ℕ) → FitsLine (f n)) → FitsIn (option_map f o)
line-mapped f None h = tt
line-mapped f (Some n) h = h n

named_line-fits : (name a : List ℕ) → FitsIn (named_line name a)
named_line-fits name a =
    let client : Option ℕ = word_capped a in
    let resends : Option Line = if bytes_eq name (codes "resend") then option_map line.Resend client else None in
    let agains : Option Line = if bytes_eq name (codes "again") then option_map line.Again client else resends in
    let runs : Option Line = if bytes_eq name (codes "run") then option_map line.Run client else agains in
    let takes : Option Line = if bytes_eq name (codes "take") then option_map line.Take client else runs in
    let serves : Option Line = if bytes_eq name (codes "serve") then option_map line.Serve client else takes in
    let syncs : Option Line = if bytes_eq name (codes "sync") then option_map line.Sync client else serves in
    line-either (bytes_eq name (codes "poll")) (option_map line.Poll client) syncs (line-mapped line.Poll client (λ n. tt))
    (line-either (bytes_eq name (codes "sync")) (option_map line.Sync client) serves (line-mapped line.Sync client (λ n. tt))
    (line-either (bytes_eq name (codes "serve")) (option_map line.Serve client) takes (line-mapped line.Serve client (λ n. tt))
    (line-either (bytes_eq name (codes "take")) (option_map line.Take client) runs (line-mapped line.Take client (λ n. tt))
    (line-either (bytes_eq name (codes "run")) (option_map line.Run client) agains (line-mapped line.Run client (λ n. tt))
    (line-either (bytes_eq name (codes "again")) (option_map line.Again client) resends (line-mapped line.Again client (λ n. tt))
    (line-either (bytes_eq name (codes "resend")) (option_map line.Resend client) None (line-mapped line.Resend client (λ n. tt)) tt))))))

give-fits : (i : Option ℕ) (payload : Option (List ℕ)) → BytesIn payload → FitsIn (give_of i payload)
give-fits (Some i) (Some payload) h = h
give-fits (Some i) None h = tt
give-fits None payload h = tt

pair-fits : (make : ℕ → ℕ → Line) → ((i n : ℕ) → FitsLine (make i n)) → (i n : Option ℕ) → FitsIn (pair_of make i n)
pair-fits make each (Some i) (Some n) = each i n
pair-fits make each (Some i) None = tt
pair-fits make each None n = tt

copy-fits : (n t : Option ℕ) → FitsIn (copy_of n t)
copy-fits (Some n) (Some t) = line-either (is_server_number t) (Some (line.Copy n t)) None tt tt
copy-fits (Some n) None = tt
copy-fits None t = tt

paired_line-fits : (name a b : List ℕ) → FitsIn (paired_line name a b)
paired_line-fits name a b =
    let moves : Option Line = if bytes_eq name (codes "move") then pair_of line.Move (word_capped a) (word_capped b) else None in
    let copies : Option Line = if bytes_eq name (codes "copy") then copy_of (word_capped a) (word_number b) else moves in
    let flips : Option Line = if bytes_eq name (codes "flip") then pair_of line.Flip (word_capped a) (word_capped b) else copies in
    line-either (bytes_eq name (codes "give")) (give_of (word_capped a) (word_bytes b)) flips (give-fits (word_capped a) (word_bytes b) (word-bytes b))
    (line-either (bytes_eq name (codes "flip")) (pair_of line.Flip (word_capped a) (word_capped b)) copies (pair-fits line.Flip (λ i n. tt) (word_capped a) (word_capped b))
    (line-either (bytes_eq name (codes "copy")) (copy_of (word_capped a) (word_number b)) moves (copy-fits (word_capped a) (word_number b))
    (line-either (bytes_eq name (codes "move")) (pair_of line.Move (word_capped a) (word_capped b)) None (pair-fits line.Move (λ i n. tt) (word_capped a) (word_capped b)) tt)))

call-fits : (i : Option ℕ) (o : Option Op) → FitsOp o → FitsIn (call_of i o)
call-fits (Some i) (Some o) h = h
call-fits (Some i) None h = tt
call-fits None o h = tt

-- ---- calls on objects

object_call-fits : (i : Option ℕ) (c : Option ObjectCall) → FitsObjectIn c → FitsIn (object_call_of i c)
object_call-fits (Some i) (Some c) h = h
object_call-fits (Some i) None h = tt
object_call-fits None c h = tt

-- ---- headers

group-in : (make : ℕ → Line) (n : ℕ) (b : Bool) → (b ≡ true → FitsLine (make n)) → FitsIn (if b then Some (make n) else None)
group-in make n true h = h refl
group-in make n false h = tt

-- a header's first line has 1 to 64 clients
group-fits : (make : ℕ → Line) → ((n : ℕ) → 0 < n → n ≤ 64 → FitsLine (make n)) → (o : Option ℕ) → FitsIn (group_line make o)
group-fits make each None = tt
group-fits make each (Some n) = group-in make n (nat_lt 0 n && nat_le n 64) (λ e. let p = and_parts _ _ e in each n (ltb-true _ _ p.0) (leb-true _ _ p.1))

header-fits : (words : List (List ℕ)) → FitsIn (header_of words)
header-fits [] = tt
header-fits (name ∷ []) = tt
header-fits (name ∷ a ∷ []) =
    let objects : Option Line = if bytes_eq name (codes "objects") then group_line line.Objects (word_number a) else None in
    line-either (bytes_eq name (codes "clients")) (group_line line.Clients (word_number a)) objects (group-fits line.Clients (λ n above upto. (above, upto)) (word_number a))
    (line-either (bytes_eq name (codes "objects")) (group_line line.Objects (word_number a)) None (group-fits line.Objects (λ n above upto. (above, upto)) (word_number a)) tt)
header-fits (name ∷ a ∷ b ∷ others) = tt

key-in : (word : List ℕ) (b : Bool) → (b ≡ true → FitsLine (line.Key word)) → FitsIn (if b then Some (line.Key word) else None)
key-in word true h = h refl
key-in word false h = tt

key-fits : (word : List ℕ) → FitsIn (key_line word)
key-fits word = key-in word (is_key_digits word) (λ e. e)

hostile-in : (name : List ℕ) (n : ℕ) (b : Bool) → (b ≡ true → FitsLine (line.Hostile name n)) → FitsIn (if b then Some (line.Hostile name n) else None)
hostile-in name n true h = h refl
hostile-in name n false h = tt

-- a server misbehaves in a way that has a name, and not too late
hostile-fits : (name : List ℕ) (o : Option ℕ) → FitsIn (hostile_line name o)
hostile-fits name None = tt
hostile-fits name (Some n) = hostile-in name n (is_some (kind_named name) && nat_le n 1000000) (λ e. let p = and_parts _ _ e in (p.0, leb-true _ _ p.1))

next_header-fits : (words : List (List ℕ)) → FitsIn (next_header_of words)
next_header-fits [] = tt
next_header-fits (name ∷ []) = tt
next_header-fits (name ∷ a ∷ []) = line-either (bytes_eq name (codes "key")) (key_line a) None (key-fits a) tt
next_header-fits (name ∷ a ∷ b ∷ []) = line-either (bytes_eq name (codes "hostile")) (hostile_line a (word_number b)) None (hostile-fits a (word_number b)) tt
next_header-fits (name ∷ a ∷ b ∷ c ∷ others) = tt

called_line-fits : (kind : Mode) (name a : List ℕ) (others : List (List ℕ)) → FitsIn (called_line kind name a others)
called_line-fits mode.Plain name a others = line-either (bytes_eq name (codes "call")) (call_of (word_capped a) (op_of others)) None (call-fits (word_capped a) (op_of others) (op-fits others)) tt
called_line-fits mode.Objects name a others =
    line-either (bytes_eq name (codes "call")) (object_call_of (word_capped a) (object_of others)) None (object_call-fits (word_capped a) (object_of others) (object-fits others)) tt

event-fits : (kind : Mode) (words : List (List ℕ)) → FitsIn (event_of kind words)
event-fits kind [] = tt
event-fits kind (name ∷ []) = tt
event-fits kind (name ∷ a ∷ []) = named_line-fits name a
event-fits kind (name ∷ a ∷ b ∷ []) = paired_line-fits name a b
event-fits kind (name ∷ a ∷ b ∷ c ∷ others) = called_line-fits kind name a (b ∷ c ∷ others)

or-fits : (x y : Option Line) → FitsIn x → FitsIn y → FitsIn (or_line x y)
or-fits (Some l) y h k = h
or-fits None y h k = k

words-fit : (kind : Option Mode) (words : List (List ℕ)) → FitsIn (line_in kind words)
words-fit None words = header-fits words
words-fit (Some kind) words =
    or-fits (header_of words) (or_line (next_header_of words) (event_of kind words)) (header-fits words)
    (or-fits (next_header_of words) (event_of kind words) (next_header-fits words) (event-fits kind words))

-- what a text spells fits
pub text_fits : (kind : Option Mode) (text : List ℕ) → FitsIn (line_of kind text)
unfolding line_of
text_fits kind text = line-either (is_skipped text) (Some line.Skip) (line_in kind (words_of text)) tt (words-fit kind (words_of text))

pub line_fits : (kind : Option Mode) (text : List ℕ) (l : Line) → line_of kind text ≡ Some l → FitsLine l
line_fits kind text l e = subst FitsIn e (text_fits kind text)

-- ---- whether a line is honest is the same in each mode

honest-either : (b : Bool) (x y : Option Line) → is_honest x ≡ true → is_honest y ≡ true → is_honest (if b then x else y) ≡ true
honest-either true x y h k = h
honest-either false x y h k = k

call-honest : (i : Option ℕ) (o : Option Op) → is_honest (call_of i o) ≡ true
call-honest (Some i) (Some o) = refl
call-honest (Some i) None = refl
call-honest None o = refl

object_call-honest : (i : Option ℕ) (c : Option ObjectCall) → is_honest (object_call_of i c) ≡ true
object_call-honest (Some i) (Some c) = refl
object_call-honest (Some i) None = refl
object_call-honest None c = refl

called_line-honest : (kind : Mode) (name a : List ℕ) (others : List (List ℕ)) → is_honest (called_line kind name a others) ≡ true
called_line-honest mode.Plain name a others = honest-either (bytes_eq name (codes "call")) (call_of (word_capped a) (op_of others)) None (call-honest (word_capped a) (op_of others)) refl
called_line-honest mode.Objects name a others = honest-either (bytes_eq name (codes "call")) (object_call_of (word_capped a) (object_of others)) None (object_call-honest (word_capped a) (object_of others)) refl

event-alike : (kind : Mode) (words : List (List ℕ)) → is_honest (event_of kind words) ≡ is_honest (event_of mode.Plain words)
event-alike kind [] = refl
event-alike kind (name ∷ []) = refl
event-alike kind (name ∷ a ∷ []) = refl
event-alike kind (name ∷ a ∷ b ∷ []) = refl
event-alike kind (name ∷ a ∷ b ∷ c ∷ others) = called_line-honest kind name a (b ∷ c ∷ others) ∙ sym (called_line-honest mode.Plain name a (b ∷ c ∷ others))

or-alike : (x y z : Option Line) → is_honest y ≡ is_honest z → is_honest (or_line x y) ≡ is_honest (or_line x z)
or-alike (Some l) y z e = refl
or-alike None y z e = e

either-alike : (b : Bool) (x y z : Option Line) → is_honest y ≡ is_honest z → is_honest (if b then x else y) ≡ is_honest (if b then x else z)
either-alike true x y z e = refl
either-alike false x y z e = e

pub in_each_mode : (kind : Mode) (text : List ℕ) → is_honest (line_of (Some kind) text) ≡ is_honest (line_of (Some mode.Plain) text)
unfolding line_of
in_each_mode kind text =
    let words : List (List ℕ) = words_of text in
    either-alike (is_skipped text) (Some line.Skip) (line_in (Some kind) words) (line_in (Some mode.Plain) words)
    (or-alike (header_of words) (or_line (next_header_of words) (event_of kind words)) (or_line (next_header_of words) (event_of mode.Plain words))
    (or-alike (next_header_of words) (event_of kind words) (event_of mode.Plain words) (event-alike kind words)))
