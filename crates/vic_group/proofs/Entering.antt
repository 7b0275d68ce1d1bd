-- Clients that come in one after the other.
use Rattle.std.proofs.Common.{◌≡◌, ℕ, zero, suc, ◌+◌, true, List, [], ◌∷◌, ◌++◌, length, map, replicate, reverse, Option, Some, None, is_some, Result, Ok, Err, codes, refl, sym, ap, subst, ◌∙◌, arith}
use Rattle.std.specs.List.{AllByRecursion}
use Rattle.std.proofs.lemmas.List.{replicate_more, length-append}
use Rattle.std.specs.Prelude.{MatchOption}
use Rattle.std.specs.Str.{chars}
use Rattle.std.specs.Result.{result_ok}
use Rattle.hex.specs.declared.error.FromHexError.{FromHexError}
use Rattle.hex.specs.Hex.{decode_of}
use Rattle.hex.proofs.OnLiterals.{hex_on_literals}
use Rattle.vic_tag.specs.declared.key.KeyFault.{KeyFault}
use Rattle.vic_tag.specs.Keys.{fault_in}
use Rattle.vic_wire.specs.Hashes.{Group, IsGroup}
use Rattle.vic_rules.specs.declared.trace.TraceStep.{TraceStep}
use Rattle.vic_view.specs.declared.transcript.Transcript.{Transcript}
use Rattle.vic_view.specs.Transcripts.{transcript_steps, transcript_group}
use Rattle.vic_order.specs.Scenes.{server_at, opening_with}
use Rattle.vic_group.specs.declared.member.Member.{Member}
use Rattle.vic_group.specs.Members.{AllStand}
use Rattle.vic_group.specs.World.{MemberStands, ShowsParts}

-- one more client behind those that stand
pub stand_push : {M : Type 0} (P : M → ℕ → Type 0) (i : ℕ) (ms : List M) (m : M) → AllStand P i ms → P m (i + length ms) → AllStand P i (ms ++ m ∷ [])
stand_push P i [] m all now =
    let same : i + zero ≡ i = omega arith in
    (subst (λ (j : ℕ). P m j) same now, tt)
stand_push P i (n ∷ ms) m all now =
    let same : i + suc (length ms) ≡ suc i + length ms = omega arith in
    (all.0, stand_push P (suc i) ms m all.1 (subst (λ (j : ℕ). P m j) same now))

-- one more that maps to the value that all others map to
pub replicate_push : {M X : Type 0} (f : M → X) (x : X) (n : ℕ) (ms : List M) (m : M) → map f ms ≡ replicate n x → f m ≡ x → map f (ms ++ m ∷ []) ≡ replicate (n + 1) x
replicate_push {M = M} f x n ms m are is = mapped ms ∙ ap (λ xs. xs ++ f m ∷ []) are ∙ ap (λ y. replicate n x ++ y ∷ []) is ∙ replicate_more n x
  where
    mapped : (ms : List M) → map f (ms ++ m ∷ []) ≡ map f ms ++ f m ∷ []
    mapped [] = refl
    mapped (k ∷ ms) = ap (λ xs. f k ∷ xs) (mapped ms)

-- what 64 zeros spell
abbrev pub zeros : List ℕ
zeros = codes "0000000000000000000000000000000000000000000000000000000000000000"

pub zeros_decode : decode_of zeros ≡ Ok (replicate 32 0)
unfolding hex_on_literals
zeros_decode = refl

pub zeros_fault : fault_in (chars zeros) ≡ None
unfolding chars
zeros_fault = refl

-- the key that they spell
pub zeros_spell : (key : List ℕ) → MatchOption (fault_in (chars zeros)) (decode_of zeros ≡ Ok key) (λ e. ◌≡◌ {A = Result (List ℕ) KeyFault} (Ok key) (Err e)) → key ≡ replicate 32 0
zeros_spell key are =
    let found : decode_of zeros ≡ Ok key = subst (λ (o : Option KeyFault). MatchOption o (decode_of zeros ≡ Ok key) (λ e. ◌≡◌ {A = Result (List ℕ) KeyFault} (Ok key) (Err e))) zeros_fault are in
    let same : ◌≡◌ {A = Result (List ℕ) FromHexError} (Ok key) (Ok (replicate 32 0)) = sym found ∙ zeros_decode in
    cc

-- a text that gave a key has no fault
pub no_fault : (o : Option KeyFault) (d : Result (List ℕ) FromHexError) (key : List ℕ) → MatchOption o (d ≡ Ok key) (λ e. ◌≡◌ {A = Result (List ℕ) KeyFault} (Ok key) (Err e)) → d ≡ Ok key
no_fault None d key h = h
no_fault (Some e) d key h = absurd cc

-- the key that digits spell
pub digits_spell : (digits text key : List ℕ) → text ≡ digits → decode_of text ≡ Ok key → result_ok (decode_of digits) ≡ Some key
digits_spell digits text key same h = ap (λ (ds : List ℕ). result_ok (decode_of ds)) (sym same) ∙ ap (λ (d : Result (List ℕ) FromHexError). result_ok d) h

-- so many clients of a group have come in, and server 1 serves them
pub record HaveEntered (g : Group) (n : ℕ) (ms : List Member) : Type 0 where
  pub count : length ms ≡ n
  pub up : map (λ m. m.up) ms ≡ replicate n []
  pub down : map (λ m. m.down) ms ≡ replicate n []
  pub server : map (λ m. m.server) ms ≡ replicate n 1
  pub clients : AllStand (MemberStands g []) 1 ms

pub none_entered : (g : Group) → HaveEntered g 0 []
none_entered g = record { count = refl; up = refl; down = refl; server = refl; clients = tt }

-- one more comes in
pub enters : (g : Group) (n : ℕ) (ms new : List Member) (m : Member) → HaveEntered g n ms → new ≡ ms ++ m ∷ [] → m.up ≡ [] → m.down ≡ [] → m.server ≡ 1 → MemberStands g [] m (n + 1)
    → HaveEntered g (n + 1) new
enters g n ms new m have is up down server stands =
    let place : n + 1 ≡ 1 + length ms = omega (arith, have.count) in
    let at : MemberStands g [] m (1 + length ms) = subst (λ (j : ℕ). MemberStands g [] m j) place stands in
    subst (λ (xs : List Member). HaveEntered g (n + 1) xs) (sym is) (record {
      count = length-append ms (m ∷ []) ∙ ap (λ (k : ℕ). k + 1) have.count;
      up = replicate_push (λ m. m.up) [] n ms m have.up up;
      down = replicate_push (λ m. m.down) [] n ms m have.down down;
      server = replicate_push (λ m. m.server) 1 n ms m have.server server;
      clients = stand_push (MemberStands g []) 1 ms m have.clients at;
    })

-- all of them are served by server 1, which exists
pub all_placed : {V : Type 0} (vs : List (Option V)) (ms : List Member) (n : ℕ) → map (λ m. m.server) ms ≡ replicate n 1 → is_some (server_at vs 1) ≡ true → AllByRecursion (λ m. is_some (server_at vs m.server) ≡ true) ms
all_placed vs [] n are there = tt
all_placed vs (m ∷ ms) zero are there = absurd cc
all_placed vs (m ∷ ms) (suc n) are there =
    let here : m.server ≡ 1 = cc in
    let others : map (λ m. m.server) ms ≡ replicate n 1 = cc in
    (ap (λ (k : ℕ). is_some (server_at vs k)) here ∙ there, all_placed vs ms n others there)

-- so a world opens
pub shows_opening : {V : Type 0} (t : Transcript) (ms : List Member) (vs : List (Option V)) (g : Group) (v : V) → transcript_group t ≡ g → transcript_steps t ≡ [] → vs ≡ Some v ∷ None ∷ None ∷ None ∷ [] → IsGroup g → HaveEntered g g.count ms
    → ShowsParts t ms vs (opening_with g v)
shows_opening t ms vs g v group none servers is have = record {
  count = have.count;
  few = is.count.1;
  group = group;
  history = ap (λ (xs : List TraceStep). reverse xs) none;
  up = have.up;
  down = have.down;
  served_by = have.server;
  servers = servers;
  placed = all_placed vs ms g.count have.server (ap (λ us. is_some (server_at us 1)) servers);
  clients = have.clients;
  lawful = record { group = is; steps = tt };
}
