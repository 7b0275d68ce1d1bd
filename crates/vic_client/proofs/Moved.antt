-- The moves of answers, from what is known of them; and that a client stays sound.
use Rattle.std.proofs.Common.{◌≡◌, ℕ, ◌≤◌, ◌<◌, List, [], ◌∷◌, ◌++◌, length, drop, Option, Some, None, refl, ap, subst, ◌∙◌, arith}
use Rattle.vic_dict.specs.declared.op.Op.{Op}
use Rattle.vic_dict.specs.declared.op.Entry.{Entry}
use Rattle.vic_wire.specs.declared.message.Seal.{Seal}
use Rattle.vic_wire.specs.declared.message.Tagged.{Tagged}
use Rattle.vic_wire.specs.Parts.{Part}
use Rattle.vic_rules.specs.declared.state.Own.{Own}
use Rattle.vic_rules.specs.declared.trace.Input.TheVariants as input
use Rattle.vic_rules.specs.declared.state.Awaiting.{Awaiting}
use Rattle.vic_rules.specs.declared.state.Awaiting.TheVariants as awaits
use Rattle.vic_rules.specs.Client.{Standing, move_to_halt, path_with_entries, move_on_reply, move_on_outcome, is_done, decision, verdict, verdict_on, move_on_verdict, move_on_answer, step, move_on_payload}
use Rattle.vic_client.specs.Sound.{OwnWithin}
use Rattle.vic_wire.specs.declared.message.ToClient.{ToClient}
use Rattle.vic_wire.specs.declared.message.ToClient.TheVariants as say
use Rattle.vic_wire.specs.Hashes.{Group}
use Rattle.vic_wire.specs.Reading.{read_answer}
use Rattle.vic_client.specs.Hearing.{op_in, heard_move, reply_move}

-- an answer without a part halts, though none passes the checks
pub replied_bare : (me : ℕ) (s : Standing) (seal : Seal) (p : List Entry) (a : Awaiting) → move_on_reply me s seal p None a ≡ move_to_halt s 1
replied_bare me s seal [] a = refl
replied_bare me s seal (e ∷ p) a = refl

-- so does one to a call that isn't awaited
pub replied_unasked : (me : ℕ) (s : Standing) (seal : Seal) (p : List Entry) (part : Option Part) (a : Awaiting) → op_in a ≡ None → move_on_reply me s seal p part a ≡ move_to_halt s 1
replied_unasked me s seal [] part a h = refl
replied_unasked me s seal (e ∷ p) None a h = refl
replied_unasked me s seal (e ∷ p) (Some part) (awaits.Reply n o load) h = absurd cc
replied_unasked me s seal (e ∷ p) (Some part) awaits.Nothing h = refl
replied_unasked me s seal (e ∷ p) (Some part) awaits.Turn h = refl
replied_unasked me s seal (e ∷ p) (Some part) awaits.Entries h = refl
replied_unasked me s seal (e ∷ p) (Some part) awaits.Kept h = refl
replied_unasked me s seal (e ∷ p) (Some part) (awaits.Content d n) h = refl

abbrev RepliesTo : ℕ → Standing → Seal → Part → List Entry → Awaiting → Op → Type 0
RepliesTo me s seal part p a o =
    let ends = decision me s (drop 1 p) seal.position part o in
    move_on_reply me s seal p (Some part) a
    ≡ move_on_outcome s p seal.position seal.root.bytes (s.own ++ record { position = length p; op = o; done = is_done ends } ∷ []) ends

replied_on : (me : ℕ) (s : Standing) (seal : Seal) (part : Part) (p : List Entry) → 0 < length p → (a : Awaiting) (o : Op) → op_in a ≡ Some o → RepliesTo me s seal part p a o
replied_on me s seal part [] some a o asked = absurd (omega arith)
replied_on me s seal part (e ∷ p) some (awaits.Reply n q load) o asked =
    let same : q ≡ o = cc in subst (λ (x : Op). RepliesTo me s seal part (e ∷ p) (awaits.Reply n q load) x) same refl
replied_on me s seal part (e ∷ p) some awaits.Nothing o asked = absurd cc
replied_on me s seal part (e ∷ p) some awaits.Turn o asked = absurd cc
replied_on me s seal part (e ∷ p) some awaits.Entries o asked = absurd cc
replied_on me s seal part (e ∷ p) some awaits.Kept o asked = absurd cc
replied_on me s seal part (e ∷ p) some (awaits.Content d n) o asked = absurd cc

-- the Reply to the awaited call
pub replied_is : (me : ℕ) (s : Standing) (seal : Seal) (ts : List Tagged) (part : Part) (a : Awaiting) (o : Op) → 0 < length (path_with_entries s ts) → op_in a ≡ Some o
    → move_on_reply me s seal (path_with_entries s ts) (Some part) a ≡ reply_move me s seal ts part o
replied_is me s seal ts part a o some asked = replied_on me s seal part (path_with_entries s ts) some a o asked

-- the move at a payload, from what it spells and the verdict on that
pub heard_is : (g : Group) (me : ℕ) (s : Standing) (payload : List ℕ) (m : Option ToClient) (v : Option ℕ) → read_answer payload ≡ m → verdict_on g me s m ≡ v
    → heard_move g me s payload ≡ move_on_verdict me s m v
unfolding verdict
heard_is g me s payload m v read judged =
    ap (λ (x : Option ToClient). move_on_verdict me s x (verdict_on g me s x)) read ∙ ap (λ (x : Option ℕ). move_on_verdict me s m x) judged

-- a halted client returns the same number again, and another takes what the payload spells
pub payload_halted : (g : Group) (me : ℕ) (s : Standing) (payload : List ℕ) (k : ℕ) → s.halted ≡ Some k → step g me s (input.Payload payload) ≡ move_to_halt s k
unfolding step
payload_halted g me s payload k is = ap (λ (h : Option ℕ). move_on_payload g me s h payload) is

pub payload_heard : (g : Group) (me : ℕ) (s : Standing) (payload : List ℕ) → s.halted ≡ None → step g me s (input.Payload payload) ≡ heard_move g me s payload
unfolding step
payload_heard g me s payload is = ap (λ (h : Option ℕ). move_on_payload g me s h payload) is

-- own calls that stand on a path stand on a longer one, and so does one that joins them
pub own_grows : (n m : ℕ) (own : List Own) → n ≤ m → OwnWithin n own → OwnWithin m own
own_grows n m [] h w = tt
own_grows n m (o ∷ own) h w = (omega (arith, w.0), own_grows n m own h w.1)

pub own_joins : (m : ℕ) (own : List Own) (o : Own) → OwnWithin m own → o.position ≤ m → OwnWithin m (own ++ o ∷ [])
own_joins m [] o w h = (h, tt)
own_joins m (p ∷ own) o w h = (w.0, own_joins m own o w.1 h)

-- an answer of no other kind makes a client halt, though none passes the checks
pub taken_other : (me : ℕ) (s : Standing) (m : ToClient) → ((seal : Seal) (entries : List Tagged) (part : List ℕ) → m ≡ say.Reply seal entries part → ⊥) → (m ≡ say.Wait → ⊥)
    → ((seal : Seal) (part : List ℕ) → m ≡ say.Update seal part → ⊥) → ((seal : Seal) (entries : List Tagged) → m ≡ say.Entries seal entries → ⊥)
    → ((r : ℕ) → m ≡ say.Refused r → ⊥) → (m ≡ say.Kept → ⊥) → ((content : List ℕ) → m ≡ say.Content content → ⊥) → move_on_answer me s m ≡ move_to_halt s 1
taken_other me s say.Hi reply wait update entries refused kept content = refl
taken_other me s (say.Reply seal told part) reply wait update entries refused kept content = absurd (reply seal told part refl)
taken_other me s say.Wait reply wait update entries refused kept content = absurd (wait refl)
taken_other me s (say.Update seal part) reply wait update entries refused kept content = absurd (update seal part refl)
taken_other me s (say.Entries seal told) reply wait update entries refused kept content = absurd (entries seal told refl)
taken_other me s (say.Refused r) reply wait update entries refused kept content = absurd (refused r refl)
taken_other me s say.Kept reply wait update entries refused kept content = absurd (kept refl)
taken_other me s (say.Content c) reply wait update entries refused kept content = absurd (content c refl)
taken_other me s say.Gone reply wait update entries refused kept content = refl
taken_other me s say.Absent reply wait update entries refused kept content = refl
