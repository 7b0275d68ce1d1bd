-- The steps of a pass, as places in the history that the server keeps at the end.
use Rattle.std.proofs.Common.{◌≡◌, ℕ, ◌+◌, ◌<◌, ◌≤◌, List, [], ◌∷◌, ◌++◌, length, take, drop, Option, Some, None, refl, sym, ap, subst, ◌∙◌, arith, append_assoc}
use Rattle.std.proofs.lemmas.List.{length-append}
use Rattle.std.proofs.Math.Seq.{take-append_seam, drop-append_seam}
use mathlib.Core.List.{IsPrefix}
use Rattle.vic_wire.specs.declared.message.ToClient.{ToClient}
use Rattle.vic_change.specs.declared.Change.{Change}
use Rattle.vic_change.specs.Changes.{change_added}
use Rattle.vic_order.specs.Order.{Server, Answered, serve}
use Rattle.vic_server.specs.Replay.{KeptServer, kept_with, replay, changes_made}
use Rattle.vic_turn.specs.Passes.{PassView}
use Rattle.vic_gate.specs.Workers.{Handled, Chain, by_hello, greeted_after}
use Rattle.vic_hall.specs.Recording.{answer_after, recorded_after}
use Rattle.vic_turn.proofs.Histories.{prefix_self, prefix_trans}
use Rattle.vic_hall.specs.Steps.{HallStep}
use Rattle.vic_hall.specs.Runs.{Place, place, AnsweredAt, answers_at, served_at}
use Rattle.vic_hall.proofs.Recorded.{recorded_is_made}

-- an answer after a front h of the history, whose change stands next
pub answered : (o server : Server) (seat who : ℕ) (payload : List ℕ) (h r : List Change) (from : Place) → from.at ≤ length h
    → AnsweredAt (kept_with o (h ++ (changes_made seat who payload (serve (replay o h) who payload) ++ r)) server) seat from who payload (serve (replay o h) who payload).answer
    (place (length h + length (changes_made seat who payload (serve (replay o h) who payload))) (from.mine ++ changes_made seat who payload (serve (replay o h) who payload)))
answered o server seat who payload h r from later =
    let a = serve (replay o h) who payload in
    let m = changes_made seat who payload a in
    let k = kept_with o (h ++ (m ++ r)) server in
    let there : served_at k (length h) who payload ≡ a = ap (λ (l : List Change). serve (replay o l) who payload) (take-append_seam h (m ++ r)) in
    let next : take (length m) (drop (length h) (h ++ (m ++ r))) ≡ m = ap (take (length m)) (drop-append_seam h (m ++ r)) ∙ take-append_seam m r in
    record {
      at = length h;
      later = later;
      within = omega (arith, length-append h (m ++ r));
      answer_is = ap (λ (x : Answered). x.answer) (sym there);
      next = subst (λ (x : Answered). take (length (changes_made seat who payload x)) (drop (length h) (h ++ (m ++ r))) ≡ changes_made seat who payload x) (sym there) next;
      to_is = subst (λ (x : Answered). place (length h + length m) (from.mine ++ m) ≡ place (length h + length (changes_made seat who payload x)) (from.mine ++ changes_made seat who payload x)) (sym there) refl;
    }

abbrev pub place_of : PassView KeptServer → Place
place_of p = place (length p.seen) (p.mine)

length-prefix : (xs ys : List Change) → IsPrefix xs ys → length xs ≤ length ys
length-prefix xs ys p = omega (arith, ap length (sym p.1), length-append xs p.0)

-- a step forgets nothing
pub step_seen : (fixed : KeptServer) (p q : PassView KeptServer) (who : ℕ) (payload : List ℕ) (a : Option ToClient) → HallStep fixed p who payload a q → IsPrefix p.seen q.seen
step_seen fixed p q who payload (Some y) s = prefix_trans p.seen s.0.0 q.seen s.0.1 (change_added p.number (recorded_after fixed.opening s.0.0 who payload), sym s.0.3)
step_seen fixed p q who payload None s = s.0.0

-- a step, in the history at the end
pub step_at : (k fixed : KeptServer) (seat : ℕ) (p q : PassView KeptServer) (who : ℕ) (payload : List ℕ) (a : Option ToClient) → fixed.opening ≡ k.opening → p.number ≡ seat
    → HallStep fixed p who payload a q → IsPrefix q.seen k.changes → answers_at k seat (place_of p) who payload a (place_of q)
step_at k fixed seat p q who payload None o n s e = (length-prefix p.seen q.seen s.0.0, s.0.1)
step_at k fixed seat p q who payload (Some y) o n s e =
    let h = s.0.0 in
    let a = serve (replay fixed.opening h) who payload in
    let m = changes_made seat who payload a in
    let is_m : change_added p.number (recorded_after fixed.opening h who payload) ≡ m = ap (λ (i : ℕ). change_added i (recorded_after fixed.opening h who payload)) n ∙ sym (recorded_is_made a.change seat who payload) in
    let seen : q.seen ≡ h ++ m = s.0.3 ∙ ap (λ (d : List Change). h ++ d) is_m in
    let mine : q.mine ≡ p.mine ++ m = s.0.4 ∙ ap (λ (d : List Change). p.mine ++ d) is_m in
    let all : h ++ (m ++ e.0) ≡ k.changes = sym (append_assoc h m e.0) ∙ ap (λ (l : List Change). l ++ e.0) (sym seen) ∙ e.1 in
    let to : place (length h + length m) (p.mine ++ m) ≡ place_of q = ap (λ (n : ℕ). place (n) (p.mine ++ m)) (sym (length-append h m) ∙ ap length (sym seen)) ∙ ap (λ (l : List Change). place (length q.seen) (l)) (sym mine) in
    let base : AnsweredAt (kept_with fixed.opening (h ++ (m ++ e.0)) k.server) seat (place_of p) who payload a.answer (place (length h + length m) (p.mine ++ m)) = answered fixed.opening k.server seat who payload h e.0 (place_of p) (length-prefix p.seen h s.0.1) in
    let here = subst (λ (l : List Change). AnsweredAt (kept_with fixed.opening l k.server) seat (place_of p) who payload a.answer (place (length h + length m) (p.mine ++ m))) all base in
    let opened = subst (λ (r : Server). AnsweredAt (kept_with r k.changes k.server) seat (place_of p) who payload a.answer (place (length h + length m) (p.mine ++ m))) o here in
    let placed = subst (λ (t : Place). AnsweredAt k seat (place_of p) who payload a.answer t) to opened in
    subst (λ (x : ToClient). AnsweredAt k seat (place_of p) who payload x (place_of q)) (sym s.0.2) placed

-- a pass forgets nothing
pub chain_seen : (fixed : KeptServer) (greeted after : Option ℕ) (p q : PassView KeptServer) (xs : List (Handled ToClient)) → Chain by_hello (HallStep fixed) greeted p xs after q → IsPrefix p.seen q.seen
chain_seen fixed greeted after p q [] c = subst (λ (r : PassView KeptServer). IsPrefix p.seen r.seen) c.0 (prefix_self p.seen)
chain_seen fixed greeted after p q (x ∷ xs) c =
    prefix_trans p.seen c.0.seen q.seen (step_seen fixed p c.0 x.who x.payload (Some x.answer) c.1.1.0) (chain_seen fixed (greeted_after greeted x.payload x.answer) after c.0 q xs c.1.1.1)

-- a chain of steps of a pass is one of places in the history at the end
pub chain_at : (k fixed : KeptServer) (seat : ℕ) (greeted after : Option ℕ) (p q : PassView KeptServer) (xs : List (Handled ToClient)) → fixed.opening ≡ k.opening → p.number ≡ seat
    → Chain by_hello (HallStep fixed) greeted p xs after q → IsPrefix q.seen k.changes → Chain by_hello (answers_at k seat) greeted (place_of p) xs after (place_of q)
chain_at k fixed seat greeted after p q [] o n c e = (ap place_of c.0, c.1)
chain_at k fixed seat greeted after p q (x ∷ xs) o n c e =
    let next = greeted_after greeted x.payload x.answer in
    let later : IsPrefix c.0.seen k.changes = prefix_trans c.0.seen q.seen k.changes (chain_seen fixed next after c.0 q xs c.1.1.1) e in
    (place_of c.0, (c.1.0, (step_at k fixed seat p c.0 x.who x.payload (Some x.answer) o n c.1.1.0 later, chain_at k fixed seat next after c.0 q xs o (c.1.1.0.1 ∙ n) c.1.1.1 e)))
