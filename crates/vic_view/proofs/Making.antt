-- What a lawful step made and took is what its payloads tell.
use Rattle.std.proofs.Common.{◌≡◌, ℕ, ◌+◌, ◌≤◌, List, [], ◌∷◌, ◌++◌, length, map, Option, Some, None, nat_eq, if◌then◌else◌, refl, sym, ◌∙◌, ap, subst, arith}
use Rattle.std.specs.Option.{option_to_list}
use Rattle.vic_dict.specs.declared.op.Entry.{Entry}
use Rattle.vic_dict.specs.Lists.{front}
use Rattle.vic_wire.specs.declared.message.Seal.{Seal}
use Rattle.vic_wire.specs.declared.message.Tagged.{Tagged}
use Rattle.vic_wire.specs.declared.message.ToClient.{ToClient}
use Rattle.vic_wire.specs.Texts.{invoke_text, commit_text, seal_text}
use Rattle.vic_wire.specs.Hashes.{Group, chain}
use Rattle.vic_spellings.proofs.SpelledRequests.{request_again}
use Rattle.vic_rules.specs.declared.trace.Input.{Input}
use Rattle.vic_rules.specs.declared.trace.TraceStep.{TraceStep}
use Rattle.vic_rules.specs.Client.{Standing, Move, Sending, Invokes, Commits, Polls, Seals, Syncs, Keeps, Fetches, request_of, payload_of, made_text, commit_text_on, seal_text_on, seal_of, entries_of}
use Rattle.vic_rules.specs.History.{standing, path, move_of, AreSteps}
use Rattle.vic_rules.specs.Trust.{answer_unless_halted, answer_taken, seal_texts, checked_texts, texts_taken, text_sent, texts_made}
use Rattle.vic_laws.proofs.Words.{some_same, none_is_some}
use Rattle.vic_laws.proofs.Steps.{Kind, is_quiet, is_called, is_replied, is_updated, is_listed}
use Rattle.vic_laws.proofs.StepKinds.{step_kind}
use Rattle.vic_laws.proofs.Standings.{standing_moved, earlier_steps}
use Rattle.vic_laws.proofs.Growth.{front_whole, path_later, Within, stands_within}
use Rattle.vic_made.proofs.Spelled.{IsSpelled, step_spelled}
use Rattle.vic_view.specs.Replay.{read_by, replayed_path}
use Rattle.vic_view.specs.Making.{hashes_of, hash_at, request_in, made_by, seal_texts_by, taken_with}
use Rattle.vic_view.proofs.Replays.{taken_told}
use Rattle.vic_view.proofs.Hashing.{hash_before}

-- ---- what was made

made_told : (g : Group) (me : ℕ) (s : Standing) (at : ℕ → List ℕ) → Within s → ((n : ℕ) → n ≤ length s.path → at n ≡ chain g (front n s.path)) → (sending : Sending)
    → made_text g me s sending ≡ made_by at me (Some (request_of g me s sending))
unfolding commit_text_on seal_text_on
made_told g me s at w h (Invokes n o) = refl
made_told g me s at w h (Commits done) =
    ap (λ (c : List ℕ). Some (commit_text (length s.path) c done)) (sym (h (length s.path) (omega arith) ∙ ap (chain g) (front_whole (length s.path) s.path (omega arith))))
made_told g me s at w h Polls = refl
made_told g me s at w h Seals = ap (λ (c : List ℕ). Some (seal_text s.sealed c s.root)) (sym (h s.sealed w.sealed))
made_told g me s at w h Syncs = refl
made_told g me s at w h (Keeps content) = refl
made_told g me s at w h (Fetches d) = refl

made_is : (g : Group) (me : ℕ) (s : Standing) (at : ℕ → List ℕ) → Within s → ((n : ℕ) → n ≤ length s.path → at n ≡ chain g (front n s.path)) → (sends : Option Sending)
    → ((sending : Sending) → sends ≡ Some sending → IsSpelled (request_of g me s sending))
    → text_sent g me s sends ≡ option_to_list (made_by at me (request_in (payload_of g me s sends)))
made_is g me s at w h None spelled = refl
made_is g me s at w h (Some sending) spelled =
    ap option_to_list (made_told g me s at w h sending ∙ ap (made_by at me) (sym (request_again (request_of g me s sending) (spelled sending refl).0)))

-- ---- what was taken

seal_within : (g : Group) (me : ℕ) (s : Standing) (i : Input) (v : Move) → Kind g me s i v → (m : ToClient) → answer_unless_halted v.next i ≡ Some m → (seal : Seal) → seal_of m ≡ Some seal
    → seal.position ≤ length v.next.path
seal_within g me s i v (is_quiet k) m e seal f = absurd (none_is_some (sym (k.seals_nothing m e).0 ∙ f))
seal_within g me s i v (is_called k) m e seal f = absurd (none_is_some (sym (ap seal_of (k.takes m e)) ∙ f))
seal_within g me s i v (is_replied k) m e seal f =
    let same : k.seal ≡ seal = some_same (ap seal_of (some_same (sym k.takes ∙ e)) ∙ f) in
    subst (λ (x : Seal). x.position ≤ length v.next.path) same (subst (λ (mv : Move). k.seal.position ≤ length mv.next.path) (sym k.moved) k.sealing.within)
seal_within g me s i v (is_updated k) m e seal f =
    let same : k.seal ≡ seal = some_same (ap seal_of (some_same (sym k.takes ∙ e)) ∙ f) in
    subst (λ (x : Seal). x.position ≤ length v.next.path) same (subst (λ (mv : Move). k.seal.position ≤ length mv.next.path) (sym k.moved) k.sealing.within)
seal_within g me s i v (is_listed k) m e seal f =
    let same : k.seal ≡ seal = some_same (ap seal_of (some_same (sym k.takes ∙ e)) ∙ f) in
    subst (λ (x : Seal). x.position ≤ length v.next.path) same (subst (λ (mv : Move). k.seal.position ≤ length mv.next.path) (sym k.moved) k.sealing.within)

seal_told : (g : Group) (p : List Entry) (at : ℕ → List ℕ) (o : Option Seal) → ((s : Seal) → o ≡ Some s → at s.position ≡ chain g (front s.position p)) → seal_texts g p o ≡ seal_texts_by at o
unfolding seal_text_on
seal_told g p at None h = refl
seal_told g p at (Some s) h = ap (λ (c : List ℕ). if nat_eq s.position 0 then [] else seal_text s.position c s.root.bytes ∷ []) (sym (h s refl))

taken_is : (g : Group) (p : List Entry) (at : ℕ → List ℕ) (o : Option ToClient) → ((m : ToClient) → o ≡ Some m → (s : Seal) → seal_of m ≡ Some s → at s.position ≡ chain g (front s.position p))
    → checked_texts g p o ≡ taken_with at o
taken_is g p at None h = refl
taken_is g p at (Some m) h = ap (λ (ts : List (List ℕ)). ts ++ map (λ (t : Tagged). invoke_text t.entry) (entries_of m)) (seal_told g p at (seal_of m) (h m refl))

-- ---- a step of a history

-- the hashes along the path that the client has at the end tell those of the path that it then had
hash_then : (g : Group) (later : List TraceStep) (x : TraceStep) (past : List TraceStep) → AreSteps g (later ++ x ∷ past) → (n : ℕ) → n ≤ length (move_of g past x).next.path
    → hash_at (hashes_of g (replayed_path x.client (later ++ x ∷ past)).places) n ≡ chain g (front n (move_of g past x).next.path)
hash_then g later x past steps n le =
    let now : path g x.client (x ∷ past) ≡ (move_of g past x).next.path = ap (λ (s : Standing). s.path) (standing_moved g x.client x past refl) in
    let grown = path_later g later (x ∷ past) steps x.client in
    hash_before g (later ++ x ∷ past) steps x.client grown.0 (move_of g past x).next.path n (grown.1 ∙ ap (λ (p : List Entry). grown.0 ++ p) now) le

-- the text that was made at a step
pub made_at_step : (g : Group) (later : List TraceStep) (x : TraceStep) (past : List TraceStep) → AreSteps g (later ++ x ∷ past)
    → texts_made g (x ∷ past) ≡ option_to_list (made_by (hash_at (hashes_of g (replayed_path x.client (later ++ x ∷ past)).places)) x.client (request_in x.sent)) ++ texts_made g past
unfolding texts_made
made_at_step g later x past steps =
    let here : AreSteps g (x ∷ past) = earlier_steps g later (x ∷ past) steps in
    let v : Move = move_of g past x in
    let at : ℕ → List ℕ = hash_at (hashes_of g (replayed_path x.client (later ++ x ∷ past)).places) in
    let within : Within v.next = subst (λ (s : Standing). Within s) (standing_moved g x.client x past refl) (stands_within g (x ∷ past) here x.client) in
    ap (λ (ts : List (List ℕ)). ts ++ texts_made g past)
    (made_is g x.client v.next at within (hash_then g later x past steps) v.sends (step_spelled g past x here)
    ∙ ap (λ (o : Option (List ℕ)). option_to_list (made_by at x.client (request_in o))) (sym here.1.sent))

-- the texts that were taken at a step
pub taken_at_step : (g : Group) (later : List TraceStep) (x : TraceStep) (past : List TraceStep) → AreSteps g (later ++ x ∷ past)
    → texts_taken g past x ≡ taken_with (hash_at (hashes_of g (replayed_path x.client (later ++ x ∷ past)).places)) (read_by x.input x.returned)
unfolding answer_taken
taken_at_step g later x past steps =
    let here : AreSteps g (x ∷ past) = earlier_steps g later (x ∷ past) steps in
    let v : Move = move_of g past x in
    let at : ℕ → List ℕ = hash_at (hashes_of g (replayed_path x.client (later ++ x ∷ past)).places) in
    let kind : Kind g x.client (standing g x.client past) x.input v = step_kind g x.client (standing g x.client past) x.input here.1.may in
    taken_is g v.next.path at (answer_unless_halted v.next x.input)
    (λ m e s f. hash_then g later x past steps s.position (seal_within g x.client (standing g x.client past) x.input v kind m e s f))
    ∙ ap (taken_with at) (taken_told g x.client (standing g x.client past) x.input ∙ ap (read_by x.input) (sym here.1.returned))
