-- What the steps of a lawful history tell of contents is what was sent and taken.
use Rattle.std.proofs.Common.{◌≡◌, ℕ, zero, suc, ◌+◌, ◌≤◌, List, [], ◌∷◌, ◌++◌, length, drop, reverse, Option, Some, None, refl, sym, ap, ◌∙◌, arith, append_assoc, get_or}
use Rattle.std.proofs.lemmas.List.{append-nil, reverse-append}
use Rattle.vic_wire.specs.declared.message.ToClient.{ToClient}
use Rattle.vic_wire.specs.Texts.{content_text}
use Rattle.vic_wire.specs.Hashes.{Group}
use Rattle.vic_spellings.proofs.SpelledRequests.{request_again}
use Rattle.vic_rules.specs.declared.trace.TraceStep.{TraceStep}
use Rattle.vic_rules.specs.Client.{Standing, Sending, Invokes, Commits, Polls, Seals, Syncs, Keeps, Fetches, Move, request_of, payload_of}
use Rattle.vic_rules.specs.History.{move_of, AreSteps}
use Rattle.vic_rules.specs.Trust.{content_sent, content_in, contents_known, answer_taken}
use Rattle.vic_laws.specs.Meanings.{texts_of_contents}
use Rattle.vic_made.proofs.Spelled.{IsSpelled, step_spelled}
use Rattle.vic_view.specs.Replay.{read_by}
use Rattle.vic_view.specs.Making.{request_in}
use Rattle.vic_view.proofs.Fronts.{rest_from}
use Rattle.vic_apart.specs.Contents.{kept_in, contents_at, contents_told, content_texts}
use Rattle.vic_apart.proofs.Standing.{took_told}

-- ---- what is sent

kept_of : (g : Group) (me : ℕ) (s : Standing) (sending : Sending) → content_sent (Some sending) ≡ kept_in (Some (request_of g me s sending))
kept_of g me s (Invokes n o) = refl
kept_of g me s (Commits done) = refl
kept_of g me s Polls = refl
kept_of g me s Seals = refl
kept_of g me s Syncs = refl
kept_of g me s (Keeps content) = refl
kept_of g me s (Fetches h) = refl

-- the payload of what is sent tells the content in it
sends_told : (g : Group) (me : ℕ) (s : Standing) (sends : Option Sending) → ((sending : Sending) → sends ≡ Some sending → IsSpelled (request_of g me s sending))
    → content_sent sends ≡ kept_in (request_in (payload_of g me s sends))
sends_told g me s None spelled = refl
sends_told g me s (Some sending) spelled =
    kept_of g me s sending ∙ ap kept_in (sym (request_again (request_of g me s sending) (spelled sending refl).0))

sent_told : (g : Group) (past : List TraceStep) (x : TraceStep) → AreSteps g (x ∷ past) → content_sent (move_of g past x).sends ≡ kept_in (request_in x.sent)
sent_told g past x steps =
    let v : Move = move_of g past x in
    sends_told g x.client v.next v.sends (step_spelled g past x steps) ∙ ap (λ (o : Option (List ℕ)). kept_in (request_in o)) (sym steps.1.sent)

-- ---- a history

pub told_is : (g : Group) (h : List TraceStep) → AreSteps g h → contents_told h ≡ contents_known g h
unfolding contents_told contents_known
told_is g [] steps = refl
told_is g (x ∷ past) steps =
    append_assoc (kept_in (request_in x.sent)) (content_in (read_by x.input x.returned)) (contents_told past)
    ∙ ap (λ (cs : List (List ℕ)). cs ++ (content_in (read_by x.input x.returned) ++ contents_told past)) (sym (sent_told g past x steps))
    ∙ ap (λ (o : Option ToClient). content_sent (move_of g past x).sends ++ (content_in o ++ contents_told past)) (sym (took_told g past x steps.1))
    ∙ ap (λ (cs : List (List ℕ)). content_sent (move_of g past x).sends ++ (content_in (answer_taken g past x) ++ cs)) (told_is g past steps.0)

told_behind : (later : List TraceStep) (x : TraceStep) → contents_told (later ++ x ∷ []) ≡ contents_told later ++ contents_at x
unfolding contents_told
told_behind [] x = append-nil (contents_at x)
told_behind (y ∷ later) x = ap (λ (cs : List (List ℕ)). contents_at y ++ cs) (told_behind later x) ∙ sym (append_assoc (contents_at y) (contents_told later) (contents_at x))

texts_behind : (cs ds : List (List ℕ)) → content_texts (cs ++ ds) ≡ content_texts cs ++ content_texts ds
texts_behind [] ds = refl
texts_behind (c ∷ cs) ds = ap (λ (ts : List (List ℕ)). content_text c ∷ ts) (texts_behind cs ds)

-- ---- what the loop keeps

-- the steps from a number on, which come first
abbrev pub texts_from : ℕ → List TraceStep → List (List ℕ)
texts_from n xs = content_texts (contents_told (reverse (drop n xs)))

none_left : (xs : List TraceStep) (n : ℕ) → n ≡ length xs → drop n xs ≡ []
none_left [] n e = ap (λ (k : ℕ). drop k []) e
none_left (x ∷ xs) zero e = absurd (omega arith)
none_left (x ∷ xs) (suc n) e = none_left xs n (omega arith)

pub contents_start : (xs : List TraceStep) (n : ℕ) (texts : List (List ℕ)) → n ≡ length xs → texts ≡ texts ++ texts_from n xs
unfolding contents_told
contents_start xs n texts e = sym (ap (λ (ys : List TraceStep). texts ++ content_texts (contents_told (reverse ys))) (none_left xs n e) ∙ append-nil texts)

pub contents_next : (xs : List TraceStep) (m n : ℕ) (x : TraceStep) (first ts us : List (List ℕ)) → m + 1 ≡ n → n ≤ length xs → x ≡ get_or xs m x
    → ts ≡ first ++ texts_from n xs → us ≡ ts ++ content_texts (contents_at x) → us ≡ first ++ texts_from m xs
contents_next xs m n x first ts us one le is before e =
    let turned : reverse (drop m xs) ≡ reverse (drop n xs) ++ x ∷ [] =
    ap reverse (rest_from xs m x (omega (arith, one, le)) is ∙ ap (λ (k : ℕ). x ∷ drop k xs) one) ∙ reverse-append (x ∷ []) (drop n xs) in
    e ∙ ap (λ (zs : List (List ℕ)). zs ++ content_texts (contents_at x)) before
    ∙ append_assoc first (texts_from n xs) (content_texts (contents_at x))
    ∙ ap (λ (zs : List (List ℕ)). first ++ zs) (sym (
    ap (λ (ys : List TraceStep). content_texts (contents_told ys)) turned
    ∙ ap content_texts (told_behind (reverse (drop n xs)) x)
    ∙ texts_behind (contents_told (reverse (drop n xs))) (contents_at x)))

pub contents_end : (g : Group) (h xs : List TraceStep) → reverse xs ≡ h → AreSteps g h → (n : ℕ) (first ts : List (List ℕ)) → n ≤ 0 → ts ≡ first ++ texts_from n xs → ts ≡ first ++ texts_of_contents g h
contents_end g h xs is steps n first ts none e =
    let zero_is : n ≡ 0 = omega (arith, none) in
    e ∙ ap (λ (k : ℕ). first ++ texts_from k xs) zero_is
    ∙ ap (λ (k : List TraceStep). first ++ content_texts (contents_told k)) is
    ∙ ap (λ (cs : List (List ℕ)). first ++ content_texts cs) (told_is g h steps)
