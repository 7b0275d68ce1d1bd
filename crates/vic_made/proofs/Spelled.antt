-- Each request that a client sends has a spelling, and its digests are bytes.
use Rattle.std.specs.Prelude.{◌≡◌, ℕ, suc, ◌+◌, ◌<◌, ◌≤◌, ◌^◌, Bool, true, false, ◌&&◌, List, [], ◌∷◌, ◌++◌, length, Some, None, is_none, if◌then◌else◌}
use Rattle.std.proofs.Common.{ap, subst, sym, ◌∙◌, arith}
use Rattle.sha2.proofs.Facts256.{length-sha256}
use Rattle.vic_dict.specs.declared.op.Op.{Op}
use Rattle.vic_dict.specs.declared.op.Entry.{Entry}
use Rattle.vic_dict.specs.Lists.{AreBytes}
use Rattle.vic_dict.specs.Dictionary.{Fits, AreBytesIn}
use Rattle.vic_wire.specs.declared.message.ToServer.{ToServer}
use Rattle.vic_wire.specs.declared.message.ToClient.{ToClient}
use Rattle.vic_wire.specs.declared.message.ToClient.TheVariants as say
use Rattle.vic_wire.specs.Hashes.{Group, tag_of}
use Rattle.vic_wire.specs.Messages.{HasRequestSpelling}
use Rattle.vic_wire.specs.Walks.{tree_after}
use Rattle.vic_wire.specs.Parts.{Part, read_part, root_after}
use Rattle.vic_wire.specs.Reading.{read_answer}
use Rattle.vic_rules.specs.declared.state.Own.{Own}
use Rattle.vic_rules.specs.declared.trace.Input.{Input}
use Rattle.vic_rules.specs.declared.trace.Input.TheVariants as input
use Rattle.vic_rules.specs.declared.trace.TraceStep.{TraceStep}
use Rattle.vic_rules.specs.Client.{Standing, Move, Sending, Invokes, Commits, Polls, Seals, Syncs, Keeps, Fetches, MayStep, step, request_of, new_root, is_write}
use Rattle.vic_rules.specs.History.{path, standing, move_of, AreSteps}
use Rattle.vic_rules.specs.Trust.{answer_unless_halted, text_sent}
use Rattle.vic_spellings.specs.Spellings.{HoldsBytes, RequestHoldsBytes}
use Rattle.vic_spellings.proofs.Bytes.{bytes-sha256}
use Rattle.vic_spellings.proofs.SpelledAnswers.{answer_holds_bytes}
use Rattle.vic_laws.proofs.Words.{some_same, none_is_some}
use Rattle.vic_laws.proofs.Steps.{PhaseFits, Kind, is_quiet, is_called, is_replied, is_updated, is_listed}
use Rattle.vic_laws.proofs.StepKinds.{step_kind}
use Rattle.vic_laws.proofs.Calls.{phases_fit}
use Rattle.vic_laws.proofs.Paths.{at_each_standing}
use Rattle.vic_laws.proofs.PartRoots.{after_stubs, read_stubs, root_digest}
use Rattle.vic_made.proofs.Contents.{IsDigestText, ContentFits, holds_at, step_fits}

-- ---- paths

few_kept : (g : Group) (me : ℕ) (s : Standing) (i : Input) (v : Move) → Kind g me s i v
    → length s.path ≤ 1048576 → length v.next.path ≤ 1048576
few_kept g me s i v (is_quiet k) h = subst (λ (p : List Entry). length p ≤ 1048576) (sym k.path) h
few_kept g me s i v (is_called k) h = subst (λ (m : Move). length m.next.path ≤ 1048576) (sym k.moved) h
few_kept g me s i v (is_replied k) h = subst (λ (m : Move). length m.next.path ≤ 1048576) (sym k.moved) k.few
few_kept g me s i v (is_updated k) h = subst (λ (m : Move). length m.next.path ≤ 1048576) (sym k.moved) h
few_kept g me s i v (is_listed k) h = subst (λ (m : Move). length m.next.path ≤ 1048576) (sym k.moved) k.few

-- a path has at most 1,048,576 entries
pub path_few : (g : Group) (h : List TraceStep) → AreSteps g h → (me : ℕ) → length (path g me h) ≤ 1048576
path_few g h steps me =
    at_each_standing g (λ j s. length s.path ≤ 1048576) (λ j. omega arith)
    (λ j s i may w. few_kept g j s i (step g j s i) (step_kind g j s i may) w) h steps me

-- ---- digests

tag_digest : (key text : List ℕ) → IsDigestText (tag_of key text)
unfolding tag_of
tag_digest key text = (length-sha256 _, bytes-sha256 _)

either_root : (b : Bool) (a root : List ℕ) → IsDigestText a → IsDigestText root → IsDigestText (if b then a else root)
either_root true a root x y = x
either_root false a root x y = y

-- the root behind a call that is sealed over a part that was read
root_digest_after : (o : Own) (bytes : List ℕ) (part : Part) (root : List ℕ) → AreBytes bytes → read_part bytes ≡ Some part
    → IsDigestText root → IsDigestText (new_root o part root)
root_digest_after o bytes part root are read e =
    either_root (o.done && is_write o.op) (root_after part o.op) root
    (root_digest (tree_after part o.op) (after_stubs part o.op (read_stubs bytes part are read))) e

taken_read : (after : Standing) (payload : List ℕ) (m : ToClient)
    → answer_unless_halted after (input.Payload payload) ≡ Some m → read_answer payload ≡ Some m
taken_read after payload m e = now (is_none after.halted) e
  where
    now : (b : Bool) → (if b then read_answer payload else None) ≡ Some m → read_answer payload ≡ Some m
    now true f = f
    now false f = absurd (none_is_some f)

-- ---- requests

abbrev pub IsSpelled : ToServer → Type 0
IsSpelled m = HasRequestSpelling m × RequestHoldsBytes m

-- what a move sends is spelled so
abbrev pub SendsSpelled : Group → ℕ → Move → Type 0
SendsSpelled g me v = (sending : Sending) → v.sends ≡ Some sending → IsSpelled (request_of g me v.next sending)

invoke_spelled : (g : Group) (me : ℕ) (s : Standing) (n : ℕ) (o : Op) → length s.path ≤ 1048576 → 0 < n → n < 2 ^ 32
    → Fits o × AreBytesIn o → IsSpelled (request_of g me s (Invokes n o))
invoke_spelled g me s n o few pos small fits = let t = tag_digest g.key _ in ((omega arith, ((pos, small), (fits, t.0))), t.1)

commit_spelled : (g : Group) (me : ℕ) (s : Standing) (done : Bool) → 0 < length s.path → length s.path ≤ 1048576
    → IsSpelled (request_of g me s (Commits done))
commit_spelled g me s done pos few = let t = tag_digest g.key _ in (((pos, omega arith), t.0), t.1)

seal_spelled : (g : Group) (me : ℕ) (s : Standing) → 0 < s.sealed → s.sealed ≤ 1048577 → IsDigestText s.root
    → IsSpelled (request_of g me s Seals)
seal_spelled g me s pos few root = let t = tag_digest g.key _ in (((pos, omega arith), (root.0, t.0)), (root.1, t.1))

quiet_spelled : (g : Group) (me : ℕ) (s : Standing) (sending : Sending) → text_sent g me s (Some sending) ≡ []
    → length s.path ≤ 1048576 → ContentFits (Some sending) → IsSpelled (request_of g me s sending)
quiet_spelled g me s (Invokes n o) e few fits = absurd cc
quiet_spelled g me s (Commits done) e few fits = absurd cc
quiet_spelled g me s Polls e few fits = (tt, tt)
quiet_spelled g me s Seals e few fits = absurd cc
quiet_spelled g me s Syncs e few fits = (omega arith, tt)
quiet_spelled g me s (Keeps content) e few fits = fits
quiet_spelled g me s (Fetches h) e few fits = fits

one_spelled : (g : Group) (me : ℕ) (v : Move) (one : Sending) → v.sends ≡ Some one → IsSpelled (request_of g me v.next one)
    → SendsSpelled g me v
one_spelled g me v one is h = λ sending e. subst (λ (x : Sending). IsSpelled (request_of g me v.next x)) (some_same (sym is ∙ e)) h

move_spelled : (g : Group) (me : ℕ) (s : Standing) (i : Input) (v : Move) → MayStep g s i → Kind g me s i v
    → length s.path ≤ 1048576 → PhaseFits s.calls s.phase → ContentFits v.sends → SendsSpelled g me v
move_spelled g me s i v may (is_quiet k) few opens fits = λ sending e.
    quiet_spelled g me v.next sending (ap (text_sent g me v.next) (sym e) ∙ k.sends_nothing) (few_kept g me s i v (is_quiet k) few)
    (subst ContentFits e fits)
move_spelled g me s i v may (is_called k) few opens fits =
    one_spelled g me v (Invokes (s.calls + 1) k.op) (ap (λ (m : Move). m.sends) k.moved)
    (invoke_spelled g me v.next (s.calls + 1) k.op (few_kept g me s i v (is_called k) few) (omega arith) (k.few opens) (k.fits opens))
move_spelled g me s i v may (is_replied k) few opens fits =
    let size : length v.next.path ≡ suc (length (k.others ++ s.path)) = ap (λ (m : Move). length m.next.path) k.moved in
    one_spelled g me v (Commits _) (ap (λ (m : Move). m.sends) k.moved)
    (commit_spelled g me v.next _ (omega (arith, size)) (few_kept g me s i v (is_replied k) few))
move_spelled g me s i v may (is_updated k) few opens fits =
    let sealed : v.next.sealed ≡ k.seal.position + 1 = ap (λ (m : Move). m.next.sealed) k.moved in
    let root : v.next.root ≡ new_root k.first k.part k.seal.root.bytes = ap (λ (m : Move). m.next.root) k.moved in
    let below : k.seal.position ≤ length s.path = k.sealing.within in
    let answer : ToClient = say.Update k.seal k.bytes in
    let are : AreBytes k.payload = subst (MayStep g s) k.asked may in
    let takes = subst (λ (j : Input). answer_unless_halted v.next j ≡ Some answer) k.asked k.takes in
    let seal : HoldsBytes answer = answer_holds_bytes k.payload answer are (taken_read v.next k.payload answer takes) in
    let was : IsDigestText k.seal.root.bytes = (k.sealing.spelled.root, seal.0.0) in
    one_spelled g me v Seals (ap (λ (m : Move). m.sends) k.moved)
    (seal_spelled g me v.next (omega (arith, sealed)) (omega (arith, sealed, below, few))
    (subst IsDigestText (sym root) (root_digest_after k.first k.bytes k.part k.seal.root.bytes k.are_bytes k.is_part was)))
move_spelled g me s i v may (is_listed k) few opens fits =
    λ sending e. absurd (none_is_some (sym (ap (λ (m : Move). m.sends) k.moved) ∙ e))

-- so it is of what the client of a step sends
pub step_spelled : (g : Group) (past : List TraceStep) (x : TraceStep) → AreSteps g (x ∷ past)
    → SendsSpelled g x.client (move_of g past x)
step_spelled g past x steps =
    move_spelled g x.client (standing g x.client past) x.input (move_of g past x) steps.1.may
    (step_kind g x.client (standing g x.client past) x.input steps.1.may) (path_few g past steps.0 x.client) (phases_fit g past steps.0 x.client)
    (step_fits g x.client (standing g x.client past) x.input steps.1.may (holds_at g past steps.0 x.client))
