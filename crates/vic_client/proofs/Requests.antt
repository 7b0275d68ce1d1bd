-- The requests of a client, from what its window shows.
use Rattle.std.proofs.Common.{◌≡◌, ℕ, Bool, List, length, ap, sym, ◌∙◌, subst, IfOk, Result, arith}
use Rattle.std.proofs.lemmas.Grind.{common_steps}
use Rattle.vic_dict.specs.declared.op.Op.{Op}
use Rattle.vic_dict.specs.declared.op.Entry.{Entry}
use Rattle.vic_dict.specs.declared.bytes.NoMemory.{NoMemory}
use Rattle.vic_dict.specs.Lists.{front}
use Rattle.vic_wire.specs.declared.message.Digest32.{Digest32}
use Rattle.vic_wire.specs.declared.message.ToServer.{ToServer}
use Rattle.vic_wire.specs.declared.message.ToServer.TheVariants as ask
use Rattle.vic_wire.specs.Texts.{invoke_text, commit_text, seal_text}
use Rattle.vic_wire.specs.Hashes.{Group, chain, tag_of}
use Rattle.vic_wire.specs.Messages.{request_text}
use Rattle.vic_rules.specs.Client.{Standing, request_of, Invokes, Commits, Seals, digest, commit_text_on, seal_text_on}

-- the front of all of a list is the list
pub front_whole : {X : Type 0} (n : ℕ) (xs : List X) → n ≡ length xs → front n xs ≡ xs
front_whole n xs e = grind (arith, common_steps)

pub invoke_is : (g : Group) (me : ℕ) (s : Standing) (known seq : ℕ) (o : Op) (tag : Digest32) → known ≡ length s.path
    → tag.bytes ≡ tag_of g.key (invoke_text (record { client = me; seq = seq; op = o })) → ask.Invoke known seq o tag ≡ request_of g me s (Invokes seq o)
invoke_is g me s known seq o tag is tagged =
    ap (λ n. ask.Invoke n seq o tag) is ∙ ap (λ (t : List ℕ). ask.Invoke (length s.path) seq o (digest t)) tagged

pub commit_is : (g : Group) (me : ℕ) (s : Standing) (position : ℕ) (done : Bool) (chained tag : Digest32) → position ≡ length s.path
    → chained.bytes ≡ chain g (front position s.path) → tag.bytes ≡ tag_of g.key (commit_text position chained.bytes done)
    → ask.Commit position done tag ≡ request_of g me s (Commits done)
unfolding commit_text_on
commit_is g me s position done chained tag is hashed tagged =
    let there : chained.bytes ≡ chain g s.path = hashed ∙ ap (λ (p : List Entry). chain g p) (front_whole position s.path is) in
    let text : commit_text position chained.bytes done ≡ commit_text (length s.path) (chain g s.path) done =
    ap (λ n. commit_text n chained.bytes done) is ∙ ap (λ (h : List ℕ). commit_text (length s.path) h done) there in
    ap (λ n. ask.Commit n done tag) is ∙ ap (λ (t : List ℕ). ask.Commit (length s.path) done (digest t)) (tagged ∙ ap (λ (t : List ℕ). tag_of g.key t) text)

pub seal_is : (g : Group) (me : ℕ) (s : Standing) (position : ℕ) (root chained tag : Digest32) → s.sealed ≡ position → s.root ≡ root.bytes
    → chained.bytes ≡ chain g (front position s.path) → tag.bytes ≡ tag_of g.key (seal_text position chained.bytes root.bytes)
    → ask.Seal position root tag ≡ request_of g me s Seals
unfolding seal_text_on
seal_is g me s position root chained tag is rooted hashed tagged =
    let text : seal_text position chained.bytes root.bytes ≡ seal_text position (chain g (front position s.path)) root.bytes =
    ap (λ (h : List ℕ). seal_text position h root.bytes) hashed in
    let P : ℕ → List ℕ → Type 0 = λ n r. ask.Seal position root tag ≡ ask.Seal n (digest r) (digest (tag_of g.key (seal_text n (chain g (front n s.path)) r))) in
    let here : P position root.bytes = ap (λ (t : List ℕ). ask.Seal position root (digest t)) (tagged ∙ ap (λ (t : List ℕ). tag_of g.key t) text) in
    subst (λ (n : ℕ). P n s.root) (sym is) (subst (λ (r : List ℕ). P position r) (sym rooted) here)

-- what is written of a request is written of an equal one
pub written : (r : Result (List ℕ) NoMemory) (m n : ToServer) → m ≡ n → IfOk r (λ b. b ≡ request_text m) → IfOk r (λ b. b ≡ request_text n)
written r m n e h = subst (λ (x : ToServer). IfOk r (λ b. b ≡ request_text x)) e h
