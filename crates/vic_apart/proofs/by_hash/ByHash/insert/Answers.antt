use Rattle.std.proofs.Common.{◌≡◌, Some, None, List, ℕ, ap, sym, ◌∙◌, cond}
use Rattle.std.specs.Ordering.{is_eq, nat_cmp}
use Rattle.std.specs.Cmp.Lexicographic.{slice_cmp}
use Rattle.vic_apart.specs.ByHash.{text_under}
use Rattle.vic_apart.proofs.Seen.{put_new}
use Rattle.vic_apart.proofs.by_hash.ByHash.insert.Goals as goal

pub returns-in_ok-insert-in-None-clause-ok : goal.returns-in_ok-insert-in-None-clause-ok
returns-in_ok-insert-in-None-clause-ok c =
    let h = c.args.hash.now.bytes in
    let none : text_under c.args.self.now h ≡ None = ap (λ xs. text_under xs h) (sym c.self.view_is) ∙ sym c.in-None.ensures.value in
    put_new h c.args.text.now (text_under c.args.self.now) (text_under c.insert.new.self.entries) none
    (λ q. c.in_ok-insert-in-None.ensures.updates.0 q
    ∙ ap (λ (t : List ℕ). cond (is_eq (slice_cmp nat_cmp h q)) (Some t) (text_under c.self.inside.texts.entries q)) c.in_ok-copied-in-None.ensures
    ∙ ap (λ xs. cond (is_eq (slice_cmp nat_cmp h q)) (Some c.args.text.now) (text_under xs q)) c.self.view_is)
