use Rattle.std.proofs.Common.{◌≡◌, sym, ap, subst, ◌∙◌}
use Rattle.std.specs.FinMap as map
use Rattle.vic_trie.proofs.Undone.{gone_back, put_back}
use Rattle.vic_trie.proofs.trie.Trie.undo_at.Goals as goal

pub returns-in_ok-of-in-None-clause-back : goal.returns-in_ok-of-in-None-clause-back
returns-in_ok-of-in-None-clause-back c = λ e agree.
    ap (map.remove e) c.in_ok-of-in-None.ensures ∙ gone_back c.args.self.now e c.args.key.now (sym c.in-None.ensures.value) agree

pub returns-in_ok-ready-in-Some-clause-back : goal.returns-in_ok-ready-in-Some-clause-back
returns-in_ok-ready-in-Some-clause-back c = λ e agree.
    (λ i. map.insert e (c.in_ok-ready-in-Some.ensures.key i) ((c.in_ok-ready-in-Some.ensures.value ∙ c.as_slice.ensures) i))
    ∙ put_back c.args.self.now e c.args.key.now c.in-Some.value.now (sym c.in-Some.ensures.value) agree
