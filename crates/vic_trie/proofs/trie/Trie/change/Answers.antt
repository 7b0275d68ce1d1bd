use Rattle.std.proofs.Common.{◌≡◌, sym, ap, ◌∙◌}
use Rattle.std.specs.FinMap as map
use Rattle.vic_trie.proofs.Undone.{put_agrees, del_agrees}
use Rattle.vic_trie.proofs.trie.Trie.change.Goals as goal

pub returns-in_ok-put-in-Put-clause-back : goal.returns-in_ok-put-in-Put-clause-back
returns-in_ok-put-in-Put-clause-back c =
    c.in_ok-undo-in-Put.ensures.back c.put.new.self (λ q away.
    ap (λ d. map.get d q) c.in_ok-put-in-Put.ensures.ok
    ∙ put_agrees c.args.self.now c.as_slice-in-Put.result.now c.as_slice-in-Put-2.result.now q (λ s. away (s ∙ c.as_slice-in-Put.ensures ∙ sym c.as_slice.ensures)))

pub returns-in_ok-undo-in-Del-clause-back : goal.returns-in_ok-undo-in-Del-clause-back
returns-in_ok-undo-in-Del-clause-back c =
    c.in_ok-undo-in-Del.ensures.back c.del.new.self (λ q away.
    ap (λ d. map.get d q) c.del.ensures.after
    ∙ del_agrees c.args.self.now c.as_slice-in-Del-2.result.now q (λ s. away (s ∙ c.as_slice-in-Del-2.ensures ∙ sym c.as_slice-in-Del.ensures)))
