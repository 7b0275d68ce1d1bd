use Rattle.std.proofs.Common.{◌≡◌, ◌++◌, ◌∷◌, [], List, ℕ, OnOk, refl, ap, subst, ◌∙◌}
use Rattle.vic_apart.proofs.NodeTexts.{empty_nodes}
use Rattle.vic_apart.proofs.nodes.put_tree_texts.Goals as goal

pub returns-in_ok-empty_text_of-in-None : goal.returns-in_ok-empty_text_of-in-None
returns-in_ok-empty_text_of-in-None c =
    subst (λ (ts : List (List ℕ)). OnOk c.push.result (c.push.new.self ≡ c.args.texts.now ++ ts))
    (ap (λ (t : List ℕ). t ∷ []) c.in_ok-empty_text_of-in-None.ensures ∙ empty_nodes c.args.dict.now (c.in-None.ensures.empty.0 refl))
    c.push.ensures.ok
