use Rattle.std.proofs.Common.{◌++◌, ◌∷◌, [], map, ◌∙◌, ap}
use Rattle.vic_script.specs.Print.{is_among}
use Rattle.vic_view.proofs.Texts.{put_among}
use Rattle.vic_view.proofs.forgery.Texts.add.Goals as goal

pub returns : goal.returns
returns c = λ t.
    ap (λ ks. is_among (map (λ v. v.items) ks) t) c.in_ok-insert.ensures.keys
    ∙ put_among (λ v. v.items) c.self.inside.set.keys c.in_ok-key.key t
    ∙ ap (λ ts. is_among (ts ++ c.in_ok-key.key.items ∷ []) t) c.self.view_is
    ∙ ap (λ u. is_among (c.args.self.now ++ u ∷ []) t) c.in_ok-key.ensures.items
