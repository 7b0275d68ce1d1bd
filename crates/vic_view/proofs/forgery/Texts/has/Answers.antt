use Rattle.std.proofs.Common.{◌∙◌, ap}
use Rattle.vic_script.specs.Print.{is_among}
use Rattle.vic_view.proofs.Texts.{found_among}
use Rattle.vic_view.proofs.forgery.Texts.has.Goals as goal

pub returns : goal.returns
returns c =
    c.contains.ensures ∙ found_among (λ v. v.items) c.self.inside.set.keys c.args.text.now ∙ ap (λ ts. is_among ts c.args.text.now) c.self.view_is
