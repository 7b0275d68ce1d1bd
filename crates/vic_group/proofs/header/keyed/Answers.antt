use Rattle.std.proofs.Common.{sym, ap, ◌∙◌, List, ℕ}
use Rattle.std.specs.Result.{result_ok}
use Rattle.hex.specs.Hex.{decode_of}
use Rattle.vic_group.proofs.Playing.{leads_again, leads_keyed}
use Rattle.vic_group.proofs.header.keyed.Goals as goal

pub returns-then-not-may_name_key : goal.returns-then-not-may_name_key
returns-then-not-may_name_key c = rw c.number.ensures (leads_again c.args.header c.args.digits.now (sym c.may_name_key.ensures ∙ c.if-not-may_name_key.true) c.requires)

pub returns : goal.returns
returns c = leads_keyed c.args.header c.args.digits.now c.in_ok-key.key (sym c.may_name_key.ensures ∙ c.if-not-may_name_key.false) (ap (λ (d : List ℕ). result_ok (decode_of d)) (sym c.as_slice.ensures) ∙ c.in_ok-key.ensures) c.requires
