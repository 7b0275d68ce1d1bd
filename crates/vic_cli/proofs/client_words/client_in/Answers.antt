use Rattle.std.proofs.Common.{◌≡◌, true, ◌&&◌, Some, sym, ◌∙◌, rules, arith}
use Rattle.std.specs.Prelude.{codes}
use Rattle.std.specs.Str.{bytes_eq}
use Rattle.vic_cli.specs.Arguments.{is_address, number_in}
use Rattle.vic_cli.proofs.ClientEnding.{six_right}
use Rattle.vic_cli.proofs.client_words.client_in.Goals as goal

pub returns-in-Some : goal.returns-in-Some
returns-in-Some c =
    let is : c.is_right.result ≡ true = first_of (search rules, grind arith) in
    let right : (bytes_eq c.args.name.now (codes "client") && is_address c.args.address.now) ≡ true = sym c.is_right.ensures ∙ is in
    let many : number_in 64 c.args.count.now ≡ Some c.in-Some.many = sym c.in-Some.ensures.is in
    six_right c.args.name.now c.args.address.now c.args.id.now c.args.count.now c.args.key.now c.args.mode.now c.in-Some.many c.member_of.result right many (c.member_of.ensures c.args.address.now)
