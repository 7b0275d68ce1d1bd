use Rattle.std.proofs.Common.{sym, ap, ◌∙◌, ◌≡◌, ◌≤◌, ◌+◌, ◌-◌, ℕ, length, arith}
use Rattle.vic_dict.specs.Lists.{front, newest}
use Rattle.vic_rules.specs.Client.{onto}
use Rattle.vic_checks.proofs.Paths.{front_below, front_above, onto_more}
use Rattle.vic_checks.proofs.deciding.entry_at.Goals as goal

pub returns-then-position-length : goal.returns-then-position-length
returns-then-position-length c = λ g p s.
    let len = c.length-length.ensures.shows g p s in
    let le : c.args.position ≤ length p = omega (arith, len, c.if-position-length.true) in
    ap newest (front_below c.args.entries.now c.args.position p le) ∙ c.entry_at.ensures.shows g p s

pub returns : goal.returns
returns c = λ g p s.
    let len = c.length-length.ensures.shows g p s in
    let n = c.args.position - c.length-length.result - 1 in
    let is : length p + (n + 1) ≡ c.args.position = omega (arith, len, c.if-position-length.false) in
    let le : n + 1 ≤ length c.args.entries.now = omega (arith, c.requires.within, c.length-length.ensures.value, c.if-position-length.false) in
    ap newest (ap (λ (k : ℕ). front k (onto c.args.entries.now p)) (sym is) ∙ front_above c.args.entries.now (n + 1) p le
    ∙ onto_more c.args.entries.now n c.at.result.now p c.at.ensures)
