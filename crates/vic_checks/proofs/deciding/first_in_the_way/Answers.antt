use Rattle.std.proofs.Common.{Some, sym, ap, ◌∙◌, ◌≡◌, ◌≤◌, ◌+◌, ◌-◌, ℕ, suc, length, drop, arith}
use Rattle.vic_dict.specs.Lists.{front, newest}
use Rattle.vic_rules.specs.Client.{onto, least_above, is_in_the_way}
use Rattle.vic_checks.proofs.Paths.{length-onto}
use Rattle.vic_checks.proofs.Decisions.{least_low, least_none, least_found, least_kept, front_under, length-front}
use Rattle.vic_checks.proofs.deciding.first_in_the_way.Goals as goal

pub returns-then-is_in_the_way : goal.returns-then-is_in_the_way
returns-then-is_in_the_way c = λ g p s.
    let q = onto c.args.entries.now p in
    let test = is_in_the_way c.args.me c.args.op.now in
    let len = c.length.ensures.shows g p s in
    let all = length-onto c.args.entries.now p in
    let n = c.loop-position.position - 1 in
    let is : suc n ≡ c.loop-position.position = omega (arith, c.loop-position.auto.position) in
    let within : suc (suc n) ≤ length q = omega (arith, all, len, is, c.len.ensures, c.loop-position-test.true) in
    let tip = ap (λ (k : ℕ). newest (front k q)) is ∙ c.entry_at-entry.ensures g p s in
    let found = least_found c.args.base test n q c.entry_at-entry.result.now (omega (arith, within)) tip (omega (arith, is, c.loop-position.auto.position))
    (c.loop-position.invariant g p n (omega (arith, is)) s) (sym (c.is_in_the_way.ensures (suc n)) ∙ c.if-is_in_the_way.true) in
    ap Some (sym is)
    ∙ sym (least_kept c.args.base test (suc n) (length q - suc (suc n)) (drop 1 q) (ap (least_above c.args.base test) (sym (front_under (suc n) q within)) ∙ found))

pub loop-position-init : goal.loop-position-init
loop-position-init c = λ g p n e s.
    let q = onto c.args.entries.now p in
    let len = c.length.ensures.shows g p s in
    let all = length-onto c.args.entries.now p in
    let within : n ≤ length q = omega (arith, all, len, e, c.requires.below, c.length.ensures.value) in
    least_low c.args.base (is_in_the_way c.args.me c.args.op.now) (front n q) (omega (arith, length-front n q within, e))

pub loop-position-preserved : goal.loop-position-preserved
loop-position-preserved c = λ g p m e s.
    let q = onto c.args.entries.now p in
    let test = is_in_the_way c.args.me c.args.op.now in
    let len = c.length.ensures.shows g p s in
    let all = length-onto c.args.entries.now p in
    let n = c.loop-position.position - 1 in
    let is : suc n ≡ c.loop-position.position = omega (arith, c.loop-position.auto.position) in
    let same : m ≡ suc n = omega (arith, is, e) in
    let within : suc n ≤ length q = omega (arith, all, len, is, c.len.ensures, c.loop-position-test.true) in
    let tip = ap (λ (k : ℕ). newest (front k q)) is ∙ c.entry_at-entry.ensures g p s in
    ap (λ (k : ℕ). least_above c.args.base test (front k q)) same
    ∙ least_none c.args.base test n q c.entry_at-entry.result.now within tip
    (c.loop-position.invariant g p n (omega (arith, is)) s) (sym (c.is_in_the_way.ensures (suc n)) ∙ c.if-is_in_the_way.false)

pub returns : goal.returns
returns c = λ g p s.
    let q = onto c.args.entries.now p in
    let test = is_in_the_way c.args.me c.args.op.now in
    let len = c.length.ensures.shows g p s in
    let all = length-onto c.args.entries.now p in
    let n = length q - 1 in
    let some : suc n ≤ length q = omega (arith, all, len, c.requires.below, c.length.ensures.value) in
    let ends : n + 1 ≡ c.loop-position.position = omega (arith, all, len, c.requires.below, c.length.ensures.value, c.len.ensures, c.loop-position-test.false, c.loop-position.auto.position-end) in
    let none_left : length q - suc n ≡ 0 = omega arith in
    sym (ap (λ (k : ℕ). least_above c.args.base test (drop k (drop 1 q))) (sym none_left)
    ∙ ap (least_above c.args.base test) (sym (front_under n q some))
    ∙ c.loop-position.invariant g p n ends s)
