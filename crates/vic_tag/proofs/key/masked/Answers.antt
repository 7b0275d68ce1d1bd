use Rattle.std.proofs.Common.{arith, refl, length-set, bit_xor, length, ap, ℕ, ◌<◌, ◌∙◌}
use Rattle.std.proofs.lemmas.List.{get_or-replicate}
use Rattle.vic_tag.proofs.KeyLemmas.{masked_from_same, join_more, behind_stays}
use Rattle.vic_tag.proofs.key.masked.Goals as goal

pub loop-i-init : goal.loop-i-init
loop-i-init c = record {
  whole = refl;
  joined = λ k lt. absurd (omega arith);
  behind = λ k le lt. get_or-replicate {A = ℕ} 64 k c.args.mask 0 lt;
}

pub loop-i-preserved : goal.loop-i-preserved
loop-i-preserved c =
    let inside : c.loop-i.i < length c.loop-i.block = omega arith in
    record {
      whole = length-set _ _ _ ∙ c.loop-i.invariant.whole;
      joined = join_more (bit_xor c.args.mask) c.loop-i.block c.args.key.now c.loop-i.i inside c.loop-i.invariant.joined;
      behind = behind_stays c.loop-i.block c.loop-i.i _ c.args.mask c.loop-i.invariant.behind;
    }

pub returns : goal.returns
returns c =
    masked_from_same c.args.mask c.args.key.now c.args.key.now c.loop-i.block refl
    c.loop-i.invariant.whole (omega arith)
    (λ k lt. c.loop-i.invariant.joined k (omega arith))
    (λ k le lt. c.loop-i.invariant.behind k (omega arith) lt)
