use Rattle.std.proofs.Common.{ℕ, List, sym, ap, ◌∙◌, subst, arith}
use Rattle.vic_dict.specs.declared.op.Entry.{Entry}
use Rattle.vic_chain.specs.Held.{Held, ShowsPath, held_length, held_cut_to}
use Rattle.vic_checks.proofs.Walks.{found_at}
use Rattle.vic_checks.proofs.Paths.{onto_more}
use Rattle.vic_client.proofs.Windows.{cut_extended}
use Rattle.vic_client.proofs.taking.extend_all.Goals as goal

pub loop-item-preserved : goal.loop-item-preserved
loop-item-preserved c =
    let now = c.in-Ok.ensures.ok in
    let n = held_length c.args.window.now in
    let before = c.loop-item.window in
    record {
      length = rw now (omega (arith, c.loop-item.invariant.length));
      sealed = rw now c.loop-item.invariant.sealed;
      shows = λ g s h.
          let at = found_at c.args.items.now c.loop-item.item-index c.item-item.result c.loop-item-test.true c.item-item.is in
          subst (λ (p : List Entry). ShowsPath g p c.extend.new.self) (sym (onto_more c.args.items.now c.loop-item.item-index c.item-item.result s.path at))
          (c.in-Ok.ensures.shows g _ (c.loop-item.invariant.shows g s h));
      back = ap (λ (w : Held). held_cut_to w n) now ∙ cut_extended before _ n (omega (arith, c.loop-item.invariant.length)) ∙ c.loop-item.invariant.back;
    }

pub returns-in-Err-clause-err : goal.returns-in-Err-clause-err
returns-in-Err-clause-err c =
    c.cut_back.ensures.value ∙ ap (λ (w : Held). held_cut_to w c.length-length.result) c.in-Err.ensures.err
    ∙ ap (λ (n : ℕ). held_cut_to c.loop-item.window n) c.length-length.ensures.value ∙ c.loop-item.invariant.back
