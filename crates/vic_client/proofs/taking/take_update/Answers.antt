use Rattle.std.proofs.Common.{◌≡◌, ◌+◌, List, ◌∷◌, Some, drop, sym, ap, ◌∙◌, refl, arith}
use Rattle.std.specs.Prelude.{slice_get}
use Rattle.vic_wire.specs.Hashes.{Group}
use Rattle.vic_chain.proofs.Shown.{shows_advanced}
use Rattle.vic_rules.specs.declared.state.Own.{Own}
use Rattle.vic_rules.specs.Client.{move_to_seal, new_root}
use Rattle.vic_checks.specs.State.{state_group}
use Rattle.vic_prune.specs.Parts.{part}
use Rattle.vic_client.proofs.taking.take_update.Goals as goal

pub returns-clause-taken : goal.returns-clause-taken
returns-clause-taken c = λ s o others st is.
    let now = c.args.state.now in
    let g : Group = state_group now in
    let position = c.args.seal.now.position + 1 in
    let v = move_to_seal s position (new_root o (part c.args.part.now) c.args.seal.now.root.bytes) others in
    let own : now.own ≡ o ∷ others = sym st.own ∙ is in
    let first : Some o ≡ Some c.at-call.result.now = sym (ap (λ (l : List Own). slice_get l 0) own) ∙ c.at-call.ensures.item in
    let call : o ≡ c.at-call.result.now = cc in
    let rooted : v.next.root ≡ c.root_after-root.result.bytes =
    ap (λ (x : Own). new_root x (part c.args.part.now) c.args.seal.now.root.bytes) call ∙ sym c.root_after-root.ensures in
    record {
      send = ap Some (c.in_ok-sent.ensures.sent v.next st.path refl rooted);
      returned = refl;
      object = refl;
      stands = record {
        path = shows_advanced g s.path now.window position c.root_after-root.result.bytes (omega arith) c.requires.within st.path;
        sealed = refl;
        root = rooted;
        own = sym (ap (λ (l : List Own). drop 1 l) own);
        awaiting = refl;
        calls = refl;
        phase = refl;
        halted = st.halted;
      };
    }
