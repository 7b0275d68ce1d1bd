use Rattle.std.proofs.Common.{◌≡◌, List, length, ap, subst, refl, arith}
use Rattle.vic_dict.specs.declared.op.Entry.{Entry}
use Rattle.vic_wire.specs.declared.message.Tagged.{Tagged}
use Rattle.vic_wire.specs.Hashes.{Group}
use Rattle.vic_chain.specs.Held.{ShowsPath}
use Rattle.vic_chain.proofs.Shown.{shows_advanced}
use Rattle.vic_rules.specs.Client.{onto, path_with_entries}
use Rattle.vic_checks.specs.State.{state_group}
use Rattle.vic_client.proofs.taking.take_entries.Goals as goal

pub returns-clause-taken : goal.returns-clause-taken
returns-clause-taken c = λ s st.
    let g : Group = state_group c.args.state.now in
    let window = c.extend_all.new.window in
    let seal = c.args.seal.now in
    let p : List Entry = path_with_entries s c.args.entries.now in
    let made = c.in_ok-extend_all.ensures in
    let items : length c.as_slice.result.now ≡ length c.args.entries.now = ap (λ (ts : List Tagged). length ts) c.as_slice.ensures in
    let shown : ShowsPath g p window = subst (λ (ts : List Tagged). ShowsPath g (onto ts s.path) window) c.as_slice.ensures (made.ok g s st.path) in
    record {
      send = refl;
      returned = refl;
      object = refl;
      stands = record {
        path = shows_advanced g p window seal.position seal.root.bytes (omega (arith, made.sealed)) (omega (arith, made.length, items, c.requires.within)) shown;
        sealed = refl;
        root = refl;
        own = st.own;
        awaiting = refl;
        calls = refl;
        phase = refl;
        halted = st.halted;
      };
    }
