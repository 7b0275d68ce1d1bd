use Rattle.std.proofs.Common.{◌≡◌, ℕ, Bool, List, [], ◌∷◌, ◌++◌, Some, length, sym, ap, ◌∙◌, subst, arith, refl}
use Rattle.vic_dict.specs.declared.op.Entry.{Entry}
use Rattle.vic_dict.specs.declared.op.Outcome.{Outcome}
use Rattle.vic_rules.specs.Objects.{after_decision, outcome_after_decision}
use Rattle.vic_wire.specs.declared.message.Tagged.{Tagged}
use Rattle.vic_wire.specs.Hashes.{Group}
use Rattle.vic_wire.specs.Messages.{request_text}
use Rattle.vic_chain.specs.Held.{Held, ShowsPath, held_length, held_cut_to}
use Rattle.vic_chain.proofs.Shown.{shows_advanced}
use Rattle.vic_rules.specs.declared.state.Own.{Own}
use Rattle.vic_rules.specs.Client.{onto, path_with_entries, decision, request_of, Commits, is_done}
use Rattle.vic_checks.specs.declared.state.State.{State}
use Rattle.vic_checks.specs.State.{state_group, below_last}
use Rattle.vic_checks.proofs.Paths.{length-onto}
use Rattle.vic_client.specs.declared.pending.Effect.{Effect}
use Rattle.vic_client.specs.declared.pending.Effect.TheVariants as effect
use Rattle.vic_client.specs.declared.pending.Pending.{Pending}
use Rattle.vic_client.specs.Hearing.{IsSoundState, IsPendingIn, Hears, reply_move}
use Rattle.vic_prune.specs.Parts.{part}
use Rattle.vic_client.proofs.Pendings.{joined_sound, replies_pending}
use Rattle.vic_client.proofs.taking.take_reply.Goals as goal

pub returns-in-Ok-clause-sound : goal.returns-in-Ok-clause-sound
returns-in-Ok-clause-sound c =
    let window = c.extend_all.new.window in
    let made = c.in_ok-extend_all.ensures in
    let items : length c.as_slice.result.now ≡ length c.args.entries.now = ap (λ (ts : List Tagged). length ts) c.as_slice.ensures in
    let joined : Own = record { position = held_length window; op = c.args.op; done = c.is_done.result } in
    subst (λ (x : State). IsSoundState x) (sym c.in-Ok.ensures.own)
    (joined_sound c.args.state.now window joined c.requires.sound refl (omega (arith, made.length, items, c.requires.some)))

pub returns-in-Ok-clause-pending : goal.returns-in-Ok-clause-pending
returns-in-Ok-clause-pending c = λ calls p fits.
    let old : State = c.args.state.now in
    let window = c.extend_all.new.window in
    let seal = c.args.seal.now in
    let made = c.in_ok-extend_all.ensures in
    let items : length c.as_slice.result.now ≡ length c.args.entries.now = ap (λ (ts : List Tagged). length ts) c.as_slice.ensures in
    let turned = c.in_ok-behind.behind.turned in
    let e : Effect = effect.Replies c.length-length.result seal.position seal.root turned in
    let joined : Own = record { position = held_length window; op = c.args.op; done = c.is_done.result } in
    let back : held_cut_to window c.length-length.result ≡ old.window = ap (λ (n : ℕ). held_cut_to window n) c.length-length.ensures.value ∙ made.back in
    subst (λ (x : State). IsPendingIn old calls p e x) (sym c.in-Ok.ensures.own)
    (replies_pending old window joined c.length-length.result seal.position seal.root turned calls p c.requires.sound fits (c.in_ok-behind.ensures.fits calls p fits) back
    (omega (arith, made.sealed)) (omega (arith, made.length, items, c.requires.below)) refl
    (omega (arith, made.length, items, c.requires.some)) (omega (arith, made.sealed, c.length-length.ensures.value)))

pub returns-in-Ok-clause-taken : goal.returns-in-Ok-clause-taken
returns-in-Ok-clause-taken c = λ s st calling.
    let old : State = c.args.state.now in
    let g : Group = state_group old in
    let window = c.extend_all.new.window in
    let seal = c.args.seal.now in
    let p : List Entry = path_with_entries s c.args.entries.now in
    let ends = decision old.id s (below_last s c.args.entries.now) seal.position (part c.args.part.now) c.args.op in
    let v = reply_move old.id s seal c.args.entries.now (part c.args.part.now) c.args.op in
    let made = c.in_ok-extend_all.ensures in
    let decided : c.in_ok-outcome.outcome ≡ ends = c.in_ok-outcome.ensures s st in
    let shown : ShowsPath g p window = subst (λ (ts : List Tagged). ShowsPath g (onto ts s.path) window) c.as_slice.ensures (made.ok g s st.path) in
    let done : c.is_done.result ≡ is_done ends = c.is_done.ensures ∙ ap is_done decided in
    let sent : c.in-Ok.sent ≡ request_text (request_of g old.id v.next (Commits c.is_done.result)) = c.in-Ok.ensures.sent v.next shown in
    let old_length : c.length-length.result ≡ length s.path = c.length-length.ensures.shows g s.path st.path in
    let items : length c.as_slice.result.now ≡ length c.args.entries.now = ap (λ (ts : List Tagged). length ts) c.as_slice.ensures in
    let position : held_length window ≡ length p =
    omega (arith, made.length, c.length-length.ensures.value, old_length, items, length-onto c.args.entries.now s.path) in
    let own_is : old.own ++ record { position = held_length window; op = c.args.op; done = c.is_done.result } ∷ []
    ≡ s.own ++ record { position = length p; op = c.args.op; done = is_done ends } ∷ [] =
    ap (λ (own : List Own). own ++ record { position = held_length window; op = c.args.op; done = c.is_done.result } ∷ []) (sym st.own)
    ∙ ap (λ n. s.own ++ record { position = n; op = c.args.op; done = c.is_done.result } ∷ []) position
    ∙ ap (λ (b : Bool). s.own ++ record { position = length p; op = c.args.op; done = b } ∷ []) done in
    let r : Pending = record { step = record { send = Some c.in-Ok.sent; returned = Some c.in_ok-outcome.outcome; object = c.in_ok-behind.behind.object }; effect = effect.Replies c.length-length.result seal.position seal.root c.in_ok-behind.behind.turned } in
    subst (λ (x : State). Hears old r x s v) (sym c.in-Ok.ensures.own) (record {
      send = ap Some (sent ∙ ap (λ (b : Bool). request_text (request_of g old.id v.next (Commits b))) done);
      returned = ap Some decided;
      object = c.in_ok-behind.ensures.object s.phase calling ∙ ap (λ (x : Outcome). outcome_after_decision s.phase x) decided;
      stands = record {
        path = shows_advanced g p window seal.position seal.root.bytes (omega (arith, made.sealed)) (omega (arith, made.length, items, c.requires.below)) shown;
        sealed = refl;
        root = refl;
        own = sym own_is;
        awaiting = refl;
        calls = refl;
        phase = sym (c.in_ok-behind.ensures.turned s.phase calling ∙ ap (λ (x : Outcome). after_decision s.phase x) decided);
        halted = st.halted;
      };
    })

pub returns-in-Err-clause-err : goal.returns-in-Err-clause-err
returns-in-Err-clause-err c =
    let old : State = c.args.state.now in
    let after = c.in-Err.ensures.err in
    let window : c.cut_back.new.self ≡ old.window =
    c.cut_back.ensures.value ∙ ap (λ (x : State). held_cut_to x.window c.length-length.result) after
    ∙ ap (λ (n : ℕ). held_cut_to c.extend_all.new.window n) c.length-length.ensures.value ∙ c.in_ok-extend_all.ensures.back in
    ap (λ (x : State). record x { window = c.cut_back.new.self }) after ∙ ap (λ (w : Held). record old { window = w }) window
