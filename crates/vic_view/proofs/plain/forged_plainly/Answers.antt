use Rattle.std.proofs.Common.{◌≡◌, ◌++◌, ◌∙◌, ap, sym, subst, true, false, ℕ, List, reverse}
use Rattle.std.specs.Option.{option_to_list}
use Rattle.std.specs.List.{AllByRecursion}
use Rattle.vic_wire.specs.declared.message.Digest32.{Digest32}
use Rattle.vic_rules.specs.declared.trace.TraceStep.{TraceStep}
use Rattle.vic_rules.specs.History.{AreSteps}
use Rattle.vic_script.specs.Print.{is_forged}
use Rattle.vic_view.specs.Transcripts.{transcript_group}
use Rattle.vic_view.specs.Replay.{read_by}
use Rattle.vic_view.specs.Making.{IsPlaceEntry, hashes_of, hash_at, request_in, made_by, taken_with, has_forged}
use Rattle.vic_view.proofs.Forging.{nothing_made}
use Rattle.vic_view.proofs.PlainForging.{IsAt, AreHashes, spelled_then, are_hashes, forged_then, not_forged_then, made_then}
use Rattle.vic_view.proofs.plain.forged_plainly.Goals as goal

pub loop-i-init : goal.loop-i-init
loop-i-init c = nothing_made (transcript_group c.args.t.now) c.new-made.result c.new-made.ensures

pub hashes_along-requires : goal.hashes_along-requires
hashes_along-requires c =
    let g = transcript_group c.args.t.now in
    let steps = subst (AreSteps g) (ap (reverse {A = TraceStep}) (sym c.as_slice-steps.ensures)) c.requires.steps in
    let here : IsAt g c.as_slice-steps.result.now c.loop-i.i c.index-steps-i.result = record { within = c.loop-i-test.true; is = c.index-steps-i.is; steps = steps } in
    subst (AllByRecursion IsPlaceEntry) (sym c.as_slice.ensures)
    (spelled_then g c.as_slice-steps.result.now c.loop-i.i c.index-steps-i.result here c.in_ok-path.path c.in_ok-path.ensures)

pub returns-then-is_some_forged : goal.returns-then-is_some_forged
returns-then-is_some_forged c =
    let g = transcript_group c.args.t.now in
    let xs = c.as_slice-steps.result.now in
    let i = c.loop-i.i in
    let x = c.index-steps-i.result in
    let hs = c.as_slice-in-loop-i.result.now in
    let steps = subst (AreSteps g) (ap (reverse {A = TraceStep}) (sym c.as_slice-steps.ensures)) c.requires.steps in
    let here : IsAt g xs i x = record { within = c.loop-i-test.true; is = c.index-steps-i.is; steps = steps } in
    let hashes : AreHashes g xs i x hs =
    are_hashes g xs i x c.in_ok-path.path hs c.in_ok-path.ensures (c.as_slice-in-loop-i.ensures ∙ c.in_ok-hashes.ensures ∙ ap (hashes_of g) c.as_slice.ensures) in
    let found : has_forged c.loop-i.made (taken_with (hash_at hs) (read_by x.input x.returned)) ≡ true =
    sym (
    c.is_some_forged.ensures ∙ ap (λ (ts : List (List ℕ)). has_forged ts c.as_slice-in-loop-i-3.result.now) c.as_slice-in-loop-i-2.ensures
    ∙ ap (has_forged c.loop-i.made) (c.as_slice-in-loop-i-3.ensures ∙ c.in_ok-taken.ensures))
    ∙ c.if-is_some_forged.true in
    forged_then g xs i x here hs hashes c.loop-i.made c.loop-i.invariant.1 found ∙ ap (λ (h : List TraceStep). is_forged g h) (ap (reverse {A = TraceStep}) c.as_slice-steps.ensures)

pub loop-i-preserved : goal.loop-i-preserved
loop-i-preserved c =
    let g = transcript_group c.args.t.now in
    let xs = c.as_slice-steps.result.now in
    let i = c.loop-i.i in
    let x = c.index-steps-i.result in
    let hs = c.as_slice-in-loop-i.result.now in
    let steps = subst (AreSteps g) (ap (reverse {A = TraceStep}) (sym c.as_slice-steps.ensures)) c.requires.steps in
    let here : IsAt g xs i x = record { within = c.loop-i-test.true; is = c.index-steps-i.is; steps = steps } in
    let hashes : AreHashes g xs i x hs =
    are_hashes g xs i x c.in_ok-path.path hs c.in_ok-path.ensures (c.as_slice-in-loop-i.ensures ∙ c.in_ok-hashes.ensures ∙ ap (hashes_of g) c.as_slice.ensures) in
    let found : has_forged c.loop-i.made (taken_with (hash_at hs) (read_by x.input x.returned)) ≡ false =
    sym (
    c.is_some_forged.ensures ∙ ap (λ (ts : List (List ℕ)). has_forged ts c.as_slice-in-loop-i-3.result.now) c.as_slice-in-loop-i-2.ensures
    ∙ ap (has_forged c.loop-i.made) (c.as_slice-in-loop-i-3.ensures ∙ c.in_ok-taken.ensures))
    ∙ c.if-is_some_forged.false in
    let made : c.put_made.new.made ≡ c.loop-i.made ++ option_to_list (made_by (hash_at hs) x.client (request_in x.sent)) =
    c.in_ok-put_made.ensures
    ∙ ap (λ (ks : List Digest32). c.loop-i.made ++ option_to_list (made_by (hash_at ks) x.client (request_in x.sent))) (c.as_slice-in-loop-i-4.ensures ∙ sym c.as_slice-in-loop-i.ensures) in (
      not_forged_then g xs i x here hs hashes c.loop-i.made c.loop-i.invariant.1 c.loop-i.invariant.0 found,
      made_then g xs i x here hs hashes c.loop-i.made c.put_made.new.made c.loop-i.invariant.1 made,
    )
