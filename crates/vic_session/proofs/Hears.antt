-- A client takes a payload.
use Rattle.std.proofs.Common.{◌≡◌, ℕ, ◌≤◌, Bool, true, false, ◌&&◌, List, ◌++◌, Option, Some, None, is_none, Result, Ok, Err, OnErr, inr, if◌then◌else◌, refl, sym, ap, subst, ◌∙◌, append_assoc, append-nil, arith}
use Rattle.vic_dict.specs.declared.op.Outcome.{Outcome}
use Rattle.vic_rules.specs.declared.object.ObjectOutcome.{ObjectOutcome}
use Rattle.vic_dict.specs.declared.bytes.NoMemory.{NoMemory}
use Rattle.vic_wire.specs.declared.message.Digest32.{Digest32}
use Rattle.vic_rules.specs.declared.state.Awaiting.{Awaiting}
use Rattle.vic_rules.specs.declared.trace.Input.TheVariants as input
use Rattle.vic_rules.specs.Client.{Standing, Move, Sending, payload_of, awaits_nothing}
use Rattle.vic_client.specs.declared.step.Step.{Step}
use Rattle.vic_client.specs.Kept.{KeptClient, IsSameClient, kept_move, is_idle}
use Rattle.vic_client.specs.Shows.{Shows}
use Rattle.vic_session.specs.declared.place.At.TheVariants as at
use Rattle.vic_session.specs.declared.place.Place.{Place}
use Rattle.vic_session.specs.Talks.{Talk, Talker, talk_after_step, one_of, sent_in, talk_after_payload, talk_by_check, talk_after_line, outcome_lines, returned_in, object_in, digest_of, is_idle as rests}
use Rattle.vic_session.specs.Sessions.{IsLeftAt}
use Rattle.vic_session.specs.Talking.{On, Went, GoesTo, IsDoing, Heard, Stands, PrintsFront, IsShortOf, calls_of}
use Rattle.vic_session.proofs.Steps.{moved, standing_step, sent_step, heard, halted_none, sends_busy}
use Rattle.vic_session.proofs.Begins.{move_is, sent_is, stands_on}
use Rattle.vic_session.proofs.Extends.{after_step, hears_is, extends_hears}
use Rattle.vic_session.proofs.Lined.{front_of_on}

-- the client took the payload
pub heard_of : (w : Talker) (t : Talk) (start : List ℕ) (c new : KeptClient) (p : Place) (out payload : List ℕ) (r : Step) → On w t start c p out → IsDoing p.doing t.doing → IsSameClient c new
    → Shows c r new (kept_move c t.now (input.Payload payload)) → Heard w t start payload r new p out
heard_of w t start c new p out payload r on at same shows = record {
  me = same.id ∙ on.me;
  group = same.group ∙ on.group;
  stands_so = stands_on w t start c p out on (input.Payload payload) new shows.stands;
  few = on.few;
  total = on.total;
  number = on.number;
  behind = on.behind;
  lines = on.lines;
  text = on.text;
  doing = at;
  send = shows.send ∙ sent_is w t start c p out on (input.Payload payload);
  returned = shows.returned ∙ ap (λ (v : Move). v.returns) (move_is w t start c p out on (input.Payload payload));
  object = shows.object ∙ ap (λ (v : Move). v.object) (move_is w t start c p out on (input.Payload payload));
}

-- a payload calls nothing but what was to be called
pub few_after : (c new : KeptClient) (number : ℕ) (payload : List ℕ) (r : Step) → (so : Stands c number) → Shows c r new (kept_move c so.0 (input.Payload payload)) → new.calls ≤ number
few_after c new number payload r so shows =
    let most = (heard (record { mode = c.mode; count = c.count; key = c.key }) c.id so.0 payload).calls in
    omega (arith, so.1.1, most, shows.stands.calls)

-- where memory runs out behind the step, the client stands there
pub short_behind : (w : Talker) (t : Talk) (start payload : List ℕ) (r : Step) (c new : KeptClient) (p : Place) (out : List ℕ) → Heard w t start payload r c p out → (result : Result (Option (List ℕ)) NoMemory)
    → OnErr result (new ≡ c) → OnErr result (IsShortOf w t payload new)
short_behind w t start payload r c new p out h (Ok sent) e = e
short_behind w t start payload r c new p out h (Err none) e = inr (subst (λ (k : KeptClient). IsLeftAt w.group w.me (talk_after_step w t (input.Payload payload)).now k) (sym e) (h.me, (h.group, h.stands_so)))

module _ (w : Talker) (t : Talk) (start payload : List ℕ) (r : Step) (c : KeptClient) (p : Place) (out : List ℕ) (h : Heard w t start payload r c p out) where
  u : Talk
  u = talk_after_step w t (input.Payload payload)

  halted_is : c.halted ≡ (talk_after_step w t (input.Payload payload)).now.halted
  halted_is = sym h.stands_so.halted

  few_u : calls_of (talk_after_step w t (input.Payload payload)).now ≤ p.number
  few_u =
      let most = (heard w.group w.me t.now payload).calls in
      subst (λ (s : Standing). calls_of s ≤ p.number) (sym (standing_step w t (input.Payload payload))) (omega (arith, h.few, most))

  text_u : (talk_after_step w t (input.Payload payload)).text ≡ t.text
  unfolding talk_after_step
  text_u = refl

  returned_u : returned_in (talk_after_step w t (input.Payload payload)).history ≡ r.returned
  unfolding talk_after_step
  returned_u = sym h.returned

  object_u : object_in (talk_after_step w t (input.Payload payload)).history ≡ r.object
  unfolding talk_after_step
  object_u = sym h.object

  hears_by : (k : Option ℕ) → c.halted ≡ k → talk_after_payload w t payload ≡ talk_by_check w (after_step w t payload) payload k
  hears_by k e = hears_is w t payload ∙ ap (talk_by_check w (after_step w t payload) payload) (sym halted_is ∙ e)

  -- where it stands after the step, once the outcome was printed
  on_after : (k : Option ℕ) → c.halted ≡ k → (new : List ℕ) → new ≡ out ++ outcome_lines k r.returned r.object → On w (after_step w t payload) start c p new
  unfolding talk_after_step
  on_after k e new is = record {
    me = h.me;
    group = h.group;
    stands_so = h.stands_so;
    few = few_u;
    total = h.total;
    number = h.number;
    behind = h.behind;
    lines = h.lines;
    text = is ∙ ap (λ (l : List ℕ). l ++ outcome_lines k r.returned r.object) h.text ∙ append_assoc start t.text (outcome_lines k r.returned r.object)
        ∙ ap (λ (l : List ℕ). start ++ (t.text ++ l)) (
        ap (λ (j : Option ℕ). outcome_lines j r.returned r.object) (sym e ∙ halted_is)
        ∙ ap (λ (o : Option Outcome). outcome_lines (talk_after_step w t (input.Payload payload)).now.halted o r.object) (sym returned_u)
        ∙ ap (λ (q : Option ObjectOutcome). outcome_lines (talk_after_step w t (input.Payload payload)).now.halted (returned_in (talk_after_step w t (input.Payload payload)).history) q) (sym object_u)
        );
  }

  -- it has halted
  pub went_halted : (k : ℕ) (d : Digest32) → c.halted ≡ Some k → d.bytes ≡ digest_of payload → Went w t (talk_after_payload w t payload) start c (record p { doing = at.Halts k d }) out None
  went_halted k d e hash =
      let on = on_after (Some k) e out (sym (append-nil out)) in
      let stops = halted_none w.group w.me t.now payload k (sym (ap (λ (s : Standing). s.halted) (standing_step w t (input.Payload payload))) ∙ (sym halted_is ∙ e)) in
      subst (λ (v : Talk). Went w t v start c (record p { doing = at.Halts k d }) out None) (sym (hears_by (Some k) e))
      (record {
        on = record { me = on.me; group = on.group; stands_so = on.stands_so; few = on.few; total = on.total; number = on.number; behind = on.behind; lines = on.lines; text = on.text };
        doing = (payload, (refl, hash));
        sends = sent_step w t (input.Payload payload) ∙ ap (λ (o : Option Sending). sent_in t.history ++ one_of (payload_of w.group w.me (moved w t (input.Payload payload)).next o)) stops;
      })

  sent_u : sent_in (talk_after_step w t (input.Payload payload)).history ≡ sent_in t.history ++ one_of r.send
  sent_u = sent_step w t (input.Payload payload) ∙ ap (λ (o : Option (List ℕ)). sent_in t.history ++ one_of o) (sym h.send)

  doing_u : IsDoing p.doing (after_step w t payload).doing
  unfolding talk_after_step
  doing_u = h.doing

  not_idle : rests (talk_after_step w t (input.Payload payload)).now ≡ false → c.halted ≡ None → talk_after_payload w t payload ≡ after_step w t payload
  not_idle busy e =
      hears_by None e ∙ ap (λ (b : Bool). if b then talk_after_line w (after_step w t payload) (after_step w t payload).doing else after_step w t payload) busy

  -- it is not idle
  pub went_on : (new : List ℕ) → c.halted ≡ None → new ≡ out ++ outcome_lines None r.returned r.object → rests (talk_after_step w t (input.Payload payload)).now ≡ false → Went w t (talk_after_payload w t payload) start c p new r.send
  went_on new e is busy =
      subst (λ (v : Talk). Went w t v start c p new r.send) (sym (not_idle busy e))
      (record { on = on_after None e new is; doing = doing_u; sends = sent_u })

  -- since it sends something
  pub went_sends : (new sent : List ℕ) → c.halted ≡ None → new ≡ out ++ outcome_lines None r.returned r.object → r.send ≡ Some sent → Went w t (talk_after_payload w t payload) start c p new (Some sent)
  went_sends new sent e is sends =
      let waits = sends_busy w.group w.me t.now payload sent (sym sends ∙ h.send) in
      let busy : awaits_nothing (talk_after_step w t (input.Payload payload)).now.awaiting ≡ false = ap (λ (s : Standing). awaits_nothing s.awaiting) (standing_step w t (input.Payload payload)) ∙ waits in
      subst (λ (o : Option (List ℕ)). Went w t (talk_after_payload w t payload) start c p new o) sends
      (went_on new e is (ap (λ (b : Bool). b && is_none (talk_after_step w t (input.Payload payload)).now.halted) busy))

  idle_is : rests (talk_after_step w t (input.Payload payload)).now ≡ is_idle c
  idle_is =
      ap (λ (a : Awaiting). awaits_nothing a && is_none (talk_after_step w t (input.Payload payload)).now.halted) h.stands_so.awaiting
      ∙ ap (λ (k : Option ℕ). awaits_nothing c.awaiting && is_none k) h.stands_so.halted

  -- or awaits another answer
  pub went_waits : (new : List ℕ) → c.halted ≡ None → new ≡ out ++ outcome_lines None r.returned r.object → r.send ≡ None → is_idle c ≡ false → Went w t (talk_after_payload w t payload) start c p new None
  went_waits new e is sends busy = subst (λ (o : Option (List ℕ)). Went w t (talk_after_payload w t payload) start c p new o) sends (went_on new e is (idle_is ∙ busy))

  -- it is idle, and where it went from there
  pub at_end : (new : List ℕ) → c.halted ≡ None → new ≡ out ++ outcome_lines None r.returned r.object → On w (after_step w t payload) start c p new × IsDoing p.doing (after_step w t payload).doing
  at_end new e is = (on_after None e new is, doing_u)

  pub went_end : c.halted ≡ None → r.send ≡ None → is_idle c ≡ true → (after : KeptClient) (q : Place) (text : List ℕ) (res : Result (Option (List ℕ)) NoMemory)
      → GoesTo w (after_step w t payload) (talk_after_line w (after_step w t payload) (after_step w t payload).doing) start after q text res → GoesTo w t (talk_after_payload w t payload) start after q text res
  went_end e sends idle after q text res g =
      let is = hears_by None e ∙ ap (λ (b : Bool). if b then talk_after_line w (after_step w t payload) (after_step w t payload).doing else after_step w t payload) (idle_is ∙ idle) in
      subst (λ (v : Talk). GoesTo w t v start after q text res) (sym is) (by_result res g)
    where
      past : sent_in (after_step w t payload).history ≡ sent_in t.history
      past = sent_u ∙ ap (λ (o : Option (List ℕ)). sent_in t.history ++ one_of o) sends ∙ append-nil (sent_in t.history)

      by_result : (res : Result (Option (List ℕ)) NoMemory) → GoesTo w (after_step w t payload) (talk_after_line w (after_step w t payload) (after_step w t payload).doing) start after q text res
          → GoesTo w t (talk_after_line w (after_step w t payload) (after_step w t payload).doing) start after q text res
      by_result (Ok sent) g = record { on = g.on; doing = g.doing; sends = g.sends ∙ ap (λ (l : List (List ℕ)). l ++ one_of sent) past }
      by_result (Err e) g = g

  -- where memory runs out before anything is printed
  pub front_heard : (new : List ℕ) → new ≡ out → PrintsFront start (talk_after_payload w t payload) new
  front_heard new same = front_of_on w t (talk_after_payload w t payload) start new (extends_hears w t payload) (same ∙ h.text)
