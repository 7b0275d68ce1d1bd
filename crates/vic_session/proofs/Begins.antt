-- A line is begun.
use Rattle.std.proofs.Common.{◌≡◌, ◌≢◌, ◌⊎◌, inl, inr, ℕ, zero, suc, ◌+◌, ◌-◌, ◌≤◌, Bool, List, ◌++◌, Option, Some, if◌then◌else◌, eq-eqb, refl, sym, ap, subst, ◌∙◌, append_assoc, arith}
use Rattle.std.proofs.lemmas.Bool.{ne_eqb}
use Rattle.vic_dict.specs.declared.op.Op.{Op}
use Rattle.vic_wire.specs.Hashes.{Group}
use Rattle.vic_rules.specs.declared.object.ObjectCall.{ObjectCall}
use Rattle.vic_rules.specs.declared.object.ObjectCall.TheVariants as object
use Rattle.vic_rules.specs.declared.trace.Input.{Input}
use Rattle.vic_rules.specs.declared.trace.Input.TheVariants as input
use Rattle.vic_rules.specs.Client.{Standing, Move, step, payload_of}
use Rattle.vic_client.specs.Kept.{KeptClient, StandsFor, IsSameClient, kept_group, kept_move, sent_at}
use Rattle.vic_text.specs.declared.client_line.ClientLine.TheVariants as line
use Rattle.vic_session.specs.declared.place.At.{At}
use Rattle.vic_session.specs.declared.place.At.TheVariants as at
use Rattle.vic_session.specs.declared.place.Place.{Place}
use Rattle.vic_session.specs.Talks.{Talk, Talker, Doing, Settles, talk_after_step, talk_after_asking, talk_from_line, talk_with_state, state_line, unsettled_count, one_of, sent_in, talk_at_next_line, talk_after_line}
use Rattle.vic_session.specs.Talking.{On, Went, IsDoing, IsBusy, calls_of}
use Rattle.vic_session.proofs.Steps.{standing_step, moved, sent_step}

module _ (w : Talker) (t : Talk) (start : List ℕ) (c : KeptClient) (p : Place) (out : List ℕ) (on : On w t start c p out) where
  -- the client's move is the talk's
  pub move_is : (given : Input) → kept_move c t.now given ≡ moved w t given
  move_is given = ap (λ (g : Group). step g c.id t.now given) on.group ∙ ap (λ (m : ℕ). step w.group m t.now given) on.me

  pub sent_is : (given : Input) → sent_at c (kept_move c t.now given) ≡ payload_of w.group w.me (moved w t given).next (moved w t given).sends
  sent_is given =
      ap (λ (v : Move). payload_of (kept_group c) c.id v.next v.sends) (move_is given)
      ∙ ap (λ (g : Group). payload_of g c.id (moved w t given).next (moved w t given).sends) on.group
      ∙ ap (λ (m : ℕ). payload_of w.group m (moved w t given).next (moved w t given).sends) on.me

  -- the client stands where the talk does after a step
  pub stands_on : (given : Input) (new : KeptClient) → StandsFor new (kept_move c t.now given).next → StandsFor new (talk_after_step w t given).now
  stands_on given new so = subst (λ (s : Standing). StandsFor new s) (ap (λ (v : Move). v.next) (move_is given) ∙ sym (standing_step w t given)) so

  -- the client asked
  pub asks_went : (given : Input) (d : Doing) (doing : At) (new : KeptClient) (sent : List ℕ) → IsSameClient c new → StandsFor new (kept_move c t.now given).next → Some sent ≡ sent_at c (kept_move c t.now given)
      → calls_of (moved w t given).next ≤ p.number → IsDoing doing d → Went w t (talk_after_asking w t given d) start new (record p { doing = doing }) out (Some sent)
  unfolding talk_after_step
  asks_went given d doing new sent same so is few at = record {
    on = record {
      me = same.id ∙ on.me;
      group = same.group ∙ on.group;
      stands_so = stands_on given new so;
      few = subst (λ (s : Standing). calls_of s ≤ p.number) (sym (standing_step w t given)) few;
      total = on.total;
      number = on.number;
      behind = on.behind;
      lines = on.lines;
      text = on.text;
    };
    doing = at;
    sends = sent_step w t given ∙ ap (λ (o : Option (List ℕ)). sent_in t.history ++ one_of o) (sym (is ∙ sent_is given));
  }

  -- the state was told
  pub tells_on : (new : List ℕ) → new ≡ out ++ state_line t.now → On w (talk_with_state t) start c p new
  tells_on new is = record {
    me = on.me;
    group = on.group;
    stands_so = on.stands_so;
    few = on.few;
    total = on.total;
    number = on.number;
    behind = on.behind;
    lines = on.lines;
    text = is ∙ ap (λ (l : List ℕ). l ++ state_line t.now) on.text ∙ append_assoc start t.text (state_line t.now);
  }

-- a settling with nothing to poll for
pub settle_next : (w : Talker) (t : Talk) (n : ℕ) → (n ≡ 0) ⊎ (unsettled_count t ≡ 0) → (next : Talk → Talk) → talk_from_line w t (Some (line.Settle n)) next ≡ next (talk_with_state t)
settle_next w t zero or next = refl
settle_next w t (suc n) (inl e) next = absurd cc
settle_next w t (suc n) (inr e) next = ap (λ (b : Bool). if b then next (talk_with_state t) else talk_after_asking w t input.Poll (Settles n)) (eq-eqb (unsettled_count t) 0 e)

pub settle_asks : (w : Talker) (t : Talk) (n : ℕ) → n ≢ 0 → unsettled_count t ≢ 0 → (next : Talk → Talk) → talk_from_line w t (Some (line.Settle n)) next ≡ talk_after_asking w t input.Poll (Settles (n - 1))
settle_asks w t zero some many next = absurd (some refl)
settle_asks w t (suc n) some many next = ap (λ (b : Bool). if b then next (talk_with_state t) else talk_after_asking w t input.Poll (Settles n)) (ne_eqb (unsettled_count t) 0 many)
    ∙ (let less : n ≡ suc n - 1 = omega arith in ap (λ (m : ℕ). talk_after_asking w t input.Poll (Settles m)) less)

-- how often the client has called, once it has asked
pub calls_poll : (w : Talker) (t : Talk) (n : ℕ) → calls_of t.now ≤ n → calls_of (moved w t input.Poll).next ≤ n
unfolding step
calls_poll w t n few = few

pub calls_sync : (w : Talker) (t : Talk) (n : ℕ) → calls_of t.now ≤ n → calls_of (moved w t input.Sync).next ≤ n
unfolding step
calls_sync w t n few = few

pub calls_call : (w : Talker) (t : Talk) (n : ℕ) (o : Op) → t.now.calls + 1 ≤ n → calls_of (moved w t (input.Call o)).next ≤ n
unfolding step
calls_call w t n o few = omega (arith, few)

-- of a store the call is still to come
pub calls_object : (w : Talker) (t : Talk) (n : ℕ) (c : ObjectCall) → t.now.calls + 1 ≤ n → calls_of (moved w t (input.Object c)).next ≤ n
unfolding step
calls_object w t n (object.Store k c) few = few
calls_object w t n (object.Load k) few = omega (arith, few)
calls_object w t n (object.Erase k) few = omega (arith, few)
calls_object w t n (object.Names p) few = omega (arith, few)

-- a settling goes on
pub ends_again : (w : Talker) (t : Talk) (n : ℕ) → n ≢ 0 → unsettled_count t ≢ 0 → talk_after_line w t (Settles n) ≡ talk_after_asking w t input.Poll (Settles (n - 1))
ends_again w t zero some many = absurd (some refl)
ends_again w t (suc n) some many =
    ap (λ (b : Bool). if b then (let u = talk_with_state t in talk_at_next_line w u u.lines) else talk_after_asking w t input.Poll (Settles n)) (ne_eqb (unsettled_count t) 0 many)
    ∙ (let less : n ≡ suc n - 1 = omega arith in ap (λ (m : ℕ). talk_after_asking w t input.Poll (Settles m)) less)

-- a settling is over
pub ends_told : (w : Talker) (t : Talk) (n : ℕ) → (n ≡ 0) ⊎ (unsettled_count t ≡ 0) → talk_after_line w t (Settles n) ≡ talk_at_next_line w (talk_with_state t) t.lines
ends_told w t zero or = refl
ends_told w t (suc n) (inl e) = absurd cc
ends_told w t (suc n) (inr e) = ap (λ (b : Bool). if b then (let u = talk_with_state t in talk_at_next_line w u u.lines) else talk_after_asking w t input.Poll (Settles n)) (eq-eqb (unsettled_count t) 0 e)

-- what is at neither a call nor a settling tells the state
pub ends_tells : (w : Talker) (t : Talk) (a : At) → IsBusy a → (a ≡ at.Calls → ⊥) → ((n : ℕ) → a ≡ at.Settles n → ⊥) → IsDoing a t.doing → talk_after_line w t t.doing ≡ talk_at_next_line w (talk_with_state t) t.lines
ends_tells w t at.Calls busy calls settles is = absurd (calls refl)
ends_tells w t at.Tells busy calls settles is = ap (λ (d : Doing). talk_after_line w t d) is
ends_tells w t (at.Settles n) busy calls settles is = absurd (settles n refl)
ends_tells w t at.Leaves busy calls settles is = absurd busy
ends_tells w t (at.Bad k) busy calls settles is = absurd busy
ends_tells w t (at.Halts k h) busy calls settles is = absurd busy
