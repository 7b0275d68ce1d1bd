-- A talk that goes on has made a few steps more, and its client stands where its steps lead.
use Rattle.std.proofs.Common.{◌≡◌, ◌⊎◌, inl, inr, ℕ, zero, suc, ◌+◌, ◌≤◌, Bool, true, false, List, [], ◌∷◌, ◌++◌, fold, length, length-append, Option, Some, None, nat_eq, nat_lt, if◌then◌else◌, eq-eqb, refl, sym, ap, subst, ◌∙◌, append_assoc, arith}
use Rattle.vic_wire.specs.Hashes.{Group}
use Rattle.vic_rules.specs.declared.trace.TraceStep.{TraceStep}
use Rattle.vic_rules.specs.declared.trace.Input.{Input}
use Rattle.vic_rules.specs.declared.trace.Input.TheVariants as input
use Rattle.vic_rules.specs.Client.{Standing, at_start, step}
use Rattle.vic_rules.specs.History.{standing}
use Rattle.vic_script.specs.Lines.{lines_of}
use Rattle.vic_script.specs.Run.{script_limit}
use Rattle.vic_text.specs.declared.client_line.ClientLine.{ClientLine}
use Rattle.vic_text.specs.declared.client_line.ClientLine.TheVariants as line
use Rattle.vic_text.specs.ClientLines.{client_line_of}
use Rattle.vic_session.specs.Talks.{Talk, Talker, Doing, Calls, Tells, Settles, Leaves, Bad, Halts, talk_after_step, talk_after_asking, talk_from_line, talk_with_state, unsettled_count, talk_at_next_line, talk_after_line, talk_by_check, talk_after_payload, is_idle, fresh_talk, opening_talk, talk, talker}
use Rattle.vic_session.proofs.Extends.{here, after_step}

-- where the client of a talk stands is where its steps lead
abbrev pub StandsThere : Talker → Talk → Type 0
StandsThere w t = t.now ≡ standing w.group w.me t.history

module _ (w : Talker) where
  -- at most so many steps more were made, and these lead on
  pub record Reaches (most : ℕ) (t v : Talk) : Type 0 where
    pub more : List TraceStep
    pub is : v.history ≡ more ++ t.history
    pub few : length more ≤ most
    pub there : StandsThere w t → StandsThere w v

  reaches_same : (n : ℕ) (t v : Talk) → v.history ≡ t.history → v.now ≡ t.now → Reaches n t v
  reaches_same n t v h s = record { more = []; is = h; few = omega arith; there = λ at. s ∙ at ∙ ap (standing w.group w.me) (sym h) }

  reaches_more : (n m : ℕ) (t u v : Talk) → Reaches n t u → Reaches m u v → Reaches (n + m) t v
  reaches_more n m t u v a b = record {
    more = b.more ++ a.more;
    is = b.is ∙ ap (λ (l : List TraceStep). b.more ++ l) a.is ∙ sym (append_assoc b.more a.more t.history);
    few = omega (arith, length-append b.more a.more, a.few, b.few);
    there = λ at. b.there (a.there at);
  }

  reaches_from : (n : ℕ) (t u v : Talk) → u.history ≡ t.history → u.now ≡ t.now → Reaches n u v → Reaches n t v
  reaches_from n t u v h s r = record {
    more = r.more;
    is = r.is ∙ ap (λ (l : List TraceStep). r.more ++ l) h;
    few = r.few;
    there = λ at. r.there (s ∙ at ∙ ap (standing w.group w.me) (sym h));
  }

  reaches_steps : (t : Talk) (given : Input) → Reaches 1 t (talk_after_step w t given)
  unfolding talk_after_step standing
  reaches_steps t given = record {
    more = _ ∷ [];
    is = refl;
    few = omega arith;
    there = λ at.
        ap (λ (s : Standing). (step w.group w.me s given).next) at
        ∙ sym (ap (λ (b : Bool). if b then (step w.group w.me (standing w.group w.me t.history) given).next else standing w.group w.me t.history) (eq-eqb w.me w.me refl));
  }

  reaches_asks : (t : Talk) (given : Input) (d : Doing) → Reaches 1 t (talk_after_asking w t given d)
  reaches_asks t given d = let r = reaches_steps t given in record { more = r.more; is = r.is; few = r.few; there = r.there }

  reaches_either : (n : ℕ) (b : Bool) (t u v : Talk) → Reaches n t u → Reaches n t v → Reaches n t (if b then u else v)
  reaches_either n true t u v x y = x
  reaches_either n false t u v x y = y

  reaches_begins : (t : Talk) (l : Option ClientLine) (next : Talk → Talk) → ((u : Talk) → Reaches 1 u (next u)) → Reaches 1 t (talk_from_line w t l next)
  reaches_begins t None next h = reaches_same 1 t (record t { doing = Bad 1 }) refl refl
  reaches_begins t (Some line.Skip) next h = h t
  reaches_begins t (Some (line.Call o)) next h = reaches_asks t (input.Call o) Calls
  reaches_begins t (Some (line.Object c)) next h = reaches_asks t (input.Object c) Calls
  reaches_begins t (Some line.Poll) next h = reaches_asks t input.Poll Tells
  reaches_begins t (Some line.Sync) next h = reaches_asks t input.Sync Tells
  reaches_begins t (Some (line.Settle zero)) next h = reaches_from 1 t (talk_with_state t) (next (talk_with_state t)) refl refl (h (talk_with_state t))
  reaches_begins t (Some (line.Settle (suc n))) next h =
      reaches_either 1 (nat_eq (unsettled_count t) 0) t (next (talk_with_state t)) (talk_after_asking w t input.Poll (Settles n))
      (reaches_from 1 t (talk_with_state t) (next (talk_with_state t)) refl refl (h (talk_with_state t))) (reaches_asks t input.Poll (Settles n))

  pub reaches_on : (t : Talk) (texts : List (List ℕ)) → Reaches 1 t (talk_at_next_line w t texts)
  unfolding talk_at_next_line
  reaches_on t [] = reaches_same 1 t (record t { doing = Leaves; lines = [] }) refl refl
  reaches_on t (text ∷ texts) =
      let u = here w t text texts in
      reaches_from 1 t u (talk_at_next_line w t (text ∷ texts)) refl refl
      (reaches_either 1 (nat_lt script_limit u.behind) u (record u { doing = Bad 7 }) (talk_from_line w u (client_line_of w.group.mode text) (λ v. talk_at_next_line w v texts))
      (reaches_same 1 u (record u { doing = Bad 7 }) refl refl) (reaches_begins u (client_line_of w.group.mode text) (λ v. talk_at_next_line w v texts) (λ v. reaches_on v texts)))

  reaches_told : (t : Talk) → Reaches 1 t (let u = talk_with_state t in talk_at_next_line w u u.lines)
  reaches_told t = let u = talk_with_state t in reaches_from 1 t u (talk_at_next_line w u u.lines) refl refl (reaches_on u u.lines)

  reaches_ends : (t : Talk) (d : Doing) → Reaches 1 t (talk_after_line w t d)
  reaches_ends t Calls = reaches_on t t.lines
  reaches_ends t Tells = reaches_told t
  reaches_ends t (Settles zero) = reaches_told t
  reaches_ends t (Settles (suc n)) =
      reaches_either 1 (nat_eq (unsettled_count t) 0) t (let u = talk_with_state t in talk_at_next_line w u u.lines) (talk_after_asking w t input.Poll (Settles n)) (reaches_told t) (reaches_asks t input.Poll (Settles n))
  reaches_ends t Leaves = reaches_same 1 t t refl refl
  reaches_ends t (Bad k) = reaches_same 1 t t refl refl
  reaches_ends t (Halts k p) = reaches_same 1 t t refl refl

  reaches_go : (t : Talk) (payload : List ℕ) (k : Option ℕ) → Reaches 1 t (talk_by_check w t payload k)
  reaches_go t payload (Some k) = reaches_same 1 t (record t { doing = Halts k payload }) refl refl
  reaches_go t payload None = reaches_either 1 (is_idle t.now) t (talk_after_line w t t.doing) t (reaches_ends t t.doing) (reaches_same 1 t t refl refl)

  -- from the step on a payload
  pub reaches_behind : (t : Talk) (payload : List ℕ) → Reaches 1 (talk_after_step w t (input.Payload payload)) (talk_after_payload w t payload)
  unfolding talk_after_payload
  reaches_behind t payload =
      let u = talk_after_step w t (input.Payload payload) in
      reaches_from 1 u (after_step w t payload) (talk_after_payload w t payload) refl refl (reaches_go (after_step w t payload) payload u.now.halted)

  pub reaches_step : (t : Talk) (payload : List ℕ) → Reaches 1 t (talk_after_step w t (input.Payload payload))
  reaches_step t payload = reaches_steps t (input.Payload payload)

  pub reaches_hears : (t : Talk) (payload : List ℕ) → Reaches 2 t (talk_after_payload w t payload)
  reaches_hears t payload = reaches_more 1 1 t (talk_after_step w t (input.Payload payload)) (talk_after_payload w t payload) (reaches_step t payload) (reaches_behind t payload)

  all_there : (t : Talk) (payloads : List (List ℕ)) → StandsThere w t → StandsThere w (fold (talk_after_payload w) t payloads)
  all_there t [] at = at
  all_there t (p ∷ ps) at = all_there (talk_after_payload w t p) ps ((reaches_hears t p).there at)

-- a client that has done nothing yet
fresh_there : (w : Talker) → w.from ≡ at_start → StandsThere w (fresh_talk w.from)
unfolding standing
fresh_there w is = is

pub talk_there : (g : Group) (me : ℕ) (script : List ℕ) (taken : List (List ℕ)) → StandsThere (talker g me script) (talk (talker g me script) script taken)
unfolding talk
talk_there g me script taken =
    let w = talker g me script in
    all_there w (opening_talk w script) taken ((reaches_on w (fresh_talk w.from) (lines_of script)).there (fresh_there w refl))
