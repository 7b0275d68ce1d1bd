-- The next line of a script is begun.
use Rattle.std.proofs.Common.{◌≡◌, ℕ, ◌+◌, ◌<◌, ◌≤◌, Bool, List, [], ◌∷◌, ◌++◌, length, Option, Some, None, Result, Ok, Err, if◌then◌else◌, refl, sym, ap, subst, ◌∙◌, append-nil, arith}
use Rattle.std.proofs.lemmas.Bool.{lt-ltb, le-ltb}
use Rattle.vic_rules.specs.declared.trace.TraceStep.{TraceStep}
use Rattle.vic_client.specs.Kept.{KeptClient}
use Rattle.vic_script.specs.Lines.{lines_of}
use Rattle.vic_script.specs.Run.{script_limit, line_end}
use Rattle.vic_text.specs.ClientLines.{client_line_of}
use Rattle.vic_session.specs.declared.place.At.{At}
use Rattle.vic_session.specs.declared.place.At.TheVariants as at
use Rattle.vic_session.specs.declared.place.Place.{Place}
use Rattle.vic_session.specs.declared.lines.Begun.TheVariants as begun
use Rattle.vic_session.specs.Talks.{Talk, Talker, Doing, Bad, Leaves, talk_after_asking, talk_from_line, talk_at_next_line, one_of, sent_in, talk_with_state}
use Rattle.vic_dict.specs.declared.bytes.NoMemory.{NoMemory}
use Rattle.vic_session.specs.Talking.{On, GoesTo, Went, Began, Lined, IsDoing, PrintsFront}
use Rattle.vic_session.proofs.Extends.{here, Extends}

pub goes_long : (w : Talker) (t : Talk) (text : List ℕ) (texts : List (List ℕ)) → script_limit < line_end w.total t.behind text → talk_at_next_line w t (text ∷ texts) ≡ record (here w t text texts) { doing = Bad 7 }
unfolding talk_at_next_line
goes_long w t text texts long =
    ap (λ (b : Bool). if b then record (here w t text texts) { doing = Bad 7 } else talk_from_line w (here w t text texts) (client_line_of w.group.mode text) (λ u. talk_at_next_line w u texts)) (lt-ltb script_limit (line_end w.total t.behind text) long)

pub goes_short : (w : Talker) (t : Talk) (text : List ℕ) (texts : List (List ℕ)) → line_end w.total t.behind text ≤ script_limit → talk_at_next_line w t (text ∷ texts) ≡ talk_from_line w (here w t text texts) (client_line_of w.group.mode text) (λ u. talk_at_next_line w u texts)
unfolding talk_at_next_line
goes_short w t text texts short =
    ap (λ (b : Bool). if b then record (here w t text texts) { doing = Bad 7 } else talk_from_line w (here w t text texts) (client_line_of w.group.mode text) (λ u. talk_at_next_line w u texts)) (le-ltb script_limit (line_end w.total t.behind text) short)

pub goes_none : (w : Talker) (t : Talk) → talk_at_next_line w t [] ≡ record t { doing = Leaves; lines = [] }
unfolding talk_at_next_line
goes_none w t = refl

module _ (w : Talker) (t : Talk) (start : List ℕ) (c : KeptClient) (p : Place) (out : List ℕ) (on : On w t start c p out) where
  -- what the client is at matters not to where it is
  pub on_doing : (d : Doing) (a : At) → On w (record t { doing = d }) start c (record p { doing = a }) out
  on_doing d a = record { me = on.me; group = on.group; stands_so = on.stands_so; few = on.few; total = on.total; number = on.number; behind = on.behind; lines = on.lines; text = on.text }

  -- the same, of a talk that has made no step
  pub went_still : (d : Doing) (a : At) → IsDoing a d → Went w t (record t { doing = d }) start c (record p { doing = a }) out None
  went_still d a is = record { on = on_doing d a; doing = is; sends = sym (append-nil (sent_in t.history)) }

-- at the next line
module _ (w : Talker) (t : Talk) (start : List ℕ) (c : KeptClient) (p q : Place) (out text : List ℕ) (on : On w t start c p out) (lines : lines_of p.rest.now ≡ text ∷ lines_of q.rest.now) (total : q.total ≡ p.total)
    (behind : q.behind ≡ line_end p.total p.behind text) (number : q.number ≡ p.number + 1) where
  texts : List (List ℕ)
  texts = lines_of q.rest.now

  behind_is : line_end w.total t.behind text ≡ q.behind
  behind_is = ap (λ (n : ℕ). line_end n t.behind text) on.total ∙ ap (λ (n : ℕ). line_end p.total n text) on.behind ∙ sym behind

  pub on_here : On w (here w t text (lines_of q.rest.now)) start c q out
  on_here = record {
    me = on.me;
    group = on.group;
    stands_so = on.stands_so;
    few = omega (arith, on.few, number);
    total = on.total ∙ sym total;
    number = ap (λ (n : ℕ). n + 1) on.number ∙ sym number;
    behind = behind_is;
    lines = refl;
    text = on.text;
  }

  here_of : talk_at_next_line w t t.lines ≡ talk_at_next_line w t (text ∷ lines_of q.rest.now)
  here_of = ap (talk_at_next_line w t) (on.lines ∙ lines)

  pub lined_long : script_limit < q.behind → Lined w t start c (record q { doing = at.Bad 7 }) out begun.Bad
  lined_long long =
      let is : record (here w t text (lines_of q.rest.now)) { doing = Bad 7 } ≡ talk_at_next_line w t t.lines = sym (here_of ∙ goes_long w t text (lines_of q.rest.now) (omega (arith, long, behind_is))) in
      subst (λ (v : Talk). Went w t v start c (record q { doing = at.Bad 7 }) out None) is
      (let g = went_still w (here w t text (lines_of q.rest.now)) start c q out on_here (Bad 7) (at.Bad 7) refl in record { on = g.on; doing = g.doing; sends = g.sends })

  short_is : q.behind ≤ script_limit → talk_at_next_line w t t.lines ≡ talk_from_line w (here w t text (lines_of q.rest.now)) (client_line_of w.group.mode text) (λ u. talk_at_next_line w u (lines_of q.rest.now))
  short_is short = here_of ∙ goes_short w t text (lines_of q.rest.now) (omega (arith, short, behind_is))

  pub lined_next : (new : KeptClient) (after : List ℕ) → q.behind ≤ script_limit → Began w (here w t text (lines_of q.rest.now)) start (client_line_of w.group.mode text) c new q out after begun.Next → Lined w t start new q after begun.Next
  lined_next new after short b =
      (b.0, (b.1.1.1.1, (short_is short ∙ b.1.0 (λ u. talk_at_next_line w u (lines_of q.rest.now)) ∙ ap (λ (l : List (List ℕ)). talk_at_next_line w b.0 l) (sym b.1.1.1.1.lines), b.1.1.0)))

  pub lined_asks : (new : KeptClient) (after sent : List ℕ) (doing : At) → q.behind ≤ script_limit
      → Began w (here w t text (lines_of q.rest.now)) start (client_line_of w.group.mode text) c new q out after (begun.Asks sent doing) → Lined w t start new (record q { doing = doing }) after (begun.Asks sent doing)
  lined_asks new after sent doing short b =
      let is : talk_after_asking w (here w t text (lines_of q.rest.now)) b.0 b.1.0 ≡ talk_at_next_line w t t.lines = sym (short_is short ∙ b.1.1.0 (λ u. talk_at_next_line w u (lines_of q.rest.now))) in
      subst (λ (v : Talk). Went w t v start new (record q { doing = doing }) after (Some sent)) is (let g = b.1.1.1.1.1 in record { on = g.on; doing = g.doing; sends = g.sends })

  pub lined_bad : (new : KeptClient) (after : List ℕ) → q.behind ≤ script_limit → Began w (here w t text (lines_of q.rest.now)) start (client_line_of w.group.mode text) c new q out after begun.Bad
      → Lined w t start new (record q { doing = at.Bad 1 }) after begun.Bad
  lined_bad new after short b =
      let is : record (here w t text (lines_of q.rest.now)) { doing = Bad 1 } ≡ talk_at_next_line w t t.lines = sym (short_is short ∙ b.0 (λ u. talk_at_next_line w u (lines_of q.rest.now))) in
      subst (λ (v : Talk). Went w t v start new (record q { doing = at.Bad 1 }) after None) is
      (let g = went_still w (here w t text (lines_of q.rest.now)) start new q after (subst (λ (k : KeptClient). On w (here w t text (lines_of q.rest.now)) start k q after) (sym b.1.0) (subst (λ (l : List ℕ). On w (here w t text (lines_of q.rest.now)) start c q l) (sym b.1.1) on_here)) (Bad 1) (at.Bad 1) refl in record { on = g.on; doing = g.doing; sends = g.sends })

-- where memory runs out, a front of what goes on was printed
pub front_of_on : (w : Talker) (t v : Talk) (start : List ℕ) (out : List ℕ) → Extends t v → out ≡ start ++ t.text → PrintsFront start v out
front_of_on w t v start out e is = (t.text, e.text.0, (e.text.1, is))

-- what was led to, led on
pub led_went : (w : Talker) (t u : Talk) (start : List ℕ) (c : KeptClient) (p : Place) (out : List ℕ) (sent : Option (List ℕ)) → talk_at_next_line w t t.lines ≡ talk_at_next_line w u u.lines → u.history ≡ t.history
    → Went w u (talk_at_next_line w u u.lines) start c p out sent → Went w t (talk_at_next_line w t t.lines) start c p out sent
led_went w t u start c p out sent same past g =
    subst (λ (v : Talk). Went w t v start c p out sent) (sym same)
    (record { on = g.on; doing = g.doing; sends = g.sends ∙ ap (λ (h : List TraceStep). sent_in h ++ one_of sent) past })

lines_nil : (bs : List ℕ) → length bs ≡ 0 → lines_of bs ≡ []
unfolding lines_of
lines_nil [] e = refl
lines_nil (b ∷ bs) e = absurd cc

-- no line is left
pub led_leaves : (w : Talker) (t u : Talk) (start : List ℕ) (c : KeptClient) (p : Place) (out : List ℕ) → talk_at_next_line w t t.lines ≡ talk_at_next_line w u u.lines → u.history ≡ t.history → On w u start c p out
    → length p.rest.now ≡ 0 → Went w t (talk_at_next_line w t t.lines) start c (record p { doing = at.Leaves }) out None
led_leaves w t u start c p out same past on none =
    led_went w t u start c (record p { doing = at.Leaves }) out None same past
    (subst (λ (v : Talk). Went w u v start c (record p { doing = at.Leaves }) out None) (sym (ap (talk_at_next_line w u) (on.lines ∙ lines_nil p.rest.now none) ∙ goes_none w u))
    (record {
      on = record { me = on.me; group = on.group; stands_so = on.stands_so; few = on.few; total = on.total; number = on.number; behind = on.behind; lines = sym (lines_nil p.rest.now none); text = on.text };
      doing = refl;
      sends = sym (append-nil (sent_in u.history));
    }))

-- the state was told, and the talk went on
pub told_went : (w : Talker) (t : Talk) (start : List ℕ) (c : KeptClient) (p : Place) (out : List ℕ) (r : Result (Option (List ℕ)) NoMemory) → GoesTo w (talk_with_state t) (talk_at_next_line w (talk_with_state t) t.lines) start c p out r
    → GoesTo w t (talk_at_next_line w (talk_with_state t) t.lines) start c p out r
told_went w t start c p out (Ok sent) g = record { on = g.on; doing = g.doing; sends = g.sends }
told_went w t start c p out (Err e) g = g
