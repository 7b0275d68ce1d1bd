-- A session: what holds between two exchanges, and what it did where it ends.
use Rattle.std.proofs.Common.{◌≡◌, inl, inr, ℕ, List, [], ◌∷◌, ◌++◌, fold, length, Option, Some, None, Result, Ok, Err, refl, sym, ap, subst, ◌∙◌, append_assoc, append-nil, arith}
use Rattle.std.specs.Prelude.{codes}
use Rattle.vic_wire.specs.Hashes.{Group}
use Rattle.vic_wire.specs.declared.message.ToClient.TheVariants as say
use Rattle.vic_wire.specs.Reading.{read_answer}
use Rattle.vic_rules.specs.declared.trace.Input.TheVariants as input
use Rattle.vic_rules.specs.Client.{Standing, at_start}
use Rattle.vic_rules.specs.History.{standing}
use Rattle.vic_client.specs.Kept.{KeptClient, StandsFor, kept_group}
use Rattle.vic_conn.specs.Frames.{frames_of}
use Rattle.vic_conn.proofs.Streams.{splits_any}
use Rattle.vic_ports.specs.Written.{AppendedAll, AppendedFront}
use Rattle.vic_ports.specs.Links.{Told}
use Rattle.vic_ports.proofs.Told.{all_front, all_is_front, none_sent}
use Rattle.vic_script.specs.Lines.{lines_of}
use Rattle.vic_script.specs.Words.{newline}
use Rattle.vic_session.specs.declared.wire.WireFault.{WireFault}
use Rattle.vic_session.specs.declared.wire.WireFault.TheVariants as fault
use Rattle.vic_session.specs.declared.end.SessionEnd.{SessionEnd}
use Rattle.vic_session.specs.declared.end.SessionEnd.TheVariants as ends
use Rattle.vic_session.specs.declared.place.At.{At}
use Rattle.vic_session.specs.declared.place.At.TheVariants as at
use Rattle.vic_session.specs.declared.place.Place.{Place}
use Rattle.vic_session.specs.Talks.{Talk, Talker, Doing, Leaves, talk_at_next_line, talk_after_step, talk_after_payload, fresh_talk, opening_talk, talk, talker, one_of, sent_in}
use Rattle.vic_session.specs.Talking.{On, Went, GoesTo, IsDoing, IsBusy, PrintsFront, IsShortOf}
use Rattle.vic_session.specs.Wires.{frames, Asks}
use Rattle.vic_session.specs.Sessions.{Stage, Greets, Talks, Goes_away, hello, bye, requests, Read, IsOver, IsOwed, IsAt, AllAwaited, EndsBy, Sent, Prints, printed_at, stands_at, IsLeftAt, IsLeftShort, StandsShort, StandsBehind, IsSessionOf}
use Rattle.vic_session.specs.Running.{Greeted, JudgedHello, JudgedBye, Unanswered, PrintsBye, Parted, Left}
use Rattle.vic_session.proofs.Extends.{extends_hears}
use Rattle.vic_session.proofs.Short.{talk_there, reaches_on, reaches_step, reaches_behind, reaches_hears}
use Rattle.vic_session.proofs.Steps.{sent_step}
use Rattle.vic_session.proofs.Wires.{Wire, Failed, Cause, wire_start, wire_asked, wire_failed, frames_more}

abbrev end_for : WireFault → SessionEnd
end_for fault.Link = ends.LinkFault
end_for fault.Length = ends.BadFrame
end_for fault.NoMemory = ends.NoMemory

fold_more : {A B : Type 0} (f : B → A → B) (z : B) (xs : List A) (y : A) → fold f z (xs ++ y ∷ []) ≡ f (fold f z xs) y
fold_more f z [] y = refl
fold_more f z (x ∷ xs) y = fold_more f (f z x) xs y

talk_more : (w : Talker) (script : List ℕ) (taken : List (List ℕ)) (p : List ℕ) → talk w script (taken ++ p ∷ []) ≡ talk_after_payload w (talk w script taken) p
unfolding talk
talk_more w script taken p = fold_more (talk_after_payload w) (opening_talk w script) taken p

-- one more payload was awaited
awaited_more : (w : Talker) (t : Talk) (taken : List (List ℕ)) (p : List ℕ) → AllAwaited w t taken → (IsOver (fold (talk_after_payload w) t taken).doing → ⊥) → AllAwaited w t (taken ++ p ∷ [])
awaited_more w t [] p all more = (more, tt)
awaited_more w t (x ∷ taken) p all more = (all.0, awaited_more w (talk_after_payload w t x) taken p all.1 more)

-- where all of a text was written, a front of one that goes on was
front_more : (a b : List (List ℕ)) (old new : Option (List ℕ)) → AppendedAll (frames a) old new → AppendedFront (frames (a ++ b)) old new
front_more a b old new all = subst (λ (t : List ℕ). AppendedFront t old new) (sym (frames_more a b)) (all_front (frames a) (frames b) old new new all (none_sent (frames b) new))

owed_busy : (a : At) (d : Doing) → IsBusy a → IsDoing a d → IsOver d → ⊥
owed_busy at.Calls d b i o = subst (λ (x : Doing). IsOver x) i o
owed_busy at.Tells d b i o = subst (λ (x : Doing). IsOver x) i o
owed_busy (at.Settles n) d b i o = subst (λ (x : Doing). IsOver x) i o
owed_busy at.Leaves d b i o = b
owed_busy (at.Bad k) d b i o = b
owed_busy (at.Halts k h) d b i o = b

module _ (g : Group) (me : ℕ) (script : List ℕ) (old : Told) (start : List ℕ) where
  talks : List (List ℕ) → Talk
  talks taken = talk (talker g me script) script taken

  -- a client that has made all steps of its talk is left so, where memory ran out
  short_all : (stage : Stage) (taken : List (List ℕ)) (new : Told) (kept : KeptClient) → IsLeftAt g me (stands_at stage (talk (talker g me script) script taken)) kept
      → AppendedFront (frames (requests (talker g me script) (talk (talker g me script) script taken) stage)) old.written new.written → StandsShort stage g me script (talk (talker g me script) script taken) old new kept
  short_all Greets taken new kept here sent = here
  short_all Talks taken new kept here sent = record {
    made = (talk (talker g me script) script taken).history;
    unmade = [];
    all = refl;
    few = omega arith;
    stands = subst (λ (s : Standing). IsLeftAt g me s kept) (talk_there g me script taken) here;
    sent = sent;
  }
  short_all Goes_away taken new kept here sent = here

  -- an exchange failed
  failed : (f : WireFault) (new : Told) (stage : Stage) (ps taken : List (List ℕ)) (left printed : List ℕ) (kept : KeptClient) → Failed f old new ps left (requests (talker g me script) (talk (talker g me script) script taken) stage)
      → ((more : List (List ℕ)) → Read stage (ps ++ more) taken more) → AllAwaited (talker g me script) (opening_talk (talker g me script) script) taken → IsAt stage (talk (talker g me script) script taken).doing
      → IsOwed stage (talk (talker g me script) script taken).doing → (stage ≡ Greets → left ≡ []) → printed ≡ start ++ printed_at stage (talk (talker g me script) script taken)
      → IsLeftAt g me (stands_at stage (talk (talker g me script) script taken)) kept → IsSessionOf g me script old start (end_for f) new printed kept
  failed fault.Link new stage ps taken left printed kept x form awaited at owed none is stands = by_cause x.cause
    where
      reads : Read stage (frames_of x.read).0 taken x.more
      reads = subst (λ (l : List (List ℕ)). Read stage l taken x.more) (sym x.in_order) (form x.more)

      by_cause : Cause fault.Link old new left (requests (talker g me script) (talk (talker g me script) script taken) stage) x.more (frames_of x.read).1 → IsSessionOf g me script old start ends.LinkFault new printed kept
      by_cause (inl c) = record { stands = stands; did = record { read = x.read; took = x.took; taken = taken; more = x.more; stage = stage; reads = reads; awaited = awaited; at = at; sent = inl (c.0, c.1.0); prints = is; ends_so = inl (c.0, (owed, λ e. c.1.1 (none e))) } }
      by_cause (inr c) = record { stands = stands; did = record { read = x.read; took = x.took; taken = taken; more = x.more; stage = stage; reads = reads; awaited = awaited; at = at; sent = inr c.1.0; prints = is; ends_so = inr (c.0, (owed, c.1.1)) } }
  failed fault.Length new stage ps taken left printed kept x form awaited at owed none is stands = record {
    stands = stands;
    did = record {
      read = x.read;
      took = x.took;
      taken = taken;
      more = x.more;
      stage = stage;
      reads = subst (λ (l : List (List ℕ)). Read stage l taken x.more) (sym x.in_order) (form x.more);
      awaited = awaited;
      at = at;
      sent = x.cause.1.0;
      prints = is;
      ends_so = (owed, (x.cause.1.1.0, (x.cause.1.1.1, x.cause.0)));
    };
  }
  failed fault.NoMemory new stage ps taken left printed kept x form awaited at owed none is stands = record {
    stands = short_all stage taken new kept stands x.cause.1;
    did = record {
      read = x.read;
      took = x.took;
      taken = taken;
      more = x.more;
      stage = stage;
      reads = subst (λ (l : List (List ℕ)). Read stage l taken x.more) (sym x.in_order) (form x.more);
      awaited = awaited;
      at = at;
      sent = x.cause.1;
      prints = (printed_at stage (talk (talker g me script) script taken), [], (sym (append-nil (printed_at stage (talk (talker g me script) script taken))), is));
      ends_so = x.cause.0;
    };
  }

  -- no exchange failed
  ended : (end : SessionEnd) (new : Told) (stage : Stage) (ps taken more sent : List (List ℕ)) (left printed : List ℕ) (kept : KeptClient) → Wire old new ps left sent → Read stage (ps ++ (frames_of left).0) taken more
      → AllAwaited (talker g me script) (opening_talk (talker g me script) script) taken → IsAt stage (talk (talker g me script) script taken).doing
      → (AppendedAll (frames sent) old.written new.written → Sent end (frames (requests (talker g me script) (talk (talker g me script) script taken) stage)) old new)
      → Prints end (printed_at stage (talk (talker g me script) script taken)) start printed
      → ((rest : List ℕ) → new.faults ≡ old.faults → EndsBy end stage (talk (talker g me script) script taken) old new more rest)
      → StandsBehind end stage g me script (talk (talker g me script) script taken) old new kept → IsSessionOf g me script old start end new printed kept
  ended end new stage ps taken more sent left printed kept i reads awaited at sends prints so stands = record {
    stands = stands;
    did = record {
      read = i.read;
      took = i.took;
      taken = taken;
      more = more;
      stage = stage;
      reads = subst (λ (l : List (List ℕ)). Read stage l taken more) (sym (ap (λ (x : List (List ℕ) × List ℕ). x.0) (splits_any i.read ps left i.splits))) reads;
      awaited = awaited;
      at = at;
      sent = sends i.sends;
      prints = prints;
      ends_so = so (frames_of i.read).1 i.quiet;
    };
  }

  -- ---- the greeting

  greets_form : (more : List (List ℕ)) → Read Greets ([] ++ more) [] more
  greets_form more = (refl, refl)

  unanswered_hello : (end : SessionEnd) (after : List ℕ) (new : Told) (kept : KeptClient) → IsLeftAt g me at_start kept → Unanswered (Some (hello (talker g me []))) [] after old new end → IsSessionOf g me script old start end new start kept
  unanswered_hello ends.LinkFault after new kept here a = failed fault.Link new Greets [] [] [] start kept (wire_failed old old [] [] [] (wire_start old) (Some (hello (talker g me []))) fault.Link after new a) greets_form tt tt tt (λ e. refl) (sym (append-nil start)) here
  unanswered_hello ends.BadFrame after new kept here a = failed fault.Length new Greets [] [] [] start kept (wire_failed old old [] [] [] (wire_start old) (Some (hello (talker g me []))) fault.Length after new a) greets_form tt tt tt (λ e. refl) (sym (append-nil start)) here
  unanswered_hello ends.NoMemory after new kept here (inl same) =
      subst (λ (n : Told). IsSessionOf g me script old start ends.NoMemory n start kept) (sym same.0)
      (ended ends.NoMemory old Greets [] [] (frames_of []).0 [] [] start kept (wire_start old) (greets_form (frames_of []).0) tt tt (λ all. front_more [] (hello (talker g me []) ∷ []) old.written old.written all)
      ([], [], (refl, sym (append-nil start))) (λ rest quiet. quiet) here)
  unanswered_hello ends.NoMemory after new kept here (inr a) = failed fault.NoMemory new Greets [] [] [] start kept (wire_failed old old [] [] [] (wire_start old) (Some (hello (talker g me []))) fault.NoMemory after new a) greets_form tt tt tt (λ e. refl) (sym (append-nil start)) here
  unanswered_hello ends.Ok after new kept here a = absurd a
  unanswered_hello (ends.BadLine n k) after new kept here a = absurd a
  unanswered_hello (ends.Halted k h) after new kept here a = absurd a
  unanswered_hello (ends.GreetingRefused r) after new kept here a = absurd a

  judged_hello : (end : SessionEnd) (after p : List ℕ) (new : Told) (kept : KeptClient) → IsLeftAt g me at_start kept → Asks (Some (hello (talker g me []))) [] after old new (Ok p) → JudgedHello p (Err end) → IsSessionOf g me script old start end new start kept
  judged_hello end after p new kept here a j = by_end end j
    where
      wire : Wire old new (p ∷ []) after (hello (talker g me []) ∷ [])
      wire = wire_asked old old [] [] [] (wire_start old) (Some (hello (talker g me []))) after p new a

      by_end : (end : SessionEnd) → JudgedHello p (Err end) → IsSessionOf g me script old start end new start kept
      by_end (ends.GreetingRefused r) j =
          ended (ends.GreetingRefused r) new Greets (p ∷ []) [] (p ∷ (frames_of after).0) (hello (talker g me []) ∷ []) after start kept wire (refl, refl) tt tt (λ all. all) (sym (append-nil start)) (λ rest quiet. (refl, ((p, (refl, j)), quiet))) here
      by_end (ends.Halted k h) j =
          ended (ends.Halted k h) new Greets (p ∷ []) [] (p ∷ (frames_of after).0) (hello (talker g me []) ∷ []) after start kept wire (refl, refl) tt tt (λ all. all) (sym (append-nil start))
          (λ rest quiet. (inr (j.0, (p, (refl, (j.1.0, j.1.1)))), quiet)) here
      by_end ends.NoMemory j =
          ended ends.NoMemory new Greets (p ∷ []) [] (p ∷ (frames_of after).0) (hello (talker g me []) ∷ []) after start kept wire (refl, refl) tt tt
          (λ all. all_is_front (frames (hello (talker g me []) ∷ [])) old.written new.written all) ([], [], (refl, sym (append-nil start))) (λ rest quiet. quiet) here
      by_end ends.Ok j = absurd j
      by_end (ends.BadLine n k) j = absurd j
      by_end ends.LinkFault j = absurd j
      by_end ends.BadFrame j = absurd j

  -- the greeting failed
  pub not_greeted : (end : SessionEnd) (after : List ℕ) (new : Told) (kept : KeptClient) → IsLeftAt g me at_start kept → Greeted g me [] after old new (Err end) → IsSessionOf g me script old start end new start kept
  not_greeted end after new kept here (inl a) = unanswered_hello end after new kept here a
  not_greeted end after new kept here (inr a) = judged_hello end after a.0 new kept here a.1.0 a.1.1

  -- ---- the talk

  -- what holds before an exchange
  pub record Going (now : Told) (left : List ℕ) (c : KeptClient) (p : Place) (out : List ℕ) (pending : Option (List ℕ)) : Type 0 where
    pub hi : List ℕ
    pub hi_is : read_answer hi ≡ Some say.Hi
    pub taken : List (List ℕ)
    pub before : List (List ℕ)
    pub wire : Wire old now (hi ∷ taken) left before
    pub on : On (talker g me script) (talk (talker g me script) script taken) start c p out
    pub doing : IsDoing p.doing (talk (talker g me script) script taken).doing
    pub awaited : AllAwaited (talker g me script) (opening_talk (talker g me script) script) taken
    pub all : requests (talker g me script) (talk (talker g me script) script taken) Talks ≡ before ++ one_of pending

  begin : Talk
  begin = record (fresh_talk at_start) { lines = lines_of script }

  open_same : (x ls : List (List ℕ)) → talk_at_next_line (talker g me script) (record (fresh_talk at_start) { lines = x }) ls ≡ talk_at_next_line (talker g me script) (fresh_talk at_start) ls
  unfolding talk_at_next_line
  open_same x [] = refl
  open_same x (l ∷ ls) = refl

  open_is : talk_at_next_line (talker g me script) (record (fresh_talk at_start) { lines = lines_of script }) (lines_of script) ≡ talk (talker g me script) script []
  unfolding talk
  open_is = open_same (lines_of script) (lines_of script)

  -- the talk begins
  pub on_begin : (c : KeptClient) (p : Place) → c.id ≡ me → kept_group c ≡ g → StandsFor c at_start → length script ≡ p.total → p.behind ≡ 0 → p.number ≡ 0 → p.rest.now ≡ script
      → On (talker g me script) (record (fresh_talk at_start) { lines = lines_of script }) start c p start
  on_begin c p id group so total behind number rest = record {
    me = id;
    group = group;
    stands_so = so;
    few = omega arith;
    total = total;
    number = sym number;
    behind = sym behind;
    lines = ap lines_of (sym rest);
    text = sym (append-nil start);
  }

  module _ (after : List ℕ) (now : Told) (greeted : Greeted g me [] after old now (Ok tt)) where
    hi : List ℕ
    hi = greeted.0

    wire_hi : Wire old now (greeted.0 ∷ []) after (hello (talker g me script) ∷ [])
    wire_hi = wire_asked old old [] [] [] (wire_start old) (Some (hello (talker g me []))) after greeted.0 now greeted.1.0

    pub going_start : (c : KeptClient) (p : Place) (out : List ℕ) (sent : Option (List ℕ))
        → GoesTo (talker g me script) (record (fresh_talk at_start) { lines = lines_of script }) (talk_at_next_line (talker g me script) (record (fresh_talk at_start) { lines = lines_of script }) (lines_of script)) start c p out (Ok sent) → Going now after c p out sent
    going_start c p out sent w =
        let v = subst (λ (v : Talk). Went (talker g me script) (record (fresh_talk at_start) { lines = lines_of script }) v start c p out sent) open_is w in
        record {
          hi = greeted.0;
          hi_is = greeted.1.1;
          taken = [];
          before = hello (talker g me script) ∷ [];
          wire = wire_hi;
          on = v.on;
          doing = v.doing;
          awaited = tt;
          all = ap (λ (l : List (List ℕ)). hello (talker g me script) ∷ l) v.sends;
        }

    -- no step of the talk was made
    short_none : (kept : KeptClient) → IsLeftAt g me at_start kept → IsLeftShort g me script (talk (talker g me script) script []) old now kept
    unfolding standing
    short_none kept here =
        let r = reaches_on (talker g me script) (record (fresh_talk at_start) { lines = lines_of script }) (lines_of script) in
        record {
          made = [];
          unmade = r.more;
          all = ap (λ (v : Talk). v.history) (sym open_is) ∙ r.is;
          few = omega (arith, r.few);
          stands = here;
          sent = all_is_front (frames (hello (talker g me script) ∷ [])) old.written now.written wire_hi.sends;
        }

    pub no_start : (kept : KeptClient) (out : List ℕ) → IsLeftAt g me at_start kept → PrintsFront start (talk_at_next_line (talker g me script) (record (fresh_talk at_start) { lines = lines_of script }) (lines_of script)) out → IsSessionOf g me script old start ends.NoMemory now out kept
    no_start kept out here front =
        let f = subst (λ (v : Talk). PrintsFront start v out) open_is front in
        ended ends.NoMemory now Talks (greeted.0 ∷ []) [] (frames_of after).0 (hello (talker g me script) ∷ []) after out kept wire_hi (greeted.0, (greeted.1.1, refl)) tt tt
        (λ all. front_more (hello (talker g me script) ∷ []) (sent_in (talk (talker g me script) script []).history) old.written now.written all) f (λ rest quiet. quiet) (short_none kept here)

  module _ (now : Told) (left : List ℕ) (c : KeptClient) (p : Place) (out : List ℕ) (pending : Option (List ℕ)) (i : Going now left c p out pending) where
    w : Talker
    w = talker g me script

    -- where the client stands between two exchanges
    here : IsLeftAt g me (talk (talker g me script) script i.taken).now c
    here = (i.on.me, (i.on.group, i.on.stands_so))

    talks_form : (taken more : List (List ℕ)) → Read Talks ((i.hi ∷ taken) ++ more) taken more
    talks_form taken more = (i.hi, (i.hi_is, refl))

    away_form : (taken more : List (List ℕ)) → Read Goes_away ((i.hi ∷ taken) ++ more) taken more
    away_form taken more = (i.hi, (i.hi_is, refl))

    -- the answer was taken
    module _ (after payload : List ℕ) (new : Told) (busy : IsBusy p.doing) (a : Asks pending left after now new (Ok payload)) where
      awaited_on : AllAwaited (talker g me script) (opening_talk (talker g me script) script) (i.taken ++ payload ∷ [])
      unfolding talk
      awaited_on = awaited_more (talker g me script) (opening_talk (talker g me script) script) i.taken payload i.awaited (owed_busy p.doing (talk (talker g me script) script i.taken).doing busy i.doing)

      wire_on : Wire old new (i.hi ∷ i.taken ++ payload ∷ []) after (i.before ++ one_of pending)
      wire_on = wire_asked old now (i.hi ∷ i.taken) left i.before i.wire pending after payload new a

      pub going_more : (d : KeptClient) (q : Place) (text : List ℕ) (sent : Option (List ℕ))
          → GoesTo (talker g me script) (talk (talker g me script) script i.taken) (talk_after_payload (talker g me script) (talk (talker g me script) script i.taken) payload) start d q text (Ok sent) → Going new after d q text sent
      going_more d q text sent went =
          let v = subst (λ (v : Talk). Went (talker g me script) (talk (talker g me script) script i.taken) v start d q text sent) (sym (talk_more (talker g me script) script i.taken payload)) went in
          record {
            hi = i.hi;
            hi_is = i.hi_is;
            taken = i.taken ++ payload ∷ [];
            before = i.before ++ one_of pending;
            wire = wire_on;
            on = v.on;
            doing = v.doing;
            awaited = awaited_on;
            all = ap (λ (l : List (List ℕ)). hello (talker g me script) ∷ l) v.sends ∙ ap (λ (l : List (List ℕ)). l ++ one_of sent) i.all;
          }

      -- all was sent of what was to be sent before the payload came
      sent_before : AppendedAll (frames (hello (talker g me script) ∷ sent_in (talk (talker g me script) script i.taken).history)) old.written new.written
      sent_before = subst (λ (l : List (List ℕ)). AppendedAll (frames l) old.written new.written) (sym i.all) wire_on.sends

      -- memory ran out before the step on the payload, or behind it
      short_of : (d : KeptClient) → IsShortOf (talker g me script) (talk (talker g me script) script i.taken) payload d → IsLeftShort g me script (talk (talker g me script) script (i.taken ++ payload ∷ [])) old new d
      short_of d (inl here) =
          let t = talk (talker g me script) script i.taken in
          let r = reaches_hears (talker g me script) t payload in
          record {
            made = t.history;
            unmade = r.more;
            all = ap (λ (v : Talk). v.history) (talk_more (talker g me script) script i.taken payload) ∙ r.is;
            few = r.few;
            stands = subst (λ (s : Standing). IsLeftAt g me s d) (talk_there g me script i.taken) here;
            sent = all_is_front (frames (hello (talker g me script) ∷ sent_in t.history)) old.written new.written sent_before;
          }
      short_of d (inr here) =
          let t = talk (talker g me script) script i.taken in
          let u = talk_after_step (talker g me script) t (input.Payload payload) in
          let r = reaches_behind (talker g me script) t payload in
          let at = (reaches_step (talker g me script) t payload).there (talk_there g me script i.taken) in
          let more = sent_step (talker g me script) t (input.Payload payload) in
          record {
            made = u.history;
            unmade = r.more;
            all = ap (λ (v : Talk). v.history) (talk_more (talker g me script) script i.taken payload) ∙ r.is;
            few = omega (arith, r.few);
            stands = subst (λ (s : Standing). IsLeftAt g me s d) at here;
            sent = subst (λ (l : List (List ℕ)). AppendedFront (frames (hello (talker g me script) ∷ l)) old.written new.written) (sym more)
                (front_more (hello (talker g me script) ∷ sent_in t.history) _ old.written new.written sent_before);
          }

      pub no_hearing : (d : KeptClient) (text : List ℕ) → IsShortOf (talker g me script) (talk (talker g me script) script i.taken) payload d → PrintsFront start (talk_after_payload (talker g me script) (talk (talker g me script) script i.taken) payload) text → IsSessionOf g me script old start ends.NoMemory new text d
      no_hearing d text short front =
          let t = talk (talker g me script) script i.taken in
          let e = extends_hears (talker g me script) t payload in
          let is = talk_more (talker g me script) script i.taken payload in
          let all_is : requests (talker g me script) (talk (talker g me script) script (i.taken ++ payload ∷ [])) Talks ≡ (i.before ++ one_of pending) ++ e.sent.0
          = ap (λ (v : Talk). hello (talker g me script) ∷ sent_in v.history) is ∙ ap (λ (l : List (List ℕ)). hello (talker g me script) ∷ l) e.sent.1 ∙ ap (λ (l : List (List ℕ)). l ++ e.sent.0) i.all in
          ended ends.NoMemory new Talks (i.hi ∷ i.taken ++ payload ∷ []) (i.taken ++ payload ∷ []) (frames_of after).0 (i.before ++ one_of pending) after text d wire_on (talks_form (i.taken ++ payload ∷ []) (frames_of after).0) awaited_on tt
          (λ all. subst (λ (l : List (List ℕ)). AppendedFront (frames l) old.written new.written) (sym all_is) (front_more (i.before ++ one_of pending) e.sent.0 old.written new.written all))
          (subst (λ (v : Talk). PrintsFront start v text) (sym is) front) (λ rest quiet. quiet) (short_of d short)

    -- no answer came
    pub unanswered : (f : WireFault) (after : List ℕ) (new : Told) → IsBusy p.doing → Asks pending left after now new (Err f) → IsSessionOf g me script old start (end_for f) new out c
    unanswered f after new busy a =
        failed f new Talks (i.hi ∷ i.taken) i.taken left out c
        (subst (λ (l : List (List ℕ)). Failed f old new (i.hi ∷ i.taken) left l) (sym i.all) (wire_failed old now (i.hi ∷ i.taken) left i.before i.wire pending f after new a))
        (talks_form i.taken) i.awaited tt (owed_busy p.doing (talk (talker g me script) script i.taken).doing busy i.doing) (λ e. absurd cc) i.on.text
        here

    -- memory ran out
    gives_up : IsSessionOf g me script old start ends.NoMemory now out c
    gives_up =
        ended ends.NoMemory now Talks (i.hi ∷ i.taken) i.taken (frames_of left).0 i.before left out c i.wire (talks_form i.taken (frames_of left).0) i.awaited tt
        (λ all. subst (λ (l : List (List ℕ)). AppendedFront (frames l) old.written now.written) (sym i.all) (front_more i.before (one_of pending) old.written now.written all))
        ((talk (talker g me script) script i.taken).text, [], (sym (append-nil (talk (talker g me script) script i.taken).text), i.on.text)) (λ rest quiet. quiet)
        (short_all Talks i.taken now c here
        (subst (λ (l : List (List ℕ)). AppendedFront (frames l) old.written now.written) (sym i.all) (front_more i.before (one_of pending) old.written now.written i.wire.sends)))

    -- all was sent
    module _ (none : pending ≡ None) where
      sent_is : requests (talker g me script) (talk (talker g me script) script i.taken) Talks ≡ i.before
      sent_is = i.all ∙ ap (λ (o : Option (List ℕ)). i.before ++ one_of o) none ∙ append-nil i.before

      sent_so : AppendedAll (frames i.before) old.written now.written → AppendedAll (frames (requests (talker g me script) (talk (talker g me script) script i.taken) Talks)) old.written now.written
      sent_so all = subst (λ (l : List (List ℕ)). AppendedAll (frames l) old.written now.written) (sym sent_is) all

      pub bad_line : (k : ℕ) → p.doing ≡ at.Bad k → IsSessionOf g me script old start (ends.BadLine p.number k) now out c
      bad_line k e =
          ended (ends.BadLine p.number k) now Talks (i.hi ∷ i.taken) i.taken (frames_of left).0 i.before left out c i.wire (talks_form i.taken (frames_of left).0) i.awaited tt sent_so i.on.text
          (λ rest quiet. (refl, (subst (λ (a : At). IsDoing a (talk (talker g me script) script i.taken).doing) e i.doing, (sym i.on.number, quiet)))) here

      pub halts : (k : ℕ) (h : _) → p.doing ≡ at.Halts k h → IsSessionOf g me script old start (ends.Halted k h) now out c
      halts k h e =
          ended (ends.Halted k h) now Talks (i.hi ∷ i.taken) i.taken (frames_of left).0 i.before left out c i.wire (talks_form i.taken (frames_of left).0) i.awaited tt sent_so i.on.text
          (λ rest quiet. (inl (refl, subst (λ (a : At). IsDoing a (talk (talker g me script) script i.taken).doing) e i.doing), quiet)) here

      -- ---- the leave

      away_is : requests (talker g me script) (talk (talker g me script) script i.taken) Goes_away ≡ i.before ++ bye ∷ []
      away_is = ap (λ (l : List (List ℕ)). l ++ bye ∷ []) sent_is

      away_at : p.doing ≡ at.Leaves → (talk (talker g me script) script i.taken).doing ≡ Leaves
      away_at leaves = subst (λ (a : At). IsDoing a (talk (talker g me script) script i.taken).doing) leaves i.doing

      away_failed : p.doing ≡ at.Leaves → (f : WireFault) (after : List ℕ) (new : Told) (text : List ℕ) → text ≡ out → Asks (Some bye) left after now new (Err f) → IsSessionOf g me script old start (end_for f) new text c
      away_failed leaves f after new text same a =
          failed f new Goes_away (i.hi ∷ i.taken) i.taken left text c
          (subst (λ (l : List (List ℕ)). Failed f old new (i.hi ∷ i.taken) left l) (sym away_is) (wire_failed old now (i.hi ∷ i.taken) left i.before i.wire (Some bye) f after new a))
          (away_form i.taken) i.awaited (away_at leaves) tt (λ e. absurd cc) (same ∙ i.on.text)
          here

      away_unanswered : p.doing ≡ at.Leaves → (end : SessionEnd) (after : List ℕ) (new : Told) (text : List ℕ) → PrintsBye end out text → Unanswered (Some bye) left after now new end → IsSessionOf g me script old start end new text c
      away_unanswered leaves ends.LinkFault after new text same a = away_failed leaves fault.Link after new text same a
      away_unanswered leaves ends.BadFrame after new text same a = away_failed leaves fault.Length after new text same a
      away_unanswered leaves ends.NoMemory after new text same (inl s) =
          subst (λ (l : List ℕ). IsSessionOf g me script old start ends.NoMemory new l c) (sym same) (subst (λ (n : Told). IsSessionOf g me script old start ends.NoMemory n out c) (sym s.0) gives_up)
      away_unanswered leaves ends.NoMemory after new text same (inr a) = away_failed leaves fault.NoMemory after new text same a
      away_unanswered leaves ends.Ok after new text same a = absurd a
      away_unanswered leaves (ends.BadLine n k) after new text same a = absurd a
      away_unanswered leaves (ends.Halted k h) after new text same a = absurd a
      away_unanswered leaves (ends.GreetingRefused r) after new text same a = absurd a

      module _ (leaves : p.doing ≡ at.Leaves) (after payload : List ℕ) (new : Told) (text : List ℕ) (a : Asks (Some bye) left after now new (Ok payload)) where
        wire_away : Wire old new (i.hi ∷ i.taken ++ payload ∷ []) after (i.before ++ bye ∷ [])
        wire_away = wire_asked old now (i.hi ∷ i.taken) left i.before i.wire (Some bye) after payload new a

        read_away : Read Goes_away ((i.hi ∷ i.taken ++ payload ∷ []) ++ (frames_of after).0) i.taken (payload ∷ (frames_of after).0)
        read_away = (i.hi, (i.hi_is, ap (λ (l : List (List ℕ)). i.hi ∷ l) (append_assoc i.taken (payload ∷ []) (frames_of after).0)))

        sent_away : AppendedAll (frames (i.before ++ bye ∷ [])) old.written new.written → AppendedAll (frames (requests (talker g me script) (talk (talker g me script) script i.taken) Goes_away)) old.written new.written
        sent_away all = subst (λ (l : List (List ℕ)). AppendedAll (frames l) old.written new.written) (sym away_is) all

        away_judged : (end : SessionEnd) → PrintsBye end out text → JudgedBye payload end → IsSessionOf g me script old start end new text c
        away_judged ends.Ok same j =
            ended ends.Ok new Goes_away (i.hi ∷ i.taken ++ payload ∷ []) i.taken (payload ∷ (frames_of after).0) (i.before ++ bye ∷ []) after text c wire_away read_away i.awaited (away_at leaves) sent_away
            (same ∙ ap (λ (l : List ℕ). l ++ codes "bye" ++ newline) i.on.text)
            (λ rest quiet. (refl, (away_at leaves, ((payload, (refl, j)), quiet)))) here
        away_judged (ends.Halted k h) same j =
            ended (ends.Halted k h) new Goes_away (i.hi ∷ i.taken ++ payload ∷ []) i.taken (payload ∷ (frames_of after).0) (i.before ++ bye ∷ []) after text c wire_away read_away i.awaited (away_at leaves) sent_away (same ∙ i.on.text)
            (λ rest quiet. (inr (j.0, (payload, (refl, (j.1.0, j.1.1)))), quiet)) here
        away_judged ends.NoMemory same j =
            ended ends.NoMemory new Goes_away (i.hi ∷ i.taken ++ payload ∷ []) i.taken (payload ∷ (frames_of after).0) (i.before ++ bye ∷ []) after text c wire_away read_away i.awaited (away_at leaves)
            (λ all. all_is_front (frames (requests (talker g me script) (talk (talker g me script) script i.taken) Goes_away)) old.written new.written (sent_away all))
            ((talk (talker g me script) script i.taken).text, [], (sym (append-nil (talk (talker g me script) script i.taken).text), same ∙ i.on.text)) (λ rest quiet. quiet) here
        away_judged (ends.BadLine n k) same j = absurd j
        away_judged ends.LinkFault same j = absurd j
        away_judged ends.BadFrame same j = absurd j
        away_judged (ends.GreetingRefused r) same j = absurd j

      pub parted : p.doing ≡ at.Leaves → (end : SessionEnd) (after : List ℕ) (new : Told) (text : List ℕ) → Left left after now new out text end → IsSessionOf g me script old start end new text c
      parted leaves end after new text l = by_part l.1
        where
          by_part : Parted left after now new end → IsSessionOf g me script old start end new text c
          by_part (inl a) = away_unanswered leaves end after new text l.0 a
          by_part (inr a) = away_judged leaves after a.0 new text a.1.0 end l.0 a.1.1

-- the answer to Hello was judged
pub greeted_of : (g : Group) (me : ℕ) (before after p : List ℕ) (old new : Told) (r : Result (Unit {0}) SessionEnd) → Asks (Some (hello (talker g me []))) before after old new (Ok p) → JudgedHello p r → Greeted g me before after old new r
greeted_of g me before after p old new (Ok u) a j = (p, (a, j))
greeted_of g me before after p old new (Err end) a j = inr (p, (a, j))

-- a session that isn't greeted doesn't end well
pub not_well : (g : Group) (me : ℕ) (before after : List ℕ) (old new : Told) (end : SessionEnd) → end ≡ ends.Ok → Greeted g me before after old new (Err end) → ⊥
not_well g me before after old new end e greeted = by_cause (subst (λ (x : SessionEnd). Greeted g me before after old new (Err x)) e greeted)
  where
    by_cause : Greeted g me before after old new (Err ends.Ok) → ⊥
    by_cause (inl a) = a
    by_cause (inr a) = a.1.1
