-- What was exchanged over a link, request by request.
use Rattle.std.proofs.Common.{◌≡◌, ◌⊎◌, inl, inr, ℕ, List, [], ◌∷◌, ◌++◌, Option, Ok, Err, true, refl, sym, ap, subst, ◌∙◌, append-nil}
use Rattle.std.proofs.lemmas.Grind.{flat_map-append}
use Rattle.vic_conn.specs.Frames.{Waits, Broken, front_of, frame_text, frames_of}
use Rattle.vic_conn.proofs.Growing.{stays}
use Rattle.vic_conn.proofs.Pieces.{one_by_one}
use Rattle.vic_conn.proofs.Streams.{Splits, splits_none, splits_fed, splits_taken, splits_waits, splits_broken, splits_any}
use Rattle.vic_ports.specs.Causes.{Rose, LeavesBehind, IsSpent}
use Rattle.vic_ports.specs.Written.{AppendedAll, AppendedFront}
use Rattle.vic_ports.specs.Links.{Told}
use Rattle.vic_ports.proofs.Told.{none_read, behind_more, all_all, all_front, all_is_front, none_all}
use Rattle.vic_session.specs.declared.wire.WireFault.{WireFault}
use Rattle.vic_session.specs.declared.wire.WireFault.TheVariants as fault
use Rattle.vic_session.specs.Talks.{one_of}
use Rattle.vic_session.specs.Wires.{frames, SendsText, Receives, Asks}

-- these payloads were read, and this is left; these were sent; no call failed
pub record Wire (old now : Told) (payloads : List (List ℕ)) (left : List ℕ) (sent : List (List ℕ)) : Type 0 where
  pub read : List ℕ
  pub took : LeavesBehind read old.left now.left
  pub splits : Splits read payloads left
  pub sends : AppendedAll (frames sent) old.written now.written
  pub quiet : now.faults ≡ old.faults

pub wire_start : (old : Told) → Wire old old [] [] []
wire_start old = record { read = []; took = none_read old.left; splits = splits_none; sends = none_all old.written; quiet = refl }

pub frames_more : (a b : List (List ℕ)) → frames (a ++ b) ≡ frames a ++ frames b
frames_more a b = flat_map-append frame_text a b

-- why an exchange failed, of what was sent and to be sent, the whole frames read besides and the bytes behind them
abbrev pub Cause : WireFault → Told → Told → List ℕ → List (List ℕ) → List (List ℕ) → List ℕ → Type 0
Cause fault.Link old new left requests more rest =
    (Rose old.faults new.faults × (AppendedFront (frames requests) old.written new.written × (left ≡ [] → more ≡ [])))
    ⊎ ((new.faults ≡ old.faults) × (AppendedAll (frames requests) old.written new.written × ((more ≡ []) × (((new.ended ≡ true) × IsSpent new.left) × (front_of rest ≡ Waits)))))
Cause fault.Length old new left requests more rest = (new.faults ≡ old.faults) × (AppendedAll (frames requests) old.written new.written × ((more ≡ []) × ((n : ℕ) × (front_of rest ≡ Broken n))))
Cause fault.NoMemory old new left requests more rest = (new.faults ≡ old.faults) × AppendedFront (frames requests) old.written new.written

-- an exchange failed
pub record Failed (f : WireFault) (old new : Told) (payloads : List (List ℕ)) (left : List ℕ) (requests : List (List ℕ)) : Type 0 where
  pub read : List ℕ
  pub took : LeavesBehind read old.left new.left
  pub more : List (List ℕ)
  pub in_order : (frames_of read).0 ≡ payloads ++ more
  pub cause : Cause f old new left requests more (frames_of read).1

nothing_waits : front_of [] ≡ Waits
unfolding front_of
nothing_waits = refl

none_in_nothing : (left : List ℕ) → left ≡ [] → (frames_of left).0 ≡ []
none_in_nothing left e = ap (λ (l : List ℕ). (frames_of l).0) e ∙ ap (λ (f : List (List ℕ) × List ℕ). f.0) (one_by_one.waits [] nothing_waits)

module _ (old now : Told) (ps : List (List ℕ)) (left : List ℕ) (sent : List (List ℕ)) (i : Wire old now ps left sent) (request : Option (List ℕ)) where
  texts : frames (sent ++ one_of request) ≡ frames sent ++ frames (one_of request)
  texts = frames_more sent (one_of request)

  sent_all : (mid : Told) → AppendedAll (frames (one_of request)) now.written mid.written → AppendedAll (frames (sent ++ one_of request)) old.written mid.written
  sent_all mid s = subst (λ (t : List ℕ). AppendedAll t old.written mid.written) (sym texts) (all_all (frames sent) (frames (one_of request)) old.written now.written mid.written i.sends s)

  sent_front : (mid : Told) → AppendedFront (frames (one_of request)) now.written mid.written → AppendedFront (frames (sent ++ one_of request)) old.written mid.written
  sent_front mid s = subst (λ (t : List ℕ). AppendedFront t old.written mid.written) (sym texts) (all_front (frames sent) (frames (one_of request)) old.written now.written mid.written i.sends s)

  taken_on : (mid new : Told) (read : List ℕ) → mid.left ≡ now.left → LeavesBehind read mid.left new.left → LeavesBehind (i.read ++ read) old.left new.left
  taken_on mid new read same took = behind_more i.read read old.left now.left new.left i.took (subst (λ (l : Option (List ℕ)). LeavesBehind read l new.left) same took)

  -- an exchange went well
  pub wire_asked : (after p : List ℕ) (new : Told) → Asks request left after now new (Ok p) → Wire old new (ps ++ p ∷ []) after (sent ++ one_of request)
  wire_asked after p new a =
      let mid = a.0 in
      let s = a.1.0 in
      let r = a.1.1 in
      record {
        read = i.read ++ r.0;
        took = taken_on mid new r.0 s.1.0 r.1.0;
        splits = splits_taken stays one_by_one (i.read ++ r.0) ps (left ++ r.0) p after (splits_fed i.read ps left r.0 i.splits) r.1.1.1.1;
        sends = subst (λ (l : Option (List ℕ)). AppendedAll (frames (sent ++ one_of request)) old.written l) (sym r.1.1.0) (sent_all mid s.0);
        quiet = r.1.1.1.0 ∙ s.1.1 ∙ i.quiet;
      }

  -- the request wasn't sent
  unsent : (f : WireFault) (new : Told) → new.left ≡ now.left → Cause f old new left (sent ++ one_of request) (frames_of left).0 (frames_of left).1 → Failed f old new ps left (sent ++ one_of request)
  unsent f new same why =
      let split = splits_any i.read ps left i.splits in
      record {
        read = i.read;
        took = subst (λ (l : Option (List ℕ)). LeavesBehind i.read old.left l) (sym same) i.took;
        more = (frames_of left).0;
        in_order = ap (λ (x : List (List ℕ) × List ℕ). x.0) split;
        cause = subst (λ (l : List ℕ). Cause f old new left (sent ++ one_of request) (frames_of left).0 l) (sym (ap (λ (x : List (List ℕ) × List ℕ). x.1) split)) why;
      }

  -- no whole frame came
  unread : (f : WireFault) (mid new : Told) (read : List ℕ) → mid.left ≡ now.left → LeavesBehind read mid.left new.left → frames_of (i.read ++ read) ≡ (ps, left ++ read)
      → Cause f old new left (sent ++ one_of request) [] (left ++ read) → Failed f old new ps left (sent ++ one_of request)
  unread f mid new read same took split why = record {
    read = i.read ++ read;
    took = taken_on mid new read same took;
    more = [];
    in_order = ap (λ (x : List (List ℕ) × List ℕ). x.0) split ∙ sym (append-nil ps);
    cause = subst (λ (l : List ℕ). Cause f old new left (sent ++ one_of request) [] l) (sym (ap (λ (x : List (List ℕ) × List ℕ). x.1) split)) why;
  }

  by_send : (f : WireFault) (new : Told) → SendsText (frames (one_of request)) now (Err f) new → Failed f old new ps left (sent ++ one_of request)
  by_send fault.Link new s = unsent fault.Link new s.1.0 (inl (subst (λ (n : ℕ). Rose n new.faults) i.quiet s.1.1, (sent_front new s.0, none_in_nothing left)))
  by_send fault.Length new s = absurd s
  by_send fault.NoMemory new s = unsent fault.NoMemory new s.1.0 (s.1.1 ∙ i.quiet, sent_front new s.0)

  by_read : (f : WireFault) (after : List ℕ) (mid new : Told) → SendsText (frames (one_of request)) now (Ok tt) mid → Receives left after mid new (Err f) → Failed f old new ps left (sent ++ one_of request)
  by_read fault.Link after mid new s r = by_cause r.1.1.1.1
    where
      all : AppendedAll (frames (sent ++ one_of request)) old.written new.written
      all = subst (λ (l : Option (List ℕ)). AppendedAll (frames (sent ++ one_of request)) old.written l) (sym r.1.1.0) (sent_all mid s.0)

      by_cause : Rose mid.faults new.faults ⊎ (((new.ended ≡ true) × IsSpent new.left) × (new.faults ≡ mid.faults)) → Failed fault.Link old new ps left (sent ++ one_of request)
      by_cause (inl rose) =
          unread fault.Link mid new r.0 s.1.0 r.1.0 (splits_waits one_by_one (i.read ++ r.0) ps (left ++ r.0) (splits_fed i.read ps left r.0 i.splits) r.1.1.1.0)
          (inl (subst (λ (n : ℕ). Rose n new.faults) (s.1.1 ∙ i.quiet) rose, (all_is_front (frames (sent ++ one_of request)) old.written new.written all, λ e. refl)))
      by_cause (inr e) =
          unread fault.Link mid new r.0 s.1.0 r.1.0 (splits_waits one_by_one (i.read ++ r.0) ps (left ++ r.0) (splits_fed i.read ps left r.0 i.splits) r.1.1.1.0)
          (inr (e.1 ∙ s.1.1 ∙ i.quiet, (all, (refl, (e.0, r.1.1.1.0)))))
  by_read fault.Length after mid new s r =
      let b = r.1.1.1.0 in
      unread fault.Length mid new r.0 s.1.0 r.1.0 (splits_broken one_by_one (i.read ++ r.0) ps (left ++ r.0) b.0 (splits_fed i.read ps left r.0 i.splits) b.1)
      (r.1.1.1.1 ∙ s.1.1 ∙ i.quiet, (subst (λ (l : Option (List ℕ)). AppendedAll (frames (sent ++ one_of request)) old.written l) (sym r.1.1.0) (sent_all mid s.0), (refl, b)))
  by_read fault.NoMemory after mid new s r =
      let split = splits_any (i.read ++ r.0) ps (left ++ r.0) (splits_fed i.read ps left r.0 i.splits) in
      record {
        read = i.read ++ r.0;
        took = taken_on mid new r.0 s.1.0 r.1.0;
        more = (frames_of (left ++ r.0)).0;
        in_order = ap (λ (x : List (List ℕ) × List ℕ). x.0) split;
        cause = (r.1.1.1 ∙ s.1.1 ∙ i.quiet, all_is_front (frames (sent ++ one_of request)) old.written new.written (subst (λ (l : Option (List ℕ)). AppendedAll (frames (sent ++ one_of request)) old.written l) (sym r.1.1.0) (sent_all mid s.0)));
      }

  -- an exchange failed
  pub wire_failed : (f : WireFault) (after : List ℕ) (new : Told) → Asks request left after now new (Err f) → Failed f old new ps left (sent ++ one_of request)
  wire_failed f after new (inl s) = by_send f new s.0
  wire_failed f after new (inr s) = by_read f after s.0 new s.1.0 s.1.1
