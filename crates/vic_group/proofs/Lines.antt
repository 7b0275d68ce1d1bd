-- What a line makes of a world, by its kind.
use Rattle.std.proofs.Common.{◌≡◌, ℕ, ◌⊎◌, inl, inr, Bool, true, false, List, [], ◌∷◌, ◌++◌, Option, Some, None, is_some, Result, Ok, Err, IfOk, OnErr, if◌then◌else◌, refl, sym, ap, subst, ◌∙◌}
use Rattle.std.specs.Prelude.{MatchOption}
use Rattle.std.proofs.lemmas.List.{append-nil}
use Rattle.vic_dict.specs.declared.bytes.NoMemory.{NoMemory}
use Rattle.vic_dict.specs.declared.op.Op.{Op}
use Rattle.vic_rules.specs.declared.trace.Input.{Input}
use Rattle.vic_rules.specs.declared.trace.Input.TheVariants as input
use Rattle.vic_rules.specs.Client.{first_failing}
use Rattle.vic_order.specs.Serving.{Serving}
use Rattle.vic_script.specs.declared.line.Line.{Line}
use Rattle.vic_script.specs.declared.line.Line.TheVariants as line
use Rattle.vic_script.specs.Lines.{is_server_number}
use Rattle.vic_order.specs.Scenes.{SceneOf, after_step, after_serving, after_resending, after_copying, after_joining, last_taken, last_sent, is_client, is_server, server_at, waits_in, has_byte, Event, Asks, Takes, Flips, Hears}
use Rattle.vic_rules.specs.declared.object.ObjectCall.{ObjectCall}
use Rattle.vic_script.specs.Scenes.{events_of_hearing, most_turns, events_of_turns, events_of, is_plain_call, is_object_call, asked_tests, line_tests, bad_kind}
use Rattle.vic_view.specs.declared.transcript.Transcript.{Transcript}
use Rattle.vic_group.specs.declared.member.Member.{Member}
use Rattle.vic_group.specs.declared.world.World.{World}
use Rattle.vic_group.specs.declared.world.WorldFault.{WorldFault}
use Rattle.vic_group.specs.declared.world.WorldFault.TheVariants as fault
use Rattle.vic_group.specs.World.{ShowsParts, ShowsScene, Makes, MakesIf, LeftWithoutMemory, TurnsLeftWithoutMemory, AsksClient, end_by_waiting, DoesLine, states}
use Rattle.vic_group.proofs.Asking.{first_fails, one_passes, both_pass, second_fails}
use Rattle.vic_group.proofs.Turns.{serves_rest}

module _ {S V : Type 0} (state : S → V) (rule : Serving V) where
  -- a line that prints nothing, behind what was printed
  pub behind_all : (s : SceneOf V) (l : Line) (r : Result (Unit {0}) WorldFault) (w : World S) (out : List ℕ) → DoesLine state rule s l r w [] [] → DoesLine state rule s l r w out out
  behind_all s l (Ok ended) w out does = (does.0, (sym (append-nil out) ∙ ap (λ (text : List ℕ). out ++ text) does.1.0, does.1.1))
  behind_all s l (Err (fault.Bad k)) w out does = does
  behind_all s l (Err fault.NoMemory) w out does = does

  -- a line that is bad by a kind
  pub is_bad : (s : SceneOf V) (l : Line) (e : WorldFault) (k : ℕ) (w : World S) (before after : List ℕ) → e ≡ fault.Bad k → (bad_kind s l ≡ Some k) × ShowsScene state w s → DoesLine state rule s l (Err e) w before after
  is_bad s l e k w before after is does = subst (λ (f : WorldFault). DoesLine state rule s l (Err f) w before after) (sym is) does

  -- what a line leaves that found no memory and changed nothing
  pub left_as_is : (s : SceneOf V) (l : Line) (r : Result (Unit {0}) WorldFault) (w : World S) (before after : List ℕ) → r ≡ Err fault.NoMemory → LeftWithoutMemory state rule s l w → DoesLine state rule s l r w before after
  left_as_is s l r w before after is left = subst (λ (x : Result (Unit {0}) WorldFault). DoesLine state rule s l x w before after) (sym is) left

  -- a call of a client that is asked for it
  pub called_line : (r : Result (Unit {0}) WorldFault) (s : SceneOf V) (i : ℕ) (o copy : Op) (w : World S) → copy ≡ o → is_plain_call s o ≡ true
      → AsksClient state s i (input.Call copy) r w
      → DoesLine state rule s (line.Call i o) r w [] []
  unfolding bad_kind
  called_line (Err fault.NoMemory) s i o copy w same plain went = went
  called_line (Ok ended) s i o copy w same plain went = (
    ap (λ (b : Bool). if b then first_failing (asked_tests s i) else Some 1) plain ∙ went.0,
    (refl, subst (λ (p : Op). ShowsScene state w (after_step s i (input.Call p))) same went.1),
  )
  called_line (Err (fault.Bad k)) s i o copy w same plain went = (ap (λ (b : Bool). if b then first_failing (asked_tests s i) else Some 1) plain ∙ went.0, went.1)

  pub uncalled_line : (s : SceneOf V) (i : ℕ) (o : Op) (w : World S) → is_plain_call s o ≡ false → ShowsScene state w s → DoesLine state rule s (line.Call i o) (Err (fault.Bad 1)) w [] []
  unfolding bad_kind
  uncalled_line s i o w other shows = (first_fails 1 (is_plain_call s o) (asked_tests s i) other, shows)

  -- a call on objects of a client that is asked for it
  pub object_called_line : (r : Result (Unit {0}) WorldFault) (s : SceneOf V) (i : ℕ) (call copy : ObjectCall) (w : World S) → copy ≡ call → is_object_call s call ≡ true
      → AsksClient state s i (input.Object copy) r w
      → DoesLine state rule s (line.Object i call) r w [] []
  unfolding bad_kind
  object_called_line (Err fault.NoMemory) s i call copy w same objects went = went
  object_called_line (Ok ended) s i call copy w same objects went = (
    ap (λ (b : Bool). if b then first_failing (asked_tests s i) else Some 1) objects ∙ went.0,
    (refl, subst (λ (c : ObjectCall). ShowsScene state w (after_step s i (input.Object c))) same went.1),
  )
  object_called_line (Err (fault.Bad k)) s i call copy w same objects went = (ap (λ (b : Bool). if b then first_failing (asked_tests s i) else Some 1) objects ∙ went.0, went.1)

  pub object_uncalled_line : (s : SceneOf V) (i : ℕ) (call : ObjectCall) (w : World S) → is_object_call s call ≡ false → ShowsScene state w s → DoesLine state rule s (line.Object i call) (Err (fault.Bad 1)) w [] []
  unfolding bad_kind
  object_uncalled_line s i call w other shows = (first_fails 1 (is_object_call s call) (asked_tests s i) other, shows)

  -- a line by which a client is asked for something
  pub asks : (r : Result (Unit {0}) WorldFault) (s : SceneOf V) (l : Line) (i : ℕ) (given : Input) (w : World S) (out : List ℕ) → line_tests s l ≡ asked_tests s i → events_of rule s l ≡ Asks i given ∷ []
      → (ShowsScene state w s → LeftWithoutMemory state rule s l w)
      → AsksClient state s i given r w
      → DoesLine state rule s l r w out out
  unfolding bad_kind
  asks (Err fault.NoMemory) s l i given w out tests does left went = left went
  asks (Ok ended) s l i given w out tests does left went = (
    ap (λ (cs : List (ℕ × Bool)). first_failing cs) tests ∙ went.0,
    subst (λ (ms : List Event). Makes state rule s ms w out out) (sym does) (sym (append-nil out), went.1),
  )
  asks (Err (fault.Bad k)) s l i given w out tests does left went = (ap (λ (cs : List (ℕ × Bool)). first_failing cs) tests ∙ went.0, went.1)

  -- a line of a client that isn't there
  pub absent : (r : Result (Unit {0}) WorldFault) (s : SceneOf V) (l : Line) (who : ℕ) (others : List (ℕ × Bool)) (w : World S) (before after : List ℕ) → r ≡ Err (fault.Bad 2) → line_tests s l ≡ (2, is_client s who) ∷ others → is_client s who ≡ false
      → ShowsScene state w s → DoesLine state rule s l r w before after
  unfolding bad_kind
  absent r s l who others w before after is tests gone shows =
      subst (λ (x : Result (Unit {0}) WorldFault). DoesLine state rule s l x w before after) (sym is)
      (ap (λ (cs : List (ℕ × Bool)). first_failing cs) tests ∙ first_fails 2 (is_client s who) others gone, shows)

  -- a serving
  was_served_line : (s : SceneOf V) (i who : ℕ) (w : World S) → i ≡ who → is_client s i ≡ true → waits_in s.up i ≡ true → ShowsScene state w (after_serving rule s i) → DoesLine state rule s (line.Serve who) (Ok tt) w [] []
  unfolding bad_kind
  was_served_line s i who w e there some shows =
      subst (λ (n : ℕ). DoesLine state rule s (line.Serve n) (Ok tt) w [] []) e (both_pass 2 5 (is_client s i) (waits_in s.up i) there some, (refl, shows))

  unserved_line : (s : SceneOf V) (i who : ℕ) (w : World S) → i ≡ who → is_client s i ≡ true → waits_in s.up i ≡ false → ShowsScene state w (after_serving rule s i) → DoesLine state rule s (line.Serve who) (Err (fault.Bad 5)) w [] []
  unfolding bad_kind
  unserved_line s i who w e there none shows =
      subst (λ (n : ℕ). DoesLine state rule s (line.Serve n) (Err (fault.Bad 5)) w [] []) e
      (second_fails 2 5 (is_client s i) (waits_in s.up i) there none, subst (λ (t : SceneOf V). ShowsScene state w t) (serves_rest rule s i none) shows)

  -- either
  pub served_line : (went : Bool) (s : SceneOf V) (i who : ℕ) (w : World S) → i ≡ who → is_client s i ≡ true → waits_in s.up i ≡ went → ShowsScene state w (after_serving rule s i)
      → DoesLine state rule s (line.Serve who) (end_by_waiting went) w [] []
  served_line true s i who w e there waits shows = was_served_line s i who w e there waits shows
  served_line false s i who w e there waits shows = unserved_line s i who w e there waits shows

  -- a taking
  was_took_line : (s : SceneOf V) (i who : ℕ) (w : World S) (before after : List ℕ) (went : Bool) → i ≡ who → is_client s i ≡ true → went ≡ true → (waits_in s.down i ≡ went) × MakesIf state rule s (Takes i) w before after went
      → DoesLine state rule s (line.Take who) (Ok tt) w before after
  unfolding bad_kind
  was_took_line s i who w before after went e there came does =
      subst (λ (n : ℕ). DoesLine state rule s (line.Take n) (Ok tt) w before after) e
      (both_pass 2 5 (is_client s i) (waits_in s.down i) there (does.0 ∙ came), subst (λ (g : Bool). MakesIf state rule s (Takes i) w before after g) came does.1)

  untook_line : (s : SceneOf V) (i who : ℕ) (w : World S) (before after : List ℕ) (went : Bool) → i ≡ who → is_client s i ≡ true → went ≡ false → (waits_in s.down i ≡ went) × MakesIf state rule s (Takes i) w before after went
      → DoesLine state rule s (line.Take who) (Err (fault.Bad 5)) w before after
  unfolding bad_kind
  untook_line s i who w before after went e there gone does =
      subst (λ (n : ℕ). DoesLine state rule s (line.Take n) (Err (fault.Bad 5)) w before after) e
      (second_fails 2 5 (is_client s i) (waits_in s.down i) there (does.0 ∙ gone), (subst (λ (g : Bool). MakesIf state rule s (Takes i) w before after g) gone does.1).1)

  -- either
  pub took_line : (went : Bool) (s : SceneOf V) (i who : ℕ) (w : World S) (before after : List ℕ) → i ≡ who → is_client s i ≡ true → (waits_in s.down i ≡ went) × MakesIf state rule s (Takes i) w before after went
      → DoesLine state rule s (line.Take who) (end_by_waiting went) w before after
  took_line true s i who w before after e there does = was_took_line s i who w before after true e there refl does
  took_line false s i who w before after e there does = untook_line s i who w before after false e there refl does

  -- a taking of an answer that was changed
  was_flipped_line : (s : SceneOf V) (i who n : ℕ) (w : World S) (before after : List ℕ) (went : Bool) → i ≡ who → is_client s i ≡ true → went ≡ true → (has_byte s.down i n ≡ went) × MakesIf state rule s (Flips i n) w before after went
      → DoesLine state rule s (line.Flip who n) (Ok tt) w before after
  unfolding bad_kind
  was_flipped_line s i who n w before after went e there came does =
      subst (λ (k : ℕ). DoesLine state rule s (line.Flip k n) (Ok tt) w before after) e
      (both_pass 2 5 (is_client s i) (has_byte s.down i n) there (does.0 ∙ came), subst (λ (g : Bool). MakesIf state rule s (Flips i n) w before after g) came does.1)

  unflipped_line : (s : SceneOf V) (i who n : ℕ) (w : World S) (before after : List ℕ) (went : Bool) → i ≡ who → is_client s i ≡ true → went ≡ false → (has_byte s.down i n ≡ went) × MakesIf state rule s (Flips i n) w before after went
      → DoesLine state rule s (line.Flip who n) (Err (fault.Bad 5)) w before after
  unfolding bad_kind
  unflipped_line s i who n w before after went e there gone does =
      subst (λ (k : ℕ). DoesLine state rule s (line.Flip k n) (Err (fault.Bad 5)) w before after) e
      (second_fails 2 5 (is_client s i) (has_byte s.down i n) there (does.0 ∙ gone), (subst (λ (g : Bool). MakesIf state rule s (Flips i n) w before after g) gone does.1).1)

  -- either
  pub flipped_line : (went : Bool) (s : SceneOf V) (i who n : ℕ) (w : World S) (before after : List ℕ) → i ≡ who → is_client s i ≡ true → (has_byte s.down i n ≡ went) × MakesIf state rule s (Flips i n) w before after went
      → DoesLine state rule s (line.Flip who n) (end_by_waiting went) w before after
  flipped_line true s i who n w before after e there does = was_flipped_line s i who n w before after true e there refl does
  flipped_line false s i who n w before after e there does = unflipped_line s i who n w before after false e there refl does

  -- a run
  pub ran_line : (s : SceneOf V) (i who : ℕ) (w : World S) (before after : List ℕ) → i ≡ who → is_client s i ≡ true → Makes state rule s (events_of_turns rule most_turns s i) w before after
      → DoesLine state rule s (line.Run who) (Ok tt) w before after
  unfolding bad_kind
  ran_line s i who w before after e there does = subst (λ (n : ℕ). DoesLine state rule s (line.Run n) (Ok tt) w before after) e (one_passes 2 (is_client s i) there, does)

  pub cut_line : {T : Type 0} (r : Result T NoMemory) (s : SceneOf V) (i who : ℕ) (w : World S) → i ≡ who → is_client s i ≡ true → OnErr r (TurnsLeftWithoutMemory state rule most_turns s i w) → OnErr r ((is_client s who ≡ true) × TurnsLeftWithoutMemory state rule most_turns s who w)
  cut_line (Ok done) s i who w e there left = tt
  cut_line (Err f) s i who w e there left = subst (λ (n : ℕ). (is_client s n ≡ true) × TurnsLeftWithoutMemory state rule most_turns s n w) e (there, left)

  -- a payload that is given
  pub gave_line : (s : SceneOf V) (i who : ℕ) (payload copy : List ℕ) (w : World S) (before after : List ℕ) → i ≡ who → copy ≡ payload → is_client s i ≡ true
      → Makes state rule s (Hears i copy ∷ []) w before after → DoesLine state rule s (line.Give who payload) (Ok tt) w before after
  unfolding bad_kind
  gave_line s i who payload copy w before after e same there does =
      subst (λ (p : List ℕ). DoesLine state rule s (line.Give who p) (Ok tt) w before after) same
      (subst (λ (n : ℕ). DoesLine state rule s (line.Give n copy) (Ok tt) w before after) e (one_passes 2 (is_client s i) there, does))

  -- a payload that is taken once more
  pub repeated_line : (s : SceneOf V) (i who : ℕ) (payload : List ℕ) (w : World S) (before after : List ℕ) → i ≡ who → last_taken i s.history ≡ Some payload → is_client s i ≡ true
      → Makes state rule s (Hears i payload ∷ []) w before after → DoesLine state rule s (line.Again who) (Ok tt) w before after
  unfolding bad_kind
  repeated_line s i who payload w before after e last there does =
      subst (λ (n : ℕ). DoesLine state rule s (line.Again n) (Ok tt) w before after) e (
        both_pass 2 5 (is_client s i) (is_some (last_taken i s.history)) there (ap (λ (o : Option (List ℕ)). is_some o) last),
        subst (λ (o : Option (List ℕ)). Makes state rule s (events_of_hearing i o) w before after) (sym last) does,
      )

  pub unrepeated_line : (s : SceneOf V) (i who : ℕ) (w : World S) → i ≡ who → last_taken i s.history ≡ None → is_client s i ≡ true → ShowsScene state w s → (bad_kind s (line.Again who) ≡ Some 5) × ShowsScene state w s
  unfolding bad_kind
  unrepeated_line s i who w e none there shows =
      subst (λ (n : ℕ). (bad_kind s (line.Again n) ≡ Some 5) × ShowsScene state w s) e (second_fails 2 5 (is_client s i) (is_some (last_taken i s.history)) there (ap (λ (o : Option (List ℕ)). is_some o) none), shows)

  -- a server that is copied
  pub copied_line : (s : SceneOf V) (n to : ℕ) (w : World S) → is_server_number to ≡ true → is_server s n ≡ true → ShowsScene state w (after_copying s n to) → DoesLine state rule s (line.Copy n to) (Ok tt) w [] []
  unfolding bad_kind
  copied_line s n to w place there shows = (both_pass 1 6 (is_server_number to) (is_server s n) place there, (refl, shows))

  pub misplaced_line : (s : SceneOf V) (n to : ℕ) (w : World S) → is_server_number to ≡ false → ShowsScene state w s → DoesLine state rule s (line.Copy n to) (Err (fault.Bad 1)) w [] []
  unfolding bad_kind
  misplaced_line s n to w place shows = (first_fails 1 (is_server_number to) ((6, is_server s n) ∷ []) place, shows)

  pub uncopied_line : (s : SceneOf V) (n to : ℕ) (w : World S) → is_server_number to ≡ true → is_server s n ≡ false → ShowsScene state w s → DoesLine state rule s (line.Copy n to) (Err (fault.Bad 6)) w [] []
  unfolding bad_kind
  uncopied_line s n to w place gone shows = (second_fails 1 6 (is_server_number to) (is_server s n) place gone, shows)

  -- a client that would join a server that doesn't exist
  pub unmoved_line : (s : SceneOf V) (i who n : ℕ) (w : World S) → i ≡ who → is_client s i ≡ true → is_server s n ≡ false → ShowsScene state w s → DoesLine state rule s (line.Move who n) (Err (fault.Bad 6)) w [] []
  unfolding bad_kind
  unmoved_line s i who n w e there gone shows =
      subst (λ (k : ℕ). DoesLine state rule s (line.Move k n) (Err (fault.Bad 6)) w [] []) e (second_fails 2 6 (is_client s i) (is_server s n) there gone, shows)

  -- a line of the header, once a script has opened
  pub header_line : (s : SceneOf V) (l : Line) (w : World S) → ((n : ℕ) × (l ≡ line.Clients n)) ⊎ (((n : ℕ) × (l ≡ line.Objects n)) ⊎ (((digits : List ℕ) × (l ≡ line.Key digits)) ⊎ ((name : List ℕ) × (n : ℕ) × (l ≡ line.Hostile name n))))
      → ShowsScene state w s → (bad_kind s l ≡ Some 1) × ShowsScene state w s
  unfolding bad_kind
  header_line s l w (inl a) shows = (ap (λ (k : Line). first_failing (line_tests s k)) a.1, shows)
  header_line s l w (inr (inl a)) shows = (ap (λ (k : Line). first_failing (line_tests s k)) a.1, shows)
  header_line s l w (inr (inr (inl a))) shows = (ap (λ (k : Line). first_failing (line_tests s k)) a.1, shows)
  header_line s l w (inr (inr (inr a))) shows = (ap (λ (k : Line). first_failing (line_tests s k)) a.2, shows)

  -- a line that does nothing
  pub skipped_line : (s : SceneOf V) (l : Line) (w : World S) (out : List ℕ) → l ≡ line.Skip → ShowsScene state w s → DoesLine state rule s l (Ok tt) w out out
  unfolding bad_kind
  skipped_line s l w out is shows = subst (λ (k : Line). DoesLine state rule s k (Ok tt) w out out) (sym is) (refl, (sym (append-nil out), shows))

-- a server of the scene that a world shows
pub server_shown : {S V : Type 0} (state : S → V) (w : World S) (s : SceneOf V) (n : ℕ) → ShowsScene state w s → is_some (server_at (states state w.servers) n) ≡ is_server s n
server_shown {V = V} state w s n shows = ap (λ (us : List (Option V)). is_some (server_at us n)) shows.servers

module _ {V : Type 0} (t : Transcript) (ms : List Member) (vs : List (Option V)) where
  -- a payload that is sent again
  resent_shows : (s : SceneOf V) (i who : ℕ) → i ≡ who → is_some (last_sent i s.history) ≡ true → is_client s i ≡ true → ShowsParts t ms vs (after_resending s i)
      → (bad_kind s (line.Resend who) ≡ None) × ((◌≡◌ {A = List ℕ} [] []) × ShowsParts t ms vs (after_resending s who))
  unfolding bad_kind
  resent_shows s i who e some there shows =
      subst (λ (n : ℕ). (bad_kind s (line.Resend n) ≡ None) × ((◌≡◌ {A = List ℕ} [] []) × ShowsParts t ms vs (after_resending s n))) e (both_pass 2 5 (is_client s i) (is_some (last_sent i s.history)) there some, (refl, shows))

  unresent_shows : (s : SceneOf V) (i who : ℕ) → i ≡ who → is_some (last_sent i s.history) ≡ false → is_client s i ≡ true → ShowsParts t ms vs s → (bad_kind s (line.Resend who) ≡ Some 5) × ShowsParts t ms vs s
  unfolding bad_kind
  unresent_shows s i who e none there shows =
      subst (λ (n : ℕ). (bad_kind s (line.Resend n) ≡ Some 5) × ShowsParts t ms vs s) e (second_fails 2 5 (is_client s i) (is_some (last_sent i s.history)) there none, shows)

  -- a client that joins a server
  pub moved_shows : (s : SceneOf V) (i who n : ℕ) → i ≡ who → is_client s i ≡ true → is_server s n ≡ true → ShowsParts t ms vs (after_joining s i n)
      → (bad_kind s (line.Move who n) ≡ None) × ((◌≡◌ {A = List ℕ} [] []) × ShowsParts t ms vs (after_joining s who n))
  unfolding bad_kind
  moved_shows s i who n e there server shows =
      subst (λ (k : ℕ). (bad_kind s (line.Move k n) ≡ None) × ((◌≡◌ {A = List ℕ} [] []) × ShowsParts t ms vs (after_joining s k n))) e (both_pass 2 6 (is_client s i) (is_server s n) there server, (refl, shows))

-- a payload that is sent again, or none that could be
pub resent_line : {S V : Type 0} (state : S → V) (rule : Serving V) (went : Bool) (s : SceneOf V) (i who : ℕ) (w : World S) → i ≡ who → is_some (last_sent i s.history) ≡ went → is_client s i ≡ true
    → (went ≡ true → ShowsScene state w (after_resending s i)) → (went ≡ false → ShowsScene state w s) → DoesLine state rule s (line.Resend who) (end_by_waiting went) w [] []
resent_line state rule true s i who w e some there again same = resent_shows w.transcript w.members.items (states state w.servers) s i who e some there (again refl)
resent_line state rule false s i who w e none there again same = unresent_shows w.transcript w.members.items (states state w.servers) s i who e none there (same refl)
