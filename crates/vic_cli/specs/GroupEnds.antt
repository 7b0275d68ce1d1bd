-- How the command on a script ends: what was read, what was written, and why.
use Rattle.std.specs.Prelude.{◌≡◌, ◌∷◌, ℕ, ◌⊎◌, ◌↔◌, Bool, true, false, List, ◌++◌, reverse, Option, Some, None, IsSome, IfSome}
use Rattle.std.specs.List.{flat_map}
use Rattle.vic_rules.specs.declared.trace.TraceStep.{TraceStep}
use Rattle.vic_rules.specs.History.{IsLawful}
use Rattle.vic_rules.specs.Headline.{Headline}
use Rattle.vic_rules.specs.Trust.{IsForged}
use Rattle.vic_rules.specs.Views.{view_of, HasAll, ShowsOnlyCalls, Agree, IsInRealTime}
use Rattle.vic_laws.specs.Claims.{HashesTellPathsIn, SealsHoldIn}
use Rattle.vic_laws.specs.OrderClaims.{CompletedOnceIn, DoneMeetsNoConflictIn, AnswersStandIn}
use Rattle.vic_laws.specs.Meanings.{AbortedByConflictIn, SealedAnswersStandIn}
use Rattle.vic_laws.specs.ContentClaims.{LoadsGetTheLastIn}
use Rattle.vic_laws.specs.AskedClaims.{CallsAreAskedIn, CallsWhatItIsAsked}
use Rattle.vic_ports.specs.Causes.{Rose}
use Rattle.vic_order.specs.Scenes.{SceneOf}
use Rattle.vic_order.specs.Honest.{ComesHonestly}
use Rattle.vic_attacks.specs.Hostile.{Hostile}
use Rattle.vic_script.specs.Run.{Bad, run_of, is_honest_script, script_group, script_history, bad_line_of}
use Rattle.vic_script.specs.Print.{print_of_script, is_forged, all_views, all_agreements, tags_line}
use Rattle.vic_runs.specs.Agreements.{AgreementsCountIn}
use Rattle.vic_runs.specs.Reached.{GoesAs}
use Rattle.vic_runs.specs.Claims.{line_of_step}
use Rattle.vic_honest.specs.SafeRuns.{AreApart}
use Rattle.vic_honest.specs.Claims.{IsHonestScene, HoldsAnyway}
use Rattle.vic_script_runs.specs.Events.{script_events}
use Rattle.vic_script_runs.specs.Claims.{ComesOf}
use Rattle.vic_text.specs.declared.status.Status.{Status}
use Rattle.vic_text.specs.declared.status.Status.TheVariants as status
use Rattle.vic_text.specs.Statuses.{read_fault_line, no_memory_line}
use Rattle.vic_cli.specs.Output.{Taken, IsUnread, IsReadWhole, IsReadPast}
use Rattle.vic_cli.specs.Command.{Command}

-- every line of a script is done, and this tells whether a tag was forged
abbrev pub IsDone : Bool → List ℕ → Type 0
IsDone forged script = (bad_line_of script ≡ None) × (is_forged (script_group script) (script_history script) ≡ forged)

-- a line of a script is bad
abbrev pub HasBad : List ℕ → Type 0
HasBad script = IsSome (bad_line_of script)

-- of the script, where it is told, this holds, and the text is its print
abbrev pub IsPrint : Taken → (List ℕ → Type 0) → List ℕ → Type 0
IsPrint t Holds text = IfSome t.old (λ script. Holds script × (text ≡ print_of_script script))

-- with status 0 and 1 the source was read to its end, every line was done, and all tags were made or one wasn't; with 3 a read
-- failed; with 5 a line is bad. Where memory ran out, no read had failed
abbrev pub Causes : Bool → Taken → Status → List ℕ → Type 0
Causes right t status.Ok text = IsReadWhole t × IsPrint t (IsDone false) text
Causes right t status.TagsNotMade text = IsReadWhole t × IsPrint t (IsDone true) text
Causes right t status.ReadFault text = Rose t.before t.now × (text ≡ read_fault_line)
Causes right t status.BadLine text = (IsReadWhole t ⊎ IsReadPast t) × IsPrint t HasBad text
Causes right t status.NoMemory text = (right ≡ true) × (t.now ≡ t.before)
Causes right t s text = ⊥

-- the status of a run: of its bad line, and of whether a tag was forged
abbrev pub status_of : Option Bad → Bool → Status
status_of (Some b) forged = status.BadLine
status_of None false = status.Ok
status_of None true = status.TagsNotMade

abbrev pub run_status : List ℕ → Status
run_status script = status_of (bad_line_of script) (is_forged (script_group script) (script_history script))

abbrev pub group_command : Bool → Taken → Command
group_command right t = record {
  right = right ≡ true;
  untouched = IsUnread t;
  causes = Causes right t;
  due = λ s. (Rose t.before t.now → ⊥) × ((script : List ℕ) × ((t.old ≡ Some script) × (s ≡ run_status script)));
}

-- a status and its text after the run of a script
abbrev pub TellsRun : List ℕ → Status → List ℕ → Type 0
TellsRun script s text =
    ((s ≡ run_status script) × (text ≡ print_of_script script)) ⊎ ((s ≡ status.NoMemory) × (text ≡ no_memory_line))

-- what holds of the run of a script in which no line tampers with what its one server answers
pub record IsHonest (script : List ℕ) : Type 0 where
  -- honest events lead where it ends, with one server that follows the rule
  pub comes : (s : SceneOf Hostile) → (run_of script).scene ≡ Some s → ComesHonestly GoesAs s
  -- these are the events of its lines, one line after the other
  pub lines : (s : SceneOf Hostile) (is : (run_of script).scene ≡ Some s) → (comes s is).events ≡ script_events script
  -- every tag that a client took was made by a client before
  pub tags_made : is_forged (script_group script) (script_history script) ≡ false
  -- each client's path is the oldest entries of the server's log, up to some position
  pub anyway : (s : SceneOf Hostile) (is : (run_of script).scene ≡ Some s) → HoldsAnyway s.group s.history (comes s is).server
  -- and where contents are apart (in a group with objects no two different ones that clients sent have one hash; in a plain group none is
  -- sent), what holds of honest runs holds there: each completed call returned what becomes of it in the server's log, no step
  -- returned that a check failed, each load that returned a content returned the one that was stored last, and more
  pub holds : (s : SceneOf Hostile) (is : (run_of script).scene ≡ Some s) → AreApart s.group s.history → IsHonestScene s (comes s is).events (comes s is).server
  -- and then no line is bad for that its client has halted
  pub none_halted : AreApart (script_group script) (script_history script) → (b : Bad) → bad_line_of script ≡ Some b → b.kind ≡ 3 → ⊥

-- what holds of the run of a script, whatever its lines give, change, repeat or send again, and whatever servers they copy and join
pub record IsAsClaimed (script : List ℕ) : Type 0 where
  -- the events of its lines, one line after the other, may happen, and lead where it ends, from an opening whose server misbehaves as a
  -- line of the script names it, or doesn't
  pub comes : (s : SceneOf Hostile) → (run_of script).scene ≡ Some s → ComesOf script s (script_events script)
  -- its clients step by the rules
  pub lawful : IsLawful (script_group script) (script_history script)
  -- two fronts of its clients' paths that have one hash are equal, or two listed texts collide
  pub paths : HashesTellPathsIn (script_group script) (script_history script)
  -- each seal that a client took or made holds, unless a tag was forged or two listed texts collide
  pub seals : SealsHoldIn (script_group script) (script_history script)
  -- the claim on the views of all clients
  pub views : Headline (script_group script) (script_history script)
  -- and so at each earlier moment of the run
  pub fronts : (later earlier : List TraceStep) → script_history script ≡ later ++ earlier → IsLawful (script_group script) earlier × Headline (script_group script) earlier
  -- of which these need no exception: each view has each call that its client completed, once, and only calls that were made and
  -- returned so, and every two views agree up to each call in both
  pub complete : (me : ℕ) → HasAll (script_group script) me (script_history script) (view_of (script_group script) me (script_history script))
  pub only_calls : (me : ℕ) → ShowsOnlyCalls (script_group script) (script_history script) (view_of (script_group script) me (script_history script))
  pub agree : (i j : ℕ) → Agree (view_of (script_group script) i (script_history script)) (view_of (script_group script) j (script_history script))
  -- and this only that no tag was forged: each view keeps real-time order
  pub real_time : (IsForged (script_group script) (script_history script) → ⊥) → (me : ℕ) → IsInRealTime (script_group script) (script_history script) (view_of (script_group script) me (script_history script))
  -- a call has at most one completion
  pub once : CompletedOnceIn (script_group script) (script_history script)
  -- a call that is done conflicts with no entry of another client above the seal of its Reply and below the call
  pub no_conflict : DoneMeetsNoConflictIn (script_group script) (script_history script)
  -- so its answer is that of the Reply's part after its client's own done calls above the seal, whichever of those entries take effect
  pub stands : AnswersStandIn (script_group script) (script_history script)
  -- and, unless a tag was forged or two listed texts collide, that of what the calls up to the seal leave, after the same
  pub sealed : SealedAnswersStandIn (script_group script) (script_history script)
  -- a call is aborted exactly by the least entry of another client, above the seal of its Reply and below the call, that conflicts with it
  pub aborts : AbortedByConflictIn (script_group script) (script_history script)
  -- in a group with objects each content that a load returned is that of the last done store of its name before the load's get, in its
  -- client's view, unless a tag was forged or two listed texts collide
  pub contents : LoadsGetTheLastIn (script_group script) (script_history script)
  -- a client calls what it is asked for and nothing else, and the numbers of its calls rise by one
  pub asked : CallsAreAskedIn (script_group script) (script_history script)
  pub called : (later : List TraceStep) (x : TraceStep) (past : List TraceStep) → script_history script ≡ later ++ x ∷ past → CallsWhatItIsAsked (script_group script) past x
  -- each call that stands in two clients' views stands within the number that is printed for the two
  pub agreed : AgreementsCountIn (script_group script) (script_history script)
  -- the test that decides between the statuses 0 and 1, and that the print tells, is true exactly where a tag is forged
  pub tags : (is_forged (script_group script) (script_history script) ≡ true) ↔ IsForged (script_group script) (script_history script)
  -- where no line is bad, the print has what the lines printed, the views, how far they agree, and that test's answer
  pub says_so : bad_line_of script ≡ None → print_of_script script ≡ (run_of script).text
      ++ (all_views (script_group script) (script_history script) ++ all_agreements (script_group script) (script_history script) ++ tags_line (is_forged (script_group script) (script_history script)))
  -- what the lines printed is what the steps returned in which clients took payloads, the oldest first
  pub prints : (run_of script).text ≡ flat_map line_of_step (reverse (script_history script))
  -- where no line tampers, it is as with one honest server
  pub honest : is_honest_script script ≡ true → IsHonest script
