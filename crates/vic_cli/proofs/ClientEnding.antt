-- The command of a client: from what it composes to how it ends.
use Rattle.std.proofs.Common.{◌≡◌, ◌⊎◌, inl, inr, ℕ, ◌<◌, ◌≤◌, List, [], ◌∷◌, length, length-append, get_or, Bool, true, ◌&&◌, Option, Some, None, Result, IfOk, if◌then◌else◌, refl, sym, ap, subst, ◌∙◌, arith}
use Rattle.std.specs.Prelude.{codes, IsSome, IsSomeAnd}
use Rattle.std.specs.Str.{bytes_eq}
use Rattle.vic_dict.specs.declared.bytes.NoMemory.{NoMemory}
use Rattle.vic_rules.specs.Client.{at_start}
use Rattle.vic_client.specs.Kept.{KeptClient, StandsFor, kept_group}
use Rattle.vic_wire.specs.Hashes.{Group}
use Rattle.vic_wire.specs.declared.message.Digest32.{Digest32}
use Rattle.vic_conn.specs.Frames.{frames_of}
use Rattle.vic_ports.specs.Causes.{Rose, LeavesBehind}
use Rattle.vic_ports.specs.InputGives.{InputGives}
use Rattle.vic_ports.specs.declared.reading.InputRead.TheVariants as input
use Rattle.vic_ports.specs.Links.{Told}
use Rattle.vic_script.specs.Run.{script_limit}
use Rattle.vic_session.specs.declared.end.SessionEnd.{SessionEnd}
use Rattle.vic_session.specs.declared.end.SessionEnd.TheVariants as ends
use Rattle.vic_session.specs.Sessions.{IsSession}
use Rattle.vic_session.specs.Laws.{IsServed}
use Rattle.vic_session.proofs.Lawful.{sessions_are_lawful}
use Rattle.vic_session.proofs.Complete.{complete}
use Rattle.vic_text.specs.declared.status.Status.{Status}
use Rattle.vic_text.specs.declared.status.Status.TheVariants as status
use Rattle.vic_text.specs.Statuses.{usage_line, read_fault_line}
use Rattle.vic_cli.specs.Output.{Taken, Given, IsReadWhole, WroteAll}
use Rattle.vic_cli.specs.Command.{Plans, Ends, IsComplete}
use Rattle.vic_cli.specs.ClientWords.{ClientWords, client_words, words_with_count, words_of_parts, key_in, IsClientOf}
use Rattle.vic_cli.specs.Arguments.{is_address, mode_of, number_in}
use Rattle.vic_cli.specs.Telling.{status_by, text_by, TellsEnd, TellsSession}
use Rattle.vic_cli.specs.ClientEnds.{IsScript, HasSession, Did, Causes, CanBeDone, client_command}
use Rattle.vic_cli.proofs.Sources.{told_whole}
use Rattle.vic_cli.proofs.Command.{none_of, known_of, complete_of}

-- ---- words

-- six words, of a slice that has so many
pub six : {A : Type 0} (xs : List A) (a b c d e f : A) → 6 ≤ length xs → length xs < 7 → a ≡ get_or xs 0 a → b ≡ get_or xs 1 b → c ≡ get_or xs 2 c → d ≡ get_or xs 3 d → e ≡ get_or xs 4 e → f ≡ get_or xs 5 f
    → xs ≡ a ∷ b ∷ c ∷ d ∷ e ∷ f ∷ []
six [] a b c d e f least most h0 h1 h2 h3 h4 h5 = absurd (omega (arith, least))
six (x0 ∷ []) a b c d e f least most h0 h1 h2 h3 h4 h5 = absurd (omega (arith, least))
six (x0 ∷ x1 ∷ []) a b c d e f least most h0 h1 h2 h3 h4 h5 = absurd (omega (arith, least))
six (x0 ∷ x1 ∷ x2 ∷ []) a b c d e f least most h0 h1 h2 h3 h4 h5 = absurd (omega (arith, least))
six (x0 ∷ x1 ∷ x2 ∷ x3 ∷ []) a b c d e f least most h0 h1 h2 h3 h4 h5 = absurd (omega (arith, least))
six (x0 ∷ x1 ∷ x2 ∷ x3 ∷ x4 ∷ []) a b c d e f least most h0 h1 h2 h3 h4 h5 = absurd (omega (arith, least))
six (x0 ∷ x1 ∷ x2 ∷ x3 ∷ x4 ∷ x5 ∷ []) a b c d e f least most h0 h1 h2 h3 h4 h5 = cc
six (x0 ∷ x1 ∷ x2 ∷ x3 ∷ x4 ∷ x5 ∷ x6 ∷ xs) a b c d e f least most h0 h1 h2 h3 h4 h5 = absurd (omega (arith, most))

-- other numbers of words are no command of a client
pub not_six : (ws : List (List ℕ)) → (length ws ≡ 6 → ⊥) → IsClientOf (client_words ws) None
not_six [] other = tt
not_six (x0 ∷ []) other = tt
not_six (x0 ∷ x1 ∷ []) other = tt
not_six (x0 ∷ x1 ∷ x2 ∷ []) other = tt
not_six (x0 ∷ x1 ∷ x2 ∷ x3 ∷ []) other = tt
not_six (x0 ∷ x1 ∷ x2 ∷ x3 ∷ x4 ∷ []) other = tt
not_six (x0 ∷ x1 ∷ x2 ∷ x3 ∷ x4 ∷ x5 ∷ []) other = absurd (other refl)
not_six (x0 ∷ x1 ∷ x2 ∷ x3 ∷ x4 ∷ x5 ∷ x6 ∷ xs) other = tt

-- six words of which the first two are right, and the count
pub six_right : (name address id count key kind : List ℕ) (n : ℕ) (r : Result (Option KeptClient) NoMemory) → (bytes_eq name (codes "client") && is_address address) ≡ true → number_in 64 count ≡ Some n
    → IfOk r (λ c. IsClientOf (words_of_parts address n (number_in n id) (key_in key) (mode_of kind)) c) → IfOk r (λ c. IsClientOf (client_words (name ∷ address ∷ id ∷ count ∷ key ∷ kind ∷ [])) c)
six_right name address id count key kind n r right many h =
    subst (λ (b : Bool). IfOk r (λ c. IsClientOf (if b then words_with_count address id key kind (number_in 64 count) else None) c)) (sym right)
    (subst (λ (o : Option ℕ). IfOk r (λ c. IsClientOf (words_with_count address id key kind o) c)) (sym many) h)

-- words that are wrong are no client's
pub none_known : (o : Option ClientWords) (c : KeptClient) → IsClientOf o (Some c) → o ≡ None → ⊥
none_known None c is e = is
none_known (Some w) c is e = cc

-- ---- what is planned

pub stands_known : (o : Option ClientWords) (c : KeptClient) → IsClientOf o (Some c) → StandsFor c at_start
stands_known None c is = absurd is
stands_known (Some w) c is = is.1.1.0

-- what the words say is known
pub plans_known : (o : Option ClientWords) (c : KeptClient) (t : Taken) (old new : Told) (s : Status) (text : List ℕ) → IsClientOf o (Some c)
    → ((w : ClientWords) → IsClientOf (Some w) (Some c) → Plans (client_command (Some w) t old new) s text) → Plans (client_command o t old new) s text
plans_known None c t old new s text is f = absurd is
plans_known (Some w) c t old new s text is f = f w is

session_of : (w : ClientWords) (c : KeptClient) (script : List ℕ) (old new : Told) (end : SessionEnd) (printed : List ℕ) → c.id ≡ w.me → kept_group c ≡ w.group
    → IsSession (kept_group c) c.id script old [] end new printed → IsSession w.group w.me script old [] end new printed
session_of w c script old new end printed id group s =
    subst (λ (g : Group). IsSession g w.me script old [] end new printed) group (subst (λ (n : ℕ). IsSession (kept_group c) n script old [] end new printed) id s)

quiet_script : (t : Taken) (script : List ℕ) → IsScript t script → t.now ≡ t.before
quiet_script t script is = elim is.1 [ inl whole ↦ whole.0 | inr past ↦ past.0 ]

-- a session was done, and is told
plans_told : (w : ClientWords) (t : Taken) (old new : Told) (end : SessionEnd) (printed : List ℕ) (text : List ℕ) → Did w t old new end printed → text ≡ text_by end printed → Plans (client_command (Some w) t old new) (status_by end) text
plans_told w t old new ends.Ok printed text did line = (refl, (ends.Ok, (printed, (did, (refl, line)))))
plans_told w t old new (ends.BadLine n kind) printed text did line = (refl, (ends.BadLine n kind, (printed, (did, (refl, line)))))
plans_told w t old new ends.LinkFault printed text did line = (refl, (ends.LinkFault, (printed, (did, (refl, line)))))
plans_told w t old new (ends.Halted check hash) printed text did line = (refl, (ends.Halted check hash, (printed, (did, (refl, line)))))
plans_told w t old new ends.BadFrame printed text did line = (refl, (ends.BadFrame, (printed, (did, (refl, line)))))
plans_told w t old new (ends.GreetingRefused r) printed text did line = (refl, (ends.GreetingRefused r, (printed, (did, (refl, line)))))
plans_told w t old new ends.NoMemory printed text did line = ((quiet_script t did.0 did.1.0, inr (ends.NoMemory, (printed, did))), line)

-- a session was done with the script that was read
plans_session : (w : ClientWords) (c : KeptClient) (t : Taken) (script : List ℕ) (old new : Told) (s : Status) (text : List ℕ) → IsClientOf (Some w) (Some c) → IsScript t script
    → (length script ≤ script_limit → IsReadWhole t) → TellsSession (kept_group c) c.id script old new s text → Plans (client_command (Some w) t old new) s text
plans_session w c t script old new s text is read whole tells = by_telling tells.1.1.1
  where
    x : IsSession w.group w.me script old [] tells.0 new tells.1.0
    x = session_of w c script old new tells.0 tells.1.0 is.0 is.1.0 tells.1.1.0.0

    did : Did w t old new tells.0 tells.1.0
    did =
        let j = is.1.1.1 in
        let has : HasSession w script old new tells.0 tells.1.0 = record {
          session = x;
          lawful = λ bytes told all. sessions_are_lawful w.group w.me script old new [] tells.1.0 tells.0 x j.group j.some j.most bytes told all;
        } in
        (script, (read, ((λ e. whole (tells.1.1.0.1 e)), has)))

    by_telling : TellsEnd tells.0 tells.1.0 s text → Plans (client_command (Some w) t old new) s text
    by_telling (inl told) = subst (λ (r : Status). Plans (client_command (Some w) t old new) r text) (sym told.0) (plans_told w t old new tells.0 tells.1.0 text did told.1)
    by_telling (inr none) =
        subst (λ (r : Status). Plans (client_command (Some w) t old new) r text) (sym none.0) ((quiet_script t script read, inr (tells.0, (tells.1.0, did))), none.1)

pub plans_whole : (w : ClientWords) (c : KeptClient) (t : Taken) (script : List ℕ) (old new : Told) (s : Status) (text : List ℕ) → IsClientOf (Some w) (Some c)
    → InputGives t.old t.new t.before t.now t.ended (input.Whole script) → TellsSession (kept_group c) c.id script old new s text → Plans (client_command (Some w) t old new) s text
plans_whole w c t script old new s text is read tells = plans_session w c t script old new s text is (read.0, inl (read.4, (read.2, read.1))) (λ few. (read.4, (read.2, read.1))) tells

pub plans_long : (w : ClientWords) (c : KeptClient) (t : Taken) (script : List ℕ) (old new : Told) (s : Status) (text : List ℕ) → IsClientOf (Some w) (Some c)
    → InputGives t.old t.new t.before t.now t.ended (input.TooLong script) → TellsSession (kept_group c) c.id script old new s text → Plans (client_command (Some w) t old new) s text
plans_long w c t script old new s text is read tells = plans_session w c t script old new s text is (read.0, inr (read.2, read.1)) (λ few. let long = read.1 in absurd (omega (arith, few, long))) tells

-- ---- where it ends well

read_whole : (t : Taken) (script given : List ℕ) → IsScript t script → t.old ≡ Some given → length given ≤ script_limit → given ≡ script
read_whole t script given is told few = by_end is.1
  where
    took : LeavesBehind script (Some given) t.new
    took = subst (λ (l : Option (List ℕ)). LeavesBehind script l t.new) told is.0

    by_end : IsReadWhole t ⊎ ((t.now ≡ t.before) × (script_limit < length script)) → given ≡ script
    by_end (inl whole) = told_whole t script is.0 whole.1.1 given told
    by_end (inr past) = let size = ap length took.2 ∙ length-append script took.0 in let long = past.1 in absurd (omega (arith, long, few, size))

-- what a session comes to over a link that has all that it awaits
well : (w : ClientWords) (t : Taken) (old new : Told) (end : SessionEnd) (printed : List ℕ) → Did w t old new end printed → (Rose old.faults new.faults → ⊥) → CanBeDone w t old → (end ≡ ends.Ok) ⊎ (end ≡ ends.NoMemory)
well w t old new end printed did quiet can = complete w.group w.me did.0 old new [] printed end did.1.1.1.session quiet can.bytes can.bytes_are there
  where
    there : IsServed w.group w.me did.0 (frames_of can.bytes).0
    there = subst (λ (l : List ℕ). IsServed w.group w.me l (frames_of can.bytes).0) (read_whole t did.0 can.script did.1.0 can.script_is can.few) can.served

module _ (t : Taken) (old new : Told) (text : List ℕ) (planned s : Status) where
  by_session : (o : Option ClientWords) → IsSomeAnd o (λ w. (end : SessionEnd) × ((printed : List ℕ) × (Did w t old new end printed × ((planned ≡ status_by end) × (text ≡ text_by end printed)))))
      → (client_command o t old new).due s → (planned ≡ s) ⊎ (planned ≡ status.NoMemory)
  by_session None c due = absurd c
  by_session (Some w) c due = elim (well w t old new c.0 c.1.0 c.1.1.0 due.1.0 due.1.1.0) [
    | inl e ↦ inl (c.1.1.1.0 ∙ ap status_by e ∙ sym due.1.1.1)
    | inr e ↦ inr (c.1.1.1.0 ∙ ap status_by e)
  ]

rules_out : (o : Option ClientWords) (t : Taken) (old new : Told) (planned s : Status) (text : List ℕ) → Causes o t old new planned text → IsSome o → (client_command o t old new).due s → (planned ≡ s) ⊎ (planned ≡ status.NoMemory)
rules_out o t old new status.ReadFault s text c right due = absurd (due.0 c.0)
rules_out o t old new status.NoMemory s text c right due = inr refl
rules_out o t old new status.Ok s text c right due = by_session t old new text status.Ok s o c due
rules_out o t old new status.TagsNotMade s text c right due = by_session t old new text status.TagsNotMade s o c due
rules_out o t old new status.Usage s text c right due = by_session t old new text status.Usage s o c due
rules_out o t old new status.WriteFault s text c right due = by_session t old new text status.WriteFault s o c due
rules_out o t old new status.BadLine s text c right due = by_session t old new text status.BadLine s o c due
rules_out o t old new status.LinkFault s text c right due = by_session t old new text status.LinkFault s o c due
rules_out o t old new status.Halted s text c right due = by_session t old new text status.Halted s o c due
rules_out o t old new status.BadFrame s text c right due = by_session t old new text status.BadFrame s o c due
rules_out o t old new status.GreetingRefused s text c right due = by_session t old new text status.GreetingRefused s o c due

pub client_complete : (o : Option ClientWords) (t : Taken) (old new : Told) (k : Given) (result : Status) → Ends (client_command o t old new) k result → IsComplete (client_command o t old new) k result
client_complete o t old new k result e = complete_of (client_command o t old new) k result e (rules_out o t old new)

-- ---- what is known of each status

-- a session ended so, and what it printed was written, with the line of its end
abbrev pub Ended : Option ClientWords → Taken → Told → Told → Given → SessionEnd → Type 0
Ended o t old new k end = (w : ClientWords) × ((o ≡ Some w) × ((printed : List ℕ) × (Did w t old new end printed × WroteAll (text_by end printed) k)))

-- a status that comes of the ends of sessions alone
module _ (t : Taken) (old new : Told) (k : Given) (s : Status) where
  of_session : (o : Option ClientWords) (text : List ℕ) → IsSomeAnd o (λ w. (end : SessionEnd) × ((printed : List ℕ) × (Did w t old new end printed × ((s ≡ status_by end) × (text ≡ text_by end printed)))))
      → WroteAll text k → (end : SessionEnd) × ((s ≡ status_by end) × Ended o t old new k end)
  of_session None text c all = absurd c
  of_session (Some w) text c all = (c.0, (c.1.1.1.0, (w, (refl, (c.1.0, (c.1.1.0, subst (λ (l : List ℕ). WroteAll l k) c.1.1.1.1 all))))))

-- by the session's end
abbrev pub EndedAs : Option ClientWords → Taken → Told → Told → Given → Status → Type 0
EndedAs o t old new k status.Ok = Ended o t old new k ends.Ok
EndedAs o t old new k status.BadLine = (n : ℕ) × ((kind : ℕ) × Ended o t old new k (ends.BadLine n kind))
EndedAs o t old new k status.LinkFault = Ended o t old new k ends.LinkFault
EndedAs o t old new k status.Halted = (check : ℕ) × ((hash : Digest32) × Ended o t old new k (ends.Halted check hash))
EndedAs o t old new k status.BadFrame = Ended o t old new k ends.BadFrame
EndedAs o t old new k status.GreetingRefused = (reason : ℕ) × Ended o t old new k (ends.GreetingRefused reason)
EndedAs o t old new k status.TagsNotMade = ⊥
EndedAs o t old new k s = Unit {0}

ended_as : (o : Option ClientWords) (t : Taken) (old new : Told) (k : Given) (end : SessionEnd) → Ended o t old new k end → EndedAs o t old new k (status_by end)
ended_as o t old new k ends.Ok h = h
ended_as o t old new k (ends.BadLine n kind) h = (n, (kind, h))
ended_as o t old new k ends.LinkFault h = h
ended_as o t old new k (ends.Halted check hash) h = (check, (hash, h))
ended_as o t old new k ends.BadFrame h = h
ended_as o t old new k (ends.GreetingRefused r) h = (r, h)
ended_as o t old new k ends.NoMemory h = tt

module _ (o : Option ClientWords) (t : Taken) (old new : Told) (k : Given) where
  so : (s : Status) → (text : List ℕ) × (IsSome o × (IsSomeAnd o (λ w. (end : SessionEnd) × ((printed : List ℕ) × (Did w t old new end printed × ((s ≡ status_by end) × (text ≡ text_by end printed))))) × WroteAll text k))
      → EndedAs o t old new k s
  so s x = let y = of_session t old new k s o x.0 x.1.1.0 x.1.1.1 in subst (λ (r : Status). EndedAs o t old new k r) (sym y.1.0) (ended_as o t old new k y.0 y.1.1)

  -- the statuses of which a session tells, and no other ones but those of wrong words, of a failed read or write and of want of memory
  pub ended_so : (s : Status) → Ends (client_command o t old new) k s → EndedAs o t old new k s
  ended_so status.Ok e = so status.Ok (known_of (client_command o t old new) k status.Ok e)
  ended_so status.BadLine e = so status.BadLine (known_of (client_command o t old new) k status.BadLine e)
  ended_so status.LinkFault e = so status.LinkFault (known_of (client_command o t old new) k status.LinkFault e)
  ended_so status.Halted e = so status.Halted (known_of (client_command o t old new) k status.Halted e)
  ended_so status.BadFrame e = so status.BadFrame (known_of (client_command o t old new) k status.BadFrame e)
  ended_so status.GreetingRefused e = so status.GreetingRefused (known_of (client_command o t old new) k status.GreetingRefused e)
  ended_so status.TagsNotMade e = so status.TagsNotMade (known_of (client_command o t old new) k status.TagsNotMade e)
  ended_so status.Usage e = tt
  ended_so status.ReadFault e = tt
  ended_so status.WriteFault e = tt
  ended_so status.NoMemory e = tt

  pub wrong_usage : Ends (client_command o t old new) k status.Usage → (o ≡ None) × ((new ≡ old) × WroteAll usage_line k)
  wrong_usage e = let x = known_of (client_command o t old new) k status.Usage e in (none_of o x.0, (x.1.0.1, x.1.1))

  pub failed_reads : Ends (client_command o t old new) k status.ReadFault → IsSome o × (Rose t.before t.now × ((new ≡ old) × WroteAll read_fault_line k))
  failed_reads e =
      let x = known_of (client_command o t old new) k status.ReadFault e in
      (x.1.0, (x.1.1.0.0, (x.1.1.0.1.0, subst (λ (l : List ℕ). WroteAll l k) x.1.1.0.1.1 x.1.1.1)))
