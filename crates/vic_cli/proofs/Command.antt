-- From what a command planned and how the writing went to how it ends.
use Rattle.std.proofs.Common.{◌≡◌, ◌⊎◌, inl, inr, ℕ, List, [], Option, Some, None, refl, sym, subst, ◌∙◌, append-nil}
use Rattle.std.specs.Prelude.{IsSome}
use Rattle.vic_ports.specs.Written.{AppendedAll, AppendedFront}
use Rattle.vic_text.specs.declared.status.Status.{Status}
use Rattle.vic_text.specs.declared.status.Status.TheVariants as status
use Rattle.vic_text.specs.Statuses.{usage_line}
use Rattle.vic_cli.specs.Output.{Given, WroteAll, WroteFront, FailedBehind, Finishes}
use Rattle.vic_cli.specs.Command.{Command, Plans, Ends, IsDue, IsComplete}

pub none_of : {A : Type 0} (o : Option A) → (IsSome o → ⊥) → o ≡ None
none_of None none = refl
none_of (Some x) none = absurd (none refl)

-- a text that was written whole was written to a front
pub whole_is_front : (text : List ℕ) (k : Given) → WroteAll text k → WroteFront text k
whole_is_front text k all = (all.0, front k.old all.1)
  where
    front : (old : Option (List ℕ)) → AppendedAll text old k.new → AppendedFront text old k.new
    front None e = e
    front (Some held) e = (text, [], (sym (append-nil text), e))

-- ---- what is known of each status

-- what is known where the command ended so
abbrev pub Known : Command → Given → Status → Type 0
Known c k status.Usage = (c.right → ⊥) × (c.untouched × WroteAll usage_line k)
Known c k status.WriteFault = (s : Status) × ((text : List ℕ) × (Plans c s text × FailedBehind text k))
Known c k status.NoMemory = (s : Status) × ((text : List ℕ) × (Plans c s text × WroteFront text k))
Known c k s = (text : List ℕ) × (c.right × (c.causes s text × WroteAll text k))

known_whole : (c : Command) (k : Given) (s : Status) (text : List ℕ) → Plans c s text → WroteAll text k → Known c k s
known_whole c k status.Ok text p all = (text, (p.0, (p.1, all)))
known_whole c k status.TagsNotMade text p all = (text, (p.0, (p.1, all)))
known_whole c k status.Usage text p all = (p.0, (p.1.0, subst (λ (t : List ℕ). WroteAll t k) p.1.1 all))
known_whole c k status.ReadFault text p all = (text, (p.0, (p.1, all)))
known_whole c k status.WriteFault text p all = absurd p
known_whole c k status.BadLine text p all = (text, (p.0, (p.1, all)))
known_whole c k status.NoMemory text p all = (status.NoMemory, (text, (p, whole_is_front text k all)))
known_whole c k status.LinkFault text p all = (text, (p.0, (p.1, all)))
known_whole c k status.Halted text p all = (text, (p.0, (p.1, all)))
known_whole c k status.BadFrame text p all = (text, (p.0, (p.1, all)))
known_whole c k status.GreetingRefused text p all = (text, (p.0, (p.1, all)))

pub known_of : (c : Command) (k : Given) (result : Status) → Ends c k result → Known c k result
known_of c k result e = by_writing e.1.1.1
  where
    by_writing : Finishes e.0 e.1.0 k result → Known c k result
    by_writing (inl f) = subst (λ (s : Status). Known c k s) (sym f.0) (known_whole c k e.0 e.1.0 e.1.1.0 f.1)
    by_writing (inr (inl f)) = subst (λ (s : Status). Known c k s) (sym f.0) (e.0, (e.1.0, (e.1.1.0, f.1)))
    by_writing (inr (inr f)) = subst (λ (s : Status). Known c k s) (sym f.0) (e.0, (e.1.0, (e.1.1.0, f.1)))

-- ---- where no write fails

-- wrong words plan the usage line, or memory runs out for them
plans_wrong : (c : Command) (s : Status) (text : List ℕ) → Plans c s text → (c.right → ⊥) → (s ≡ status.Usage) ⊎ (s ≡ status.NoMemory)
plans_wrong c status.Usage text p wrong = inl refl
plans_wrong c status.NoMemory text p wrong = inr refl
plans_wrong c status.WriteFault text p wrong = absurd p
plans_wrong c status.Ok text p wrong = absurd (wrong p.0)
plans_wrong c status.TagsNotMade text p wrong = absurd (wrong p.0)
plans_wrong c status.ReadFault text p wrong = absurd (wrong p.0)
plans_wrong c status.BadLine text p wrong = absurd (wrong p.0)
plans_wrong c status.LinkFault text p wrong = absurd (wrong p.0)
plans_wrong c status.Halted text p wrong = absurd (wrong p.0)
plans_wrong c status.BadFrame text p wrong = absurd (wrong p.0)
plans_wrong c status.GreetingRefused text p wrong = absurd (wrong p.0)

-- right ones plan what the command causes
pub plans_right : (c : Command) (s : Status) (text : List ℕ) → Plans c s text → c.right → c.causes s text ⊎ (s ≡ status.NoMemory)
plans_right c status.Usage text p right = absurd (p.0 right)
plans_right c status.NoMemory text p right = inr refl
plans_right c status.WriteFault text p right = absurd p
plans_right c status.Ok text p right = inl p.1
plans_right c status.TagsNotMade text p right = inl p.1
plans_right c status.ReadFault text p right = inl p.1
plans_right c status.BadLine text p right = inl p.1
plans_right c status.LinkFault text p right = inl p.1
plans_right c status.Halted text p right = inl p.1
plans_right c status.BadFrame text p right = inl p.1
plans_right c status.GreetingRefused text p right = inl p.1

-- what is due comes, where what causes another status is ruled out by it
pub complete_of : (c : Command) (k : Given) (result : Status) → Ends c k result
    → ((planned s : Status) (text : List ℕ) → c.causes planned text → c.right → c.due s → (planned ≡ s) ⊎ (planned ≡ status.NoMemory)) → IsComplete c k result
complete_of c k result e rules quiet s due = by_writing e.1.1.1
  where
    planned_due : IsDue c s → (e.0 ≡ s) ⊎ (e.0 ≡ status.NoMemory)
    planned_due (inl wrong) = elim (plans_wrong c e.0 e.1.0 e.1.1.0 wrong.0) [ inl is ↦ inl (is ∙ sym wrong.1) | inr is ↦ inr is ]
    planned_due (inr right) = elim (plans_right c e.0 e.1.0 e.1.1.0 right.0) [ inl is ↦ rules e.0 s e.1.0 is right.0 right.1 | inr is ↦ inr is ]

    by_writing : Finishes e.0 e.1.0 k result → (result ≡ s) ⊎ (result ≡ status.NoMemory)
    by_writing (inl f) = elim (planned_due due) [ inl is ↦ inl (f.0 ∙ is) | inr is ↦ inr (f.0 ∙ is) ]
    by_writing (inr (inl f)) = absurd (quiet f.1.0)
    by_writing (inr (inr f)) = inr f.0
