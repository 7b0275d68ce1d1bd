-- How the command of a drill ends.
use Rattle.std.proofs.Common.{◌≡◌, ◌⊎◌, inl, inr, ℕ, List, Option, Some, None, refl, sym, subst}
use Rattle.std.specs.Prelude.{IsSome, IsSomeAnd}
use Rattle.vic_text.specs.declared.status.Status.{Status}
use Rattle.vic_text.specs.declared.status.Status.TheVariants as status
use Rattle.vic_text.specs.Statuses.{usage_line, no_memory_line}
use Rattle.vic_cli.specs.Output.{Given, WroteAll}
use Rattle.vic_cli.specs.Command.{Plans, Ends, IsComplete}
use Rattle.vic_cli.specs.declared.drill.DrillWords.{DrillWords}
use Rattle.vic_cli.specs.Drilling.{print_for, Causes, drill_command}
use Rattle.vic_cli.proofs.Command.{none_of, known_of, complete_of}

-- ---- where no write fails

-- each status but two has no cause
rules_out : (asked : Option DrillWords) (planned s : Status) (text : List ℕ) → Causes asked planned text → IsSome asked → s ≡ status.Ok → (planned ≡ s) ⊎ (planned ≡ status.NoMemory)
rules_out asked status.Ok s text c right due = inl (sym due)
rules_out asked status.NoMemory s text c right due = inr refl
rules_out asked status.TagsNotMade s text c right due = absurd c
rules_out asked status.Usage s text c right due = absurd c
rules_out asked status.ReadFault s text c right due = absurd c
rules_out asked status.WriteFault s text c right due = absurd c
rules_out asked status.BadLine s text c right due = absurd c
rules_out asked status.LinkFault s text c right due = absurd c
rules_out asked status.Halted s text c right due = absurd c
rules_out asked status.BadFrame s text c right due = absurd c
rules_out asked status.GreetingRefused s text c right due = absurd c

pub drill_complete : (asked : Option DrillWords) (k : Given) (result : Status) → Ends (drill_command asked) k result → IsComplete (drill_command asked) k result
drill_complete asked k result e = complete_of (drill_command asked) k result e (rules_out asked)

-- ---- what is known of each status

-- what the words ask for, and the summary that was written
pub ok_sums : (asked : Option DrillWords) (k : Given) → Ends (drill_command asked) k status.Ok → (a : DrillWords) × ((asked ≡ Some a) × WroteAll (print_for a) k)
ok_sums asked k e = by_words asked (known_of (drill_command asked) k status.Ok e)
  where
    by_words : (o : Option DrillWords) → (text : List ℕ) × (IsSome o × (IsSomeAnd o (λ a. text ≡ print_for a) × WroteAll text k)) → (a : DrillWords) × ((o ≡ Some a) × WroteAll (print_for a) k)
    by_words None x = absurd x.1.1.0
    by_words (Some a) x = (a, (refl, subst (λ (t : List ℕ). WroteAll t k) x.1.1.0 x.1.1.1))

pub wrong_usage : (asked : Option DrillWords) (k : Given) → Ends (drill_command asked) k status.Usage → (asked ≡ None) × WroteAll usage_line k
wrong_usage asked k e = let x = known_of (drill_command asked) k status.Usage e in (none_of asked x.0, x.1.1)

-- a text that the command may have been about to write, where a write failed or found no memory
abbrev pub IsText : Option DrillWords → List ℕ → Type 0
IsText None text = text ≡ usage_line
IsText (Some a) text = (text ≡ print_for a) ⊎ (text ≡ no_memory_line)

pub is_text : (asked : Option DrillWords) (s : Status) (text : List ℕ) → Plans (drill_command asked) s text → IsText asked text
is_text (Some a) status.Ok text p = inl p.1
is_text (Some a) status.NoMemory text p = inr p.1
is_text (Some a) status.Usage text p = absurd (p.0 refl)
is_text (Some a) status.TagsNotMade text p = absurd p.1
is_text (Some a) status.ReadFault text p = absurd p.1
is_text (Some a) status.WriteFault text p = absurd p
is_text (Some a) status.BadLine text p = absurd p.1
is_text (Some a) status.LinkFault text p = absurd p.1
is_text (Some a) status.Halted text p = absurd p.1
is_text (Some a) status.BadFrame text p = absurd p.1
is_text (Some a) status.GreetingRefused text p = absurd p.1
is_text None status.Usage text p = p.1.1
is_text None status.Ok text p = absurd p.1
is_text None status.NoMemory text p = let e = p.0 in absurd cc
is_text None status.TagsNotMade text p = absurd p.1
is_text None status.ReadFault text p = absurd p.1
is_text None status.WriteFault text p = absurd p
is_text None status.BadLine text p = absurd p.1
is_text None status.LinkFault text p = absurd p.1
is_text None status.Halted text p = absurd p.1
is_text None status.BadFrame text p = absurd p.1
is_text None status.GreetingRefused text p = absurd p.1
