-- Each dictionary that a lawful history speaks of is proper.
use Rattle.std.specs.Prelude.{◌≡◌, ℕ, true, false, List, [], ◌∷◌, Option, Some, None, nat_eq, if◌then◌else◌}
use Rattle.std.specs.List.{AllByRecursion}
use Rattle.std.proofs.Common.{refl, ap, subst, inl, inr}
use Rattle.vic_dict.specs.declared.op.Outcome.{Outcome}
use Rattle.vic_dict.specs.declared.op.Outcome.TheVariants as outcome
use Rattle.vic_dict.specs.declared.op.Entry.{Entry}
use Rattle.vic_dict.specs.Lists.{IsIn, AreBytes}
use Rattle.vic_dict.proofs.ByteLists.{AreBytes-tail}
use Rattle.vic_wire.specs.Hashes.{Group}
use Rattle.vic_wire.specs.Messages.{IsEntry}
use Rattle.vic_wire.specs.Parts.{Part, read_part, part_text, node_field}
use Rattle.vic_rules.specs.declared.trace.Input.{Input}
use Rattle.vic_rules.specs.declared.trace.TraceStep.{TraceStep}
use Rattle.vic_rules.specs.Client.{Standing, Move}
use Rattle.vic_rules.specs.History.{standing, path, move_of, AreSteps, Completion, completion, completions}
use Rattle.vic_rules.specs.Trust.{answer_taken, answer_unless_halted, parts_in, parts_taken}
use Rattle.vic_rules.specs.Views.{last_prefix, view_of}
use Rattle.vic_spellings.specs.Spellings.{PartHoldsBytes}
use Rattle.vic_spellings.proofs.SpelledParts.{part_takes, node_holds_bytes}
use Rattle.vic_laws.specs.Claims.{DictionariesAreProper, ViewsLeaveProper, IsProperPart, PartsAreProper}
use Rattle.vic_laws.proofs.Words.{all_append, in_either}
use Rattle.vic_wire.specs.declared.message.ToClient.{ToClient}
use Rattle.vic_wire.specs.declared.message.ToClient.TheVariants as say
use Rattle.vic_laws.proofs.Steps.{Kind, is_quiet, is_called, is_replied, is_updated, is_listed}
use Rattle.vic_laws.proofs.StepKinds.{step_kind}
use Rattle.vic_laws.proofs.Paths.{all_drop, path_spelled}
use Rattle.vic_laws.proofs.Dictionaries.{left_proper}

-- ---- what paths and views leave

abbrev HasSpelledPath : Completion → Type 0
HasSpelledPath c = AllByRecursion IsEntry c.prefix

spelled_completion : (me : ℕ) (p : List Entry) (r : Option Outcome) → AllByRecursion IsEntry p → AllByRecursion HasSpelledPath (completion me p r)
spelled_completion me p None a = tt
spelled_completion me p (Some (outcome.Done answer)) a = (a, tt)
spelled_completion me p (Some (outcome.Aborted u)) a = (a, tt)
spelled_completion me p (Some (outcome.Refused r)) a = tt
spelled_completion me p (Some (outcome.Halted k)) a = tt

-- the path of each completion has a spelling
completions_spelled : (g : Group) (h : List TraceStep) → AreSteps g h → AllByRecursion HasSpelledPath (completions g h)
unfolding completions
completions_spelled g [] steps = tt
completions_spelled g (x ∷ past) steps =
    all_append HasSpelledPath (completion x.client (path g x.client (x ∷ past)) x.returned) (completions g past)
    (spelled_completion x.client (path g x.client (x ∷ past)) x.returned (path_spelled g (x ∷ past) steps x.client)) (completions_spelled g past steps.0)

last_spelled : (me : ℕ) (cs : List Completion) → AllByRecursion HasSpelledPath cs → AllByRecursion IsEntry (last_prefix me cs)
unfolding last_prefix
last_spelled me [] a = tt
last_spelled me (c ∷ cs) a =
    elim (nat_eq c.client me) as (λ b. AllByRecursion IsEntry (if b then c.prefix else last_prefix me cs)) [ true ↦ a.0 | false ↦ last_spelled me cs a.1 ]

pub dictionaries_are_proper : DictionariesAreProper
dictionaries_are_proper g h lawful me n = left_proper (completions g h) _ (all_drop IsEntry _ (path g me h) (path_spelled g h lawful.steps me))

pub views_leave_proper : ViewsLeaveProper
unfolding view_of
views_leave_proper g h lawful me = left_proper (completions g h) (last_prefix me (completions g h)) (last_spelled me (completions g h) (completions_spelled g h lawful.steps))

-- ---- parts

part_holds : (part : Part) → AreBytes (part_text part) → PartHoldsBytes part
part_holds part h = node_holds_bytes part (AreBytes-tail 1 (node_field part) h)

proper_part : (read : List ℕ) (part : Part) (bytes : List ℕ) → AreBytes read → read_part read ≡ Some part → IsIn (read ∷ []) bytes → IsProperPart bytes
proper_part read part bytes are_bytes is (inl e) = subst IsProperPart e (let t = part_takes read part are_bytes is in record { part = part; is = is; proper = t.0; holds = part_holds part (subst AreBytes t.1 are_bytes) })
proper_part read part bytes are_bytes is (inr i) = absurd i

no_parts : (o : Option ToClient) → ((m : ToClient) → o ≡ Some m → m ≡ say.Kept) → parts_in o ≡ []
no_parts None h = refl
no_parts (Some m) h = ap (λ x. parts_in (Some x)) (h m refl)

kind_parts : (g : Group) (me : ℕ) (s : Standing) (i : Input) (v : Move) → Kind g me s i v → (bytes : List ℕ) → IsIn (parts_in (answer_unless_halted v.next i)) bytes → IsProperPart bytes
kind_parts g me s i v (is_quiet k) bytes there = absurd (subst (λ l. IsIn l bytes) k.shows_nothing there)
kind_parts g me s i v (is_called k) bytes there = absurd (subst (λ l. IsIn l bytes) (no_parts (answer_unless_halted v.next i) k.takes) there)
kind_parts g me s i v (is_replied k) bytes there = proper_part k.bytes k.part bytes k.are_bytes k.is_part (subst (λ m. IsIn (parts_in m) bytes) k.takes there)
kind_parts g me s i v (is_updated k) bytes there = proper_part k.bytes k.part bytes k.are_bytes k.is_part (subst (λ m. IsIn (parts_in m) bytes) k.takes there)
kind_parts g me s i v (is_listed k) bytes there = absurd (subst (λ m. IsIn (parts_in m) bytes) k.takes there)

parts_proper : (g : Group) (h : List TraceStep) → AreSteps g h → (bytes : List ℕ) → IsIn (parts_taken g h) bytes → IsProperPart bytes
unfolding parts_taken answer_taken
parts_proper g [] steps bytes there = absurd there
parts_proper g (x ∷ past) steps bytes there = elim (in_either (parts_in (answer_taken g past x)) (parts_taken g past) bytes there) [
  | inl now ↦ kind_parts g x.client (standing g x.client past) x.input (move_of g past x) (step_kind g x.client (standing g x.client past) x.input steps.1.may) bytes now
  | inr before ↦ parts_proper g past steps.0 bytes before
]

pub parts_are_proper : PartsAreProper
parts_are_proper g h lawful bytes there = parts_proper g h lawful.steps bytes there
