-- Answers over what is sealed.
use Rattle.std.specs.Prelude.{◌≡◌, ◌≤◌, List, [], ◌∷◌, ◌++◌, Some}
use Rattle.std.proofs.Common.{refl, ap, subst, subst₂, sym, ◌∙◌, inl, le_refl, le_of_suc-le-suc}
use Rattle.vic_dict.specs.declared.op.Entry.{Entry}
use Rattle.vic_dict.specs.Lists.{IsIn, front}
use Rattle.vic_dict.specs.Dictionary.{Dictionary}
use Rattle.vic_wire.specs.Hashes.{Group}
use Rattle.vic_rules.specs.declared.trace.TraceStep.{TraceStep}
use Rattle.vic_rules.specs.Client.{Standing}
use Rattle.vic_rules.specs.History.{standing, path, move_of, AreSteps, Completion, completions}
use Rattle.vic_rules.specs.Views.{confirmed_calls, left_by}
use Rattle.vic_rules.specs.Trust.{IsForged, Collides, parts_in}
use Rattle.vic_laws.specs.Claims.{SealHolds}
use Rattle.vic_laws.proofs.Steps.{call_of}
use Rattle.vic_laws.proofs.Standings.{standing_moved, earlier_steps}
use Rattle.vic_laws.proofs.Calls.{RepliedAt}
use Rattle.vic_laws.proofs.Dictionaries.{left_proper}
use Rattle.vic_laws.proofs.Growth.{front_grows, confirmed_calls_stay, completions_grow}
use Rattle.vic_laws.proofs.SealsHeld.{all_hold, part_is_left, taken_at}
use Rattle.vic_laws.proofs.AnswersStand.{effects_alike}
use Rattle.std.specs.List.{AllByRecursion}
use Rattle.vic_dict.specs.Dictionary.{IsProper}
use Rattle.vic_wire.specs.Messages.{IsEntry}
use Rattle.vic_wire.specs.Trees.{tree_of}
use Rattle.vic_wire.specs.Cuts.{IsCut}
use Rattle.vic_commute.proofs.Commuting.{Alike}
use Rattle.vic_commute.proofs.Heeding.{HeededAlike, looked_alike, heeded_reply}
use Rattle.vic_tree.proofs.Alike.{alike as alike_on_cut}
use Rattle.vic_roots.proofs.Proper.{byte_keys-proper}
use Rattle.vic_laws.proofs.Paths.{all_drop, path_spelled}
use Rattle.vic_wire.specs.declared.message.Seal.{Seal}
use Rattle.vic_wire.specs.Parts.{read_part, walked}
use Rattle.vic_laws.specs.Meanings.{SealedAnswersStand}
use Rattle.vic_laws.proofs.Decisions.{reply_taken, same_parts}
use Rattle.vic_laws.proofs.Calls.{kind_of}
use Rattle.vic_laws.proofs.AnswersStand.{answers_stand}

module _ (g : Group) (whole : List TraceStep) (lawful : AreSteps g whole) (honest : IsForged g whole → ⊥) (apart : Collides g whole → ⊥) where
  -- the walk of a Reply's part shows what the calls up to its seal leave wherever the operation looks
  pub part_shows : (later : List TraceStep) (x : TraceStep) (past : List TraceStep) → whole ≡ later ++ x ∷ past → (r : RepliedAt g past x)
      → Alike r.op (walked r.part r.op) (left_by (confirmed_calls (completions g whole) (front r.seal.position (r.others ++ path g x.client past))))
  part_shows later x past e r = alike_on_cut base_left (byte_keys-proper base_left proper) r.part told r.op spelled.0.op.1 r.reached
    where
      s : Standing
      s = standing g x.client past

      below : List Entry
      below = r.others ++ path g x.client past

      p : List Entry
      p = call_of x.client r.seq r.op ∷ (r.others ++ path g x.client past)

      steps : AreSteps g (x ∷ past)
      steps = earlier_steps g later (x ∷ past) (subst (AreSteps g) e lawful)

      here : standing g x.client (x ∷ past) ≡ (move_of g past x).next
      here = standing_moved g x.client x past refl

      path_is : path g x.client (x ∷ past) ≡ p
      path_is = ap (λ w. w.path) here ∙ ap (λ v. v.next.path) r.moved

      sealed_is : (standing g x.client (x ∷ past)).sealed ≡ r.seal.position
      sealed_is = ap (λ w. w.sealed) here ∙ ap (λ v. v.next.sealed) r.moved

      root_is : (standing g x.client (x ∷ past)).root ≡ r.seal.root.bytes
      root_is = ap (λ w. w.root) here ∙ ap (λ v. v.next.root) r.moved

      holds : SealHolds (completions g (x ∷ past)) p r.seal.position r.seal.root.bytes
      holds = subst (λ q. SealHolds (completions g (x ∷ past)) q r.seal.position r.seal.root.bytes) path_is
          (subst (λ n. SealHolds (completions g (x ∷ past)) (path g x.client (x ∷ past)) n r.seal.root.bytes) sealed_is
          (subst (SealHolds (completions g (x ∷ past)) (path g x.client (x ∷ past)) (standing g x.client (x ∷ past)).sealed) root_is
          ((all_hold g whole lawful honest apart later (x ∷ past) e).1 x.client)))

      more : (ds : List Completion) × (completions g (later ++ x ∷ past) ≡ ds ++ completions g (x ∷ past))
      more = completions_grow g later (x ∷ past)

      -- what the calls up to the seal leave is one, in the whole history
      same_left : left_by (confirmed_calls (completions g (x ∷ past)) (front r.seal.position p)) ≡ left_by (confirmed_calls (completions g whole) (front r.seal.position below))
      same_left = ap left_by (sym (confirmed_calls_stay more.0 (completions g (x ∷ past)) (front r.seal.position p) holds.all)
          ∙ (ap (λ cs. confirmed_calls cs (front r.seal.position p)) (sym more.1 ∙ ap (completions g) (sym e))
          ∙ ap (confirmed_calls (completions g whole)) (front_grows (call_of x.client r.seq r.op ∷ []) below r.seal.position (le_of_suc-le-suc r.below))))

      -- the part is a cut of the tree of that
      told : IsCut r.part (tree_of (left_by (confirmed_calls (completions g whole) (front r.seal.position below))))
      told = subst (λ d. IsCut r.part (tree_of d)) same_left (part_is_left g whole lawful honest apart later x past e r.bytes r.part r.seal.position r.seal.root.bytes
          (subst (λ o. IsIn (parts_in o) r.bytes) (sym (taken_at g past x _ r.takes)) (inl refl)) r.are_bytes r.is_part r.root_is (subst (λ n. r.seal.position ≤ n) (sym sealed_is) (le_refl r.seal.position)) p path_is holds)

      base_left : Dictionary
      base_left = left_by (confirmed_calls (completions g whole) (front r.seal.position below))

      spelled : AllByRecursion IsEntry p
      spelled = subst (AllByRecursion IsEntry) path_is (path_spelled g (x ∷ past) steps x.client)

      proper : IsProper base_left
      proper = left_proper (completions g whole) (front r.seal.position below) (all_drop IsEntry _ below spelled.1)

pub sealed_answers_stand : SealedAnswersStand
sealed_answers_stand g h lawful honest apart later x past whole seal entries bytes t e below path_is a returned picks own =
    let is = (earlier_steps g later (x ∷ past) (subst (AreSteps g) whole lawful.steps)).1 in
    let found = reply_taken g x past (kind_of g past x is) seal entries bytes t in
    let r = found.0 in
    let grown : path g x.client (x ∷ past) ≡ call_of x.client r.seq r.op ∷ (r.others ++ path g x.client past) =
    ap (λ w. w.path) (standing_moved g x.client x past refl) ∙ ap (λ v. v.next.path) r.moved in
    let same = same_parts (call_of x.client r.seq r.op) e (r.others ++ path g x.client past) below (sym grown ∙ path_is) in
    let op_is : r.op ≡ e.op = ap (λ (w : Entry). w.op) same.0 in
    let left_is : left_by (confirmed_calls (completions g h) (front r.seal.position (r.others ++ path g x.client past))) ≡ left_by (confirmed_calls (completions g h) (front seal.position below)) =
    ap (λ (z : Seal). left_by (confirmed_calls (completions g h) (front z.position (r.others ++ path g x.client past)))) found.1.0
    ∙ ap (λ (q : List Entry). left_by (confirmed_calls (completions g h) (front seal.position q))) same.1 in
    let alike : HeededAlike e.op (walked r.part e.op) (left_by (confirmed_calls (completions g h) (front seal.position below))) =
    looked_alike e.op _ _ (subst₂ (λ o d. Alike o (walked r.part o) d) op_is left_is (part_shows g h lawful.steps honest apart later x past whole r)) in
    answers_stand g h lawful later x past whole seal entries bytes t e below path_is a returned r.part (subst (λ b. read_part b ≡ Some r.part) found.1.1 r.is_part) picks own
    ∙ heeded_reply e.op _ _ (effects_alike e.op picks seal.position (walked r.part e.op) (left_by (confirmed_calls (completions g h) (front seal.position below))) alike below)
