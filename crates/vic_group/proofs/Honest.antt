-- Clients with one honest server, in a world.
use Rattle.std.proofs.Common.{◌≡◌, ℕ, ◌+◌, ◌-◌, ◌<◌, ◌≤◌, Bool, true, false, List, length, Option, Some, None, Result, Ok, Err, inl, inr, refl, sym, ap, ◌∙◌, arith, ◌^◌, slice_get}
use Rattle.std.specs.Prelude.{◌↔◌, IsTrue}
use Rattle.std.proofs.lemmas.Bool.{and_parts}
use Rattle.vic_dict.specs.Dictionary.{Fits}
use Rattle.vic_dict.specs.declared.op.Op.{Op}
use Rattle.vic_dict.specs.declared.op.Mode.{Mode}
use Rattle.vic_dict.specs.declared.op.Mode.TheVariants as mode
use Rattle.vic_rules.specs.declared.object.ObjectCall.{ObjectCall}
use Rattle.vic_rules.specs.Objects.{FitsObject}
use Rattle.vic_wire.specs.Hashes.{Group, IsGroup}
use Rattle.vic_order.specs.Order.{fresh_server, ready_member, same_mode}
use Rattle.vic_order.specs.Serving.{Serving, AnswersAs}
use Rattle.vic_script.specs.declared.line.Line.{Line}
use Rattle.vic_script.specs.declared.line.Line.TheVariants as line
use Rattle.vic_order.specs.Scenes.{SceneOf, opening_with, after_serving, standing_in, after_events}
use Rattle.vic_script.specs.Scenes.{events_of_turns, done_line, bad_kind, asked_tests, is_honest_line, fits_op, is_plain_call, fits_object, is_object_call}
use Rattle.vic_runs.specs.Claims.{FitsLine}
use Rattle.vic_runs.specs.Reached.{IsHonestlyReached}
use Rattle.vic_runs.proofs.Tests.{passed, client_is, called_is, plain_is, object_called_is, objects_is, fits_op_is, fits_object_is}
use Rattle.vic_runs.proofs.Lines.{HasCallLeft}
use Rattle.vic_runs.proofs.Kept.{alike_is_kept}
use Rattle.vic_runs.proofs.Honest.{honest-more, honest-opening, honest-line, honest-left}
use Rattle.vic_runs.proofs.Runs.{holds_at, holds_anyway}
use Rattle.vic_group.specs.declared.world.World.{World}
use Rattle.vic_group.specs.declared.world.WorldFault.{WorldFault}
use Rattle.vic_group.specs.declared.world.WorldFault.TheVariants as fault
use Rattle.vic_group.specs.declared.member.Member.{Member}
use Rattle.vic_group.specs.World.{ShowsScene, IsReady, HasBytes, MayDo, LeftWithoutMemory, DoesLine, StandsHonestly, states}
use Rattle.vic_group.proofs.Scenes.{stands_here}
use Rattle.vic_group.proofs.Turns.{member_in}

-- two tests that pass where the other does
both_ways : (a b : Bool) → (a ≡ true → b ≡ true) → (b ≡ true → a ≡ true) → a ≡ b
both_ways true b f k = sym (f refl)
both_ways false true f k = k refl
both_ways false false f k = refl

-- the test of an operation's lengths
pub fits_test : (r : Bool) (o : Op) → IsTrue r ↔ Fits o → r ≡ fits_op o
fits_test r o is = both_ways r (fits_op o) (λ e. (fits_op_is o).1 (is.0 e)) (λ e. is.1 ((fits_op_is o).0 e))

-- and of those of a call on objects
pub object_fits_test : (r : Bool) (c : ObjectCall) → IsTrue r ↔ FitsObject c → r ≡ fits_object c
object_fits_test r c is = both_ways r (fits_object c) (λ e. (fits_object_is c).1 (is.0 e)) (λ e. is.1 ((fits_object_is c).0 e))

module _ {S V : Type 0} (state : S → V) (rule : Serving V) where
  -- a scene that is honestly reached, and that a world shows
  pub stands_at : (w : World S) (s : SceneOf V) (n : ℕ) → ShowsScene state w s → IsHonestlyReached (AnswersAs rule) s n → StandsHonestly state rule w n
  stands_at w s n shows r = record { scene = s; shows = shows; reached = r; anyway = holds_anyway (AnswersAs rule) s r.comes; holds = holds_at (AnswersAs rule) s r.comes }

  -- the opening, with a server that answers as one that has all clients ready
  pub stands_opening : (w : World S) (g : Group) (v : V) → ShowsScene state w (opening_with g v) → IsGroup g → AnswersAs rule v (fresh_server g.mode g.count ready_member) → StandsHonestly state rule w 0
  stands_opening w g v shows group alike = stands_at w (opening_with g v) 0 shows (honest-opening (AnswersAs rule) g v group alike)

  -- ---- what a line leads to

  called_first : (s : SceneOf V) (i : ℕ) (o : Op) → bad_kind s (line.Call i o) ≡ None → is_plain_call s o ≡ true
  unfolding bad_kind
  called_first s i o good = (passed 1 (is_plain_call s o) (asked_tests s i) good).0

  object_called_first : (s : SceneOf V) (i : ℕ) (c : ObjectCall) → bad_kind s (line.Object i c) ≡ None → is_object_call s c ≡ true
  unfolding bad_kind
  object_called_first s i c good = (passed 1 (is_object_call s c) (asked_tests s i) good).0

  called_there : (s : SceneOf V) (i : ℕ) (o : Op) → bad_kind s (line.Call i o) ≡ None → (0 < i) × (i ≤ s.group.count)
  unfolding bad_kind
  called_there s i o good = let a = called_is s i o good in (a.above, a.upto)

  object_called_there : (s : SceneOf V) (i : ℕ) (c : ObjectCall) → bad_kind s (line.Object i c) ≡ None → (0 < i) × (i ≤ s.group.count)
  unfolding bad_kind
  object_called_there s i c good = let a = object_called_is s i c good in (a.above, a.upto)

  called_mode : (s : SceneOf V) (i : ℕ) (o : Op) → bad_kind s (line.Call i o) ≡ None → s.group.mode ≡ mode.Plain
  unfolding bad_kind
  called_mode s i o good = plain_is s i o good

  object_called_mode : (s : SceneOf V) (i : ℕ) (c : ObjectCall) → bad_kind s (line.Object i c) ≡ None → s.group.mode ≡ mode.Objects
  unfolding bad_kind
  object_called_mode s i c good = objects_is s i c good

  -- the client of a scene that a world shows may call once more where its member may
  left_of : (w : World S) (s : SceneOf V) (i : ℕ) (k : Mode) → ShowsScene state w s → 0 < i → i ≤ s.group.count → ((m : Member) → slice_get w.members.items (i - 1) ≡ Some m → IsReady k m) → (standing_in s i).calls + 1 < 2 ^ 32
  left_of w s i k shows above upto ready =
      let count : length w.members.items ≡ s.group.count = shows.count in
      let m = member_in w.members.items (i - 1) (omega (arith, above, upto, count)) in
      let is : i ≡ (i - 1) + 1 = omega (arith, above) in
      let so = stands_here w.transcript w.members.items (states state w.servers) s i (i - 1) m.0 shows is m.1 in
      omega (arith, (ready m.0 m.1).1, so.stands.calls)

  call_left : (w : World S) (s : SceneOf V) (l : Line) → ShowsScene state w s → MayDo w l → bad_kind s l ≡ None → HasCallLeft s l
  call_left w s (line.Call i o) shows may good =
      let bounds = called_there s i o good in
      let same : w.transcript.mode ≡ mode.Plain = ap (λ (g : Group). g.mode) shows.group ∙ called_mode s i o good in
      left_of w s i mode.Plain shows bounds.0 bounds.1 (may same bounds.0)
  call_left w s (line.Object i c) shows may good =
      let bounds = object_called_there s i c good in
      let same : w.transcript.mode ≡ mode.Objects = ap (λ (g : Group). g.mode) shows.group ∙ object_called_mode s i c good in
      left_of w s i mode.Objects shows bounds.0 bounds.1 (may same bounds.0)
  call_left w s (line.Clients n) shows may good = tt
  call_left w s (line.Objects n) shows may good = tt
  call_left w s (line.Key digits) shows may good = tt
  call_left w s (line.Hostile name n) shows may good = tt
  call_left w s (line.Poll i) shows may good = tt
  call_left w s (line.Sync i) shows may good = tt
  call_left w s (line.Serve i) shows may good = tt
  call_left w s (line.Take i) shows may good = tt
  call_left w s (line.Run i) shows may good = tt
  call_left w s (line.Give i payload) shows may good = tt
  call_left w s (line.Again i) shows may good = tt
  call_left w s (line.Flip i n) shows may good = tt
  call_left w s (line.Resend i) shows may good = tt
  call_left w s (line.Copy n t) shows may good = tt
  call_left w s (line.Move i n) shows may good = tt
  call_left w s line.Skip shows may good = tt

  line_fits : (s : SceneOf V) (l : Line) → HasBytes l → bad_kind s l ≡ None → is_honest_line l ≡ true → FitsLine l
  unfolding bad_kind
  line_fits s (line.Clients n) bytes good honest = absurd cc
  line_fits s (line.Objects n) bytes good honest = absurd cc
  line_fits s (line.Key digits) bytes good honest = absurd cc
  line_fits s (line.Hostile name n) bytes good honest = absurd cc
  line_fits s (line.Call i o) bytes good honest = ((fits_op_is o).0 (and_parts (same_mode s.group.mode mode.Plain) (fits_op o) (called_first s i o good)).1, bytes)
  line_fits s (line.Object i c) bytes good honest = ((fits_object_is c).0 (and_parts (same_mode s.group.mode mode.Objects) (fits_object c) (object_called_first s i c good)).1, bytes)
  line_fits s (line.Poll i) bytes good honest = tt
  line_fits s (line.Sync i) bytes good honest = tt
  line_fits s (line.Serve i) bytes good honest = tt
  line_fits s (line.Take i) bytes good honest = tt
  line_fits s (line.Run i) bytes good honest = tt
  line_fits s (line.Give i payload) bytes good honest = absurd cc
  line_fits s (line.Again i) bytes good honest = tt
  line_fits s (line.Flip i n) bytes good honest = tt
  line_fits s (line.Resend i) bytes good honest = tt
  line_fits s (line.Copy n t) bytes good honest = tt
  line_fits s (line.Move i n) bytes good honest = tt
  line_fits s line.Skip bytes good honest = tt

  left_at : (w : World S) (s : SceneOf V) (n : ℕ) → ShowsScene state w s → IsHonestlyReached (AnswersAs rule) s n → StandsHonestly state rule w (n + 1)
  left_at w s n shows r = stands_at w s (n + 1) shows (honest-more (AnswersAs rule) s n (n + 1) (omega arith) r)

  -- where memory ran out
  left_so : (new : World S) (s : SceneOf V) (n : ℕ) (l : Line) → IsHonestlyReached (AnswersAs rule) s n → LeftWithoutMemory state rule s l new → StandsHonestly state rule new (n + 1)
  left_so new s n (line.Run i) r left =
      let bounds = client_is s i left.0 in
      let both = honest-left (AnswersAs rule) rule (alike_is_kept rule) s n r i bounds.0 bounds.1 left.1.0 in
      elim left.1.1.1 [
        | inl turned ↦ left_at new (after_events rule s (events_of_turns rule left.1.0 s i)) n turned both.0
        | inr served ↦ left_at new (after_serving rule (after_events rule s (events_of_turns rule left.1.0 s i)) i) n served both.1
      ]
  left_so new s n (line.Clients k) r left = left_at new s n left r
  left_so new s n (line.Objects k) r left = left_at new s n left r
  left_so new s n (line.Key digits) r left = left_at new s n left r
  left_so new s n (line.Hostile name k) r left = left_at new s n left r
  left_so new s n (line.Call i o) r left = left_at new s n left r
  left_so new s n (line.Object i c) r left = left_at new s n left r
  left_so new s n (line.Poll i) r left = left_at new s n left r
  left_so new s n (line.Sync i) r left = left_at new s n left r
  left_so new s n (line.Serve i) r left = left_at new s n left r
  left_so new s n (line.Take i) r left = left_at new s n left r
  left_so new s n (line.Give i payload) r left = left_at new s n left r
  left_so new s n (line.Again i) r left = left_at new s n left r
  left_so new s n (line.Flip i k) r left = left_at new s n left r
  left_so new s n (line.Resend i) r left = left_at new s n left r
  left_so new s n (line.Copy k t) r left = left_at new s n left r
  left_so new s n (line.Move i k) r left = left_at new s n left r
  left_so new s n line.Skip r left = left_at new s n left r

  -- an honest line, whatever it comes to
  pub stands_line : (w new : World S) (n : ℕ) (l : Line) (r : Result (Unit {0}) WorldFault) (before after : List ℕ) → MayDo w l → HasBytes l → ((s : SceneOf V) → ShowsScene state w s → DoesLine state rule s l r new before after)
      → StandsHonestly state rule w n → is_honest_line l ≡ true → StandsHonestly state rule new (n + 1)
  stands_line w new n l r before after may bytes does at honest = by_result r (does at.scene at.shows)
    where
      by_result : (r : Result (Unit {0}) WorldFault) → DoesLine state rule at.scene l r new before after → StandsHonestly state rule new (n + 1)
      by_result (Ok ended) done =
          stands_at new (done_line rule at.scene l).scene (n + 1) done.1.1
          (honest-line (AnswersAs rule) rule (alike_is_kept rule) at.scene n l at.reached (call_left w at.scene l at.shows may done.0) done.0 (line_fits at.scene l bytes done.0 honest) honest)
      by_result (Err (fault.Bad k)) bad = left_at new at.scene n bad.1 at.reached
      by_result (Err fault.NoMemory) left = left_so new at.scene n l at.reached left
