-- The steps of a talk are a lawful history of its client alone.
use Rattle.std.proofs.Common.{◌≡◌, ℕ, zero, suc, ◌+◌, ◌<◌, ◌≤◌, Bool, true, false, List, [], ◌∷◌, ◌++◌, fold, length, Option, Some, None, if◌then◌else◌, eq-eqb, refl, sym, ap, subst, ◌∙◌, arith}
use Rattle.std.specs.Prelude.{nat_eq, nat_lt}
use Rattle.std.specs.List.{AllByRecursion}
use Rattle.std.specs.Int.{w32, to_be_bytes}
use Rattle.std.proofs.lemmas.Bool.{ltb-false}
use Rattle.vic_dict.specs.Lists.{AreBytes}
use Rattle.vic_dict.proofs.ByteLists.{AreBytes-first, AreBytes-second}
use Rattle.vic_wire.specs.Hashes.{Group}
use Rattle.vic_rules.specs.declared.trace.Input.{Input}
use Rattle.vic_rules.specs.declared.trace.Input.TheVariants as input
use Rattle.vic_rules.specs.declared.trace.TraceStep.{TraceStep}
use Rattle.vic_rules.specs.Client.{Standing, at_start, step, payload_of, IsIdle, MayStep}
use Rattle.vic_rules.specs.History.{standing, IsStep, AreSteps}
use Rattle.vic_conn.specs.Frames.{Goes, Waits, Whole, Broken, front_of, split_by, frames_within, frames_of}
use Rattle.vic_conn.proofs.Spelled.{fronts_are}
use Rattle.vic_ports.specs.Causes.{LeavesBehind}
use Rattle.vic_script.specs.Lines.{lines_of}
use Rattle.vic_script.specs.Run.{script_limit}
use Rattle.vic_script.proofs.Lines.{length-lines_of}
use Rattle.vic_text.specs.declared.client_line.ClientLine.{ClientLine}
use Rattle.vic_text.specs.declared.client_line.ClientLine.TheVariants as line
use Rattle.vic_text.specs.ClientLines.{client_line_of}
use Rattle.vic_session.specs.Talks.{Talk, Talker, Doing, Calls, Tells, Settles, Leaves, Bad, Halts, talk_after_step, talk_after_asking, talk_from_line, talk_with_state, unsettled_count, talk_at_next_line, talk_after_line, is_idle, talk_by_check, talk_after_payload, fresh_talk, opening_talk, talk, talker}
use Rattle.vic_session.specs.Sessions.{Stage, Greets, Talks, Goes_away, Read}
use Rattle.vic_session.specs.Laws.{TalksAreLawful, SessionsAreLawful}
use Rattle.vic_session.proofs.Steps.{heard}
use Rattle.vic_session.specs.Talking.{calls_of}
use Rattle.vic_session.proofs.Begins.{calls_poll, calls_sync, calls_call, calls_object}
use Rattle.vic_session.proofs.Extends.{here, after_step}
use Rattle.vic_session.proofs.Fitting.{CanIn, spelled-can}

-- ---- one step

-- the step that a client makes where it stands
abbrev step_at : Group → ℕ → Standing → Input → TraceStep
step_at g me s given = let v = step g me s given in record { client = me; input = given; sent = payload_of g me v.next v.sends; returned = v.returns; object = v.object }

is_step : (g : Group) (me : ℕ) (past : List TraceStep) (s : Standing) (given : Input) → s ≡ standing g me past → (0 < me) × (me ≤ g.count) → MayStep g s given → IsStep g past (step_at g me s given)
is_step g me past s given at member may =
    let there : MayStep g (standing g me past) given = subst (λ (x : Standing). MayStep g x given) at may in
    subst (λ (x : Standing). IsStep g past (step_at g me x given)) (sym at) (record { member = member; may = there; sent = refl; returned = refl; object = refl })

stands_next : (g : Group) (me : ℕ) (past : List TraceStep) (s : Standing) (given : Input) → s ≡ standing g me past → (step g me s given).next ≡ standing g me (step_at g me s given ∷ past)
unfolding standing
stands_next g me past s given at =
    ap (λ (x : Standing). (step g me x given).next) at
    ∙ sym (ap (λ (b : Bool). if b then (step g me (standing g me past) given).next else standing g me past) (eq-eqb me me refl))

-- ---- talks

module _ (w : Talker) (member : (0 < w.me) × (w.me ≤ w.group.count)) where
  -- the steps so far are the client's, it stands where they lead, and it has called at most once a line; so many lines may still come
  record Sound (t : Talk) (coming : ℕ) : Type 0 where
    pub made : AreSteps w.group t.history
    pub at : t.now ≡ standing w.group w.me t.history
    pub few : calls_of t.now ≤ t.number
    pub behind : t.number ≤ t.behind
    pub room : t.number + coming ≤ w.total

  abbrev Good : Talk → Type 0
  Good t = Sound t (length t.lines)

  stepped : (t : Talk) (n : ℕ) (given : Input) → Sound t n → MayStep w.group t.now given → calls_of (step w.group w.me t.now given).next ≤ t.number → Sound (talk_after_step w t given) n
  unfolding talk_after_step
  stepped t n given s may few = record {
    made = (s.made, is_step w.group w.me t.history t.now given s.at member may);
    at = stands_next w.group w.me t.history t.now given s.at;
    few = few;
    behind = s.behind;
    room = s.room;
  }

  asked : (t : Talk) (given : Input) (d : Doing) → Good t → MayStep w.group t.now given → calls_of (step w.group w.me t.now given).next ≤ t.number → Good (talk_after_asking w t given d)
  unfolding talk_after_step
  asked t given d s may few =
      let x = stepped t (length t.lines) given s may few in
      record { made = x.made; at = x.at; few = x.few; behind = x.behind; room = x.room }

  told : (t : Talk) (n : ℕ) → Sound t n → Sound (talk_with_state t) n
  told t n s = record { made = s.made; at = s.at; few = s.few; behind = s.behind; room = s.room }

  at_doing : (t : Talk) (d : Doing) → Good t → Good (record t { doing = d })
  at_doing t d s = record { made = s.made; at = s.at; few = s.few; behind = s.behind; room = s.room }

  either : (b : Bool) (x y : Talk) → (b ≡ true → Good x) → (b ≡ false → Good y) → Good (if b then x else y)
  either true x y h k = h refl
  either false x y h k = k refl

  -- a line is begun
  begun : (t : Talk) (l : Option ClientLine) (next : Talk → Talk) → Good t → IsIdle t.now → t.now.calls + 1 ≤ t.number → t.number ≤ script_limit → CanIn l w.group.mode
      → ((u : Talk) → Sound u (length t.lines) → IsIdle u.now → Good (next u)) → Good (talk_from_line w t l next)
  begun t None next s idle few most can goes = at_doing t (Bad 1) s
  begun t (Some line.Skip) next s idle few most can goes = goes t s idle
  begun t (Some (line.Call o)) next s idle few most can goes =
      asked t (input.Call o) Calls s (idle, (can.0, (can.1.0, (can.1.1, omega (arith, few, most))))) (calls_call w t t.number o few)
  begun t (Some (line.Object c)) next s idle few most can goes =
      asked t (input.Object c) Calls s (idle, (can.0, (can.1.0, (can.1.1, omega (arith, few, most))))) (calls_object w t t.number c few)
  begun t (Some line.Poll) next s idle few most can goes = asked t input.Poll Tells s idle (calls_poll w t t.number s.few)
  begun t (Some line.Sync) next s idle few most can goes = asked t input.Sync Tells s idle (calls_sync w t t.number s.few)
  begun t (Some (line.Settle zero)) next s idle few most can goes = goes (talk_with_state t) (told t (length t.lines) s) idle
  begun t (Some (line.Settle (suc n))) next s idle few most can goes =
      either (nat_eq (unsettled_count t) 0) (next (talk_with_state t)) (talk_after_asking w t input.Poll (Settles n))
      (λ e. goes (talk_with_state t) (told t (length t.lines) s) idle) (λ e. asked t input.Poll (Settles n) s idle (calls_poll w t t.number s.few))

  at_line : (t : Talk) (text : List ℕ) (texts : List (List ℕ)) → Sound t (suc (length texts)) → Good (here w t text texts)
  at_line t text texts s = record {
    made = s.made;
    at = s.at;
    few = omega (arith, s.few);
    behind = omega (arith, s.behind, s.room);
    room = omega (arith, s.room);
  }

  goes : (t : Talk) (texts : List (List ℕ)) → Sound t (length texts) → IsIdle t.now → Good (talk_at_next_line w t texts)
  unfolding talk_at_next_line
  goes t [] s idle = record { made = s.made; at = s.at; few = s.few; behind = s.behind; room = s.room }
  goes t (text ∷ texts) s idle =
      let u = here w t text texts in
      let there : Good (here w t text texts) = at_line t text texts s in
      either (nat_lt script_limit u.behind) (record u { doing = Bad 7 }) (talk_from_line w u (client_line_of w.group.mode text) (λ v. talk_at_next_line w v texts))
      (λ e. at_doing u (Bad 7) there)
      (λ e. begun u (client_line_of w.group.mode text) (λ v. talk_at_next_line w v texts) there idle (omega (arith, s.few)) (omega (arith, ltb-false script_limit u.behind e, there.behind))
      (spelled-can w.group.mode text) (λ v sound rests. goes v texts sound rests))

  told_on : (t : Talk) → Good t → IsIdle t.now → Good (let u = talk_with_state t in talk_at_next_line w u u.lines)
  told_on t s idle = goes (talk_with_state t) t.lines (told t (length t.lines) s) idle

  ended : (t : Talk) (d : Doing) → Good t → IsIdle t.now → Good (talk_after_line w t d)
  ended t Calls s idle = goes t t.lines s idle
  ended t Tells s idle = told_on t s idle
  ended t (Settles zero) s idle = told_on t s idle
  ended t (Settles (suc n)) s idle =
      either (nat_eq (unsettled_count t) 0) (let u = talk_with_state t in talk_at_next_line w u u.lines) (talk_after_asking w t input.Poll (Settles n))
      (λ e. told_on t s idle) (λ e. asked t input.Poll (Settles n) s idle (calls_poll w t t.number s.few))
  ended t Leaves s idle = s
  ended t (Bad k) s idle = s
  ended t (Halts k p) s idle = s

  gone_on : (t : Talk) (payload : List ℕ) (k : Option ℕ) → Good t → Good (talk_by_check w t payload k)
  gone_on t payload (Some k) s = at_doing t (Halts k payload) s
  gone_on t payload None s = either (is_idle t.now) (talk_after_line w t t.doing) t (λ idle. ended t t.doing s idle) (λ e. s)

  after : (t : Talk) (payload : List ℕ) → Good t → AreBytes payload → Good (after_step w t payload)
  unfolding talk_after_step
  after t payload s bytes =
      let most = (heard w.group w.me t.now payload).calls in
      let x = stepped t (length t.lines) (input.Payload payload) s bytes (omega (arith, most, s.few)) in
      record { made = x.made; at = x.at; few = x.few; behind = x.behind; room = x.room }

  takes : (t : Talk) (payload : List ℕ) → Good t → AreBytes payload → Good (talk_after_payload w t payload)
  unfolding talk_after_payload
  takes t payload s bytes = gone_on (after_step w t payload) payload (talk_after_step w t (input.Payload payload)).now.halted (after t payload s bytes)

  all_taken : (t : Talk) (payloads : List (List ℕ)) → Good t → AllByRecursion AreBytes payloads → Good (fold (talk_after_payload w) t payloads)
  all_taken t [] s all = s
  all_taken t (p ∷ ps) s all = all_taken (talk_after_payload w t p) ps (takes t p s all.0) all.1

  -- a client that has done nothing yet
  begins_so : w.from ≡ at_start → (script : List ℕ) → w.total ≡ length script → Sound (fresh_talk w.from) (length (lines_of script))
  unfolding standing
  begins_so is script total = record {
    made = tt;
    at = is;
    few = let none : calls_of w.from ≡ 0 = ap (λ (s : Standing). calls_of s) is in omega (arith, none);
    behind = omega arith;
    room = omega (arith, length-lines_of script, total);
  }

  pub talks : w.from ≡ at_start → (script : List ℕ) → w.total ≡ length script → (taken : List (List ℕ)) → AllByRecursion AreBytes taken → AreSteps w.group (talk w script taken).history
  unfolding talk
  talks is script total taken all =
      let idle : IsIdle w.from = subst (λ (s : Standing). IsIdle s) (sym is) refl in
      (all_taken (opening_talk w script) taken (goes (fresh_talk w.from) (lines_of script) (begins_so is script total) idle) all).made

pub talks_are_lawful : TalksAreLawful
talks_are_lawful g me script taken group some most all = record { group = group; steps = talks (talker g me script) (some, most) refl script refl taken all }

-- ---- sessions

payload_front : (split : List ℕ → List (List ℕ) × List ℕ) (bytes : List ℕ) → AreBytes bytes → ((behind : List ℕ) → AreBytes behind → AllByRecursion AreBytes (split behind).0)
    → (goes_on : Goes) → front_of bytes ≡ goes_on → AllByRecursion AreBytes (split_by split bytes goes_on).0
payload_front split bytes all more Waits e = tt
payload_front split bytes all more (Broken k) e = tt
payload_front split bytes all more (Whole p behind) e =
    let there : AreBytes ((to_be_bytes w32 (length p) ++ p) ++ behind) = subst (λ (l : List ℕ). AreBytes l) (fronts_are.whole bytes p behind all e) all in
    (AreBytes-second (to_be_bytes w32 (length p)) p (AreBytes-first (to_be_bytes w32 (length p) ++ p) behind there), more behind (AreBytes-second (to_be_bytes w32 (length p) ++ p) behind there))

-- the payloads of frames of bytes hold bytes
payload_bytes : (n : ℕ) (bytes : List ℕ) → AreBytes bytes → AllByRecursion AreBytes (frames_within n bytes).0
unfolding frames_within
payload_bytes zero bytes all = tt
payload_bytes (suc n) bytes all = payload_front (frames_within n) bytes all (λ behind h. payload_bytes n behind h) (front_of bytes) refl

all_first : (xs ys : List (List ℕ)) → AllByRecursion AreBytes (xs ++ ys) → AllByRecursion AreBytes xs
all_first [] ys all = tt
all_first (x ∷ xs) ys all = (all.0, all_first xs ys all.1)

taken_bytes : (stage : Stage) (read taken more : List (List ℕ)) → Read stage read taken more → AllByRecursion AreBytes read → AllByRecursion AreBytes taken
taken_bytes Greets read taken more r all = subst (λ (l : List (List ℕ)). AllByRecursion AreBytes l) (sym r.0) tt
taken_bytes Talks read taken more r all = let there : AllByRecursion AreBytes (r.0 ∷ (taken ++ more)) = subst (λ (l : List (List ℕ)). AllByRecursion AreBytes l) r.1.1 all in all_first taken more there.1
taken_bytes Goes_away read taken more r all = let there : AllByRecursion AreBytes (r.0 ∷ (taken ++ more)) = subst (λ (l : List (List ℕ)). AllByRecursion AreBytes l) r.1.1 all in all_first taken more there.1

pub sessions_are_lawful : SessionsAreLawful
unfolding frames_of
sessions_are_lawful g me script old new out printed end s group some most bytes told all =
    let took : LeavesBehind s.read (Some bytes) new.left = subst (λ (l : Option (List ℕ)). LeavesBehind s.read l new.left) told s.took in
    let read : AreBytes s.read = AreBytes-first s.read took.0 (subst (λ (l : List ℕ). AreBytes l) took.2 all) in
    talks_are_lawful g me script s.taken group some most (taken_bytes s.stage (frames_of s.read).0 s.taken s.more s.reads (payload_bytes (length s.read) s.read read))
