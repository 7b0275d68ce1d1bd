-- What the run of an honest script leaves.
use Rattle.std.proofs.Common.{◌≡◌, ℕ, true, List, Some, sym, ap, subst, ◌∙◌}
use Rattle.std.proofs.lemmas.Option.{same_Some}
use Rattle.vic_order.specs.Scenes.{SceneOf, server_at}
use Rattle.vic_attacks.specs.Hostile.{Hostile}
use Rattle.vic_honest.specs.SafeRuns.{AreApart}
use Rattle.vic_honest.specs.Claims.{HoldsHonestly}
use Rattle.vic_script.specs.Run.{run_of, is_honest_script}
use Rattle.vic_runs.specs.Claims.{OutcomesAreFates, LoadsAreFated, NobodyHalts}
use Rattle.vic_runs.specs.Reached.{GoesAs}
use Rattle.vic_runs.proofs.Runs.{holds_at, all_honest}

module _ (script : List ℕ) (honest : is_honest_script script ≡ true) (s : SceneOf Hostile) (e : (run_of script).scene ≡ Some s) (apart : AreApart s.group s.history) where
  -- what holds where the run leads, of the server that it leaves
  pub holds_left : (server : Hostile) → server_at s.servers 1 ≡ Some server → HoldsHonestly s.group s.history s.up (all_honest script honest s e).events server.going
  holds_left server is =
      let r = all_honest script honest s e in
      let same = sym r.same.1 ∙ ap (λ h. h.going) (same_Some r.own server (sym (ap (λ l. server_at l 1) r.only) ∙ is)) in
      subst (HoldsHonestly s.group s.history s.up r.events) same (holds_at GoesAs s r apart)

pub all_fates : OutcomesAreFates
all_fates script honest s e apart server is c there = (holds_left script honest s e apart server is).fated c there

pub all_loads : LoadsAreFated
all_loads script honest s e apart server is newer x past at content returned = (holds_left script honest s e apart server is).loads newer x past at content returned

pub none_halts : NobodyHalts
none_halts script honest s e apart = (holds_at GoesAs s (all_honest script honest s e) apart).goes_on
