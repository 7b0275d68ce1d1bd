-- How the command of a server ends, of what it planned and how the writing went.
use Rattle.std.proofs.Common.{◌≡◌, ◌≢◌, ◌⊎◌, inl, inr, ℕ, false, List, Option, Some, None, refl, sym, subst, ◌∙◌}
use Rattle.std.specs.Prelude.{IsSome, IfSome}
use Rattle.vic_ports.specs.Causes.{Rose}
use Rattle.vic_ports.specs.Links.{Lines}
use Rattle.vic_gate.specs.declared.worker.WorkEnd.{WorkEnd}
use Rattle.vic_order.specs.Order.{Server}
use Rattle.vic_hall.specs.Hosting.{Visited}
use Rattle.vic_hall.specs.Runs.{IsRun}
use Rattle.vic_server.specs.Replay.{KeptServer, opening_server}
use Rattle.vic_text.specs.declared.status.Status.{Status}
use Rattle.vic_text.specs.declared.status.Status.TheVariants as status
use Rattle.vic_text.specs.Statuses.{usage_line, no_memory_line, link_fault_line}
use Rattle.vic_cli.specs.Output.{Given, Finishes, WroteAll}
use Rattle.vic_cli.specs.Command.{Plans, Ends, IsComplete}
use Rattle.vic_cli.specs.declared.serve.Asked.{Asked}
use Rattle.vic_cli.specs.Serving.{Opened, IsServed, IsUnserved, IsUntouched, WasServed, Causes, serve_command, serve_text}
use Rattle.vic_cli.proofs.Command.{none_of, known_of, complete_of}

-- lines were served as it was asked
pub served_so : (d : Opened) (a : Asked) (count : ℕ) (start : Server) (k : KeptServer) (worked : List WorkEnd) (text : List ℕ) (l : Lines) → d.now ≡ d.before → count ≡ a.connections → start ≡ opening_server a.kind a.clients false
    → Visited l d.old d.new → IsRun count start l worked k → text ≡ serve_text a.connections k worked → IsServed a d k text
served_so d a count start k worked text l quiet c o v r t =
    let from_start : IsRun count (opening_server a.kind a.clients false) l worked k = subst (λ (s : Server). IsRun count s l worked k) o r in
    (quiet, (l, (worked, (v, (subst (λ (n : ℕ). IsRun n (opening_server a.kind a.clients false) l worked k) c from_start, t)))))

-- ---- what is planned

is_right : (asked : Option Asked) (a : Asked) → asked ≡ Some a → IsSome asked
is_right asked a e = subst (λ (x : Option Asked). IsSome x) (sym e) refl

-- all was served
pub plans_served : (asked : Option Asked) (a : Asked) (d : Opened) (k : KeptServer) (s : Status) (text : List ℕ) → asked ≡ Some a → s ≡ status.Ok → IsServed a d k text → Plans (serve_command asked d (Some k)) s text
plans_served asked a d k s text e is served =
    let here : Plans (serve_command (Some a) d (Some k)) status.Ok text = (refl, (k, (served, refl))) in
    subst (λ (x : Status). Plans (serve_command asked d (Some k)) x text) (sym is) (subst (λ (o : Option Asked). Plans (serve_command o d (Some k)) status.Ok text) (sym e) here)

-- memory ran out, before anything was asked of the doors or after all was served
pub plans_short : (asked : Option Asked) (a : Asked) (d : Opened) (kept : Option KeptServer) (s : Status) (text : List ℕ) → asked ≡ Some a → s ≡ status.NoMemory → text ≡ no_memory_line → IsUntouched d ⊎ WasServed a d
    → Plans (serve_command asked d kept) s text
plans_short asked a d kept s text e is line why =
    let here : Plans (serve_command (Some a) d kept) status.NoMemory text = (why, line) in
    subst (λ (x : Status). Plans (serve_command asked d kept) x text) (sym is) (subst (λ (o : Option Asked). Plans (serve_command o d kept) status.NoMemory text) (sym e) here)

-- ---- how it ends

-- it matters not whether the server is kept in the end
keeps : (o : Option Asked) (d : Opened) (made kept : Option KeptServer) (text : List ℕ) → ((k : KeptServer) → made ≡ Some k → IfSome kept (λ x. x ≡ k)) → IsSome made → Causes o d made status.Ok text → Causes o d kept status.Ok text
keeps None d made kept text same some c = absurd c
keeps (Some a) d None kept text same some c = absurd cc
keeps (Some a) d (Some k) kept text same some c = (c.0, (c.1.0, subst (λ (y : KeptServer). IfSome kept (λ x. x ≡ y)) c.1.1 (same k refl)))

pub plans_kept : (asked : Option Asked) (d : Opened) (made kept : Option KeptServer) (s : Status) (text : List ℕ) → Plans (serve_command asked d made) s text → (s ≡ status.Ok → IsSome made) → ((k : KeptServer) → made ≡ Some k → IfSome kept (λ x. x ≡ k))
    → Plans (serve_command asked d kept) s text
plans_kept asked d made kept status.Ok text p some same = (p.0, keeps asked d made kept text same (some refl) p.1)
plans_kept asked d made kept status.Usage text p some same = p
plans_kept asked d made kept status.LinkFault text p some same = p
plans_kept asked d made kept status.NoMemory text p some same = p
plans_kept asked d made kept status.TagsNotMade text p some same = absurd p.1
plans_kept asked d made kept status.ReadFault text p some same = absurd p.1
plans_kept asked d made kept status.WriteFault text p some same = absurd p
plans_kept asked d made kept status.BadLine text p some same = absurd p.1
plans_kept asked d made kept status.Halted text p some same = absurd p.1
plans_kept asked d made kept status.BadFrame text p some same = absurd p.1
plans_kept asked d made kept status.GreetingRefused text p some same = absurd p.1

-- the server that is kept is the one that was made
pub same_kept : (made kept : Option KeptServer) (s : Status) → (s ≡ status.Ok → kept ≡ made) → (s ≢ status.Ok → kept ≡ None) → (k : KeptServer) → made ≡ Some k → IfSome kept (λ x. x ≡ k)
same_kept made kept s ok other k e = by_status s refl
  where
    none : s ≢ status.Ok → IfSome kept (λ x. x ≡ k)
    none differs = subst (λ (o : Option KeptServer). IfSome o (λ x. x ≡ k)) (sym (other differs)) tt

    by_status : (r : Status) → s ≡ r → IfSome kept (λ x. x ≡ k)
    by_status status.Ok is = subst (λ (o : Option KeptServer). IfSome o (λ x. x ≡ k)) (sym (ok is ∙ e)) refl
    by_status status.TagsNotMade is = none (λ o. let x : status.TagsNotMade ≡ status.Ok = sym is ∙ o in absurd cc)
    by_status status.Usage is = none (λ o. let x : status.Usage ≡ status.Ok = sym is ∙ o in absurd cc)
    by_status status.ReadFault is = none (λ o. let x : status.ReadFault ≡ status.Ok = sym is ∙ o in absurd cc)
    by_status status.WriteFault is = none (λ o. let x : status.WriteFault ≡ status.Ok = sym is ∙ o in absurd cc)
    by_status status.BadLine is = none (λ o. let x : status.BadLine ≡ status.Ok = sym is ∙ o in absurd cc)
    by_status status.NoMemory is = none (λ o. let x : status.NoMemory ≡ status.Ok = sym is ∙ o in absurd cc)
    by_status status.LinkFault is = none (λ o. let x : status.LinkFault ≡ status.Ok = sym is ∙ o in absurd cc)
    by_status status.Halted is = none (λ o. let x : status.Halted ≡ status.Ok = sym is ∙ o in absurd cc)
    by_status status.BadFrame is = none (λ o. let x : status.BadFrame ≡ status.Ok = sym is ∙ o in absurd cc)
    by_status status.GreetingRefused is = none (λ o. let x : status.GreetingRefused ≡ status.Ok = sym is ∙ o in absurd cc)

-- status 0 comes only where it was planned
pub some_kept : (made kept : Option KeptServer) (planned result : Status) (text : List ℕ) (k : Given) → (planned ≡ status.Ok → IsSome made) → Finishes planned text k result → (result ≡ status.Ok → kept ≡ made) → result ≡ status.Ok → IsSome kept
some_kept made kept planned result text k some (inl f) ok is = subst (λ (o : Option KeptServer). IsSome o) (sym (ok is)) (some (sym f.0 ∙ is))
some_kept made kept planned result text k some (inr (inl f)) ok is = let x : status.WriteFault ≡ status.Ok = sym f.0 ∙ is in absurd cc
some_kept made kept planned result text k some (inr (inr f)) ok is = let x : status.NoMemory ≡ status.Ok = sym f.0 ∙ is in absurd cc

-- ---- where no write fails

-- each status but two has a cause that is ruled out
rules_out : (asked : Option Asked) (d : Opened) (kept : Option KeptServer) (planned s : Status) (text : List ℕ) → Causes asked d kept planned text → IsSome asked → (serve_command asked d kept).due s → (planned ≡ s) ⊎ (planned ≡ status.NoMemory)
rules_out asked d kept status.Ok s text c right due = inl (sym due.1)
rules_out asked d kept status.NoMemory s text c right due = inr refl
rules_out asked d kept status.LinkFault s text c right due = absurd (due.0 c.0)
rules_out asked d kept status.TagsNotMade s text c right due = absurd c
rules_out asked d kept status.Usage s text c right due = absurd c
rules_out asked d kept status.ReadFault s text c right due = absurd c
rules_out asked d kept status.WriteFault s text c right due = absurd c
rules_out asked d kept status.BadLine s text c right due = absurd c
rules_out asked d kept status.Halted s text c right due = absurd c
rules_out asked d kept status.BadFrame s text c right due = absurd c
rules_out asked d kept status.GreetingRefused s text c right due = absurd c

pub serve_complete : (asked : Option Asked) (d : Opened) (kept : Option KeptServer) (k : Given) (result : Status) → Ends (serve_command asked d kept) k result → IsComplete (serve_command asked d kept) k result
serve_complete asked d kept k result e = complete_of (serve_command asked d kept) k result e (rules_out asked d kept)

-- ---- what is known of each status

-- what was asked for, and the server that is kept and of which the text that was written tells
pub ok_serves : (asked : Option Asked) (d : Opened) (kept : Option KeptServer) (w : Given) → IsSome kept → Ends (serve_command asked d kept) w status.Ok
    → (a : Asked) × ((asked ≡ Some a) × ((k : KeptServer) × ((kept ≡ Some k) × ((text : List ℕ) × (IsServed a d k text × WroteAll text w)))))
ok_serves asked d kept w some e = by_words asked kept some (known_of (serve_command asked d kept) w status.Ok e)
  where
    by_words : (o : Option Asked) (q : Option KeptServer) → IsSome q → (text : List ℕ) × (IsSome o × (Causes o d q status.Ok text × WroteAll text w))
        → (a : Asked) × ((o ≡ Some a) × ((k : KeptServer) × ((q ≡ Some k) × ((text : List ℕ) × (IsServed a d k text × WroteAll text w)))))
    by_words None q some x = absurd x.1.1.0
    by_words (Some a) None some x = absurd cc
    by_words (Some a) (Some k) some x = (a, (refl, (k, (refl, (x.0, (subst (λ (y : KeptServer). IsServed a d y x.0) (sym x.1.1.0.1.1) x.1.1.0.1.0, x.1.1.1))))))

pub wrong_usage : (asked : Option Asked) (d : Opened) (kept : Option KeptServer) (w : Given) → Ends (serve_command asked d kept) w status.Usage → (asked ≡ None) × (IsUntouched d × WroteAll usage_line w)
wrong_usage asked d kept w e = let x = known_of (serve_command asked d kept) w status.Usage e in (none_of asked x.0, x.1)

pub failed_serves : (asked : Option Asked) (d : Opened) (kept : Option KeptServer) (w : Given) → Ends (serve_command asked d kept) w status.LinkFault → IsSome asked × (Rose d.before d.now × (IsUnserved d × WroteAll link_fault_line w))
failed_serves asked d kept w e =
    let x = known_of (serve_command asked d kept) w status.LinkFault e in
    (x.1.0, (x.1.1.0.0, (x.1.1.0.1.0, subst (λ (t : List ℕ). WroteAll t w) x.1.1.0.1.1 x.1.1.1)))
