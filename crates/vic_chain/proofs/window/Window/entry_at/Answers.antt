use Rattle.std.proofs.Common.{List, ℕ, Some, ◌+◌, ◌-◌, length, sym, subst, ap, ◌≡◌, arith}
use Rattle.vic_chain.specs.Held.{Held, held_length}
use Rattle.vic_chain.proofs.Shown.{shows_entry, link_at}
use Rattle.std.specs.Prelude.{slice_get}
use Rattle.std.specs.Option.{option_map}
use Rattle.vic_chain.specs.declared.window.ChainedEntry.{ChainedEntry}
use Rattle.vic_chain.proofs.window.Window.entry_at.Goals as goal

pub returns-clause-value : goal.returns-clause-value
returns-clause-value c =
    let links : c.self.inside.links.items ≡ c.args.self.now.links = ap (λ (w : Held). w.links) c.self.view_is in
    let inside : c.args.self.now.sealed + length c.self.inside.links.items ≡ held_length c.args.self.now = ap (λ (l : List ChainedEntry). c.args.self.now.sealed + length l) links in
    subst (λ (l : List ChainedEntry). option_map (λ (y : ChainedEntry). y.entry) (slice_get l (held_length c.args.self.now - c.args.position)) ≡ Some c.index.result.now.entry) links
    (link_at c.self.inside.links.items _ (c.length.result - c.args.position) c.index.result.now (ap (λ (n : ℕ). n - c.args.position) (sym c.length.ensures.value)) (omega arith) c.index.ensures)

pub returns-clause-shows : goal.returns-clause-shows
returns-clause-shows c = λ g p s. shows_entry g p c.args.self.now c.args.position _ (returns-clause-value c) s
