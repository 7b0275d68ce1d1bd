use Rattle.std.proofs.Common.{[], ◌∷◌, ◌++◌, sym, ap, subst, ◌∙◌}
use Rattle.std.specs.FinMap as map
use Rattle.vic_dict.specs.Rows.{bytes_cmp, IsTable}
use Rattle.vic_dict.proofs.Rows.{rows_of, rows_seen, past_seen, stores_last}
use Rattle.vic_dict.proofs.plain.PlainDict.push_last.Goals as goal

pub invariant_of-self-2 : goal.invariant_of-self-2
invariant_of-self-2 c =
    let past = past_seen c.args.key _ c.self.view_is c.self.invariant c.requires.past in
    subst IsTable (sym c.in_ok-push.ensures.items) (stores_last _ c.args.value _ c.self.invariant past c.requires.fits.0 c.requires.fits.1 c.are_bytes.ensures c.are_bytes-2.ensures).table

pub returns-clause-ok : goal.returns-clause-ok
returns-clause-ok c =
    let past = past_seen c.args.key _ c.self.view_is c.self.invariant c.requires.past in
    ap (map.from_sorted {R = bytes_cmp}) c.in_ok-push.ensures.items
    ∙ (stores_last _ c.args.value _ c.self.invariant past c.requires.fits.0 c.requires.fits.1 c.are_bytes.ensures c.are_bytes-2.ensures).is
    ∙ ap (λ m. map.insert m c.args.key c.args.value) c.self.view_is

pub returns-clause-rows : goal.returns-clause-rows
returns-clause-rows c =
    let past = past_seen c.args.key _ c.self.view_is c.self.invariant c.requires.past in
    ap (λ l. map.entries (map.from_sorted {R = bytes_cmp} l)) c.in_ok-push.ensures.items
    ∙ rows_of _ (stores_last _ c.args.value _ c.self.invariant past c.requires.fits.0 c.requires.fits.1 c.are_bytes.ensures c.are_bytes-2.ensures).table
    ∙ ap (λ l. l ++ (c.args.key, c.args.value) ∷ []) (sym (rows_seen _ c.self.view_is c.self.invariant))
