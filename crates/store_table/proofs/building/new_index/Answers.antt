use Rattle.std.proofs.Common.{Bor, ap, sym, ◌∙◌, map, List, ℕ}
use Rattle.sql_types.specs.declared.version.Version.{Version}
use Rattle.spec_model.specs.Lists.{sorted}
use Rattle.store_table.specs.Orders.{in_order, row_cmp, starts_of}
use Rattle.store_table.proofs.Keeping.{rows_in_order}
use Rattle.store_table.proofs.building.new_index.Goals as goal

abbrev seen : Bor Version → Version
seen v = v.now

pub returns-clause-of : goal.returns-clause-of
returns-clause-of c =
    let ordinals = c.args.ordinals.now in
    let key = c.args.key.now in
    let vs = c.args.versions.now in
    c.in_ok-starts_of.ensures.starts
    ∙ ap (λ (l : List (Bor Version)). starts_of (map seen l)) c.deref.ensures.value
    ∙ ap starts_of (c.in_ok-sort_rows.ensures ∙ ap (sorted (row_cmp ordinals key)) c.in_ok-live_by_key.ensures ∙ rows_in_order ordinals key vs c.requires)
    ∙ ap (λ (ns : List ℕ). starts_of (in_order ns key vs)) (sym (c.from_vec.ensures ∙ c.in_ok-from_slice.ensures.items))
