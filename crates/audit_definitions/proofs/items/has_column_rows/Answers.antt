use Rattle.std.proofs.Common.{◌+◌, ap, sym, ◌∙◌, length, get_or, arith}
use Rattle.law_catalog_rows.specs.Encoded.{latest_column_row}
use Rattle.audit_definitions.specs.DefinitionRows.{rows_seen, is_said}
use Rattle.audit_definitions.proofs.Walks.{all_goes_on, all_fails}
use Rattle.audit_definitions.proofs.items.has_column_rows.Goals as goal

pub loop-place-preserved : goal.loop-place-preserved
loop-place-preserved c =
    let def = c.args.def.now in
    let k = c.loop-place.place in
    all_goes_on (is_said 1 (rows_seen c.args.rows.now)) (latest_column_row def) (k + 1) def.columns k c.column-item.result
    (omega (arith, c.loop-place-test.true, ap length c.as_slice-column-items.ensures)) (c.column-item.is ∙ ap (λ l. get_or l k c.column-item.result) c.as_slice-column-items.ensures) _
    (sym c.has_latest_column_row.ensures ∙ c.if-not-has_latest_column_row.false) c.loop-place.invariant

pub returns-then-not-has_latest_column_row : goal.returns-then-not-has_latest_column_row
returns-then-not-has_latest_column_row c =
    let def = c.args.def.now in
    let k = c.loop-place.place in
    all_fails (is_said 1 (rows_seen c.args.rows.now)) (latest_column_row def) (k + 1) def.columns k c.column-item.result
    (omega (arith, c.loop-place-test.true, ap length c.as_slice-column-items.ensures)) (c.column-item.is ∙ ap (λ l. get_or l k c.column-item.result) c.as_slice-column-items.ensures) _
    (sym c.has_latest_column_row.ensures ∙ c.if-not-has_latest_column_row.true) c.loop-place.invariant
