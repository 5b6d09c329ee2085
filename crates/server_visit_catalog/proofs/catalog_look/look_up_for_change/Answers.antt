use Rattle.std.proofs.Common.{◌∙◌, Some, ap, sym, subst, inl}
use Rattle.sql_types.specs.declared.statement.Stmt.TheVariants as st
use Rattle.sql_types.specs.declared.table.TableDef.{TableDef}
use Rattle.spec_model.specs.Catalog.{find_part}
use Rattle.server_visit_catalog.specs.InCatalog.{IsFound}
use Rattle.server_visit_catalog.proofs.CatalogGot.{change_err, found_change, unknown_change}
use Rattle.server_visit_catalog.proofs.catalog_look.look_up_for_change.Goals as goal

pub returns-in_default : goal.returns-in_default
returns-in_default c = λ ne. inl (unknown_change c.args.catalog.now c.args.row.now (ap (find_part c.args.catalog.now.defs) (sym c.table_of.ensures) ∙ sym c.in_default.ensures))

pub returns-in_err-check_stmt : goal.returns-in_err-check_stmt
returns-in_err-check_stmt c = change_err c.args.catalog.now c.args.row.now c.get.result.now c.in-Some.part c.from_residual.result c.in_err-check_stmt.field-0.0 c.from_residual.ensures.1
    (ap (find_part c.args.catalog.now.defs) (sym c.table_of.ensures) ∙ sym c.in-Some.ensures ∙ ap (λ (d : TableDef). Some (d, c.in-Some.part)) (sym c.get.ensures)) c.in_err-check_stmt.ensures

pub returns : goal.returns
returns c = subst (λ (def : TableDef). IsFound c.args.catalog.now (st.Change c.args.row.now) (def, c.in-Some.part)) (c.get.ensures ∙ sym c.in_ok-def.ensures)
    (found_change c.args.catalog.now c.args.row.now c.get.result.now c.in-Some.part
    (ap (find_part c.args.catalog.now.defs) (sym c.table_of.ensures) ∙ sym c.in-Some.ensures ∙ ap (λ (d : TableDef). Some (d, c.in-Some.part)) (sym c.get.ensures)) c.in_ok-check_stmt.ensures)
