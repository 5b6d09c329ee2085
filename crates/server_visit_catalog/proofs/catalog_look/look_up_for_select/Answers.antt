use Rattle.std.proofs.Common.{◌∙◌, ap, sym, subst, inl, Some, Ok, refl, List}
use Rattle.sql_value.specs.declared.column.ColumnDef.{ColumnDef}
use Rattle.sql_types.specs.declared.statement.Stmt.TheVariants as st
use Rattle.sql_types.specs.declared.table.Part.{Part}
use Rattle.sql_types.specs.declared.table.TableDef.{TableDef}
use Rattle.spec_model.specs.Query.{select_check}
use Rattle.server_visit_catalog.specs.InCatalog.{IsFound}
use Rattle.server_visit_catalog.proofs.CatalogGot.{found_select, not_system, read_err, select_err, shown_rows, system_or_not, unknown_select}
use Rattle.server_visit_catalog.proofs.catalog_look.look_up_for_select.Goals as goal

pub returns-in_default : goal.returns-in_default
returns-in_default c = λ ne. inl (unknown_select c.args.catalog.now c.args.q.now (sym c.in_default.ensures))

pub returns-in_err-read : goal.returns-in_err-read
returns-in_err-read c = read_err c.args.catalog.now c.args.q.now c.in-Some.def.now c.from_residual.result c.in_err-read.field-0.0 c.from_residual.ensures.1
    (sym c.in-Some.ensures ∙ ap (λ (p : Part). Some (c.in-Some.def.now, p)) (system_or_not c.in-Some.part (sym c.is_system.ensures ∙ c.if-is_system.true)))
    c.in_err-read.ensures.rows c.in_err-read.ensures.refused

pub returns-then-is_system : goal.returns-then-is_system
returns-then-is_system c = shown_rows c.args.catalog.now c.args.q.now c.in-Some.def.now
    (sym c.in-Some.ensures ∙ ap (λ (p : Part). Some (c.in-Some.def.now, p)) (system_or_not c.in-Some.part (sym c.is_system.ensures ∙ c.if-is_system.true)))
    (Ok c.in_ok-read.field-0) c.in_ok-read.ensures.rows c.in_ok-read.ensures.refused c.in_ok-read.field-0 refl

pub returns-in_err-check_select : goal.returns-in_err-check_select
returns-in_err-check_select c = select_err c.args.catalog.now c.args.q.now c.get.result.now c.in-Some.part c.of.result c.from_residual-in_err-check_select.result c.in_err-check_select.field-0.0
    c.from_residual-in_err-check_select.ensures.1 (sym c.in-Some.ensures ∙ ap (λ (d : TableDef). Some (d, c.in-Some.part)) (sym c.get.ensures)) c.of.ensures c.in_err-check_select.ensures

pub returns : goal.returns
returns c = subst (λ (def : TableDef). IsFound c.args.catalog.now (st.Select c.args.q.now) (def, c.in-Some.part)) (c.get.ensures ∙ sym c.in_ok-def.ensures)
    (found_select c.args.catalog.now c.args.q.now c.get.result.now c.in-Some.part (sym c.in-Some.ensures ∙ ap (λ (d : TableDef). Some (d, c.in-Some.part)) (sym c.get.ensures))
    (not_system c.in-Some.part (sym c.is_system.ensures ∙ c.if-is_system.false))
    (sym (c.in_ok-check_select.ensures ∙ ap (λ (cs : List ColumnDef). select_check cs c.args.q.now) c.of.ensures)))
