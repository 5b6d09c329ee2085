use Rattle.std.proofs.Common.{◌≡◌, ◌∙◌, [], ap, false, sym, true}
use Rattle.sql_types.specs.declared.table.TableDef.{TableDef}
use Rattle.spec_model.specs.Lists.{is_among}
use Rattle.audit_definitions.specs.DefinitionRows.{rows_in}
use Rattle.law_catalog_rows.specs.Differs.{is_encoded}
use Rattle.spec_asof.specs.DatabaseAt.{table_at}
use Rattle.spec_asof.specs.DefTold.{def_told}
use Rattle.audit_asof.proofs.Users.{added, passed}
use Rattle.audit_asof.proofs.tables.add_table.Goals as goal

pub returns-in_ok-push : goal.returns-in_ok-push
returns-in_ok-push c =
    let first = rows_in c.args.first.now in
    let second = rows_in c.args.second.now in
    let has = is_among c.args.txs.now in
    let passes : is_encoded first second [] (def_told first second c.args.def) ≡ true =
    ap (λ (d : TableDef). is_encoded first second [] d) (sym c.in_ok-def.ensures) ∙ sym (c.in_ok-is_encoded.ensures []) ∙ c.if-branch.true in
    added (is_encoded first second [] (def_told first second c.args.def)) (table_at has (def_told first second c.args.def) c.args.rows) c.in_ok-table_at.field-0 c.args.tables.now.items c.push.new.self.items
    passes (c.in_ok-table_at.ensures ∙ ap (λ (d : TableDef). table_at has d c.args.rows) c.in_ok-def.ensures) c.in_ok-push.ensures.items

pub returns-else-branch : goal.returns-else-branch
returns-else-branch c =
    let first = rows_in c.args.first.now in
    let second = rows_in c.args.second.now in
    let has = is_among c.args.txs.now in
    let fails : is_encoded first second [] (def_told first second c.args.def) ≡ false =
    ap (λ (d : TableDef). is_encoded first second [] d) (sym c.in_ok-def.ensures) ∙ sym (c.in_ok-is_encoded.ensures []) ∙ c.if-branch.false in
    passed (is_encoded first second [] (def_told first second c.args.def)) (table_at has (def_told first second c.args.def) c.args.rows) c.args.tables.now.items fails
