use Rattle.std.proofs.Common.{◌≡◌, IsSorted, false, List, subst, sym, ap, ◌∙◌}
use Rattle.std.specs.Prelude.{option_map}
use Rattle.sql_types.specs.declared.entry.TxEntry.{TxEntry}
use Rattle.sql_types.specs.declared.version.Version.{Version}
use Rattle.spec_verify.specs.Versions.{column_as_of, says_not_null}
use Rattle.audit_columns.specs.declared.column_rows.ColumnRow.{ColumnRow}
use Rattle.audit_columns.specs.ColumnRows.{last_before, not_null_by, row_at, row_cmp, sorted_rows}
use Rattle.audit_columns.specs.Positions.{Rank, rank_of}
use Rattle.audit_columns.proofs.LastRows.{as_of, rows_rise}
use Rattle.audit_columns.proofs.column_rows.ColumnRows.not_null_as_of.Goals as goal

pub last_before-requires : goal.last_before-requires
last_before-requires c = subst (IsSorted row_cmp) (sym (c.deref.ensures.value ∙ c.self.invariant)) (rows_rise c.self.inside.positions c.self.inside.rows.now)

pub returns : goal.returns
returns c = λ event is.
    let entries : List TxEntry = c.self.inside.positions in
    let second : List Version = c.self.inside.rows.now in
    let at_is : c.args.at ≡ rank_of entries event = is ∙ sym (ap (λ (seen : List TxEntry × List Version). rank_of seen.0 event) c.self.view_is) in
    c.not_null_by.ensures
    ∙ ap (not_null_by c.row_at-target.result) (c.last_before.ensures ∙ ap (λ (rows : List ColumnRow). last_before rows c.row_at-target.result) (c.deref.ensures.value ∙ c.self.invariant))
    ∙ ap (λ (target : ColumnRow). not_null_by target (last_before (sorted_rows entries second) target)) (c.row_at-target.ensures ∙ ap (λ (at : Rank). row_at c.args.table c.args.item at) at_is)
    ∙ as_of entries c.args.table c.args.item event false second
    ∙ ap (λ (seen : List TxEntry × List Version). option_map says_not_null (column_as_of seen.0 seen.1 c.args.table c.args.item event)) c.self.view_is
