use Rattle.std.proofs.Common.{IsSorted, ◌++◌, List, subst, sym, ap, ap₂, ◌∙◌}
use Rattle.std.proofs.lemmas.List.Elements.{All-from_recursion}
use Rattle.std.specs.List.{All, AllByRecursion}
use Rattle.sql_types.specs.declared.entry.TxEntry.{TxEntry}
use Rattle.sql_types.specs.declared.table.TableDef.{TableDef}
use Rattle.law_catalog_rows.specs.Least.{least_from}
use Rattle.spec_model.specs.Lists.{sorted}
use Rattle.spec_verify.specs.Entries.{table_event_cmp}
use Rattle.spec_verify.specs.Versions.{with_columns}
use Rattle.audit_verify.specs.Order.{AreRanked, IsNumbered, IsRanked, ranked_cmp, wrong_among}
use Rattle.audit_verify.specs.Versions.{null_among, unfit_among}
use Rattle.audit_columns.proofs.Sortings.{all_sorted}
use Rattle.audit_verify.proofs.InRuns.{runs_rise}
use Rattle.audit_verify.proofs.WorstParts.{worst_of_table}
use Rattle.audit_verify.proofs.versions.worst_in.Goals as goal

pub worst_null-worst-requires : goal.worst_null-worst-requires
worst_null-worst-requires c =
    subst (AllByRecursion (IsRanked c.args.columns.now.0)) (sym c.deref-2.ensures.value)
    (subst (λ (es : List TxEntry). AllByRecursion (IsRanked es) c.in_ok-ranked.ranked.items) c.positions.ensures c.in_ok-ranked.ensures.ranks)

pub sort_in_runs-requires : goal.sort_in_runs-requires
sort_in_runs-requires c = c.in_ok-ranked.ensures.numbers

pub least_wrong-requires-clause-numbers : goal.least_wrong-requires-clause-numbers
least_wrong-requires-clause-numbers c =
    let columns = c.new-keyed.result.columns in
    subst (All (IsNumbered columns)) (sym (c.deref-3.ensures.value ∙ c.in_ok-sort_in_runs.ensures))
    (All-from_recursion (IsNumbered columns) _ (all_sorted (ranked_cmp columns) (IsNumbered columns) _ c.in_ok-ranked.ensures.numbers))

pub least_wrong-requires-clause-order : goal.least_wrong-requires-clause-order
least_wrong-requires-clause-order c = subst (IsSorted (ranked_cmp c.new-keyed.result.columns)) (sym c.deref-3.ensures.value) (runs_rise c.new-keyed.result.columns c.in_ok-ranked.ranked.items _ c.in_ok-sort_in_runs.ensures)

pub least_wrong-requires-clause-table : goal.least_wrong-requires-clause-table
least_wrong-requires-clause-table c = c.of-table_times.ensures.table ∙ sym (ap (λ (d : TableDef). d.id) c.new-keyed.ensures)

pub returns : goal.returns
returns c = λ changes times.
    let entries = c.args.columns.now.0 in
    let second = c.args.columns.now.1 in
    let def = c.args.table.now.def.now in
    let rows = c.args.table.now.rows.now in
    let found = c.in_ok-ranked.ranked.items in
    let of_keyed = subst (λ (es : List TxEntry). AreRanked es c.new-keyed.result.columns (with_columns c.new-keyed.result.columns (rows.base ++ rows.history)) found) c.positions.ensures c.in_ok-ranked.ensures in
    let are = subst (λ (d : TableDef). AreRanked entries d.columns (with_columns d.columns (rows.base ++ rows.history)) found) c.new-keyed.ensures of_keyed in
    let order = c.in_ok-sort_in_runs.ensures ∙ ap (λ (d : TableDef). sorted (ranked_cmp d.columns) found) c.new-keyed.ensures in
    let ranks = subst (λ (es : List TxEntry). AllByRecursion (IsRanked es) found) c.positions.ensures c.in_ok-ranked.ensures.ranks in
    let all_ranked = subst (All (IsRanked entries)) (sym (c.deref-3.ensures.value ∙ c.in_ok-sort_in_runs.ensures))
    (All-from_recursion (IsRanked entries) _ (all_sorted (ranked_cmp c.new-keyed.result.columns) (IsRanked entries) _ ranks)) in
    c.least_wrong.ensures entries changes (c.of-table_times.ensures.times changes times) all_ranked
    ∙ ap₂ (λ (d : TableDef) l. least_from table_event_cmp c.worst_null-worst.result (wrong_among entries changes d.id d.columns l l)) c.new-keyed.ensures c.deref-3.ensures.value
    ∙ worst_of_table entries second changes def rows found _ c.args.worst c.worst_alone-worst.result c.worst_alone-worst-2.result c.worst_null-worst.result
    (c.worst_alone-worst.ensures ∙ ap (λ vs. least_from table_event_cmp c.args.worst (unfit_among def vs)) c.as_slice.ensures)
    (c.worst_alone-worst-2.ensures ∙ ap (λ vs. least_from table_event_cmp c.worst_alone-worst.result (unfit_among def vs)) c.as_slice-2.ensures)
    (c.worst_null-worst.ensures ∙ ap (λ l. least_from table_event_cmp c.worst_alone-worst-2.result (null_among entries second def l)) c.deref-2.ensures.value)
    are order
