use Rattle.std.proofs.Common.{List, IsSorted, ap, subst, sym, ◌∙◌}
use Rattle.std.specs.List.{list_all}
use Rattle.sql_parts.proofs.Sorting.{is_sorted}
use Rattle.sql_types.specs.declared.entry.TxEntry.{TxEntry}
use Rattle.spec_rules.specs.Places.{PlacedRow}
use Rattle.spec_rules.specs.Rows.{CatalogRows}
use Rattle.spec_rules.specs.TableNames.{names_are_new, table_names_are_new}
use Rattle.audit_definitions.proofs.Verdicts.{same_ok}
use Rattle.audit_rules.specs.declared.rows.PlacedVersion.{PlacedVersion}
use Rattle.audit_rules.specs.Seen.{seen, table_cmp}
use Rattle.audit_rules.proofs.InForce.{tables_total}
use Rattle.audit_rules.proofs.Sorted.{all_names_sorted}
use Rattle.audit_rules.proofs.catalog.Catalog.names_are_new.Goals as goal

pub table_names_are_new-requires : goal.table_names_are_new-requires
table_names_are_new-requires c = subst (IsSorted table_cmp) (sym (c.deref.ensures.value ∙ c.self.invariant.by_table_is)) (is_sorted table_cmp tables_total c.self.inside.tables.items)

pub returns : goal.returns
unfolding table_names_are_new
returns c =
    let own = seen c.args.tables.now in
    same_ok _ _ _
    (ap (λ (l : List PlacedVersion). list_all (names_are_new (seen l)) own) (c.deref.ensures.value ∙ c.self.invariant.by_table_is)
    ∙ all_names_sorted c.self.inside.tables.items own
    ∙ ap (λ (r : List TxEntry × CatalogRows). list_all (names_are_new r.1.tables) own) c.self.view_is
    ∙ ap (λ (l : List PlacedRow). list_all (names_are_new c.args.self.now.1.tables) l) c.requires)
    c.table_names_are_new.ensures
