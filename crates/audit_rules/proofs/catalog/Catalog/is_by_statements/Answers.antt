use Rattle.std.proofs.Common.{List, ap, ap₂, subst, sym, ◌∙◌}
use Rattle.std.specs.Prelude.{◌&&◌, pos}
use Rattle.std.specs.List.{list_all}
use Rattle.std.specs.List.Sorted.{IsNonDecreasingBy}
use Rattle.sql_types.specs.declared.entry.TxEntry.{TxEntry}
use Rattle.spec_rules.specs.OneStatement.{one_statement}
use Rattle.spec_rules.specs.Places.{PlacedRow}
use Rattle.spec_rules.specs.Rows.{CatalogRows, items_about, tables_about}
use Rattle.audit_rules.specs.declared.rows.PlacedVersion.{PlacedVersion}
use Rattle.audit_rules.specs.ByPosition.{is_one}
use Rattle.audit_rules.specs.Seen.{position_in, seen}
use Rattle.audit_rules.proofs.Transactions.{by_position_rises, statements_are}
use Rattle.audit_rules.proofs.catalog.Catalog.is_by_statements.Goals as goal

pub one_statement-requires : goal.one_statement-requires
one_statement-requires c = record {
  tables = subst (IsNonDecreasingBy position_in) (sym (c.deref.ensures.value ∙ c.self.invariant.tables_are)) (by_position_rises c.self.inside.tables.items);
  items = subst (IsNonDecreasingBy position_in) (sym (c.deref-2.ensures.value ∙ c.self.invariant.items_are)) (by_position_rises c.self.inside.items.items);
}

pub returns : goal.returns
returns c =
    let t = pos c.args.table in
    let own_tables = seen c.args.tables.now in
    let own_items = seen c.args.items.now in
    let entries : List TxEntry = c.self.inside.entries.now in
    c.one_statement.ensures
    ∙ ap₂ (λ (a b : List PlacedVersion). list_all (λ (r : PlacedRow). is_one entries a b t r.place.0) own_tables && list_all (λ (r : PlacedRow). is_one entries a b t r.place.0) own_items)
    (c.deref.ensures.value ∙ c.self.invariant.tables_are) (c.deref-2.ensures.value ∙ c.self.invariant.items_are)
    ∙ statements_are entries c.self.inside.tables.items c.self.inside.items.items t own_tables own_items
    (c.requires.tables ∙ sym (ap (λ (r : List TxEntry × CatalogRows). tables_about r.1 t) c.self.view_is))
    (c.requires.items ∙ sym (ap (λ (r : List TxEntry × CatalogRows). items_about r.1 t) c.self.view_is))
    ∙ ap (λ (r : List TxEntry × CatalogRows). one_statement r.0 r.1 t) c.self.view_is
