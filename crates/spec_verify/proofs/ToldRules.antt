-- Rules of changes: what is told of them.
use Rattle.std.proofs.Common.{◌≡◌, List, Option, ℤ, refl, sym, Bool, true, false, true≢false}
use Rattle.std.proofs.lemmas.Bool.Decides.{Decides-and, Decides-like, Decides-ltb, not_from_Decides}
use Rattle.std.specs.Bool.{Decides}
use Rattle.std.specs.Cmp.{int_cmp_total}
use Rattle.std.specs.Prelude.{pos, ◌&&◌, not, nat_lt}
use Rattle.std.specs.Ordering.{int_cmp, on}
use Rattle.sql_types.specs.declared.entry.TxEntry.{TxEntry}
use Rattle.sql_types.specs.declared.image.Image.{Image}
use Rattle.sql_types.specs.declared.version.Version.{Version}
use Rattle.spec_model.specs.SystemTables.{columns_id}
use Rattle.format_image.specs.Tables.{tables_in}
use Rattle.spec_rules.specs.OneStatement.{one_statement}
use Rattle.spec_rules.specs.Rows.{CatalogRows}
use Rattle.spec_rules.specs.WhileTheTableIsThere.{is_while_the_table_is_there}
use Rattle.spec_rules.specs.Rules.{keeps_the_rules, version_keeps_the_rules, KeepsTheRules, VersionKeepsTheRules}
use Rattle.spec_verify.specs.declared.place.Place.{Place}
use Rattle.spec_verify.specs.declared.place.Place.TheVariants as at
use Rattle.spec_verify.specs.Definitions.{table_place}
use Rattle.spec_verify.specs.Entries.{table_event_cmp}
use Rattle.spec_verify.specs.Rules.{breaks_a_rule, ids_of_rows, last_before, rows_of_image, table_rule_fault, version_breaks_a_rule, version_rule_fault}
use Rattle.spec_verify.specs.Sentences.{TableRulesHold, TableVersion, VersionRulesHold, start_of, versions_of_image}
use Rattle.spec_verify.specs.Told.{TellsLeast}
use Rattle.spec_verify.proofs.Deciding.{not_true, not_false}
use Rattle.spec_verify.proofs.Leasts.{Placed, least_told}
use Rattle.spec_verify.proofs.ToldVersions.{starts_told}

implied : {P Q : Type 0} (a b : Bool) → Decides a P → Decides b Q → Decides (not (a && not b)) (P → Q)
implied true true p q = (λ e h. q.0 refl, λ f. refl)
implied true false p q = (λ e. absurd (true≢false (sym e)), λ f. q.1 (f (p.0 refl)))
implied false b p q = (λ e h. absurd (true≢false (sym (p.1 h))), λ f. refl)

-- a test decides that it passes
itself : (b : Bool) → Decides b (b ≡ true)
itself b = (λ e. e, λ e. e)

and_then : {P : Type 0} (a b : Bool) → Decides a P → Decides (a && b) (P × (b ≡ true))
and_then a b d = Decides-and a b d (itself b)

module _ (entries : List TxEntry) (rows : CatalogRows) (t : ℤ) where
  decides_kept : Decides (keeps_the_rules entries rows t) (KeepsTheRules entries rows t)
  decides_kept =
      Decides-like (keeps_the_rules entries rows t)
      (λ p. record { one_statement = p.0.0.0.0.0.0.0; tables = p.0.0.0.0.0.0.1; columns = p.0.0.0.0.0.1; order_of_changes = p.0.0.0.0.1; column_names = p.0.0.0.1; indexes = p.0.0.1; ids = p.0.1; table_names = p.1 })
      (λ k. (((((((k.one_statement, k.tables), k.columns), k.order_of_changes), k.column_names), k.indexes), k.ids), k.table_names))
      (and_then _ _ (and_then _ _ (and_then _ _ (and_then _ _ (and_then _ _ (and_then _ _ (and_then _ _ (itself (one_statement entries rows t)))))))))

  decides_version_kept : (last : Option Version) (v : Version) → Decides (version_keeps_the_rules entries rows t last v) (VersionKeepsTheRules entries rows t last v)
  decides_version_kept last v =
      Decides-like (version_keeps_the_rules entries rows t last v)
      (λ p. record { while_the_table_is_there = p }) (λ k. k.while_the_table_is_there)
      (itself (is_while_the_table_is_there entries rows t v))

module _ (i : Image) where
  -- ---- versions

  decides_rules : (x : TableVersion) → Decides (version_keeps_the_rules i.entries (rows_of_image i) (pos x.0.def.id) (last_before i x.0 x.1) x.1)
      (VersionKeepsTheRules i.entries (rows_of_image i) (pos x.0.def.id) (last_before i x.0 x.1) x.1)
  decides_rules x = decides_version_kept i.entries (rows_of_image i) (pos x.0.def.id) (last_before i x.0 x.1) x.1

  decides_version_rules : (x : TableVersion) → Decides (not (version_breaks_a_rule i x.0 x.1)) (VersionRulesHold i x)
  decides_version_rules x =
      implied (nat_lt columns_id x.0.def.id) (version_keeps_the_rules i.entries (rows_of_image i) (pos x.0.def.id) (last_before i x.0 x.1) x.1)
      (Decides-ltb columns_id x.0.def.id) (decides_rules x)

  pub version_rules_told : TellsLeast (on start_of table_event_cmp) (VersionRulesHold i) (λ x p. p ≡ at.Event x.0.def.id x.1.start.0 x.1.start.1) (versions_of_image i) (version_rule_fault i)
  unfolding version_rule_fault
  version_rules_told = starts_told (λ x. version_breaks_a_rule i x.0 x.1) (VersionRulesHold i) decides_version_rules (tables_in i)

  -- ---- tables

  decides_table_rules : (t : ℤ) → Decides (keeps_the_rules i.entries (rows_of_image i) t) (TableRulesHold i t)
  decides_table_rules t = decides_kept i.entries (rows_of_image i) t

  places_of_tables : Placed (λ (id : ℤ) (p : Place). p ≡ at.Table id) table_place
  places_of_tables = record { none = refl; at = λ id. at.Table id; some = λ id. refl; says = λ id. refl }

  pub table_rules_told : TellsLeast int_cmp (TableRulesHold i) (λ id p. p ≡ at.Table id) (ids_of_rows i) (table_rule_fault i)
  unfolding table_rule_fault
  table_rules_told =
      least_told int_cmp int_cmp_total (TableRulesHold i) (breaks_a_rule i)
      (λ t is. (decides_table_rules t).0 (not_true (keeps_the_rules i.entries (rows_of_image i) t) is))
      (λ t is. not_from_Decides (keeps_the_rules i.entries (rows_of_image i) t) (decides_table_rules t) (not_false (keeps_the_rules i.entries (rows_of_image i) t) is))
      (λ id p. p ≡ at.Table id) table_place (ids_of_rows i) places_of_tables
