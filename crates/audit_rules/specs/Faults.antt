-- Tables about which the rows keep the rules of changes.
use Rattle.std.specs.Prelude.{ℕ, pos, List}
use Rattle.std.specs.List.{filter}
use Rattle.sql_types.specs.declared.entry.TxEntry.{TxEntry}
use Rattle.spec_rules.specs.Rows.{CatalogRows}
use Rattle.spec_rules.specs.Rules.{keeps_the_rules}

abbrev pub ids_right : List TxEntry → CatalogRows → List ℕ → List ℕ
ids_right entries rows ids = filter (λ n. keeps_the_rules entries rows (pos n)) ids
