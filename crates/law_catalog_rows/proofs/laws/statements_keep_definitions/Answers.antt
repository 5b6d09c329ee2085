use Rattle.law_catalog_rows.proofs.FormedAfter.{statement_formed}
use Rattle.law_catalog_rows.proofs.RowsAfter.{first_has_rows, statement_keeps_rows}
use Rattle.law_catalog_rows.proofs.WrittenAfter.{statement_written}
use Rattle.law_catalog_rows.proofs.laws.statements_keep_definitions.Goals as goal

pub returns : goal.returns
returns c = record {
  first = first_has_rows;
  rows = λ T tx seq stmt s f k h. statement_keeps_rows tx seq T stmt s.ids f k h;
  formed = λ T tx seq stmt s h. statement_formed tx seq T s.ids h stmt;
  written = λ T tx seq stmt s w h. statement_written tx seq T s.ids h stmt w;
}
