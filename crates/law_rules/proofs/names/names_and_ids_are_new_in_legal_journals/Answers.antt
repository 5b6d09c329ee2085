use Rattle.law_rules.proofs.LegalNames.{tables_new, columns_new, ids_new}
use Rattle.law_rules.proofs.names.names_and_ids_are_new_in_legal_journals.Goals as goal

pub returns : goal.returns
returns c = record {
  tables = λ reads items written legal t. tables_new reads items written legal t;
  columns = λ reads items written legal def among. columns_new reads items written legal def among;
  ids = λ reads items written legal def among lt. ids_new reads items written legal def among lt;
}
