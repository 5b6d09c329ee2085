use Rattle.sql_types.specs.declared.journal.JournalItem.TheVariants.{Tx, Close}
use Rattle.spec_ledger.proofs.Adding.{one_more}
use Rattle.spec_ledger.proofs.laws.items_add_to_the_ledger.Goals as goal

pub returns : goal.returns
returns c = record {
  commit = λ h reads J id time session explicit lines. one_more h reads J (Tx id session time explicit lines);
  closing = λ h reads J k. one_more h reads J (Close k);
}
