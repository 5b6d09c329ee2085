use Rattle.law_journal.proofs.Keeping.{first_kept, first_described, statement_kept, statement_described}
use Rattle.law_journal.proofs.laws.statements_keep.Goals as goal

pub returns : goal.returns
returns c = record {
  first = first_kept;
  first_described = first_described;
  statement = λ place T tx seq stmt k d. statement_kept place tx seq T stmt k d;
  described = λ place T tx seq stmt k d. statement_described place tx seq T stmt k.sound.ids d;
}
