use Rattle.law_asof.proofs.OwnRow.{databases_alike, kind_in_row_is, kind_told}
use Rattle.law_asof.proofs.laws.tables_are_told_by_their_rows.Goals as goal

pub returns : goal.returns
returns c = record { kind = kind_told; number = kind_in_row_is; databases = databases_alike }
