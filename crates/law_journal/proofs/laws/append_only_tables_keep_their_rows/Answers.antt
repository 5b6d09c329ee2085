use Rattle.law_journal.proofs.AppendOnly.{statement_keeps_rows, script_keeps_rows}
use Rattle.law_journal.proofs.Serials.{legal_keeps_rows}
use Rattle.law_journal.proofs.laws.append_only_tables_keep_their_rows.Goals as goal

pub returns : goal.returns
returns c = record {
  statement = λ T tx seq stmt sound h. statement_keeps_rows T tx seq sound.ids h stmt;
  script = λ reads explicit T tx texts sound h. script_keeps_rows tx reads explicit T texts sound h;
  journal = λ reads items legal. legal_keeps_rows reads items legal;
}
