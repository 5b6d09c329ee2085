use Rattle.law_journal.proofs.Scripts.{script_both}
use Rattle.law_journal.proofs.laws.scripts_keep.Goals as goal

pub returns : goal.returns
returns c = record {
  tables = λ place reads explicit T tx texts k d. (script_both place tx reads explicit T texts (k, d)).0;
  copies = λ place reads explicit T tx texts k d. (script_both place tx reads explicit T texts (k, d)).1;
}
