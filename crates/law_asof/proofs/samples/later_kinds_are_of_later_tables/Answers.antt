use Rattle.law_asof.proofs.Worked.{with_kind}
use Rattle.law_asof.proofs.samples.later_kinds_are_of_later_tables.Goals as goal

pub returns : goal.returns
returns c = record { created = with_kind.0; inserted = with_kind.1; other_kind = with_kind.2 }
