use Rattle.law_asof.proofs.Worked.{each}
use Rattle.law_asof.proofs.samples.altered_tables_are_told_as_they_were.Goals as goal

pub returns : goal.returns
returns c = record {
  nothing = each.0;
  created = each.1;
  inserted = each.2;
  added = each.3;
  inserted_more = each.4;
  dropped_column = each.5;
  dropped_table = each.6;
}
