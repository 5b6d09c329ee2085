use Rattle.std.proofs.Common.{◌≡◌, map}
use Rattle.spec_syntax.specs.Table.{column_def}
use Rattle.sql_parse.proofs.table.column_defs.Given as goal

abbrev pub invariant-loop-column : goal.invariant-loop-column
invariant-loop-column l = l.defs ≡ map (column_def l.key) l.yielded
