use Rattle.std.proofs.Common.{◌≡◌, ◌-◌}
use Rattle.spec_syntax.specs.Input.{list, list_from}
use Rattle.spec_syntax.specs.Row.{row}
use Rattle.sql_parse.proofs.row.rows.Given as goal

abbrev pub invariant-loop-turn : goal.invariant-loop-turn
invariant-loop-turn l = list row l.fn.c ≡ list_from row (l._turn-end - l._turn) l.found l.c
