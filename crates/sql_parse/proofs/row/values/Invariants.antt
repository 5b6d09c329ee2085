use Rattle.std.proofs.Common.{◌≡◌, ◌-◌}
use Rattle.spec_syntax.specs.Input.{list, list_from}
use Rattle.spec_syntax.specs.Row.{value}
use Rattle.sql_parse.proofs.row.values.Given as goal

abbrev pub invariant-loop-turn : goal.invariant-loop-turn
invariant-loop-turn l = list value l.fn.c ≡ list_from value (l._turn-end - l._turn) l.found l.c
