use Rattle.std.proofs.Common.{◌≡◌, ◌-◌}
use Rattle.spec_syntax.specs.Input.{list, list_from}
use Rattle.spec_syntax.specs.Row.{assignment}
use Rattle.sql_parse.proofs.row.assignments.Given as goal

abbrev pub invariant-loop-turn : goal.invariant-loop-turn
invariant-loop-turn l = list assignment l.fn.c ≡ list_from assignment (l._turn-end - l._turn) l.found l.c
