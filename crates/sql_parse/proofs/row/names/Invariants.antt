use Rattle.std.proofs.Common.{◌≡◌, ◌-◌}
use Rattle.spec_syntax.specs.Input.{list, list_from}
use Rattle.spec_syntax.specs.Expr.{name}
use Rattle.sql_parse.proofs.row.names.Given as goal

abbrev pub invariant-loop-turn : goal.invariant-loop-turn
invariant-loop-turn l = list name l.fn.c ≡ list_from name (l._turn-end - l._turn) l.found l.c
