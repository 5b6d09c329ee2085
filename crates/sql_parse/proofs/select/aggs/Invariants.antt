use Rattle.std.proofs.Common.{◌≡◌, ◌-◌}
use Rattle.spec_syntax.specs.Input.{list, list_from}
use Rattle.spec_syntax.specs.Select.{agg}
use Rattle.sql_parse.proofs.select.aggs.Given as goal

abbrev pub invariant-loop-turn : goal.invariant-loop-turn
invariant-loop-turn l = list agg l.fn.c ≡ list_from agg (l._turn-end - l._turn) l.found l.c
