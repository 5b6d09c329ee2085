use Rattle.std.proofs.Common.{◌≡◌, ◌-◌}
use Rattle.spec_syntax.specs.Input.{list, list_from}
use Rattle.spec_syntax.specs.Select.{sort}
use Rattle.sql_parse.proofs.select.sorts.Given as goal

abbrev pub invariant-loop-turn : goal.invariant-loop-turn
invariant-loop-turn l = list sort l.fn.c ≡ list_from sort (l._turn-end - l._turn) l.found l.c
