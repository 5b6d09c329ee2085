use Rattle.std.proofs.Common.{◌≡◌, ◌-◌}
use Rattle.spec_syntax.specs.Input.{fold, fold_from}
use Rattle.spec_syntax.specs.Table.{item_step}
use Rattle.sql_parse.proofs.column.items.Given as goal

abbrev pub invariant-loop-turn : goal.invariant-loop-turn
invariant-loop-turn l = fold item_step l.fn.found l.fn.c ≡ fold_from item_step (l._turn-end - l._turn) l.found l.c
