use Rattle.std.proofs.Common.{arith, ap, sym, ◌∙◌, inl, inr, Ok}
use Rattle.sql_parts.proofs.InTurn.{map_after_done}
use Rattle.sql_parts.proofs.Zipped.{first_ended, second_ended}
use Rattle.sql_change.proofs.setting.values_set.Goals as goal

pub returns : goal.returns
returns c =
    let left = c.loop-column.column-iterator in
    map_after_done _ _ _ _
    (elim c.in-None.ensures.steps [
      | inl ended ↦ first_ended left.a.rest.now left.b.rest.items (omega (arith, ended.1.0))
      | inr ended ↦ second_ended left.a.rest.now left.b.rest.items (omega (arith, ended.1.0, left.b.rest.ok.0))
    ])
    c.loop-column.invariant
    ∙ ap Ok (sym c.from_vec.ensures)
