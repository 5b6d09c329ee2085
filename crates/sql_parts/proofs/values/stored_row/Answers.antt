use Rattle.std.proofs.Common.{arith, ◌∙◌, inl, inr}
use Rattle.sql_parts.proofs.Zipped.{all_done, no_columns, no_values}
use Rattle.sql_parts.proofs.values.stored_row.Goals as goal

pub returns : goal.returns
returns c =
    let left = c.loop-column.column-iterator in
    c.from_vec.ensures ∙ all_done _ _ _
    (elim c.in-None.ensures.steps [
      | inl ended ↦ no_columns left.a.rest.now left.b.rest.items (omega (arith, ended.1.0))
      | inr ended ↦ no_values left.a.rest.now left.b.rest.items (omega (arith, ended.1.0, left.b.rest.ok.0))
    ])
    c.loop-column.invariant
