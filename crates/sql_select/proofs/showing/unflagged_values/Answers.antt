use Rattle.std.proofs.Common.{arith, ◌∙◌, inl, inr}
use Rattle.sql_parts.proofs.Zipped.{all_done}
use Rattle.sql_parts.proofs.Dropped.{no_flags_left, no_items_left}
use Rattle.sql_select.proofs.showing.unflagged_values.Goals as goal

pub returns : goal.returns
returns c =
    let left = c.loop-flag.flag-iterator in
    c.from_vec.ensures ∙ all_done _ _ _
    (elim c.in-None.ensures.steps [
      | inl ended ↦ no_flags_left left.a.rest.now left.b.rest.items (omega (arith, ended.1.0))
      | inr ended ↦ no_items_left left.a.rest.now left.b.rest.items (omega (arith, ended.1.0, left.b.rest.ok.0))
    ])
    c.loop-flag.invariant
