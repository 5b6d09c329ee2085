use Rattle.std.proofs.Common.{arith, inl, inr}
use Rattle.audit_roots.proofs.Tables.{all_shown}
use Rattle.audit_roots.proofs.shown.shown_tables.Goals as goal

pub returns : goal.returns
returns c =
    let left = c.loop-def.def-iterator in
    all_shown c.args.image.now c.loop-def.tables.items left.a.rest.now left.b.rest.now c.requires.image c.loop-def.invariant.defs c.loop-def.invariant.rows
    (elim c.in-None.ensures.steps [
      | inl ended ↦ inl (omega (arith, ended.1.0))
      | inr ended ↦ inr (omega (arith, ended.1.0))
    ])
