use Rattle.std.proofs.Common.{◌≤◌, ◌-◌, ◌∙◌, ap, arith, inl, inr, length}
use Rattle.std.specs.Prelude.{slice_set}
use Rattle.spec_model.specs.Effect.{with_def}
use Rattle.sql_reference.proofs.NewTables.{none_changed, one_changed}
use Rattle.sql_reference.proofs.altering.redefine.Goals.{then-id-eq0-via-then-id-eq0, then-id-eq0-via-else-id-eq0+then-len-id}
use Rattle.sql_reference.proofs.altering.redefine.Goals as goal

pub returns-then-id-eq0 : goal.returns-then-id-eq0
returns-then-id-eq0 c =
    let none = none_changed c.args.def.id (with_def c.args.def) c.args.tables.now.items c.requires in
    elim c.then-id-eq0.branch [
      | then-id-eq0-via-then-id-eq0 w ↦ none (inl (omega (arith, w.if-id-eq0.true)))
      | then-id-eq0-via-else-id-eq0+then-len-id w ↦ none (inr (omega (arith, w.if-len-id.true, w.len.ensures)))
    ]

pub returns : goal.returns
returns c =
    let tables = c.args.tables.now.items in
    let inside : c.args.def.id ≤ length tables = omega (arith, c.if-len-id.false, c.len.ensures) in
    ap (λ table. slice_set tables (c.args.def.id - 1) (with_def c.args.def table)) c.index_mut.ensures.value
    ∙ one_changed c.args.def.id (with_def c.args.def) tables c.index_mut.result.now c.requires c.if-id-eq0.false inside
