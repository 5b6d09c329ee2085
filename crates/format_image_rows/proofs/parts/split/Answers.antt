use Rattle.std.proofs.Common.{ap, ◌∙◌, sym, ◌∷◌, [], length, arith}
use Rattle.std.proofs.lemmas.List.{length-map, map-append}
use Rattle.format_image.specs.Rows.{table_rows}
use Rattle.format_image_rows.proofs.UserDefs.{few_defs, more_defs}
use Rattle.format_image_rows.proofs.parts.split.Goals.{then-len-ge-SYSTEM_TABLES+in_ok-push, else-len-ge-SYSTEM_TABLES}
use Rattle.format_image_rows.proofs.parts.split.Goals as goal

pub loop-table-preserved-then-if-drop-2 : goal.loop-table-preserved-then-if-drop-2
loop-table-preserved-then-if-drop-2 c =
    let many = ap length c.loop-table.invariant.1 ∙ length-map c.loop-table.yielded table_rows in (
      elim c.if-len-ge-SYSTEM_TABLES.branch [
        | then-len-ge-SYSTEM_TABLES+in_ok-push w ↦
            ap (λ v. v.items) w.defs-is
            ∙ (rw (c.loop-table.invariant.0, c.in_ok-def.ensures.def) at w.in_ok-push.ensures.items)
            ∙ sym (more_defs c.loop-table.yielded c.in-Some.table (omega (arith, many, c.len.ensures, w.if-len-ge-SYSTEM_TABLES.true)))
        | else-len-ge-SYSTEM_TABLES w ↦
            ap (λ v. v.items) w.defs-is
            ∙ c.loop-table.invariant.0
            ∙ sym (few_defs c.loop-table.yielded c.in-Some.table (omega (arith, many, c.len.ensures, w.if-len-ge-SYSTEM_TABLES.false)))
      ],
      (rw (c.loop-table.invariant.1, c.in_ok-def.ensures.rows) at c.in_ok-push-2.ensures.items)
          ∙ sym (map-append table_rows c.loop-table.yielded (c.in-Some.table ∷ [])),
    )
