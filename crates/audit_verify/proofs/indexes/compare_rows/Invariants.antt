use Rattle.std.proofs.Common.{◌≡◌, drop}
use Rattle.format_image.specs.Rows.{stored_cmp}
use Rattle.audit_verify.specs.Indexes.{row_at}
use Rattle.audit_verify.proofs.indexes.compare_rows.Given as goal

abbrev pub invariant-loop-ordinal : goal.invariant-loop-ordinal
invariant-loop-ordinal l =
    stored_cmp (row_at (drop l.ordinal-index l.ordinals) l.a) (row_at (drop l.ordinal-index l.ordinals) l.b)
    ≡ stored_cmp (row_at l.ordinals l.a) (row_at l.ordinals l.b)
