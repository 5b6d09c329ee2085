use Rattle.std.proofs.Common.{◌≡◌, ◌+◌, ◌==◌, drop, length}
use Rattle.law_catalog_rows.specs.Encoded.{latest_item_rows, rows_of_indexes}
use Rattle.audit_definitions.proofs.items.are_so_many.Given as goal

abbrev pub invariant-loop-index : goal.invariant-loop-index
invariant-loop-index l =
    (l.left == length (rows_of_indexes l.def.id (l.index-index + 1) (drop l.index-index l.def.indexes))) ≡ (l.count == length (latest_item_rows l.def))
