use Rattle.std.proofs.Common.{◌≡◌, ◌++◌}
use Rattle.spec_model.specs.Rows.{live}
use Rattle.format_image.specs.Rows.{ended_ones}
use Rattle.format_image_rows.proofs.tables.part.Given as goal

abbrev pub invariant-loop-version : goal.invariant-loop-version
invariant-loop-version l =
    (l.base.items ≡ l.fn.base.items ++ live l.yielded) × (l.history.items ≡ l.fn.history.items ++ ended_ones l.yielded)
