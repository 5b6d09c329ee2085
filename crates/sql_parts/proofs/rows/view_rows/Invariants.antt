use Rattle.std.proofs.Common.{◌≡◌, ◌++◌, ◌∷◌, drop, flat_map}
use Rattle.spec_model.specs.Parts.{view_row_of_start, view_row_of_end}
use Rattle.sql_parts.proofs.rows.view_rows.Given as goal

abbrev pub invariant-loop-version : goal.invariant-loop-version
invariant-loop-version l =
    l.shown.items ++ flat_map (λ v. view_row_of_start l.declared v ∷ view_row_of_end l.declared v v.end) (drop l.version-index l.versions)
    ≡ flat_map (λ v. view_row_of_start l.declared v ∷ view_row_of_end l.declared v v.end) l.versions
