use Rattle.std.proofs.Common.{◌≡◌, ◌++◌, drop, map, filter_map}
use Rattle.spec_model.specs.Columns as spec_columns
use Rattle.sql_check.proofs.rows.columns_named.Given as goal

abbrev pub invariant-loop-name : goal.invariant-loop-name
invariant-loop-name l =
    map (λ c. c.now) l.listed.items ++ filter_map (spec_columns.column_of l.live) (drop l.name-index l.names)
    ≡ filter_map (spec_columns.column_of l.live) l.names
