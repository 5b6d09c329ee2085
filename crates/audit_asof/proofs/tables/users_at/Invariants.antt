use Rattle.std.proofs.Common.{◌≡◌, ◌++◌}
use Rattle.spec_model.specs.Lists.{is_among}
use Rattle.audit_definitions.specs.DefinitionRows.{rows_in}
use Rattle.spec_asof.specs.DatabaseAt as spec
use Rattle.audit_asof.proofs.tables.users_at.Given as goal

abbrev pub invariant-loop-def : goal.invariant-loop-def
invariant-loop-def l =
    l.tables.items ++ spec.users_at (is_among l.txs) (rows_in l.first) (rows_in l.second) l.def-iterator.a.rest.items l.def-iterator.b.rest.items
    ≡ spec.users_at (is_among l.txs) (rows_in l.first) (rows_in l.second) l.fn.defs l.fn.rows.items
