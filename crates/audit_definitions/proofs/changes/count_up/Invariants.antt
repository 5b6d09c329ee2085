use Rattle.std.proofs.Common.{◌≡◌, ◌+◌, drop}
use Rattle.law_catalog_rows.specs.Changes.{counts_up}
use Rattle.audit_definitions.proofs.changes.count_up.Given as goal

abbrev pub invariant-loop-place : goal.invariant-loop-place
invariant-loop-place l = counts_up (l.place + 1) (drop l.place l.changes) ≡ counts_up 1 l.changes
