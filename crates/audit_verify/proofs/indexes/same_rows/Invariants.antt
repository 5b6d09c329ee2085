use Rattle.std.proofs.Common.{◌≡◌, map, length}
use Rattle.spec_verify.specs.Indexes.{same_rows}
use Rattle.audit_verify.specs.Indexes.{row_at}
use Rattle.audit_verify.proofs.indexes.same_rows.Given as goal

abbrev pub invariant-each : goal.invariant-each
invariant-each l = same_rows l.rows (map (λ v. row_at l.ordinals v.now) l.versions) ≡ same_rows l.fn.rows (map (λ v. row_at l.ordinals v.now) l.fn.versions)

abbrev pub decreases-each : goal.decreases-each
decreases-each l = length l.rows
