use Rattle.std.proofs.Common.{ℕ, List, ◌≡◌, drop, map, filter}
use Rattle.std.specs.Prelude.{◌&&◌, not}
use Rattle.std.specs.Ordering.{nat_cmp}
use Rattle.law_catalog_rows.specs.Least.{least, least_from}
use Rattle.spec_verify.specs.Entries.{TableRoot, same_root, root_at}
use Rattle.audit_roots.specs.WrongRoots.{is_shown}
use Rattle.audit_roots.proofs.groups.least_in_tables.Given as goal

abbrev pub invariant-loop-root : goal.invariant-loop-root
invariant-loop-root l =
    let wrong = λ (rs : List TableRoot). filter (λ (t : ℕ). not (same_root (root_at l.a t) (root_at l.b t)) && is_shown l.tables t) (map (λ (r : TableRoot). r.0) rs) in
    least_from nat_cmp l.best (wrong (drop l.root-index l.a)) ≡ least nat_cmp (wrong l.a)
