use Rattle.std.proofs.Common.{ℕ, List, ◌≡◌, drop, map, filter}
use Rattle.std.specs.Prelude.{not}
use Rattle.std.specs.Ordering.{nat_cmp}
use Rattle.law_catalog_rows.specs.Least.{least, least_from}
use Rattle.spec_verify.specs.Entries.{TableRoot}
use Rattle.audit_roots.specs.WrongRoots.{is_shown}
use Rattle.audit_roots.proofs.leftover.least_strange.Given as goal

abbrev pub invariant-loop-root : goal.invariant-loop-root
invariant-loop-root l =
    let strange = λ (rs : List TableRoot). filter (λ (t : ℕ). not (is_shown l.tables t)) (map (λ (r : TableRoot). r.0) rs) in
    least_from nat_cmp l.best (strange (drop l.root-index l.roots)) ≡ least nat_cmp (strange l.roots)
