use Rattle.std.proofs.Common.{sym, ◌∙◌, subst, ◌≤◌, length}
use Rattle.std.specs.Prelude.{nat_le}
use Rattle.store_tx.proofs.Sorting.{place_is, place_within}
use Rattle.store_tx.proofs.roots.place_of.Goals as goal

pub returns-clause-place : goal.returns-clause-place
returns-clause-place c = c.unwrap_or.ensures ∙ place_is (λ r. nat_le c.args.table r.0) c.args.roots.now c.first_behind.result c.first_behind.ensures

pub returns-clause-within : goal.returns-clause-within
returns-clause-within c = subst (λ n. n ≤ length c.args.roots.now)
    (sym (c.unwrap_or.ensures ∙ place_is (λ r. nat_le c.args.table r.0) c.args.roots.now c.first_behind.result c.first_behind.ensures))
    (place_within (λ r. nat_le c.args.table r.0) c.args.roots.now)
