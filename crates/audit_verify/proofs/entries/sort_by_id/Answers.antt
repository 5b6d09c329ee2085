use Rattle.std.proofs.Common.{rules}
use Rattle.std.proofs.lemmas.List.Sorted.{answers_always, IsNonDecreasingBy-from_sort_by_key}
use Rattle.audit_verify.specs.Entries.{Placed}
use Rattle.audit_verify.proofs.EntryPlaces.{of_one_id}
use Rattle.audit_verify.proofs.entries.sort_by_id.Goals as goal

pub returns-clause-rise : goal.returns-clause-rise
returns-clause-rise c = IsNonDecreasingBy-from_sort_by_key (λ (p : Placed). p.0) _ c.in_ok-sort_by_key.ensures.sorted (λ a r q k. search rules)

pub returns-clause-same : goal.returns-clause-same
returns-clause-same c = λ id. of_one_id id _ _ (c.sort_by_key.ensures.stable (λ (p : Placed). p.0) (answers_always _ _ _ (λ f a r next called. search rules)) (id, 0))
