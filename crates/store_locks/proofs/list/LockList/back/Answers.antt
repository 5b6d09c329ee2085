use Rattle.std.proofs.Common.{◌≡◌, ◌≤◌, ltb, take, length, ap, arith, rules}
use Rattle.std.specs.List.{filter}
use Rattle.std.proofs.lemmas.Fn.{filter_same}
use Rattle.spec_model.specs.Holds.{holds_any}
use Rattle.store_locks.proofs.Kept.{kept_back}
use Rattle.store_locks.proofs.list.LockList.back.Goals as goal

pub invariant_of-self : goal.invariant_of-self
invariant_of-self c =
    let k = c.args.holds in
    let old = c.self.inside in
    let le : k ≤ length old.holds.items = omega (arith, ap length c.self.view_is) in
    let places : c.retain.new.self.items ≡ filter (λ p. ltb p k) old.places.items =
    filter_same _ (λ p. ltb p k) _ (λ x b f call. search rules) _ _ c.retain.ensures.filtered in
    let holders : c.retain-2.new.self.items ≡ filter (holds_any (take k old.holds.items)) old.holders.items =
    filter_same _ (holds_any (take k old.holds.items)) _ (λ x b f call. search rules) _ _ c.retain-2.ensures.filtered in
    rw (c.truncate.ensures.items, places, holders) (kept_back old.holds.items old.places.items old.moved.items old.holders.items c.self.invariant k le)
