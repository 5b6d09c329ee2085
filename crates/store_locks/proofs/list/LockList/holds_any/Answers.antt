use Rattle.std.proofs.Common.{◌==◌, ◌∙◌, ap, ℕ, List}
use Rattle.std.specs.List.{list_any}
use Rattle.spec_model.specs.Holds.{holds_any}
use Rattle.store_locks.proofs.list.LockList.holds_any.Goals as goal

pub returns : goal.returns
returns c =
    let tx = c.args.tx in
    c.is_known.ensures ∙ (ap (λ (who : List ℕ). list_any (λ holder. holder == tx) who) c.deref.ensures.value ∙ (c.self.invariant.holders tx ∙ ap (λ holds. holds_any holds tx) c.self.view_is))
