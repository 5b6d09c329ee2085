use Rattle.std.proofs.Common.{sym, ap, subst, ◌∙◌, ℕ, List}
use Rattle.std.specs.List.Sorted.{IsNonDecreasing}
use Rattle.spec_model.specs.Lists.{is_among}
use Rattle.audit_asof.proofs.Found.{tells}
use Rattle.audit_asof.proofs.earlier_txs.EarlierTxs.has.Goals as goal

pub returns : goal.returns
returns c =
    c.is_ok.ensures.value
    ∙ tells c.deref.result.now c.args.id c.binary_search.result (subst IsNonDecreasing (sym c.deref.ensures.value) c.self.invariant) c.binary_search.ensures.position
    ∙ ap (λ (xs : List ℕ). is_among xs c.args.id) (c.deref.ensures.value ∙ c.self.view_is)
