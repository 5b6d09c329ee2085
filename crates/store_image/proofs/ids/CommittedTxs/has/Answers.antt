use Rattle.std.proofs.Common.{sym, ap, subst, ◌∙◌, ℕ, List}
use Rattle.std.specs.Prelude.{◌==◌}
use Rattle.std.specs.List.{list_any}
use Rattle.std.specs.List.Sorted.{IsNonDecreasing}
use Rattle.store_image.proofs.Found.{tells}
use Rattle.store_image.proofs.ids.CommittedTxs.has.Goals as goal

pub returns : goal.returns
returns c =
    c.is_ok.ensures.value
    ∙ tells c.deref.result.now c.args.id c.binary_search.result (subst IsNonDecreasing (sym c.deref.ensures.value) c.self.invariant) c.binary_search.ensures.position
    ∙ ap (λ (xs : List ℕ). list_any (λ n. n == c.args.id) xs) (c.deref.ensures.value ∙ c.self.view_is)
