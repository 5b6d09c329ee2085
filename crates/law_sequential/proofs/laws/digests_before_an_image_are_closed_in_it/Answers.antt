use Rattle.std.specs.Prelude.{List}
use Rattle.std.proofs.Common.{subst}
use Rattle.spec_history.specs.Facts.{Fact}
use Rattle.spec_history.specs.StepOrder.{Counted, ItemsInOrder}
use Rattle.law_sequential.proofs.ClosedBefore.{closed_before}
use Rattle.law_sequential.proofs.laws.digests_before_an_image_are_closed_in_it.Goals as goal

pub returns : goal.returns
returns g = λ q N lines X J rows legal order before after items is. closed_before N J 1 before after items legal.closings
    (subst (λ (gs : List Fact). ItemsInOrder N 0 0 J gs) is order.items)
    (subst (λ (gs : List Fact). Counted J 1 0 gs) is order.counted)
