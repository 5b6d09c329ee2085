use Rattle.std.specs.Prelude.{List, length}
use Rattle.std.proofs.Common.{subst}
use Rattle.spec_model.specs.Journals.{tx_count}
use Rattle.spec_history.specs.Facts.{Fact}
use Rattle.spec_history.specs.StepOrder.{Counted, ItemsInOrder}
use Rattle.law_behind.specs.Past.{since, unclosed}
use Rattle.law_sequential.proofs.ClosedBefore.{closed_behind}
use Rattle.law_sequential.proofs.behind.digests_behind_a_past_are_closed_in_later_images.Goals as goal

pub returns : goal.returns
returns g = λ q N past lines X J rows legal begins order before after items is. closed_behind N J past before after items begins legal.closings
    (subst (λ (gs : List Fact). ItemsInOrder N (unclosed past.items) (length past.items) (since past J) gs) is order.items)
    (subst (λ (gs : List Fact). Counted J past.next (tx_count past.items) gs) is order.counted)
