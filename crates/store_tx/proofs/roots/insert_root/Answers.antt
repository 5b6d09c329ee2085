use Rattle.std.proofs.Common.{ap, ◌∙◌}
use Rattle.std.specs.Prelude.{nat_le}
use Rattle.std.specs.List.{insert, position_or_len}
use Rattle.store_tx.specs.Roots.{Root}
use Rattle.store_tx.proofs.Sorting.{insert_is}
use Rattle.store_tx.proofs.roots.insert_root.Goals as goal

pub returns : goal.returns
returns c = c.in_ok-insert.ensures.items
    ∙ ap (λ n. insert c.args.roots.now.items n c.args.root) (c.place_of-place.ensures.place ∙ ap (position_or_len (λ r. nat_le c.args.root.0 r.0)) c.deref.ensures.value)
    ∙ insert_is (λ (r : Root). r.0) c.args.root c.args.roots.now.items
