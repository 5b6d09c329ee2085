use Rattle.std.proofs.Common.{◌∙◌, ap, subst}
use Rattle.spec_model.specs.InTheWay.{barrier}
use Rattle.store_locks.specs.Index.{Covers, picked}
use Rattle.store_locks.proofs.Indexes.{picked_barrier}
use Rattle.store_locks.proofs.list.LockList.barrier.Goals as goal

pub returns : goal.returns
returns c =
    let tx = c.args.tx in
    let request = c.args.request.now in
    let holds = c.self.inside.holds.items in
    let places = c.places_of-places.result.now in
    let covers : Covers holds request.item places = subst (λ l. Covers l request.item places) c.deref.ensures.value c.places_of-places.ensures.covers in
    c.barrier.ensures ∙ (ap (λ l. barrier (picked l places) tx request) c.deref-3.ensures.value ∙ (picked_barrier holds places tx request covers ∙ ap (λ l. barrier l tx request) c.self.view_is))
