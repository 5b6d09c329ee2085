use Rattle.std.proofs.Common.{◌∙◌, ap, subst}
use Rattle.std.specs.List.{list_any}
use Rattle.spec_model.specs.Holds.{answers, holds_request}
use Rattle.store_locks.specs.Index.{Covers, picked}
use Rattle.store_locks.proofs.Indexes.{picked_answers}
use Rattle.store_locks.proofs.list.LockList.holds_request.Goals as goal

pub returns : goal.returns
returns c =
    let tx = c.args.tx in
    let request = c.args.request.now in
    let holds = c.self.inside.holds.items in
    let places = c.places_of-places.result.now in
    let covers : Covers holds request.item places = subst (λ l. Covers l request.item places) c.deref.ensures.value c.places_of-places.ensures.covers in
    c.already_holds.ensures ∙ (ap (λ l. list_any (answers tx request) (picked l places)) c.deref-3.ensures.value ∙ (picked_answers holds places tx request covers ∙ ap (λ l. holds_request l tx request) c.self.view_is))
