use Rattle.std.proofs.Common.{◌≡◌, ◌<◌, ◌∙◌, Some, get_or, length, sym, refl}
use Rattle.std.specs.List.{slice_get}
use Rattle.std.proofs.lemmas.Option.{slice_get_read}
use Rattle.spec_model.specs.Holds.{answers}
use Rattle.store_locks.proofs.Barriers.{answers_more, answers_there}
use Rattle.store_locks.proofs.conflict.already_holds.Goals as goal

pub returns-then-answers : goal.returns-then-answers
returns-then-answers c =
    let holds = c.args.holds.now in
    let places = c.args.places.now in
    let i = c.loop-place.place-index in
    let h = c.index-holds-place.result in
    let within : get_or places i 0 < length holds = c.requires i 0 c.loop-place-test.true in
    let at : slice_get holds (get_or places i 0) ≡ Some h = slice_get_read holds (length holds) (get_or places i 0) h refl within c.index-holds-place.is in
    sym (answers_there holds places i h (answers c.args.tx c.args.request.now) c.loop-place-test.true at (sym c.answers.ensures ∙ c.if-answers.true))

pub loop-place-preserved : goal.loop-place-preserved
loop-place-preserved c =
    let holds = c.args.holds.now in
    let places = c.args.places.now in
    let i = c.loop-place.place-index in
    let h = c.index-holds-place.result in
    let within : get_or places i 0 < length holds = c.requires i 0 c.loop-place-test.true in
    let at : slice_get holds (get_or places i 0) ≡ Some h = slice_get_read holds (length holds) (get_or places i 0) h refl within c.index-holds-place.is in
    answers_more holds places i h (answers c.args.tx c.args.request.now) c.loop-place-test.true at c.loop-place.invariant (sym c.answers.ensures ∙ c.if-answers.false)
