use Rattle.std.proofs.Common.{◌∙◌, sym, ap}
use Rattle.std.proofs.lemmas.List.{get_or_default}
use Rattle.sql_types.specs.declared.version.Version.{Version}
use Rattle.store_table.specs.Orders.{place_of}
use Rattle.store_table.proofs.Moves.{found_at_place}
use Rattle.store_table.proofs.index.place_of_live.Goals as goal

pub returns-in-Some : goal.returns-in-Some
returns-in-Some c =
    let key = c.args.key.now in
    let vs = c.args.versions.now in
    let v = c.index-versions-place.result in
    let is = c.index-versions-place.is in
    let is_live = ap (λ (w : Version). w.end) is ∙ c.requires.is_live v in
    λ d.
    found_at_place vs c.args.place v c.requires.within is c.args.index.now.ordinals key c.args.index.now.order.list c.requires.rising is_live c.requires.order
    c.in-Some.found c.in-Some.ensures
    ∙ ap (λ (w : Version). place_of c.args.index.now.ordinals key w vs) (sym (get_or_default vs c.args.place d v c.requires.within ∙ sym is))

pub returns-in-None : goal.returns-in-None
returns-in-None c =
    let key = c.args.key.now in
    let vs = c.args.versions.now in
    let v = c.index-versions-place.result in
    let is = c.index-versions-place.is in
    λ d.
    c.place_in_order.ensures.place ∙ ap (λ o. place_of o key v vs) c.as_slice-ordinals.ensures
    ∙ ap (λ (w : Version). place_of c.args.index.now.ordinals key w vs) (sym (get_or_default vs c.args.place d v c.requires.within ∙ sym is))
