use Rattle.std.proofs.Common.{◌≡◌, ◌∙◌, ap, sym, subst, ℕ, List, map, Option, Some, None}
use Rattle.sql_types.specs.declared.version.Table.{Table}
use Rattle.spec_model.specs.Keys.{Key, key_places, live_by_key, live_by_key_at}
use Rattle.audit_asof.specs.KeyOrder.{ArePlacesOf}
use Rattle.audit_asof.proofs.KeyOrder.{places_are}
use Rattle.audit_asof.proofs.opened_table.OpenedTable.live_places.Goals as goal

pub returns-in-None : goal.returns-in-None
returns-in-None c =
    let s = c.self.inside in
    let vs = s.table.versions in
    let places = c.deref-in-None.result.now in
    subst (λ (t : Table). ArePlacesOf t.versions places (live_by_key t.def.columns c.args.key.now t.versions)) c.self.view_is
    (places_are s.key.items vs places (c.deref-in-None.ensures.value ∙ c.self.invariant.1)
    ∙ ap (λ (key : List ℕ). map Some (live_by_key_at key None vs)) c.self.invariant.0
    ∙ ap (λ (k : Option Key). map Some (live_by_key_at (key_places s.table.def.columns) k vs)) (sym c.in-None.is))
