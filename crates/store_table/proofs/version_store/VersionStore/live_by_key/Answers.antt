use Rattle.std.proofs.Common.{ap, subst, ◌≡◌, ◌∙◌, filter_map, List}
use Rattle.std.specs.Prelude.{slice_range}
use Rattle.sql_types.specs.declared.version.Version.{Version}
use Rattle.spec_model.specs.Keys.{live_by_key_at}
use Rattle.store_table.specs.Orders.{starts_of, version_at}
use Rattle.store_table.specs.Stored.{ReservedTable}
use Rattle.store_table.proofs.ByKey.{live_of_key_found}
use Rattle.store_table.proofs.version_store.VersionStore.live_by_key.Goals as goal

pub returns : goal.returns
returns c =
    let s = c.self.inside in
    let vs = s.versions.items in
    let key = c.args.key.now in
    let stretch = c.live_stretch-stretch.result in
    c.in_ok-found.ensures
    ∙ ap (λ (l : List Version). filter_map (λ e. version_at e l) (slice_range s.orders.key_order.order.list stretch.first stretch.behind)) c.deref.ensures.value
    ∙ ap (filter_map (λ e. version_at e vs))
    (ap (λ (t : ReservedTable). slice_range t.stored.order stretch.first stretch.behind) c.self.view_is ∙ c.live_stretch-stretch.ensures)
    ∙ subst (λ (t : ReservedTable). filter_map (λ e. version_at e vs) (starts_of (live_by_key_at t.stored.key key t.stored.versions)) ≡ live_by_key_at t.stored.key key t.stored.versions) c.self.view_is
    (live_of_key_found s.key.items key vs c.self.invariant.0.rising)
