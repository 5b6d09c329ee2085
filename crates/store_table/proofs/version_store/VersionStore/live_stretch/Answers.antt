use Rattle.std.proofs.Common.{ap, ap₂, sym, ◌∙◌, List, [], ℕ, None, Some, Option}
use Rattle.std.specs.Prelude.{slice_range}
use Rattle.std.specs.List.{filter}
use Rattle.sql_types.specs.declared.version.Version.{Version}
use Rattle.spec_model.specs.Keys.{Key, live_by_key_at}
use Rattle.store_table.specs.Orders.{in_order, is_of_key, starts_of}
use Rattle.store_table.specs.Stored.{ReservedTable}
use Rattle.store_table.proofs.Keeping.{live_starts}
use Rattle.store_table.proofs.OfKey.{live_starts_of_key}
use Rattle.store_table.proofs.Stretches.{stretch_whole}
use Rattle.store_table.proofs.version_store.VersionStore.live_stretch.Goals as goal

pub returns-in-None : goal.returns-in-None
returns-in-None c =
    let s = c.self.inside in
    let order = s.orders.key_order.order.list in
    let kept = c.self.invariant.0 in
    ap (λ (t : ReservedTable). slice_range t.stored.order 0 c.len.result) (sym c.self.view_is)
    ∙ ap (λ (n : ℕ). slice_range order 0 n) c.len.ensures
    ∙ stretch_whole order
    ∙ kept.are.are_indexed.in_key_order
    ∙ ap (λ (ns : List ℕ). starts_of (in_order ns s.key.items s.versions.items)) kept.are.are_indexed.no_ordinals
    ∙ sym (live_starts s.key.items s.versions.items kept.rising)
    ∙ ap (λ (t : ReservedTable). starts_of (live_by_key_at t.stored.key None t.stored.versions)) c.self.view_is
    ∙ ap (λ (k : Option Key). starts_of (live_by_key_at c.args.self.now.stored.key k c.args.self.now.stored.versions)) (sym c.in-None.is)

pub returns-in-Some : goal.returns-in-Some
returns-in-Some c =
    let s = c.self.inside in
    let kept = c.self.invariant.0 in
    let stretch = c.key_range.result in
    ap (λ (t : ReservedTable). slice_range t.stored.order stretch.first stretch.behind) (sym c.self.view_is)
    ∙ c.key_range.ensures
    ∙ ap₂ (λ (k : List ℕ) (l : List Version). starts_of (filter (is_of_key k c.as_slice.result.now) (in_order [] k l))) c.deref.ensures.value c.deref-in-Some.ensures.value
    ∙ live_starts_of_key s.key.items c.as_slice.result.now s.versions.items kept.rising
    ∙ ap (λ (t : ReservedTable). starts_of (live_by_key_at t.stored.key (Some c.as_slice.result.now) t.stored.versions)) c.self.view_is
    ∙ ap (λ (k : Option Key). starts_of (live_by_key_at c.args.self.now.stored.key k c.args.self.now.stored.versions)) (ap Some c.as_slice.ensures ∙ sym c.in-Some.is)
