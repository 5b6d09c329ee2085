use Rattle.std.proofs.Common.{ap, ap₂, ℕ, sym, subst, ◌≡◌, ◌∙◌, List, Some}
use Rattle.std.specs.Prelude.{slice_get}
use Rattle.std.specs.List.{prefix_len}
use Rattle.std.specs.Option.{option_copied}
use Rattle.sql_types.specs.declared.version.Version.{Version}
use Rattle.store_table.specs.Orders.{has_row_below, in_order, version_at}
use Rattle.store_table.specs.Stored.{Index, ReservedTable, rows_below}
use Rattle.store_table.proofs.OfKey.{counted_of}
use Rattle.store_table.proofs.version_store.VersionStore.index_place.Goals as goal

pub returns : goal.returns
returns c =
    let s = c.self.inside in
    let vs = s.versions.items in
    let x = c.index.result.now in
    let w = c.unwrap-version.result.now in
    let key = s.key.items in
    let found : version_at c.args.start vs ≡ Some w = ap (version_at c.args.start) (sym c.deref.ensures.value) ∙ sym c.version_at.ensures ∙ ap option_copied c.unwrap-version.ensures in
    let counts : c.rows_below.result ≡ prefix_len (has_row_below x.ordinals key w) (in_order x.ordinals key vs) =
    c.rows_below.ensures ∙ ap₂ (λ (k : List ℕ) (l : List Version). prefix_len (has_row_below x.ordinals k w) (in_order x.ordinals k l)) c.deref-2.ensures.value c.deref-3.ensures.value in
    subst (λ (t : ReservedTable). (i : Index) (v : Version) → slice_get t.stored.indexes c.args.index ≡ Some i → version_at c.args.start t.stored.versions ≡ Some v
    → c.rows_below.result ≡ rows_below t.stored.key i.ordinals v t.stored.versions)
    c.self.view_is
    (counted_of key vs s.orders.indexes.items c.args.index x w c.args.start c.rows_below.result c.index.ensures found counts)
