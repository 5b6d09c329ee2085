use Rattle.std.proofs.Common.{ap, ap₂, sym, ◌∙◌, List, [], ℕ}
use Rattle.std.specs.List.{list_any}
use Rattle.sql_types.specs.declared.version.Version.{Version}
use Rattle.spec_model.specs.Keys.{has_live_row_at, key_at}
use Rattle.store_table.specs.Orders.{in_order, is_of_key, starts_of}
use Rattle.store_table.specs.Stored.{ReservedTable}
use Rattle.store_table.proofs.OfKey.{has_live_row_is}
use Rattle.store_table.proofs.version_store.VersionStore.has_key_of_row.Goals as goal

pub key_exists-requires-clause-order : goal.key_exists-requires-clause-order
key_exists-requires-clause-order c =
    let s = c.self.inside in
    let kept = c.self.invariant.0 in
    kept.are.are_indexed.in_key_order
    ∙ ap (λ (ns : List ℕ). starts_of (in_order ns s.key.items s.versions.items)) kept.are.are_indexed.no_ordinals
    ∙ ap₂ (λ (k : List ℕ) (l : List Version). starts_of (in_order [] k l)) (sym c.deref.ensures.value) (sym c.deref-2.ensures.value)

pub returns : goal.returns
returns c =
    let s = c.self.inside in
    let kept = c.self.invariant.0 in
    let row = c.args.row.now in
    c.key_exists.ensures
    ∙ ap₂ (λ (k : List ℕ) (l : List Version). list_any (is_of_key k (key_at k row)) (in_order [] k l)) c.deref.ensures.value c.deref-2.ensures.value
    ∙ sym (has_live_row_is s.key.items row s.versions.items)
    ∙ ap (λ (t : ReservedTable). has_live_row_at t.stored.key (key_at t.stored.key row) t.stored.versions) c.self.view_is
