-- Orders that are made of all versions at once.
use Rattle.std.proofs.Common.{◌≡◌, ℕ, List, [], ◌∷◌, map, sym, ap, ap₂, ◌∙◌, refl}
use Rattle.std.specs.List.{AllByRecursion}
use Rattle.sql_types.specs.declared.table.IndexDef.{IndexDef}
use Rattle.sql_types.specs.declared.version.Version.{Version}
use Rattle.spec_model.specs.Rows.{EventId}
use Rattle.spec_model.specs.Runs.{Rising}
use Rattle.spec_continued.specs.Continued.{index_with}
use Rattle.store_table.specs.Kept.{AreOf, IsOf, index_seen, ordinals_of}
use Rattle.store_table.specs.Orders.{in_order, starts_of}
use Rattle.store_table.specs.Stored as stored
use Rattle.store_table.specs.Stored.{index_order, stored_with}
use Rattle.store_table.specs.declared.index.Index.{Index}
use Rattle.store_table.specs.declared.orders.Orders.{Orders}
use Rattle.store_table.proofs.Keeping.{index_order_is, live_starts}
use Rattle.store_table.proofs.Steps.{stored_of}

module _ (key : List ℕ) (vs : List Version) (rising : Rising vs) where
  indexes_built : (is : List Index) (defs : List IndexDef) → AllByRecursion (IsOf key vs) is → ordinals_of is ≡ map (λ d. d.ordinals) defs
      → map index_seen is ≡ map (index_with key vs) defs
  indexes_built [] [] of same = refl
  indexes_built [] (d ∷ ds) of same = cc
  indexes_built (i ∷ is) [] of same = cc
  indexes_built (i ∷ is) (d ∷ ds) of same =
      let one : i.ordinals ≡ d.ordinals = cc in
      let rest : ordinals_of is ≡ map (λ d. d.ordinals) ds = cc in
      ap₂ (λ (o : List EventId) (l : List stored.Index). record { ordinals = i.ordinals; order = o } ∷ l)
      (of.0 ∙ sym (index_order_is key i.ordinals vs rising)) (indexes_built is ds of.1 rest)
      ∙ ap (λ (ns : List ℕ). record { ordinals = ns; order = index_order key ns vs } ∷ map (index_with key vs) ds) one

  -- what contracts see of them
  pub stored_built : (o : Orders) (defs : List IndexDef) → AreOf key vs o → ordinals_of o.indexes.items ≡ map (λ d. d.ordinals) defs
      → stored_of key vs o ≡ stored_with key defs vs
  stored_built o defs are same =
      ap₂ (λ (l : List EventId) (is : List stored.Index). record { key = key; versions = vs; order = l; indexes = is })
      (are.are_indexed.in_key_order ∙ ap (λ (ns : List ℕ). starts_of (in_order ns key vs)) are.are_indexed.no_ordinals ∙ sym (live_starts key vs rising))
      (indexes_built o.indexes.items defs are.are_indexed.indexed same)
