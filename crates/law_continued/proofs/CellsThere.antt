-- What lies in the cells with which a database goes on.
use Rattle.std.proofs.Common.{◌≡◌, ℕ, zero, suc, ◌+◌, ◌<◌, ◌≤◌, List, [], ◌∷◌, map, length, Option, Some, None, refl, sym, ap, ◌∙◌, subst, ⊎_elim, inl, inr, arith}
use Rattle.std.proofs.lemmas.Bool.{cases_lt, ne_eqb}
use mathlib.Core.Option.{some, none}
use lib.ListN.{get_elem?}
use Rattle.sql_types.specs.declared.journal.JournalItem.{JournalItem}
use Rattle.sql_types.specs.declared.table.IndexDef.{IndexDef}
use Rattle.sql_types.specs.declared.table.TableDef.{TableDef}
use Rattle.sql_types.specs.declared.version.Version.{Version}
use Rattle.spec_model.specs.Agreement.{IdsFrom}
use Rattle.spec_model.specs.Catalog.{Tables, defs_of, versions_of}
use Rattle.spec_model.specs.Keys.{key_places}
use Rattle.spec_history.specs.Lists.{Each}
use Rattle.spec_protocol.specs.Cells.{LedgerCell, TableCell, Index, Cell, Catalog, Ledger, Rows, AreCells, cell_of, holds_at, holds_found, holds_in, versions_at, versions_found}
use Rattle.spec_protocol.specs.Contents.{Contents, Known, contents, table_found}
use Rattle.spec_protocol.specs.Seats.{SeatState}
use Rattle.spec_protocol.specs.Server.{Server}
use Rattle.spec_protocol.specs.TablesAreSerial.{IsSortedProjection, StandsAs, def_at, ordinals_of}
use Rattle.law_continued.specs.Continued.{catalog_of, index_with, cell_with, table_cell, table_cells}
use Rattle.law_continued.proofs.Committed.{RowsOf, none_above}

module _ (T : Tables) (ledger : LedgerCell) where
  abbrev pub cells_are : List Cell
  cells_are = Catalog (catalog_of T) ∷ Ledger ledger ∷ table_cells T 32 3

  -- what is found there, if anything, is the cell of this table
  abbrev IsCell : ℕ → mathlib.Core.Option.Option Cell → Type 0
  IsCell id none = Unit {0}
  IsCell id (some c) = c ≡ Rows (table_cell T id)

  zero_plus : (k : ℕ) → 0 + k ≡ k
  zero_plus k = omega arith

  swap : (i id : ℕ) → i + suc id ≡ suc i + id
  swap i id = omega arith

  three : (i : ℕ) → i + 3 ≡ suc (suc (suc i))
  three i = omega arith

  all_cells : (n id i : ℕ) → IsCell (i + id) (get_elem? (table_cells T n id) i)
  all_cells zero id i = tt
  all_cells (suc n) id zero = subst (λ k. IsCell k (some (Rows (table_cell T id)))) (sym (zero_plus id)) refl
  all_cells (suc n) id (suc i) = subst (λ k. IsCell k (get_elem? (table_cells T n (suc id)) i)) (swap i id) (all_cells n (suc id) i)

  -- each is there, and no more
  one_there : (n id i : ℕ) → i < n → get_elem? (table_cells T n id) i ≡ some (Rows (table_cell T (i + id)))
  one_there zero id i l = absurd (omega (arith, l))
  one_there (suc n) id zero l = ap (λ k. some (Rows (table_cell T k))) (sym (zero_plus id))
  one_there (suc n) id (suc i) l = one_there n (suc id) i (omega (arith, l)) ∙ ap (λ k. some (Rows (table_cell T k))) (swap i id)

  none_there : (n id i : ℕ) → n ≤ i → get_elem? (table_cells T n id) i ≡ none
  none_there zero id i l = refl
  none_there (suc n) id zero l = absurd (omega (arith, l))
  none_there (suc n) id (suc i) l = none_there n (suc id) i (omega (arith, l))

  -- ---- no locks

  none_held : (id : ℕ) (o : mathlib.Core.Option.Option Cell) → IsCell id o → holds_found o ≡ []
  none_held id none e = refl
  none_held id (some c) e = ap holds_in e

  pub held_nowhere : (i : ℕ) → holds_at cells_are i ≡ []
  held_nowhere zero = refl
  held_nowhere (suc zero) = refl
  held_nowhere (suc (suc i)) = none_held (i + 3) (get_elem? (table_cells T 32 3) i) (all_cells 32 3 i)

  -- ---- the cells

  abbrev IsTable : ℕ → mathlib.Core.Option.Option Cell → Type 0
  IsTable id none = Unit {0}
  IsTable id (some c) = (t : TableCell) × (c ≡ Rows t) × (t.id ≡ id)

  is_table : (id : ℕ) (o : mathlib.Core.Option.Option Cell) → IsCell id o → IsTable id o
  is_table id none e = tt
  is_table id (some c) e = (table_cell T id, e, refl)

  tables_there : (i : ℕ) (c : Cell) → get_elem? (table_cells T 32 3) i ≡ some c → (t : TableCell) × (c ≡ Rows t) × (t.id ≡ suc (suc (suc i)))
  tables_there i c e = subst (λ id. IsTable id (some c)) (three i) (subst (λ o. IsTable (i + 3) o) e (is_table (i + 3) (get_elem? (table_cells T 32 3) i) (all_cells 32 3 i)))

  pub are_cells : AreCells cells_are (catalog_of T) ledger
  are_cells = record { count = refl; has_catalog = refl; has_ledger = refl; has_tables = tables_there }

  -- ---- versions

  user_cell : (m : ℕ) → cell_of (suc (suc (suc m))) ≡ suc (suc m)
  user_cell m = rw (ne_eqb (suc (suc (suc m))) 1 (λ e. omega (arith, e)), ne_eqb (suc (suc (suc m))) 2 (λ e. omega (arith, e))) (omega arith)

  module _ (ids : IdsFrom 1 (defs_of T)) (few : length (defs_of T) ≤ 34) where
    user_versions : (m : ℕ) → versions_found (suc (suc (suc m))) (get_elem? (table_cells T 32 3) m) ≡ versions_of T (suc (suc (suc m)))
    user_versions m = ⊎_elim
        (λ (l : m < 32). ap (versions_found (suc (suc (suc m)))) (one_there 32 3 m l) ∙ ap (versions_of T) (three m))
        (λ l. ap (versions_found (suc (suc (suc m)))) (none_there 32 3 m (omega (arith, l))) ∙ sym (none_above 1 T (suc (suc (suc m))) ids (omega (arith, l, few))))
        (cases_lt m 32)

    pub versions_are : (id : ℕ) → 1 ≤ id → versions_at cells_are id ≡ versions_of T id
    versions_are zero l = absurd (omega (arith, l))
    versions_are (suc zero) l = refl
    versions_are (suc (suc zero)) l = refl
    versions_are (suc (suc (suc m))) l = ap (λ (i : ℕ). versions_found (suc (suc (suc m))) (get_elem? cells_are i)) (user_cell m) ∙ user_versions m

  -- ---- tables

  module _ (v : Server) (k : Known) (seats : List SeatState) (J : List JournalItem) where
    abbrev c : Contents
    c = contents cells_are

    all_projections : (key : List ℕ) (vs : List Version) (is : List IndexDef) → Each (IsSortedProjection key vs) (map (index_with key vs) is)
    all_projections key vs [] = tt
    all_projections key vs (i ∷ is) = (refl, all_projections key vs is)

    same_ordinals : (key : List ℕ) (vs : List Version) (is : List IndexDef) → map (λ (x : Index). x.ordinals) (map (index_with key vs) is) ≡ ordinals_of is
    same_ordinals key vs [] = refl
    same_ordinals key vs (i ∷ is) = ap (λ (l : List (List ℕ)). i.ordinals ∷ l) (same_ordinals key vs is)

    stands_as : (id : ℕ) (vs : List Version) (o : Option TableDef) → RowsOf J o vs → StandsAs v c k seats (cell_with id vs o) o
    stands_as id vs None h = (h, refl, refl)
    stands_as id vs (Some def) h = record {
      key = inr refl;
      fit = h.fit;
      in_key_order = refl;
      keys_differ = h.keys;
      projections = all_projections (key_places def.columns) vs def.indexes;
      indexes = inl (same_ordinals (key_places def.columns) vs def.indexes);
    }

    module _ (rows : (id : ℕ) → RowsOf J (def_at (defs_of T) id) (versions_of T id)) where
      -- a table's cell stands
      abbrev pub Stands_there : mathlib.Core.Option.Option TableCell → Type 0
      Stands_there (some t) = StandsAs v c k seats t (def_at (defs_of T) t.id)
      Stands_there none = Unit {0}

      one_stands : (id : ℕ) (o : mathlib.Core.Option.Option Cell) → IsCell id o → Stands_there (table_found o)
      one_stands id none e = tt
      one_stands id (some d) e = subst (λ (x : Cell). Stands_there (table_found (some x))) (sym e) (stands_as id (versions_of T id) (def_at (defs_of T) id) (rows id))

      pub stands_at : (i : ℕ) → Stands_there (c.table i)
      stands_at zero = tt
      stands_at (suc zero) = tt
      stands_at (suc (suc i)) = one_stands (i + 3) (get_elem? (table_cells T 32 3) i) (all_cells 32 3 i)
