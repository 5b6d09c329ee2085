-- Definitions and indexes: what is told of them.
use Rattle.std.proofs.Common.{◌≡◌, ◌+◌, ℤ, pos, ℕ, refl, sym, ap, subst, Bool, true, List, [], ◌∷◌, Option, Some, None}
use Rattle.std.proofs.lemmas.Bool.Decides.{Decides-and, Decides-int_eq, not_from_Decides}
use Rattle.std.specs.Bool.{Decides}
use Rattle.std.specs.Cmp.{int_cmp_total}
use Rattle.std.specs.Prelude.{◌&&◌, MatchOption}
use Rattle.std.specs.List.{list_any, zip}
use Rattle.std.specs.Ordering.{int_cmp, int_eq}
use Rattle.sql_types.specs.declared.image.Image.{Image}
use Rattle.sql_types.specs.declared.image.TableRows.{TableRows}
use Rattle.sql_types.specs.declared.table.IndexDef.{IndexDef}
use Rattle.sql_types.specs.declared.table.TableDef.{TableDef}
use Rattle.spec_model.specs.Catalog.{Defs}
use Rattle.spec_model.specs.Lists.{or_else}
use Rattle.spec_model.specs.Rows.{Row}
use Rattle.format_image.specs.Tables.{defs_in}
use Rattle.law_catalog_rows.specs.Differs.{is_encoded, is_wrong, encoding_fault}
use Rattle.spec_verify.specs.declared.place.Place.{Place}
use Rattle.spec_verify.specs.declared.place.Place.TheVariants as at
use Rattle.spec_verify.specs.Definitions.{table_place, base_rows, definition_fault}
use Rattle.spec_verify.specs.First.{unless, first_from}
use Rattle.spec_verify.specs.Indexes.{index_holds, table_fault, first_table, index_fault}
use Rattle.spec_verify.specs.Sentences.{IsEncodedAt, ids_of_tables, defs_and_rows, IndexHolds, IndexesHold, IsIndexFault}
use Rattle.spec_verify.specs.Told.{FailsFirst, TellsFirst, TellsLeast}
use Rattle.spec_verify.proofs.Deciding.{not_true, not_false, unless_told, Decides-any}
use Rattle.spec_verify.proofs.Firsts.{first_told}
use Rattle.spec_verify.proofs.Leasts.{Placed, least_told}

-- ---- definitions

module _ (i : Image) where
  abbrev first_rows : List Row
  first_rows = base_rows i.tables 0

  abbrev second_rows : List Row
  second_rows = base_rows i.tables 1

  abbrev found_at : ℤ → Bool
  found_at id = list_any (λ (d : TableDef). int_eq (pos d.id) id && is_encoded first_rows second_rows i.defs d) i.defs

  decides_spelled : (id : ℤ) → Decides (found_at id) (IsEncodedAt i id)
  decides_spelled id =
      Decides-any (λ (d : TableDef). int_eq (pos d.id) id && is_encoded first_rows second_rows i.defs d) (λ d. (pos d.id ≡ id) × (is_encoded first_rows second_rows i.defs d ≡ true))
      (λ d. Decides-and (int_eq (pos d.id) id) (is_encoded first_rows second_rows i.defs d) (Decides-int_eq (pos d.id) id) (λ e. e, λ e. e)) i.defs

  places_of_tables : Placed (λ (id : ℤ) (p : Place). p ≡ at.Table id) table_place
  places_of_tables = record { none = refl; at = λ id. at.Table id; some = λ id. refl; says = λ id. refl }

  pub definitions_told : TellsLeast int_cmp (IsEncodedAt i) (λ id p. p ≡ at.Table id) (ids_of_tables i) (definition_fault i)
  unfolding definition_fault encoding_fault
  definitions_told =
      least_told int_cmp int_cmp_total (IsEncodedAt i) (is_wrong first_rows second_rows i.defs)
      (λ id is. (decides_spelled id).0 (not_true (found_at id) is))
      (λ id is. not_from_Decides (found_at id) (decides_spelled id) (not_false (found_at id) is))
      (λ id p. p ≡ at.Table id) table_place (ids_of_tables i) places_of_tables

-- ---- indexes

indexes_told_of : (t : TableDef × TableRows) → MatchOption (table_fault t.0 t.1) (IndexesHold t) (λ p. (IndexesHold t → ⊥) × IsIndexFault t p)
indexes_told_of t = here (table_fault t.0 t.1)
    (first_told (λ g index. unless (index_holds t.0 t.1 g index) (at.Index t.0.id (g + 1))) (IndexHolds t) (λ g index p. p ≡ at.Index t.0.id (g + 1))
    (λ g index. unless_told (index_holds t.0 t.1 g index) (at.Index t.0.id (g + 1)) (λ e. e, λ e. e)) t.0.indexes)
  where
    some_fails : (g : ℕ) (index : IndexDef) → FailsFirst (IndexHolds t) t.0.indexes g index → IndexesHold t → ⊥
    some_fails g index f h = f.fails (subst (λ o. MatchOption o (Unit {0}) (IndexHolds t g)) f.there (h g))

    here : (found : Option Place) → TellsFirst (IndexHolds t) (λ g index p. p ≡ at.Index t.0.id (g + 1)) t.0.indexes found
        → MatchOption found (IndexesHold t) (λ p. (IndexesHold t → ⊥) × IsIndexFault t p)
    here None h = h
    here (Some p) h = (some_fails h.0 h.1 h.2, (h.0, h.1, h.2, h.3))

by_pairs : (defs : Defs) (tables : List TableRows) (n : ℕ) → first_table defs tables ≡ first_from (λ k (t : TableDef × TableRows). table_fault t.0 t.1) n (zip defs tables)
by_pairs [] tables n = refl
by_pairs (d ∷ ds) [] n = refl
by_pairs (d ∷ ds) (t ∷ ts) n = ap (or_else (table_fault d t)) (by_pairs ds ts (n + 1))

pub indexes_told : (i : Image) → TellsFirst (λ k t. IndexesHold t) (λ k t p. IsIndexFault t p) (defs_and_rows i) (index_fault i)
unfolding index_fault
indexes_told i =
    subst (λ found. TellsFirst (λ k t. IndexesHold t) (λ k t p. IsIndexFault t p) (defs_and_rows i) found) (sym (by_pairs (defs_in i) i.tables 0))
    (first_told (λ k (t : TableDef × TableRows). table_fault t.0 t.1) (λ k t. IndexesHold t) (λ k t p. IsIndexFault t p) (λ k t. indexes_told_of t) (defs_and_rows i))
