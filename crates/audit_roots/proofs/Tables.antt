-- The tables of an image.
use Rattle.std.proofs.Common.{◌≡◌, ◌+◌, ◌⊎◌, inl, inr, suc, arith, refl, sym, ap, ap₂, ◌∙◌, List, [], ◌∷◌, ◌++◌, length, length-append, map, Bor}
use Rattle.std.proofs.lemmas.List.{append-nil, length-map}
use Rattle.std.specs.List.{AllByRecursion, All}
use Rattle.std.proofs.lemmas.List.Elements.{All-from_recursion}
use Rattle.sql_types.specs.declared.image.Image.{Image}
use Rattle.sql_types.specs.declared.image.TableRows.{TableRows}
use Rattle.sql_types.specs.declared.table.TableDef.{TableDef}
use Rattle.sql_types.specs.declared.version.Version.{Version}
use Rattle.spec_model.specs.Catalog.{Defs}
use Rattle.format_image.specs.ImageBytes.{IsImage, AreTables}
use Rattle.format_image.specs.RowBytes.{IsBaseRow, IsHistoryRow}
use Rattle.format_image.specs.Tables.{defs_in, tables_in, tables_with}
use Rattle.audit_roots.specs.declared.shown.ImageTable.{ImageTable}
use Rattle.audit_roots.specs.Marks.{HasEncodableValues, HaveEncodableValues}
use Rattle.audit_roots.specs.ImageTable.{def_of, rows_of, table_of, AreImageTables}

with_tables : (ts : List ImageTable) → tables_with (map def_of ts) (map rows_of ts) ≡ map table_of ts
with_tables [] = refl
with_tables (t ∷ ts) = ap (λ more. table_of t ∷ more) (with_tables ts)

pub are_tables : (ts : List ImageTable) (i : Image) → AreImageTables ts i → map table_of ts ≡ tables_in i
are_tables ts i s = sym (with_tables ts) ∙ ap₂ tables_with s.defs s.rows

-- ---- what the spelling of an image says of its tables

spelled_base : (vs : List Version) → AllByRecursion IsBaseRow vs → AllByRecursion HasEncodableValues vs
spelled_base [] a = tt
spelled_base (v ∷ vs) a = (a.0.values, spelled_base vs a.1)

spelled_history : (vs : List Version) → AllByRecursion IsHistoryRow vs → AllByRecursion HasEncodableValues vs
spelled_history [] a = tt
spelled_history (v ∷ vs) a = (a.0.values, spelled_history vs a.1)

spelled_each : (ts : List ImageTable) → AreTables (map def_of ts) (map rows_of ts) → AllByRecursion HaveEncodableValues ts
spelled_each [] a = tt
spelled_each (t ∷ ts) a = (
  record {
    base = All-from_recursion HasEncodableValues (rows_of t).base (spelled_base (rows_of t).base a.0.base.0.1);
    history = All-from_recursion HasEncodableValues (rows_of t).history (spelled_history (rows_of t).history a.0.history.0.1);
  },
  spelled_each ts a.1,
)

pub are_spelled : (ts : List ImageTable) (i : Image) → AreImageTables ts i → IsImage i → All HaveEncodableValues ts
are_spelled ts i s is = All-from_recursion HaveEncodableValues ts (spelled_each ts (rw (s.defs, s.rows) is.tables))

-- ---- gone through side by side

as_many : (ds : Defs) (rs : List TableRows) → AreTables ds rs → length ds ≡ length rs
as_many [] [] a = refl
as_many [] (r ∷ rs) a = absurd a
as_many (d ∷ ds) [] a = absurd a
as_many (d ∷ ds) (r ∷ rs) a = ap suc (as_many ds rs a.1)

none_left : {A : Type 0} (xs : List A) → length xs ≡ 0 → xs ≡ []
none_left [] e = refl
none_left (x ∷ xs) e = cc

pub all_shown : (i : Image) (ts : List ImageTable) (left : List (Bor TableDef)) (rest : List TableRows) → IsImage i
    → map def_of ts ++ map (λ (d : Bor TableDef). d.now) left ≡ defs_in i → map rows_of ts ++ rest ≡ i.tables
    → ((length left ≡ 0) ⊎ (length rest ≡ 0)) → AreImageTables ts i
all_shown i ts left rest is defs rows ended =
    let count : length (map def_of ts) + length left ≡ length (map rows_of ts) + length rest =
    sym (length-append (map def_of ts) (map (λ (d : Bor TableDef). d.now) left) ∙ ap (λ n. length (map def_of ts) + n) (length-map left (λ (d : Bor TableDef). d.now)))
    ∙ ap length defs ∙ as_many (defs_in i) i.tables is.tables ∙ sym (ap length rows) ∙ length-append (map rows_of ts) rest in
    let same : length (map def_of ts) ≡ length (map rows_of ts) = length-map ts def_of ∙ sym (length-map ts rows_of) in
    let no_left : length left ≡ 0 = elim ended [ inl e ↦ e | inr e ↦ omega (arith, count, same, e) ] in
    let no_rest : length rest ≡ 0 = omega (arith, count, same, no_left) in
    record {
      defs = sym (append-nil (map def_of ts)) ∙ ap (λ (l : List (Bor TableDef)). map def_of ts ++ map (λ (d : Bor TableDef). d.now) l) (sym (none_left left no_left)) ∙ defs;
      rows = sym (append-nil (map rows_of ts)) ∙ ap (λ (l : List TableRows). map rows_of ts ++ l) (sym (none_left rest no_rest)) ∙ rows;
    }
