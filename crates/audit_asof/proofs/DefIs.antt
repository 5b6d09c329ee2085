-- A definition that is told in two steps.
use Rattle.std.proofs.Common.{◌≡◌, pos, ap₂, ◌∙◌, List, Option}
use Rattle.std.specs.Prelude.{IfOk, Result, Ok, Err}
use Rattle.base_types.specs.declared.memory.Memory.{Memory}
use Rattle.sql_types.specs.declared.table.TableDef.{TableDef}
use Rattle.spec_model.specs.Rows.{Row}
use Rattle.law_catalog_rows.specs.Encoded.{about}
use Rattle.spec_asof.specs.DefTold.{def_told, items_told, last_row, table_told}

pub def_is : (first second : List Row) (def with_items : TableDef) (row : Option Row) (result : Result TableDef Memory) → row ≡ last_row 0 (pos def.id) (about (pos def.id) first)
    → with_items ≡ items_told (about (pos def.id) second) def
    → IfOk result (λ told. told ≡ table_told row with_items) → IfOk result (λ told. told ≡ def_told first second def)
unfolding def_told
def_is first second def with_items row (Ok told) e f h = h ∙ ap₂ table_told e f
def_is first second def with_items row (Err e) g f h = h
