-- The tables that the image of a legal journal shows are those to which the journal leads, filled, each with its base in front
-- of its history.
use Rattle.std.proofs.Common.{◌≡◌, ℕ, refl, ap, ◌∙◌, List, [], ◌∷◌, ◌++◌, map}
use Rattle.sql_types.specs.declared.journal.JournalItem.{JournalItem}
use Rattle.sql_types.specs.declared.version.Table.{Table}
use Rattle.spec_model.specs.Catalog.{Tables, defs_of}
use Rattle.spec_model.specs.Journals.{serial, IsLegal}
use Rattle.spec_model.specs.Rows.{live}
use Rattle.spec_model.specs.Script.{Reading}
use Rattle.spec_model.specs.SystemTables.{tables_def, columns_def}
use Rattle.law_catalog_rows.specs.Formed.{AreInFront}
use Rattle.format_image.specs.Image.{user_defs, image_of}
use Rattle.format_image.specs.Rows.{ended_ones, filled_table, table_rows}
use Rattle.format_image.specs.Tables.{tables_with, defs_in, tables_in}
use Rattle.law_catalog_rows.proofs.Journals.{legal_described}

-- the same table, its base in front of its history
abbrev pub in_parts : Table → Table
in_parts t = record { def = t.def; versions = live t.versions ++ ended_ones t.versions }

all_in_parts : (T : Tables) → tables_with (defs_of T) (map table_rows T) ≡ map in_parts (map filled_table T)
unfolding table_rows
all_in_parts [] = refl
all_in_parts (t ∷ ts) = ap (λ (us : Tables). in_parts (filled_table t) ∷ us) (all_in_parts ts)

pub all_defs : (T : Tables) → AreInFront (defs_of T) → tables_def ∷ columns_def ∷ user_defs T ≡ defs_of T
all_defs [] front = absurd front
all_defs (a ∷ []) front = absurd front
all_defs (a ∷ b ∷ ts) front = rw (front.0, front.1) refl

module _ (h : List ℕ → List ℕ) (reads : Reading) (database : List ℕ) (items : List JournalItem) (legal : IsLegal reads items) where
  pub in_front : AreInFront (defs_of (serial reads items))
  in_front = (legal_described reads items legal).1.system

  pub defs_shown : defs_in (image_of h reads database items) ≡ defs_of (serial reads items)
  unfolding image_of
  defs_shown = all_defs (serial reads items) in_front

  pub tables_shown : tables_in (image_of h reads database items) ≡ map in_parts (map filled_table (serial reads items))
  unfolding image_of
  tables_shown = ap (λ ds. tables_with ds (map table_rows (serial reads items))) defs_shown ∙ all_in_parts (serial reads items)
