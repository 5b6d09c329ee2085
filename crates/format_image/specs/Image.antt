-- The image of a journal.
use Rattle.std.specs.Prelude.{ℕ, List, map, drop}
use Rattle.sql_types.specs.declared.image.Image.{Image}
use Rattle.sql_types.specs.declared.journal.JournalItem.{JournalItem}
use Rattle.spec_model.specs.Catalog.{Tables, Defs, defs_of}
use Rattle.spec_model.specs.Create.{system_tables}
use Rattle.spec_model.specs.Journals.{cut, serial}
use Rattle.spec_model.specs.Script.{Reading}
use Rattle.spec_ledger.specs.Ledger.{blocks_of, entries_of}
use Rattle.format_image.specs.Rows.{table_rows}

-- the definitions of the tables of users, which stand behind those of the system
abbrev pub user_defs : Tables → Defs
user_defs tables = drop system_tables (defs_of tables)

module _ (h : List ℕ → List ℕ) (reads : Reading) where
  -- the database, the blocks of its journal, the entries in ledger order, and the definitions and rows of
  -- the tables to which the journal leads
  unfoldable pub image_of : List ℕ → List JournalItem → Image
  image_of database items =
      record {
        database = database;
        blocks = blocks_of h reads items;
        entries = entries_of h reads items;
        defs = user_defs (serial reads items);
        tables = map table_rows (serial reads items);
      }

  -- the image of a journal's first m items
  abbrev pub image_of_cut : List ℕ → List JournalItem → ℕ → Image
  image_of_cut database items m = image_of database (cut items m)
