-- The image of cells has a spelling.
use Rattle.std.proofs.Common.{◌≡◌, ◌<◌, ◌^◌, ◌++◌, ◌∙◌, ℕ, true, List, length, sym, ap, ap₂, subst, arith}
use Rattle.std.specs.List.{AllByRecursion}
use Rattle.base_types.specs.DatabaseName.{is_database_name}
use Rattle.sql_types.specs.JournalRules.{ItemRules}
use Rattle.sql_types.specs.declared.entry.BlockRecord.{BlockRecord}
use Rattle.sql_types.specs.declared.entry.TxEntry.{TxEntry}
use Rattle.sql_types.specs.declared.image.Image.{Image}
use Rattle.spec_model.specs.Catalog.{Tables}
use Rattle.spec_model.specs.Journals.{serial}
use Rattle.spec_syntax.specs.Text.{statement_of}
use Rattle.spec_ledger.specs.Ledger.{Ledger}
use Rattle.law_blocks.proofs.Staying.{blocks_counted}
use Rattle.law_blocks.proofs.Counting.{entries_counted}
use Rattle.format_image.specs.Image.{image_of}
use Rattle.format_image.specs.ImageBytes.{IsImage}
use Rattle.format_image_rows.specs.Room.{FitsImageFormat, TableFitsFormat}
use Rattle.spec_protocol.specs.Cells.{Cell, CatalogCell, LedgerCell}
use Rattle.law_server.specs.CellsImage.{tables_in_cells}
use Rattle.store_image.specs.Leads.{LeadsThere, image_with}

module _ (h : List ℕ → List ℕ) (cells : List Cell) (catalog : CatalogCell) (ledger : LedgerCell)
    (leads : LeadsThere h cells catalog ledger) (tables : Tables)
    (are : tables ≡ tables_in_cells cells catalog ledger) where
  lead_there : tables ≡ serial statement_of ledger.items
  lead_there = are ∙ leads.tables

  with_parts : Ledger → Tables → Image
  with_parts chain tables = image_with (record {
    database = ledger.database;
    block_size = ledger.block_size;
    items = ledger.items;
    next = ledger.next;
    chain = chain;
    issued = ledger.issued;
  }) tables

  of_journal : image_with ledger tables ≡ image_of h statement_of ledger.database ledger.items
  unfolding image_of with_parts
  of_journal = ap₂ with_parts leads.chain lead_there

  module _ (blocks_found : List BlockRecord) (entries_found : List TxEntry)
      (blocks_are : blocks_found ≡ ledger.chain.blocks)
      (entries_are : entries_found ≡ ledger.chain.closed ++ ledger.chain.pending)
      (few_blocks : length blocks_found < 2 ^ 64) (few_entries : length entries_found < 2 ^ 64)
      (database : is_database_name ledger.database ≡ true) (rules : AllByRecursion ItemRules ledger.items)
      (room : AllByRecursion TableFitsFormat tables) where
    pub has_room : FitsImageFormat h statement_of ledger.database ledger.items
    has_room = record {
      hash = leads.sized;
      database_name = database;
      rules = rules;
      blocks = omega (
        arith,
        few_blocks,
        ap length blocks_are,
        ap (λ (l : Ledger). length l.blocks) leads.chain,
        blocks_counted h statement_of ledger.items,
      );
      entries = omega (
        arith,
        few_entries,
        ap length entries_are,
        ap (λ (l : Ledger). length (l.closed ++ l.pending)) leads.chain,
        entries_counted h statement_of ledger.items,
      );
      tables = subst (AllByRecursion TableFitsFormat) lead_there room;
    }

    pub is_encodable : (image : Image) → image ≡ image_with ledger tables
        → (FitsImageFormat h statement_of ledger.database ledger.items
        → IsImage (image_of h statement_of ledger.database ledger.items))
        → IsImage image
    is_encodable image is spells = subst IsImage (sym (is ∙ of_journal)) (spells has_room)
