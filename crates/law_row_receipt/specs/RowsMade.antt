-- The receipts of rows that an image gives.
use Rattle.std.specs.Prelude.{ℕ, List}
use Rattle.sql_types.specs.declared.entry.TxEntry.{TxEntry}
use Rattle.sql_types.specs.declared.event.Event.{Event}
use Rattle.sql_types.specs.declared.image.Image.{Image}
use Rattle.sql_types.specs.declared.version.Table.{Table}
use Rattle.format_event.specs.Leaf.{event_bytes}
use Rattle.spec_ledger.specs.Entries.{leaves_of}
use Rattle.audit_paths.specs.Path.{audit_steps}
use Rattle.format_row_receipt.specs.declared.row_receipt.RowReceipt.{RowReceipt}
use Rattle.format_row_receipt.specs.declared.table_receipt.TableReceipt.{TableReceipt}
use Rattle.audit_receipt.specs.Made.{receipt_of}

-- of all events of an entry's transaction in a table, under the digest of block b
abbrev pub table_receipt_of : (List ℕ → List ℕ) → Image → TxEntry → Table → ℕ → TableReceipt
table_receipt_of h i e t b = record { receipt = receipt_of h i e b; leaves = leaves_of e.id t }

-- of event n of these, from 0
abbrev pub row_receipt_of : (List ℕ → List ℕ) → Image → TxEntry → Table → ℕ → Event → ℕ → RowReceipt
row_receipt_of h i e t n event b =
    record {
      receipt = receipt_of h i e b;
      leaf = event_bytes event;
      steps = audit_steps h n (leaves_of e.id t);
    }
