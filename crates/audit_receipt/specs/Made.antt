-- The receipt that an image gives of an entry.
use Rattle.std.specs.Prelude.{ℕ, zero, suc, ◌≡◌, ◌≤◌, ◌<◌, ◌==◌, nat_le, ◌&&◌, if◌then◌else◌, List, [], ◌∷◌, map, take, drop, Option, Some, None}
use Rattle.std.specs.List.{slice_get}
use Rattle.format_entry.specs.Entry.{entry_bytes}
use Rattle.sql_types.specs.declared.entry.BlockRecord.{BlockRecord}
use Rattle.sql_types.specs.declared.entry.TxEntry.{TxEntry}
use Rattle.sql_types.specs.declared.image.Image.{Image}
use Rattle.audit_extract.specs.Parts.{blocks_to}
use Rattle.audit_paths.specs.Path.{audit_path}
use Rattle.format_receipt.specs.declared.receipt.Receipt.{Receipt}
use Rattle.format_receipt.specs.Receipts.{IsReceipt}

-- of the entries that fall into these blocks, from the front, those of block j
abbrev pub part_at : List BlockRecord → List TxEntry → ℕ → List TxEntry
part_at [] entries j = []
part_at (r ∷ rs) entries zero = take r.size entries
part_at (r ∷ rs) entries (suc j) = part_at rs (drop r.size entries) j

-- the entry, the path of its place in the tree of its block, and the records from its block to block b
abbrev pub receipt_of : (List ℕ → List ℕ) → Image → TxEntry → ℕ → Receipt
receipt_of h i e b =
    record {
      database = i.database;
      entry = e;
      path = audit_path h e.ordinal (map entry_bytes (part_at i.blocks i.entries e.block));
      records = drop e.block (blocks_to i b);
    }

-- the first of these that is of a transaction and not behind this block
abbrev pub entry_of : ℕ → ℕ → List TxEntry → Option TxEntry
entry_of tx b [] = None
entry_of tx b (e ∷ es) = if e.id == tx && nat_le e.block b then Some e else entry_of tx b es

-- the receipt that the image gives of an entry of a transaction that isn't behind block b; it has a spelling
pub record IsMade (h : List ℕ → List ℕ) (i : Image) (tx b : ℕ) (r : Receipt) : Type 0 where
  pub place : ℕ
  pub entry : TxEntry
  pub first : entry_of tx b i.entries ≡ Some entry
  pub there : slice_get i.entries place ≡ Some entry
  pub of : entry.id ≡ tx
  pub within : entry.block ≤ b
  pub is : r ≡ receipt_of h i entry b
  pub spelled : IsReceipt r

-- no entry up to block b is of this transaction
abbrev pub HasNone : Image → ℕ → ℕ → Type 0
HasNone i tx b = (k : ℕ) (e : TxEntry) → slice_get i.entries k ≡ Some e → e.id ≡ tx → b < e.block
