-- The ledger is legal.
use Rattle.std.specs.Prelude.{◌≡◌, ◌<◌, ◌≤◌}
use Rattle.spec_model.specs.Limits.{max_block}
use Rattle.spec_model.specs.Journals.{IsLegal}
use Rattle.spec_history.specs.Lists.{Each}
use Rattle.spec_history.specs.Journals.{blocks}
use Rattle.spec_history.specs.Digests.{Digest, IsDigest}
use Rattle.spec_protocol.specs.Server.{Server}
use Rattle.spec_protocol.specs.Cells.{LedgerCell}
use Rattle.law_blocks.specs.Ledger.{ledger_of}

-- a digest of a closed block of this cell's journal
pub record IsOfCell (v : Server) (cell : LedgerCell) (d : Digest) : Type 0 where
  pub closed : d.block < blocks cell.items
  pub is : IsDigest v.meaning cell.database cell.items d

pub record LedgerIsLegal (v : Server) (cell : LedgerCell) : Type 0 where
  -- the journal of the ledger's cell is legal
  pub legal : IsLegal v.reads cell.items
  -- and its entries, blocks, pending list and digests are those of the journal
  pub chain : cell.chain ≡ ledger_of v.hash v.reads cell.items
  pub digests : Each (IsOfCell v cell) cell.issued
  -- the block size is one that there may be
  pub some_size : 1 ≤ cell.block_size
  pub most_size : cell.block_size ≤ max_block
