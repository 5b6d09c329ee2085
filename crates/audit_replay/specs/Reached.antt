-- How far the items of a journal have been run again.
use Rattle.std.specs.Prelude.{ℕ, ◌≡◌, ◌≤◌, ◌+◌, ◌++◌, ◌∷◌, [], List, length, map, true}
use Rattle.std.specs.List.{AllByRecursion}
use Rattle.sql_types.specs.declared.image.Image.{Image}
use Rattle.sql_types.specs.declared.journal.JournalItem.{JournalItem}
use Rattle.sql_types.specs.declared.journal.JournalItem.TheVariants.{Tx, Close}
use Rattle.sql_types.specs.JournalRules.{ItemRules, TxRules, is_block_size, ids_differ, closes_follow}
use Rattle.spec_model.specs.Catalog.{Tables}
use Rattle.spec_model.specs.Events.{events_of}
use Rattle.spec_model.specs.Journals.{IsLegal, IsOther, closed, tx_count, serial}
use Rattle.spec_model.specs.Script.{Reading}
use Rattle.law_events.specs.Room.{FitsLeaf}
use Rattle.spec_ledger.specs.Ledger.{Ledger, ledger_of}
use Rattle.store_blocks.specs.LedgerChain.{HashedLedger, KeepsHash}
use Rattle.format_image.specs.Image.{user_defs}
use Rattle.format_image.specs.Rows.{table_rows}
use Rattle.sql_reference.specs.Machine.{Machine, at_rest}
use Rattle.sql_reference.specs.Order.{InOrder}
use Rattle.sql_reference.specs.RunEnd.{run_end}
use Rattle.sql_reference.specs.declared.serial_machine.ReplayAgreement.TheVariants.{Differs}
use Rattle.audit_replay.specs.declared.running.RanAgain.{RanAgain}
use Rattle.audit_replay.specs.declared.running.ReplayErr.{ReplayErr}
use Rattle.audit_replay.specs.declared.running.ReplayErr.TheVariants as errors

-- the side rules of a journal's items
pub record KeepRules (items : List JournalItem) : Type 0 where
  pub each : AllByRecursion ItemRules items
  pub ids : ids_differ [] items ≡ true
  pub closes : closes_follow 0 items ≡ true

-- an item may come behind these by the side rules: no transaction before has its id, or so many are pending
abbrev pub MayFollow : List JournalItem → JournalItem → Type 0
MayFollow before (Tx id session time explicit lines) =
    TxRules id session time explicit lines × AllByRecursion (IsOther id) before
MayFollow before (Close k) = (is_block_size k ≡ true) × (closed before + k ≤ tx_count before)

-- each event of the transaction in these tables has a leaf, where it has room in one
abbrev pub HaveLeaves : ℕ → Tables → Type 0
HaveLeaves tx tables = AllByRecursion (λ t. AllByRecursion FitsLeaf (events_of tx t)) tables

-- these items are legal, and the machine and the books are where they lead
pub record Reached (h : List ℕ → List ℕ) (reads : Reading) (items : List JournalItem) (m : Machine)
    (b : HashedLedger) : Type 0 where
  pub legal : IsLegal reads items
  pub machine : m ≡ at_rest (serial reads items)
  pub order : InOrder m
  pub ledger : b.ledger ≡ ledger_of h reads items
  pub hash : KeepsHash h b

-- these items are legal, and this is where they lead
pub record LeadTo (h : List ℕ → List ℕ) (reads : Reading) (items : List JournalItem) (r : RanAgain) : Type 0 where
  pub legal : IsLegal reads items
  pub tables : r.tables.items ≡ serial reads items
  pub ledger : r.ledger_chain.ledger ≡ ledger_of h reads items
  pub hash : KeepsHash h r.ledger_chain

-- an image of these parts
abbrev pub image_from : List ℕ → Ledger → Tables → Image
image_from database l tables =
    record {
      database = database;
      blocks = l.blocks;
      entries = l.closed ++ l.pending;
      defs = user_defs tables;
      tables = map table_rows tables;
    }

-- the items before this one are legal, and it differs there
abbrev pub DiffersAt : Reading → ReplayErr → List JournalItem → Type 0
DiffersAt reads (errors.Differs place statement) items =
    (before : List JournalItem) × (i : JournalItem) × (rest : List JournalItem) × (items ≡ before ++ i ∷ rest)
    × (length before ≡ place) × IsLegal reads before
    × (run_end reads (serial reads before) i ≡ Differs statement)
DiffersAt reads errors.Memory items = Unit {0}
