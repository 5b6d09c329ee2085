-- Visits of the ledger's cell: an id is drawn, an end is fixed, a block is closed, a digest is issued.
use Rattle.std.specs.Prelude.{ℕ, zero, suc, ◌≡◌, ◌+◌, ◌≤◌, ◌++◌, Bool, true, false, if◌then◌else◌, List, [], ◌∷◌, map, not, nat_le, Some, None}
use Rattle.std.specs.List.{filter, list_all}
use Rattle.sql_value.specs.declared.refusal.Refusal.TheVariants.{NothingCommitted, NoMemory}
use Rattle.sql_types.specs.declared.journal.JournalItem.{JournalItem}
use Rattle.sql_types.specs.declared.journal.JournalItem.TheVariants.{Tx, Close}
use Rattle.sql_types.specs.declared.reply.Reply.{Reply}
use Rattle.sql_types.specs.declared.reply.Reply.TheVariants as reply
use Rattle.sql_types.specs.declared.statement.Stmt.{Stmt}
use Rattle.sql_types.specs.declared.statement.Stmt.TheVariants as stmt
use Rattle.sql_types.specs.declared.table.TableDef.{TableDef}
use Rattle.spec_model.specs.Journals.{Line, tx_count}
use Rattle.spec_model.specs.ScriptRequests.{runs}
use Rattle.spec_history.specs.Lists.{Text}
use Rattle.spec_history.specs.Transactions.{unfixed, committed, ended}
use Rattle.spec_history.specs.Digests.{Digest, IsDigest}
use Rattle.spec_protocol.specs.Server.{Server}
use Rattle.spec_protocol.specs.Cells.{LedgerCell, pending_in, blocks_in}
use Rattle.spec_protocol.specs.Seats.{Tree, OpenTransaction, StatementProgress, begun, made, replied, answering, SessionStatus, inside, leaving, Session, session, SeatState}
use Rattle.spec_protocol.specs.OpenOnes.{script_so_far}
use Rattle.spec_protocol.specs.Moves.{new_transaction, ending, at_place, at_moment, sits, marking, InStatement, then_at}
use Rattle.std.specs.Ordering.{nat_cmp}
use Rattle.std.specs.declared.cmp.Ordering.{Ordering}
use Rattle.sql_types.specs.declared.entry.TxEntry.{TxEntry}
use Rattle.spec_model.specs.Lists.{sorted}
use Rattle.law_blocks.specs.TreeHash.{tree_hash}
use Rattle.law_blocks.specs.Ledger as of_journal

-- ---- an id

abbrev pub drawn : LedgerCell → LedgerCell
drawn c = record {
  database = c.database;
  block_size = c.block_size;
  items = c.items;
  next = c.next + 1;
  chain = c.chain;
  issued = c.issued;
}

-- BEGIN is answered its id; a table statement goes on as a transaction of its own
abbrev pub stage_with_id : Bool → ℕ → StatementProgress
stage_with_id true id = answering (reply.Begun id) None
stage_with_id false id = begun

abbrev pub AssignsIdFor : Bool → Stmt → Type 0
AssignsIdFor true st = st ≡ stmt.Begin
AssignsIdFor false st = runs false st ≡ true

-- no transaction is open
pub record AssignsId (v : Server) (explicit : Bool) (c : LedgerCell) (s : SeatState) (d : LedgerCell)
    (t : SeatState) : Type 0 where
  pub stands : InStatement v s
  pub at_begin : stands.stage ≡ begun
  pub none_open : stands.x.open_one ≡ None
  pub assigns_id_for : AssignsIdFor explicit stands.stmt
  pub cell : d ≡ drawn c
  pub seat : t ≡ then_at s stands (Some (new_transaction c.next explicit)) (stage_with_id explicit c.next)

-- ---- an end

-- COMMIT, or a transaction of its own that did all that it does; with its reply
abbrev pub Commits : Bool → Stmt → StatementProgress → Reply → Type 0
Commits true stmt.Commit begun r = r ≡ reply.NoOutput
Commits false st (replied q) r = r ≡ q
Commits false st (made def true) r = r ≡ reply.Made
Commits explicit st _ r = ⊥

abbrev pub is_empty : {A : Type 0} → List A → Bool
is_empty [] = true
is_empty (x ∷ xs) = false

-- it left no event
abbrev pub is_read_only : OpenTransaction → Bool
is_read_only o = list_all (λ t. is_empty t.leaves) o.trees

-- by table
abbrev pub by_table : Tree → Tree → Ordering
by_table t u = nat_cmp t.table u.table

-- the trees with a leaf, by rising table
abbrev pub with_leaves : List Tree → List Tree
with_leaves trees = sorted by_table (filter (λ t. not (is_empty t.leaves)) trees)

-- the root of a tree, with its table
abbrev pub root_of_tree : Server → Tree → ℕ × Text
root_of_tree v t = (t.table, tree_hash v.hash t.leaves)

-- the entry of a transaction, made of its trees; it gets its place with the block
abbrev pub entry_of_trees : Server → OpenTransaction → Text → ℕ → TxEntry
entry_of_trees v o name time =
    record {
      id = o.id;
      block = 0;
      ordinal = 0;
      time = time;
      principal = name;
      roots = map (root_of_tree v) (with_leaves o.trees);
    }

abbrev pub with_item : TxEntry → JournalItem → LedgerCell → LedgerCell
with_item entry item c = record {
  database = c.database;
  block_size = c.block_size;
  items = c.items ++ item ∷ [];
  next = c.next;
  chain = of_journal.commits entry c.chain;
  issued = c.issued;
}

-- a transaction that left an event is committed, with its script as an item of the journal
pub record CommitsNow (v : Server) (time : ℕ) (c : LedgerCell) (s : SeatState) (d : LedgerCell)
    (t : SeatState) : Type 0 where
  pub stands : InStatement v s
  pub o : OpenTransaction
  pub open_one : stands.x.open_one ≡ Some o
  pub unfixed : o.end ≡ unfixed
  pub reply : Reply
  pub commits : Commits o.explicit stands.stmt stands.stage reply
  pub acts : is_read_only o ≡ false
  pub cell : d ≡ with_item (entry_of_trees v o stands.x.transcript.session time)
      (Tx o.id stands.x.transcript.session time o.explicit (script_so_far stands.x o)) c
  pub seat : t ≡ marking (tx_count c.items + 1) (sits s (at_moment time
      (at_place (Some (ending (committed (tx_count c.items + 1)) (script_so_far stands.x o) o))
      (inside stands.text (answering reply None)) stands.x)))

-- how a transaction ends that isn't committed: true where a ROLLBACK or the session's end ends it; then its
-- script, and its place
pub data Ends (v : Server) (x : Session) (o : OpenTransaction) : Bool → List Line → SessionStatus → Type 0 where
  -- COMMIT, and it left no event
  commits_nothing : (text : Text) → o.explicit ≡ true → x.place ≡ inside text begun
      → v.reads text ≡ Some stmt.Commit → is_read_only o ≡ true
      → Ends v x o false o.script (inside text (answering reply.NoOutput None))
  rolls_back : (text : Text) → o.explicit ≡ true → x.place ≡ inside text begun
      → v.reads text ≡ Some (stmt.Rollback None) → Ends v x o true o.script
      (inside text (answering reply.NoOutput None))
  leaves : o.explicit ≡ true → x.place ≡ leaving → Ends v x o true o.script leaving
  -- a transaction of its own that did all that it does, and left no event
  did_nothing : (text : Text) (r : Reply) → o.explicit ≡ false → x.place ≡ inside text (replied r)
      → is_read_only o ≡ true → Ends v x o false (script_so_far x o) (inside text (answering r None))
  -- one whose statement was refused for a lock or for want of memory
  was_refused : (text : Text) (r : Reply) → o.explicit ≡ false → x.place ≡ inside text (answering r None)
      → Ends v x o false o.script (inside text (answering r None))
  -- one that memory refuses the commit, or the index
  lacks_memory : (text : Text) (r : Reply) → o.explicit ≡ false → x.place ≡ inside text (replied r)
      → Ends v x o false o.script (inside text (answering (reply.Refused NoMemory) None))
  lacks_index : (text : Text) (def : TableDef) (indexed : Bool) → o.explicit ≡ false
      → x.place ≡ inside text (made def indexed) → Ends v x o false o.script
      (inside text (answering (reply.Refused NoMemory) (Some def)))

-- the point is read: how many transactions the journal has
pub record ReadsPoint (v : Server) (c : LedgerCell) (s : SeatState) (t : SeatState) : Type 0 where
  pub x : Session
  pub role : s.role ≡ session x
  pub o : OpenTransaction
  pub open_one : x.open_one ≡ Some o
  pub unfixed : o.end ≡ unfixed
  pub back : Bool
  pub script : List Line
  pub place : SessionStatus
  pub ends : Ends v x o back script place
  pub seat : t ≡ marking (tx_count c.items) (sits s (at_place
      (Some (ending (ended (tx_count c.items) back) script o)) place x))

-- ---- blocks and digests

abbrev pub closed_by : (List ℕ → List ℕ) → ℕ → LedgerCell → LedgerCell
closed_by h k c = record {
  database = c.database;
  block_size = c.block_size;
  items = c.items ++ Close k ∷ [];
  next = c.next;
  chain = of_journal.closes h k c.chain;
  issued = c.issued;
}

-- the next block takes what is pending, at most the block size
abbrev pub next_block : LedgerCell → ℕ
next_block c = if nat_le c.block_size (pending_in c) then c.block_size else pending_in c

-- the first k pending entries, which are those of the next block
pub record Closes (v : Server) (k : ℕ) (c d : LedgerCell) : Type 0 where
  pub some : 1 ≤ pending_in c
  pub all : k ≡ next_block c
  pub cell : d ≡ closed_by v.hash k c

-- all that is pending, in blocks of the block size with the rest last; the number bounds the blocks
abbrev pub all_closed : (List ℕ → List ℕ) → ℕ → LedgerCell → LedgerCell
all_closed h zero c = c
all_closed h (suc n) c = if nat_le (pending_in c) 0 then c else all_closed h n
    (closed_by h (next_block c) c)

abbrev pub with_digest : Digest → LedgerCell → LedgerCell
with_digest g c = record {
  database = c.database;
  block_size = c.block_size;
  items = c.items;
  next = c.next;
  chain = c.chain;
  issued = c.issued ++ g ∷ [];
}

-- the digest statement closes all that is pending, and issues the digest of the newest block
pub record Issues (v : Server) (moment : ℕ) (c : LedgerCell) (s : SeatState) (d : LedgerCell)
    (t : SeatState) : Type 0 where
  pub stands : InStatement v s
  pub at_begin : stands.stage ≡ begun
  pub none_open : stands.x.open_one ≡ None
  pub asks : stands.stmt ≡ stmt.Digest
  pub digest : Digest
  pub newest : blocks_in (all_closed v.hash (pending_in c) c) ≡ digest.block + 1
  pub is : IsDigest v.meaning c.database (all_closed v.hash (pending_in c) c).items digest
  pub made : digest.made ≡ moment
  pub cell : d ≡ with_digest digest (all_closed v.hash (pending_in c) c)
  pub seat : t ≡ marking (tx_count c.items) (sits s (at_moment moment
      (at_place None (inside stands.text (answering (reply.Digest digest.block digest.hash) None)) stands.x)))

-- there is no block to issue a digest of
pub record LacksBlock (v : Server) (c : LedgerCell) (s : SeatState) (t : SeatState) : Type 0 where
  pub stands : InStatement v s
  pub at_begin : stands.stage ≡ begun
  pub none_open : stands.x.open_one ≡ None
  pub asks : stands.stmt ≡ stmt.Digest
  pub none : tx_count c.items ≡ 0
  pub seat : t ≡ then_at s stands None (answering (reply.Refused NothingCommitted) None)
