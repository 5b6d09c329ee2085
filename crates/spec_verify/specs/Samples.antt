-- Small images, for worked examples: a table t (id INT PRIMARY KEY, v INT) with an index on v, and a row.
use Rattle.std.specs.Prelude.{ℕ, true, false, List, [], ◌∷◌, ◌++◌, map, replicate, sum, take, drop, codes, Option, Some, None}
use Rattle.base_fields.specs.Fields.{u32_field}
use Rattle.sql_types.specs.declared.digest.HeldDigest.{HeldDigest}
use Rattle.sql_types.specs.declared.entry.BlockRecord.{BlockRecord}
use Rattle.sql_types.specs.declared.entry.TxEntry.{TxEntry}
use Rattle.sql_types.specs.declared.event.Event.{Event}
use Rattle.sql_types.specs.declared.image.Image.{Image}
use Rattle.sql_types.specs.declared.image.TableRows.{TableRows}
use Rattle.sql_types.specs.declared.journal.JournalItem.{JournalItem}
use Rattle.sql_types.specs.declared.journal.JournalItem.TheVariants.{Tx, Close}
use Rattle.sql_types.specs.declared.statement.Stmt.{Stmt}
use Rattle.sql_types.specs.declared.table.TableDef.{TableDef}
use Rattle.sql_types.specs.declared.version.TypedValue.{TypedValue}
use Rattle.sql_types.specs.declared.version.Version.{Version}
use Rattle.sql_value.specs.declared.column.ColumnDef.{ColumnDef}
use Rattle.sql_value.specs.declared.column.TableKind.TheVariants.{AppendOnly}
use Rattle.sql_value.specs.declared.sql_type.SqlType.{SqlType}
use Rattle.sql_value.specs.declared.sql_type.SqlType.TheVariants.{Int}
use Rattle.spec_model.specs.Rows.{Row, EventId, stored_row}
use Rattle.spec_model.specs.Create.{with_index}
use Rattle.spec_model.specs.SystemTables.{a_column, tables_columns, columns_columns, table_row, column_row, index_row}
use Rattle.test_samples.specs.Samples.{create_t, insert, index_on, num, def_t, typed, version}
use Rattle.format_image.specs.Blocks.{no_hash, block_of, record_hash, hash_at}
use Rattle.format_image.specs.Entries.{entry_of, placed}
use Rattle.format_image.specs.Rows.{Stored}
use Rattle.format_image.specs.Tables.{tables_with}
use Rattle.spec_model.specs.SystemTables.{tables_def, columns_def}
use Rattle.spec_verify.specs.Entries.{TableRoot}

-- a small hash of 32 bytes: zeros, and the sum of the bytes in the last 4
abbrev pub summed : List ℕ → List ℕ
summed bytes = replicate 28 0 ++ u32_field (sum bytes)

-- ---- statements and a journal

abbrev pub statements : List Stmt
statements =
    create_t ∷ index_on (codes "iv") (codes "t") (codes "v" ∷ [])
    ∷ insert (codes "t") ((num 1 ∷ num 10 ∷ []) ∷ []) ∷ []

-- each statement in a transaction of its own; a text is the number of a statement
abbrev pub alone : ℕ → ℕ → List ℕ → JournalItem
alone id n reply = Tx id (codes "a") 0 false ((n ∷ [], reply ++ 10 ∷ []) ∷ [])

abbrev pub items : List JournalItem
items = alone 1 0 (codes "made") ∷ alone 2 1 (codes "made") ∷ alone 3 2 (codes "1 rows") ∷ Close 3 ∷ []

-- ---- rows

abbrev pub named_u : TableDef → TableDef
named_u def =
    record {
      id = def.id;
      name = codes "u";
      kind = def.kind;
      gone = def.gone;
      history = def.history;
      view = def.view;
      columns = def.columns;
      dropped = def.dropped;
      indexes = def.indexes;
    }

abbrev pub def_iv : TableDef
def_iv = with_index def_t (record { name = codes "iv"; ordinals = 2 ∷ [] })

-- a system row as the base has it
abbrev pub system_version : List ColumnDef → Row → EventId → Version
system_version columns row start = record { values = stored_row columns row; start = start; end = None }

abbrev pub base_of : List Version → TableRows
base_of versions = record { base = versions; history = []; indexes = [] }

abbrev pub of_tables : TableRows
of_tables = base_of (system_version tables_columns (table_row def_t) (1, 0) ∷ [])

abbrev pub of_columns : TableRows
of_columns =
    base_of (
    system_version columns_columns (column_row 3 (1, a_column (codes "id") Int false 1)) (1, 1)
    ∷ system_version columns_columns (column_row 3 (2, a_column (codes "v") Int true 0)) (1, 2)
    ∷ system_version columns_columns (index_row 3 1 (codes "iv") (1, 2)) (2, 0)
    ∷ [])

-- the rows of t: base, history, and index
abbrev pub rows_t : List Version → List Version → List Stored → TableRows
rows_t base history index = record { base = base; history = history; indexes = index ∷ [] }

-- the index row of (id, v)
abbrev pub index_t : ℕ → ℕ → Stored
index_t id v = typed v ∷ typed id ∷ []

-- ---- images

-- the entries of these transactions, in one block, with the roots of these rows
abbrev pub made_of : List ℕ → TableDef → TableRows → Image
made_of ids def rows =
    let all = of_tables ∷ of_columns ∷ rows ∷ [] in
    let tables = tables_with (tables_def ∷ columns_def ∷ def ∷ []) all in
    let entries = placed 0 0 (map (λ id. entry_of summed tables id (codes "a") 0) ids) in
    record {
      database = codes "d";
      blocks = block_of summed 0 entries no_hash ∷ [];
      entries = entries;
      defs = def ∷ [];
      tables = all;
    }

abbrev pub honest : Image
honest = made_of (1 ∷ 2 ∷ 3 ∷ []) def_iv (rows_t (version 1 10 (3, 0) None ∷ []) [] (index_t 1 10 ∷ []))

-- the digest of an image's first block
abbrev pub digest_of : Image → HeldDigest
digest_of i = record { database = i.database; block = 0; hash = hash_at summed i.blocks 0 }

-- ---- damage

-- the image with the rows of another
abbrev pub with_rows_of : Image → Image → Image
with_rows_of i j =
    record { database = i.database; blocks = i.blocks; entries = i.entries; defs = i.defs; tables = j.tables }

-- the row is changed and its index left, with the roots of the change
abbrev pub index_left : Image
index_left = made_of (1 ∷ 2 ∷ 3 ∷ []) def_iv (rows_t (version 1 11 (3, 0) None ∷ []) [] (index_t 1 10 ∷ []))

-- two base rows have the key 1
abbrev pub key_twice : Image
key_twice =
    made_of (1 ∷ 2 ∷ 3 ∷ 4 ∷ []) def_iv
    (rows_t (version 1 10 (3, 0) None ∷ version 1 20 (4, 0) None ∷ []) [] (index_t 1 10 ∷ index_t 1 20 ∷ []))

-- a version is ended by the transaction before the one that starts it
abbrev pub ended_early : Image
ended_early = made_of (1 ∷ 2 ∷ 3 ∷ 4 ∷ []) def_iv (rows_t [] (version 1 10 (4, 0) (Some (3, 0)) ∷ []) [])

-- the definition has another name than its rows
abbrev pub misnamed : Image
misnamed =
    made_of (1 ∷ 2 ∷ 3 ∷ []) (named_u def_iv)
    (rows_t (version 1 10 (3, 0) None ∷ []) [] (index_t 1 10 ∷ []))

-- the id 3 stands three times
abbrev pub id_again : Image
id_again =
    made_of (1 ∷ 2 ∷ 3 ∷ 3 ∷ 3 ∷ []) def_iv
    (rows_t (version 1 10 (3, 0) None ∷ []) [] (index_t 1 10 ∷ []))

-- two rows are of transactions that have no entry
abbrev pub of_nobody : Image
of_nobody =
    made_of (1 ∷ 2 ∷ 3 ∷ []) def_iv
    (rows_t (version 1 10 (3, 0) None ∷ version 2 20 (98, 5) None ∷ version 3 30 (99, 0) None ∷ []) []
    (index_t 1 10 ∷ index_t 2 20 ∷ index_t 3 30 ∷ []))

-- the number of the first event of transaction 3 is 1
abbrev pub misnumbered : Image
misnumbered = made_of (1 ∷ 2 ∷ 3 ∷ []) def_iv (rows_t (version 1 10 (3, 1) None ∷ []) [] (index_t 1 10 ∷ []))

-- with these blocks in the place of its own
abbrev pub with_blocks : List BlockRecord → Image
with_blocks blocks =
    record {
      database = honest.database;
      blocks = blocks;
      entries = honest.entries;
      defs = honest.defs;
      tables = honest.tables;
    }

-- its entries in two blocks: these in block 0, and the last one in block 1
abbrev pub in_two : List TxEntry → Image
in_two first =
    let block_0 = block_of summed 0 first no_hash in
    let last = placed 1 0 (drop 2 honest.entries) in
    record {
      database = honest.database;
      blocks = block_0 ∷ block_of summed 1 last (record_hash summed block_0) ∷ [];
      entries = take 2 honest.entries ++ last;
      defs = honest.defs;
      tables = honest.tables;
    }

abbrev pub two_blocks : Image
two_blocks = in_two (take 2 honest.entries)

-- block 0 is of other entries, and block 1 stands behind it
abbrev pub older_block : Image
older_block = in_two (placed 0 0 (drop 1 honest.entries))

-- with these entries, in one block
abbrev pub with_entries : List TxEntry → Image
with_entries entries =
    record {
      database = honest.database;
      blocks = block_of summed 0 entries no_hash ∷ [];
      entries = entries;
      defs = honest.defs;
      tables = honest.tables;
    }

abbrev pub with_roots : List TableRoot → TxEntry → TxEntry
with_roots roots e =
    record {
      id = e.id;
      block = e.block;
      ordinal = e.ordinal;
      time = e.time;
      principal = e.principal;
      roots = roots;
    }

-- the last entry has these roots behind its own
abbrev pub root_more : List TableRoot → Image
root_more more =
    with_entries
    (take 2 honest.entries ++ map (λ (e : TxEntry). with_roots (e.roots ++ more) e) (drop 2 honest.entries))

-- the first entry, of the CREATE TABLE, has its root of table 1 alone
abbrev pub rootless : Image
rootless =
    with_entries
    (map (λ (e : TxEntry). with_roots (take 1 e.roots) e) (take 1 honest.entries) ++ drop 1 honest.entries)

-- the last entry is in no block yet
abbrev pub one_pending : Image
one_pending =
    record {
      database = honest.database;
      blocks = take 1 two_blocks.blocks;
      entries = two_blocks.entries;
      defs = honest.defs;
      tables = honest.tables;
    }

-- a digest that names another database
abbrev pub of_another : HeldDigest → HeldDigest
of_another d = record { database = codes "e"; block = d.block; hash = d.hash }

-- ---- rows that break a rule, with the roots that they make

-- the row of t has these values
abbrev pub with_values : Stored → Image
with_values values =
    made_of (1 ∷ 2 ∷ 3 ∷ []) def_iv
    (rows_t (record { values = values; start = (3, 0); end = None } ∷ []) [] (index_t 1 10 ∷ []))

abbrev pub typed_as : SqlType → ℕ → Option TypedValue
typed_as ty n = Some (record { ty = ty; value = num n })

-- t is append-only, and has a row that was ended
abbrev pub appended_and_ended : Image
appended_and_ended =
    made_of (1 ∷ 2 ∷ 3 ∷ 4 ∷ [])
    (record {
      id = def_iv.id;
      name = def_iv.name;
      kind = AppendOnly;
      gone = false;
      history = [];
      view = def_iv.view;
      columns = def_iv.columns;
      dropped = [];
      indexes = def_iv.indexes;
    })
    (rows_t [] (version 1 10 (3, 0) (Some (4, 0)) ∷ []) [])

-- transaction 5 stands before transaction 4, which ends its row
abbrev pub ids_fall : Image
ids_fall =
    made_of (1 ∷ 2 ∷ 5 ∷ 4 ∷ []) def_iv
    (rows_t (version 1 20 (4, 1) None ∷ []) (version 1 10 (5, 0) (Some (4, 0)) ∷ []) (index_t 1 20 ∷ []))

-- t has two rows, with these rows of its index
abbrev pub two_rows : List Stored → Image
two_rows index =
    made_of (1 ∷ 2 ∷ 3 ∷ []) def_iv
    (rows_t (version 1 20 (3, 0) None ∷ version 2 10 (3, 1) None ∷ []) [] index)

-- ---- what is covered

-- the start of a row (id, v) of t by transaction 3, its first event
abbrev pub start_t : ℕ → ℕ → Event
start_t id v =
    record {
      table = 3;
      tx = 3;
      seq = 0;
      ends = None;
      columns =
          record { ordinal = 1; ty = Int; value = num id }
          ∷ record { ordinal = 2; ty = Int; value = num v } ∷ [];
    }
