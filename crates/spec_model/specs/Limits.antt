-- Limits: how many there may be, and how long names may be.
use Rattle.std.specs.Prelude.{ℕ}
use Rattle.sql_types.specs.declared.journal.TheConstants.{MAX_BLOCK}

-- of a table
abbrev pub max_columns : ℕ
max_columns = 64

abbrev pub max_key_columns : ℕ
max_key_columns = 4

abbrev pub max_indexes : ℕ
max_indexes = 4

-- of an index
abbrev pub max_index_columns : ℕ
max_index_columns = 4

-- tables of users
abbrev pub max_tables : ℕ
max_tables = 32

-- savepoints in a transaction
abbrev pub max_savepoints : ℕ
max_savepoints = 64

-- rows in one VALUES
abbrev pub max_rows : ℕ
max_rows = 1000

-- bytes of the new name of a table, history, view, column or index
abbrev pub max_name_bytes : ℕ
max_name_bytes = 128

-- entries in a block
abbrev pub max_block : ℕ
max_block = MAX_BLOCK
