-- What a commit adds.
use Rattle.std.specs.Prelude.{ℕ, List}
use Rattle.format_entry.specs.Entry.{TableRoot}
use Rattle.sql_types.specs.declared.entry.TxEntry.{TxEntry}

-- the entry of a transaction; it gets its place with the block
abbrev pub new_entry : ℕ → List ℕ → ℕ → List TableRoot → TxEntry
new_entry id session time roots =
    record { id = id; block = 0; ordinal = 0; time = time; principal = session; roots = roots }
