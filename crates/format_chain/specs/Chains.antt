-- A chain of records: its one spelling in bytes.
use Rattle.std.specs.Prelude.{ℕ, ◌≡◌, ◌≤◌, ◌<◌, ◌^◌, true, List, ◌++◌, length, codes}
use Rattle.std.specs.List.{AllByRecursion}
use Rattle.base_types.specs.DatabaseName.{is_database_name}
use Rattle.base_fields.specs.Fields.{u8_field, short_field}
use Rattle.format_entry.specs.Record.{IsRecord}
use Rattle.format_receipt.specs.Receipts.{records_bytes}
use Rattle.format_chain.specs.declared.chain.Chain.{Chain}

-- `LGCC`, the number of the format, the database and the records
unfoldable pub chain_bytes : Chain → List ℕ
chain_bytes c = codes "LGCC" ++ (u8_field 1 ++ (short_field c.database ++ records_bytes c.records))

-- a chain that has a spelling
pub record IsChain (c : Chain) : Type 0 where
  pub database : is_database_name c.database ≡ true
  pub some : 1 ≤ length c.records
  pub count : length c.records < 2 ^ 64
  pub records : AllByRecursion IsRecord c.records
