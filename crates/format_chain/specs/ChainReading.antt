-- Reading a chain from left to right.
use Rattle.std.specs.Prelude.{ℕ, List, codes}
use Rattle.base_fields.specs.Fields.{u8_field}
use Rattle.base_fields.specs.Forms.{database_at}
use Rattle.base_fields.specs.Readers.{Reader, after, both, mapped}
use Rattle.sql_types.specs.declared.entry.BlockRecord.{BlockRecord}
use Rattle.format_receipt.specs.ReceiptReading.{records_at}
use Rattle.format_chain.specs.declared.chain.Chain.{Chain}

-- the chain of these parts
abbrev pub chain_from : List ℕ × List BlockRecord → Chain
chain_from x = record { database = x.0; records = x.1 }

unfoldable pub chain_at : Reader Chain
chain_at = mapped chain_from (after (codes "LGCC") (after (u8_field 1) (both database_at records_at)))
