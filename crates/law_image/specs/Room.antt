-- Journals whose image has room in the format: what no number of the definitions limits.
use Rattle.std.specs.Prelude.{ℕ, ◌≡◌, ◌<◌, ◌^◌, true, List, length, IfSome}
use Rattle.std.specs.List.{AllByRecursion}
use Rattle.base_types.specs.DatabaseName.{is_database_name}
pub use Rattle.format_event.specs.TypedBytes.{IsUtf8Text}
use Rattle.sql_types.specs.JournalRules.{ItemRules}
use Rattle.sql_types.specs.declared.journal.JournalItem.{JournalItem}
use Rattle.sql_types.specs.declared.version.Table.{Table}
use Rattle.sql_types.specs.declared.version.Version.{Version}
use Rattle.spec_model.specs.Journals.{serial, tx_count}
use Rattle.spec_model.specs.Script.{Reading}
use Rattle.law_blocks.specs.Journals.{blocks}

-- 8 bytes can tell the number of its start, and of its end if it has one, and its texts are UTF-8
pub record VersionFitsFormat (v : Version) : Type 0 where
  pub start : v.start.1 < 2 ^ 64
  pub end : IfSome v.end (λ e. e.1 < 2 ^ 64)
  pub texts : AllByRecursion IsUtf8Text v.values

pub record TableFitsFormat (t : Table) : Type 0 where
  pub count : length t.versions < 2 ^ 64
  pub each : AllByRecursion VersionFitsFormat t.versions

-- Hashes have 32 bytes; the database and each item keep the side rules of journals; 8 bytes can tell how many
-- blocks and entries there are; and each table that it leads to has room.
pub record FitsImageFormat (h : List ℕ → List ℕ) (reads : Reading) (database : List ℕ)
    (items : List JournalItem) : Type 0 where
  pub hash : (bytes : List ℕ) → length (h bytes) ≡ 32
  pub database_name : is_database_name database ≡ true
  pub rules : AllByRecursion ItemRules items
  pub blocks : blocks items < 2 ^ 64
  pub entries : tx_count items < 2 ^ 64
  pub tables : AllByRecursion TableFitsFormat (serial reads items)
