-- A legal journal: one that a server could have made.
use Rattle.std.specs.Prelude.{◌≡◌, true}
use Rattle.std.specs.List.{AllByRecursion}
use Rattle.sql_value.specs.DatabaseName.{is_database_name}
use Rattle.sql_types.specs.declared.journal.Journal.{Journal}
use Rattle.sql_types.specs.Versions.{is_version}
use Rattle.sql_types.specs.JournalRules.{ItemRules}
use Rattle.spec_model.specs.Journals.{IsLegal}
use Rattle.spec_model.specs.Script.{Reading}

-- it has a version that there is, the database has a name, and each item keeps its rules; each kept reply is
-- that of its script over the tables so far,
-- each transaction left an event, ids differ, and blocks are closed of what is pending
pub record IsLegalJournal (reads : Reading) (j : Journal) : Type 0 where
  pub version : is_version j.version ≡ true
  pub database : is_database_name j.database ≡ true
  pub items : AllByRecursion ItemRules j.items
  pub legal : IsLegal reads j.items
