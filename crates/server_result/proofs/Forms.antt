-- A legal journal that a program has in memory has a spelling.
use Rattle.std.proofs.Common.{◌<◌, ◌^◌, List, [], ◌∷◌, length}
use Rattle.std.specs.List.{AllByRecursion}
use Rattle.sql_types.specs.declared.journal.Journal.{Journal}
use Rattle.sql_types.specs.declared.journal.JournalItem.{JournalItem}
use Rattle.sql_types.specs.declared.journal.JournalItem.TheVariants.{Tx, Close}
use Rattle.sql_types.specs.JournalRules.{ItemRules, JournalRules}
use Rattle.format_journal.specs.Rules.{HasTexts, IsItem, IsJournal}

one_item : (i : JournalItem) → ItemRules i → HasTexts i → IsItem i
one_item (Tx id session time explicit script) rules texts = record { rules = rules; count = texts.0; texts = texts.1 }
one_item (Close k) rules texts = rules

each_item : (items : List JournalItem) → AllByRecursion ItemRules items → AllByRecursion HasTexts items → AllByRecursion IsItem items
each_item [] rules texts = tt
each_item (i ∷ items) rules texts = (one_item i rules.0 texts.0, each_item items rules.1 texts.1)

pub journal_is_encodable : (j : Journal) → JournalRules j → AllByRecursion HasTexts j.items → length j.items < 2 ^ 64 → IsJournal j
journal_is_encodable j rules texts few = record {
  version = rules.version;
  database = rules.database;
  count = few;
  items = each_item j.items rules.items texts;
  ids = rules.ids;
  closes = rules.closes;
}
