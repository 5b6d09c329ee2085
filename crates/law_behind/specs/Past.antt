-- What came before a run: the journal from which it goes on.
use Rattle.std.specs.Prelude.{ℕ, ◌-◌, ◌<◌, ◌≤◌, List, [], length, drop}
use Rattle.sql_types.specs.declared.journal.JournalItem.{JournalItem}
use Rattle.spec_model.specs.Journals.{tx_count, closed}
use Rattle.spec_history.specs.Journals.{ids_of}
use Rattle.spec_history.specs.Lists.{Each}
use Rattle.spec_history.specs.Meaning.{Meaning}
use Rattle.spec_history.specs.Serial.{IsLegal}
use Rattle.spec_history.specs.Sessions.{fresh}
use Rattle.spec_history.specs.Worlds.{World}

pub record Past : Type 0 where
  pub items : List JournalItem
  -- the id that is assigned next
  pub next : ℕ

abbrev pub no_past : Past
no_past = record { items = []; next = 1 }

-- a journal from which a database can go on: it is legal, and the next id is above all that it has
pub record IsPast (q : Meaning) (past : Past) : Type 0 where
  pub legal : IsLegal q past.items
  pub ids : Each (λ id. id < past.next) (ids_of past.items)
  pub some : 1 ≤ past.next

-- where it goes on: no session has begun, and no digest was issued
abbrev pub behind : Past → World
behind past = record { items = past.items; next = past.next; issued = []; at = λ s. fresh }

-- the items of a journal that are new
abbrev pub since : Past → List JournalItem → List JournalItem
since past J = drop (length past.items) J

-- so many transactions are in no block yet
abbrev pub unclosed : List JournalItem → ℕ
unclosed J = tx_count J - closed J
