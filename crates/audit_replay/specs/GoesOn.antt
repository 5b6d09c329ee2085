-- How a database goes on from a journal.
use Rattle.std.specs.Prelude.{ℕ, suc, ◌≡◌, ◌⊎◌, ◌<◌, ◌≤◌, ◌^◌, ◌++◌, Bool, true, false, if◌then◌else◌, List, [], ◌∷◌, length, replicate, Option, Some, None}
use Rattle.std.specs.List.{AllByRecursion}
use Rattle.base_types.specs.DatabaseName.{is_database_name}
use Rattle.sql_types.specs.declared.journal.Journal.{Journal}
use Rattle.sql_types.specs.declared.journal.JournalItem.{JournalItem}
use Rattle.sql_types.specs.declared.journal.JournalItem.TheVariants.{Tx, Close}
use Rattle.sql_types.specs.JournalRules.{ItemRules}
use Rattle.spec_history.specs.Journals.{ids_of}
use Rattle.spec_history.specs.Transcripts.{Kind, commit, roll_back, kind_of}
use Rattle.spec_model.specs.Catalog.{Tables}
use Rattle.spec_model.specs.Journals.{IsLegal, Line, serial}
use Rattle.spec_model.specs.Lists.{greatest}
use Rattle.spec_model.specs.Script.{Reading}
use Rattle.spec_ledger.specs.Ledger.{Ledger, ledger_of}
use Rattle.spec_syntax.specs.Text.{statement_of}
use Rattle.store_blocks.specs.Closings.{AreFull, closed_by}
use Rattle.store_blocks.specs.LedgerChain.{KeepsHash}
use Rattle.audit_replay.specs.Reached.{DiffersAt}
use Rattle.audit_replay.specs.declared.past.Past.{Past}
use Rattle.audit_replay.specs.declared.running.ReplayErr.{ReplayErr}
use Rattle.audit_replay.specs.declared.running.ReplayErr.TheVariants as errors

-- ---- which journals

-- COMMIT, or ROLLBACK of all
abbrev pub is_end : Kind → Bool
is_end commit = true
is_end roll_back = true
is_end _ = false

abbrev pub ends_all : Reading → List ℕ → Bool
ends_all reads text = is_end (kind_of (reads text))

-- the number of the first of these lines that ends the transaction, where lines are counted from n
abbrev pub end_from : Reading → ℕ → List Line → Option ℕ
end_from reads n [] = None
end_from reads n (l ∷ ls) = if ends_all reads l.0 then Some n else end_from reads (suc n) ls

-- the same in a transaction that BEGIN opened: of those that a server ran, the journal has no such statement
abbrev pub end_inside : Reading → JournalItem → Option ℕ
end_inside reads (Tx id session time true lines) = end_from reads 0 lines
end_inside reads (Tx id session time false lines) = None
end_inside reads (Close k) = None

-- no transaction has its end among its statements
abbrev pub NoneEndsInside : Reading → List JournalItem → Type 0
NoneEndsInside reads items = AllByRecursion (λ i. end_inside reads i ≡ None) items

-- this statement of this item is the first that ends a transaction
abbrev pub EndsInsideAt : Reading → ReplayErr → List JournalItem → Type 0
EndsInsideAt reads (errors.Differs place statement) items =
    (before : List JournalItem) × (i : JournalItem) × (rest : List JournalItem) × (items ≡ before ++ i ∷ rest)
    × (length before ≡ place) × NoneEndsInside reads before × (end_inside reads i ≡ Some statement)
EndsInsideAt reads errors.Memory items = Unit {0}

-- why no database goes on from these items: they aren't legal, or else a transaction has its end inside
abbrev pub CannotGoOn : Reading → ReplayErr → List JournalItem → Type 0
CannotGoOn reads error items = DiffersAt reads error items ⊎ (IsLegal reads items × EndsInsideAt reads error items)

-- ---- where they lead

-- behind a journal so many blocks of this size were closed, each as soon as it was full
pub record Closes (h : List ℕ → List ℕ) (size : ℕ) (J : List JournalItem) (l : Ledger)
    (K : List JournalItem) (m : Ledger) : Type 0 where
  pub count : ℕ
  pub items : K ≡ J ++ replicate count (Close size)
  pub ledger : m ≡ closed_by h count size l
  pub full : AreFull h count size l

-- these items are legal, and no transaction has its end inside; these are their tables and their ledger
pub record Led (h : List ℕ → List ℕ) (reads : Reading) (items : List JournalItem) (T : Tables) (l : Ledger) : Type 0 where
  pub legal : IsLegal reads items
  pub rules : AllByRecursion ItemRules items
  pub inside : NoneEndsInside reads items
  pub tables : T ≡ serial reads items
  pub ledger : l ≡ ledger_of h reads items

-- With this past a database goes on from the journal, in blocks of this size: behind the journal's items are closings
-- alone, no block is full any more, and the next id is behind the greatest that the journal has.
pub record LeadsOn (h : List ℕ → List ℕ) (size : ℕ) (J : Journal) (p : Past) : Type 0 where
  pub database : p.database ≡ J.database
  pub named : is_database_name p.database ≡ true
  pub count : ℕ
  pub items : p.items.items ≡ J.items ++ replicate count (Close size)
  pub next : p.next ≡ suc (greatest (ids_of J.items))
  pub most : p.next ≤ 2 ^ 63
  pub led : Led h statement_of p.items.items p.tables.items p.ledger_chain.ledger
  pub hash : KeepsHash h p.ledger_chain
  pub few : length p.ledger_chain.ledger.pending < size
