-- Rows agree, key by key: what the versions of each key are, by who may have changed them. What the sentences
-- on committed tables and on the versions of open transactions say of whole tables follows from this; and
-- this is what each visit can be shown to keep.
use Rattle.std.specs.Prelude.{ℕ, ◌≡◌, ◌≤◌, Bool, true, false, List}
use Rattle.std.specs.List.{AllByRecursion}
use Rattle.sql_types.specs.declared.version.Version.{Version}
use Rattle.spec_model.specs.Keys.{Key, of_key}
use Rattle.spec_model.specs.Catalog.{Tables, defs_of, versions_of}
use Rattle.spec_model.specs.Agreement.{columns_at}
use Rattle.spec_model.specs.Reach.{lets_change}
use Rattle.spec_model.specs.Runs.{MadeBefore, Rising}
use Rattle.spec_model.specs.Undo.{versions_undone}
use Rattle.spec_history.specs.Lists.{In}
use Rattle.spec_history.specs.Transactions.{unfixed}
use Rattle.spec_protocol.specs.Server.{Server}
use Rattle.sql_types.specs.declared.lock.Hold.{Hold}
use Rattle.spec_protocol.specs.Cells.{cell_of}
use Rattle.spec_protocol.specs.Contents.{Contents, Known}
use Rattle.spec_protocol.specs.Seats.{OpenTransaction, going_back, made, SessionStatus, inside, Session, SeatState}
use Rattle.spec_protocol.specs.OpenOnes.{HasOpen, script_end}
use Rattle.spec_protocol.specs.OpenScripts.{counted}

-- who may change the rows of this key is in the journal
abbrev pub IsFree : List Hold → (ℕ → Bool) → Key → Type 0
IsFree holds has key = (h : Hold) → In h holds → lets_change key h.request ≡ true → has h.tx ≡ true

abbrev pub GoesBackTo : SessionStatus → ℕ → Type 0
GoesBackTo (inside text (going_back seq cells)) n = seq ≡ n
GoesBackTo _ n = Unit {0}

-- only a transaction that BEGIN opened goes back, and only one that it didn't makes an index
abbrev pub IsExplicitAt : SessionStatus → Bool → Type 0
IsExplicitAt (inside text (going_back seq cells)) b = b ≡ true
IsExplicitAt (inside text (made def indexed)) b = b ≡ false
IsExplicitAt _ b = Unit {0}

-- the versions of a key of the table with this id
abbrev pub key_rows : Tables → ℕ → Key → List Version → List Version
key_rows T id key versions = of_key (columns_at (defs_of T) id) key versions

pub record RowsAgree (v : Server) (c : Contents) (k : Known) (seats : List SeatState) : Type 0 where
  -- what no transaction outside the journal has an X on is as the journal leads to it
  pub free : (id : ℕ) (key : Key) → 1 ≤ id → IsFree (c.holds (cell_of id)) k.has key
      → key_rows k.tables id key (c.versions id) ≡ key_rows k.tables id key (versions_of k.tables id)
  -- what a transaction whose end isn't fixed has an X on is as its script makes it
  pub own : (j : ℕ) (x : Session) (o : OpenTransaction) → HasOpen seats j x o → o.end ≡ unfixed
      → (id : ℕ) (key : Key) → 1 ≤ id
      → (h : Hold) → In h (c.holds (cell_of id)) → h.tx ≡ o.id → lets_change key h.request ≡ true
      → counted o.id id x.place (key_rows k.tables id key (c.versions id))
      ≡ key_rows k.tables id key (versions_of (script_end v k.tables x o).state.tables id)
  -- without its starts and ends, what a transaction outside the journal has an X on is as the journal leads
  -- to it
  pub undone : (id : ℕ) (key : Key) → 1 ≤ id
      → (h : Hold) → In h (c.holds (cell_of id)) → k.has h.tx ≡ false → lets_change key h.request ≡ true
      → versions_undone h.tx 0 (key_rows k.tables id key (c.versions id)) ≡ key_rows k.tables id key
      (versions_of k.tables id)
  -- versions stand by rising start
  pub rising : (id : ℕ) → 1 ≤ id → Rising (c.versions id)
  -- the way back to a savepoint goes to the counter
  pub back : (j : ℕ) (x : Session) (o : OpenTransaction) → HasOpen seats j x o → GoesBackTo x.place o.seq
  pub explicit : (j : ℕ) (x : Session) (o : OpenTransaction) → HasOpen seats j x o → IsExplicitAt x.place o.explicit
  -- a transaction's starts and ends are below its counter
  pub before : (j : ℕ) (x : Session) (o : OpenTransaction) → HasOpen seats j x o → o.end ≡ unfixed
      → (id : ℕ) → 1 ≤ id → AllByRecursion (MadeBefore o.id o.seq) (counted o.id id x.place (c.versions id))
