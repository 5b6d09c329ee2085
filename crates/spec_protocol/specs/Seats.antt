-- Seats: who may visit cells, and what is known of each.
use Rattle.std.specs.Prelude.{ℕ, ◌++◌, Bool, true, false, List, [], map, min, max, Option}
use Rattle.sql_types.specs.declared.reply.Reply.{Reply}
use Rattle.sql_types.specs.declared.table.TableDef.{TableDef}
use Rattle.spec_model.specs.Journals.{Line}
use Rattle.spec_model.specs.Catalog.{NamedPart}
use Rattle.spec_history.specs.Lists.{Text}
use Rattle.spec_history.specs.Transcripts.{Transcript}
use Rattle.spec_history.specs.Transactions.{End}

-- ---- a transaction of a session

-- the tree over its events in the table with this id, as the leaves that it took
pub record Tree : Type 0 where
  pub table : ℕ
  pub leaves : List Text

-- what a savepoint keeps
pub record OpenSavepoint : Type 0 where
  pub name : Text
  pub seq : ℕ
  pub trees : List Tree

pub record OpenTransaction : Type 0 where
  pub id : ℕ
  -- by BEGIN
  pub explicit : Bool
  -- the statements that belong to it for certain, with their replies
  pub script : List Line
  -- the number of its next event
  pub seq : ℕ
  pub trees : List Tree
  -- the newest first
  pub open_savepoints : List OpenSavepoint
  -- whether its end number is fixed, and which it is
  pub end : End
  -- the cells in which it may have locks, and those of them that it has released
  pub visited : List ℕ
  pub released : List ℕ

-- ---- the place inside a statement

-- how far a statement came
pub data StatementProgress : Type 0 where
  -- it has visited nothing but perhaps the ledger's cell, where its id is drawn
  begun : StatementProgress
  -- it has the catalog's lock, and what it found there under its name; with true, its transaction had no lock
  -- there before
  found : (named : Option NamedPart) (fresh : Bool) → StatementProgress
  -- CREATE INDEX made its rows, and this definition; with true, its table's cell has the index
  made : (def : TableDef) (indexed : Bool) → StatementProgress
  -- ROLLBACK TRANSACTION goes back to the number of its savepoint; these cells are still to be visited
  going_back : (seq : ℕ) (cells : List ℕ) → StatementProgress
  -- a transaction of its own: it did all that it does, and its end isn't fixed
  replied : (reply : Reply) → StatementProgress
  -- its reply is certain, and locks may still have to be released; a refused CREATE INDEX has a definition
  -- that isn't dropped yet
  answering : (reply : Reply) (def : Option TableDef) → StatementProgress
  -- a refused statement, whose lock in the catalog is to be given back
  refused : (reply : Reply) → StatementProgress

pub data SessionStatus : Type 0 where
  -- in no statement
  between : SessionStatus
  inside : (text : Text) (stage : StatementProgress) → SessionStatus
  -- at the session's end
  leaving : SessionStatus

-- ---- a session

-- an image that it kept: the number of the journal's items, and the bytes
abbrev pub KeptImage : Type 0
KeptImage = ℕ × Text

pub record Session : Type 0 where
  pub transcript : Transcript
  pub images : List KeptImage
  -- of its commits and digests
  pub moments : List ℕ
  -- the open or unreleased one
  pub open_one : Option OpenTransaction
  pub place : SessionStatus
  -- the transcripts of sessions of which its seat knows that they were over when it began
  pub earlier : List Transcript

-- the transcript of a session that is over
pub record Written : Type 0 where
  pub transcript : Transcript
  pub images : List KeptImage
  pub moments : List ℕ
  pub earlier : List Transcript

-- ---- seats

pub data Role : Type 0 where
  idle : Role
  session : Session → Role
  builder : Role

pub record SeatState : Type 0 where
  -- false of one that another seat took in
  pub present : Bool
  pub role : Role
  pub database : Text
  pub block_size : ℕ
  -- the transcripts that it wrote or took in
  pub written : List Written
  -- the mark from which it began, and the greatest of its marks, the least among them
  pub least : ℕ
  pub greatest : ℕ
  -- the transcripts of the sessions that its parent had ended when the seat was made
  pub earlier : List Transcript

-- ---- the first seat, and seats that are made and taken in

abbrev pub idle_seat : Text → ℕ → ℕ → List Transcript → SeatState
idle_seat database size mark earlier =
    record {
      present = true;
      role = idle;
      database = database;
      block_size = size;
      written = [];
      least = mark;
      greatest = mark;
      earlier = earlier;
    }

-- in the place of a seat that another took in
abbrev pub nobody : SeatState
nobody = record {
  present = false;
  role = idle;
  database = [];
  block_size = 0;
  written = [];
  least = 0;
  greatest = 0;
  earlier = [];
}

-- a split leaves the seat as it is
abbrev pub kept : SeatState → ℕ → SeatState
kept s parts = s

-- an idle seat; its least mark is the greatest of its parent's, and it keeps which sessions its parent had
-- ended, those that the parent keeps in this way among them
abbrev pub split : SeatState → ℕ → SeatState
split s parts =
    record {
      present = s.present;
      role = idle;
      database = s.database;
      block_size = s.block_size;
      written = [];
      least = s.greatest;
      greatest = s.greatest;
      earlier = map (λ x. x.transcript) s.written ++ s.earlier;
    }

abbrev pub IsAtRest : Role → Type 0
IsAtRest (session x) = ⊥
IsAtRest _ = Unit {0}

-- a seat may end once its session has, and so has no open or unreleased transaction
abbrev pub may_end : SeatState → Type 0
may_end s = IsAtRest s.role

-- it gains the other's transcripts, images and moments, and keeps the lesser of the two least marks
abbrev pub joined : SeatState → SeatState → SeatState
joined s t =
    record {
      present = s.present;
      role = s.role;
      database = s.database;
      block_size = s.block_size;
      written = s.written ++ t.written;
      least = min s.least t.least;
      greatest = max s.greatest t.greatest;
      earlier = s.earlier;
    }
