-- Transcripts: what a session was answered, in order.
use Rattle.std.specs.Prelude.{ℕ, List, [], ◌∷◌, Option, Some, None}
use Rattle.sql_types.specs.declared.statement.Stmt.{Stmt}
use Rattle.sql_types.specs.declared.statement.Stmt.TheVariants as stmt
use Rattle.sql_types.specs.declared.reply.Reply.{Reply}
use Rattle.spec_history.specs.Lists.{Text}

-- the line with which a transaction ends
pub data EndLine : Type 0 where
  -- committed <id> at <place>
  committed_at : (id place : ℕ) → EndLine
  -- ended <id> after <n>
  ended_after : (id n : ℕ) → EndLine

pub data Entry : Type 0 where
  -- a statement, its reply and its end line, if it has one
  statement : (text : Text) (reply : Reply) (end : Option EndLine) → Entry
  -- (end): the session's end, where it ends a transaction
  end_of_session : (end : EndLine) → Entry

pub record Transcript : Type 0 where
  pub session : Text
  pub entries : List Entry

abbrev pub ended_id : EndLine → ℕ
ended_id (committed_at id place) = id
ended_id (ended_after id n) = id

-- the texts of the statements
abbrev pub statements : List Entry → List Text
statements [] = []
statements (statement text reply end ∷ es) = text ∷ statements es
statements (end_of_session end ∷ es) = statements es

-- ---- what a statement is to the transaction around it

pub data Kind : Type 0 where
  -- no statement of the grammar
  unread : Kind
  begin : Kind
  commit : Kind
  -- of the whole transaction
  roll_back : Kind
  -- SAVE TRANSACTION, and ROLLBACK with a savepoint's name
  to_savepoint : Kind
  -- CREATE, ALTER and DROP
  create : Kind
  -- INSERT, UPDATE, DELETE and SELECT
  rows : Kind
  -- the digest statement
  issue : Kind
  -- SAVE IMAGE
  keep : Kind

abbrev pub kind_of : Option Stmt → Kind
kind_of None = unread
kind_of (Some (stmt.Create x)) = create
kind_of (Some (stmt.Index x)) = create
kind_of (Some (stmt.Alter x)) = create
kind_of (Some (stmt.Drop name)) = create
kind_of (Some (stmt.Change x)) = rows
kind_of (Some (stmt.Select x)) = rows
kind_of (Some stmt.Begin) = begin
kind_of (Some stmt.Commit) = commit
kind_of (Some (stmt.Save name)) = to_savepoint
kind_of (Some (stmt.Rollback None)) = roll_back
kind_of (Some (stmt.Rollback (Some name))) = to_savepoint
kind_of (Some stmt.Digest) = issue
kind_of (Some stmt.Image) = keep
