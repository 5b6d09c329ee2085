-- Statements, production by production, and the texts that are statements.
use Rattle.std.specs.Prelude.{◌≡◌, ℕ, List, ◌++◌, map, slice_range, codes, Some, None, Ok}
use Rattle.sql_lex.specs.declared.token.Token.{Token}
use Rattle.sql_lex.specs.Cut.{tokens_of}
use Rattle.sql_types.specs.declared.statement.CreateTable.{CreateTable}
use Rattle.sql_types.specs.declared.statement.CreateIndex.{CreateIndex}
use Rattle.sql_types.specs.declared.statement.Alter.{Alter}
use Rattle.sql_types.specs.declared.statement.RowStmt.{RowStmt}
use Rattle.sql_types.specs.declared.statement.Select.{Select}
use Rattle.sql_types.specs.declared.statement.Stmt.{Stmt}
use Rattle.sql_types.specs.declared.statement.Stmt.TheVariants as stmt
use Rattle.spec_grammar.specs.Tokens.{Lexeme, Lexemes, Word, Sign, IsName, OptionalPart}
use Rattle.spec_grammar.specs.Rows.{IsInsert, IsUpdate, IsDelete, IsSelect}
use Rattle.spec_grammar.specs.Tables.{IsCreateTable, IsCreateIndex, IsAlter, IsDrop}

-- tran := TRAN | TRANSACTION
pub data IsTran : Lexemes → Type 0 where
  tran : {a : Lexemes} → Word (codes "TRAN") a → IsTran a
  transaction : {a : Lexemes} → Word (codes "TRANSACTION") a → IsTran a

-- EXEC | EXECUTE
pub data IsExec : Lexemes → Type 0 where
  exec : {a : Lexemes} → Word (codes "EXEC") a → IsExec a
  execute : {a : Lexemes} → Word (codes "EXECUTE") a → IsExec a

-- sys '.'
pub data IsSys : Lexemes → Type 0 where
  sys : {a b : Lexemes} → Word (codes "sys") a → Sign (codes ".") b → IsSys (a ++ b)

-- body := create | index | alter | drop | insert | update | delete | select
--       | BEGIN tran | COMMIT [tran] | SAVE tran name | ROLLBACK [tran [name]]
--       | (EXEC | EXECUTE) [sys '.'] sp_generate_database_ledger_digest | SAVE IMAGE
pub data IsBody : Lexemes → Stmt → Type 0 where
  create : {a : Lexemes} {x : CreateTable} → IsCreateTable a x → IsBody a (stmt.Create x)
  index : {a : Lexemes} {x : CreateIndex} → IsCreateIndex a x → IsBody a (stmt.Index x)
  alter : {a : Lexemes} {x : Alter} → IsAlter a x → IsBody a (stmt.Alter x)
  drop : {a : Lexemes} {n : List ℕ} → IsDrop a n → IsBody a (stmt.Drop n)
  insert : {a : Lexemes} {x : RowStmt} → IsInsert a x → IsBody a (stmt.Change x)
  update : {a : Lexemes} {x : RowStmt} → IsUpdate a x → IsBody a (stmt.Change x)
  delete : {a : Lexemes} {x : RowStmt} → IsDelete a x → IsBody a (stmt.Change x)
  select : {a : Lexemes} {x : Select} → IsSelect a x → IsBody a (stmt.Select x)
  begin : {a b : Lexemes} → Word (codes "BEGIN") a → IsTran b → IsBody (a ++ b) stmt.Begin
  commit : {a b : Lexemes} → Word (codes "COMMIT") a → OptionalPart IsTran b → IsBody (a ++ b) stmt.Commit
  save : {a b c : Lexemes} {n : List ℕ}
      → Word (codes "SAVE") a → IsTran b → IsName c n
      → IsBody (a ++ (b ++ c)) (stmt.Save n)
  rollback : {a b : Lexemes} → Word (codes "ROLLBACK") a → OptionalPart IsTran b → IsBody (a ++ b) (stmt.Rollback None)
  rollback_to : {a b c : Lexemes} {n : List ℕ}
      → Word (codes "ROLLBACK") a → IsTran b → IsName c n
      → IsBody (a ++ (b ++ c)) (stmt.Rollback (Some n))
  digest : {a b c : Lexemes}
      → IsExec a → OptionalPart IsSys b → Word (codes "sp_generate_database_ledger_digest") c
      → IsBody (a ++ (b ++ c)) stmt.Digest
  image : {a b : Lexemes} → Word (codes "SAVE") a → Word (codes "IMAGE") b → IsBody (a ++ b) stmt.Image

-- stmt := body [';']
pub data IsStmt : Lexemes → Stmt → Type 0 where
  statement : {a b : Lexemes} {x : Stmt} → IsBody a x → OptionalPart (Sign (codes ";")) b → IsStmt (a ++ b) x

-- a token as it is written in the text
abbrev pub written : List ℕ → Token → Lexeme
written text t = (t.kind, slice_range text t.start t.end)

-- The text is the statement: its tokens, the longest at each place, are it by the grammar.
pub record IsStatement (text : List ℕ) (x : Stmt) : Type 0 where
  pub tokens : List Token
  pub cut : tokens_of text ≡ Ok tokens
  pub is : IsStmt (map (written text) tokens) x
