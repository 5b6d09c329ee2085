-- Statements: a rule of the grammar for each definition.
use Rattle.std.specs.Prelude.{◌==◌, Bool, true, if◌then◌else◌, List, Option, Some, None, option_map}
use Rattle.sql_types.specs.declared.statement.Stmt.{Stmt}
use Rattle.sql_types.specs.declared.statement.Stmt.TheVariants as stmt
use Rattle.spec_syntax.specs.declared.tag.Tag.{Tag}
use Rattle.spec_syntax.specs.declared.tag.Tag.TheVariants as t
use Rattle.spec_syntax.specs.declared.word.CallName.{CallName}
use Rattle.spec_syntax.specs.declared.word.CallName.TheVariants as call
use Rattle.spec_syntax.specs.Input.{Sym, Parser, ◌>>=◌, ◌>>◌, ◌<$>◌, pure, refuse, required, peek, take_text, eat, expect, start, tokens_left}
use Rattle.spec_syntax.specs.Expr.{name}
use Rattle.spec_syntax.specs.Words.{call_word}
use Rattle.spec_syntax.specs.Row.{insert, update, delete}
use Rattle.spec_syntax.specs.Select.{select}
use Rattle.spec_syntax.specs.Table.{create_table, create_index, alter_table, drop_table}

abbrev pub create_by : Tag → Parser Stmt
create_by t.Table = take_text >> stmt.Create <$> create_table
create_by t.Nonclustered = take_text >> expect t.Index >> stmt.Index <$> create_index
create_by t.Index = take_text >> stmt.Index <$> create_index
create_by _ = refuse

-- TABLE .. | [NONCLUSTERED] INDEX ..
unfoldable pub create : Parser Stmt
create = peek >>= create_by

-- [TRAN | TRANSACTION], true where it is written
unfoldable pub tran_may : Parser Bool
tran_may = do
  short ← eat t.Tran
  if short then pure true else eat t.Transaction

-- TRAN | TRANSACTION
unfoldable pub begin : Parser Stmt
begin = do
  written ← tran_may
  if written then pure stmt.Begin else refuse

-- [TRAN | TRANSACTION]
unfoldable pub commit : Parser Stmt
commit = tran_may >> pure stmt.Commit

abbrev pub image_of : CallName → Parser Stmt
image_of call.Image = pure stmt.Image
image_of _ = refuse

-- (TRAN | TRANSACTION) name | IMAGE
unfoldable pub save : Parser Stmt
save = do
  written ← tran_may
  if written then stmt.Save <$> name else (call_word >>= image_of)

abbrev pub savepoint_by : Tag → Parser Stmt
savepoint_by t.Word = name >>= (λ n. pure (stmt.Rollback (Some n)))
savepoint_by t.Bracketed = name >>= (λ n. pure (stmt.Rollback (Some n)))
savepoint_by _ = pure (stmt.Rollback None)

-- [(TRAN | TRANSACTION) [name]]
unfoldable pub rollback : Parser Stmt
rollback = do
  written ← tran_may
  if written then (peek >>= savepoint_by) else pure (stmt.Rollback None)

abbrev pub digest_of : CallName → Option Stmt
digest_of call.Digest = Some stmt.Digest
digest_of _ = None

abbrev pub call_of : CallName → Parser Stmt
call_of call.Sys = expect t.Dot >> call_word >>= (λ word. required (digest_of word))
call_of word = required (digest_of word)

-- [sys '.'] sp_generate_database_ledger_digest
unfoldable pub execute : Parser Stmt
execute = call_word >>= call_of

abbrev pub body_by : Tag → Parser Stmt
body_by t.Create = take_text >> create
body_by t.Alter = take_text >> stmt.Alter <$> alter_table
body_by t.Drop = take_text >> stmt.Drop <$> drop_table
body_by t.Insert = take_text >> stmt.Change <$> insert
body_by t.Update = take_text >> stmt.Change <$> update
body_by t.Delete = take_text >> stmt.Change <$> delete
body_by t.Select = take_text >> stmt.Select <$> select
body_by t.Begin = take_text >> begin
body_by t.Commit = take_text >> commit
body_by t.Save = take_text >> save
body_by t.Rollback = take_text >> rollback
body_by t.Exec = take_text >> execute
body_by t.Execute = take_text >> execute
body_by _ = refuse

unfoldable pub body : Parser Stmt
body = peek >>= body_by

-- body [';'], and nothing else
unfoldable pub statement : Parser Stmt
statement = do
  found ← body
  eat t.Semi
  (λ i. if tokens_left i == 0 then Some (found, i) else None)

-- the statement that these tokens are
abbrev pub statement_of_tokens : List Sym → Option Stmt
statement_of_tokens ts = option_map (λ p. p.0) (statement (start ts))
