-- What a text is answered over some tables.
use Rattle.std.specs.Prelude.{Option, Some, None}
use Rattle.sql_value.specs.declared.refusal.Refusal.TheVariants.{SyntaxError}
use Rattle.sql_types.specs.declared.reply.Reply.{Reply}
use Rattle.sql_types.specs.declared.reply.Reply.TheVariants as reply
use Rattle.sql_types.specs.declared.statement.Stmt.{Stmt}
use Rattle.sql_types.specs.declared.statement.Stmt.TheVariants as stmt
use Rattle.spec_model.specs.Catalog.{Tables}
use Rattle.spec_model.specs.Effect.{effect}
use Rattle.spec_asof.specs.declared.reply.AsOfReply.{AsOfReply}
use Rattle.spec_asof.specs.declared.reply.AsOfReply.TheVariants.{Rows, Refused, NotSelect}

-- the reply to a SELECT, which is rows or a refusal
abbrev pub of_reply : Reply → AsOfReply
of_reply (reply.Rows rows) = Rows rows
of_reply (reply.Refused e) = Refused e
of_reply _ = NotSelect

-- A SELECT is answered as a transaction over these tables answers it. A text outside the grammar is E01, and any
-- other statement no SELECT.
unfoldable pub answer_of : Tables → Option Stmt → AsOfReply
answer_of tables None = Refused SyntaxError
answer_of tables (Some (stmt.Select q)) = of_reply (effect tables 0 0 (stmt.Select q)).reply
answer_of tables (Some _) = NotSelect
