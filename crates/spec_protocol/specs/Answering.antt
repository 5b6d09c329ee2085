-- What a statement is answered that needs no cell, and the entry that an answer writes.
use Rattle.std.specs.Prelude.{ℕ, ◌==◌, ◌++◌, if◌then◌else◌, List, [], ◌∷◌, Option, Some, None, Ok, Err}
use Rattle.std.specs.Str.{bytes_eq}
use Rattle.sql_value.specs.declared.refusal.Refusal.{Refusal}
use Rattle.sql_value.specs.declared.refusal.Refusal.TheVariants.{SyntaxError, NoTransaction, AlreadyInTransaction, LimitExceeded, ForbiddenInTransaction}
use Rattle.sql_types.specs.declared.statement.Stmt.{Stmt}
use Rattle.sql_types.specs.declared.statement.Stmt.TheVariants as stmt
use Rattle.spec_model.specs.Refusals.{Checked}
use Rattle.spec_model.specs.Catalog.{Defs, NamedPart}
use Rattle.spec_model.specs.Checks.{row_statement_check}
use Rattle.spec_model.specs.Query.{query_check}
use Rattle.spec_history.specs.Lists.{Text}
use Rattle.spec_history.specs.Transcripts.{EndLine, committed_at, ended_after, Entry}
use Rattle.spec_history.specs.Transactions.{End, unfixed, committed, ended}
use Rattle.spec_protocol.specs.Seats.{OpenSavepoint, OpenTransaction, SessionStatus, Session, Written}

-- ---- refusals

-- in a transaction that BEGIN opened
abbrev pub refused_inside : Option Stmt → Option Refusal
refused_inside None = Some SyntaxError
refused_inside (Some (stmt.Create c)) = Some ForbiddenInTransaction
refused_inside (Some (stmt.Index c)) = Some ForbiddenInTransaction
refused_inside (Some (stmt.Alter a)) = Some ForbiddenInTransaction
refused_inside (Some (stmt.Drop name)) = Some ForbiddenInTransaction
refused_inside (Some stmt.Begin) = Some AlreadyInTransaction
refused_inside (Some stmt.Digest) = Some ForbiddenInTransaction
refused_inside (Some stmt.Image) = Some ForbiddenInTransaction
refused_inside _ = None

-- where none is open; so many images were kept
abbrev pub refused_outside : ℕ → Option Stmt → Option Refusal
refused_outside images None = Some SyntaxError
refused_outside images (Some stmt.Commit) = Some NoTransaction
refused_outside images (Some (stmt.Save name)) = Some NoTransaction
refused_outside images (Some (stmt.Rollback name)) = Some NoTransaction
refused_outside images (Some stmt.Image) = if images == 2 then Some LimitExceeded else None
refused_outside images _ = None

abbrev pub error_of : {A : Type 0} → Checked A → Option Refusal
error_of (Ok a) = None
error_of (Err e) = Some e

-- the definitions that a statement got, which are one or none
abbrev pub defs_got : Option NamedPart → Defs
defs_got None = []
defs_got (Some named) = named.0 ∷ []

-- what is checked before any row, over the definition that the statement got
abbrev pub refused_by_check : Option NamedPart → Stmt → Option Refusal
refused_by_check named (stmt.Change row) = error_of (row_statement_check (defs_got named) row)
refused_by_check named (stmt.Select q) = error_of (query_check (defs_got named) q)
refused_by_check named _ = None

-- ---- savepoints

-- the most recent frame of the name, and those before it
abbrev pub savepoints_from : Text → List OpenSavepoint → List OpenSavepoint
savepoints_from name [] = []
savepoints_from name (f ∷ fs) = if bytes_eq f.name name then f ∷ fs else savepoints_from name fs

-- ---- entries

-- the line with which a transaction ends
abbrev pub end_line : OpenTransaction → End → Option EndLine
end_line o unfixed = None
end_line o (committed n) = Some (committed_at o.id n)
end_line o (ended n back) = Some (ended_after o.id n)

-- the session with one entry more
abbrev pub with_entry : Entry → Option OpenTransaction → SessionStatus → Session → Session
with_entry entry open_one place x =
    record {
      transcript = record {
        session = x.transcript.session;
        entries = x.transcript.entries
            ++ entry ∷ [];
      };
      images = x.images;
      moments = x.moments;
      open_one = open_one;
      place = place;
      earlier = x.earlier;
    }

-- the transcript of a session that is over
abbrev pub written_of : Session → Written
written_of x = record {
  transcript = x.transcript;
  images = x.images;
  moments = x.moments;
  earlier = x.earlier;
}
