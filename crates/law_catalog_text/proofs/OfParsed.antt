-- A statement that parsing can give is written.
use Rattle.std.proofs.Common.{◌≤◌, ℕ, sym, subst, List, [], ◌∷◌, length, Option, Some, None, arith}
use Rattle.std.specs.List.{AllByRecursion}
use Rattle.sql_value.specs.declared.column.ColumnDef.{ColumnDef}
use Rattle.sql_value.specs.declared.column.TableKind.{TableKind}
use Rattle.sql_value.specs.declared.column.TableKind.TheVariants.{AppendOnly, Updatable}
use Rattle.sql_types.specs.declared.statement.Alter.{Alter}
use Rattle.sql_types.specs.declared.statement.Alter.TheVariants.{Add, DropColumn}
use Rattle.sql_types.specs.declared.statement.Stmt.{Stmt}
use Rattle.sql_types.specs.declared.statement.Stmt.TheVariants as s
use Rattle.spec_syntax.specs.Parsed.{IsName, Each, OneOrMore, Maybe, IsColumn, IsHistory, IsAlter, IsParsed}
use Rattle.law_catalog_rows.specs.Written.{IsWritten, IfWritten, AlterWritten, StatementWritten}

name_written : (n : List ℕ) → IsName n → IsWritten n
name_written n is = (omega (arith, is.0), is.1)

if_written : (o : Option (List ℕ)) → Maybe IsName o → IfWritten o
if_written None m = tt
if_written (Some n) m = name_written n m

history_written : (kind : TableKind) (o : Option (List ℕ)) → IsHistory kind o → IfWritten o
history_written Updatable o h = if_written o h
history_written AppendOnly o h = subst IfWritten (sym h) tt

some : {A : Type 0} (P : A → Type 0) (xs : List A) → OneOrMore P xs → 1 ≤ length xs
some P [] h = absurd h
some P (x ∷ xs) h = omega arith

columns_written : (cs : List ColumnDef) → Each IsColumn cs → AllByRecursion (λ c. IsWritten c.name) cs
columns_written [] h = tt
columns_written (c ∷ cs) h = (name_written c.name h.0.0, columns_written cs h.1)

each_of : {A : Type 0} (P : A → Type 0) (xs : List A) → OneOrMore P xs → Each P xs
each_of P [] h = absurd h
each_of P (x ∷ xs) h = h

alter_written : (a : Alter) → IsAlter a → AlterWritten a
alter_written (Add table column) is = name_written column.name is.1.0
alter_written (DropColumn table name) is = tt

pub parsed_written : (stmt : Stmt) → IsParsed stmt → StatementWritten stmt
parsed_written (s.Create c) p = record {
  name = name_written c.name p.0;
  some_columns = some IsColumn c.columns p.1;
  columns = columns_written c.columns (each_of IsColumn c.columns p.1);
  some_key = some IsName c.key p.2;
  history = history_written c.kind c.history p.3;
  view = if_written c.view p.4;
}
parsed_written (s.Index c) p = record { name = name_written c.name p.0; some_columns = some IsName c.columns p.2 }
parsed_written (s.Alter a) p = alter_written a p
parsed_written (s.Drop name) p = tt
parsed_written (s.Change x) p = tt
parsed_written (s.Select q) p = tt
parsed_written s.Begin p = tt
parsed_written s.Commit p = tt
parsed_written (s.Save n) p = tt
parsed_written (s.Rollback to) p = tt
parsed_written s.Digest p = tt
parsed_written s.Image p = tt
