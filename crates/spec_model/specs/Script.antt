-- What the texts of a transaction do one after another, with a copy of all tables for each savepoint.
use Rattle.std.specs.Prelude.{ℕ, nat_lt, Bool, true, false, if◌then◌else◌, List, [], ◌∷◌, length, Option, Some, None}
use Rattle.std.specs.Str.{bytes_eq}
use Rattle.sql_value.specs.declared.refusal.Refusal.{Refusal}
use Rattle.sql_value.specs.declared.refusal.Refusal.TheVariants.{SyntaxError, NoTransaction, AlreadyInTransaction, NoSuchSavepoint, LimitExceeded, ForbiddenInTransaction}
use Rattle.sql_types.specs.declared.statement.Stmt.{Stmt}
use Rattle.sql_types.specs.declared.statement.Stmt.TheVariants as s
use Rattle.sql_types.specs.declared.reply.Reply.{Reply}
use Rattle.sql_types.specs.declared.reply.Reply.TheVariants as r
use Rattle.spec_model.specs.Limits.{max_savepoints}
use Rattle.spec_model.specs.Catalog.{Tables}
use Rattle.spec_model.specs.Effect.{Effect, effect}

-- which statement a text is, by the grammar; none where it is outside
abbrev pub Reading : Type 0
Reading = List ℕ → Option Stmt

-- what a savepoint keeps
pub record Saved : Type 0 where
  pub name : List ℕ
  pub tables : Tables
  pub seq : ℕ

pub record State : Type 0 where
  pub tables : Tables
  -- the number of the next event
  pub seq : ℕ
  -- the newest first
  pub saved : List Saved

abbrev pub Step : Type 0
Step = State × Reply

abbrev pub answered : State → Reply → Step
answered x reply = (x, reply)

abbrev pub refuses : State → Refusal → Step
refuses x e = (x, r.Refused e)

abbrev pub by_effect : State → Effect → Step
by_effect x e = (record { tables = e.tables; seq = e.seq; saved = x.saved }, e.reply)

-- ---- savepoints

-- all tables and the counter are kept under the name
unfoldable pub saves : State → List ℕ → Step
saves x name =
    if nat_lt (length x.saved) max_savepoints
    then (
      record {
        tables = x.tables;
        seq = x.seq;
        saved = record { name = name; tables = x.tables; seq = x.seq } ∷ x.saved;
      },
      r.Saved,
    )
    else refuses x LimitExceeded

-- the most recent savepoint of the name, and those before it
abbrev pub back_to : List Saved → List ℕ → List Saved
back_to [] name = []
back_to (c ∷ cs) name = if bytes_eq c.name name then c ∷ cs else back_to cs name

-- tables and counter are as they were there, and the savepoint stays
abbrev pub rolled_back : State → List Saved → Step
rolled_back x [] = refuses x NoSuchSavepoint
rolled_back x (c ∷ cs) = (record { tables = c.tables; seq = c.seq; saved = c ∷ cs }, r.Back)

unfoldable pub rolls_back_to : State → List ℕ → Step
rolls_back_to x name = rolled_back x (back_to x.saved name)

-- ---- a statement

-- in a transaction that BEGIN opened
abbrev pub in_transaction : ℕ → State → Stmt → Step
in_transaction tx x (s.Create c) = refuses x ForbiddenInTransaction
in_transaction tx x (s.Index c) = refuses x ForbiddenInTransaction
in_transaction tx x (s.Alter a) = refuses x ForbiddenInTransaction
in_transaction tx x (s.Drop name) = refuses x ForbiddenInTransaction
in_transaction tx x (s.Change stmt) = by_effect x (effect x.tables tx x.seq (s.Change stmt))
in_transaction tx x (s.Select q) = by_effect x (effect x.tables tx x.seq (s.Select q))
in_transaction tx x s.Begin = refuses x AlreadyInTransaction
in_transaction tx x s.Commit = answered x r.NoOutput
in_transaction tx x (s.Save name) = saves x name
in_transaction tx x (s.Rollback (Some name)) = rolls_back_to x name
in_transaction tx x (s.Rollback None) = answered x r.NoOutput
in_transaction tx x s.Digest = refuses x ForbiddenInTransaction
in_transaction tx x s.Image = refuses x ForbiddenInTransaction

-- as a transaction of its own
abbrev pub alone : ℕ → State → Stmt → Step
alone tx x (s.Create c) = by_effect x (effect x.tables tx x.seq (s.Create c))
alone tx x (s.Index c) = by_effect x (effect x.tables tx x.seq (s.Index c))
alone tx x (s.Alter a) = by_effect x (effect x.tables tx x.seq (s.Alter a))
alone tx x (s.Drop name) = by_effect x (effect x.tables tx x.seq (s.Drop name))
alone tx x (s.Change stmt) = by_effect x (effect x.tables tx x.seq (s.Change stmt))
alone tx x (s.Select q) = by_effect x (effect x.tables tx x.seq (s.Select q))
alone tx x s.Begin = answered x r.NoOutput
alone tx x s.Commit = refuses x NoTransaction
alone tx x (s.Save name) = refuses x NoTransaction
alone tx x (s.Rollback name) = refuses x NoTransaction
alone tx x s.Digest = answered x r.NoOutput
alone tx x s.Image = answered x r.NoOutput

abbrev pub by_statement : Bool → ℕ → State → Option Stmt → Step
by_statement explicit tx x None = refuses x SyntaxError
by_statement true tx x (Some stmt) = in_transaction tx x stmt
by_statement false tx x (Some stmt) = alone tx x stmt

-- ---- a script

-- what a script comes to
pub record ScriptEnd : Type 0 where
  pub state : State
  pub replies : List Reply

abbrev pub start : Tables → State
start tables = record { tables = tables; seq = 0; saved = [] }

abbrev pub with_reply : Reply → ScriptEnd → ScriptEnd
with_reply reply o = record { state = o.state; replies = reply ∷ o.replies }

module _ (reads : Reading) where
  unfoldable pub text_step : Bool → ℕ → State → List ℕ → Step
  text_step explicit tx x text = by_statement explicit tx x (reads text)

  -- the texts in order, each over what those before it left
  unfoldable pub script_from : Bool → ℕ → State → List (List ℕ) → ScriptEnd
  script_from explicit tx x [] = record { state = x; replies = [] }
  script_from explicit tx x (t ∷ ts) =
      with_reply (text_step explicit tx x t).1 (script_from explicit tx (text_step explicit tx x t).0 ts)

  -- the script of a transaction over the tables before it
  abbrev pub script : Bool → Tables → ℕ → List (List ℕ) → ScriptEnd
  script explicit tables tx texts = script_from explicit tx (start tables) texts
