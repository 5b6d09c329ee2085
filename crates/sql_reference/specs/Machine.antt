-- The plain machine, as its contracts see it.
use Rattle.std.specs.Prelude.{ℕ, Bool, Option, Some, None}
use Rattle.sql_types.specs.declared.statement.Stmt.{Stmt}
use Rattle.spec_model.specs.Catalog.{Tables}
use Rattle.spec_model.specs.Script.{State, Step, start, by_statement}

-- a script that is begun
pub record Running : Type 0 where
  pub tx : ℕ
  -- by BEGIN
  pub explicit : Bool
  -- what its statements came to so far
  pub state : State

pub record Machine : Type 0 where
  -- the tables after all scripts that were kept
  pub tables : Tables
  -- the script that is begun over them, if one is
  pub script : Option Running

abbrev pub at_rest : Tables → Machine
at_rest tables = record { tables = tables; script = None }

abbrev pub begun : ℕ → Bool → Tables → Machine
begun tx explicit tables =
    record { tables = tables; script = Some (record { tx = tx; explicit = explicit; state = start tables }) }

-- what a statement, or a text that is none, does in a script
abbrev pub step_of : Running → Option Stmt → Step
step_of x stmt = by_statement x.explicit x.tx x.state stmt

abbrev pub moved : Machine → Running → State → Machine
moved m x state =
    record { tables = m.tables; script = Some (record { tx = x.tx; explicit = x.explicit; state = state }) }
