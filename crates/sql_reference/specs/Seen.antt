-- How the machine keeps what its contracts see: a savepoint by its number alone, and the tables before a
-- script by the
-- changes that the script made.
use Rattle.std.specs.Prelude.{ℕ, ◌≤◌, [], ◌∷◌, map, length, Option, Some, None}
use Rattle.spec_model.specs.Catalog.{Defs, Tables}
use Rattle.spec_model.specs.Effect.{with_def}
use Rattle.spec_model.specs.Script.{Saved, State}
use Rattle.spec_model.specs.Undo.{undone}
use Rattle.sql_reference.specs.declared.begun.Savepoint.{Savepoint}
use Rattle.sql_reference.specs.declared.begun.RunningScript.{RunningScript}
use Rattle.sql_reference.specs.Machine.{Running, Machine}

abbrev pub copy_at : ℕ → Tables → Savepoint → Saved
copy_at tx tables s = record { name = s.name; tables = undone tx s.seq tables; seq = s.seq }

-- the tables with these definitions, and no more tables than definitions
abbrev pub with_defs : Defs → Tables → Tables
with_defs [] tables = []
with_defs (def ∷ defs) [] = []
with_defs (def ∷ defs) (t ∷ ts) = with_def def t ∷ with_defs defs ts

-- with the definitions from before the first statement that changed some, where there was one
abbrev pub restored : Option Defs → Tables → Tables
restored None tables = tables
restored (Some defs) tables = with_defs defs tables

-- what is to be restored after a statement that changes definitions, before which they were these
abbrev pub first_defs : Option Defs → Defs → Option Defs
first_defs None now = Some now
first_defs (Some defs) now = Some defs

-- the state of a script over these tables
unfoldable pub state_of : Tables → RunningScript → State
state_of tables b = record { tables = tables; seq = b.seq; saved = map (copy_at b.tx tables) b.saved }

-- the tables before it
unfoldable pub before : Tables → RunningScript → Tables
before tables b = restored b.defs (undone b.tx 0 tables)

abbrev pub running_of : Tables → RunningScript → Running
running_of tables b = record { tx = b.tx; explicit = b.explicit; state = state_of tables b }

abbrev pub machine_of : Tables → Option RunningScript → Machine
machine_of tables None = record { tables = tables; script = None }
machine_of tables (Some b) = record { tables = before tables b; script = Some (running_of tables b) }

-- no more definitions are to be restored than there are tables
abbrev pub HasPlaces : Option Defs → Tables → Type 0
HasPlaces None tables = Unit {0}
HasPlaces (Some defs) tables = length defs ≤ length tables

abbrev pub HavePlaces : Tables → Option RunningScript → Type 0
HavePlaces tables None = Unit {0}
HavePlaces tables (Some b) = HasPlaces b.defs tables
