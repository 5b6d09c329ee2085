-- The workload, as the input of a run.
use Rattle.std.specs.Prelude.{ℕ, List, ◌∷◌, codes, map}
use Rattle.spec_history.specs.Inputs.{InputSession}
use Rattle.workload_generator.specs.Workload.{tables, setup_texts, session_name, session_texts}

-- the session that makes the tables
abbrev pub setup_session : InputSession
setup_session = record { name = codes "setup"; texts = setup_texts }

-- the session of a table, on so many rows
abbrev pub table_session : ℕ → ℕ → InputSession
table_session rows table = record { name = session_name table; texts = session_texts table rows }

-- the setup first, and then the session of each table
abbrev pub workload_input : ℕ → List InputSession
workload_input rows = setup_session ∷ map (table_session rows) tables
