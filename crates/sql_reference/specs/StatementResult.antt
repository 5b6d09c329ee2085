-- What code answers of an effect that may lack memory.
use Rattle.std.specs.Prelude.{ℕ, ◌≡◌, ◌≢◌, Option, List, Some, Result, Ok, Err}
use Rattle.sql_value.specs.declared.refusal.Refusal.{Refusal}
use Rattle.sql_value.specs.declared.refusal.Refusal.TheVariants.{NoMemory}
use Rattle.sql_types.specs.declared.reply.Reply.TheVariants as r
use Rattle.sql_types.specs.declared.statement.Stmt.{Stmt}
use Rattle.sql_types.specs.declared.statement.RowStmt.{RowStmt}
use Rattle.sql_types.specs.declared.statement.Select.{Select}
use Rattle.spec_model.specs.Refusals.{Checked, and_then}
use Rattle.spec_model.specs.Rows.{Row}
use Rattle.spec_model.specs.Alter.{Altered}
use Rattle.spec_model.specs.Catalog.{Defs, Tables, defs_of, versions_of}
use Rattle.spec_model.specs.Changes.{Changes, row_changes}
use Rattle.spec_model.specs.Checks.{row_statement_check}
use Rattle.spec_model.specs.Query.{query_check}
use Rattle.spec_model.specs.Effect.{Effect, effect, query_rows}
use Rattle.law_journal.specs.Kept.{Kept}
use Rattle.law_journal.specs.Described.{Described}
use Rattle.base_types.specs.declared.memory.Memory.{Memory}
use Rattle.sql_types.specs.declared.reply.Reply.{Reply}
use Rattle.spec_model.specs.Script.{State, Step, by_effect}
use Rattle.sql_reference.specs.declared.begun.RunningScript.{RunningScript}
use Rattle.sql_reference.specs.declared.effect.StatementResult.{StatementResult}
use Rattle.sql_reference.specs.Machine.{moved}
use Rattle.sql_reference.specs.Order.{InOrder}
use Rattle.sql_reference.specs.Seen.{HasPlaces, running_of, state_of, machine_of}
use Rattle.sql_reference.specs.declared.altering.AlteredTable.{AlteredTable}
use Rattle.sql_reference.specs.declared.changing.PlannedChanges.{PlannedChanges}

-- the effect that is meant, with the tables after it; or a refusal that leaves the tables; or that there is
-- no more memory
abbrev pub MatchesEffectUnlessOom : Effect → Tables → Tables → ℕ → Result StatementResult Refusal → Type 0
MatchesEffectUnlessOom e old new seq (Ok done) = e ≡ record { tables = new; seq = done.seq; reply = done.reply }
MatchesEffectUnlessOom e old new seq (Err refusal) = refusal ≢ NoMemory
    → (e ≡ record { tables = old; seq = seq; reply = r.Refused refusal }) × (new ≡ old)

-- tables before the event of transaction tx with the number seq
abbrev pub IsReady : ℕ → ℕ → Tables → Type 0
IsReady tx seq tables = ((place : ℕ → ℕ) × Kept place tx seq tables) × Described tables

-- the starts and ends that a row statement makes, in the table with this id, and the number of rows that it
-- replies
abbrev pub changes_worked_out : Tables → RowStmt → Checked (ℕ × Changes)
changes_worked_out tables stmt =
    and_then (row_statement_check (defs_of tables) stmt) (λ def.
    and_then (row_changes def (versions_of tables def.id) stmt) (λ c. Ok (def.id, c)))

abbrev pub PlanMatchesUnlessOom : Checked (ℕ × Changes) → Result PlannedChanges Refusal → Type 0
PlanMatchesUnlessOom meant (Ok p) = meant ≡ Ok (p.id, (p.changes, p.count))
PlanMatchesUnlessOom meant (Err e) = e ≢ NoMemory → meant ≡ Err e

-- what ALTER TABLE or DROP TABLE makes
abbrev pub altered_of : AlteredTable → Altered
altered_of a = record { def = a.def; first = a.first; second = a.second }

abbrev pub AlteredMatchesUnlessOom : Checked Altered → Result AlteredTable Refusal → Type 0
AlteredMatchesUnlessOom meant (Ok a) = meant ≡ Ok (altered_of a)
AlteredMatchesUnlessOom meant (Err e) = e ≢ NoMemory → meant ≡ Err e

-- the rows that a SELECT shows
abbrev pub rows_shown : Tables → Select → Checked (List Row)
rows_shown tables q = and_then (query_check (defs_of tables) q) (λ n.
    query_rows q n (versions_of tables n.0.id))

-- ---- in a script

-- the effect that is meant, with the script's counter and these definitions to restore after it; or a refusal
-- that leaves
-- everything; or that there is no more memory
abbrev pub CarriesOutUnlessOom : Effect → Option Defs → Tables → RunningScript → Tables → RunningScript → Result Reply Refusal → Type 0
CarriesOutUnlessOom e defs T b U c (Ok reply) =
    (e ≡ record { tables = U; seq = c.seq; reply = reply })
    × (c ≡ record { tx = b.tx; explicit = b.explicit; seq = c.seq; saved = b.saved; defs = defs })
CarriesOutUnlessOom e defs T b U c (Err refusal) = refusal ≢ NoMemory
    → (e ≡ record { tables = T; seq = b.seq; reply = r.Refused refusal }) × (U ≡ T) × (c ≡ b)

-- the step that a table statement makes
abbrev pub carried : ℕ → State → Stmt → Step
carried tx x stmt = by_effect x (effect x.tables tx x.seq stmt)

-- the machine after a step
pub record Stepped (T : Tables) (b : RunningScript) (U : Tables) (c : RunningScript)
    (step : Step) (reply : Reply) : Type 0 where
  pub reply_is : reply ≡ step.1
  pub machine : machine_of U (Some c) ≡ moved (machine_of T (Some b)) (running_of T b) step.0
  pub order : InOrder (machine_of U (Some c))
  pub places : HasPlaces c.defs U

-- the step that is meant; or a refusal that leaves everything; or that there is no more memory
abbrev pub StepsUnlessOom : Tables → RunningScript → Tables → RunningScript → Step → Result Reply Refusal → Type 0
StepsUnlessOom T b U c step (Ok reply) = Stepped T b U c step reply
StepsUnlessOom T b U c step (Err e) = e ≢ NoMemory → (step ≡ (state_of T b, r.Refused e)) × (U ≡ T) × (c ≡ b)

-- the step that is meant, or that there is no more memory
abbrev pub AnswersUnlessOom : Tables → RunningScript → Tables → RunningScript → Step → Result Reply Memory → Type 0
AnswersUnlessOom T b U c step (Ok reply) = Stepped T b U c step reply
AnswersUnlessOom T b U c step (Err e) = Unit {0}
