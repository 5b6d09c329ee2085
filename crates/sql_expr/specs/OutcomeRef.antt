-- What `OutcomeRef` stands for.
use Rattle.std.specs.Prelude.{Result, Ok, Err, ◌≡◌}
use Rattle.sql_value.specs.declared.value.Value.TheVariants as val
use Rattle.sql_value.specs.declared.refusal.Refusal.{Refusal}
use Rattle.sql_types.specs.declared.outcome.Outcome.{Outcome}
use Rattle.sql_types.specs.declared.outcome.Outcome.TheVariants as out
use Rattle.spec_model.specs.Evaluation.{Answer}
use Rattle.sql_expr.specs.declared.seen.OutcomeRef.{OutcomeRef}
use Rattle.sql_expr.specs.declared.seen.OutcomeRef.TheVariants.{Null, Number, Text, Bytes, Day, Truth}

-- the outcome that is seen
abbrev pub outcome_of : OutcomeRef → Outcome
outcome_of Null = out.Value val.Null
outcome_of (Number v s) = out.Value (val.Num s v)
outcome_of (Text t) = out.Value (val.Text t.now)
outcome_of (Bytes b) = out.Value (val.Bytes b.now)
outcome_of (Day d) = out.Value (val.Date d)
outcome_of (Truth t) = out.Truth t

-- what is seen is what is meant
abbrev pub Shows : Answer → Result OutcomeRef Refusal → Type 0
Shows meant (Ok s) = meant ≡ Ok (outcome_of s)
Shows meant (Err e) = meant ≡ Err e
