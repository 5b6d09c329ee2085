-- Text literals that are dates.
use Rattle.std.specs.Prelude.{ℕ, Option, None}
use Rattle.sql_value.specs.declared.value.Value.TheVariants.{Text}
use Rattle.sql_value.specs.Day.{day_of}
use Rattle.sql_value.specs.Tree.{Tree, literal}

-- the day that an expression writes: it is a text literal, and a date in the form `YYYY-MM-DD`
abbrev pub written_day : Tree → Option ℕ
written_day (literal (Text x)) = day_of x
written_day _ = None
