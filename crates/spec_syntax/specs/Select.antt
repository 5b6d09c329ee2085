-- SELECT: a rule of the grammar for each definition.
use Rattle.std.specs.Prelude.{ℕ, Bool, false, if◌then◌else◌, List, []}
use Rattle.sql_types.specs.declared.statement.Select.{Select}
use Rattle.sql_types.specs.declared.statement.SelectList.{SelectList}
use Rattle.sql_types.specs.declared.statement.SelectList.TheVariants.{All, Columns, Aggs}
use Rattle.sql_types.specs.declared.statement.Agg.{Agg}
use Rattle.sql_types.specs.declared.statement.Agg.TheVariants as aggregate
use Rattle.spec_syntax.specs.declared.tag.Tag.TheVariants as t
use Rattle.spec_syntax.specs.declared.word.CallName.{CallName}
use Rattle.spec_syntax.specs.declared.word.CallName.TheVariants as call
use Rattle.spec_syntax.specs.Input.{Parser, ◌>>=◌, ◌>>◌, ◌<$>◌, pure, refuse, eat, expect, list, calls}
use Rattle.spec_syntax.specs.Expr.{name}
use Rattle.spec_syntax.specs.Words.{call_word}
use Rattle.spec_syntax.specs.Row.{names, filter}

abbrev pub agg_by : CallName → Parser Agg
agg_by call.Count = expect t.Star >> pure aggregate.Count
agg_by call.Sum = aggregate.Sum <$> name
agg_by _ = refuse

-- COUNT '(' '*' ')' | SUM '(' name ')'
unfoldable pub agg : Parser Agg
agg = do
  word ← call_word
  expect t.Open
  found ← agg_by word
  expect t.Close
  pure found

abbrev pub aggs : Parser (List Agg)
aggs = list agg

-- '*' | name {',' name} | agg {',' agg}. No name of a column has a '(' behind it.
unfoldable pub what : Parser SelectList
what = λ i.
    if calls i then (Aggs <$> aggs) i
    else (do star ← eat t.Star; if star then pure All else Columns <$> names) i

-- [ASC | DESC], true for DESC
unfoldable pub falls : Parser Bool
falls = do
  rises ← eat t.Asc
  if rises then pure false else eat t.Desc

unfoldable pub sort : Parser (List ℕ × Bool)
sort = do
  column ← name
  down ← falls
  pure (column, down)

abbrev pub sorts : Parser (List (List ℕ × Bool))
sorts = list sort

-- [ORDER BY name [ASC | DESC] {',' name [ASC | DESC]}]
unfoldable pub order : Parser (List (List ℕ × Bool))
order = do
  sorted ← eat t.Order
  if sorted then expect t.By >> sorts else pure []

-- none where there are aggregates
abbrev pub order_of : SelectList → Parser (List (List ℕ × Bool))
order_of (Aggs all) = pure []
order_of _ = order

-- what FROM name [WHERE expr] [ORDER BY ..]
unfoldable pub select : Parser Select
select = do
  shown ← what
  expect t.From
  from ← name
  filtered ← filter
  by ← order_of shown
  pure (record { table = from; what = shown; cond = filtered; order = by })
