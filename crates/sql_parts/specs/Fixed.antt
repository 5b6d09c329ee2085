-- What a condition fixes a column to.
use Rattle.std.specs.Prelude.{Option, None}
use Rattle.sql_value.specs.declared.value.Value.{Value}
use Rattle.sql_value.specs.declared.column.ColumnDef.{ColumnDef}
use Rattle.sql_value.specs.declared.expr.Op.TheVariants as op
use Rattle.sql_value.specs.Tree.{Tree, binary}
use Rattle.spec_model.specs.Lists.{or_else}
use Rattle.spec_model.specs.Where.{fixed_value, equality}

-- by the tree of the condition: the first of the parts joined by AND that fixes the column
abbrev pub fixed_in : ColumnDef → Tree → Option Value
fixed_in c (binary op.And a b) = or_else (fixed_in c a) (fixed_in c b)
fixed_in c (binary op.Eq a b) = fixed_value (equality a b) c
fixed_in c _ = None
