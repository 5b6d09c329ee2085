-- What holds of each ALTER TABLE and DROP TABLE that is read.
use Rattle.std.proofs.Common.{◌≡◌, ℕ, List, refl}
use Rattle.sql_types.specs.declared.statement.Alter.TheVariants.{DropColumn}
use Rattle.spec_syntax.specs.declared.tag.Tag.{Tag}
use Rattle.spec_syntax.specs.declared.tag.Tag.TheVariants as t
use Rattle.spec_syntax.specs.Input.{Input, tag, next, after, expect}
use Rattle.spec_syntax.specs.Expr.{name}
use Rattle.spec_syntax.specs.Table as b
use Rattle.spec_syntax.specs.Parsed.{IsName, IsType, IsAlter}
use Rattle.law_printing.proofs.Kept.{AreSyms, Holds, Always, then_keeps, map_keeps, next_ok, after_ok, expect_keeps, name_keeps}
use Rattle.law_printing.proofs.KeptTables.{type_keeps}

add_keeps : (table : List ℕ) → IsName table → (i : Input) → AreSyms i.rest → Holds IsAlter (b.add table i)
unfolding b.add
add_keeps table known i ok =
    then_keeps IsName IsAlter (λ x. _) (name i) (name_keeps i ok) (λ n named j more.
    then_keeps IsType IsAlter (λ x. _) (b.sql_type j) (type_keeps j more) (λ ty is k rest. ((known, (named, is, refl), refl), after_ok t.Null k rest)))

drop_column_keeps : (table : List ℕ) → IsName table → (i : Input) → AreSyms i.rest → Holds IsAlter (b.drop_column table i)
unfolding b.drop_column
drop_column_keeps table known i ok =
    then_keeps Always IsAlter (λ x. _) (expect t.Column i) (expect_keeps t.Column i ok) (λ z done j more.
    map_keeps IsName IsAlter (DropColumn table) (name j) (name_keeps j more) (λ n named. (known, named)))

alter_by_keeps : (table : List ℕ) → IsName table → (g : Tag) (i : Input) → AreSyms i.rest → Holds IsAlter (b.alter_by table g i)
alter_by_keeps table known t.Add i ok = add_keeps table known (next i) (next_ok i ok)
alter_by_keeps table known t.Drop i ok = drop_column_keeps table known (next i) (next_ok i ok)
alter_by_keeps table known _ i ok = tt

pub alter_keeps : (i : Input) → AreSyms i.rest → Holds IsAlter (b.alter_table i)
unfolding b.alter_table
alter_keeps i ok =
    then_keeps Always IsAlter (λ x. _) (expect t.Table i) (expect_keeps t.Table i ok) (λ z done j more.
    then_keeps IsName IsAlter (λ x. _) (name j) (name_keeps j more) (λ table known k rest. alter_by_keeps table known (tag k) k rest))

pub drop_keeps : (i : Input) → AreSyms i.rest → Holds IsName (b.drop_table i)
unfolding b.drop_table
drop_keeps i ok = then_keeps Always IsName (λ x. _) (expect t.Table i) (expect_keeps t.Table i ok) (λ z done j more. name_keeps j more)
