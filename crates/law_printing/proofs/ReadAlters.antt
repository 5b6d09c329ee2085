-- Printed ALTER TABLE and DROP TABLE are read as themselves.
use Rattle.std.proofs.Common.{◌≡◌, ◌∙◌, ℕ, Bool, true, List, [], ◌∷◌, ◌++◌, refl, ap, sym, subst}
use Rattle.sql_value.specs.declared.column.ColumnDef.{ColumnDef}
use Rattle.sql_types.specs.declared.statement.Alter.{Alter}
use Rattle.sql_types.specs.declared.statement.Alter.TheVariants.{Add, DropColumn}
use Rattle.spec_syntax.specs.declared.tag.Tag.TheVariants as t
use Rattle.spec_syntax.specs.Tags.{same_tag}
use Rattle.spec_syntax.specs.Input.{Sym, tag, next, sees, after, expect}
use Rattle.spec_syntax.specs.Table as b
use Rattle.spec_syntax.specs.Printed as p
use Rattle.spec_syntax.specs.Printed.{key}
use Rattle.spec_syntax.specs.PrintedStmt as s
use Rattle.spec_syntax.specs.Parsed.{IsColumn, IsAlter}
use Rattle.law_printing.proofs.Repeats.{at_}
use Rattle.law_printing.proofs.ReadTrees.{name_read}
use Rattle.law_printing.proofs.ReadTables.{sql_read}
use Rattle.law_printing.proofs.Gets.{Gets}

added_back : (d : ColumnDef) → IsColumn d → d.nullable ≡ true → b.added_column d.name d.ty ≡ d
added_back d is null =
    let f : Bool → ℕ → ColumnDef = λ c z. record { name = d.name; ty = d.ty; nullable = c; key_position = z } in
    ap (λ c. f c 0) (sym null) ∙ ap (λ z. f d.nullable z) (sym is.2)

added_gets : (table : List ℕ) (d : ColumnDef) (n : ℕ) → IsColumn d → d.nullable ≡ true → Gets (b.alter_table (at_ (key t.Table ∷ p.name table ∷ key t.Add ∷ p.name d.name ∷ (s.sql_type d.ty ++ key t.Null ∷ [])) n)) (Add table d) []
unfolding b.alter_table b.add tag expect sees after next same_tag
added_gets table d n is null =
    let null_ = key t.Null ∷ [] in
    rw (name_read table (key t.Add ∷ p.name d.name ∷ (s.sql_type d.ty ++ null_)) n)
    (rw (name_read d.name (s.sql_type d.ty ++ null_) n) (rw (sql_read d.ty null_ n is.1) (ap (Add table) (added_back d is null), refl)))

add_gets : (table : List ℕ) (d : ColumnDef) (n : ℕ) → IsColumn d → d.nullable ≡ true → Gets (b.alter_table (at_ (key t.Table ∷ p.name table ∷ key t.Add ∷ s.column d) n)) (Add table d) []
unfolding s.column s.nullable
add_gets table d n is null =
    let P : Bool → Type 0 = λ c. Gets (b.alter_table (at_ (key t.Table ∷ p.name table ∷ key t.Add ∷ p.name d.name ∷ (s.sql_type d.ty ++ s.nullable c)) n)) (Add table d) [] in
    subst P (sym null) (added_gets table d n is null)

drop_column_gets : (table c : List ℕ) (n : ℕ) → Gets (b.alter_table (at_ (key t.Table ∷ p.name table ∷ key t.Drop ∷ key t.Column ∷ p.name c ∷ []) n)) (DropColumn table c) []
unfolding b.alter_table b.drop_column tag expect sees next same_tag
drop_column_gets table c n = rw (name_read table (key t.Drop ∷ key t.Column ∷ p.name c ∷ []) n) (rw (name_read c [] n) (refl, refl))

-- what is printed behind ALTER
abbrev pub behind_alter : Alter → List Sym
behind_alter (Add table d) = key t.Table ∷ p.name table ∷ key t.Add ∷ s.column d
behind_alter (DropColumn table c) = key t.Table ∷ p.name table ∷ key t.Drop ∷ key t.Column ∷ p.name c ∷ []

pub alter_gets : (x : Alter) (n : ℕ) → IsAlter x → Gets (b.alter_table (at_ (behind_alter x) n)) x []
alter_gets (Add table d) n is = add_gets table d n is.1 is.2
alter_gets (DropColumn table c) n is = drop_column_gets table c n

pub drop_gets : (c : List ℕ) (n : ℕ) → Gets (b.drop_table (at_ (key t.Table ∷ p.name c ∷ []) n)) c []
unfolding b.drop_table expect sees next same_tag
drop_gets c n = rw (name_read c [] n) (refl, refl)
