-- Append-only tables keep all their rows.
use Rattle.std.specs.Prelude.{◌≡◌, None}
use Rattle.std.specs.List.{AllByRecursion}
use Rattle.sql_value.specs.declared.column.TableKind.TheVariants.{AppendOnly}
use Rattle.sql_types.specs.declared.version.Table.{Table}
use Rattle.spec_model.specs.Catalog.{Tables}

-- if the table is append-only, none of its versions has an end
abbrev pub KeepsRows : Table → Type 0
KeepsRows t = t.def.kind ≡ AppendOnly → AllByRecursion (λ v. v.end ≡ None) t.versions

abbrev pub AllKeepRows : Tables → Type 0
AllKeepRows tables = AllByRecursion KeepsRows tables
