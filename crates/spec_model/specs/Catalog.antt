-- The definitions of all tables, and what a name stands for among them.
use Rattle.std.specs.Prelude.{ℕ, ◌==◌, nat_le, Bool, false, if◌then◌else◌, List, [], ◌∷◌, map, Option, Some, None}
use Rattle.std.specs.Str.{bytes_eq}
use Rattle.sql_types.specs.declared.table.TableDef.{TableDef}
use Rattle.sql_types.specs.declared.table.Part.{Part}
use Rattle.sql_types.specs.declared.table.Part.TheVariants.{Base, History, View, System}
use Rattle.sql_types.specs.declared.version.Table.{Table}
use Rattle.sql_types.specs.declared.version.Version.{Version}

abbrev pub Defs : Type 0
Defs = List TableDef

abbrev pub Tables : Type 0
Tables = List Table

abbrev pub defs_of : Tables → Defs
defs_of tables = map (λ t. t.def) tables

-- a table, and the part of it that a name stands for
abbrev pub NamedPart : Type 0
NamedPart = TableDef × Part

-- the tables of the system have the ids 1 and 2
abbrev pub own_part : TableDef → Part
own_part def = if nat_le def.id 2 then System else Base

-- the name is this one; who has no name is found by none
abbrev pub is_named : List ℕ → List ℕ → Bool
is_named [] name = false
is_named own name = bytes_eq own name

-- the part of this table that has the name
abbrev pub part_named : TableDef → List ℕ → Option Part
part_named def name =
    if is_named def.name name then Some (own_part def)
    else (if is_named def.history name then Some History
    else (if is_named def.view name then Some View else None))

abbrev pub or_in : Option Part → TableDef → Option NamedPart → Option NamedPart
or_in (Some part) def rest = Some (def, part)
or_in None def rest = rest

-- the table or part of this name
unfoldable pub find_part : Defs → List ℕ → Option NamedPart
find_part [] name = None
find_part (def ∷ defs) name = or_in (part_named def name) def (find_part defs name)

-- the versions of the table with this id
abbrev pub versions_of : Tables → ℕ → List Version
versions_of [] id = []
versions_of (t ∷ ts) id = if t.def.id == id then t.versions else versions_of ts id

abbrev pub with_versions : (List Version → List Version) → Table → Table
with_versions f t = record { def = t.def; versions = f t.versions }

-- the tables after the versions of one of them have changed
abbrev pub changed_table : ℕ → (List Version → List Version) → Tables → Tables
changed_table id f tables = map (λ t. if t.def.id == id then with_versions f t else t) tables
