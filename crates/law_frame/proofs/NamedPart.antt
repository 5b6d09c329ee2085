-- The table that a name stands for is the one with its id.
use Rattle.std.proofs.Common.{◌≡◌, ℕ, ◌+◌, ◌≤◌, refl, subst, Bool, true, false, List, [], ◌∷◌, Option, Some, None, Ok, arith}
use Rattle.std.proofs.lemmas.Bool.{eq-eqb, ne_eqb}
use Rattle.std.specs.Prelude.{nat_le, if◌then◌else◌}
use Rattle.std.proofs.lemmas.Grind.{common_steps}
use Rattle.sql_value.specs.declared.refusal.Refusal.{Refusal}
use Rattle.sql_value.specs.declared.refusal.Refusal.TheVariants.{NoSuchTable}
use Rattle.sql_types.specs.declared.statement.RowStmt.{RowStmt}
use Rattle.sql_types.specs.declared.statement.Select.{Select}
use Rattle.sql_types.specs.declared.table.TableDef.{TableDef}
use Rattle.sql_types.specs.declared.table.Part.{Part}
use Rattle.sql_types.specs.declared.table.Part.TheVariants.{Base, History, View, System}
use Rattle.spec_model.specs.Refusals.{Checked, and_then, or_refused}
use Rattle.spec_model.specs.Parts.{columns_of}
use Rattle.spec_model.specs.Catalog.{is_named, Defs, NamedPart, own_part, part_named, or_in, find_part}
use Rattle.spec_model.specs.Checks.{row_check, table_of, row_statement_check}
use Rattle.spec_model.specs.Query.{select_check, query_check}
use Rattle.spec_model.specs.Agreement.{columns_at, IdsFrom}
use Rattle.law_frame.proofs.Checked.{Led, led}

-- a definition that stands among these
pub record IsAmongDefs (n : ℕ) (defs : Defs) (def : TableDef) : Type 0 where
  pub from : n ≤ def.id
  pub columns : columns_at defs def.id ≡ def.columns

passed_over : (n : ℕ) (d def : TableDef) (defs : Defs) → d.id ≡ n → n + 1 ≤ def.id → columns_at defs def.id ≡ def.columns → columns_at (d ∷ defs) def.id ≡ def.columns
passed_over n d def defs is far h = rw (ne_eqb d.id def.id (λ e. absurd (omega (arith, is, far, e)))) h

of_some : (n found : NamedPart) → Some n ≡ Some found → n ≡ found
of_some n found e = cc

at_once : (n : ℕ) (d : TableDef) (defs : Defs) (p : Part) (found : NamedPart) → d.id ≡ n → Some (d, p) ≡ Some found → IsAmongDefs n (d ∷ defs) found.0
at_once n d defs p found is e =
    subst (λ (x : NamedPart). IsAmongDefs n (d ∷ defs) x.0) (of_some (d, p) found e) (record { from = omega (arith, is); columns = rw (eq-eqb d.id d.id refl) refl })

by_part : (n : ℕ) (d : TableDef) (defs : Defs) (o : Option Part) (rest : Option NamedPart) (found : NamedPart) → d.id ≡ n → or_in o d rest ≡ Some found
    → (rest ≡ Some found → IsAmongDefs (n + 1) defs found.0) → IsAmongDefs n (d ∷ defs) found.0
by_part n d defs (Some p) rest found is e h = at_once n d defs p found is e
by_part n d defs None rest found is e h = let s = h e in record { from = omega (arith, s.from); columns = passed_over n d found.0 defs is s.from s.columns }

pub found_is_listed : (n : ℕ) (defs : Defs) (name : List ℕ) (found : NamedPart) → IdsFrom n defs → find_part defs name ≡ Some found → IsAmongDefs n defs found.0
unfolding find_part
found_is_listed n [] name found ids e = cc
found_is_listed n (d ∷ defs) name found ids e =
    by_part n d defs (part_named d name) (find_part defs name) found ids.0 e (λ h. found_is_listed (n + 1) defs name found ids.1 h)

-- ---- a system table has the id 1 or 2

pub named_part : (def : TableDef) (own : Part) (b c d : Bool) (rest : Option NamedPart) (found : NamedPart) (P : NamedPart → Type 0)
    → or_in (if b then Some own else (if c then Some History else (if d then Some View else None))) def rest ≡ Some found
    → P (def, own) → P (def, History) → P (def, View) → (rest ≡ Some found → P found) → P found
named_part def own true c d rest found P e p q r h = subst P (of_some (def, own) found e) p
named_part def own false true d rest found P e p q r h = subst P (of_some (def, History) found e) q
named_part def own false false true rest found P e p q r h = subst P (of_some (def, View) found e) r
named_part def own false false false rest found P e p q r h = h e

-- only a system table is a part of the system
abbrev pub IsSystem : NamedPart → Type 0
IsSystem n = n.1 ≡ System → n.0.id ≤ 2

own_is_system : (def : TableDef) (b : Bool) → nat_le def.id 2 ≡ b → (if b then System else Base) ≡ System → def.id ≤ 2
own_is_system def true e h = grind (arith, common_steps)
own_is_system def false e h = cc

pub found_is_system : (defs : Defs) (name : List ℕ) (found : NamedPart) → find_part defs name ≡ Some found → IsSystem found
unfolding find_part
found_is_system [] name found e = cc
found_is_system (d ∷ defs) name found e =
    named_part d (own_part d) (is_named d.name name) (is_named d.history name) (is_named d.view name) (find_part defs name) found IsSystem e
    (λ h. own_is_system d (nat_le d.id 2) refl h) (λ h. cc) (λ h. cc) (λ h. found_is_system defs name found h)

pub was_found : {A : Type 0} (e : Refusal) (o : Option A) (x : A) → or_refused e o ≡ Ok x → o ≡ Some x
was_found e (Some y) x h = cc
was_found e None x h = cc

abbrev passes : RowStmt → NamedPart → Checked TableDef
passes stmt n = and_then (row_check stmt n.0 n.1) (λ passed. Ok n.0)

-- a row statement that passes
pub record Passed (defs : Defs) (stmt : RowStmt) (def : TableDef) : Type 0 where
  pub found : NamedPart
  pub by_name : find_part defs (table_of stmt) ≡ Some found
  pub is : found.0 ≡ def
  pub check : row_check stmt found.0 found.1 ≡ Ok tt

pub passed : (defs : Defs) (stmt : RowStmt) (def : TableDef) → row_statement_check defs stmt ≡ Ok def → Passed defs stmt def
unfolding row_statement_check
passed defs stmt def e =
    let l : Led (or_refused NoSuchTable (find_part defs (table_of stmt))) (passes stmt) def = led _ _ def e in
    let k : Led (row_check stmt l.value.0 l.value.1) (λ passed. Ok l.value.0) def = led _ _ def l.then_ in
    record { found = l.value; by_name = was_found NoSuchTable (find_part defs (table_of stmt)) l.value l.was; is = cc; check = k.was }

-- its table is among those of the catalog
pub checked_is_listed : (defs : Defs) (stmt : RowStmt) (def : TableDef) → IdsFrom 1 defs → row_statement_check defs stmt ≡ Ok def → IsAmongDefs 1 defs def
checked_is_listed defs stmt def ids e =
    let p = passed defs stmt def e in
    subst (λ (d : TableDef). IsAmongDefs 1 defs d) p.is (found_is_listed 1 defs (table_of stmt) p.found ids p.by_name)

abbrev query_passes : Select → NamedPart → Checked NamedPart
query_passes q n = and_then (select_check (columns_of n.0 n.1) q) (λ passed. Ok n)

-- a SELECT that passes
pub record QueryPassed (defs : Defs) (q : Select) (n : NamedPart) : Type 0 where
  pub by_name : find_part defs q.table ≡ Some n
  pub check : select_check (columns_of n.0 n.1) q ≡ Ok tt

pub query_passed : (defs : Defs) (q : Select) (n : NamedPart) → query_check defs q ≡ Ok n → QueryPassed defs q n
unfolding query_check
query_passed defs q n e =
    let l : Led (or_refused NoSuchTable (find_part defs q.table)) (query_passes q) n = led _ _ n e in
    let k : Led (select_check (columns_of l.value.0 l.value.1) q) (λ passed. Ok l.value) n = led _ _ n l.then_ in
    let same : l.value ≡ n = cc in
    subst (QueryPassed defs q) same
    (record { by_name = was_found NoSuchTable (find_part defs q.table) l.value l.was; check = k.was })

pub query_is_listed : (defs : Defs) (q : Select) (n : NamedPart) → IdsFrom 1 defs → query_check defs q ≡ Ok n → IsAmongDefs 1 defs n.0
query_is_listed defs q n ids e = found_is_listed 1 defs q.table n ids (query_passed defs q n e).by_name
