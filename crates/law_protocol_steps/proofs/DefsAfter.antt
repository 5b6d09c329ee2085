-- The definition of a table after a CREATE.
use Rattle.std.proofs.Common.{◌≡◌, ◌≢◌, ℕ, ◌+◌, ◌≤◌, Bool, true, false, List, [], ◌∷◌, ◌++◌, Option, Some, None, Ok, Err, refl, sym, ap, ◌∙◌, subst, arith}
use Rattle.std.proofs.lemmas.Bool.{eq-eqb, ne_eqb, eqb-true}
use Rattle.std.specs.Prelude.{◌==◌, if◌then◌else◌}
use Rattle.sql_types.specs.declared.statement.Stmt.{Stmt}
use Rattle.sql_types.specs.declared.statement.Stmt.TheVariants as st
use Rattle.sql_types.specs.declared.statement.CreateIndex.{CreateIndex}
use Rattle.sql_types.specs.declared.table.Part.{Part}
use Rattle.sql_types.specs.declared.table.TableDef.{TableDef}
use Rattle.sql_types.specs.declared.table.IndexDef.{IndexDef}
use Rattle.spec_model.specs.Refusals.{Checked}
use Rattle.spec_model.specs.Catalog.{Defs, NamedPart, Tables, defs_of, versions_of, part_named, or_in, find_part}
use Rattle.spec_model.specs.Create.{create_check, index_check, with_index}
use Rattle.spec_model.specs.SystemTables.{tables_id, columns_id}
use Rattle.spec_model.specs.Agreement.{IdsFrom, columns_at}
use Rattle.spec_model.specs.Alter.{Altered, alteration, table_drop}
use Rattle.spec_model.specs.ChangeSets.{Definition, as_before, new, in_place, altered, defined, create_table_change_set, create_index_change_set, altered_change_set, change_set}
use Rattle.spec_model.specs.Reach.{creates}
use Rattle.law_frame.proofs.Definitions.{change_set_keeps}
use Rattle.spec_protocol.proofs.Created.{indexed}
use Rattle.spec_protocol.proofs.DefLists.{redef, defs_redefined}
use Rattle.spec_protocol.specs.TablesAreSerial.{def_at}

-- ---- by id

pub record IsFound (n : ℕ) (defs : Defs) (def : TableDef) : Type 0 where
  pub from : n ≤ def.id
  pub at : def_at defs def.id ≡ Some def

-- what a name finds is the definition with its id
pub found_at : (n : ℕ) (defs : Defs) (name : List ℕ) (found : NamedPart) → IdsFrom n defs → find_part defs name ≡ Some found → IsFound n defs found.0
unfolding find_part
found_at n [] name found ids e = cc
found_at n (d ∷ defs) name found ids e = by (part_named d name) e (λ h. found_at (n + 1) defs name found ids.1 h)
  where
    by : (o : Option Part) → or_in o d (find_part defs name) ≡ Some found → (find_part defs name ≡ Some found → IsFound (n + 1) defs found.0) → IsFound n (d ∷ defs) found.0
    by (Some p) f rest = let same : (d, p) ≡ found = cc in
        subst (λ (x : NamedPart). IsFound n (d ∷ defs) x.0) same (record { from = omega (arith, ids.0); at = rw (eq-eqb d.id d.id refl) refl })
    by None f rest = let r = rest f in record { from = omega (arith, r.from); at = rw (ne_eqb d.id (found.0).id (λ q. absurd (omega (arith, ids.0, r.from, q)))) r.at }

-- the definition found has the id
pub found_id : (defs : Defs) (id : ℕ) (def : TableDef) → def_at defs id ≡ Some def → def.id ≡ id
found_id [] id def e = cc
found_id (d ∷ defs) id def e = by (d.id == id) refl e (found_id defs id def)
  where
    by : (b : Bool) → (d.id == id) ≡ b → (if b then Some d else def_at defs id) ≡ Some def → (def_at defs id ≡ Some def → def.id ≡ id) → def.id ≡ id
    by true f h rest = let same : d ≡ def = cc in ap (λ (q : TableDef). q.id) (sym same) ∙ eqb-true d.id id f
    by false f h rest = rest h

-- it has the columns of the table
pub found_columns : (defs : Defs) (id : ℕ) (def : TableDef) → def_at defs id ≡ Some def → columns_at defs id ≡ def.columns
found_columns [] id def e = cc
found_columns (d ∷ defs) id def e = by (d.id == id) e (found_columns defs id def)
  where
    by : (b : Bool) → (if b then Some d else def_at defs id) ≡ Some def → (def_at defs id ≡ Some def → columns_at defs id ≡ def.columns) → (if b then d.columns else columns_at defs id) ≡ def.columns
    by true h rest = let same : d ≡ def = cc in ap (λ (q : TableDef). q.columns) same
    by false h rest = rest h

pub here_redefined : (def old : TableDef) (defs : Defs) → def_at defs def.id ≡ Some old → def_at (redef def defs) def.id ≡ Some def
here_redefined def old [] e = cc
here_redefined def old (d ∷ defs) e = by (d.id == def.id) refl (here_redefined def old defs)
  where
    by : (b : Bool) → (d.id == def.id) ≡ b → (def_at defs def.id ≡ Some old → def_at (redef def defs) def.id ≡ Some def) → def_at ((if b then def else d) ∷ redef def defs) def.id ≡ Some def
    by true f rest = rw (eq-eqb def.id def.id refl) refl
    by false f rest = rw f (rest (ap (λ (c : Bool). if c then Some d else def_at defs def.id) (sym f) ∙ e))

pub else_redefined : (def : TableDef) (id : ℕ) (defs : Defs) → id ≢ def.id → def_at (redef def defs) id ≡ def_at defs id
else_redefined def id [] ne = refl
else_redefined def id (d ∷ defs) ne = by (d.id == def.id) refl (else_redefined def id defs ne)
  where
    by : (b : Bool) → (d.id == def.id) ≡ b → def_at (redef def defs) id ≡ def_at defs id → def_at ((if b then def else d) ∷ redef def defs) id ≡ (if d.id == id then Some d else def_at defs id)
    by true f rest = let is = eqb-true d.id def.id f in rw (ne_eqb def.id id (λ q. ne (sym q)), ne_eqb d.id id (λ q. ne (sym q ∙ is))) rest
    by false f rest = ap (λ (o : Option TableDef). if d.id == id then Some d else o) rest

pub kept_append : (def old : TableDef) (id : ℕ) (defs : Defs) → def_at defs id ≡ Some old → def_at (defs ++ def ∷ []) id ≡ Some old
kept_append def old id [] e = cc
kept_append def old id (d ∷ defs) e = by (d.id == id) e (kept_append def old id defs)
  where
    by : (b : Bool) → (if b then Some d else def_at defs id) ≡ Some old → (def_at defs id ≡ Some old → def_at (defs ++ def ∷ []) id ≡ Some old) → (if b then Some d else def_at (defs ++ def ∷ []) id) ≡ Some old
    by true f rest = f
    by false f rest = rest f

pub new_append : (def : TableDef) (id : ℕ) (defs : Defs) → def_at defs id ≡ None → def_at (defs ++ def ∷ []) id ≡ (if def.id == id then Some def else None)
new_append def id [] e = refl
new_append def id (d ∷ defs) e = by (d.id == id) e (new_append def id defs)
  where
    by : (b : Bool) → (if b then Some d else def_at defs id) ≡ None → (def_at defs id ≡ None → def_at (defs ++ def ∷ []) id ≡ (if def.id == id then Some def else None)) → (if b then Some d else def_at (defs ++ def ∷ []) id) ≡ (if def.id == id then Some def else None)
    by true f rest = cc
    by false f rest = rest f

-- ---- CREATE INDEX

-- the statement puts this definition in the place of its table's, with one index more
pub record IndexMade (T : Tables) (stmt : Stmt) (def : TableDef) : Type 0 where
  pub old : TableDef
  pub index : IndexDef
  pub is : def ≡ with_index old index
  pub at : def_at (defs_of T) def.id ≡ Some old
  pub creates : creates stmt ≡ true
  pub then_at : def_at (defs_of (defined (change_set T stmt).definition T)) def.id ≡ Some def

in_place_of : (T : Tables) (c : CreateIndex) (m : Checked (TableDef × IndexDef)) (def : TableDef) → IdsFrom 1 (defs_of T) → index_check (defs_of T) c ≡ m → (create_index_change_set m).definition ≡ in_place def → (change_set T (st.Index c)).definition ≡ in_place def → IndexMade T (st.Index c) def
in_place_of T c (Ok x) def ids e h plans =
    let i = indexed (defs_of T) c x e in
    let same : with_index x.0 x.1 ≡ def = cc in
    let found = found_at 1 (defs_of T) i.table i.found ids i.by_name in
    let at : def_at (defs_of T) x.0.id ≡ Some x.0 = subst (λ (d : TableDef). def_at (defs_of T) d.id ≡ Some d) i.is found.at in
    let here : def_at (defs_of T) def.id ≡ Some x.0 = subst (λ (d : TableDef). def_at (defs_of T) d.id ≡ Some x.0) same at in
    record {
      old = x.0;
      index = x.1;
      is = sym same;
      at = here;
      creates = refl;
      then_at = ap (λ (p : Definition). def_at (defs_of (defined p T)) def.id) plans ∙ ap (λ (ds : Defs). def_at ds def.id) (defs_redefined def T) ∙ here_redefined def x.0 (defs_of T) here;
    }
in_place_of T c (Err r) def ids e h plans = cc

table_not : (m : Checked TableDef) (def : TableDef) → (create_table_change_set m).definition ≡ in_place def → ⊥
table_not (Ok d) def e = let z : new d ≡ in_place def = e in cc
table_not (Err r) def e = let z : as_before ≡ in_place def = e in cc

pub altered_not : (m : Checked Altered) (def : TableDef) → (altered_change_set m).definition ≡ in_place def → ⊥
altered_not (Ok a) def e = let z : altered a.def ≡ in_place def = e in cc
altered_not (Err r) def e = let z : as_before ≡ in_place def = e in cc

pub index_made : (T : Tables) (stmt : Stmt) (def : TableDef) → IdsFrom 1 (defs_of T) → (change_set T stmt).definition ≡ in_place def → IndexMade T stmt def
unfolding change_set
index_made T stmt def ids e = by stmt e (creates stmt) refl
  where
    not_so : (q : Stmt) → (change_set T q).definition ≡ in_place def → creates q ≡ false → ⊥
    not_so q f k = let z : as_before ≡ in_place def = sym (change_set_keeps T q k) ∙ f in cc

    by : (q : Stmt) → (change_set T q).definition ≡ in_place def → (b : Bool) → creates q ≡ b → IndexMade T q def
    by (st.Index c) f b k = in_place_of T c (index_check (defs_of T) c) def ids refl f f
    by (st.Create c) f b k = absurd (table_not (create_check (defs_of T) c) def f)
    by (st.Alter a) f b k = absurd (altered_not (alteration (defs_of T) (versions_of T tables_id) (versions_of T columns_id) a) def f)
    by (st.Drop name) f b k = absurd (altered_not (table_drop (defs_of T) (versions_of T tables_id) (versions_of T columns_id) name) def f)
    by q f false k = absurd (not_so q f k)
    by q f true k = cc
