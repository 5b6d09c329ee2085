-- A definition that rows may spell has a spelling in bytes.
use Rattle.std.proofs.Common.{◌≡◌, ◌<◌, ◌≤◌, ◌+◌, ◌^◌, ℕ, refl, Bool, true, false, List, [], ◌∷◌, length, map, arith}
use Rattle.std.proofs.lemmas.Bool.{lt-ltb}
use Rattle.std.proofs.lemmas.Bool.Decides.{nat_tests, Decides-eqb}
use Rattle.std.specs.Bool.{Decides}
use Rattle.std.specs.Prelude.{◌&&◌, ◌||◌, ◌==◌, not, nat_le, if◌then◌else◌}
use Rattle.std.specs.List.{AllByRecursion, list_all, range_with_len}
use Rattle.sql_value.specs.Stored.{is_in_range}
use Rattle.sql_value.specs.declared.column.ColumnDef.{ColumnDef}
use Rattle.sql_types.specs.declared.table.IndexDef.{IndexDef}
use Rattle.sql_types.specs.declared.table.TableDef.{TableDef}
use Rattle.spec_model.specs.Agreement.{IdsFrom}
use Rattle.spec_model.specs.Catalog.{Defs}
use Rattle.spec_model.specs.Create.{names_of, table_names, is_ledger_name, has_null_key}
use Rattle.spec_model.specs.Lists.{numbered, repeats, rise_within, is_among}
use Rattle.law_catalog_rows.specs.IsEncodableDef.{is_proper_name, has_its_history, dropped_are_right, is_between, greatest, number_repeats, are_key_positions, positions_of, is_encodable_column, is_encodable_index, is_encodable_def}
use Rattle.format_image.specs.DefBytes.{IsColumn, IsIndex, IsDef, ids_rise}

-- ---- tests

pub front : (a b : Bool) → (a && b) ≡ true → a ≡ true
front true b e = refl
front false b e = cc

pub last : (a b : Bool) → (a && b) ≡ true → b ≡ true
last true b e = e
last false b e = cc

at_most : (a b : ℕ) → nat_le a b ≡ true → a ≤ b
at_most a b e = grind (arith, nat_tests)

upper : (low high n : ℕ) → is_between low high n ≡ true → n ≤ high
upper low high n e = at_most n high (last (nat_le low n) (nat_le n high) e)

-- ---- columns

-- all of them, where a greater one may stand in front
greatest_rest : (n : ℕ) (ns : List ℕ) → greatest (n ∷ ns) ≤ 4 → (n ≤ 4) × (greatest ns ≤ 4)
greatest_rest n ns le = here (nat_le n (greatest ns)) refl le
  where
    here : (b : Bool) → nat_le n (greatest ns) ≡ b → (if b then greatest ns else n) ≤ 4 → (n ≤ 4) × (greatest ns ≤ 4)
    here true e l = let less : n ≤ greatest ns = at_most n (greatest ns) e in (omega (arith, less, l), l)
    here false e l = let more : greatest ns < n = grind (arith, nat_tests, e) in (l, omega (arith, more, l))

few_positions : (columns : List ColumnDef) → greatest (positions_of columns) ≤ 4 → AllByRecursion (λ (c : ColumnDef). c.key_position ≤ 4) columns
few_positions [] le = tt
few_positions (c ∷ cs) le = here (c.key_position == 0) (Decides-eqb c.key_position 0) le (few_positions cs)
  where
    here : (b : Bool) → Decides b (c.key_position ≡ 0) → greatest (if not b then c.key_position ∷ positions_of cs else positions_of cs) ≤ 4
        → (greatest (positions_of cs) ≤ 4 → AllByRecursion (λ (d : ColumnDef). d.key_position ≤ 4) cs) → AllByRecursion (λ (d : ColumnDef). d.key_position ≤ 4) (c ∷ cs)
    here true d l more = let zero : c.key_position ≡ 0 = d.0 refl in (omega (arith, zero), more l)
    here false d l more = let r = greatest_rest c.key_position (positions_of cs) l in (r.0, more r.1)

column_is : (c : ColumnDef) → is_encodable_column c ≡ true → c.key_position ≤ 4 → IsColumn c
column_is c e le =
    let ranged : (is_in_range c.ty && is_proper_name c.name) ≡ true = front (is_in_range c.ty && is_proper_name c.name) (not (is_ledger_name c.name)) e in
    record {
      name = last (is_in_range c.ty) (is_proper_name c.name) ranged;
      ty = front (is_in_range c.ty) (is_proper_name c.name) ranged;
      key_position = omega (arith, le);
    }

columns_are : (cs : List ColumnDef) → list_all is_encodable_column cs ≡ true → AllByRecursion (λ (c : ColumnDef). c.key_position ≤ 4) cs → AllByRecursion IsColumn cs
columns_are [] e le = tt
columns_are (c ∷ cs) e le = (column_is c (front (is_encodable_column c) (list_all is_encodable_column cs) e) le.0, columns_are cs (last (is_encodable_column c) (list_all is_encodable_column cs) e) le.1)

-- ---- indexes

ordinals_are : (columns : ℕ) (os : List ℕ) → columns ≤ 64 → list_all (is_between 1 columns) os ≡ true → AllByRecursion (λ o. o < 2 ^ 16) os
ordinals_are columns [] le e = tt
ordinals_are columns (o ∷ os) le e =
    let up : o ≤ columns = upper 1 columns o (front (is_between 1 columns o) (list_all (is_between 1 columns) os) e) in
    (omega (arith, up, le), ordinals_are columns os le (last (is_between 1 columns o) (list_all (is_between 1 columns) os) e))

-- the tests of an index, one before the other
index_is : (columns : ℕ) (i : IndexDef) → columns ≤ 64 → is_encodable_index columns i ≡ true → IsIndex i
index_is columns i le e =
    let name : Bool = is_proper_name i.name in
    let count : Bool = is_between 1 4 (length i.ordinals) in
    let all : Bool = list_all (is_between 1 columns) i.ordinals in
    let three : (name && count && all) ≡ true = front (name && count && all) (not (number_repeats i.ordinals)) e in
    let two : (name && count) ≡ true = front (name && count) all three in
    let few : length i.ordinals ≤ 4 = upper 1 4 (length i.ordinals) (last name count two) in
    record {
      name = front name count two;
      count = omega (arith, few);
      ordinals = ordinals_are columns i.ordinals le (last (name && count) all three);
    }

indexes_are : (columns : ℕ) (is : List IndexDef) → columns ≤ 64 → list_all (is_encodable_index columns) is ≡ true → AllByRecursion IsIndex is
indexes_are columns [] le e = tt
indexes_are columns (i ∷ is) le e = (index_is columns i le (front (is_encodable_index columns i) (list_all (is_encodable_index columns) is) e), indexes_are columns is le (last (is_encodable_index columns i) (list_all (is_encodable_index columns) is) e))

-- ---- definitions

-- what is said of a definition, one after the other
pub record Said (def : TableDef) : Type 0 where
  pub id : is_between 3 34 def.id ≡ true
  pub name : is_proper_name def.name ≡ true
  pub history : has_its_history def.kind def.history ≡ true
  pub view : is_proper_name def.view ≡ true
  pub dropped : dropped_are_right def ≡ true
  pub column_count : is_between 1 64 (length def.columns) ≡ true
  pub columns : list_all is_encodable_column def.columns ≡ true
  pub positions : are_key_positions (positions_of def.columns) ≡ true
  pub index_count : nat_le (length def.indexes) 4 ≡ true
  pub indexes : list_all (is_encodable_index (length def.columns)) def.indexes ≡ true

pub said : (def : TableDef) → is_encodable_def def ≡ true → Said def
said def e =
    let id : Bool = is_between 3 34 def.id in
    let name : Bool = is_proper_name def.name in
    let history : Bool = has_its_history def.kind def.history in
    let view : Bool = is_proper_name def.view in
    let own : Bool = not (repeats (table_names def)) in
    let all : Bool = dropped_are_right def in
    let count : Bool = is_between 1 64 (length def.columns) in
    let columns : Bool = list_all is_encodable_column def.columns in
    let names : Bool = not (repeats (names_of def.columns)) in
    let positions : Bool = are_key_positions (positions_of def.columns) in
    let null : Bool = not (has_null_key def) in
    let few : Bool = nat_le (length def.indexes) 4 in
    let indexes : Bool = list_all (is_encodable_index (length def.columns)) def.indexes in
    let e12 = front (id && name && history && view && own && all && count && columns && names && positions && null && few && indexes) (not (repeats (map (λ (i : IndexDef). i.name) def.indexes))) e in
    let e11 = front (id && name && history && view && own && all && count && columns && names && positions && null && few) indexes e12 in
    let e10 = front (id && name && history && view && own && all && count && columns && names && positions && null) few e11 in
    let e9 = front (id && name && history && view && own && all && count && columns && names && positions) null e10 in
    let e8 = front (id && name && history && view && own && all && count && columns && names) positions e9 in
    let e7 = front (id && name && history && view && own && all && count && columns) names e8 in
    let e6 = front (id && name && history && view && own && all && count) columns e7 in
    let e5 = front (id && name && history && view && own && all) count e6 in
    let e45 = front (id && name && history && view && own) all e5 in
    let e4 = front (id && name && history && view) own e45 in
    let e3 = front (id && name && history) view e4 in
    let e2 = front (id && name) history e3 in
    record {
      id = front id name e2;
      name = last id name e2;
      history = last (id && name) history e3;
      view = last (id && name && history) view e4;
      dropped = last (id && name && history && view && own) all e5;
      column_count = last (id && name && history && view && own && all) count e6;
      columns = last (id && name && history && view && own && all && count) columns e7;
      positions = last (id && name && history && view && own && all && count && columns && names) positions e9;
      index_count = last (id && name && history && view && own && all && count && columns && names && positions && null) few e11;
      indexes = last (id && name && history && view && own && all && count && columns && names && positions && null && few) indexes e12;
    }

few_keys : (ps : List ℕ) → are_key_positions ps ≡ true → greatest ps ≤ 4
few_keys ps e =
    let within : Bool = is_between 1 4 (greatest ps) in
    let all : Bool = list_all (is_among ps) (range_with_len 1 (greatest ps)) in
    upper 1 4 (greatest ps) (front within all (front (within && all) (not (number_repeats ps)) e))

-- the ordinals of dropped columns rise, as the bytes want it
they_rise_within : (def : TableDef) → dropped_are_right def ≡ true → rise_within 0 (length def.columns) def.dropped ≡ true
they_rise_within def e =
    front (rise_within 0 (length def.columns) def.dropped) (list_all (λ c. not (is_among def.dropped c.0) || c.1.key_position == 0) (numbered 1 def.columns)) e

pub def_is : (def : TableDef) → is_encodable_def def ≡ true → IsDef def
def_is def e =
    let s = said def e in
    let id : def.id ≤ 34 = upper 3 34 def.id s.id in
    let columns : length def.columns ≤ 64 = upper 1 64 (length def.columns) s.column_count in
    let indexes : length def.indexes ≤ 4 = at_most (length def.indexes) 4 s.index_count in
    record {
      id = omega (arith, id);
      name = s.name;
      history = s.history;
      view = s.view;
      column_count = omega (arith, columns);
      columns = columns_are def.columns s.columns (few_positions def.columns (few_keys (positions_of def.columns) s.positions));
      dropped = they_rise_within def s.dropped;
      index_count = omega (arith, indexes);
      indexes = indexes_are (length def.columns) def.indexes columns s.indexes;
    }

pub defs_are : (defs : Defs) → AllByRecursion (λ (d : TableDef). is_encodable_def d ≡ true) defs → AllByRecursion IsDef defs
defs_are [] h = tt
defs_are (d ∷ ds) h = (def_is d h.0, defs_are ds h.1)

pub they_rise : (n below : ℕ) (defs : Defs) → below < n → IdsFrom n defs → ids_rise below defs ≡ true
they_rise n below [] lt ids = refl
they_rise n below (d ∷ ds) lt ids =
    let own : d.id ≡ n = ids.0 in
    rw (lt-ltb below d.id (omega (arith, lt, own))) (they_rise (n + 1) d.id ds (omega (arith, own)) ids.1)
