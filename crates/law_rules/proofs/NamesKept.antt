-- Each statement keeps that the names and ids of tables are new at their places.
use Rattle.std.proofs.Common.{◌≡◌, ◌≤◌, ◌<◌, ◌⊎◌, ℕ, ℤ, pos, ◌+◌, inl, inr, refl, sym, ap, subst, ◌∙◌, arith, Bool, true, false, List, [], ◌∷◌, ◌++◌, map, length, Ok}
use Rattle.std.proofs.lemmas.Bool.{eqb-true, eqb-false}
use Rattle.std.proofs.lemmas.List.Concat.{flat_map-cons}
use Rattle.std.specs.Prelude.{◌==◌, if◌then◌else◌}
use Rattle.std.specs.List.{AllByRecursion, list_any, filter}
use Rattle.std.specs.List.Sorted.{IsPermutation}
use Rattle.sql_value.specs.declared.column.TableKind.{TableKind}
use Rattle.sql_value.specs.declared.column.TableKind.TheVariants.{AppendOnly, Updatable}
use Rattle.sql_value.specs.declared.value.Value.TheVariants.{Text}
use Rattle.sql_types.specs.declared.statement.CreateTable.{CreateTable}
use Rattle.sql_types.specs.declared.table.TableDef.{TableDef}
use Rattle.spec_model.specs.Agreement.{IdsFrom}
use Rattle.spec_model.specs.Alter.{added_to, dropped_from, dropped_table}
use Rattle.spec_model.specs.Catalog.{Defs}
use Rattle.spec_model.specs.Create.{is_name, table_names, all_names, create_check, with_index}
use Rattle.spec_model.specs.Lists.{has_name, repeats}
use Rattle.spec_model.specs.ProperNames.{is_proper_name, has_its_history}
use Rattle.spec_model.specs.Rows.{number}
use Rattle.spec_model.specs.SystemTables.{tables_def, columns_def, kind_code, history_value, table_row_with, table_row, kind_in_row, column_rows, changed_table_row}
use Rattle.spec_history.specs.Lists.{In}
use Rattle.law_frame.proofs.Alls.{all_weaker, all_both}
use Rattle.law_frame.proofs.Alterations.{TableDropped}
use Rattle.law_frame.proofs.SameKeys.{and_true}
use Rattle.law_journal.proofs.Created.{Created, created}
use Rattle.law_journal.proofs.DefLists.{IsOnly, redef}
use Rattle.law_catalog_rows.specs.Encoded.{IsAmong}
use Rattle.law_catalog_rows.specs.IsEncodableDef.{names_in, is_encodable_def}
use Rattle.law_catalog_rows.specs.Latest.{change_of}
use Rattle.law_catalog_rows.proofs.Defs.{HasId, has_id}
use Rattle.law_catalog_rows.proofs.Forms.{Made, made}
use Rattle.law_catalog_rows.proofs.Names.{in_neither, none_in_both}
use Rattle.spec_rules.specs.Places.{EventPlace, PlacedRow}
use Rattle.spec_rules.specs.Ids.{ids_follow}
use Rattle.spec_rules.specs.Rows.{is_about_table}
use Rattle.spec_rules.specs.TableNames.{names_of_table, names_are_new, table_names_are_new}
use Rattle.law_rules.specs.Steps.{Catalog, all_defs, nothing, Entered, Stands}
use Rattle.law_rules.proofs.Kept.{Around, IsNext, StepsKeep}
use Rattle.law_rules.proofs.NewIds.{IsFirst, FollowsOne, IdsSaid, ids_in_order, dropped_ids, created_ids, ids_keep_the_rule}
use Rattle.law_rules.proofs.InOrder.{all_in_order, all_of}
use Rattle.law_rules.proofs.Said.{IsOf, IsFree, Said, said_in_order, said_with, none_clashes}

-- ---- names of tables

-- tables' ids, each with the names that the table has
abbrev pub NamedTables : Type 0
NamedTables = List (ℕ × List (List ℕ))

-- one of the new names is one of the old
abbrev pub share_names : List (List ℕ) → List (List ℕ) → Bool
share_names new old = list_any (has_name old) new

-- the row's names differ, and are none of the system's
pub record AreOwn (w : PlacedRow) : Type 0 where
  pub differ : repeats (names_of_table w) ≡ false
  pub no_system : list_any (has_name (all_names (tables_def ∷ columns_def ∷ []))) (names_of_table w) ≡ false

pub record NamesSaid (rows : List PlacedRow) (N : NamedTables) : Type 0 where
  pub own : AllByRecursion AreOwn rows
  pub said : Said 0 names_of_table share_names rows N

names_in_order : (V W : List PlacedRow) → IsPermutation W V → (N : NamedTables) → NamesSaid V N → NamesSaid W N
names_in_order V W same N h = record { own = all_in_order AreOwn W V same h.own; said = said_in_order 0 names_of_table share_names V W same N h.said }

new_names : (rows : List PlacedRow) (w : PlacedRow) → AreOwn w → IsFree 0 names_of_table share_names rows w → names_are_new rows w ≡ true
new_names rows w own free = rw (own.differ, own.no_system, none_clashes 0 names_of_table share_names rows w free) refl

-- ---- definitions by their ids and names

abbrev pub named : Defs → NamedTables
named ds = map (λ (d : TableDef). (d.id, table_names d)) ds

abbrev pub ids_of : Defs → List ℕ
ids_of ds = map (λ (d : TableDef). d.id) ds

abbrev Fresh : List (List ℕ) → ℕ × List (List ℕ) → Type 0
Fresh names p = list_any (has_name p.1) names ≡ false

each_fresh : (names : List (List ℕ)) (ds : Defs) → list_any (has_name (all_names ds)) names ≡ false → AllByRecursion (Fresh names) (named ds)
each_fresh names [] e = tt
each_fresh names (d ∷ ds) e =
    let p = in_neither (table_names d) (all_names ds) names (ap (λ (ns : List (List ℕ)). list_any (has_name ns) names) (sym (flat_map-cons table_names d ds)) ∙ e) in
    (p.0, each_fresh names ds p.1)

none_in_empty : (names : List (List ℕ)) → list_any (has_name []) names ≡ false
none_in_empty [] = refl
none_in_empty (n ∷ ns) = none_in_empty ns

-- names that are none of all tables are none of the system's and none of others'
record FreeNames (ds : Defs) (names : List (List ℕ)) : Type 0 where
  system : list_any (has_name (all_names (tables_def ∷ columns_def ∷ []))) names ≡ false
  others : list_any (has_name (all_names ds)) names ≡ false

free_names : (ds : Defs) (names : List (List ℕ)) → list_any (has_name (all_names (tables_def ∷ columns_def ∷ ds))) names ≡ false → FreeNames ds names
free_names ds names e =
    let p = in_neither (table_names tables_def) (all_names (columns_def ∷ ds)) names (ap (λ (ns : List (List ℕ)). list_any (has_name ns) names) (sym (flat_map-cons table_names tables_def (columns_def ∷ ds))) ∙ e) in
    let q = in_neither (table_names columns_def) (all_names ds) names (ap (λ (ns : List (List ℕ)). list_any (has_name ns) names) (sym (flat_map-cons table_names columns_def ds)) ∙ p.1) in
    record {
      system = ap (λ (ns : List (List ℕ)). list_any (has_name ns) names) (flat_map-cons table_names tables_def (columns_def ∷ []))
          ∙ none_in_both (table_names tables_def) (all_names (columns_def ∷ [])) names p.0
          (ap (λ (ns : List (List ℕ)). list_any (has_name ns) names) (flat_map-cons table_names columns_def []) ∙ none_in_both (table_names columns_def) (all_names []) names q.0 (none_in_empty names));
      others = q.1;
    }

-- ---- a definition behind all others

module _ (def : TableDef) where
  abbrev OtherOrIn : NamedTables → ℕ × List (List ℕ) → Type 0
  OtherOrIn M p = (p.0 ≡ def.id) ⊎ In p M

  still_in : (q : ℕ × List (List ℕ)) (M ps : NamedTables) → AllByRecursion (OtherOrIn M) ps → AllByRecursion (OtherOrIn (q ∷ M)) ps
  still_in q M ps h = all_weaker (OtherOrIn M) (OtherOrIn (q ∷ M)) (λ p k. elim k [ inl e ↦ inl e | inr i ↦ inr (inr i) ]) ps h

  named_still : (ds : Defs) → AllByRecursion (OtherOrIn (named (ds ++ def ∷ []))) (named ds)
  named_still [] = tt
  named_still (d ∷ ds) = (inr (inl refl), still_in (d.id, table_names d) (named (ds ++ def ∷ [])) (named ds) (named_still ds))

  named_last : (ds : Defs) → In (def.id, table_names def) (named (ds ++ def ∷ []))
  named_last [] = inl refl
  named_last (d ∷ ds) = inr (named_last ds)

  ids_behind : (ds : Defs) → ids_of (ds ++ def ∷ []) ≡ ids_of ds ++ def.id ∷ []
  ids_behind [] = refl
  ids_behind (d ∷ ds) = ap (λ (is : List ℕ). d.id ∷ is) (ids_behind ds)

  of_last : (P : TableDef → Type 0) (ds : Defs) → AllByRecursion P (ds ++ def ∷ []) → P def
  of_last P [] all = all.0
  of_last P (d ∷ ds) all = of_last P ds all.1

  -- ---- in the place of another

  ids_same : (ds : Defs) → ids_of (redef def ds) ≡ ids_of ds
  ids_same [] = refl
  ids_same (d ∷ ds) = here (d.id == def.id) refl (ids_same ds)
    where
      here : (b : Bool) → (d.id == def.id) ≡ b → ids_of (redef def ds) ≡ ids_of ds → (if b then def else d).id ∷ ids_of (redef def ds) ≡ d.id ∷ ids_of ds
      here true e more = ap (λ (n : ℕ). n ∷ ids_of (redef def ds)) (sym (eqb-true d.id def.id e)) ∙ ap (λ (is : List ℕ). d.id ∷ is) more
      here false e more = ap (λ (is : List ℕ). d.id ∷ is) more

  named_same : (old : TableDef) → def.id ≡ old.id → table_names def ≡ table_names old → (ds : Defs) → AllByRecursion (IsOnly old) ds → named (redef def ds) ≡ named ds
  named_same old id names [] only = refl
  named_same old id names (d ∷ ds) only = here (d.id == def.id) refl (named_same old id names ds only.1)
    where
      pair : (d.id == def.id) ≡ true → ◌≡◌ {A = ℕ × List (List ℕ)} (def.id, table_names def) (d.id, table_names d)
      pair e =
          let is : old ≡ d = sym (only.0 (eqb-true d.id def.id e ∙ id)) in
          ap (λ (n : ℕ). (n, table_names def)) (sym (eqb-true d.id def.id e)) ∙ ap (λ (ns : List (List ℕ)). (d.id, ns)) (names ∙ ap (λ (x : TableDef). table_names x) is)

      here : (b : Bool) → (d.id == def.id) ≡ b → named (redef def ds) ≡ named ds → ((if b then def else d).id, table_names (if b then def else d)) ∷ named (redef def ds) ≡ (d.id, table_names d) ∷ named ds
      here true e more = ap (λ (p : ℕ × List (List ℕ)). p ∷ named (redef def ds)) (pair e) ∙ ap (λ (ps : NamedTables). (d.id, table_names d) ∷ ps) more
      here false e more = ap (λ (ps : NamedTables). (d.id, table_names d) ∷ ps) more

  named_others : (ds : Defs) → AllByRecursion (OtherOrIn (named (redef def ds))) (named ds)
  named_others [] = tt
  named_others (d ∷ ds) = (here (d.id == def.id) refl, still_in _ (named (redef def ds)) (named ds) (named_others ds))
    where
      here : (b : Bool) → (d.id == def.id) ≡ b → (d.id ≡ def.id) ⊎ In (d.id, table_names d) (((if b then def else d).id, table_names (if b then def else d)) ∷ named (redef def ds))
      here true e = inl (eqb-true d.id def.id e)
      here false e = inr (inl refl)

  named_there : (ds : Defs) → In def.id (ids_of ds) → In (def.id, table_names def) (named (redef def ds))
  named_there [] i = absurd i
  named_there (d ∷ ds) i = here (d.id == def.id) refl i (named_there ds)
    where
      here : (b : Bool) → (d.id == def.id) ≡ b → (d.id ≡ def.id) ⊎ In def.id (ids_of ds) → (In def.id (ids_of ds) → In (def.id, table_names def) (named (redef def ds)))
          → In (def.id, table_names def) (((if b then def else d).id, table_names (if b then def else d)) ∷ named (redef def ds))
      here true e k f = inl refl
      here false e k f = elim k [ inl same ↦ absurd (eqb-false d.id def.id e same) | inr more ↦ inr (f more) ]

  of_place : (P : TableDef → Type 0) (ds : Defs) → In def.id (ids_of ds) → AllByRecursion P (redef def ds) → P def
  of_place P [] i all = absurd i
  of_place P (d ∷ ds) i all = here (d.id == def.id) refl i all (of_place P ds)
    where
      here : (b : Bool) → (d.id == def.id) ≡ b → (d.id ≡ def.id) ⊎ In def.id (ids_of ds) → AllByRecursion P ((if b then def else d) ∷ redef def ds) → (In def.id (ids_of ds) → AllByRecursion P (redef def ds) → P def) → P def
      here true e k all f = all.0
      here false e k all f = elim k [ inl same ↦ absurd (eqb-false d.id def.id e same) | inr more ↦ f more all.1 ]

-- ---- ids

ids_below : (n m : ℕ) (ds : Defs) → IdsFrom n ds → n + length ds ≤ m → AllByRecursion (λ i. i < m) (ids_of ds)
ids_below n m [] ids le = tt
ids_below n m (d ∷ ds) ids le = (omega (arith, ids.0, le), ids_below (n + 1) m ds ids.1 (omega (arith, le)))

id_there : (n m : ℕ) (ds : Defs) → IdsFrom n ds → n ≤ m → m < n + length ds → In m (ids_of ds)
id_there n m [] ids le lt = absurd (omega (arith, le, lt))
id_there n m (d ∷ ds) ids le lt = here (d.id == m) refl (λ more. id_there (n + 1) m ds ids.1 more (omega (arith, lt)))
  where
    here : (b : Bool) → (d.id == m) ≡ b → (n + 1 ≤ m → In m (ids_of ds)) → (d.id ≡ m) ⊎ In m (ids_of ds)
    here true e f = inl (eqb-true d.id m e)
    here false e f = let no = eqb-false d.id m e in inr (f (omega (arith, le, ids.0, no)))

id_among : (def : TableDef) (ds : Defs) → IsAmong def ds → In def.id (ids_of ds)
id_among def [] a = absurd a
id_among def (d ∷ ds) a = elim a [ inl e ↦ inl (ap (λ (x : TableDef). x.id) e) | inr more ↦ inr (id_among def ds more) ]

far : (n : ℕ) (x : TableDef) (ds : Defs) → IdsFrom n ds → x.id < n → AllByRecursion (IsOnly x) ds
far n x [] ids lt = tt
far n x (d ∷ ds) ids lt = ((λ e. absurd (omega (arith, e, ids.0, lt))), far (n + 1) x ds ids.1 (omega (arith, lt)))

pub only_one : (n : ℕ) (x : TableDef) (ds : Defs) → IdsFrom n ds → IsAmong x ds → AllByRecursion (IsOnly x) ds
only_one n x [] ids a = absurd a
only_one n x (d ∷ ds) ids a = elim a [
  | inl e ↦ (let id : d.id ≡ x.id = ap (λ (y : TableDef). y.id) e in ((λ same. e), far (n + 1) x ds ids.1 (omega (arith, id, ids.0))))
  | inr more ↦ (let r : HasId (n + 1) ds x = has_id (n + 1) ds ids.1 x more in ((λ same. absurd (omega (arith, same, ids.0, r.from))), only_one (n + 1) x ds ids.1 more))
]

-- ---- rows

some_name : (name : List ℕ) → is_proper_name name ≡ true → is_name name ≡ true
some_name [] e = cc
some_name (b ∷ bs) e = refl

names_of_row : (id change code : ℕ) (kind : TableKind) (name history view : List ℕ) → is_proper_name name ≡ true → has_its_history kind history ≡ true → is_proper_name view ≡ true
    → names_in (number id ∷ number change ∷ Text name ∷ number code ∷ history_value kind history ∷ Text view ∷ []) ≡ filter is_name (name ∷ history ∷ view ∷ [])
names_of_row id change code AppendOnly name [] view n h v = rw (some_name name n, some_name view v) refl
names_of_row id change code AppendOnly name (b ∷ bs) view n h v = absurd (let none : length (b ∷ bs) ≡ 0 = eqb-true (length (b ∷ bs)) 0 h in omega (arith, none))
names_of_row id change code Updatable name history view n h v = rw (some_name name n, some_name history h, some_name view v) refl

row_names : (change code : ℕ) (def : TableDef) → is_encodable_def def ≡ true → names_in (table_row_with change code def) ≡ table_names def
row_names change code def e =
    let a = and_true _ _ e in
    let b = and_true _ _ a.0 in
    let c = and_true _ _ b.0 in
    let d = and_true _ _ c.0 in
    let f = and_true _ _ d.0 in
    let g = and_true _ _ f.0 in
    let h = and_true _ _ g.0 in
    let i = and_true _ _ h.0 in
    let j = and_true _ _ i.0 in
    let k = and_true _ _ j.0 in
    let view = and_true _ _ k.0 in
    let history = and_true _ _ view.0 in
    let name = and_true _ _ history.0 in
    names_of_row def.id change code def.kind def.name def.history def.view name.1 history.1 view.1

new_row_names : (def : TableDef) → is_encodable_def def ≡ true → names_in (table_row def) ≡ table_names def
unfolding table_row
new_row_names def e = row_names 0 (kind_code def.kind) def e

changed_row_names : (change : ℕ) (def : TableDef) → is_encodable_def def ≡ true → names_in (changed_table_row change def) ≡ table_names def
unfolding changed_table_row
changed_row_names change def e = row_names change (kind_in_row def) def e

-- ---- names and ids

pub record NewAtTheirPlaces (rows : List PlacedRow) (ds : Defs) : Type 0 where
  pub names : NamesSaid rows (named ds)
  pub ids : IdsSaid rows (ids_of ds)

abbrev pub AreNew : Catalog → Type 0
AreNew x = NewAtTheirPlaces x.rows.tables x.defs

own_names : (new : PlacedRow) (def : TableDef) → names_in new.row ≡ table_names def → repeats (table_names def) ≡ false → list_any (has_name (all_names (tables_def ∷ columns_def ∷ []))) (table_names def) ≡ false → AreOwn new
own_names new def is differ system = record {
  differ = subst (λ (ns : List (List ℕ)). repeats ns ≡ false) (sym is) differ;
  no_system = subst (λ (ns : List (List ℕ)). list_any (has_name (all_names (tables_def ∷ columns_def ∷ []))) ns ≡ false) (sym is) system;
}

module _ (p : EventPlace) (x y : Catalog) (around : Around p x y) where
  abbrev V : List PlacedRow
  V = x.rows.tables

  -- ---- CREATE TABLE

  first_row : (def : TableDef) → IsFirst def.id (record { place = p; row = table_row def })
  unfolding table_row
  first_row def = record { of = refl; change = refl }

  created_new : (c : CreateTable) (def : TableDef) → create_check (all_defs x) c ≡ Ok def → Entered p (table_row def ∷ []) (column_rows def) x y → y.defs ≡ x.defs ++ def ∷ [] → AreNew x → AreNew y
  created_new c def e entered defs h =
      let ds : Defs = x.defs in
      let new : PlacedRow = record { place = p; row = table_row def } in
      let m : Made (all_defs x) def = made (all_defs x) c def e in
      let f : Created (all_defs x) def = created (all_defs x) c def e in
      let free : FreeNames ds (table_names def) = free_names ds (table_names def) m.fresh in
      let is : names_in (table_row def) ≡ table_names def = new_row_names def (of_last def (λ d. is_encodable_def d ≡ true) ds (subst (λ (all : Defs). AllByRecursion (λ d. is_encodable_def d ≡ true) all) defs around.after.encodable)) in
      let first : IsFirst def.id new = first_row def in
      let names : NamesSaid (new ∷ V) (named (ds ++ def ∷ [])) = record {
        own = (own_names new def is m.formed.own_names free.system, h.names.own);
        said = said_with 0 names_of_table share_names V (named ds) new around.earlier.tables def.id (table_names def) (named (ds ++ def ∷ [])) first.of is
            (record { fresh = each_fresh (table_names def) ds free.others; others = named_still def ds; there = named_last def ds }) h.names.said;
      } in
      let ids : IdsSaid (new ∷ V) (ids_of ds ++ def.id ∷ []) = created_ids V (ids_of ds) new around.earlier.tables def.id first (ids_below 3 def.id ds around.before.ids (omega (arith, f.id)))
      (λ before same lt. id_there 3 before ds around.before.ids (omega (arith, same, lt)) (omega (arith, same, f.id))) h.ids in
      subst (NewAtTheirPlaces y.rows.tables) (sym defs) (record {
        names = names_in_order (new ∷ V) y.rows.tables entered.tables (named (ds ++ def ∷ [])) names;
        ids = subst (IdsSaid y.rows.tables) (sym (ids_behind def ds)) (ids_in_order (new ∷ V) y.rows.tables entered.tables (ids_of ds ++ def.id ∷ []) ids);
      })

  -- ---- with the same names

  same_new : (old def : TableDef) → IsAmong old x.defs → def.id ≡ old.id → table_names def ≡ table_names old → IsPermutation y.rows.tables V → y.defs ≡ redef def x.defs → AreNew x → AreNew y
  same_new old def among id names tables defs h =
      subst (NewAtTheirPlaces y.rows.tables) (sym defs) (record {
        names = subst (NamesSaid y.rows.tables) (sym (named_same def old id names x.defs (only_one 3 old x.defs around.before.ids among))) (names_in_order V y.rows.tables tables (named x.defs) h.names);
        ids = subst (IdsSaid y.rows.tables) (sym (ids_same def x.defs)) (ids_in_order V y.rows.tables tables (ids_of x.defs) h.ids);
      })

  -- ---- DROP TABLE

  dropped_id : (old : TableDef) → (dropped_table old).id ≡ old.id
  unfolding dropped_table
  dropped_id old = refl

  changed_row : (change : ℕ) (def : TableDef) → IsOf 0 def.id (record { place = p; row = changed_table_row change def }) × (change_of 0 (changed_table_row change def) ≡ pos change)
  unfolding changed_table_row
  changed_row change def = (refl, refl)

  dropped_new : (name : List ℕ) (gone : TableDef) (d : TableDropped (all_defs x) name gone) → Stands x d.found.0 → (change : ℕ) → IsNext change x d.found.0
      → Entered p (changed_table_row change (dropped_table d.found.0) ∷ []) [] x y → y.defs ≡ redef (dropped_table d.found.0) x.defs → AreNew x → AreNew y
  dropped_new name gone d stands change next entered defs h =
      let ds : Defs = x.defs in
      let old : TableDef = d.found.0 in
      let def : TableDef = dropped_table old in
      let new : PlacedRow = record { place = p; row = changed_table_row change def } in
      let there : In def.id (ids_of ds) = subst (λ (n : ℕ). In n (ids_of ds)) (sym (dropped_id old)) (id_among old ds stands.among) in
      let is : names_in (changed_table_row change def) ≡ table_names def = changed_row_names change def (of_place def (λ d. is_encodable_def d ≡ true) ds there (subst (λ (all : Defs). AllByRecursion (λ d. is_encodable_def d ≡ true) all) defs around.after.encodable)) in
      let free : FreeNames ds (table_names def) = free_names ds (table_names def) d.free in
      let row = changed_row change def in
      let names : NamesSaid (new ∷ V) (named (redef def ds)) = record {
        own = (own_names new def is d.differ free.system, h.names.own);
        said = said_with 0 names_of_table share_names V (named ds) new around.earlier.tables def.id (table_names def) (named (redef def ds)) row.0 is
            (record { fresh = each_fresh (table_names def) ds free.others; others = named_others def ds; there = named_there def ds there }) h.names.said;
      } in
      let ids : IdsSaid (new ∷ V) (ids_of ds) = dropped_ids V (ids_of ds) new around.earlier.tables def.id change row.0 there next.above row.1 h.ids in
      subst (NewAtTheirPlaces y.rows.tables) (sym defs) (record {
        names = names_in_order (new ∷ V) y.rows.tables entered.tables (named (redef def ds)) names;
        ids = subst (IdsSaid y.rows.tables) (sym (ids_same def ds)) (ids_in_order (new ∷ V) y.rows.tables entered.tables (ids_of ds) ids);
      })

pub new_kept : StepsKeep AreNew
new_kept = record {
  table_created = λ p x y around c def e entered defs h. created_new p x y around c def e entered defs h;
  index_created = λ p x y around c i e stands entered defs h. same_new p x y around i.0 (with_index i.0 i.1) stands.among refl refl entered.tables defs h;
  column_added = λ p x y around table c w a stands change next entered h. same_new p x y around a.found.0 (added_to a.found.0 c).0 stands.among refl refl entered.rows.tables entered.defs h;
  column_dropped = λ p x y around table name w d stands change next entered h. same_new p x y around d.found.0 (dropped_from d.found.0 d.column).0 stands.among refl refl entered.rows.tables entered.defs h;
  table_dropped = λ p x y around name def d stands change next entered defs h. dropped_new p x y around name def d stands change next entered defs h;
}

pub nothing_new : AreNew nothing
nothing_new = record { names = record { own = tt; said = record { said = tt; free = tt } }; ids = record { about = tt; made = tt; follow = tt } }

-- ---- the rules

pub table_names_kept : (x : Catalog) → AreNew x → (t : ℤ) → table_names_are_new x.rows t ≡ true
unfolding table_names_are_new
table_names_kept x h t =
    let rows : List PlacedRow = x.rows.tables in
    all_of (names_are_new rows) (is_about_table t) rows
    (all_weaker (λ w. AreOwn w × IsFree 0 names_of_table share_names rows w) (λ w. is_about_table t w ≡ true → names_are_new rows w ≡ true)
    (λ w k about. new_names rows w k.0 k.1) rows (all_both AreOwn (IsFree 0 names_of_table share_names rows) rows h.names.own h.names.said.free))

follow_of : (rows : List PlacedRow) (ds : Defs) (d : TableDef) → IsAmong d ds → AllByRecursion (FollowsOne rows) (ids_of ds) → FollowsOne rows d.id
follow_of rows [] d among all = absurd among
follow_of rows (e ∷ ds) d among all = elim among [ inl is ↦ subst (λ (z : TableDef). FollowsOne rows z.id) is all.0 | inr more ↦ follow_of rows ds d more all.1 ]

pub ids_kept : (x : Catalog) → AreNew x → (d : TableDef) → IsAmong d x.defs → 2 < d.id → ids_follow x.rows (pos d.id) ≡ true
ids_kept x h d among lt = ids_keep_the_rule x.rows d.id lt (follow_of x.rows.tables x.defs d among h.ids.follow)
