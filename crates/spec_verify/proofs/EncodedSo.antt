-- Where no version and no definition is at fault, the rows of the system's tables spell the definitions.
use Rattle.std.proofs.Common.{◌≡◌, ◌≢◌, ◌<◌, ◌≤◌, ◌⊎◌, inl, inr, ℤ, ℕ, pos, refl, ap, subst, arith, Bool, true, false, List, [], ◌∷◌, ◌++◌, length, map, None}
use Rattle.std.proofs.lemmas.Bool.Decides.{nat_tests, Decides-eqb, Decides-int_eq}
use Rattle.std.specs.Bool.{Decides}
use Rattle.std.specs.Prelude.{◌↔◌, ◌&&◌, ◌==◌, not, nat_le, nat_lt, flat_map, if◌then◌else◌}
use Rattle.std.specs.List.{AllByRecursion, Any, list_all, list_any, filter_map}
use Rattle.std.specs.Ordering.{int_cmp, int_eq, on}
use Rattle.sql_value.specs.declared.value.Value.TheVariants.{Null, Num, Text, Bytes, Date}
use Rattle.sql_types.specs.declared.image.Image.{Image}
use Rattle.sql_types.specs.declared.image.TableRows.{TableRows}
use Rattle.sql_types.specs.declared.table.IndexDef.{IndexDef}
use Rattle.sql_types.specs.declared.table.TableDef.{TableDef}
use Rattle.sql_types.specs.declared.version.Table.{Table}
use Rattle.sql_types.specs.declared.version.Version.{Version}
use Rattle.spec_model.specs.Catalog.{Defs}
use Rattle.spec_model.specs.Create.{names_of, table_names, has_null_key}
use Rattle.spec_model.specs.Keys.{same_key}
use Rattle.spec_model.specs.Lists.{repeats}
use Rattle.spec_model.specs.Rows.{Row, values_of}
use Rattle.spec_model.specs.SystemTables.{tables_columns, columns_columns, tables_def, columns_def}
use Rattle.law_catalog_rows.proofs.Alls.{all_filter}
use Rattle.law_catalog_rows.specs.Changes.{changes_are_right, items_follow}
use Rattle.law_catalog_rows.specs.Differs.{are_rows, table_of, is_encoded}
use Rattle.law_catalog_rows.specs.IsEncodableDef.{is_proper_name, has_its_history, is_between, are_key_positions, positions_of, is_encodable_column, is_encodable_index, number_repeats, dropped_are_right, is_encodable_def, has_new_names}
use Rattle.law_catalog_rows.specs.Encoded.{latest_table_row, latest_item_rows, is_about, about, IsAmong, EncodeDef, RowsEncode}
use Rattle.law_catalog_rows.specs.Latest.{latest, latest_said}
use Rattle.law_catalog_rows.proofs.Passing.{encoding_passes}
use Rattle.format_image.specs.DefBytes.{ids_rise}
use Rattle.format_image.specs.Tables.{tables_with}
use Rattle.spec_verify.specs.declared.place.Place.TheVariants as at
use Rattle.spec_verify.specs.Definitions.{table_place, base_rows, definition_fault}
use Rattle.spec_verify.specs.Entries.{table_event_cmp}
use Rattle.spec_verify.specs.Sentences.{TableVersion, VersionHolds, versions_of_image, start_of, IsEncodedAt, ids_of_tables}
use Rattle.spec_verify.specs.Versions.{version_fault}
use Rattle.spec_verify.proofs.AllTold.{all_hold}
use Rattle.spec_verify.proofs.Deciding.{one_of, none_of}
use Rattle.spec_verify.proofs.SameRows.{front, rest}
use Rattle.spec_verify.proofs.SystemRows.{Scaled, stored_scaled, table_scaled, items_scaled, tables_said, items_said, items_differ, those_rows}
use Rattle.spec_verify.proofs.ToldTables.{definitions_told}
use Rattle.spec_verify.proofs.ToldVersions.{versions_told}

pub all_front : {A : Type 0} (P : A → Type 0) (xs ys : List A) → AllByRecursion P (xs ++ ys) → AllByRecursion P xs
all_front P [] ys h = tt
all_front P (x ∷ xs) ys h = (h.0, all_front P xs ys h.1)

pub all_rest : {A : Type 0} (P : A → Type 0) (xs ys : List A) → AllByRecursion P (xs ++ ys) → AllByRecursion P ys
all_rest P [] ys h = h
all_rest P (x ∷ xs) ys h = all_rest P xs ys h.1

-- ---- the base rows of the system's tables have their columns

module _ (i : Image) where
  abbrev each_version : Table → List TableVersion
  each_version t = map (λ v. (t, v)) t.versions

  base_scaled : (t : Table) (base history : List Version) → AllByRecursion (VersionHolds i) (map (λ v. (t, v)) (base ++ history)) → AllByRecursion (Scaled t.def.columns) (map values_of base)
  base_scaled t [] history h = tt
  base_scaled t (v ∷ vs) history h = (stored_scaled t.def.columns v.values h.0.columns, base_scaled t vs history h.1)

  first_scaled : (tables : List TableRows) → AllByRecursion (VersionHolds i) (flat_map each_version (tables_with (tables_def ∷ columns_def ∷ i.defs) tables)) → AllByRecursion (Scaled tables_columns) (base_rows tables 0)
  first_scaled [] h = tt
  first_scaled (a ∷ more) h =
      let t : Table = record { def = tables_def; versions = a.base ++ a.history } in
      base_scaled t a.base a.history (all_front (VersionHolds i) (each_version t) (flat_map each_version (tables_with (columns_def ∷ i.defs) more)) h)

  second_scaled : (tables : List TableRows) → AllByRecursion (VersionHolds i) (flat_map each_version (tables_with (tables_def ∷ columns_def ∷ i.defs) tables)) → AllByRecursion (Scaled columns_columns) (base_rows tables 1)
  second_scaled [] h = tt
  second_scaled (a ∷ []) h = tt
  second_scaled (a ∷ b ∷ more) h =
      let t : Table = record { def = tables_def; versions = a.base ++ a.history } in
      let u : Table = record { def = columns_def; versions = b.base ++ b.history } in
      base_scaled u b.base b.history
      (all_front (VersionHolds i) (each_version u) (flat_map each_version (tables_with i.defs more))
      (all_rest (VersionHolds i) (each_version t) (flat_map each_version (tables_with (columns_def ∷ i.defs) (b ∷ more))) h))

  versions_hold : version_fault i ≡ None → AllByRecursion (VersionHolds i) (versions_of_image i)
  versions_hold e = all_hold (on start_of table_event_cmp) (VersionHolds i) (λ x p. p ≡ at.Event x.0.def.id x.1.start.0 x.1.start.1) (versions_of_image i) (version_fault i) (versions_told i) e

-- ---- how many columns a definition and its indexes have

record Few (def : TableDef) : Type 0 where
  columns : length def.columns ≤ 64
  parts : AllByRecursion (λ (i : IndexDef). length i.ordinals ≤ 4) def.indexes

upper : (low high n : ℕ) → is_between low high n ≡ true → n ≤ high
upper low high n e = let most : nat_le n high ≡ true = rest (nat_le low n) (nat_le n high) e in grind (arith, nat_tests, most)

few_parts : (columns : ℕ) (is : List IndexDef) → list_all (is_encodable_index columns) is ≡ true → AllByRecursion (λ (i : IndexDef). length i.ordinals ≤ 4) is
few_parts columns [] e = tt
few_parts columns (i ∷ is) e =
    let name : Bool = is_proper_name i.name in
    let count : Bool = is_between 1 4 (length i.ordinals) in
    let ordinals : Bool = list_all (is_between 1 columns) i.ordinals in
    let own : (name && count && ordinals && not (number_repeats i.ordinals)) ≡ true = front (is_encodable_index columns i) (list_all (is_encodable_index columns) is) e in (
      upper 1 4 (length i.ordinals) (rest name count (front (name && count) ordinals (front (name && count && ordinals) (not (number_repeats i.ordinals)) own))),
      few_parts columns is (rest (is_encodable_index columns i) (list_all (is_encodable_index columns) is) e),
    )

few : (def : TableDef) → is_encodable_def def ≡ true → Few def
few def e =
    let names : Bool = is_between 3 34 def.id && is_proper_name def.name && has_its_history def.kind def.history && is_proper_name def.view && not (repeats (table_names def)) && dropped_are_right def in
    let count : Bool = is_between 1 64 (length def.columns) in
    let columns : Bool = list_all is_encodable_column def.columns in
    let differ : Bool = not (repeats (names_of def.columns)) in
    let positions : Bool = are_key_positions (positions_of def.columns) in
    let key : Bool = not (has_null_key def) in
    let number : Bool = nat_le (length def.indexes) 4 in
    let indexes : Bool = list_all (is_encodable_index (length def.columns)) def.indexes in
    let all = front (names && count && columns && differ && positions && key && number && indexes) (not (repeats (map (λ (i : IndexDef). i.name) def.indexes))) e in
    let to_number = front (names && count && columns && differ && positions && key && number) indexes all in
    let to_key = front (names && count && columns && differ && positions && key) number to_number in
    let to_positions = front (names && count && columns && differ && positions) key to_key in
    let to_differ = front (names && count && columns && differ) positions to_positions in
    let to_columns = front (names && count && columns) differ to_differ in
    record {
      columns = upper 1 64 (length def.columns) (rest names count (front (names && count) columns to_columns));
      parts = few_parts (length def.columns) def.indexes (rest (names && count && columns && differ && positions && key && number) indexes all);
    }

-- ---- a definition that is spelled

same_count : (rows wanted : List Row) → are_rows rows wanted ≡ true → length rows ≡ length wanted
same_count rows wanted e = (Decides-eqb (length rows) (length wanted)).0 (front (length rows == length wanted) (list_all (λ w. list_any (same_key w) rows) wanted) e)

each_there : (rows wanted : List Row) → are_rows rows wanted ≡ true → list_all (λ w. list_any (same_key w) rows) wanted ≡ true
each_there rows wanted e = rest (length rows == length wanted) (list_all (λ w. list_any (same_key w) rows) wanted) e

module _ (first second : List Row) (defs : Defs) where
  abbrev tables_about : TableDef → List Row
  tables_about def = about (pos def.id) first

  abbrev items_about : TableDef → List Row
  items_about def = about (pos def.id) second

  record Said (def : TableDef) : Type 0 where
    table : are_rows (latest_said 0 (tables_about def)) (latest_table_row def ∷ []) ≡ true
    items : are_rows (latest_said 1 (items_about def)) (latest_item_rows def) ≡ true
    changes : changes_are_right (tables_about def) (items_about def) ≡ true
    follow : items_follow (items_about def) ≡ true
    rules : is_encodable_def def ≡ true
    names : has_new_names (latest 0 first) def ≡ true

  said : (def : TableDef) → is_encoded first second defs def ≡ true → Said def
  said def e =
      let table : Bool = are_rows (latest_said 0 (tables_about def)) (latest_table_row def ∷ []) in
      let items : Bool = are_rows (latest_said 1 (items_about def)) (latest_item_rows def) in
      let changes : Bool = changes_are_right (tables_about def) (items_about def) in
      let follow : Bool = items_follow (items_about def) in
      let rules : Bool = is_encodable_def def in
      let names : Bool = has_new_names (latest 0 first) def in
      let two = front ((table && items && changes && follow) && rules) names e in
      let four = front (table && items && changes && follow) rules two in
      let three = front (table && items && changes) follow four in
      record {
        table = front table items (front (table && items) changes three);
        items = rest table items (front (table && items) changes three);
        changes = rest (table && items) changes three;
        follow = rest (table && items && changes) follow four;
        rules = rest (table && items && changes && follow) rules two;
        names = rest ((table && items && changes && follow) && rules) names e;
      }

  its_rows : AllByRecursion (Scaled tables_columns) first → AllByRecursion (Scaled columns_columns) second → (def : TableDef) → Said def → EncodeDef first second def
  its_rows a b def s =
      let f = few def s.rules in
      let tables : List Row = latest_said 0 (tables_about def) in
      let items : List Row = latest_said 1 (items_about def) in
      let scaled_tables = tables_said (tables_about def) (all_filter (Scaled tables_columns) (is_about (pos def.id)) first a) in
      let scaled_items = items_said (items_about def) (all_filter (Scaled columns_columns) (is_about (pos def.id)) second b) in
      record {
        table = those_rows tables_columns (latest_table_row def ∷ []) tables (table_scaled def, tt) scaled_tables (tt, tt) (same_count tables (latest_table_row def ∷ []) s.table) (each_there tables (latest_table_row def ∷ []) s.table);
        items = those_rows columns_columns (latest_item_rows def) items (items_scaled def) scaled_items (items_differ def f.columns f.parts) (same_count items (latest_item_rows def) s.items) (each_there items (latest_item_rows def) s.items);
        changes = s.changes;
        follow = s.follow;
      }

-- ---- one definition an id

HasId : (TableDef → Type 0) → ℤ → TableDef → Type 0
HasId P id d = (pos d.id ≡ id) × P d

one_id : (m n : ℕ) → pos m ≡ pos n → m ≡ n
one_id m n e = cc

rises : (last id : ℕ) (ds : Defs) → (nat_lt last id && ids_rise id ds) ≡ true → last < id
rises last id ds e = let lt : nat_lt last id ≡ true = front (nat_lt last id) (ids_rise id ds) e in grind (arith, nat_tests, lt)

among_rises : (n : ℕ) (es : Defs) (def : TableDef) → ids_rise n es ≡ true → IsAmong def es → n < def.id
among_rises n [] def r q = absurd q
among_rises n (x ∷ es) def r (inl same) = subst (λ (y : TableDef). n < y.id) same (rises n x.id es r)
among_rises n (x ∷ es) def r (inr q) =
    let far : x.id < def.id = among_rises x.id es def (rest (nat_lt n x.id) (ids_rise x.id es) r) q in
    let near : n < x.id = rises n x.id es r in
    omega (arith, far, near)

module _ (P : TableDef → Type 0) where
  none_below : (last n : ℕ) (ds : Defs) → n ≤ last → ids_rise last ds ≡ true → Any (HasId P (pos n)) ds → ⊥
  unfolding HasId
  none_below last n [] le r a = none_of (HasId P (pos n)) a
  none_below last n (d ∷ ds) le r a =
      let lt : last < d.id = rises last d.id ds r in
      here lt (one_of (HasId P (pos n)) d ds a) (λ q. none_below d.id n ds (omega (arith, lt, le)) (rest (nat_lt last d.id) (ids_rise d.id ds) r) q)
    where
      here : last < d.id → HasId P (pos n) d ⊎ Any (HasId P (pos n)) ds → (Any (HasId P (pos n)) ds → ⊥) → ⊥
      here lt (inl p) never = let same : d.id ≡ n = one_id d.id n p.0 in omega (arith, lt, le, same)
      here lt (inr q) never = never q

  its_own : (last : ℕ) (ds : Defs) (def : TableDef) → ids_rise last ds ≡ true → IsAmong def ds → Any (HasId P (pos def.id)) ds → P def
  unfolding HasId
  its_own last [] def r among a = absurd among
  its_own last (d ∷ ds) def r among a =
      let more : ids_rise d.id ds ≡ true = rest (nat_lt last d.id) (ids_rise d.id ds) r in
      here (rises last d.id ds r) more among (one_of (HasId P (pos def.id)) d ds a) (λ q b. its_own d.id ds def more q b)
    where
      here : last < d.id → ids_rise d.id ds ≡ true → (d ≡ def) ⊎ IsAmong def ds → HasId P (pos def.id) d ⊎ Any (HasId P (pos def.id)) ds
          → (IsAmong def ds → Any (HasId P (pos def.id)) ds → P def) → P def
      here lt more (inl same) (inl p) behind = subst P same p.1
      here lt more (inl same) (inr q) behind = absurd (none_below d.id def.id ds (let e : d.id ≡ def.id = ap (λ (x : TableDef). x.id) same in omega (arith, e)) more q)
      here lt more (inr q) (inl p) behind =
          let far : d.id < def.id = among_rises d.id ds def more q in
          let e : d.id ≡ def.id = one_id d.id def.id p.0 in
          absurd (omega (arith, far, e))
      here lt more (inr q) (inr b) behind = behind q b

  not_among : (ds : Defs) (id : ℤ) → ((def : TableDef) → IsAmong def ds → pos def.id ≢ id) → Any (HasId P id) ds → ⊥
  unfolding HasId
  not_among [] id other a = none_of (HasId P id) a
  not_among (d ∷ ds) id other a = here (one_of (HasId P id) d ds a) (λ q. not_among ds id (λ def among. other def (inr among)) q)
    where
      here : HasId P id d ⊎ Any (HasId P id) ds → (Any (HasId P id) ds → ⊥) → ⊥
      here (inl p) never = other d (inl refl) p.0
      here (inr q) never = never q

-- ---- rows about other tables

pub none_about : (Q : ℤ → Type 0) (id : ℤ) (rows : List Row) → (Q id → ⊥) → AllByRecursion Q (filter_map table_of rows) → about id rows ≡ []
none_about Q id [] never h = refl
none_about Q id ([] ∷ rs) never h = none_about Q id rs never h
none_about Q id ((Null ∷ vs) ∷ rs) never h = none_about Q id rs never h
none_about Q id ((Num s n ∷ vs) ∷ rs) never h = here (int_eq n id) (Decides-int_eq n id) (none_about Q id rs never h.1)
  where
    here : (b : Bool) → Decides b (n ≡ id) → about id rs ≡ [] → (if b then (Num s n ∷ vs) ∷ about id rs else about id rs) ≡ []
    here true d e = absurd (never (subst Q (d.0 refl) h.0))
    here false d e = e
none_about Q id ((Text t ∷ vs) ∷ rs) never h = none_about Q id rs never h
none_about Q id ((Bytes b ∷ vs) ∷ rs) never h = none_about Q id rs never h
none_about Q id ((Date d ∷ vs) ∷ rs) never h = none_about Q id rs never h

-- ---- all of it

all_among : (P : TableDef → Type 0) (ds : Defs) → ((def : TableDef) → IsAmong def ds → P def) → AllByRecursion P ds
all_among P [] h = tt
all_among P (d ∷ ds) h = (h d (inl refl), all_among P ds (λ def among. h def (inr among)))

at_id : (Q : ℤ → Type 0) (ds : Defs) → AllByRecursion Q (map (λ (d : TableDef). pos d.id) ds) → (def : TableDef) → IsAmong def ds → Q (pos def.id)
at_id Q [] h def among = absurd among
at_id Q (d ∷ ds) h def (inl same) = subst (λ (x : TableDef). Q (pos x.id)) same h.0
at_id Q (d ∷ ds) h def (inr q) = at_id Q ds h.1 def q

module _ (i : Image) (rise : ids_rise 2 i.defs ≡ true) (versions : version_fault i ≡ None) where
  abbrev first : List Row
  first = base_rows i.tables 0

  abbrev second : List Row
  second = base_rows i.tables 1

  abbrev Encoded : TableDef → Type 0
  Encoded def = is_encoded first second i.defs def ≡ true

  found : (id : ℤ) → IsEncodedAt i id → Any (HasId Encoded id) i.defs
  unfolding HasId
  found id a = a

  they_encode : definition_fault i ≡ None → RowsEncode first second i.defs
  they_encode e =
      let ids = all_hold int_cmp (IsEncodedAt i) (λ id p. p ≡ at.Table id) (ids_of_tables i) (definition_fault i) (definitions_told i) e in
      let behind = all_rest (IsEncodedAt i) (filter_map table_of first) (filter_map table_of second ++ map (λ (d : TableDef). pos d.id) i.defs) ids in
      let in_first = all_front (IsEncodedAt i) (filter_map table_of first) (filter_map table_of second ++ map (λ (d : TableDef). pos d.id) i.defs) ids in
      let in_second = all_front (IsEncodedAt i) (filter_map table_of second) (map (λ (d : TableDef). pos d.id) i.defs) behind in
      let of_defs = all_rest (IsEncodedAt i) (filter_map table_of second) (map (λ (d : TableDef). pos d.id) i.defs) behind in
      let hold = versions_hold i versions in
      let each : (def : TableDef) → IsAmong def i.defs → Said first second i.defs def =
      λ def among. said first second i.defs def (its_own Encoded 2 i.defs def rise among (found (pos def.id) (at_id (IsEncodedAt i) i.defs of_defs def among))) in
      record {
        one = λ def among. its_rows first second i.defs (first_scaled i i.tables hold) (second_scaled i i.tables hold) def (each def among);
        others = λ id other. (none_about (IsEncodedAt i) id first (λ a. not_among Encoded i.defs id other (found id a)) in_first, none_about (IsEncodedAt i) id second (λ a. not_among Encoded i.defs id other (found id a)) in_second);
        rules = all_among (λ def. is_encodable_def def ≡ true) i.defs (λ def among. (each def among).rules);
        names = all_among (λ def. has_new_names (latest 0 first) def ≡ true) i.defs (λ def among. (each def among).names);
      }

  nothing_wrong : RowsEncode first second i.defs → definition_fault i ≡ None
  unfolding definition_fault
  nothing_wrong s = ap table_place (encoding_passes first second i.defs s)

  pub spelled_exactly : (definition_fault i ≡ None) ↔ RowsEncode first second i.defs
  spelled_exactly = (they_encode, nothing_wrong)
