-- An image tells the tables as they were, where the rows so far say the definitions of then and the versions so far are left.
use Rattle.std.proofs.Common.{◌≡◌, ◌≤◌, ◌<◌, ◌+◌, ◌*◌, ℕ, suc, pos, refl, sym, ap, ap₂, subst, ◌∙◌, Bool, true, false, List, [], ◌∷◌, map, take, length, Option, None, arith}
use Rattle.std.proofs.lemmas.Bool.{eq-eqb, ne_eqb}
use Rattle.std.proofs.lemmas.Int.{ints}
use Rattle.std.specs.Prelude.{if◌then◌else◌}
use Rattle.std.specs.List.{AllByRecursion}
use Rattle.std.specs.Ordering.{int_eq}
use Rattle.sql_value.specs.declared.value.Value.TheVariants.{Null}
use Rattle.sql_value.specs.declared.column.ColumnDef.{ColumnDef}
use Rattle.sql_types.specs.declared.table.TableDef.{TableDef}
use Rattle.sql_types.specs.declared.version.Table.{Table}
use Rattle.sql_types.specs.declared.version.TypedValue.{TypedValue}
use Rattle.sql_types.specs.declared.version.Version.{Version}
use Rattle.spec_model.specs.Agreement.{IdsFrom}
use Rattle.spec_model.specs.Catalog.{Defs, Tables, defs_of, versions_of}
use Rattle.spec_model.specs.Keys.{value_at, version_key}
use Rattle.spec_model.specs.Lists.{rise_within}
use Rattle.spec_model.specs.Rows.{Row, filled_stored, number, values_of}
use Rattle.spec_model.specs.SystemTables.{columns_columns}
use Rattle.law_frame.specs.Alters.{ColumnsStay}
use Rattle.law_frame.proofs.Alls.{all_both, all_weaker}
use Rattle.law_frame.proofs.SameKeys.{and_true}
use Rattle.law_journal.specs.Described.{items_below, IsColumnKey}
use Rattle.law_journal.proofs.NumberKeys.{column_version_key}
use Rattle.law_catalog_rows.specs.Differs.{is_encoded}
use Rattle.law_catalog_rows.specs.Encoded.{about, is_about, EncodeDef}
use Rattle.law_catalog_rows.specs.Formed.{Formed}
use Rattle.law_catalog_rows.specs.IsEncodableDef.{has_new_names, is_encodable_def}
use Rattle.law_catalog_rows.specs.Latest.{latest}
use Rattle.law_catalog_rows.specs.Written.{Written}
use Rattle.law_catalog_rows.proofs.CountingUp.{one_number}
use Rattle.format_image.specs.Rows.{filled_version, filled_table, table_rows}
use Rattle.spec_asof.specs.DatabaseAt.{cut_to, table_at, users_at, versions_at}
use Rattle.spec_asof.specs.DefTold.{def_told}
use Rattle.law_asof.proofs.Grown.{Grows, GrowAll}
use Rattle.law_asof.proofs.ToldDef.{it_is_encoded, none_encoded, told_id, told_is}
use Rattle.law_asof.proofs.ToldIndexes.{IsItemRow}

-- ---- versions

cut_filled : (cs ds : List ColumnDef) (values : List (Option TypedValue)) → ColumnsStay cs ds → length values ≤ length cs → take (length cs) (filled_stored ds values) ≡ filled_stored cs values
cut_filled [] ds [] stay le = refl
cut_filled [] ds (v ∷ vs) stay le = absurd (omega (arith, le))
cut_filled (c ∷ cs) [] values stay le = absurd stay
cut_filled (c ∷ cs) (d ∷ ds) [] stay le = ap (λ (l : List (Option TypedValue)). None ∷ l) (cut_filled cs ds [] stay.3 (omega arith))
cut_filled (c ∷ cs) (d ∷ ds) (v ∷ vs) stay le = ap (λ (l : List (Option TypedValue)). v ∷ l) (cut_filled cs ds vs stay.3 (omega (arith, le)))

module _ (cs ds : List ColumnDef) (stay : ColumnsStay cs ds) where
  pub all_cut : (vs : List Version) → AllByRecursion (λ v. length v.values ≤ length cs) vs → map (cut_to (length cs)) (map (filled_version ds) vs) ≡ map (filled_version cs) vs
  all_cut [] few = refl
  all_cut (v ∷ vs) few =
      ap₂ (λ (values : List (Option TypedValue)) (ws : List Version). record { values = values; start = v.start; end = v.end } ∷ ws) (cut_filled cs ds v.values stay few.0) (all_cut vs few.1)

-- ---- rows of the table of columns

ids_above : (k : ℕ) (T : Tables) → IdsFrom k (defs_of T) → AllByRecursion (λ t. k ≤ t.def.id) T
ids_above k [] h = tt
ids_above k (t ∷ ts) h = (omega (arith, h.0), all_weaker (λ u. k + 1 ≤ u.def.id) (λ u. k ≤ u.def.id) (λ u le. omega (arith, le)) ts (ids_above (k + 1) ts h.1))

-- of a table's own items
pub own_items : (k : ℕ) (T : Tables) → IdsFrom k (defs_of T) → AllByRecursion (λ t. items_below (defs_of T) t.def.id ≡ 1000 * (length t.def.indexes + 1)) T
own_items k [] h = tt
own_items k (t ∷ ts) h = (
  rw (eq-eqb t.def.id t.def.id refl) refl,
  all_weaker (λ u. (k + 1 ≤ u.def.id) × (items_below (defs_of ts) u.def.id ≡ 1000 * (length u.def.indexes + 1))) (λ u. items_below (defs_of (t ∷ ts)) u.def.id ≡ 1000 * (length u.def.indexes + 1))
      (λ u p. rw (ne_eqb t.def.id u.def.id (λ e. absurd (omega (arith, h.0, p.0, e)))) p.1) ts
      (all_both (λ u. k + 1 ≤ u.def.id) (λ u. items_below (defs_of ts) u.def.id ≡ 1000 * (length u.def.indexes + 1)) ts (ids_above (k + 1) ts h.1) (own_items (k + 1) ts h.1)),
)

module _ (defs : Defs) where
  -- the row of an item that there may be
  record IsKnown (row : Row) : Type 0 where
    id : ℕ
    item : ℕ
    change : ℕ
    rest : Row
    low : item < items_below defs id
    is : row ≡ number id ∷ number item ∷ number change ∷ rest

  by_key : (row : Row) (id item change : ℕ) → item < items_below defs id → value_at row 0 ∷ value_at row 1 ∷ value_at row 2 ∷ [] ≡ number id ∷ number item ∷ number change ∷ [] → IsKnown row
  by_key [] id item change low e = let is : Null ≡ number id = cc in cc
  by_key (a ∷ []) id item change low e = let is : Null ≡ number item = cc in cc
  by_key (a ∷ b ∷ []) id item change low e = let is : Null ≡ number change = cc in cc
  by_key (a ∷ b ∷ c ∷ rest) id item change low e =
      let x : a ≡ number id = cc in
      let y : b ≡ number item = cc in
      let z : c ≡ number change = cc in
      record { id = id; item = item; change = change; rest = rest; low = low; is = rw (x, y, z) refl }

  all_known : (vs : List Version) → AllByRecursion (λ v. IsColumnKey defs (version_key columns_columns v)) vs → AllByRecursion IsKnown (map values_of vs)
  all_known [] h = tt
  all_known (v ∷ vs) h = let k = h.0 in (by_key (values_of v) k.0 k.1 k.2 k.3 (sym (column_version_key v) ∙ k.5), all_known vs h.1)

  its_item : (id below : ℕ) (row : Row) → items_below defs id ≡ below → is_about (pos id) row ≡ true → IsKnown row → IsItemRow below row
  its_item id below row e own k =
      let about_it : int_eq (pos k.id) (pos id) ≡ true = ap (is_about (pos id)) (sym k.is) ∙ own in
      let same : k.id ≡ id = its_id k.id (one_number (pos k.id) (pos id) about_it) in
      record { id = k.id; item = k.item; change = k.change; rest = k.rest; low = subst (λ (n : ℕ). k.item < n) (ap (items_below defs) same ∙ e) k.low; is = k.is }
    where
      its_id : (n : ℕ) → pos n ≡ pos id → n ≡ id
      its_id n f = omega (arith, ints, f)

  items_about : (id below : ℕ) → items_below defs id ≡ below → (rows : List Row) → AllByRecursion IsKnown rows → AllByRecursion (IsItemRow below) (about (pos id) rows)
  items_about id below e [] h = tt
  items_about id below e (r ∷ rows) h = here (is_about (pos id) r) refl (items_about id below e rows h.1)
    where
      here : (b : Bool) → is_about (pos id) r ≡ b → AllByRecursion (IsItemRow below) (about (pos id) rows) → AllByRecursion (IsItemRow below) (if b then r ∷ about (pos id) rows else about (pos id) rows)
      here true own more = (its_item id below r e own h.0, more)
      here false own more = more

  pub items_of_table : (id below : ℕ) → items_below defs id ≡ below → (vs : List Version) → AllByRecursion (λ v. IsColumnKey defs (version_key columns_columns v)) vs
      → AllByRecursion (IsItemRow below) (about (pos id) (map values_of vs))
  items_of_table id below e vs h = items_about id below e (map values_of vs) (all_known vs h)

-- ---- tables of users

module _ (has : ℕ → Bool) (then_ : Tables) (first second : List Row) where
  -- the rows say the table's definition, and it has its versions
  pub record IsSaid (t : Table) : Type 0 where
    pub encoded : EncodeDef first second t.def
    pub may : is_encodable_def t.def ≡ true
    pub new : has_new_names (latest 0 first) t.def ≡ true
    pub formed : Formed t.def
    pub written : Written t.def
    pub items : AllByRecursion (IsItemRow (1000 * (length t.def.indexes + 1))) (about (pos t.def.id) second)
    pub own : versions_of then_ t.def.id ≡ t.versions
    pub few : AllByRecursion (λ v. length v.values ≤ length t.def.columns) t.versions

  -- the versions of the later table are left as they were
  pub record IsLeft (u : Table) : Type 0 where
    pub formed : Formed u.def
    pub left : versions_at has (table_rows u) ≡ map (filled_version u.def.columns) (versions_of then_ u.def.id)

  record IsTold (t u : Table) : Type 0 where
    told : def_told first second u.def ≡ t.def
    spelled : is_encoded first second [] t.def ≡ true
    left : map (cut_to (length t.def.columns)) (versions_at has (table_rows u)) ≡ map (filled_version t.def.columns) t.versions

  one_told : (t u : Table) → IsSaid t → IsLeft u → Grows t.def u.def → IsTold t u
  one_told t u s l g = record {
    told = told_is t.def u.def first second s.encoded s.formed s.written g l.formed.count (and_true (rise_within 0 (length u.def.columns) u.def.dropped) _ l.formed.dropped).0 s.items;
    spelled = it_is_encoded first second t.def s.encoded s.may s.new;
    left =
        ap (map (cut_to (length t.def.columns))) (l.left ∙ ap (λ (id : ℕ). map (filled_version u.def.columns) (versions_of then_ id)) g.id ∙ ap (map (filled_version u.def.columns)) s.own)
        ∙ all_cut t.def.columns u.def.columns g.columns t.versions s.few;
  }

  abbrev tell : Table → TableDef → Bool → Tables → Tables
  tell u def b rest = if b then table_at has def (table_rows u) ∷ rest else rest

  -- tables that come later have no rows yet, since their ids are from this one on
  module _ (end : ℕ) (none : (id : ℕ) → end ≤ id → about (pos id) first ≡ []) where
    no_later : (n : ℕ) (us : Tables) → end ≤ n → IdsFrom n (defs_of us) → users_at has first second (defs_of us) (map table_rows us) ≡ []
    no_later n [] le ids = refl
    no_later n (u ∷ us) le ids =
        ap (λ (b : Bool). tell u (def_told first second u.def) b (users_at has first second (defs_of us) (map table_rows us)))
        (none_encoded first second (def_told first second u.def) (none_of u.def (none u.def.id (omega (arith, le, ids.0)))))
        ∙ no_later (n + 1) us (omega (arith, le)) ids.1
      where
        none_of : (def : TableDef) → about (pos def.id) first ≡ [] → about (pos (def_told first second def).id) first ≡ []
        none_of def e = ap (λ (id : ℕ). about (pos id) first) (told_id first second def) ∙ e

    pub users_told : (n : ℕ) (ts us : Tables) → n + length ts ≡ end → IdsFrom n (defs_of us) → AllByRecursion IsSaid ts → AllByRecursion IsLeft us → GrowAll (defs_of ts) (defs_of us)
        → users_at has first second (defs_of us) (map table_rows us) ≡ map filled_table ts
    users_told n [] us at ids said left grow = no_later n us (omega (arith, at)) ids
    users_told n (t ∷ ts) [] at ids said left grow = absurd grow
    users_told n (t ∷ ts) (u ∷ us) at ids said left grow =
        let i : IsTold t u = one_told t u said.0 left.0 grow.0 in
        let rest : Tables = users_at has first second (defs_of us) (map table_rows us) in
        let here : n + suc (length ts) ≡ end = at in
        ap (λ (d : TableDef). tell u d (is_encoded first second [] d) rest) i.told
        ∙ ap (λ (b : Bool). tell u t.def b rest) i.spelled
        ∙ ap₂ (λ (vs : List Version) (ws : Tables). record { def = t.def; versions = vs } ∷ ws) i.left (users_told (n + 1) ts us (omega (arith, here)) ids.1 said.1 left.1 grow.1)
