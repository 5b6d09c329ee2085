-- What ALTER TABLE and DROP TABLE enter in the system tables: rows that fit, at new keys, about what there is then.
use Rattle.std.proofs.Common.{◌≡◌, ◌≤◌, ◌<◌, ℕ, zero, suc, ◌+◌, ◌*◌, refl, sym, ap, subst, ◌∙◌, Bool, true, false, List, [], ◌∷◌, ◌++◌, map, length, inl, inr, Some, Ok, arith, length-append}
use Rattle.std.proofs.lemmas.Bool.{eq-eqb, ne_eqb, leb-false}
use Rattle.std.proofs.lemmas.List.{length-map, length-set}
use Rattle.std.specs.Prelude.{◌==◌, ◌||◌, if◌then◌else◌, slice_get, slice_set}
use Rattle.std.specs.List.{AllByRecursion}
use Rattle.std.specs.Ordering.{nat_cmp, is_gt}
use Rattle.sql_value.specs.declared.column.ColumnDef.{ColumnDef}
use Rattle.sql_value.specs.Stored.{is_in_range}
use Rattle.sql_types.specs.declared.statement.Alter.{Alter}
use Rattle.sql_types.specs.declared.statement.Alter.TheVariants.{Add, DropColumn}
use Rattle.sql_types.specs.declared.table.TableDef.{TableDef}
use Rattle.sql_types.specs.declared.table.Part.{Part}
use Rattle.sql_types.specs.declared.version.Table.{Table}
use Rattle.sql_types.specs.declared.version.Version.{Version}
use Rattle.spec_model.specs.LiveColumns.{is_dropped}
use Rattle.spec_model.specs.Limits.{max_columns}
use Rattle.spec_model.specs.Lists.{is_among, inserted}
use Rattle.spec_model.specs.Rows.{Row, stored_row}
use Rattle.spec_model.specs.Keys.{Key, version_key}
use Rattle.spec_model.specs.Changes.{Change, Starts}
use Rattle.spec_model.specs.Catalog.{Defs, NamedPart, Tables, defs_of, versions_of}
use Rattle.spec_model.specs.SystemTables.{tables_id, columns_id, tables_columns, columns_columns, changed_table_row, changed_column_row}
use Rattle.spec_model.specs.Alter.{column_to_add, with_added, dropped_column, with_dropped, dropped_table, WithColumn, alter_check, drop_check, next_change, Altered, altered_table, gone_table}
use Rattle.spec_model.specs.Agreement.{IdsFrom}
use Rattle.law_frame.specs.Alters.{Alters, Altering}
use Rattle.law_frame.proofs.Alls.{all_append}
use Rattle.law_frame.proofs.Alterations.{Stands, Added, added, ColumnDropped, column_dropped, TableDropped, table_dropped, added_alters, dropped_alters, gone_alters}
use Rattle.law_frame.proofs.BaseTables.{found_is_users}
use Rattle.law_journal.specs.Fine.{key_in, OfTable}
use Rattle.law_journal.specs.Described.{items_below, live_from, most_changes, IsTableKey, IsColumnKey, InRange, Described}
use Rattle.law_journal.proofs.Altered.{of_out, of_def, has_old}
use Rattle.law_journal.proofs.Created.{name_short, names_short}
use Rattle.law_journal.proofs.DefLists.{live_at_most, redef, ListedOnce, is_listed_once, items_now}
use Rattle.law_journal.proofs.Here.{AllNew}
use Rattle.law_journal.proofs.Lift.{of_weaker}
use Rattle.law_journal.proofs.NewChanges.{none_of_first, none_of_second, next_within, first_within, second_within, own_changes}
use Rattle.law_journal.proofs.NumberKeys.{changed_table_key, changed_column_key}
use Rattle.law_journal.proofs.Order.{NoneLive}
use Rattle.law_journal.proofs.SystemRows.{IsSmall, changed_table_row_fits, changed_column_row_fits}

-- ---- how many columns stand

live_added : (dropped : List ℕ) (n : ℕ) (cs : List ColumnDef) (c : ColumnDef) → live_from dropped n (cs ++ c ∷ []) ≤ live_from dropped n cs + 1
live_added dropped n [] c = one (is_among dropped n)
  where
    one : (b : Bool) → (if b then 0 else 1) + 0 ≤ 1
    one true = omega arith
    one false = omega arith
live_added dropped n (d ∷ cs) c = omega (arith, live_added dropped (n + 1) cs c)

live_set : (dropped : List ℕ) (n : ℕ) (cs : List ColumnDef) (i : ℕ) (c : ColumnDef) → live_from dropped n (slice_set cs i c) ≡ live_from dropped n cs
live_set dropped n [] i c = refl
live_set dropped n (d ∷ cs) zero c = refl
live_set dropped n (d ∷ cs) (suc i) c = ap (λ (k : ℕ). (if is_among dropped n then 0 else 1) + k) (live_set dropped (n + 1) cs i c)

-- an ordinal more is among them, beside those that were
or_either : (a b : Bool) → b ≡ true → (a || b) ≡ true
or_either true b e = refl
or_either false b e = e

or_follows : (a b c : Bool) → (b ≡ true → c ≡ true) → (a || b) ≡ true → (a || c) ≡ true
or_follows true b c h e = refl
or_follows false b c h e = h e

among_either : (b : Bool) (m n k : ℕ) (ks zs : List ℕ) → is_among (k ∷ ks) n ≡ true → (is_among ks n ≡ true → is_among zs n ≡ true) → is_among (if b then k ∷ zs else m ∷ k ∷ ks) n ≡ true
among_either true m n k ks zs e h = or_follows (k == n) (is_among ks n) (is_among zs n) h e
among_either false m n k ks zs e h = or_either (m == n) (is_among (k ∷ ks) n) e

among_more : (m n : ℕ) (ns : List ℕ) → is_among ns n ≡ true → is_among (inserted nat_cmp m ns) n ≡ true
among_more m n [] e = cc
among_more m n (k ∷ ks) e = among_either (is_gt (nat_cmp m k)) m n k ks (inserted nat_cmp m ks) e (among_more m n ks)

own_either : (b : Bool) (m k : ℕ) (ks zs : List ℕ) → is_among zs m ≡ true → is_among (if b then k ∷ zs else m ∷ k ∷ ks) m ≡ true
own_either true m k ks zs h = or_either (k == m) (is_among zs m) h
own_either false m k ks zs h = rw (eq-eqb m m refl) refl

among_own : (m : ℕ) (ns : List ℕ) → is_among (inserted nat_cmp m ns) m ≡ true
among_own m [] = rw (eq-eqb m m refl) refl
among_own m (k ∷ ks) = own_either (is_gt (nat_cmp m k)) m k ks (inserted nat_cmp m ks) (among_own m ks)

live_fewer : (dropped : List ℕ) (m n : ℕ) (cs : List ColumnDef) → live_from (inserted nat_cmp m dropped) n cs ≤ live_from dropped n cs
live_fewer dropped m n [] = omega arith
live_fewer dropped m n (c ∷ cs) = omega (arith, here (is_among dropped n) (is_among (inserted nat_cmp m dropped) n) (among_more m n dropped), live_fewer dropped m (n + 1) cs)
  where
    here : (a b : Bool) → (a ≡ true → b ≡ true) → (if b then 0 else 1) ≤ (if a then 0 else 1)
    here true true h = omega arith
    here true false h = absurd (let no : false ≡ true = h refl in cc)
    here false true h = omega arith
    here false false h = omega arith

live_dropped : (dropped : List ℕ) (n : ℕ) (cs : List ColumnDef) (i : ℕ) (c : ColumnDef) → slice_get cs i ≡ Some c → is_among dropped (n + i) ≡ false
    → live_from (inserted nat_cmp (n + i) dropped) n cs + 1 ≤ live_from dropped n cs
live_dropped dropped n [] i c e free = cc
live_dropped dropped n (d ∷ cs) zero c e free =
    let at : n + 0 ≡ n = omega arith in
    let was : is_among dropped n ≡ false = subst (λ (k : ℕ). is_among dropped k ≡ false) at free in
    let now : is_among (inserted nat_cmp (n + 0) dropped) n ≡ true = subst (λ (k : ℕ). is_among (inserted nat_cmp (n + 0) dropped) k ≡ true) at (among_own (n + 0) dropped) in
    rw (was, now) (omega (arith, live_fewer dropped (n + 0) (n + 1) cs))
live_dropped dropped n (d ∷ cs) (suc i) c e free =
    let at : n + suc i ≡ n + 1 + i = omega arith in
    let rest : live_from (inserted nat_cmp (n + 1 + i) dropped) (n + 1) cs + 1 ≤ live_from dropped (n + 1) cs =
    live_dropped dropped (n + 1) cs i c e (subst (λ (k : ℕ). is_among dropped k ≡ false) at free) in
    let moved : live_from (inserted nat_cmp (n + suc i) dropped) (n + 1) cs + 1 ≤ live_from dropped (n + 1) cs =
    subst (λ (k : ℕ). live_from (inserted nat_cmp k dropped) (n + 1) cs + 1 ≤ live_from dropped (n + 1) cs) (sym at) rest in
    omega (arith, here (is_among dropped n) (is_among (inserted nat_cmp (n + suc i) dropped) n) (among_more (n + suc i) n dropped), moved)
  where
    here : (a b : Bool) → (a ≡ true → b ≡ true) → (if b then 0 else 1) ≤ (if a then 0 else 1)
    here true true h = omega arith
    here true false h = absurd (let no : false ≡ true = h refl in cc)
    here false true h = omega arith
    here false false h = omega arith

-- ---- lists of columns

all_at : (P : ColumnDef → Type 0) (cs : List ColumnDef) (i : ℕ) (c : ColumnDef) → slice_get cs i ≡ Some c → AllByRecursion P cs → P c
all_at P [] i c e h = cc
all_at P (d ∷ cs) zero c e h = let is : d ≡ c = cc in subst P is h.0
all_at P (d ∷ cs) (suc i) c e h = all_at P cs i c e h.1

all_set : (P : ColumnDef → Type 0) (cs : List ColumnDef) (i : ℕ) (c : ColumnDef) → P c → AllByRecursion P cs → AllByRecursion P (slice_set cs i c)
all_set P [] i c own h = tt
all_set P (d ∷ cs) zero c own h = (own, h.1)
all_set P (d ∷ cs) (suc i) c own h = (h.0, all_set P cs i c own h.1)

place_below : (cs : List ColumnDef) (i : ℕ) (c : ColumnDef) → slice_get cs i ≡ Some c → i < length cs
place_below [] i c e = cc
place_below (d ∷ cs) zero c e = omega arith
place_below (d ∷ cs) (suc i) c e = omega (arith, place_below cs i c e)

-- ---- definitions

-- it takes the place of a definition of which no column stands that didn't stand, but for one that was added
pub record Changing (defs : Defs) (def : TableDef) : Type 0 where
  pub g : Altering defs def
  pub types : InRange g.old → InRange def
  pub room : (m : ℕ) → m + live_from g.old.dropped 1 g.old.columns ≤ most_changes g.old → m + 1 + live_from def.dropped 1 def.columns ≤ most_changes def

-- and this column of it is entered
pub record ColumnChanging (defs : Defs) (x : WithColumn) : Type 0 where
  pub c : Changing defs x.0
  pub ordinal : length c.g.old.columns ≤ 64 → x.1.0 ≤ 64
  pub small : InRange c.g.old → IsSmall x.1.1

abbrev replacing : (defs : Defs) (name : List ℕ) (n : NamedPart) (def : TableDef) → Stands defs name n → Alters n.0 def → (InRange n.0 → InRange def)
    → ((m : ℕ) → m + live_from n.0.dropped 1 n.0.columns ≤ most_changes n.0 → m + 1 + live_from def.dropped 1 def.columns ≤ most_changes def) → Changing defs def
replacing defs name n def h k types room = record {
  g = record {
    name = name;
    old = n.0;
    found = h.by_name ∙ ap (λ (p : Part). Some (n.0, p)) h.base;
    users = found_is_users defs name n h.by_name h.base;
    stands = h.there;
    alters = k;
  };
  types = types;
  room = room;
}

pub column_changing : (defs : Defs) (y : Alter) (x : WithColumn) → alter_check defs y ≡ Ok x → ColumnChanging defs x
column_changing defs (Add table c) x e =
    let p : Added defs table c x = added defs table c x e in
    let old : TableDef = p.found.0 in
    subst (ColumnChanging defs) (sym p.is) (record {
      c = replacing defs table p.found (with_added old c) p.stands (added_alters old c p.free p.room)
          (λ h. all_append (λ x. is_in_range x.ty ≡ true) old.columns (column_to_add c ∷ []) h (p.in_range, tt))
          (λ m h. omega (arith, h, live_added old.dropped 1 old.columns (column_to_add c), length-append old.columns (column_to_add c ∷ [])));
      ordinal = λ few. omega (arith, leb-false max_columns (length old.columns) p.room);
      small = λ h. record { name = name_short c.name p.short; ty = p.in_range; key = omega arith };
    })
column_changing defs (DropColumn table name) x e =
    let p : ColumnDropped defs table name x = column_dropped defs table name x e in
    let old : TableDef = p.found.0 in
    let new : ColumnDef = dropped_column (suc p.column.0) p.column.1 in
    subst (ColumnChanging defs) (sym p.is) (record {
      c = replacing defs table p.found (with_dropped old p.column) p.stands (dropped_alters old p.column p.live.at p.in_no_key p.free)
          (λ h. all_set (λ x. is_in_range x.ty ≡ true) old.columns p.column.0 new (all_at (λ x. is_in_range x.ty ≡ true) old.columns p.column.0 p.column.1 p.live.at h) h)
          (λ m h. omega (arith, h, fewer old p.column p.live.at p.live.live, length-set old.columns p.column.0 new));
      ordinal = λ few. omega (arith, few, place_below old.columns p.column.0 p.column.1 p.live.at);
      small = λ h. record { name = name_short new.name p.short; ty = all_at (λ x. is_in_range x.ty ≡ true) old.columns p.column.0 p.column.1 p.live.at h; key = omega (arith, p.in_no_key) };
    })
  where
    fewer : (old : TableDef) (p : ℕ × ColumnDef) → slice_get old.columns p.0 ≡ Some p.1 → is_dropped old (suc p.0) ≡ false
        → live_from (inserted nat_cmp (suc p.0) old.dropped) 1 (slice_set old.columns p.0 (dropped_column (suc p.0) p.1)) + 1 ≤ live_from old.dropped 1 old.columns
    fewer old p at live =
        let place : 1 + p.0 ≡ suc p.0 = omega arith in
        let less : live_from (inserted nat_cmp (suc p.0) old.dropped) 1 old.columns + 1 ≤ live_from old.dropped 1 old.columns =
        subst (λ (k : ℕ). live_from (inserted nat_cmp k old.dropped) 1 old.columns + 1 ≤ live_from old.dropped 1 old.columns) place
        (live_dropped old.dropped 1 old.columns p.0 p.1 at (subst (λ (k : ℕ). is_among old.dropped k ≡ false) (sym place) live)) in
        omega (arith, less, live_set (inserted nat_cmp (suc p.0) old.dropped) 1 old.columns p.0 (dropped_column (suc p.0) p.1))

pub table_changing : (defs : Defs) (name : List ℕ) (def : TableDef) → drop_check defs name ≡ Ok def
    → Changing defs def × ((length def.name ≤ 128) × (length def.history ≤ 128) × (length def.view ≤ 128))
unfolding dropped_table
table_changing defs name def e =
    let p : TableDropped defs name def = table_dropped defs name def e in
    let old : TableDef = p.found.0 in
    let n = names_short ((dropped_table old).name ∷ (dropped_table old).history ∷ (dropped_table old).view ∷ []) p.short in
    subst (λ (d : TableDef). Changing defs d × ((length d.name ≤ 128) × (length d.history ≤ 128) × (length d.view ≤ 128))) (sym p.is)
    (replacing defs name p.found (dropped_table old) p.stands (gone_alters old) (λ h. h) (last old p.stands.there), (n.0, n.1.0, n.1.1.0))
  where
    last : (old : TableDef) → old.gone ≡ false → (m : ℕ) → m + live_from old.dropped 1 old.columns ≤ 2 * length old.columns + (if old.gone then 1 else 0)
        → m + 1 + live_from old.dropped 1 old.columns ≤ 2 * length old.columns + 1
    last old there m h =
        let k : m + live_from old.dropped 1 old.columns ≤ 2 * length old.columns + 0 = subst (λ (b : Bool). m + live_from old.dropped 1 old.columns ≤ 2 * length old.columns + (if b then 1 else 0)) there h in
        omega (arith, k)

-- ---- what is entered

abbrev pub starts_of : List ColumnDef → List Row → List Change
starts_of columns rows = map (λ row. Starts (stored_row columns row)) rows

pub record Enters (T : Tables) (a : Altered) : Type 0 where
  pub c : Changing (defs_of T) a.def
  pub first_rows : List Row
  pub first_are : a.first ≡ starts_of tables_columns first_rows
  pub first_new : AllNew tables_columns first_rows (versions_of T tables_id)
  pub first_known : AllByRecursion (λ r. IsTableKey (redef a.def (defs_of T)) (key_in tables_columns (stored_row tables_columns r))) first_rows
  pub second_rows : List Row
  pub second_are : a.second ≡ starts_of columns_columns second_rows
  pub second_new : AllNew columns_columns second_rows (versions_of T columns_id)
  pub second_known : AllByRecursion (λ r. IsColumnKey (redef a.def (defs_of T)) (key_in columns_columns (stored_row columns_columns r))) second_rows

of_versions : (n id : ℕ) (P : Table → Type 0) (T : Tables) → IdsFrom n (defs_of T) → OfTable id P T → (n ≤ id) × OfTable id (λ t. P t × (t.versions ≡ versions_of T id)) T
of_versions n id P [] ids o = absurd o
of_versions n id P (t ∷ ts) ids o = elim o [
  | inl p ↦ (omega (arith, ids.0, p.0), inl (p.0, (p.1, rw (eq-eqb t.def.id id p.0) refl)))
  | inr q ↦ (
      let r = of_versions (n + 1) id P ts ids.1 q in (
        omega (arith, r.0),
        inr (of_weaker id (λ u. P u × (u.versions ≡ versions_of ts id)) (λ u. P u × (u.versions ≡ versions_of (t ∷ ts) id)) ts
            (λ u k. (k.0, k.1 ∙ rw (ne_eqb t.def.id id (λ same. absurd (omega (arith, same, ids.0, r.0)))) refl)) r.1),
      ))
]

-- the table with this id has these versions
pub with_its_versions : (id : ℕ) (P : Table → Type 0) (T : Tables) → IdsFrom 1 (defs_of T) → OfTable id P T → OfTable id (λ t. P t × (t.versions ≡ versions_of T id)) T
with_its_versions id P T ids o = (of_versions 1 id P T ids o).1

module _ (T : Tables) (ids : IdsFrom 1 (defs_of T)) (d : Described T) where
  first_keys : AllByRecursion (λ v. IsTableKey (defs_of T) (version_key tables_columns v)) (versions_of T tables_id)
  first_keys =
      of_out tables_id
      (λ t. ((t.def.columns ≡ tables_columns) × AllByRecursion (λ v. IsTableKey (defs_of T) (version_key tables_columns v)) t.versions) × (t.versions ≡ versions_of T tables_id))
      (AllByRecursion (λ v. IsTableKey (defs_of T) (version_key tables_columns v)) (versions_of T tables_id)) T
      (with_its_versions tables_id (λ t. (t.def.columns ≡ tables_columns) × AllByRecursion (λ v. IsTableKey (defs_of T) (version_key tables_columns v)) t.versions) T ids d.of_tables)
      (λ t h. subst (λ (vs : List Version). AllByRecursion (λ v. IsTableKey (defs_of T) (version_key tables_columns v)) vs) h.1 h.0.1)

  second_keys : AllByRecursion (λ v. IsColumnKey (defs_of T) (version_key columns_columns v)) (versions_of T columns_id)
  second_keys =
      of_out columns_id
      (λ t. ((t.def.columns ≡ columns_columns) × AllByRecursion (λ v. IsColumnKey (defs_of T) (version_key columns_columns v)) t.versions) × (t.versions ≡ versions_of T columns_id))
      (AllByRecursion (λ v. IsColumnKey (defs_of T) (version_key columns_columns v)) (versions_of T columns_id)) T
      (with_its_versions columns_id (λ t. (t.def.columns ≡ columns_columns) × AllByRecursion (λ v. IsColumnKey (defs_of T) (version_key columns_columns v)) t.versions) T ids d.of_columns)
      (λ t h. subst (λ (vs : List Version). AllByRecursion (λ v. IsColumnKey (defs_of T) (version_key columns_columns v)) vs) h.1 h.0.1)

  -- the change that is next
  abbrev next : ℕ → ℕ
  next id = next_change id (versions_of T tables_id) (versions_of T columns_id)

  next_may_be : (def : TableDef) → (c : Changing (defs_of T) def) → next def.id + live_from def.dropped 1 def.columns ≤ most_changes def
  next_may_be def c =
      let x : TableDef = c.g.old in
      let out : (P : TableDef → Type 0) → AllByRecursion P (defs_of T) → P x = λ P h. of_def P T x h (has_old T def ids c.g) in
      let s : ℕ = live_from x.dropped 1 x.columns in
      let le : s ≤ most_changes x = omega (arith, live_at_most x.dropped 1 x.columns) in
      let within : next def.id + s ≤ suc (most_changes x) =
      next_within s (most_changes x) le def.id (versions_of T tables_id) (versions_of T columns_id)
      (first_within (defs_of T) x def.id (sym c.g.alters.id) out (versions_of T tables_id) first_keys)
      (second_within (defs_of T) x def.id (sym c.g.alters.id) out (versions_of T columns_id) second_keys) in
      here (next def.id) refl within
    where
      here : (n : ℕ) → next def.id ≡ n → n + live_from c.g.old.dropped 1 c.g.old.columns ≤ suc (most_changes c.g.old) → next def.id + live_from def.dropped 1 def.columns ≤ most_changes def
      here zero e h = omega (arith, e, c.room 0 (omega (arith, live_at_most c.g.old.dropped 1 c.g.old.columns)))
      here (suc m) e h = omega (arith, e, c.room m (omega (arith, h)))

  few_old : (def : TableDef) → (c : Changing (defs_of T) def) → length c.g.old.columns ≤ 64
  few_old def c = of_def (λ x. length x.columns ≤ 64) T c.g.old d.few (has_old T def ids c.g)

  most_small : (def : TableDef) → length def.columns ≤ 64 → most_changes def ≤ 129
  most_small def le = here def.gone
    where
      here : (b : Bool) → 2 * length def.columns + (if b then 1 else 0) ≤ 129
      here true = omega (arith, le)
      here false = omega (arith, le)

  next_small : (def : TableDef) → (c : Changing (defs_of T) def) → next def.id < 2147483648
  next_small def c = omega (arith, next_may_be def c, most_small def (c.g.alters.few (few_old def c)))

  listed : (def : TableDef) → (c : Changing (defs_of T) def) → ListedOnce 1 c.g.old T
  listed def c = is_listed_once 1 c.g.old T ids (has_old T def ids c.g)

  id_listed : (def : TableDef) → (c : Changing (defs_of T) def) → def.id ≤ length (defs_of T)
  id_listed def c = omega (arith, c.g.alters.id, (listed def c).to)

  pub alter_enters : (y : Alter) (x : WithColumn) → alter_check (defs_of T) y ≡ Ok x → Enters T (altered_table (next x.0.id) x)
  alter_enters y x e =
      let f : ColumnChanging (defs_of T) x = column_changing (defs_of T) y x e in
      let def : TableDef = x.0 in
      let n : ℕ = next def.id in
      let row : Row = changed_column_row n def x.1 in
      let id : def.id ≤ length (defs_of T) = id_listed def f.c in
      let key = changed_column_key n def x.1 in
      let ordinal : x.1.0 ≤ 64 = f.ordinal (few_old def f.c) in
      let old_types : InRange f.c.g.old = of_def InRange T f.c.g.old d.types (has_old T def ids f.c.g) in
      let items : items_below (redef def (defs_of T)) f.c.g.old.id ≡ 1000 * (length def.indexes + 1) = items_now 1 f.c.g.old def T f.c.g.alters.id ids (has_old T def ids f.c.g) in
      let at_old : x.1.0 < items_below (redef def (defs_of T)) f.c.g.old.id = omega (arith, ordinal, items) in
      record {
        c = f.c;
        first_rows = [];
        first_are = refl;
        first_new = tt;
        first_known = tt;
        second_rows = row ∷ [];
        second_are = refl;
        second_new = (
          changed_column_row_fits n def x.1.0 x.1.1 (omega (arith, id, d.count)) (omega (arith, ordinal)) (next_small def f.c) (f.small old_types),
          subst (λ (k : Key). NoneLive columns_columns k (versions_of T columns_id)) (sym key)
              (none_of_second (defs_of T) def.id (versions_of T tables_id) (versions_of T columns_id) x.1.0 second_keys),
          tt,
          tt,
        );
        second_known = (
          (
            def.id,
            x.1.0,
            n,
            subst (λ (i : ℕ). x.1.0 < items_below (redef def (defs_of T)) i) (sym f.c.g.alters.id) at_old,
            own_changes n def (defs_of T) (next_may_be def f.c),
            key,
          ),
          tt,
        );
      }

  pub drop_enters : (name : List ℕ) (def : TableDef) → drop_check (defs_of T) name ≡ Ok def → Enters T (gone_table (next def.id) def)
  drop_enters name def e =
      let f = table_changing (defs_of T) name def e in
      let c : Changing (defs_of T) def = f.0 in
      let n : ℕ = next def.id in
      let id : def.id ≤ length (defs_of T) = id_listed def c in
      let key = changed_table_key n def in
      record {
        c = c;
        first_rows = changed_table_row n def ∷ [];
        first_are = refl;
        first_new = (
          changed_table_row_fits n def (omega (arith, id, d.count)) (next_small def c) f.1.0 f.1.1 f.1.2,
          subst (λ (k : Key). NoneLive tables_columns k (versions_of T tables_id)) (sym key)
              (none_of_first (defs_of T) def.id (versions_of T tables_id) (versions_of T columns_id) first_keys),
          tt,
          tt,
        );
        first_known = (
          (
            def.id,
            n,
            omega (arith, id, length-map (defs_of T) (λ (y : TableDef). if y.id == def.id then def else y)),
            own_changes n def (defs_of T) (next_may_be def c),
            key,
          ),
          tt,
        );
        second_rows = [];
        second_are = refl;
        second_new = tt;
        second_known = tt;
      }
