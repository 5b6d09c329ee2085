-- What the checks of CREATE TABLE and CREATE INDEX leave.
use Rattle.std.proofs.Common.{◌≡◌, ◌≤◌, ◌<◌, ℕ, ◌+◌, inl, inr, refl, sym, ap, subst, ◌∙◌, Bool, true, false, List, [], ◌∷◌, ◌++◌, map, flat_map, length, Option, Some, None, Ok, arith, append_assoc, append-nil, length-append}
use Rattle.std.proofs.lemmas.Bool.{eq-eqb, ne_eqb}
use Rattle.std.proofs.lemmas.Bool.Decides.{nat_tests}
use Rattle.std.proofs.lemmas.List.{map-append, length-map}
use Rattle.std.proofs.lemmas.List.Concat.{flat_map-cons}
use Rattle.std.specs.Prelude.{◌==◌, ◌||◌, not, nat_lt, is_some, if◌then◌else◌}
use Rattle.std.specs.List.{AllByRecursion, list_any, list_all}
use Rattle.sql_value.specs.declared.column.ColumnDef.{ColumnDef}
use Rattle.sql_value.specs.declared.column.TableKind.{TableKind}
use Rattle.sql_value.specs.declared.column.TableKind.TheVariants.{AppendOnly, Updatable}
use Rattle.sql_value.specs.declared.refusal.Refusal.{Refusal}
use Rattle.sql_value.specs.declared.refusal.Refusal.TheVariants.{NoSuchTable, NameConflict, NoSuchColumn, NullNotAllowed, ReadOnlyTable, LimitExceeded}
use Rattle.sql_types.specs.declared.table.TableDef.{TableDef}
use Rattle.sql_types.specs.declared.table.IndexDef.{IndexDef}
use Rattle.sql_types.specs.declared.statement.CreateTable.{CreateTable}
use Rattle.sql_types.specs.declared.statement.CreateIndex.{CreateIndex}
use Rattle.spec_model.specs.Lists.{has_name, repeats, numbered, is_among}
use Rattle.spec_model.specs.Limits.{max_key_columns, max_columns}
use Rattle.spec_model.specs.Catalog.{Defs, Tables, defs_of, find_part}
use Rattle.spec_model.specs.Checks.{refused_if, is_standing, is_declared}
use Rattle.spec_model.specs.LiveColumns.{live_columns}
use Rattle.spec_model.specs.Create.{names_of, table_names, all_names, is_ledger_name, history_of, key_position_of, keyed, table_def, has_bad_name, exceeds_limit, has_null_key, next_id, create_check, index_def, index_check_in, index_check, ordinal_at, ordinals_of, with_index}
use Rattle.spec_model.specs.Agreement.{IdsFrom}
use Rattle.law_frame.proofs.Alls.{all_weaker, all_both, all_append, all_map}
use Rattle.law_frame.proofs.BaseTables.{base_alone, found_is_users}
use Rattle.law_frame.proofs.Checked.{Led, led}
use Rattle.law_frame.proofs.NamedPart.{was_found}
use Rattle.law_frame.proofs.SameKeys.{or_false, and_true}
use Rattle.spec_model.specs.Columns.{place_of}
use Rattle.spec_model.specs.Refusals.{or_refused}
use Rattle.std.specs.Str.{bytes_eq}
use Rattle.law_journal.specs.Fine.{OfTable}
use Rattle.law_journal.proofs.Created.{Created, created, Indexed, indexed}
use Rattle.law_journal.proofs.DefLists.{redef}
use Rattle.law_journal.proofs.Statements.{has_indexed_table}
use Rattle.law_catalog_rows.specs.IsEncodableDef.{number_repeats}
use Rattle.law_catalog_rows.proofs.Ordinals.{ordinals_differ}
use Rattle.law_catalog_rows.proofs.Declared.{live_declared, live_ordinals}
use Rattle.law_catalog_rows.proofs.Names.{other_way}
use Rattle.law_catalog_rows.specs.Formed.{AreInFront, FormedColumn, FormedIndex, HistoryOf, Formed, AllFresh, AllFormed}

-- ---- tests that failed

pub record Five (a b c d e : Bool) : Type 0 where
  pub first : a ≡ false
  pub second : b ≡ false
  pub third : c ≡ false
  pub fourth : d ≡ false
  pub fifth : e ≡ false

five_false : (a b c d e : Bool) → (a || b || c || d || e) ≡ false → Five a b c d e
five_false true b c d e h = cc
five_false false true c d e h = cc
five_false false false true d e h = cc
five_false false false false true e h = cc
five_false false false false false true h = cc
five_false false false false false false h = record { first = refl; second = refl; third = refl; fourth = refl; fifth = refl }

second_false : (a b c d e f : Bool) → (a || b || c || d || e || f) ≡ false → b ≡ false
second_false true b c d e f h = cc
second_false false true c d e f h = cc
second_false false false c d e f h = refl

not_not : (b : Bool) → not b ≡ false → b ≡ true
not_not true h = refl
not_not false h = cc

pub record Passed (a b c d : Bool) : Type 0 where
  pub first : a ≡ false
  pub second : b ≡ false
  pub third : c ≡ false
  pub fourth : d ≡ false

all_passed : {A : Type 0} (a b c d : Bool) (e f g h : Refusal) (y x : A) → refused_if a e (refused_if b f (refused_if c g (refused_if d h (Ok y)))) ≡ Ok x → Passed a b c d × (x ≡ y)
all_passed true b c d e f g h y x k = cc
all_passed false true c d e f g h y x k = cc
all_passed false false true d e f g h y x k = cc
all_passed false false false true e f g h y x k = cc
all_passed false false false false e f g h y x k = (record { first = refl; second = refl; third = refl; fourth = refl }, cc)

-- ---- CREATE TABLE

pub keyed_places : (key : List (List ℕ)) (cs : List ColumnDef) → AllByRecursion (λ c. c.key_position ≡ key_position_of key c.name) (map (keyed key) cs)
keyed_places key [] = tt
keyed_places key (c ∷ cs) = (refl, keyed_places key cs)

history_formed : (kind : TableKind) (id : ℕ) (written : Option (List ℕ)) → length (history_of kind id written) ≤ 128 → HistoryOf kind (history_of kind id written)
history_formed AppendOnly id written h = refl
history_formed Updatable id written h = h

-- of a new table no column was dropped
none_right : (n : ℕ) (key : List (List ℕ)) (cs : List ColumnDef) → list_all (λ c. not (is_among [] c.0) || c.1.key_position == 0) (numbered n (map (keyed key) cs)) ≡ true
none_right n key [] = refl
none_right n key (c ∷ cs) = none_right (n + 1) key cs

-- the new definition, of which each name of the key is a column
pub record IsNew (defs : Defs) (c : CreateTable) (def : TableDef) : Type 0 where
  pub is : def ≡ table_def (next_id defs) c
  pub declared : list_all (is_declared (table_def (next_id defs) c).columns) c.key ≡ true

pub new_def : (defs : Defs) (c : CreateTable) (def : TableDef) → create_check defs c ≡ Ok def → IsNew defs c def
unfolding create_check
new_def defs c def e =
    let d : TableDef = table_def (next_id defs) c in
    let p : Passed (has_bad_name defs d c.key) (exceeds_limit defs d c.key) (not (list_all (is_declared d.columns) c.key)) (has_null_key d) × (def ≡ d) = all_passed _ _ _ _ NameConflict LimitExceeded NoSuchColumn NullNotAllowed d def e in
    record { is = p.1; declared = not_not _ p.0.third }

pub record Made (defs : Defs) (def : TableDef) : Type 0 where
  pub formed : Formed def
  pub fresh : list_any (has_name (all_names defs)) (table_names def) ≡ false

pub made : (defs : Defs) (c : CreateTable) (def : TableDef) → create_check defs c ≡ Ok def → Made defs def
unfolding create_check table_def
made defs c def e =
    let d : TableDef = table_def (next_id defs) c in
    let p : Passed (has_bad_name defs d c.key) (exceeds_limit defs d c.key) (not (list_all (is_declared d.columns) c.key)) (has_null_key d) × (def ≡ d) = all_passed _ _ _ _ NameConflict LimitExceeded NoSuchColumn NullNotAllowed d def e in
    let k : Created defs d = subst (Created defs) p.1 (created defs c def e) in
    let n : Five (repeats (table_names d)) (list_any (has_name (all_names defs)) (table_names d)) (repeats (names_of d.columns)) (repeats c.key) (list_any (λ x. is_ledger_name x.name) d.columns) = five_false _ _ _ _ _ p.0.first in
    let few : nat_lt max_key_columns (length c.key) ≡ false = second_false (nat_lt max_columns (length d.columns)) _ _ _ _ _ p.0.second in
    subst (Made defs) (sym p.1) (record {
      formed = record {
        id = omega (arith, k.id, k.room);
        name = k.name;
        history = history_formed c.kind (next_id defs) c.history k.history;
        view = k.view;
        own_names = n.first;
        dropped = none_right 1 c.key c.columns;
        count = k.count;
        columns = all_weaker _ FormedColumn (λ x small. record { name = small.name; ty = small.ty }) d.columns k.columns;
        column_names = n.third;
        not_ledgers = n.fifth;
        keyed = record { key = c.key; few = grind (arith, nat_tests); differ = n.fourth; declared = not_not _ p.0.third; places = keyed_places c.key c.columns };
        not_null = p.0.fourth;
        few_indexes = omega arith;
        indexes = tt;
        index_names = refl;
      };
      fresh = n.second;
    })

-- ---- lists of definitions

fresh_more : (before : List (List ℕ)) (all : List (List (List ℕ))) (names : List (List ℕ)) → AllFresh before all → list_any (has_name (before ++ flat_map (λ ns. ns) all)) names ≡ false → AllFresh before (all ++ names ∷ [])
fresh_more before [] names f e = (ap (λ (xs : List (List ℕ)). list_any (has_name xs) names) (sym (append-nil before)) ∙ e, tt)
fresh_more before (ns ∷ all) names f e =
    (f.0, fresh_more (before ++ ns) all names f.1 (ap (λ (xs : List (List ℕ)). list_any (has_name xs) names) (append_assoc before ns (flat_map (λ ns. ns) all) ∙ ap (λ (xs : List (List ℕ)). before ++ xs) (sym (flat_map-cons (λ ns. ns) ns all))) ∙ e))

names_together : (ds : Defs) → flat_map (λ ns. ns) (map table_names ds) ≡ all_names ds
names_together [] = refl
names_together (d ∷ ds) = flat_map-cons (λ ns. ns) (table_names d) (map table_names ds) ∙ ap (λ (xs : List (List ℕ)). table_names d ++ xs) (names_together ds) ∙ sym (flat_map-cons table_names d ds)

still_in_front : (ds : Defs) (def : TableDef) → AreInFront ds → AreInFront (ds ++ def ∷ [])
still_in_front [] def h = absurd h
still_in_front (a ∷ []) def h = absurd h
still_in_front (a ∷ b ∷ ds) def h = h

pub new_formed : (ds : Defs) (def : TableDef) → Made ds def → AllFormed ds → AllFormed (ds ++ def ∷ [])
new_formed ds def m a = record {
  system = still_in_front ds def a.system;
  each = all_append (λ (d : TableDef). 2 < d.id → Formed d) ds (def ∷ []) a.each ((λ lt. m.formed), tt);
  fresh = subst (AllFresh []) (sym (map-append table_names ds (def ∷ [])))
      (fresh_more [] (map table_names ds) (table_names def) a.fresh (ap (λ (xs : List (List ℕ)). list_any (has_name xs) (table_names def)) (names_together ds) ∙ m.fresh));
}

-- ---- CREATE INDEX

one_name_more : (ns : List (List ℕ)) (n m : List ℕ) → has_name ns m ≡ false → bytes_eq n m ≡ false → has_name (ns ++ n ∷ []) m ≡ false
one_name_more [] n m e f = rw f refl
one_name_more (k ∷ ns) n m e f = let p = or_false (bytes_eq k m) (has_name ns m) e in rw p.0 (one_name_more ns n m p.1 f)

still_differ : (ns : List (List ℕ)) (n : List ℕ) → repeats ns ≡ false → has_name ns n ≡ false → repeats (ns ++ n ∷ []) ≡ false
still_differ [] n e f = refl
still_differ (m ∷ ns) n e f =
    let p = or_false (has_name ns m) (repeats ns) e in
    let q = or_false (bytes_eq m n) (has_name ns n) f in
    rw (one_name_more ns n m p.0 (other_way m n q.0)) (still_differ ns n p.1 q.1)

ordinal_from_one : (o : Option ℕ) → is_some o ≡ true → 1 ≤ ordinal_at o
ordinal_from_one (Some p) e = omega arith
ordinal_from_one None e = cc

ordinals_from_one : (columns : List ColumnDef) (names : List (List ℕ)) → list_all (is_declared columns) names ≡ true → AllByRecursion (λ o. 1 ≤ o) (ordinals_of columns names)
ordinals_from_one columns [] e = tt
ordinals_from_one columns (n ∷ ns) e = let p = and_true (is_declared columns n) (list_all (is_declared columns) ns) e in (ordinal_from_one (place_of columns n) p.0, ordinals_from_one columns ns p.1)

-- the new index is of a user's table; it has the statement's name, which is new, and an ordinal for each of its columns
pub record NewIndex (c : CreateIndex) (x : TableDef × IndexDef) : Type 0 where
  pub users : 2 < x.0.id
  pub name : x.1.name ≡ c.name
  pub free : has_name (map (λ i. i.name) x.0.indexes) x.1.name ≡ false
  pub count : length x.1.ordinals ≡ length c.columns
  pub ordinals : AllByRecursion (λ o. 1 ≤ o) x.1.ordinals
  pub differ : number_repeats x.1.ordinals ≡ false
  pub live : repeats (names_of x.0.columns) ≡ false → AllByRecursion (λ o. is_among x.0.dropped o ≡ false) x.1.ordinals

pub new_index : (defs : Defs) (c : CreateIndex) (x : TableDef × IndexDef) → index_check defs c ≡ Ok x → NewIndex c x
unfolding index_check
new_index defs c x e =
    let l : Led (or_refused NoSuchTable (find_part defs c.table)) (index_check_in c) x = led _ _ x e in
    let old : TableDef = l.value.0 in
    let y : TableDef × IndexDef = (old, index_def old c) in
    let p : Passed (has_name (map (λ i. i.name) old.indexes) c.name || repeats c.columns) _ (not (is_standing old l.value.1)) (not (list_all (is_declared (live_columns old)) c.columns)) × (x ≡ y) = all_passed _ _ _ _ NameConflict LimitExceeded ReadOnlyTable NoSuchColumn y x l.then_ in
    let names = or_false (has_name (map (λ i. i.name) old.indexes) c.name) (repeats c.columns) p.0.first in
    let declared : list_all (is_declared old.columns) c.columns ≡ true = live_declared old c.columns (not_not _ p.0.fourth) in
    subst (NewIndex c) (sym p.1) (record {
      users = found_is_users defs c.table l.value (was_found NoSuchTable (find_part defs c.table) l.value l.was) (base_alone old l.value.1 p.0.third);
      name = refl;
      free = names.0;
      count = length-map (map (place_of old.columns) c.columns) ordinal_at ∙ length-map c.columns (place_of old.columns);
      ordinals = ordinals_from_one old.columns c.columns declared;
      differ = ordinals_differ old.columns c.columns declared names.1;
      live = λ once. live_ordinals old c.columns once (not_not _ p.0.fourth);
    })

pub indexed_is_users : (defs : Defs) (c : CreateIndex) (x : TableDef × IndexDef) → index_check defs c ≡ Ok x → 2 < x.0.id
indexed_is_users defs c x e = (new_index defs c x e).users

pub index_formed : (ds : Defs) (c : CreateIndex) (x : TableDef × IndexDef) → Indexed ds x → NewIndex c x → Formed x.0 → Formed (with_index x.0 x.1)
index_formed ds c x i new f = record {
  id = f.id;
  name = f.name;
  history = f.history;
  view = f.view;
  own_names = f.own_names;
  dropped = f.dropped;
  count = f.count;
  columns = f.columns;
  column_names = f.column_names;
  not_ledgers = f.not_ledgers;
  keyed = f.keyed;
  not_null = f.not_null;
  few_indexes = omega (arith, i.indexes, length-append x.0.indexes (x.1 ∷ []));
  indexes = all_append (FormedIndex (length x.0.columns)) x.0.indexes (x.1 ∷ []) f.indexes (record { name = i.name; count = i.count; ordinals = all_both (λ o. 1 ≤ o) (λ o. o ≤ length x.0.columns) x.1.ordinals new.ordinals i.ordinals; differ = new.differ }, tt);
  index_names = subst (λ (ns : List (List ℕ)). repeats ns ≡ false) (sym (map-append (λ (j : IndexDef). j.name) x.0.indexes (x.1 ∷ []))) (still_differ (map (λ j. j.name) x.0.indexes) x.1.name f.index_names new.free);
}

pub in_its_place : (def : TableDef) (P : TableDef → Type 0) (ds : Defs) → P def → AllByRecursion P ds → AllByRecursion P (redef def ds)
in_its_place def P ds p h = all_map P P (λ (d : TableDef). if d.id == def.id then def else d) (λ d k. here (d.id == def.id) d k) ds h
  where
    here : (b : Bool) (d : TableDef) → P d → P (if b then def else d)
    here true d k = p
    here false d k = k

-- a definition that takes the place of the one with its id
module _ (x def : TableDef) (same : def.id ≡ x.id) where
  pub none_behind : (n : ℕ) (ds : Defs) → IdsFrom n ds → x.id < n → redef def ds ≡ ds
  none_behind n [] ids lt = refl
  none_behind n (d ∷ ds) ids lt = rw (ne_eqb d.id def.id (λ e. absurd (omega (arith, e, same, ids.0, lt)))) (ap (λ (all : Defs). d ∷ all) (none_behind (n + 1) ds ids.1 (omega (arith, lt))))

  module _ (names : table_names def ≡ table_names x) where
    pub same_names : (n : ℕ) (T : Tables) → IdsFrom n (defs_of T) → OfTable x.id (λ t. t.def ≡ x) T → (n ≤ x.id) × (map table_names (redef def (defs_of T)) ≡ map table_names (defs_of T))
    same_names n [] ids o = absurd o
    same_names n (t ∷ ts) ids o = elim o [
      | inl p ↦ (omega (arith, ids.0, p.0), rw (eq-eqb t.def.id def.id (p.0 ∙ sym same)) (ap (λ (ns : List (List ℕ)). ns ∷ map table_names (redef def (defs_of ts))) (names ∙ ap table_names (sym p.1)) ∙ ap (λ (ds : Defs). table_names t.def ∷ map table_names ds) (none_behind (n + 1) (defs_of ts) ids.1 (omega (arith, ids.0, p.0)))))
      | inr q ↦ (
          let r = same_names (n + 1) ts ids.1 q in
          (omega (arith, r.0), rw (ne_eqb t.def.id def.id (λ e. absurd (omega (arith, e, same, ids.0, r.0)))) (ap (λ (all : List (List (List ℕ))). table_names t.def ∷ all) r.1)))
    ]

pub found_in : (P : TableDef → Type 0) (x : TableDef) (T : Tables) → OfTable x.id (λ t. t.def ≡ x) T → AllByRecursion (λ (d : TableDef). 2 < d.id → P d) (defs_of T) → 2 < x.id → P x
found_in P x [] o h lt = absurd o
found_in P x (t ∷ ts) o h lt = elim o [
  | inl p ↦ subst P p.1 (h.0 (omega (arith, p.0, lt)))
  | inr q ↦ found_in P x ts q h.1 lt
]

in_front_redefined : (def : TableDef) (ds : Defs) → 2 < def.id → IdsFrom 1 ds → AreInFront ds → AreInFront (redef def ds)
in_front_redefined def [] lt ids h = absurd h
in_front_redefined def (a ∷ []) lt ids h = absurd h
in_front_redefined def (a ∷ b ∷ ds) lt ids h = rw (ne_eqb a.id def.id (λ e. absurd (omega (arith, e, ids.0, lt))), ne_eqb b.id def.id (λ e. absurd (omega (arith, e, ids.1.0, lt)))) h

-- the definition of a user's table that takes the place of the one with its id
pub redefined_formed : (T : Tables) (x def : TableDef) → IdsFrom 1 (defs_of T) → OfTable x.id (λ t. t.def ≡ x) T → 2 < x.id → def.id ≡ x.id → (Formed x → Formed def) → AllFresh [] (map table_names (redef def (defs_of T)))
    → AllFormed (defs_of T) → AllFormed (redef def (defs_of T))
redefined_formed T x def ids there users same formed fresh a = record {
  system = in_front_redefined def (defs_of T) (omega (arith, users, same)) ids a.system;
  each = in_its_place def (λ (d : TableDef). 2 < d.id → Formed d) (defs_of T) (λ lt. formed (found_in Formed x T there a.each users)) a.each;
  fresh = fresh;
}

pub with_same_names : (T : Tables) (x def : TableDef) → IdsFrom 1 (defs_of T) → OfTable x.id (λ t. t.def ≡ x) T → 2 < x.id → def.id ≡ x.id → (Formed x → Formed def) → table_names def ≡ table_names x
    → AllFormed (defs_of T) → AllFormed (redef def (defs_of T))
with_same_names T x def ids there users same formed names a =
    redefined_formed T x def ids there users same formed (subst (AllFresh []) (sym (same_names x def same names 1 T ids there).1) a.fresh) a

pub indexed_formed : (tx : ℕ) (T : Tables) (c : CreateIndex) (x : TableDef × IndexDef) → IdsFrom 1 (defs_of T) → index_check (defs_of T) c ≡ Ok x → AllFormed (defs_of T) → AllFormed (redef (with_index x.0 x.1) (defs_of T))
indexed_formed tx T c x ids e a =
    let i : Indexed (defs_of T) x = indexed (defs_of T) c x e in
    let new : NewIndex c x = new_index (defs_of T) c x e in
    with_same_names T x.0 (with_index x.0 x.1) ids (has_indexed_table (λ n. n) tx T x ids i) new.users refl (index_formed (defs_of T) c x i new) refl a
