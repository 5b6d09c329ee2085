-- What the checks of CREATE TABLE and of CREATE INDEX leave.
use Rattle.std.proofs.Common.{◌≡◌, ◌≤◌, ◌<◌, ℕ, ◌+◌, refl, sym, subst, Bool, true, false, List, [], ◌∷◌, map, length, Option, Some, None, Ok, arith}
use Rattle.std.proofs.lemmas.Bool.Decides.{nat_tests}
use Rattle.std.proofs.lemmas.List.{length-map}
use Rattle.std.proofs.lemmas.List.Quantifiers.{position-Some}
use Rattle.std.specs.Prelude.{◌||◌, not, nat_lt, nat_le, if◌then◌else◌, position}
use Rattle.std.specs.List.{AllByRecursion, list_any, filter}
use Rattle.std.specs.Str.{bytes_eq}
use Rattle.sql_value.specs.declared.column.ColumnDef.{ColumnDef}
use Rattle.sql_value.specs.declared.refusal.Refusal.TheVariants.{NoSuchTable, NameConflict, NoSuchColumn, NullNotAllowed, ReadOnlyTable, LimitExceeded}
use Rattle.sql_value.specs.Stored.{is_in_range}
use Rattle.sql_types.specs.declared.table.TableDef.{TableDef}
use Rattle.sql_types.specs.declared.table.IndexDef.{IndexDef}
use Rattle.sql_types.specs.declared.statement.CreateTable.{CreateTable}
use Rattle.sql_types.specs.declared.statement.CreateIndex.{CreateIndex}
use Rattle.spec_model.specs.Refusals.{or_refused}
use Rattle.spec_model.specs.Columns.{place_of}
use Rattle.spec_model.specs.Limits.{max_columns, max_key_columns, max_tables, max_index_columns, max_indexes}
use Rattle.spec_model.specs.Catalog.{Defs, NamedPart, find_part}
use Rattle.spec_model.specs.Create.{is_name, table_names, is_long, ordinal_at, keyed, table_def, has_bad_name, system_tables, exceeds_limit, has_null_key, next_id, create_check, index_def, ordinals_of, index_check_in, index_check}
use Rattle.law_frame.proofs.Checked.{Led, led, was_passed, not_refused}
use Rattle.law_frame.proofs.Alls.{all_weaker, all_both}
use Rattle.law_frame.proofs.NamedPart.{was_found}
use Rattle.law_frame.proofs.SameKeys.{or_false}
use Rattle.law_frame.proofs.SoundStatements.{four_passed}
use Rattle.law_journal.proofs.SystemRows.{IsSmall}

none_any : {A : Type 0} (test : A → Bool) (xs : List A) → list_any test xs ≡ false → AllByRecursion (λ x. test x ≡ false) xs
none_any test [] e = tt
none_any test (x ∷ xs) e = let p = or_false (test x) (list_any test xs) e in (p.0, none_any test xs p.1)

pub record Six (a b c d e f : Bool) : Type 0 where
  pub first : a ≡ false
  pub second : b ≡ false
  pub third : c ≡ false
  pub fourth : d ≡ false
  pub fifth : e ≡ false
  pub sixth : f ≡ false

six_false : (a b c d e f : Bool) → (a || b || c || d || e || f) ≡ false → Six a b c d e f
six_false true b c d e f h = cc
six_false false true c d e f h = cc
six_false false false true d e f h = cc
six_false false false false true e f h = cc
six_false false false false false true f h = cc
six_false false false false false false true h = cc
six_false false false false false false false h = record { first = refl; second = refl; third = refl; fourth = refl; fifth = refl; sixth = refl }

at_most : (m n : ℕ) → nat_lt m n ≡ false → n ≤ m
at_most m n e = grind (arith, nat_tests)

pub below : (m n : ℕ) → nat_le m n ≡ false → n < m
below m n e = grind (arith, nat_tests)

pub name_short : (x : List ℕ) → is_long x ≡ false → length x ≤ 128
name_short x e = at_most 128 (length x) e

of_named : (b : Bool) (x : List ℕ) (xs : List (List ℕ)) → is_name x ≡ b → list_any is_long (if b then x ∷ xs else xs) ≡ false → (length x ≤ 128) × (list_any is_long xs ≡ false)
of_named true x xs is e = let p = or_false (is_long x) (list_any is_long xs) e in (name_short x p.0, p.1)
of_named false [] xs is e = (omega arith, e)
of_named false (b ∷ bs) xs is e = cc

pub names_short : (xs : List (List ℕ)) → list_any is_long (filter is_name xs) ≡ false → AllByRecursion (λ (x : List ℕ). length x ≤ 128) xs
names_short [] e = tt
names_short (x ∷ xs) e = let p = of_named (is_name x) x (filter is_name xs) refl e in (p.0, names_short xs p.1)

-- ---- places

ordinal_small : {A : Type 0} (test : A → Bool) (xs : List A) (x : A) (o : Option ℕ) → position test xs ≡ o → ordinal_at o ≤ length xs
ordinal_small test xs x (Some i) e = let found = position-Some test xs i x e in omega (arith, found.0)
ordinal_small test xs x None e = omega arith

positions_small : (key : List (List ℕ)) (columns : List ColumnDef) → AllByRecursion (λ c. c.key_position ≤ length key) (map (keyed key) columns)
positions_small key [] = tt
positions_small key (c ∷ cs) = (ordinal_small (λ n. bytes_eq n c.name) key [] (position (λ n. bytes_eq n c.name) key) refl, positions_small key cs)

ordinals_small : (columns : List ColumnDef) (names : List (List ℕ)) → AllByRecursion (λ o. o ≤ length columns) (ordinals_of columns names)
ordinals_small columns [] = tt
ordinals_small [] (n ∷ ns) = (omega arith, ordinals_small [] ns)
ordinals_small (c ∷ cs) (n ∷ ns) = (ordinal_small (λ (d : ColumnDef). bytes_eq d.name n) (c ∷ cs) c (place_of (c ∷ cs) n) refl, ordinals_small (c ∷ cs) ns)

-- ---- CREATE TABLE

pub record Created (defs : Defs) (def : TableDef) : Type 0 where
  pub id : def.id ≡ length defs + 1
  pub room : length defs < 34
  pub count : length def.columns ≤ 64
  pub columns : AllByRecursion IsSmall def.columns
  pub name : length def.name ≤ 128
  pub history : length def.history ≤ 128
  pub view : length def.view ≤ 128
  pub indexes : def.indexes ≡ []

new_def : (defs : Defs) (c : CreateTable) (def : TableDef) → create_check defs c ≡ Ok def → def ≡ table_def (next_id defs) c
unfolding create_check
new_def defs c def e = four_passed (has_bad_name defs (table_def (next_id defs) c) c.key) (exceeds_limit defs (table_def (next_id defs) c) c.key) _ (has_null_key (table_def (next_id defs) c)) NameConflict LimitExceeded NoSuchColumn NullNotAllowed (table_def (next_id defs) c) def e

within : (defs : Defs) (c : CreateTable) (def : TableDef) → create_check defs c ≡ Ok def → exceeds_limit defs (table_def (next_id defs) c) c.key ≡ false
unfolding create_check
within defs c def e = was_passed (exceeds_limit defs (table_def (next_id defs) c) c.key) LimitExceeded _ def (not_refused (has_bad_name defs (table_def (next_id defs) c) c.key) NameConflict _ def e)

new_facts : (defs : Defs) (c : CreateTable) → exceeds_limit defs (table_def (next_id defs) c) c.key ≡ false → Created defs (table_def (next_id defs) c)
unfolding table_def
new_facts defs c e =
    let d : TableDef = table_def (next_id defs) c in
    let s : Six (nat_lt max_columns (length d.columns)) (nat_lt max_key_columns (length c.key)) (nat_le (max_tables + system_tables) (length defs)) (list_any (λ x. not (is_in_range x.ty)) d.columns) (list_any is_long (table_names d)) (list_any (λ x. is_long x.name) d.columns) = six_false _ _ _ _ _ _ e in
    let n = names_short (d.name ∷ d.history ∷ d.view ∷ []) s.fifth in
    let keys : length c.key ≤ 4 = at_most 4 (length c.key) s.second in
    record {
      id = refl;
      room = below 34 (length defs) s.third;
      count = at_most 64 (length d.columns) s.first;
      columns = all_weaker (λ x. (x.key_position ≤ length c.key) × ((not (is_in_range x.ty) ≡ false) × (is_long x.name ≡ false))) IsSmall
          (λ x h. record { name = name_short x.name h.1.1; ty = in_range (is_in_range x.ty) h.1.0; key = omega (arith, h.0, keys) }) d.columns
          (all_both (λ x. x.key_position ≤ length c.key) (λ x. (not (is_in_range x.ty) ≡ false) × (is_long x.name ≡ false)) d.columns (positions_small c.key c.columns)
          (all_both (λ x. not (is_in_range x.ty) ≡ false) (λ x. is_long x.name ≡ false) d.columns (none_any (λ x. not (is_in_range x.ty)) d.columns s.fourth) (none_any (λ x. is_long x.name) d.columns s.sixth)));
      name = n.0;
      history = n.1.0;
      view = n.1.1.0;
      indexes = refl;
    }
  where
    in_range : (b : Bool) → not b ≡ false → b ≡ true
    in_range true k = refl
    in_range false k = cc

pub created : (defs : Defs) (c : CreateTable) (def : TableDef) → create_check defs c ≡ Ok def → Created defs def
created defs c def e = subst (Created defs) (sym (new_def defs c def e)) (new_facts defs c (within defs c def e))

-- ---- CREATE INDEX

pub record Indexed (defs : Defs) (x : TableDef × IndexDef) : Type 0 where
  pub found : NamedPart
  pub table : List ℕ
  pub by_name : find_part defs table ≡ Some found
  pub is : found.0 ≡ x.0
  pub indexes : length x.0.indexes < 4
  pub name : length x.1.name ≤ 128
  pub count : length x.1.ordinals ≤ 4
  pub ordinals : AllByRecursion (λ o. o ≤ length x.0.columns) x.1.ordinals

pub record Three (a b c : Bool) : Type 0 where
  pub first : a ≡ false
  pub second : b ≡ false
  pub third : c ≡ false

three_false : (a b c : Bool) → (a || b || c) ≡ false → Three a b c
three_false true b c h = cc
three_false false true c h = cc
three_false false false true h = cc
three_false false false false h = record { first = refl; second = refl; third = refl }

index_facts : (defs : Defs) (c : CreateIndex) (n : NamedPart) (x : TableDef × IndexDef) → find_part defs c.table ≡ Some n → index_check_in c n ≡ Ok x → Indexed defs x
index_facts defs c n x found e =
    let whole : x ≡ (n.0, index_def n.0 c) = four_passed _ _ _ _ NameConflict LimitExceeded ReadOnlyTable NoSuchColumn (n.0, index_def n.0 c) x e in
    let s : Three (nat_lt max_index_columns (length c.columns)) (nat_le max_indexes (length n.0.indexes)) (is_long c.name) = three_false _ _ _ (was_passed _ LimitExceeded _ x (not_refused _ NameConflict _ x e)) in
    subst (Indexed defs) (sym whole) (record {
      found = n;
      table = c.table;
      by_name = found;
      is = refl;
      indexes = below 4 (length n.0.indexes) s.second;
      name = name_short c.name s.third;
      count = omega (arith, length-map (map (place_of n.0.columns) c.columns) ordinal_at, length-map c.columns (place_of n.0.columns), at_most 4 (length c.columns) s.first);
      ordinals = ordinals_small n.0.columns c.columns;
    })

pub indexed : (defs : Defs) (c : CreateIndex) (x : TableDef × IndexDef) → index_check defs c ≡ Ok x → Indexed defs x
unfolding index_check
indexed defs c x e =
    let l : Led (or_refused NoSuchTable (find_part defs c.table)) (index_check_in c) x = led _ _ x e in
    index_facts defs c l.value x (was_found NoSuchTable (find_part defs c.table) l.value l.was) l.then_
