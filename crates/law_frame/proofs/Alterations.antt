-- What ALTER TABLE and DROP TABLE check, and what they leave of a definition.
use Rattle.std.proofs.Common.{◌≡◌, ◌≤◌, ℕ, zero, suc, ◌+◌, refl, sym, ap, subst, ◌∙◌, Bool, true, false, List, [], ◌∷◌, ◌++◌, map, length, Option, Some, None, Ok, Err, arith, length-append}
use Rattle.std.proofs.lemmas.Bool.{eqb-true, leb-false}
use Rattle.std.proofs.lemmas.List.{length-set}
use Rattle.std.proofs.lemmas.Slice.Eq.{bytes_eq-Decides}
use Rattle.std.specs.Prelude.{◌==◌, ◌&&◌, ◌||◌, not, nat_le, if◌then◌else◌, option_and_then, slice_get, slice_set}
use Rattle.std.specs.List.{list_any, filter}
use Rattle.std.specs.Str.{bytes_eq}
use Rattle.sql_value.specs.declared.column.ColumnDef.{ColumnDef}
use Rattle.sql_value.specs.declared.refusal.Refusal.{Refusal}
use Rattle.sql_value.specs.declared.refusal.Refusal.TheVariants.{NoSuchTable, NoSuchColumn, KeyNotUpdatable}
use Rattle.sql_value.specs.Stored.{is_in_range}
use Rattle.sql_types.specs.declared.statement.Alter.{Alter}
use Rattle.sql_types.specs.declared.statement.Alter.TheVariants.{Add, DropColumn}
use Rattle.sql_types.specs.declared.statement.Stmt.{Stmt}
use Rattle.sql_types.specs.declared.statement.Stmt.TheVariants as s
use Rattle.sql_types.specs.declared.table.TableDef.{TableDef}
use Rattle.sql_types.specs.declared.table.IndexDef.{IndexDef}
use Rattle.sql_types.specs.declared.table.Part.{Part}
use Rattle.sql_types.specs.declared.table.Part.TheVariants.{Base, History, View, System}
use Rattle.sql_types.specs.declared.version.Version.{Version}
use Rattle.spec_model.specs.Refusals.{Checked, and_then, or_refused}
use Rattle.spec_model.specs.Columns.{names_of, place_of}
use Rattle.spec_model.specs.LiveColumns.{is_dropped}
use Rattle.spec_model.specs.Limits.{max_columns}
use Rattle.spec_model.specs.Lists.{sorted, numbered, has_name, repeats}
use Rattle.spec_model.specs.Keys.{Placed, position_cmp, key_places}
use Rattle.spec_model.specs.Catalog.{Defs, NamedPart, Tables, defs_of, versions_of, find_part}
use Rattle.spec_model.specs.Checks.{refused_if, is_base, is_standing}
use Rattle.spec_model.specs.SystemTables.{tables_id, columns_id}
use Rattle.spec_model.specs.Create.{table_names, all_names, is_long, is_ledger_name, create_check, index_check}
use Rattle.spec_model.specs.Alter.{column_to_add, with_added, dropped_column, dropped_column_name, with_dropped, dropped_table, WithColumn, added_to, add_check_in, live_at, live_named, new_name_of, new_column_names, dropped_from, drop_column_check, drop_column_check_in, alter_check, new_table_names, drop_check_in, drop_check, next_change, Altered, altered_table, gone_table, alteration, table_drop}
use Rattle.spec_model.specs.ChangeSets.{as_before, new, in_place, altered, create_table_change_set, create_index_change_set, altered_change_set, change_set}
use Rattle.law_frame.specs.Alters.{ColumnsStay, Alters, Altering}
use Rattle.law_frame.proofs.Checked.{Led, led, not_refused, was_passed}
use Rattle.law_frame.proofs.SameKeys.{or_false}
use Rattle.law_frame.proofs.NamedPart.{was_found}
use Rattle.law_frame.proofs.BaseTables.{found_is_users}
use Rattle.law_frame.proofs.Definitions.{change_set_keeps}

-- ---- lists of columns

both_false : (a b : Bool) → a ≡ false → b ≡ false → (a || b) ≡ false
both_false a b e f = rw (e, f) refl

unlike : (a b : List ℕ) → bytes_eq a b ≡ false → bytes_eq b a ≡ false
unlike a b h = here (bytes_eq b a) refl
  where
    here : (c : Bool) → bytes_eq b a ≡ c → c ≡ false
    here true e = absurd (let t : bytes_eq a b ≡ true = (bytes_eq-Decides a b).1 (sym ((bytes_eq-Decides b a).0 e)) in cc)
    here false e = refl

pub stay_same : (cs : List ColumnDef) → ColumnsStay cs cs
stay_same [] = tt
stay_same (c ∷ cs) = (refl, refl, (λ e. e), stay_same cs)

stay_added : (cs : List ColumnDef) (d : ColumnDef) → d.nullable ≡ true → d.key_position ≡ 0 → ColumnsStay cs (cs ++ d ∷ [])
stay_added [] d e f = (e, f, tt)
stay_added (c ∷ cs) d e f = (refl, refl, (λ e. e), stay_added cs d e f)

-- the column at a place is another one, of its type and with its place in the key, that may be NULL
stay_set : (cs : List ColumnDef) (i : ℕ) (c d : ColumnDef) → slice_get cs i ≡ Some c → d.ty ≡ c.ty → d.key_position ≡ c.key_position → d.nullable ≡ true → ColumnsStay cs (slice_set cs i d)
stay_set [] i c d e t k n = cc
stay_set (b ∷ cs) zero c d e t k n = let same : b ≡ c = cc in (t ∙ ap (λ (x : ColumnDef). x.ty) (sym same), k ∙ ap (λ (x : ColumnDef). x.key_position) (sym same), (λ may. n), stay_same cs)
stay_set (b ∷ cs) (suc i) c d e t k n = (refl, refl, (λ may. may), stay_set cs i c d e t k n)

-- ---- places of the key

abbrev in_key : Placed → Bool
in_key p = not (p.1.key_position == 0)

filtered_added : (n : ℕ) (cs : List ColumnDef) (d : ColumnDef) → d.key_position ≡ 0 → filter in_key (numbered n (cs ++ d ∷ [])) ≡ filter in_key (numbered n cs)
filtered_added n [] d e = rw e refl
filtered_added n (c ∷ cs) d e = ap (λ (ps : List Placed). if in_key (n, c) then (n, c) ∷ ps else ps) (filtered_added (n + 1) cs d e)

filtered_set : (n : ℕ) (cs : List ColumnDef) (i : ℕ) (c d : ColumnDef) → slice_get cs i ≡ Some c → c.key_position ≡ 0 → d.key_position ≡ 0 → filter in_key (numbered n (slice_set cs i d)) ≡ filter in_key (numbered n cs)
filtered_set n [] i c d e k l = cc
filtered_set n (b ∷ cs) zero c d e k l = let same : b ≡ c = cc in rw (l, ap (λ (x : ColumnDef). x.key_position) same ∙ k) refl
filtered_set n (b ∷ cs) (suc i) c d e k l = ap (λ (ps : List Placed). if in_key (n, b) then (n, b) ∷ ps else ps) (filtered_set (n + 1) cs i c d e k l)

same_places : (cs ds : List ColumnDef) → filter in_key (numbered 0 ds) ≡ filter in_key (numbered 0 cs) → key_places ds ≡ key_places cs
unfolding key_places
same_places cs ds e = ap (λ (ps : List Placed). map (λ p. p.0) (sorted position_cmp ps)) e

-- ---- names

name_added : (cs : List ColumnDef) (d : ColumnDef) (n : List ℕ) → has_name (names_of cs) n ≡ false → bytes_eq d.name n ≡ false → has_name (names_of (cs ++ d ∷ [])) n ≡ false
name_added [] d n h e = both_false (bytes_eq d.name n) false e refl
name_added (c ∷ cs) d n h e =
    let p = or_false (bytes_eq c.name n) (has_name (names_of cs) n) h in
    both_false (bytes_eq c.name n) (has_name (names_of (cs ++ d ∷ [])) n) p.0 (name_added cs d n p.1 e)

repeats_added : (cs : List ColumnDef) (d : ColumnDef) → has_name (names_of cs) d.name ≡ false → repeats (names_of cs) ≡ false → repeats (names_of (cs ++ d ∷ [])) ≡ false
repeats_added [] d h r = refl
repeats_added (c ∷ cs) d h r =
    let p = or_false (bytes_eq c.name d.name) (has_name (names_of cs) d.name) h in
    let q = or_false (has_name (names_of cs) c.name) (repeats (names_of cs)) r in
    both_false (has_name (names_of (cs ++ d ∷ [])) c.name) (repeats (names_of (cs ++ d ∷ []))) (name_added cs d c.name q.0 (unlike c.name d.name p.0)) (repeats_added cs d p.1 q.1)

name_set : (cs : List ColumnDef) (i : ℕ) (d : ColumnDef) (n : List ℕ) → has_name (names_of cs) n ≡ false → bytes_eq d.name n ≡ false → has_name (names_of (slice_set cs i d)) n ≡ false
name_set [] i d n h e = refl
name_set (c ∷ cs) zero d n h e = both_false (bytes_eq d.name n) (has_name (names_of cs) n) e (or_false (bytes_eq c.name n) (has_name (names_of cs) n) h).1
name_set (c ∷ cs) (suc i) d n h e =
    let p = or_false (bytes_eq c.name n) (has_name (names_of cs) n) h in
    both_false (bytes_eq c.name n) (has_name (names_of (slice_set cs i d)) n) p.0 (name_set cs i d n p.1 e)

repeats_set : (cs : List ColumnDef) (i : ℕ) (d : ColumnDef) → has_name (names_of cs) d.name ≡ false → repeats (names_of cs) ≡ false → repeats (names_of (slice_set cs i d)) ≡ false
repeats_set [] i d h r = refl
repeats_set (c ∷ cs) zero d h r =
    both_false (has_name (names_of cs) d.name) (repeats (names_of cs)) (or_false (bytes_eq c.name d.name) (has_name (names_of cs) d.name) h).1
    (or_false (has_name (names_of cs) c.name) (repeats (names_of cs)) r).1
repeats_set (c ∷ cs) (suc i) d h r =
    let p = or_false (bytes_eq c.name d.name) (has_name (names_of cs) d.name) h in
    let q = or_false (has_name (names_of cs) c.name) (repeats (names_of cs)) r in
    both_false (has_name (names_of (slice_set cs i d)) c.name) (repeats (names_of (slice_set cs i d))) (name_set cs i d c.name q.0 (unlike c.name d.name p.0)) (repeats_set cs i d p.1 q.1)

-- ---- the definitions

pub added_alters : (old : TableDef) (c : ColumnDef) → has_name (names_of old.columns) c.name ≡ false → nat_le max_columns (length old.columns) ≡ false → Alters old (with_added old c)
added_alters old c free room = record {
  id = refl;
  kind = refl;
  indexes = refl;
  columns = stay_added old.columns (column_to_add c) refl refl;
  key = same_places old.columns (old.columns ++ column_to_add c ∷ []) (filtered_added 0 old.columns (column_to_add c) refl);
  names = repeats_added old.columns (column_to_add c) free;
  few = λ le. omega (arith, leb-false max_columns (length old.columns) room, length-append old.columns (column_to_add c ∷ []));
}

pub dropped_alters : (old : TableDef) (p : ℕ × ColumnDef) → slice_get old.columns p.0 ≡ Some p.1 → p.1.key_position ≡ 0 → has_name (names_of old.columns) (dropped_column_name p.1.name (suc p.0)) ≡ false → Alters old (with_dropped old p)
dropped_alters old p at key free =
    let d : ColumnDef = dropped_column (suc p.0) p.1 in
    record {
      id = refl;
      kind = refl;
      indexes = refl;
      columns = stay_set old.columns p.0 p.1 d at refl refl refl;
      key = same_places old.columns (slice_set old.columns p.0 d) (filtered_set 0 old.columns p.0 p.1 d at key key);
      names = repeats_set old.columns p.0 d free;
      few = λ le. subst (λ (n : ℕ). n ≤ max_columns) (sym (length-set old.columns p.0 d)) le;
    }

pub gone_alters : (old : TableDef) → Alters old (dropped_table old)
unfolding dropped_table
gone_alters old = record { id = refl; kind = refl; indexes = refl; columns = stay_same old.columns; key = refl; names = λ e. e; few = λ le. le }

-- ---- what passed

record ThreePassed {A : Type 0} (a b c : Bool) (m : Checked A) (x : A) : Type 0 where
  pub first : a ≡ false
  pub second : b ≡ false
  pub third : c ≡ false
  pub rest : m ≡ Ok x

three_passed : {A : Type 0} (a b c : Bool) (e f g : Refusal) (m : Checked A) (x : A) → refused_if a e (refused_if b f (refused_if c g m)) ≡ Ok x → ThreePassed a b c m x
three_passed true b c e f g m x h = cc
three_passed false true c e f g m x h = cc
three_passed false false true e f g m x h = cc
three_passed false false false e f g m x h = record { first = refl; second = refl; third = refl; rest = h }

holds : (b : Bool) → not b ≡ false → b ≡ true
holds true e = refl
holds false e = cc

-- a name that stands for the base part of a user's table that wasn't dropped
pub record Stands (defs : Defs) (name : List ℕ) (n : NamedPart) : Type 0 where
  pub by_name : find_part defs name ≡ Some n
  pub standing : is_standing n.0 n.1 ≡ true
  pub base : n.1 ≡ Base
  pub there : n.0.gone ≡ false

its_part : (p : Part) (b : Bool) → (is_base p && not b) ≡ true → p ≡ Base
its_part Base b e = refl
its_part History b e = cc
its_part View b e = cc
its_part System b e = cc

isnt_gone : (p : Part) (b : Bool) → (is_base p && not b) ≡ true → b ≡ false
isnt_gone p false e = refl
isnt_gone Base true e = cc
isnt_gone History true e = cc
isnt_gone View true e = cc
isnt_gone System true e = cc

stands : (defs : Defs) (name : List ℕ) (n : NamedPart) → or_refused NoSuchTable (find_part defs name) ≡ Ok n → not (is_standing n.0 n.1) ≡ false → Stands defs name n
stands defs name n e f =
    let h : is_standing n.0 n.1 ≡ true = holds (is_standing n.0 n.1) f in
    record { by_name = was_found NoSuchTable (find_part defs name) n e; standing = h; base = its_part n.1 n.0.gone h; there = isnt_gone n.1 n.0.gone h }

-- ALTER TABLE ADD
pub record Added (defs : Defs) (table : List ℕ) (c : ColumnDef) (x : WithColumn) : Type 0 where
  pub found : NamedPart
  pub stands : Stands defs table found
  pub free : has_name (names_of found.0.columns) c.name ≡ false
  pub own : is_ledger_name c.name ≡ false
  pub room : nat_le max_columns (length found.0.columns) ≡ false
  pub in_range : is_in_range c.ty ≡ true
  pub short : is_long c.name ≡ false
  pub is : x ≡ added_to found.0 c

pub added : (defs : Defs) (table : List ℕ) (c : ColumnDef) (x : WithColumn) → alter_check defs (Add table c) ≡ Ok x → Added defs table c x
unfolding alter_check
added defs table c x e =
    let l : Led (or_refused NoSuchTable (find_part defs table)) (add_check_in c) x = led _ _ x e in
    let n : NamedPart = l.value in
    let p : ThreePassed (has_name (names_of n.0.columns) c.name || is_ledger_name c.name) (nat_le max_columns (length n.0.columns) || not (is_in_range c.ty) || is_long c.name) (not (is_standing n.0 n.1)) (Ok (added_to n.0 c)) x = three_passed _ _ _ _ _ _ _ x l.then_ in
    let names = or_false (has_name (names_of n.0.columns) c.name) (is_ledger_name c.name) p.first in
    let limits = or_false (nat_le max_columns (length n.0.columns) || not (is_in_range c.ty)) (is_long c.name) p.second in
    let size = or_false (nat_le max_columns (length n.0.columns)) (not (is_in_range c.ty)) limits.0 in
    let same : added_to n.0 c ≡ x = (let own : Ok (added_to n.0 c) ≡ Ok x = p.rest in cc) in
    record {
      found = n;
      stands = stands defs table n l.was p.third;
      free = names.0;
      own = names.1;
      room = size.0;
      in_range = holds (is_in_range c.ty) size.1;
      short = limits.1;
      is = sym same;
    }

-- the live column of this name
pub record Live (def : TableDef) (name : List ℕ) (p : ℕ × ColumnDef) : Type 0 where
  pub place : place_of def.columns name ≡ Some p.0
  pub live : is_dropped def (suc p.0) ≡ false
  pub at : slice_get def.columns p.0 ≡ Some p.1

placed : (place : ℕ) (b : Bool) (o : Option ColumnDef) (p : ℕ × ColumnDef) → (if b then None else option_and_then (λ c. Some (place, c)) o) ≡ Some p → (place ≡ p.0) × (b ≡ false) × (o ≡ Some p.1)
placed place true o p e = cc
placed place false None p e = cc
placed place false (Some c) p e = let is : (place, c) ≡ p = cc in (ap (λ (q : ℕ × ColumnDef). q.0) is, refl, ap (λ (q : ℕ × ColumnDef). Some q.1) is)

by_place : (def : TableDef) (name : List ℕ) (o : Option ℕ) (p : ℕ × ColumnDef) → place_of def.columns name ≡ o → option_and_then (live_at def) o ≡ Some p → Live def name p
by_place def name None p e h = cc
by_place def name (Some place) p e h =
    let q = placed place (is_dropped def (suc place)) (slice_get def.columns place) p h in
    record {
      place = e ∙ ap (λ (n : ℕ). Some n) q.0;
      live = subst (λ (n : ℕ). is_dropped def (suc n) ≡ false) q.0 q.1;
      at = subst (λ (n : ℕ). slice_get def.columns n ≡ Some p.1) q.0 q.2;
    }

pub live_is : (def : TableDef) (name : List ℕ) (p : ℕ × ColumnDef) → live_named def name ≡ Some p → Live def name p
live_is def name p h = by_place def name (place_of def.columns name) p refl h

-- ALTER TABLE DROP COLUMN
pub record ColumnDropped (defs : Defs) (table name : List ℕ) (x : WithColumn) : Type 0 where
  pub found : NamedPart
  pub stands : Stands defs table found
  pub column : ℕ × ColumnDef
  pub live : Live found.0 name column
  pub free : has_name (names_of found.0.columns) (dropped_column_name column.1.name (suc column.0)) ≡ false
  pub short : is_long (dropped_column_name column.1.name (suc column.0)) ≡ false
  pub in_no_key : column.1.key_position ≡ 0
  pub is : x ≡ dropped_from found.0 column

by_parts : (b : Bool) (o : Option (ℕ × ColumnDef)) (p : ℕ × ColumnDef) (test : List ℕ → Bool) → b ≡ true → o ≡ Some p → list_any test (if b then new_name_of o else []) ≡ false → test (dropped_column_name p.1.name (suc p.0)) ≡ false
by_parts false o p test h k e = cc
by_parts true None p test h k e = cc
by_parts true (Some q) p test h k e =
    let is : q ≡ p = cc in
    subst (λ (r : ℕ × ColumnDef). test (dropped_column_name r.1.name (suc r.0)) ≡ false) is (or_false (test (dropped_column_name q.1.name (suc q.0))) false e).0

-- the new name is the one that was checked
checked_name : (n : NamedPart) (name : List ℕ) (p : ℕ × ColumnDef) (test : List ℕ → Bool) → is_standing n.0 n.1 ≡ true → live_named n.0 name ≡ Some p → list_any test (new_column_names n name) ≡ false → test (dropped_column_name p.1.name (suc p.0)) ≡ false
checked_name n name p test h k e = by_parts (is_standing n.0 n.1) (live_named n.0 name) p test h k e

pub column_dropped : (defs : Defs) (table name : List ℕ) (x : WithColumn) → alter_check defs (DropColumn table name) ≡ Ok x → ColumnDropped defs table name x
unfolding alter_check
column_dropped defs table name x e =
    let l : Led (or_refused NoSuchTable (find_part defs table)) (drop_column_check_in name) x = led _ _ x e in
    let n : NamedPart = l.value in
    let p : ThreePassed (list_any (has_name (names_of n.0.columns)) (new_column_names n name)) (list_any is_long (new_column_names n name)) (not (is_standing n.0 n.1)) (and_then (or_refused NoSuchColumn (live_named n.0 name)) (drop_column_check n.0)) x = three_passed _ _ _ _ _ _ _ x l.then_ in
    let k : Led (or_refused NoSuchColumn (live_named n.0 name)) (drop_column_check n.0) x = led _ _ x p.rest in
    let by : live_named n.0 name ≡ Some k.value = was_found NoSuchColumn (live_named n.0 name) k.value k.was in
    let there : Stands defs table n = stands defs table n l.was p.third in
    let last : Ok (dropped_from n.0 k.value) ≡ Ok x = not_refused (not (k.value.1.key_position == 0)) KeyNotUpdatable (Ok (dropped_from n.0 k.value)) x k.then_ in
    let same : dropped_from n.0 k.value ≡ x = cc in
    record {
      found = n;
      stands = there;
      column = k.value;
      live = live_is n.0 name k.value by;
      free = checked_name n name k.value (has_name (names_of n.0.columns)) there.standing by p.first;
      short = checked_name n name k.value is_long there.standing by p.second;
      in_no_key = eqb-true k.value.1.key_position 0 (holds (k.value.1.key_position == 0) (was_passed (not (k.value.1.key_position == 0)) KeyNotUpdatable (Ok (dropped_from n.0 k.value)) x k.then_));
      is = sym same;
    }

-- DROP TABLE
pub record TableDropped (defs : Defs) (name : List ℕ) (def : TableDef) : Type 0 where
  pub found : NamedPart
  pub stands : Stands defs name found
  pub differ : repeats (table_names (dropped_table found.0)) ≡ false
  pub free : list_any (has_name (all_names defs)) (table_names (dropped_table found.0)) ≡ false
  pub short : list_any is_long (table_names (dropped_table found.0)) ≡ false
  pub is : def ≡ dropped_table found.0

where_standing : (b : Bool) (names : List (List ℕ)) (test : List (List ℕ) → Bool) → b ≡ true → test (if b then names else []) ≡ false → test names ≡ false
where_standing true names test h e = e
where_standing false names test h e = cc

checked_names : (n : NamedPart) (test : List (List ℕ) → Bool) → is_standing n.0 n.1 ≡ true → test (new_table_names n) ≡ false → test (table_names (dropped_table n.0)) ≡ false
checked_names n test h e = where_standing (is_standing n.0 n.1) (table_names (dropped_table n.0)) test h e

pub table_dropped : (defs : Defs) (name : List ℕ) (def : TableDef) → drop_check defs name ≡ Ok def → TableDropped defs name def
unfolding drop_check
table_dropped defs name def e =
    let l : Led (or_refused NoSuchTable (find_part defs name)) (drop_check_in defs) def = led _ _ def e in
    let n : NamedPart = l.value in
    let p : ThreePassed (repeats (new_table_names n) || list_any (has_name (all_names defs)) (new_table_names n)) (list_any is_long (new_table_names n)) (not (is_standing n.0 n.1)) (Ok (dropped_table n.0)) def = three_passed _ _ _ _ _ _ _ def l.then_ in
    let there : Stands defs name n = stands defs name n l.was p.third in
    let names = or_false (repeats (new_table_names n)) (list_any (has_name (all_names defs)) (new_table_names n)) p.first in
    let own : Ok (dropped_table n.0) ≡ Ok def = p.rest in
    let same : dropped_table n.0 ≡ def = cc in
    record {
      found = n;
      stands = there;
      differ = checked_names n repeats there.standing names.0;
      free = checked_names n (list_any (has_name (all_names defs))) there.standing names.1;
      short = checked_names n (list_any is_long) there.standing p.second;
      is = sym same;
    }

-- ---- what they leave

module _ (defs : Defs) where
  standing_alters : (name : List ℕ) (n : NamedPart) (def : TableDef) → Stands defs name n → Alters n.0 def → Altering defs def
  standing_alters name n def h k = record {
    name = name;
    old = n.0;
    found = h.by_name ∙ ap (λ (p : Part). Some (n.0, p)) h.base;
    users = found_is_users defs name n h.by_name h.base;
    stands = h.there;
    alters = k;
  }

  checked_alters : (a : Alter) (x : WithColumn) → alter_check defs a ≡ Ok x → Altering defs x.0
  checked_alters (Add table c) x e =
      let p : Added defs table c x = added defs table c x e in
      subst (λ (y : WithColumn). Altering defs y.0) (sym p.is) (standing_alters table p.found (with_added p.found.0 c) p.stands (added_alters p.found.0 c p.free p.room))
  checked_alters (DropColumn table name) x e =
      let p : ColumnDropped defs table name x = column_dropped defs table name x e in
      subst (λ (y : WithColumn). Altering defs y.0) (sym p.is) (standing_alters table p.found (with_dropped p.found.0 p.column) p.stands (dropped_alters p.found.0 p.column p.live.at p.in_no_key p.free))

  checked_drops : (name : List ℕ) (def : TableDef) → drop_check defs name ≡ Ok def → Altering defs def
  checked_drops name def e =
      let p : TableDropped defs name def = table_dropped defs name def e in
      subst (Altering defs) (sym p.is) (standing_alters name p.found (dropped_table p.found.0) p.stands (gone_alters p.found.0))

  module _ (first second : List Version) where
    pub alteration_alters : (x : Alter) (a : Altered) → alteration defs first second x ≡ Ok a → Altering defs a.def
    alteration_alters x a e =
        let l : Led (alter_check defs x) (λ y. Ok (altered_table (next_change y.0.id first second) y)) a = led _ _ a e in
        let last : Ok (altered_table (next_change l.value.0.id first second) l.value) ≡ Ok a = l.then_ in
        let is : altered_table (next_change l.value.0.id first second) l.value ≡ a = cc in
        subst (λ (b : Altered). Altering defs b.def) is (checked_alters x l.value l.was)

    pub drop_alters : (name : List ℕ) (a : Altered) → table_drop defs first second name ≡ Ok a → Altering defs a.def
    drop_alters name a e =
        let l : Led (drop_check defs name) (λ def. Ok (gone_table (next_change def.id first second) def)) a = led _ _ a e in
        let last : Ok (gone_table (next_change l.value.id first second) l.value) ≡ Ok a = l.then_ in
        let is : gone_table (next_change l.value.id first second) l.value ≡ a = cc in
        subst (λ (b : Altered). Altering defs b.def) is (checked_drops name l.value l.was)

-- ---- by the statement

module _ (T : Tables) (def : TableDef) where
  not_made : (m : Checked TableDef) → (create_table_change_set m).definition ≡ altered def → ⊥
  not_made (Ok d) e = let z : new d ≡ altered def = e in cc
  not_made (Err r) e = let z : as_before ≡ altered def = e in cc

  not_indexed : (m : Checked (TableDef × IndexDef)) → (create_index_change_set m).definition ≡ altered def → ⊥
  not_indexed (Ok (d, i)) e = let z : in_place _ ≡ altered def = e in cc
  not_indexed (Err r) e = let z : as_before ≡ altered def = e in cc

  from_check : (m : Checked Altered) → ((a : Altered) → m ≡ Ok a → Altering (defs_of T) a.def) → (altered_change_set m).definition ≡ altered def → Altering (defs_of T) def
  from_check (Ok a) h e = let z : altered a.def ≡ altered def = e in let is : a.def ≡ def = cc in subst (Altering (defs_of T)) is (h a refl)
  from_check (Err r) h e = absurd (let z : as_before ≡ altered def = e in cc)

  pub altering : (stmt : Stmt) → (change_set T stmt).definition ≡ altered def → Altering (defs_of T) def
  unfolding change_set
  altering (s.Create c) e = absurd (not_made (create_check (defs_of T) c) e)
  altering (s.Index c) e = absurd (not_indexed (index_check (defs_of T) c) e)
  altering (s.Alter a) e =
      from_check (alteration (defs_of T) (versions_of T tables_id) (versions_of T columns_id) a)
      (alteration_alters (defs_of T) (versions_of T tables_id) (versions_of T columns_id) a) e
  altering (s.Drop name) e =
      from_check (table_drop (defs_of T) (versions_of T tables_id) (versions_of T columns_id) name)
      (drop_alters (defs_of T) (versions_of T tables_id) (versions_of T columns_id) name) e
  altering (s.Change stmt) e = absurd (let z : as_before ≡ altered def = sym (change_set_keeps T (s.Change stmt) refl) ∙ e in cc)
  altering (s.Select q) e = absurd (let z : as_before ≡ altered def = sym (change_set_keeps T (s.Select q) refl) ∙ e in cc)
  altering s.Begin e = absurd (let z : as_before ≡ altered def = e in cc)
  altering s.Commit e = absurd (let z : as_before ≡ altered def = e in cc)
  altering (s.Save name) e = absurd (let z : as_before ≡ altered def = e in cc)
  altering (s.Rollback name) e = absurd (let z : as_before ≡ altered def = e in cc)
  altering s.Digest e = absurd (let z : as_before ≡ altered def = e in cc)
  altering s.Image e = absurd (let z : as_before ≡ altered def = e in cc)
