-- The change of ALTER TABLE and of DROP TABLE makes a new key, and is none that the table can't have had.
use Rattle.std.proofs.Common.{◌≡◌, ◌≢◌, ◌≤◌, ◌<◌, ℕ, suc, ◌+◌, refl, sym, ap, subst, ◌∙◌, Bool, true, false, List, [], ◌∷◌, ◌++◌, map, None, arith}
use Rattle.std.proofs.lemmas.Bool.{eqb-true, eq-eqb}
use Rattle.std.specs.Prelude.{◌==◌, if◌then◌else◌}
use Rattle.std.specs.List.{AllByRecursion, filter}
use Rattle.sql_value.specs.declared.value.Value.{Value}
use Rattle.sql_types.specs.declared.table.TableDef.{TableDef}
use Rattle.sql_types.specs.declared.version.Version.{Version}
use Rattle.spec_model.specs.Lists.{greatest}
use Rattle.spec_model.specs.Rows.{number, values_of}
use Rattle.spec_model.specs.Keys.{Key, same_key, value_at, version_key}
use Rattle.spec_model.specs.Catalog.{Defs}
use Rattle.spec_model.specs.SystemTables.{tables_columns, columns_columns}
use Rattle.spec_model.specs.Alter.{count_in, count_at, changes_at, next_change}
use Rattle.law_frame.proofs.Alls.{all_weaker, all_both}
use Rattle.law_frame.proofs.NextChange.{above_first, above_second}
use Rattle.law_journal.specs.Described.{live_from, most_changes, IsChange, IsTableKey, IsColumnKey}
use Rattle.law_journal.proofs.DefLists.{redef}
use Rattle.law_journal.proofs.NumberKeys.{same_first, table_version_key, column_version_key}
use Rattle.law_journal.proofs.Order.{NoneLive}

-- ---- what a key says of its version

two_counts : (a b : Value) (id change : ℕ) → a ∷ b ∷ [] ≡ number id ∷ number change ∷ [] → (count_in a ≡ id) × (count_in b ≡ change)
two_counts a b id change e = let f : a ≡ number id = cc in let g : b ≡ number change = cc in (ap count_in f, ap count_in g)

three_counts : (a b c : Value) (id item change : ℕ) → a ∷ b ∷ c ∷ [] ≡ number id ∷ number item ∷ number change ∷ [] → (count_in a ≡ id) × (count_in c ≡ change)
three_counts a b c id item change e = let f : a ≡ number id = cc in let g : c ≡ number change = cc in (ap count_in f, ap count_in g)

table_counts : (defs : Defs) (v : Version) → (k : IsTableKey defs (version_key tables_columns v)) → (count_at 0 v ≡ k.0) × (count_at 1 v ≡ k.1)
table_counts defs v k = two_counts (value_at (values_of v) 0) (value_at (values_of v) 1) k.0 k.1 (sym (table_version_key v) ∙ k.4)

column_counts : (defs : Defs) (v : Version) → (k : IsColumnKey defs (version_key columns_columns v)) → (count_at 0 v ≡ k.0) × (count_at 2 v ≡ k.2)
column_counts defs v k = three_counts (value_at (values_of v) 0) (value_at (values_of v) 1) (value_at (values_of v) 2) k.0 k.1 k.2 (sym (column_version_key v) ∙ k.5)

-- ---- the key is new

module _ (defs : Defs) (id : ℕ) (first second : List Version) where
  new_in_first : (v : Version) → ((count_at 0 v == id) ≡ true → count_at 1 v < next_change id first second) × IsTableKey defs (version_key tables_columns v)
      → same_key (version_key tables_columns v) (number id ∷ number (next_change id first second) ∷ []) ≡ true → v.end ≢ None
  new_in_first v h same =
      let k = h.1 in
      let n : ℕ = next_change id first second in
      let counts = table_counts defs v h.1 in
      let e = same_first k.0 id (number k.1 ∷ []) (number n ∷ []) (subst (λ (key : Key). same_key key (number id ∷ number n ∷ []) ≡ true) k.4 same) in
      let f = same_first k.1 n [] [] e.1 in
      absurd (omega (arith, f.0, counts.1, h.0 (eq-eqb (count_at 0 v) id (counts.0 ∙ e.0))))

  pub none_of_first : AllByRecursion (λ v. IsTableKey defs (version_key tables_columns v)) first → NoneLive tables_columns (number id ∷ number (next_change id first second) ∷ []) first
  none_of_first h =
      all_weaker (λ v. ((count_at 0 v == id) ≡ true → count_at 1 v < next_change id first second) × IsTableKey defs (version_key tables_columns v))
      (λ v. same_key (version_key tables_columns v) (number id ∷ number (next_change id first second) ∷ []) ≡ true → v.end ≢ None) new_in_first first
      (all_both (λ v. (count_at 0 v == id) ≡ true → count_at 1 v < next_change id first second) (λ v. IsTableKey defs (version_key tables_columns v)) first (above_first id first second) h)

  new_in_second : (item : ℕ) (v : Version) → ((count_at 0 v == id) ≡ true → count_at 2 v < next_change id first second) × IsColumnKey defs (version_key columns_columns v)
      → same_key (version_key columns_columns v) (number id ∷ number item ∷ number (next_change id first second) ∷ []) ≡ true → v.end ≢ None
  new_in_second item v h same =
      let k = h.1 in
      let n : ℕ = next_change id first second in
      let counts = column_counts defs v h.1 in
      let e = same_first k.0 id (number k.1 ∷ number k.2 ∷ []) (number item ∷ number n ∷ []) (subst (λ (key : Key). same_key key (number id ∷ number item ∷ number n ∷ []) ≡ true) k.5 same) in
      let f = same_first k.1 item (number k.2 ∷ []) (number n ∷ []) e.1 in
      let g = same_first k.2 n [] [] f.1 in
      absurd (omega (arith, g.0, counts.1, h.0 (eq-eqb (count_at 0 v) id (counts.0 ∙ e.0))))

  pub none_of_second : (item : ℕ) → AllByRecursion (λ v. IsColumnKey defs (version_key columns_columns v)) second → NoneLive columns_columns (number id ∷ number item ∷ number (next_change id first second) ∷ []) second
  none_of_second item h =
      all_weaker (λ v. ((count_at 0 v == id) ≡ true → count_at 2 v < next_change id first second) × IsColumnKey defs (version_key columns_columns v))
      (λ v. same_key (version_key columns_columns v) (number id ∷ number item ∷ number (next_change id first second) ∷ []) ≡ true → v.end ≢ None) (new_in_second item) second
      (all_both (λ v. (count_at 0 v == id) ≡ true → count_at 2 v < next_change id first second) (λ v. IsColumnKey defs (version_key columns_columns v)) second (above_second id first second) h)

-- ---- how great it is

module _ (s r : ℕ) (le : s ≤ r) where
  abbrev IsWithin : ℕ → ℕ → Version → Type 0
  IsWithin place id v = (count_at 0 v == id) ≡ true → count_at place v + s ≤ r

  within_one : (place id : ℕ) (b : Bool) (v : Version) (vs : List Version) → (count_at 0 v == id) ≡ b → IsWithin place id v → greatest (changes_at place id vs) + s ≤ r
      → greatest (map (count_at place) (if b then v ∷ filter (λ w. count_at 0 w == id) vs else filter (λ w. count_at 0 w == id) vs)) + s ≤ r
  within_one place id true v vs e h k = omega (arith, h e, k)
  within_one place id false v vs e h k = k

  within : (place id : ℕ) (vs : List Version) → AllByRecursion (IsWithin place id) vs → greatest (changes_at place id vs) + s ≤ r
  within place id [] h = omega (arith, le)
  within place id (v ∷ vs) h = within_one place id (count_at 0 v == id) v vs refl h.0 (within place id vs h.1)

  both_within : (ns ms : List ℕ) → greatest ns + s ≤ r → greatest ms + s ≤ r → greatest (ns ++ ms) + s ≤ r
  both_within [] ms h k = k
  both_within (n ∷ ns) ms h k = let rest = both_within ns ms (omega (arith, h)) k in omega (arith, h, rest)

  pub next_within : (id : ℕ) (first second : List Version) → AllByRecursion (IsWithin 1 id) first → AllByRecursion (IsWithin 2 id) second → next_change id first second + s ≤ suc r
  unfolding next_change
  next_within id first second h k =
      let both = both_within (changes_at 1 id first) (changes_at 2 id second) (within 1 id first h) (within 2 id second k) in omega (arith, both)

-- ---- what the keys say of the table's changes so far

pub first_within : (defs : Defs) (x : TableDef) (id : ℕ) → x.id ≡ id → ((P : TableDef → Type 0) → AllByRecursion P defs → P x) → (first : List Version) → AllByRecursion (λ v. IsTableKey defs (version_key tables_columns v)) first
    → AllByRecursion (λ v. (count_at 0 v == id) ≡ true → count_at 1 v + live_from x.dropped 1 x.columns ≤ most_changes x) first
first_within defs x id same out first h =
    all_weaker (λ v. IsTableKey defs (version_key tables_columns v)) (λ v. (count_at 0 v == id) ≡ true → count_at 1 v + live_from x.dropped 1 x.columns ≤ most_changes x)
    (λ v k e. (let c = table_counts defs v k in
    let one = out (IsChange k.0 k.1) k.3 (same ∙ sym (eqb-true (count_at 0 v) id e) ∙ c.0) in
    subst (λ (n : ℕ). n + live_from x.dropped 1 x.columns ≤ most_changes x) (sym c.1) one)) first h

pub second_within : (defs : Defs) (x : TableDef) (id : ℕ) → x.id ≡ id → ((P : TableDef → Type 0) → AllByRecursion P defs → P x) → (second : List Version) → AllByRecursion (λ v. IsColumnKey defs (version_key columns_columns v)) second
    → AllByRecursion (λ v. (count_at 0 v == id) ≡ true → count_at 2 v + live_from x.dropped 1 x.columns ≤ most_changes x) second
second_within defs x id same out second h =
    all_weaker (λ v. IsColumnKey defs (version_key columns_columns v)) (λ v. (count_at 0 v == id) ≡ true → count_at 2 v + live_from x.dropped 1 x.columns ≤ most_changes x)
    (λ v k e. (let c = column_counts defs v k in
    let one = out (IsChange k.0 k.2) k.4 (same ∙ sym (eqb-true (count_at 0 v) id e) ∙ c.0) in
    subst (λ (n : ℕ). n + live_from x.dropped 1 x.columns ≤ most_changes x) (sym c.1) one)) second h

-- a change that the new definition may have had is none that another can't
pub own_changes : (change : ℕ) (def : TableDef) (defs : Defs) → change + live_from def.dropped 1 def.columns ≤ most_changes def → AllByRecursion (IsChange def.id change) (redef def defs)
own_changes change def [] le = tt
own_changes change def (d ∷ ds) le = (here (d.id == def.id) refl, own_changes change def ds le)
  where
    here : (b : Bool) → (d.id == def.id) ≡ b → IsChange def.id change (if b then def else d)
    here true e = λ same. le
    here false e = λ same. absurd (let yes : (d.id == def.id) ≡ true = eq-eqb d.id def.id same in cc)
