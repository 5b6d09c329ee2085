-- The least table with a fault, of the ids of the rows and of the definitions.
use Rattle.std.proofs.Common.{◌≡◌, ◌<◌, ◌+◌, refl, sym, ap, ap₂, ◌∙◌, ℕ, zero, suc, ℤ, Bool, true, false, cond, List, [], ◌∷◌, ◌++◌, length, map, filter, filter_map, take, get_or, Option, Some, None}
use Rattle.std.specs.Prelude.{◌&&◌, ◌||◌, not, pos, slice_get}
use Rattle.std.specs.List.{list_any}
use Rattle.std.proofs.lemmas.List.{append-nil, map-append}
use Rattle.std.proofs.lemmas.List.Elements.{filter-append}
use Rattle.std.specs.Ordering.{int_cmp, int_eq}
use Rattle.sql_types.specs.declared.image.Image.{Image}
use Rattle.sql_types.specs.declared.image.TableRows.{TableRows}
use Rattle.sql_types.specs.declared.table.TableDef.{TableDef}
use Rattle.spec_model.specs.Catalog.{Defs}
use Rattle.spec_model.specs.Rows.{Row}
use Rattle.law_catalog_rows.specs.Differs.{is_encoded, is_wrong, table_of, encoding_fault}
use Rattle.law_catalog_rows.specs.Least.{least_from}
use Rattle.spec_verify.specs.Definitions.{base_rows, table_place, definition_fault}
use Rattle.audit_definitions.specs.DefinitionRows.{base_in, ids_encoded, is_missing, rows_in}
use Rattle.audit_definitions.proofs.Walks.{least_append, take_here}

pub base_is : (rows : List TableRows) (k : ℕ) → base_rows rows k ≡ rows_in (base_in rows k)
base_is [] k = refl
base_is (r ∷ rs) zero = refl
base_is (r ∷ rs) (suc k) = base_is rs k

pub definitions_are : (i : Image) → table_place (encoding_fault (rows_in (base_in i.tables 0)) (rows_in (base_in i.tables 1)) i.defs) ≡ definition_fault i
unfolding definition_fault
definitions_are i = sym (ap₂ (λ first second. table_place (encoding_fault first second i.defs)) (base_is i.tables 0) (base_is i.tables 1))

-- ---- of ids

both_or : (e r : Bool) → (e || r) ≡ ((e && true) || r)
both_or true r = refl
both_or false r = refl

neither_or : (e r : Bool) → r ≡ ((e && false) || r)
neither_or true r = refl
neither_or false r = refl

abbrev has_id_of : ℤ → Defs → Bool
has_id_of id ds = list_any (λ n. int_eq (pos n) id) (map (λ (x : TableDef). x.id) ds)

abbrev has_passing : (TableDef → Bool) → ℤ → Defs → Bool
has_passing p id ds = list_any (λ (x : TableDef). int_eq (pos x.id) id && p x) ds

any_of_ids : (p : TableDef → Bool) (id : ℤ) (ds : Defs) → has_id_of id (filter p ds) ≡ has_passing p id ds
any_of_ids p id [] = refl
any_of_ids p id (d ∷ ds) = here (p d) (any_of_ids p id ds)
  where
    here : (b : Bool) → has_id_of id (filter p ds) ≡ has_passing p id ds
        → has_id_of id (cond b (d ∷ filter p ds) (filter p ds)) ≡ ((int_eq (pos d.id) id && b) || has_passing p id ds)
    here true more = ap (λ r. int_eq (pos d.id) id || r) more ∙ both_or (int_eq (pos d.id) id) (has_passing p id ds)
    here false more = more ∙ neither_or (int_eq (pos d.id) id) (has_passing p id ds)

-- an id is wrong if it is none of those that are spelled
pub missing_is : (first second : List Row) (defs : Defs) (ids : List ℕ) → ids ≡ ids_encoded first second defs → (id : ℤ)
    → is_missing ids id ≡ is_wrong first second defs id
missing_is first second defs ids are id =
    ap (λ (l : List ℕ). is_missing l id) are ∙ ap not (any_of_ids (is_encoded first second defs) id defs)

pub least_missing : (first second : List Row) (defs : Defs) (ids : List ℕ) → ids ≡ ids_encoded first second defs → (best : Option ℤ) (xs : List ℤ)
    → least_from int_cmp best (filter (is_missing ids) xs) ≡ least_from int_cmp best (filter (is_wrong first second defs) xs)
least_missing first second defs ids are best xs =
    ap (λ (p : ℤ → Bool). least_from int_cmp best (filter p xs)) (λ i id. missing_is first second defs ids are id i)

-- a definition that is spelled, and one that isn't
pub one_spelled : (p : TableDef → Bool) (d : TableDef) (b : Bool) (old new : List ℕ) → b ≡ p d → b ≡ true → new ≡ old ++ d.id ∷ []
    → new ≡ old ++ map (λ (x : TableDef). x.id) (filter p (d ∷ []))
one_spelled p d b old new is holds pushed = pushed ∙ ap (λ c. old ++ map (λ (x : TableDef). x.id) (cond c (d ∷ []) [])) (sym holds ∙ is)

pub none_spelled : (p : TableDef → Bool) (d : TableDef) (b : Bool) (old : List ℕ) → b ≡ p d → b ≡ false
    → old ≡ old ++ map (λ (x : TableDef). x.id) (filter p (d ∷ []))
none_spelled p d b old is fails = sym (append-nil old) ∙ ap (λ c. old ++ map (λ (x : TableDef). x.id) (cond c (d ∷ []) [])) (sym fails ∙ is)

-- one definition more is gone through
pub ids_next : (p : TableDef → Bool) (defs : Defs) (k : ℕ) (d : TableDef) (old new : List ℕ) → k < length defs → d ≡ get_or defs k d
    → old ≡ map (λ (x : TableDef). x.id) (filter p (take k defs)) → new ≡ old ++ map (λ (x : TableDef). x.id) (filter p (d ∷ []))
    → new ≡ map (λ (x : TableDef). x.id) (filter p (take (k + 1) defs))
ids_next p defs k d old new here is old_is new_is =
    let id : TableDef → ℕ = λ (x : TableDef). x.id in
    new_is ∙ ap (λ l. l ++ map id (filter p (d ∷ []))) old_is
    ∙ sym (map-append id (filter p (take k defs)) (filter p (d ∷ [])))
    ∙ ap (map id) (sym (filter-append p (take k defs) (d ∷ [])) ∙ ap (filter p) (ap (λ (x : TableDef). take k defs ++ x ∷ []) is ∙ sym (take_here defs k d here)))

pub in_three_parts : (first second : List Row) (defs : Defs) (a b c : Option ℤ)
    → a ≡ least_from int_cmp None (filter (is_wrong first second defs) (filter_map table_of first))
    → b ≡ least_from int_cmp a (filter (is_wrong first second defs) (filter_map table_of second))
    → c ≡ least_from int_cmp b (filter (is_wrong first second defs) (map (λ (d : TableDef). pos d.id) defs))
    → c ≡ encoding_fault first second defs
unfolding encoding_fault
in_three_parts first second defs a b c a_is b_is c_is =
    let w = is_wrong first second defs in
    let xs = filter_map table_of first in
    let ys = filter_map table_of second in
    let zs = map (λ (d : TableDef). pos d.id) defs in
    c_is
    ∙ ap (λ o. least_from int_cmp o (filter w zs)) (b_is ∙ ap (λ o. least_from int_cmp o (filter w ys)) a_is)
    ∙ sym (ap (least_from int_cmp None) (filter-append w xs (ys ++ zs) ∙ ap (λ l. filter w xs ++ l) (filter-append w ys zs))
    ∙ least_append int_cmp None (filter w xs) (filter w ys ++ filter w zs)
    ∙ least_append int_cmp (least_from int_cmp None (filter w xs)) (filter w ys) (filter w zs))

pub base_some : (tables : List TableRows) (k : ℕ) (rows : TableRows) → slice_get tables k ≡ Some rows → rows.base ≡ base_in tables k
base_some [] k rows e = cc
base_some (r ∷ rs) zero rows e = ap (λ (x : TableRows). x.base) (some_same e)
  where
    some_same : {A : Type 0} {x y : A} → Some x ≡ Some y → y ≡ x
    some_same e = cc
base_some (r ∷ rs) (suc k) rows e = base_some rs k rows e

pub base_none : (tables : List TableRows) (k : ℕ) → slice_get tables k ≡ None → [] ≡ base_in tables k
base_none [] k e = refl
base_none (r ∷ rs) zero e = cc
base_none (r ∷ rs) (suc k) e = base_none rs k e
