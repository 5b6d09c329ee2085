-- The least of the tables that are defined otherwise than their rows spell them, or whose rows break a rule.
use Rattle.std.proofs.Common.{◌≡◌, refl, sym, ap, ap₂, ◌∙◌, ℕ, ℤ, Bool, true, false, cond, List, [], ◌∷◌, ◌++◌, map, filter, filter_map, Option, None, map-id}
use Rattle.std.proofs.lemmas.List.Elements.{filter-append}
use Rattle.std.proofs.lemmas.Bool.Decides.{Decides-int_eq}
use Rattle.std.proofs.lemmas.Map.Lookups.{exact_signed}
use Rattle.std.specs.Prelude.{pos, ◌&&◌, ◌||◌, not}
use Rattle.std.specs.List.{list_any}
use Rattle.std.specs.Cmp.{int_cmp_total}
use Rattle.std.specs.declared.cmp.Ordering.TheVariants.{Equal}
use Rattle.std.specs.Ordering.{int_cmp, int_eq}
use Rattle.sql_types.specs.declared.entry.TxEntry.{TxEntry}
use Rattle.sql_types.specs.declared.table.TableDef.{TableDef}
use Rattle.spec_model.specs.Catalog.{Defs}
use Rattle.spec_model.specs.Rows.{Row}
use Rattle.law_catalog_rows.specs.Differs.{encoding_fault, is_wrong, table_of}
use Rattle.law_catalog_rows.specs.Least.{least, least_from, lesser, lesser_of}
use Rattle.spec_verify.proofs.Leasts.{least_split}
use Rattle.spec_rules.specs.Rows.{CatalogRows}
use Rattle.spec_rules.specs.Rules.{keeps_the_rules}
use Rattle.audit_definitions.specs.DefinitionRows.{ids_encoded, is_missing}
use Rattle.audit_definitions.proofs.Encoded.{missing_is}
use Rattle.audit_definitions.proofs.Walks.{least_append}
use Rattle.audit_rules.proofs.LeastParts.{in_parts, to_end}
use Rattle.audit_rules.specs.Faults.{ids_right}

-- ---- ids

module _ (keep : ℤ → Bool) (id : ℤ) where
  has : List ℕ → Bool
  has ids = list_any (λ n. int_eq (pos n) id) ids

  has_kept : (ids : List ℕ) → has (filter (λ n. keep (pos n)) ids) ≡ (has ids && keep id)
  unfolding has
  has_kept [] = refl
  has_kept (n ∷ ns) = here (int_eq (pos n) id) (keep (pos n)) refl refl (has_kept ns)
    where
      here : (s k : Bool) → int_eq (pos n) id ≡ s → keep (pos n) ≡ k → has (filter (λ n. keep (pos n)) ns) ≡ (has ns && keep id)
          → has (cond k (n ∷ filter (λ n. keep (pos n)) ns) (filter (λ n. keep (pos n)) ns)) ≡ ((s || has ns) && keep id)
      here true true is kept more =
          ap (λ b. b || has (filter (λ n. keep (pos n)) ns)) is ∙ sym kept ∙ ap keep ((Decides-int_eq (pos n) id).0 is)
      here true false is kept more =
          let lost : keep id ≡ false = sym (ap keep ((Decides-int_eq (pos n) id).0 is)) ∙ kept in
          more ∙ rw lost (and_false (has ns))
        where
          and_false : (b : Bool) → (b && false) ≡ false
          and_false true = refl
          and_false false = refl
      here false true is kept more = ap (λ b. b || has (filter (λ n. keep (pos n)) ns)) is ∙ more
      here false false is kept more = more

  -- an id is none of those that are kept if it is none of them, or isn't kept
  pub missing_kept : (ids : List ℕ) → is_missing (filter (λ n. keep (pos n)) ids) id ≡ (is_missing ids id || not (keep id))
  unfolding has
  missing_kept ids = ap not (has_kept ids) ∙ either (has ids) (keep id)
    where
      either : (a b : Bool) → not (a && b) ≡ (not a || not b)
      either true b = refl
      either false b = refl

-- ---- leasts

same : (x y : ℤ) → int_cmp x y ≡ Equal → x ≡ y
same x y e = exact_signed x y e

abbrev lf : Option ℤ → List ℤ → Option ℤ
lf best xs = least_from int_cmp best xs

either_test : (p q : ℤ → Bool) (best : Option ℤ) (xs : List ℤ) → lf best (filter (λ x. p x || q x) xs) ≡ lf (lf best (filter p xs)) (filter q xs)
either_test p q best xs =
    ap (lf best) (sym (map-id (filter (λ x. p x || q x) xs)))
    ∙ in_parts int_cmp int_cmp_total same (λ (x : ℤ). x) p q best xs
    ∙ ap₂ (λ ys zs. lf (lf best ys) zs) (map-id (filter p xs)) (map-id (filter q xs))

-- two lists in either order
swap_one : (best : Option ℤ) (x : ℤ) (ys : List ℤ) → lf (lesser int_cmp best x) ys ≡ lesser int_cmp (lf best ys) x
swap_one best x ys = to_end int_cmp int_cmp_total same best x ys

swap_lists : (best : Option ℤ) (xs ys : List ℤ) → lf (lf best xs) ys ≡ lf (lf best ys) xs
swap_lists best [] ys = refl
swap_lists best (x ∷ xs) ys = swap_lists (lesser int_cmp best x) xs ys ∙ ap (λ o. lf o xs) (swap_one best x ys)

module _ (p q : ℤ → Bool) (xs ys zs : List ℤ) where
  -- both tests of the rows, and then the first test of the definitions
  pub together : lf (lf (lf None (filter (λ x. p x || q x) xs)) (filter (λ x. p x || q x) ys)) (filter p zs)
      ≡ lesser_of int_cmp (least int_cmp (filter p (xs ++ (ys ++ zs)))) (least int_cmp (filter q (xs ++ ys)))
  together =
      let px = filter p xs in
      let py = filter p ys in
      let pz = filter p zs in
      let qx = filter q xs in
      let qy = filter q ys in
      ap (λ o. lf (lf o (filter (λ x. p x || q x) ys)) pz) (either_test p q None xs)
      ∙ ap (λ o. lf o pz) (either_test p q (lf (lf None px) qx) ys)
      ∙ ap (λ o. lf (lf o qy) pz) (swap_lists (lf None px) qx py)
      ∙ swap_lists (lf (lf (lf None px) py) qx) qy pz
      ∙ ap (λ o. lf o qy) (swap_lists (lf (lf None px) py) qx pz)
      ∙ sym (least_append int_cmp (lf (lf (lf None px) py) pz) qx qy)
      ∙ ap₂ lf (sym (least_append int_cmp (lf None px) py pz) ∙ sym (least_append int_cmp None px (py ++ pz)) ∙ ap (lf None) (sym (filter-append p xs (ys ++ zs) ∙ ap (λ l. px ++ l) (filter-append p ys zs))))
      (sym (filter-append q xs ys))
      ∙ sym (least_append int_cmp None (filter p (xs ++ (ys ++ zs))) (filter q (xs ++ ys)))
      ∙ least_split int_cmp int_cmp_total (filter p (xs ++ (ys ++ zs))) (filter q (xs ++ ys))

module _ (entries : List TxEntry) (rows : CatalogRows) (first second : List Row) (defs : Defs) where
  abbrev breaks : ℤ → Bool
  breaks t = not (keeps_the_rules entries rows t)

  abbrev wrong : ℤ → Bool
  wrong t = is_wrong first second defs t

  -- an id is missing among those that are right if it is defined otherwise, or breaks a rule
  missing_right : (ids right : List ℕ) → ids ≡ ids_encoded first second defs → right ≡ ids_right entries rows ids → (t : ℤ) → is_missing right t ≡ (wrong t || breaks t)
  missing_right ids right are are_right t =
      ap (λ (l : List ℕ). is_missing l t) are_right
      ∙ missing_kept (keeps_the_rules entries rows) t ids
      ∙ ap (λ b. b || breaks t) (missing_is first second defs ids are t)

  pub worst_is : (ids right : List ℕ) → ids ≡ ids_encoded first second defs → right ≡ ids_right entries rows ids → (a b c : Option ℤ)
      → a ≡ lf None (filter (is_missing right) (filter_map table_of first))
      → b ≡ lf a (filter (is_missing right) (filter_map table_of second))
      → c ≡ lf b (filter (is_missing ids) (map (λ (d : TableDef). pos d.id) defs))
      → c ≡ lesser_of int_cmp (encoding_fault first second defs) (least int_cmp (filter breaks (filter_map table_of first ++ filter_map table_of second)))
  unfolding encoding_fault
  worst_is ids right are are_right a b c a_is b_is c_is =
      let xs = filter_map table_of first in
      let ys = filter_map table_of second in
      let zs = map (λ (d : TableDef). pos d.id) defs in
      let both : is_missing right ≡ (λ t. wrong t || breaks t) = λ i t. missing_right ids right are are_right t i in
      c_is
      ∙ ap₂ lf
      (b_is ∙ ap₂ lf (a_is ∙ ap (λ (p : ℤ → Bool). lf None (filter p xs)) both) (ap (λ (p : ℤ → Bool). filter p ys) both))
      (ap (λ (p : ℤ → Bool). filter p zs) (λ i t. missing_is first second defs ids are t i))
      ∙ together wrong breaks xs ys zs
