-- The verdict is Yes exactly where no invariant fails.
use Rattle.std.proofs.Common.{◌≡◌, ℕ, ℤ, Bool, true, false, List, [], ◌∷◌, Option, Some, None, refl, sym, ap, ap₂, ◌∙◌}
use Rattle.std.specs.Prelude.{◌↔◌, if◌then◌else◌}
use Rattle.std.specs.List.{AllByRecursion}
use Rattle.std.specs.declared.cmp.Ordering.{Ordering}
use Rattle.std.specs.Ordering.{int_cmp, is_gt}
use Rattle.law_catalog_rows.specs.Least.{lesser, lesser_of}
use Rattle.sql_types.specs.declared.digest.HeldDigest.{HeldDigest}
use Rattle.sql_types.specs.declared.image.Image.{Image}
use Rattle.spec_verify.specs.declared.place.Invariant.{Invariant}
use Rattle.spec_verify.specs.declared.place.Place.{Place}
use Rattle.spec_verify.specs.declared.place.Verdict.{Verdict}
use Rattle.spec_verify.specs.declared.place.Verdict.TheVariants.{Yes}
use Rattle.spec_verify.specs.Definitions.{definition_fault, lesser_table, table_at, table_place}
use Rattle.spec_verify.specs.Entries.{TableEvent, event_at, event_place, lesser_version, table_event_cmp}
use Rattle.spec_verify.specs.Rules.{catalog_fault, row_fault, table_rule_fault, version_rule_fault}
use Rattle.spec_verify.specs.Versions.{version_fault}
use Rattle.spec_verify.specs.Verdict.{Tried, failed_or, first_failed, all_tried, image_verdict, AllHold}

nothing_failed : (v : Invariant) (found : Option Place) (rest : Verdict) → failed_or v found rest ≡ Yes → (found ≡ None) × (rest ≡ Yes)
nothing_failed v (Some place) rest e = cc
nothing_failed v None rest e = (refl, e)

each_holds : (ts : List Tried) → first_failed ts ≡ Yes → AllByRecursion (λ t. t.1 ≡ None) ts
each_holds [] e = tt
each_holds (t ∷ ts) e = let p = nothing_failed t.0 t.1 (first_failed ts) e in (p.0, each_holds ts p.1)

one_holds : (v : Invariant) (found : Option Place) (rest : Verdict) → found ≡ None → rest ≡ Yes → failed_or v found rest ≡ Yes
one_holds v (Some place) rest e f = cc
one_holds v None rest e f = f

all_hold : (ts : List Tried) → AllByRecursion (λ t. t.1 ≡ None) ts → first_failed ts ≡ Yes
all_hold [] h = refl
all_hold (t ∷ ts) h = one_holds t.0 t.1 (first_failed ts) h.0 (all_hold ts h.1)

-- ---- of two faults that are tried at once

module _ {A : Type 0} (cmp : A → A → Ordering) where
  one_of : (b : Bool) (x y : A) → (if b then Some x else Some y) ≡ None → ⊥
  one_of true x y e = let f : Some x ≡ None = e in cc
  one_of false x y e = let f : Some y ≡ None = e in cc

  some_lesser : (a : Option A) (y : A) → lesser cmp a y ≡ None → ⊥
  some_lesser None y e = let f : Some y ≡ None = e in cc
  some_lesser (Some x) y e = one_of (is_gt (cmp x y)) y x e

  neither : (a b : Option A) → lesser_of cmp a b ≡ None → (a ≡ None) × (b ≡ None)
  neither None None h = (refl, refl)
  neither (Some x) None h = cc
  neither a (Some y) h = absurd (some_lesser a y h)

module _ (i : Image) where
  named_event : (e : Option TableEvent) → event_at (event_place e) ≡ e
  named_event None = refl
  named_event (Some e) = refl

  no_event : (e : Option TableEvent) → event_place e ≡ None → e ≡ None
  no_event None h = refl
  no_event (Some e) h = cc

  named_table : (id : Option ℤ) → table_at (table_place id) ≡ id
  named_table None = refl
  named_table (Some id) = refl

  no_table : (id : Option ℤ) → table_place id ≡ None → id ≡ None
  no_table None h = refl
  no_table (Some id) h = cc

  no_version : (a b : Option TableEvent) → lesser_version (event_place a) (event_place b) ≡ None → (event_place a ≡ None) × (event_place b ≡ None)
  no_version a b h =
      let same : lesser_of table_event_cmp (event_at (event_place a)) (event_at (event_place b)) ≡ lesser_of table_event_cmp a b = ap₂ (lesser_of table_event_cmp) (named_event a) (named_event b) in
      let none = neither table_event_cmp a b (sym same ∙ no_event (lesser_of table_event_cmp (event_at (event_place a)) (event_at (event_place b))) h) in
      (ap event_place none.0, ap event_place none.1)

  no_table_of : (a b : Option ℤ) → lesser_table (table_place a) (table_place b) ≡ None → (table_place a ≡ None) × (table_place b ≡ None)
  no_table_of a b h =
      let same : lesser_of int_cmp (table_at (table_place a)) (table_at (table_place b)) ≡ lesser_of int_cmp a b = ap₂ (lesser_of int_cmp) (named_table a) (named_table b) in
      let none = neither int_cmp a b (sym same ∙ no_table (lesser_of int_cmp (table_at (table_place a)) (table_at (table_place b))) h) in
      (ap table_place none.0, ap table_place none.1)

  row_parts : row_fault i ≡ None → (version_fault i ≡ None) × (version_rule_fault i ≡ None)
  unfolding row_fault version_fault version_rule_fault
  row_parts h = no_version _ _ h

  no_row : version_fault i ≡ None → version_rule_fault i ≡ None → row_fault i ≡ None
  unfolding row_fault
  no_row a b = rw (a, b) refl

  catalog_parts : catalog_fault i ≡ None → (definition_fault i ≡ None) × (table_rule_fault i ≡ None)
  unfolding catalog_fault definition_fault table_rule_fault
  catalog_parts h = no_table_of _ _ h

  no_catalog : definition_fault i ≡ None → table_rule_fault i ≡ None → catalog_fault i ≡ None
  unfolding catalog_fault
  no_catalog a b = rw (a, b) refl

pub yes_exactly : (h : List ℕ → List ℕ) (i : Image) (digests : List HeldDigest) → (image_verdict h i digests ≡ Yes) ↔ AllHold h i digests
unfolding image_verdict
yes_exactly h i digests = (
  λ e. let a = each_holds (all_tried h i digests) e in
      let rows = row_parts i a.1.1.1.1.1.0 in
      let catalog = catalog_parts i a.1.1.1.1.1.1.0 in
      record { digests_hold = a.0; chain = a.1.0; blocks = a.1.1.0; ids = a.1.1.1.0; roots = a.1.1.1.1.0; versions = rows.0; version_rules = rows.1; definitions = catalog.0; table_rules = catalog.1; indexes = a.1.1.1.1.1.1.1.0 },
  λ a. all_hold (all_tried h i digests) (a.digests_hold, (a.chain, (a.blocks, (a.ids, (a.roots, (no_row i a.versions a.version_rules, (no_catalog i a.definitions a.table_rules, (a.indexes, tt)))))))),
)
