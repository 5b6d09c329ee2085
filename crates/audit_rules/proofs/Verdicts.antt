-- The place of the least table at fault.
use Rattle.std.proofs.Common.{◌≡◌, refl, sym, ap, ap₂, ◌∙◌, ℤ, Bool, List, ◌++◌, filter, filter_map, Option, Some, None}
use Rattle.std.specs.Prelude.{not}
use Rattle.std.specs.Ordering.{int_cmp}
use Rattle.sql_types.specs.declared.entry.TxEntry.{TxEntry}
use Rattle.sql_types.specs.declared.image.Image.{Image}
use Rattle.sql_types.specs.declared.version.Version.{Version}
use Rattle.spec_model.specs.Catalog.{Defs}
use Rattle.spec_model.specs.Rows.{Row}
use Rattle.law_catalog_rows.specs.Differs.{encoding_fault, table_of}
use Rattle.law_catalog_rows.specs.Least.{least, lesser_of}
use Rattle.spec_rules.specs.Rows.{CatalogRows, catalog_rows}
use Rattle.spec_rules.specs.Rules.{keeps_the_rules}
use Rattle.spec_verify.specs.Definitions.{lesser_table, table_at, table_place}
use Rattle.spec_verify.specs.Rules.{catalog_fault, rows_of_image, table_rule_fault}
use Rattle.audit_definitions.specs.DefinitionRows.{base_in, rows_in}
use Rattle.audit_definitions.proofs.Encoded.{base_is, definitions_are}

placed : (a : Option ℤ) → table_at (table_place a) ≡ a
placed None = refl
placed (Some t) = refl

lesser_placed : (a b : Option ℤ) → table_place (lesser_of int_cmp a b) ≡ lesser_table (table_place a) (table_place b)
lesser_placed a b = sym (ap₂ (λ x y. table_place (lesser_of int_cmp x y)) (placed a) (placed b))

pub faults_are : (i : Image)
    → table_place (lesser_of int_cmp (encoding_fault (rows_in (base_in i.tables 0)) (rows_in (base_in i.tables 1)) i.defs)
    (least int_cmp (filter (λ t. not (keeps_the_rules i.entries (rows_of_image i) t)) (filter_map table_of (rows_in (base_in i.tables 0)) ++ filter_map table_of (rows_in (base_in i.tables 1))))))
    ≡ catalog_fault i
unfolding catalog_fault table_rule_fault
faults_are i =
    lesser_placed (encoding_fault (rows_in (base_in i.tables 0)) (rows_in (base_in i.tables 1)) i.defs) (least int_cmp (filter breaks (ids (rows_in (base_in i.tables 0)) (rows_in (base_in i.tables 1)))))
    ∙ ap₂ lesser_table (definitions_are i)
    (ap₂ (λ first second. table_place (least int_cmp (filter breaks (ids first second)))) (sym (base_is i.tables 0)) (sym (base_is i.tables 1)))
  where
    breaks : ℤ → Bool
    breaks t = not (keeps_the_rules i.entries (rows_of_image i) t)

    ids : List Row → List Row → List ℤ
    ids first second = filter_map table_of first ++ filter_map table_of second

-- by what the code has at hand
pub place_is : (i : Image) (entries : List TxEntry) (catalog : List TxEntry × CatalogRows) (first second : List Version) (defs : Defs) (worst : Option ℤ)
    → entries ≡ i.entries → first ≡ base_in i.tables 0 → second ≡ base_in i.tables 1 → defs ≡ i.defs → catalog ≡ (entries, catalog_rows entries first second)
    → worst ≡ lesser_of int_cmp (encoding_fault (rows_in first) (rows_in second) defs)
    (least int_cmp (filter (λ t. not (keeps_the_rules catalog.0 catalog.1 t)) (filter_map table_of (rows_in first) ++ filter_map table_of (rows_in second))))
    → table_place worst ≡ catalog_fault i
place_is i entries catalog first second defs worst entries_are first_is second_is defs_are catalog_is worst_is =
    ap table_place worst_is
    ∙ ap (λ (c : List TxEntry × CatalogRows). table_place (lesser_of int_cmp (encoding_fault (rows_in first) (rows_in second) defs) (least int_cmp (filter (λ t. not (keeps_the_rules c.0 c.1 t)) (filter_map table_of (rows_in first) ++ filter_map table_of (rows_in second)))))) catalog_is
    ∙ ap₂ (λ (es : List TxEntry) (ds : Defs). table_place (lesser_of int_cmp (encoding_fault (rows_in first) (rows_in second) ds) (least int_cmp (filter (λ t. not (keeps_the_rules es (catalog_rows es first second) t)) (filter_map table_of (rows_in first) ++ filter_map table_of (rows_in second)))))) entries_are defs_are
    ∙ ap₂ (λ (a b : List Version). table_place (lesser_of int_cmp (encoding_fault (rows_in a) (rows_in b) i.defs) (least int_cmp (filter (λ t. not (keeps_the_rules i.entries (catalog_rows i.entries a b) t)) (filter_map table_of (rows_in a) ++ filter_map table_of (rows_in b)))))) first_is second_is
    ∙ faults_are i
