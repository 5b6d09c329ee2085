-- The least version that its table may not have, or that breaks a rule, is the lesser of the least of each.
use Rattle.std.proofs.Common.{◌≡◌, refl, sym, ap, ap₂, ◌∙◌, Bool, true, false, cond, List, [], ◌∷◌, ◌++◌, map, filter, flat_map, Option, Some, None}
use Rattle.std.specs.Prelude.{◌&&◌, ◌||◌, not, nat_lt, pos}
use Rattle.std.specs.Ordering.{is_gt}
use Rattle.sql_types.specs.declared.image.Image.{Image}
use Rattle.sql_types.specs.declared.version.Table.{Table}
use Rattle.sql_types.specs.declared.version.Version.{Version}
use Rattle.spec_model.specs.Catalog.{Tables}
use Rattle.format_image.specs.Tables.{tables_in}
use Rattle.law_catalog_rows.specs.Least.{least, least_from, lesser, lesser_of}
use Rattle.spec_verify.specs.Entries.{TableEvent, event_at, event_place, table_event_cmp}
use Rattle.spec_rules.specs.Rules.{version_keeps_the_rules}
use Rattle.spec_verify.specs.Rules.{last_before, row_fault, rows_of_image, rule_breakers, version_breaks_a_rule, version_rule_fault}
use Rattle.spec_verify.specs.Versions.{bad_versions, rows_of_columns, version_fault, version_holds}
use Rattle.spec_verify.proofs.Leasts.{least_split}
use Rattle.spec_verify.proofs.ToldEntries.{table_event_total}
use Rattle.audit_rules.proofs.LeastParts.{in_parts, to_end}
use Rattle.audit_verify.specs.Groups.{faulty, version_in}
use Rattle.audit_verify.proofs.WorstParts.{append, same_event}

-- the event that the place of an event names
pub named : (e : Option TableEvent) → event_at (event_place e) ≡ e
named None = refl
named (Some e) = refl

abbrev lf : Option TableEvent → List TableEvent → Option TableEvent
lf best xs = least_from table_event_cmp best xs

swap_lists : (best : Option TableEvent) (xs ys : List TableEvent) → lf (lf best xs) ys ≡ lf (lf best ys) xs
swap_lists best [] ys = refl
swap_lists best (x ∷ xs) ys =
    swap_lists (lesser table_event_cmp best x) xs ys
    ∙ ap (λ o. lf o xs) (to_end table_event_cmp table_event_total same_event best x ys)

module _ (i : Image) where
  abbrev bad : Table → List TableEvent
  bad t = bad_versions i.entries (rows_of_columns i.tables) t

  abbrev breakers : Table → List TableEvent
  breakers t = rule_breakers i t

  either : (h u k : Bool) → not (h && (not u || k)) ≡ (not h || (u && not k))
  either true true k = refl
  either true false k = refl
  either false u k = refl

  of_table : (best : Option TableEvent) (t : Table) → lf best (faulty i t) ≡ lf (lf best (bad t)) (breakers t)
  of_table best t =
      let start : Version → TableEvent = λ (v : Version). (t.def.id, v.start) in
      ap (λ (p : Version → Bool). lf best (map start (filter p t.versions)))
      (λ j v. either (version_holds i.entries (rows_of_columns i.tables) t v) (nat_lt 2 t.def.id) (version_keeps_the_rules i.entries (rows_of_image i) (pos t.def.id) (last_before i t v) v) j)
      ∙ in_parts table_event_cmp table_event_total same_event start (λ v. not (version_holds i.entries (rows_of_columns i.tables) t v)) (version_breaks_a_rule i t) best t.versions

  of_tables : (best : Option TableEvent) (ts : Tables) → lf best (flat_map (faulty i) ts) ≡ lf (lf best (flat_map bad ts)) (flat_map breakers ts)
  of_tables best [] = refl
  of_tables best (t ∷ ts) =
      append best (faulty i t) (flat_map (faulty i) ts)
      ∙ ap (λ o. lf o (flat_map (faulty i) ts)) (of_table best t)
      ∙ of_tables (lf (lf best (bad t)) (breakers t)) ts
      ∙ ap (λ o. lf o (flat_map breakers ts)) (swap_lists (lf best (bad t)) (breakers t) (flat_map bad ts))
      ∙ sym (append (lf (lf best (bad t)) (flat_map bad ts)) (breakers t) (flat_map breakers ts))
      ∙ ap (λ o. lf o (breakers t ++ flat_map breakers ts)) (sym (append best (bad t) (flat_map bad ts)))

  pub faults_are : version_in i (tables_in i) ≡ row_fault i
  unfolding row_fault version_fault version_rule_fault
  faults_are =
      let xs = flat_map bad (tables_in i) in
      let ys = flat_map breakers (tables_in i) in
      ap event_place
      (of_tables None (tables_in i) ∙ sym (append None xs ys) ∙ least_split table_event_cmp table_event_total xs ys)
      ∙ ap₂ (λ a b. event_place (lesser_of table_event_cmp a b)) (sym (named (least table_event_cmp xs))) (sym (named (least table_event_cmp ys)))

  none_first : (a b : Option TableEvent) → event_place (lesser_of table_event_cmp a b) ≡ None → event_place a ≡ None
  none_first None b e = refl
  none_first (Some a) None e = cc
  none_first (Some a) (Some b) e = here (is_gt (table_event_cmp a b)) e
    where
      here : (g : Bool) → event_place (cond g (Some b) (Some a)) ≡ None → event_place (Some a) ≡ None
      here true e = cc
      here false e = cc

  -- where no row is at fault, no version is
  pub no_version : row_fault i ≡ None → version_fault i ≡ None
  unfolding row_fault version_fault version_rule_fault
  no_version e =
      let xs = flat_map bad (tables_in i) in
      let ys = flat_map breakers (tables_in i) in
      none_first (least table_event_cmp xs) (least table_event_cmp ys)
      (ap₂ (λ a b. event_place (lesser_of table_event_cmp a b)) (sym (named (least table_event_cmp xs))) (sym (named (least table_event_cmp ys))) ∙ e)
