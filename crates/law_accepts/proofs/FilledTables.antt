-- Tables as an image has them, each version with a value for each column: they are tables of the journal, with the same
-- events, and their versions fit.
use Rattle.std.proofs.Common.{◌≡◌, ℕ, ◌+◌, refl, ap, ap₂, sym, ◌∙◌, false, List, [], ◌∷◌, ◌++◌, flat_map, map, Option, Some, None, arith}
use Rattle.std.specs.Prelude.{◌==◌}
use Rattle.std.specs.List.{AllByRecursion, filter}
use Rattle.std.specs.Ordering.{nat_cmp}
use Rattle.std.proofs.lemmas.List.Concat.{flat_map-cons}
use Rattle.std.proofs.lemmas.List.Sums.{sum_by-cons}
use Rattle.sql_value.specs.declared.column.ColumnDef.{ColumnDef}
use Rattle.sql_types.specs.declared.event.Event.{Event}
use Rattle.sql_types.specs.declared.event.EventField.{EventField}
use Rattle.sql_types.specs.declared.journal.JournalItem.{JournalItem}
use Rattle.sql_types.specs.declared.version.Table.{Table}
use Rattle.sql_types.specs.declared.version.TypedValue.{TypedValue}
use Rattle.sql_types.specs.declared.version.Version.{Version}
use Rattle.spec_model.specs.Catalog.{Tables}
use Rattle.spec_model.specs.Events.{end_events, start_event, version_events, events_of}
use Rattle.spec_model.specs.Keys.{Key, key_of, same_key, version_key}
use Rattle.spec_model.specs.Lists.{sorted}
use Rattle.spec_model.specs.Rows.{EventId, filled_stored, values_of}
use Rattle.law_frame.proofs.Filled.{filled_fields, filled_key, filled_stored_whole, filled_values}
use Rattle.law_journal.specs.AppendOnly.{AllKeepRows}
use Rattle.law_journal.specs.Fits.{Fits, FitsSoFar}
use Rattle.law_journal.specs.Kept.{Apart, AllApart, count, count_in, count_all, IsNumbered}
use Rattle.law_journal.specs.Serial.{place_in, IsOf, TableOf}
use Rattle.law_journal.proofs.SoFar.{as_many, filled_fit, so_far, whole}
use Rattle.law_journal.proofs.Tables.{table_count}
use Rattle.spec_ledger.specs.Entries.{roots_of}
use Rattle.format_image.specs.Rows.{filled_version, filled_table}
use Rattle.law_accepts.proofs.Stay.{Same, all_alike}

abbrev pub filled_tables : Tables → Tables
filled_tables T = map filled_table T

-- ---- versions

module _ (columns : List ColumnDef) where
  abbrev filled : Version → Version
  filled v = filled_version columns v

  pub all_filled : (P Q : Version → Type 0) → ((v : Version) → P v → Q (filled v)) → (vs : List Version) → AllByRecursion P vs → AllByRecursion Q (map filled vs)
  all_filled P Q f [] h = tt
  all_filled P Q f (v ∷ vs) h = (f v h.0, all_filled P Q f vs h.1)

  pub filled_fits : (vs : List Version) → AllByRecursion (λ v. FitsSoFar columns v.values) vs → AllByRecursion (λ v. Fits columns v.values) (map filled vs)
  filled_fits vs h = all_filled (λ v. FitsSoFar columns v.values) (λ v. Fits columns v.values) (λ v f. filled_fit columns v.values f) vs h

  -- each has the key of its version
  its_key : (v : Version) → version_key columns (filled v) ≡ version_key columns v
  its_key v = ap (key_of columns) (filled_values columns v.values) ∙ filled_key columns columns (values_of v)

  apart_filled : (place : ℕ → ℕ) (v w : Version) → Apart place columns v w → Apart place columns (filled v) (filled w)
  apart_filled place v w apart same = apart (ap₂ (λ (a b : Key). same_key a b) (sym (its_key v)) (sym (its_key w)) ∙ same)

  all_apart : (place : ℕ → ℕ) (vs : List Version) → AllApart place columns vs → AllApart place columns (map filled vs)
  all_apart place [] h = tt
  all_apart place (v ∷ vs) h = (all_filled (Apart place columns v) (Apart place columns (filled v)) (apart_filled place v) vs h.0, all_apart place vs h.1)

  same_count : (event : EventId) (vs : List Version) → count event (map filled vs) ≡ count event vs
  same_count event [] = refl
  same_count event (v ∷ vs) =
      sum_by-cons (count_in event) (filled v) (map filled vs) ∙ ap (λ (n : ℕ). count_in event v + n) (same_count event vs) ∙ sym (sum_by-cons (count_in event) v vs)

  -- ---- events

  module _ (table : ℕ) where
    abbrev event : EventId → Option EventId → List EventField → Event
    event id ends fields = record { table = table; tx = id.0; seq = id.1; ends = ends; columns = fields }

    same_end : (v : Version) (o : Option EventId) → end_events table (filled v) o ≡ end_events table v o
    same_end v None = refl
    same_end v (Some e) = ap (λ (fs : List EventField). event e (Some v.start) fs ∷ []) (filled_fields columns v.values)

    same_start : (v : Version) → start_event table (filled v) ≡ start_event table v
    same_start v = ap (event v.start None) (filled_fields columns v.values)

    same_events_of : (vs : List Version) → flat_map (version_events table) (map filled vs) ≡ flat_map (version_events table) vs
    same_events_of [] = refl
    same_events_of (v ∷ vs) =
        flat_map-cons (version_events table) (filled v) (map filled vs)
        ∙ ap₂ (λ (es fs : List Event). es ++ fs) (ap₂ (λ (e : Event) (es : List Event). e ∷ es) (same_start v) (same_end v v.end)) (same_events_of vs)
        ∙ sym (flat_map-cons (version_events table) v vs)

-- the row of a table whose last column may not be NULL is whole
stays : (cs : List ColumnDef) (c : ColumnDef) (v : Version) → c.nullable ≡ false → FitsSoFar (cs ++ c ∷ []) v.values → filled_version (cs ++ c ∷ []) v ≡ v
stays cs c v e h =
    ap (λ (values : List (Option TypedValue)). record { values = values; start = v.start; end = v.end })
    (filled_stored_whole (cs ++ c ∷ []) v.values (let many = as_many (cs ++ c ∷ []) v.values (whole cs c v.values e h) in omega (arith, many)))

pub all_stay : (cs : List ColumnDef) (c : ColumnDef) (vs : List Version) → c.nullable ≡ false → AllByRecursion (λ v. FitsSoFar (cs ++ c ∷ []) v.values) vs → map (filled_version (cs ++ c ∷ [])) vs ≡ vs
all_stay cs c [] e h = refl
all_stay cs c (v ∷ vs) e h = ap₂ (λ (w : Version) (ws : List Version). w ∷ ws) (stays cs c v e h.0) (all_stay cs c vs e h.1)

-- ---- tables

module _ (items : List JournalItem) where
  table_filled : (t : Table) → TableOf items t → TableOf items (filled_table t)
  table_filled t is = record {
    ids = all_filled t.def.columns (IsOf items) (IsOf items) (λ v o. record { start = o.start; end = o.end }) t.versions is.ids;
    apart = all_apart t.def.columns (place_in items) t.versions is.apart;
    fit = all_filled t.def.columns (λ v. FitsSoFar t.def.columns v.values) (λ v. FitsSoFar t.def.columns v.values)
        (λ v f. so_far t.def.columns (filled_stored t.def.columns v.values) (filled_fit t.def.columns v.values f)) t.versions is.fit;
  }

  pub tables_filled : (T : Tables) → AllByRecursion (TableOf items) T → AllByRecursion (TableOf items) (filled_tables T)
  tables_filled [] all = tt
  tables_filled (t ∷ ts) all = (table_filled t all.0, tables_filled ts all.1)

  -- and its versions fit whole
  pub all_fit : (T : Tables) → AllByRecursion (TableOf items) T → AllByRecursion (λ t. AllByRecursion (λ v. Fits t.def.columns v.values) t.versions) (filled_tables T)
  all_fit [] all = tt
  all_fit (t ∷ ts) all = (filled_fits t.def.columns t.versions all.0.fit, all_fit ts all.1)

pub keep_rows : (T : Tables) → AllKeepRows T → AllKeepRows (filled_tables T)
keep_rows [] keep = tt
keep_rows (t ∷ ts) keep = ((λ e. all_filled t.def.columns (λ v. v.end ≡ None) (λ v. v.end ≡ None) (λ v p. p) t.versions (keep.0 e)), keep_rows ts keep.1)

count_filled : (event : EventId) (T : Tables) → count_all event (filled_tables T) ≡ count_all event T
count_filled event [] = refl
count_filled event (t ∷ ts) =
    sum_by-cons (table_count event) (filled_table t) (filled_tables ts)
    ∙ ap₂ (λ (a b : ℕ). a + b) (same_count t.def.columns event t.versions) (count_filled event ts)
    ∙ sym (sum_by-cons (table_count event) t ts)

module _ (tx : ℕ) where
  pub numbered_filled : (k : ℕ) (T : Tables) → IsNumbered tx k T → IsNumbered tx k (filled_tables T)
  numbered_filled k T h n = count_filled (tx, n) T ∙ h n

  events_filled : (t : Table) → events_of tx (filled_table t) ≡ events_of tx t
  unfolding events_of
  events_filled t = ap (λ (es : List Event). sorted (λ a b. nat_cmp a.seq b.seq) (filter (λ e. e.tx == tx) es)) (same_events_of t.def.columns t.def.id t.versions)

  all_same : (h : List ℕ → List ℕ) (T : Tables) → AllByRecursion (λ t. Same h tx t (filled_table t)) T
  all_same h [] = tt
  all_same h (t ∷ ts) = (record { id = refl; events = events_filled t }, all_same h ts)

  pub roots_filled : (h : List ℕ → List ℕ) (T : Tables) → roots_of h tx (filled_tables T) ≡ roots_of h tx T
  roots_filled h T = all_alike h tx filled_table T (all_same h T)
