-- The events of versions that fit their tables have leaves, where their numbers have room and their texts are UTF-8.
use Rattle.std.proofs.Common.{◌≡◌, ◌≢◌, ◌≤◌, ℕ, ◌+◌, refl, sym, subst, true, List, [], ◌∷◌, length, flat_map, Option, Some, None, arith}
use Rattle.std.specs.Prelude.{◌==◌}
use Rattle.std.specs.List.{AllByRecursion, filter}
use Rattle.std.specs.Ordering.{nat_cmp}
use Rattle.sql_value.specs.declared.column.ColumnDef.{ColumnDef}
use Rattle.sql_value.specs.declared.sql_type.SqlType.{SqlType}
use Rattle.sql_value.specs.declared.value.Value.{Value}
use Rattle.sql_value.specs.declared.value.Value.TheVariants.{Null, Num, Text, Bytes, Date}
use Rattle.sql_value.specs.Stored.{is_stored}
use Rattle.sql_types.specs.declared.version.Table.{Table}
use Rattle.sql_types.specs.declared.version.TypedValue.{TypedValue}
use Rattle.sql_types.specs.declared.version.Version.{Version}
use Rattle.spec_model.specs.Lists.{numbered}
use Rattle.spec_model.specs.Rows.{EventId}
use Rattle.spec_model.specs.Catalog.{Tables}
use Rattle.spec_model.specs.Events.{fields_at, end_events, version_events, events_of, all_events}
use Rattle.law_frame.proofs.Alls.{all_both, all_filter, all_sorted}
use Rattle.law_frame.proofs.LeftRows.{all_flat_map}
use Rattle.law_journal.specs.Fits.{FitsColumn, FitsSoFar}
use Rattle.law_journal.specs.Serial.{TableOf, TablesOf}
use Rattle.law_journal.specs.Described.{Described}
use Rattle.law_journal.proofs.DefLists.{all_defs}
use Rattle.law_journal.proofs.SoFar as so_far
use Rattle.sql_types.specs.declared.journal.JournalItem.{JournalItem}
use Rattle.format_event.specs.EventRef.{event_with}
use Rattle.format_event.specs.Leaf.{is_told}
use Rattle.format_event.specs.TypedBytes.{AreValues, IsUtf8Text, IsValue}
use Rattle.format_event.proofs.Values.{has_leaf}
use Rattle.law_events.specs.Room.{AreTexts, FitsLeaf}

-- ---- the values

is_not_null : (v : Value) → v ≢ Null → is_told v ≡ true
is_not_null Null h = absurd (h refl)
is_not_null (Num s v) h = refl
is_not_null (Text x) h = refl
is_not_null (Bytes x) h = refl
is_not_null (Date d) h = refl

value_is : (c : ColumnDef) (v : Option TypedValue) → FitsColumn c v → IsUtf8Text v → IsValue v
value_is c None fits text = tt
value_is c (Some t) fits text = record { told = is_not_null t.value fits.1; stored = subst (λ (ty : SqlType). is_stored t.value ty ≡ true) (sym fits.0) fits.2; text = text }

each_is : (columns : List ColumnDef) (values : List (Option TypedValue)) → FitsSoFar columns values → AllByRecursion IsUtf8Text values → AllByRecursion IsValue values
each_is [] [] fits texts = tt
each_is [] (v ∷ vs) fits texts = absurd fits
each_is (c ∷ cs) [] fits texts = tt
each_is (c ∷ cs) (v ∷ vs) fits texts = (value_is c v fits.0 texts.0, each_is cs vs fits.1 texts.1)

-- values that fit so far have a spelling
pub are_values : (columns : List ColumnDef) (values : List (Option TypedValue)) → length columns ≤ 64 → FitsSoFar columns values → AllByRecursion IsUtf8Text values → AreValues values
are_values columns values few fits texts =
    let some = so_far.few columns values fits in
    (omega (arith, some, few), each_is columns values fits texts)

texts_of : (n : ℕ) (values : List (Option TypedValue)) → AreTexts (flat_map fields_at (numbered n values)) → AllByRecursion IsUtf8Text values
texts_of n [] texts = tt
texts_of n (None ∷ vs) texts = (tt, texts_of (n + 1) vs texts)
texts_of n (Some t ∷ vs) texts = (texts.0, texts_of (n + 1) vs texts.1)

-- ---- the events

module _ (columns : List ColumnDef) (few : length columns ≤ 64) where
  abbrev Suits : Version → Type 0
  Suits v = FitsSoFar columns v.values

  leaf_of : (table : ℕ) (id : EventId) (ends : Option EventId) (values : List (Option TypedValue)) → FitsSoFar columns values → FitsLeaf (event_with table id ends values)
  leaf_of table id ends values fits room =
      has_leaf table id ends values room.table (room.tx, room.seq) room.ends (are_values columns values few fits (texts_of 1 values room.texts))

  pub ends_leaf : (table : ℕ) (v : Version) (o : Option EventId) → Suits v → AllByRecursion FitsLeaf (end_events table v o)
  ends_leaf table v (Some e) fit = (leaf_of table e (Some v.start) v.values fit, tt)
  ends_leaf table v None fit = tt

  pub version_leaf : (table : ℕ) (v : Version) → Suits v → AllByRecursion FitsLeaf (version_events table v)
  version_leaf table v fit = (leaf_of table v.start None v.values fit, ends_leaf table v v.end fit)

abbrev IsGood : List JournalItem → Table → Type 0
IsGood items t = (length t.def.columns ≤ 64) × TableOf items t

table_leaves : (items : List JournalItem) (tx : ℕ) (t : Table) → IsGood items t
    → AllByRecursion FitsLeaf (events_of tx t)
unfolding events_of
table_leaves items tx t h =
    all_sorted FitsLeaf (λ a b. nat_cmp a.seq b.seq)
    (filter (λ e. e.tx == tx) (flat_map (version_events t.def.id) t.versions))
    (all_filter FitsLeaf (λ e. e.tx == tx) (flat_map (version_events t.def.id) t.versions)
    (all_flat_map (λ v. FitsSoFar t.def.columns v.values) FitsLeaf (version_events t.def.id)
    (version_leaf t.def.columns h.0 t.def.id) t.versions h.1.fit))

pub all_leaves : (items : List JournalItem) (tx : ℕ) (T : Tables) → TablesOf items T → Described T
    → AllByRecursion FitsLeaf (all_events tx T)
unfolding all_events
all_leaves items tx T k d =
    all_flat_map (IsGood items) FitsLeaf (events_of tx) (table_leaves items tx) T
    (all_both (λ t. length t.def.columns ≤ 64) (TableOf items) T
    (all_defs (λ def. length def.columns ≤ 64) T d.few) k.each)
