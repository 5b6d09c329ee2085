-- What is known of the times of a table, in the words of the rules.
use Rattle.std.proofs.Common.{◌≡◌, refl, sym, ap, ap₂, ◌∙◌, ℕ, ℤ, Bool, true, false, cond, List, [], ◌∷◌, filter, Option, Some, None}
use Rattle.std.specs.Prelude.{pos, ◌+◌, ◌&&◌, ◌||◌, not, option_map}
use Rattle.std.specs.List.{list_all, list_any}
use Rattle.sql_value.specs.declared.value.Value.{Value}
use Rattle.sql_types.specs.declared.entry.TxEntry.{TxEntry}
use Rattle.sql_types.specs.declared.version.Version.{Version}
use Rattle.spec_model.specs.Keys.{value_at}
use Rattle.spec_model.specs.Lists.{numbered}
use Rattle.spec_model.specs.Rows.{EventId, values_of}
use Rattle.spec_rules.specs.DroppedColumns.{dropped_columns_are_carried, hands_on, has_another_column, is_dropped_at, is_just_before, is_outside_key_at, values_of_dropped}
use Rattle.spec_rules.specs.Places.{EventPlace, PlacedRow, place_of, stands_before}
use Rattle.spec_rules.specs.Rows.{CatalogRows, is_null, items_about, same_value, says, says_dropped, tables_about}
use Rattle.spec_rules.specs.WhileTheTableIsThere.{is_before_end, is_before_event, is_while_the_table_is_there, says_gone}
use Rattle.audit_rules.specs.declared.table_times.TableTimes.{TableTimes}
use Rattle.audit_rules.specs.declared.table_times.VersionInTime.{VersionInTime}
use Rattle.audit_rules.specs.declared.times.What.TheVariants as what
use Rattle.audit_rules.specs.FirstRanks.{has_happened, is_past}
use Rattle.audit_rules.specs.Times.{AreTableTimes, IsInTime, comes_from_last, is_handed_on_if_dropped, is_null_if_dropped, is_past_end, last_of}
use Rattle.audit_rules.proofs.Lists.{any_filtered}
use Rattle.audit_rules.proofs.SaidByRows.{happened_so}

swapped : (a b : Bool) → (a && b) ≡ (b && a)
swapped true true = refl
swapped true false = refl
swapped false true = refl
swapped false false = refl

all_filtered : {A : Type 0} (p q : A → Bool) (xs : List A) → list_all p (filter q xs) ≡ list_all (λ x. not (q x) || p x) xs
all_filtered p q [] = refl
all_filtered p q (x ∷ xs) = here (q x) (all_filtered p q xs)
  where
    here : (b : Bool) → list_all p (filter q xs) ≡ list_all (λ x. not (q x) || p x) xs → list_all p (cond b (x ∷ filter q xs) (filter q xs)) ≡ ((not b || p x) && list_all (λ x. not (q x) || p x) xs)
    here true more = ap (λ b. p x && b) more
    here false more = more

-- ---- columns

module _ (rows : CatalogRows) (x : TableTimes) (times : AreTableTimes rows x) (i : ℤ) (place : EventPlace) where
  pub dropped_at_is : list_any (has_happened (record { table = pos x.table; item = i }) place) x.times.now.dropped ≡ is_dropped_at rows (pos x.table) place i
  dropped_at_is =
      ap (list_any (has_happened (record { table = pos x.table; item = i }) place)) times.times.dropped
      ∙ happened_so what.Dropped (pos x.table) i place rows.items
      ∙ ap (λ (q : PlacedRow → Bool). list_any q (items_about rows (pos x.table))) (λ j r. swapped (says 1 i r && says_dropped r) (stands_before r.place place) j)
      ∙ sym (any_filtered (λ r. says 1 i r && says_dropped r) (λ r. stands_before r.place place) (items_about rows (pos x.table)))

  pub outside_key_at_is : list_any (has_happened (record { table = pos x.table; item = i }) place) x.times.now.outside_key ≡ is_outside_key_at rows (pos x.table) place i
  outside_key_at_is =
      ap (list_any (has_happened (record { table = pos x.table; item = i }) place)) times.times.outside_key
      ∙ happened_so what.OutsideKey (pos x.table) i place rows.items
      ∙ ap (λ (q : PlacedRow → Bool). list_any q (items_about rows (pos x.table))) (λ j r. swapped (says 1 i r && says 8 (pos 0) r) (stands_before r.place place) j)
      ∙ sym (any_filtered (λ r. says 1 i r && says 8 (pos 0) r) (λ r. stands_before r.place place) (items_about rows (pos x.table)))

-- ---- while the table is there

none_either : (g a b : PlacedRow → Bool) (rs : List PlacedRow)
    → list_all (λ r. not (g r && (a r || b r))) rs ≡ (not (list_any (λ r. g r && a r) rs) && not (list_any (λ r. g r && b r) rs))
none_either g a b [] = refl
none_either g a b (r ∷ rs) = ap (λ t. not (g r && (a r || b r)) && t) (none_either g a b rs) ∙ step (g r) (a r) (b r) (list_any (λ r. g r && a r) rs) (list_any (λ r. g r && b r) rs)
  where
    step : (g a b m n : Bool) → (not (g && (a || b)) && (not m && not n)) ≡ (not ((g && a) || m) && not ((g && b) || n))
    step true true b m n = refl
    step true false true true n = refl
    step true false true false n = refl
    step true false false m n = refl
    step false a b m n = refl

none_false : (g : PlacedRow → Bool) (rs : List PlacedRow) → list_any (λ r. g r && false) rs ≡ false
none_false g [] = refl
none_false g (r ∷ rs) = ap₂ (λ s t. s || t) (and_false (g r)) (none_false g rs)
  where
    and_false : (b : Bool) → (b && false) ≡ false
    and_false true = refl
    and_false false = refl

module _ (entries : List TxEntry) (rows : CatalogRows) (x : TableTimes) (times : AreTableTimes rows x) where
  end_is : (o : Option EventId) → is_past_end x.gone (option_map (place_of entries) o) ≡ list_any (λ r. says_gone r && is_before_end entries o r) (tables_about rows (pos x.table))
  end_is None = sym (none_false says_gone (tables_about rows (pos x.table)))
  end_is (Some e) = times.gone (place_of entries e)

  and_assoc : (a b c : Bool) → ((a && b) && c) ≡ (a && (b && c))
  and_assoc true b c = refl
  and_assoc false b c = refl

  pub there_is : (v : VersionInTime) → IsInTime entries v
      → (is_past x.created v.start && not (is_past x.gone v.start) && not (is_past_end x.gone v.end)) ≡ is_while_the_table_is_there entries rows (pos x.table) v.version.now
  unfolding is_while_the_table_is_there
  there_is v is =
      ap₂ (λ (s : EventPlace) e. is_past x.created s && not (is_past x.gone s) && not (is_past_end x.gone e)) is.start is.end
      ∙ and_assoc (is_past x.created (place_of entries v.version.now.start)) (not (is_past x.gone (place_of entries v.version.now.start))) (not (is_past_end x.gone (option_map (place_of entries) v.version.now.end)))
      ∙ ap₂ (λ s t. s && t) (times.created (place_of entries v.version.now.start))
      (ap₂ (λ s t. not s && not t) (times.gone (place_of entries v.version.now.start)) (end_is v.version.now.end)
      ∙ sym (none_either says_gone (is_before_event entries v.version.now.start) (is_before_end entries v.version.now.end) (tables_about rows (pos x.table))))

-- ---- dropped columns

module _ (rows : CatalogRows) (t : ℤ) (place : EventPlace) (v : Version) where
  abbrev dropped : ℕ × Value → Bool
  dropped p = is_dropped_at rows t place (pos (p.0 + 1))

  pub null_is : list_all (is_null_if_dropped rows t place) (numbered 0 (values_of v)) ≡ list_all (λ (p : ℕ × Value). is_null p.1) (values_of_dropped rows t place v)
  null_is = sym (all_filtered (λ (p : ℕ × Value). is_null p.1) dropped (numbered 0 (values_of v)))

  pub handed_is : (w : Version) → list_all (is_handed_on_if_dropped rows t place w) (numbered 0 (values_of v)) ≡ list_all (λ (p : ℕ × Value). same_value (value_at (values_of w) p.0) p.1) (values_of_dropped rows t place v)
  handed_is w = sym (all_filtered (λ (p : ℕ × Value). same_value (value_at (values_of w) p.0) p.1) dropped (numbered 0 (values_of v)))

-- what a version hands on
handed_on : (rows : CatalogRows) (t : ℤ) (place : EventPlace) (last : Option Version) (v : Version)
    → comes_from_last rows t place last v ≡ (hands_on (values_of_dropped rows t place v) v.start last && has_another_column rows t place v)
handed_on rows t place None v = refl
handed_on rows t place (Some w) v = ap (λ b. is_just_before w.end v.start && b && has_another_column rows t place v) (handed_is rows t place v w)

pub carried_is : (entries : List TxEntry) (rows : CatalogRows) (t : ℤ) (v : VersionInTime) → IsInTime entries v
    → (list_all (is_null_if_dropped rows t v.start) (numbered 0 (values_of v.version.now)) || comes_from_last rows t v.start (last_of v) v.version.now)
    ≡ dropped_columns_are_carried entries rows t (last_of v) v.version.now
unfolding dropped_columns_are_carried
carried_is entries rows t v is =
    ap₂ (λ a b. a || b) (null_is rows t v.start v.version.now) (handed_on rows t v.start (last_of v) v.version.now)
    ∙ ap (λ (p : EventPlace). list_all (λ (q : ℕ × Value). is_null q.1) (values_of_dropped rows t p v.version.now) || (hands_on (values_of_dropped rows t p v.version.now) v.version.now.start (last_of v) && has_another_column rows t p v.version.now)) is.start
