-- The fields of values that have a spelling: an event of them has a leaf.
use Rattle.std.proofs.Common.{◌≡◌, ◌≤◌, ◌<◌, ◌+◌, ◌^◌, ℕ, suc, true, List, [], ◌∷◌, length, flat_map, filter, Option, Some, None, refl, arith, ap}
use Rattle.std.specs.Prelude.{IfSome, is_some}
use Rattle.std.specs.List.{AllByRecursion}
use Rattle.std.proofs.lemmas.Bool.{lt-ltb}
use Rattle.sql_types.specs.declared.version.TypedValue.{TypedValue}
use Rattle.spec_model.specs.Lists.{numbered}
use Rattle.spec_model.specs.Events.{fields_at, fields_of}
use Rattle.spec_model.specs.Rows.{EventId}
use Rattle.format_event.specs.declared.event_ref.EventRef.{EventRef}
use Rattle.format_event.specs.EventRef.{event_of, event_with}
use Rattle.format_event.specs.Leaf.{encoded, event_bytes, has_value, HasLeaf, IsField, IsPair, rise_from}
use Rattle.format_event.specs.TypedBytes.{AreValues, IsTyped, IsValue}
use Rattle.format_event.proofs.LeafExact.{all_told}
use Rattle.format_event.proofs.Leaves.{leaf_again}

field_is : (n : ℕ) (t : TypedValue) → n < 2 ^ 16 → IsTyped t → IsField (record { ordinal = n; ty = t.ty; value = t.value })
field_is n t lt is = record { ordinal = lt; told = is.told; stored = is.stored; text = is.text }

fields_fit : (n : ℕ) (values : List (Option TypedValue)) → n + length values ≤ 2 ^ 16 → AllByRecursion IsValue values → AllByRecursion IsField (flat_map fields_at (numbered n values))
fields_fit n [] le all = tt
fields_fit n (None ∷ vs) le all = fields_fit (n + 1) vs (omega arith) all.1
fields_fit n (Some t ∷ vs) le all = (field_is n t (omega arith) all.0, fields_fit (n + 1) vs (omega arith) all.1)

fields_rise : (n last : ℕ) (values : List (Option TypedValue)) → last < n → rise_from last (flat_map fields_at (numbered n values)) ≡ true
fields_rise n last [] lt = refl
fields_rise n last (None ∷ vs) lt = fields_rise (n + 1) last vs (omega arith)
fields_rise n last (Some t ∷ vs) lt = rw (lt-ltb last n lt) (fields_rise (n + 1) n vs (omega arith))

-- so many as aren't NULL
pub fields_count : (n : ℕ) (values : List (Option TypedValue)) → length (flat_map fields_at (numbered n values)) ≡ length (filter is_some values)
fields_count n [] = refl
fields_count n (None ∷ vs) = fields_count (n + 1) vs
fields_count n (Some t ∷ vs) = ap suc (fields_count (n + 1) vs)

pub few_some : (values : List (Option TypedValue)) → length (filter is_some values) ≤ length values
few_some [] = omega arith
few_some (None ∷ vs) = let l = few_some vs in omega arith
few_some (Some t ∷ vs) = let l = few_some vs in omega arith

all_fit : (values : List (Option TypedValue)) → AreValues values → AllByRecursion IsField (fields_of values)
all_fit values are = let short = are.0 in fields_fit 1 values (omega arith) are.1

-- none of them is left out
values_told : (values : List (Option TypedValue)) → AreValues values → filter has_value (fields_of values) ≡ fields_of values
values_told values are = all_told (fields_of values) (all_fit values are)

pub leaf_is : (e : EventRef) → AreValues e.values.now → encoded (event_of e) ≡ event_bytes (event_of e)
unfolding event_bytes
leaf_is e are = rw (values_told e.values.now are) refl

pub has_leaf : (table : ℕ) (id : EventId) (ends : Option EventId) (values : List (Option TypedValue)) → table < 2 ^ 32 → IsPair id → IfSome ends IsPair → AreValues values
    → HasLeaf (event_with table id ends values)
has_leaf table id ends values small pair start are =
    let count = fields_count 1 values in
    let few = few_some values in
    let short = are.0 in
    leaf_again (event_with table id ends values) (record {
      table = small;
      ends = start;
      tx = pair.0;
      seq = pair.1;
      count = omega arith;
      columns = all_fit values are;
      rise = fields_rise 1 0 values (omega arith);
    })
