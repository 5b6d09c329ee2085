-- The values of a version's row in the base part, by their places.
use Rattle.std.proofs.Common.{◌≡◌, ◌≤◌, ◌<◌, ◌-◌, ℕ, suc, zero, refl, sym, ap, ◌∙◌, arith, List, [], ◌∷◌, ◌++◌, map, length, max, Option, Some, None, slice_get}
use Rattle.sql_value.specs.declared.column.ColumnDef.{ColumnDef}
use Rattle.sql_value.specs.declared.value.Value.TheVariants.{Null}
use Rattle.sql_types.specs.declared.version.TypedValue.{TypedValue}
use Rattle.sql_types.specs.declared.version.Version.{Version}
use Rattle.spec_model.specs.Parts.{base_row}
use Rattle.spec_model.specs.Rows.{Row, filled, number, row_of, value_or_null}

abbrev Stored : Type 0
Stored = List (Option TypedValue)

-- ---- the values

in_front : (xs : Stored) (ys : Row) (n : ℕ) (x : Option TypedValue) → slice_get xs n ≡ Some x → slice_get (map value_or_null xs ++ ys) n ≡ Some (value_or_null x)
in_front [] ys n x h = cc
in_front (y ∷ xs) ys zero x h = (let same : y ≡ x = cc in rw same refl)
in_front (y ∷ xs) ys (suc n) x h = in_front xs ys n x h

in_filled : (cs : List ColumnDef) (xs : Stored) (ys : Row) (n : ℕ) (x : Option TypedValue) → slice_get xs n ≡ Some x → slice_get (filled cs (map value_or_null xs) ++ ys) n ≡ Some (value_or_null x)
in_filled [] xs ys n x h = in_front xs ys n x h
in_filled (c ∷ cs) [] ys n x h = cc
in_filled (c ∷ cs) (y ∷ xs) ys zero x h = (let same : y ≡ x = cc in rw same refl)
in_filled (c ∷ cs) (y ∷ xs) ys (suc n) x h = in_filled cs xs ys n x h

pub stored_in : (declared : List ColumnDef) (v : Version) (place : ℕ) (stored : Option TypedValue) → slice_get v.values place ≡ Some stored → slice_get (base_row declared v) place ≡ Some (value_or_null stored)
stored_in declared v place stored h = in_filled declared v.values (number v.start.0 ∷ number v.start.1 ∷ []) place stored h

-- ---- NULL behind them

missing : (cs : List ColumnDef) (xs : Stored) (ys : Row) (n : ℕ) → slice_get xs n ≡ None → n < length cs → slice_get (filled cs (map value_or_null xs) ++ ys) n ≡ Some Null
missing [] xs ys n h lt = absurd (omega (arith, lt))
missing (c ∷ cs) [] ys zero h lt = refl
missing (c ∷ cs) [] ys (suc n) h lt = missing cs [] ys n refl (omega (arith, lt))
missing (c ∷ cs) (x ∷ xs) ys zero h lt = cc
missing (c ∷ cs) (x ∷ xs) ys (suc n) h lt = missing cs xs ys n h (omega (arith, lt))

pub null_in : (declared : List ColumnDef) (v : Version) (place : ℕ) → slice_get v.values place ≡ None → place < length declared → slice_get (base_row declared v) place ≡ Some Null
null_in declared v place h lt = missing declared v.values (number v.start.0 ∷ number v.start.1 ∷ []) place h lt

-- ---- the start

few : (xs : Stored) (n : ℕ) → slice_get xs n ≡ None → length (map value_or_null xs) ≤ n
few [] n h = omega arith
few (x ∷ xs) zero h = cc
few (x ∷ xs) (suc n) h = (let le = few xs n h in omega (arith, le))

few_filled : (cs : List ColumnDef) (xs : Stored) (n : ℕ) → slice_get xs n ≡ None → length cs ≤ n → length (filled cs (map value_or_null xs)) ≤ n
few_filled [] xs n h le = few xs n h
few_filled (c ∷ cs) [] zero h le = absurd (omega (arith, le))
few_filled (c ∷ cs) [] (suc n) h le = (let more = few_filled cs [] n refl (omega (arith, le)) in omega (arith, more))
few_filled (c ∷ cs) (x ∷ xs) zero h le = cc
few_filled (c ∷ cs) (x ∷ xs) (suc n) h le = (let more = few_filled cs xs n h (omega (arith, le)) in omega (arith, more))

behind : (row ys : Row) (n : ℕ) → length row ≤ n → slice_get (row ++ ys) n ≡ slice_get ys (n - length row)
behind [] ys n le = ap (slice_get ys) (let e : n ≡ n - 0 = omega arith in e)
behind (v ∷ vs) ys zero le = absurd (omega (arith, le))
behind (v ∷ vs) ys (suc n) le = behind vs ys n (omega (arith, le)) ∙ ap (slice_get ys) (let e : n - length vs ≡ suc n - suc (length vs) = omega arith in e)

pub start_in : (declared : List ColumnDef) (v : Version) (place : ℕ) → slice_get v.values place ≡ None → length declared ≤ place
    → slice_get (base_row declared v) place ≡ slice_get (number v.start.0 ∷ number v.start.1 ∷ []) (place - length (row_of declared v))
start_in declared v place h le = behind (row_of declared v) (number v.start.0 ∷ number v.start.1 ∷ []) place (few_filled declared v.values place h le)

-- ---- how many values the row has

filled_long : (cs : List ColumnDef) (xs : Stored) → length (filled cs (map value_or_null xs)) ≡ max (length xs) (length cs)
filled_long [] [] = refl
filled_long [] (x ∷ xs) = (let e = filled_long [] xs in omega (arith, e))
filled_long (c ∷ cs) [] = (let e = filled_long cs [] in omega (arith, e))
filled_long (c ∷ cs) (x ∷ xs) = (let e = filled_long cs xs in omega (arith, e))

pub width : (declared : List ColumnDef) (v : Version) → max (length v.values) (length declared) ≡ length (row_of declared v)
width declared v = sym (filled_long declared v.values)
