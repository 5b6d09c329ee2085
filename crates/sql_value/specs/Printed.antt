-- How values are written.
use Rattle.std.specs.Prelude.{ℕ, ℤ, pos, negsuc, ◌-◌, ◌==◌, nat_lt, nat_le, if◌then◌else◌, unsigned_abs, List, [], ◌∷◌, ◌++◌, length, take, drop, replicate, codes}
use Rattle.std.specs.List.{flat_map}
use Rattle.std.specs.Fmt.{decimal}
use Rattle.hex.specs.Hex.{encode_upper}
use Rattle.sql_value.specs.declared.value.Value.{Value}
use Rattle.sql_value.specs.declared.value.Value.TheVariants.{Null, Num, Text, Bytes, Date}
use Rattle.sql_value.specs.Day.{date_of, date_text, last_day}

-- ---- numbers

abbrev pub sign : ℤ → List ℕ
sign (pos n) = []
sign (negsuc n) = 45 ∷ []

abbrev pub behind_point : List ℕ → List ℕ
behind_point [] = []
behind_point (d ∷ ds) = 46 ∷ d ∷ ds

-- digits with a point before the last s of them; where there are no more than s, zeros fill up what stands
-- behind the
-- point, and `zero` stands before it
unfoldable pub pointed : List ℕ → List ℕ → ℕ → List ℕ
pointed zero ds s =
    if nat_lt s (length ds) then take (length ds - s) ds ++ behind_point (drop (length ds - s) ds)
    else zero ++ 46 ∷ (replicate (s - length ds) 48 ++ ds)

abbrev pub number_text : List ℕ → ℤ → ℕ → List ℕ
number_text zero v s = sign v ++ pointed zero (decimal (unsigned_abs v)) s

-- ---- texts, bytes and days

-- each quote twice
abbrev pub doubled : List ℕ → List ℕ
doubled text = flat_map (λ c. if c == 39 then 39 ∷ 39 ∷ [] else c ∷ []) text

abbrev pub quoted : List ℕ → List ℕ
quoted text = 39 ∷ text ++ 39 ∷ []

-- the date of a day; a day that is none of a column, as its number
unfoldable pub day_text : ℕ → List ℕ
day_text d = if nat_le d last_day then date_text (date_of d) else decimal d

abbrev pub printed_with : List ℕ → Value → List ℕ
printed_with zero Null = codes "NULL"
printed_with zero (Num s v) = number_text zero v s
printed_with zero (Text x) = 78 ∷ quoted (doubled x)
printed_with zero (Bytes b) = 48 ∷ 120 ∷ encode_upper b
printed_with zero (Date d) = quoted (day_text d)

-- a value as replies show it
unfoldable pub printed : Value → List ℕ
printed v = printed_with (48 ∷ []) v

-- the digit before a point that has no other before it: a literal with 38 digits behind its point has none,
-- since a
-- literal has no more than 38
abbrev pub leading_zero : Value → List ℕ
leading_zero (Num s v) = if s == 38 then [] else 48 ∷ []
leading_zero _ = 48 ∷ []

-- a value as statements write it
unfoldable pub literal_text : Value → List ℕ
literal_text v = printed_with (leading_zero v) v
