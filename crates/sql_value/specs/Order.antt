-- The order of all values.
use Rattle.std.specs.Prelude.{ℕ, ℤ, pos, ◌-◌, ◌^◌, ◌<◌, ◌≡◌, ⊤, List, []}
use Rattle.std.specs.declared.cmp.Ordering.{Ordering}
use Rattle.std.specs.Ordering.{nat_cmp, int_cmp, on, then_cmp}
use Rattle.std.specs.Cmp.{IsTotalOrder, then_total, on_total, nat_cmp_total, int_cmp_total}
use Rattle.std.specs.Cmp.Lexicographic.{slice_cmp, nat_list_cmp_total}
use Rattle.sql_value.specs.declared.value.Value.{Value}
use Rattle.sql_value.specs.declared.value.Value.TheVariants.{Null, Num, Text, Bytes, Date}
use Rattle.sql_value.specs.Number.{raised}

-- NULL, then numbers, texts, bytes and days
abbrev pub kind : Value → ℕ
kind Null = 0
kind (Num s v) = 1
kind (Text t) = 2
kind (Bytes b) = 3
kind (Date d) = 4

-- a number in units of 10^-255, the smallest that a value may have; a day as its number
abbrev pub exact : Value → ℤ
exact Null = pos 0
exact (Num s v) = raised v (255 - s)
exact (Text t) = pos 0
exact (Bytes b) = pos 0
exact (Date d) = pos d

-- the bytes of a text, and bytes
abbrev pub bytes : Value → List ℕ
bytes Null = []
bytes (Num s v) = []
bytes (Text t) = t
bytes (Bytes b) = b
bytes (Date d) = []

-- by kind, then by the exact number, then byte by byte, where a prefix is less
unfoldable pub value_cmp : Value → Value → Ordering
value_cmp = then_cmp (on kind nat_cmp) (then_cmp (on exact int_cmp) (on bytes (slice_cmp nat_cmp)))

-- any two values stand in this order, one way or the other
pub value_total : IsTotalOrder value_cmp
unfolding value_cmp
value_total =
    then_total (on_total kind nat_cmp_total)
    (then_total (on_total exact int_cmp_total) (on_total bytes nat_list_cmp_total))

-- two values are one: numbers by what they are worth, whatever their scales
abbrev pub IsSameValue : Value → Value → Type 0
IsSameValue Null Null = ⊤
IsSameValue (Num s v) (Num z w) = raised v z ≡ raised w s
IsSameValue (Text a) (Text b) = a ≡ b
IsSameValue (Bytes a) (Bytes b) = a ≡ b
IsSameValue (Date d) (Date e) = d ≡ e
IsSameValue _ _ = ⊥

-- the scale, if v is a number, is one that a value may have
abbrev pub HasScale : Value → Type 0
HasScale (Num s v) = s < 2 ^ 8
HasScale _ = ⊤
