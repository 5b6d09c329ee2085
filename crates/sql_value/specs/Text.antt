-- How long a text is.
use Rattle.std.specs.Prelude.{ℕ, List, length, sum_by}
use Rattle.std.specs.Char.Escape.{encode_utf16}
use Rattle.std.specs.Str.{chars}

-- the number of UTF-16 units of a text in UTF-8: one or two for each character
unfoldable pub utf16_units : List ℕ → ℕ
utf16_units text = sum_by (λ c. length (encode_utf16 c)) (chars text)
