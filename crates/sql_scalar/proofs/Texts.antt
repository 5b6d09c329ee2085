-- Texts and their characters.
use Rattle.std.proofs.Common.{ℕ, ◌≤◌, List, length, ap, arith, IsUtf8}
use Rattle.std.proofs.lemmas.Str.{encodes-chars, length-le-encodes}
use Rattle.std.specs.Str.{chars}

-- a text has no more characters than bytes
pub chars_few : (text : List ℕ) → IsUtf8 text → length (chars text) ≤ length text
chars_few text u = let same = ap length (encodes-chars text u) in omega (arith, same, length-le-encodes (chars text))
