-- A text is what is UTF-8.
use Rattle.std.proofs.Common.{◌≡◌, List, ℕ, true}
use Rattle.std.specs.Str.{IsUtf8, is_utf8}
use Rattle.std.proofs.lemmas.Str.{is_utf8-from_IsUtf8}

pub utf8_text : (text : List ℕ) → IsUtf8 text → is_utf8 text ≡ true
utf8_text text utf8 = is_utf8-from_IsUtf8 text utf8
