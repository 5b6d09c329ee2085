-- A text is what is UTF-8.
use Rattle.std.proofs.Common.{◌≡◌, List, ℕ, Bool, true, false, Some, None, refl}
use Rattle.std.specs.Str.{IsUtf8, is_utf8}
use Rattle.std.proofs.lemmas.Str.{IsUtf8-from_is_utf8, is_utf8-from_IsUtf8}
use Rattle.base_fields.specs.Readers.{wide_at}
use Rattle.format_journal.specs.JournalReading.{text_at}

pub text_is : (bytes text copy rest : List ℕ) → wide_at bytes ≡ Some (text, rest) → IsUtf8 text → copy ≡ text
    → text_at bytes ≡ Some (copy, rest)
unfolding text_at
text_is bytes text copy rest read utf8 same = rw (read, is_utf8-from_IsUtf8 text utf8, same) refl

none_of : (bytes text rest : List ℕ) (b : Bool) → is_utf8 text ≡ b → wide_at bytes ≡ Some (text, rest)
    → (IsUtf8 text → ⊥) → text_at bytes ≡ None
unfolding text_at
none_of bytes text rest true is read not_utf8 = absurd (not_utf8 (IsUtf8-from_is_utf8 text is))
none_of bytes text rest false is read not_utf8 = rw (read, is) refl

pub no_text : (bytes text rest : List ℕ) → wide_at bytes ≡ Some (text, rest) → (IsUtf8 text → ⊥)
    → text_at bytes ≡ None
no_text bytes text rest read not_utf8 = none_of bytes text rest (is_utf8 text) refl read not_utf8

pub utf8_text : (text : List ℕ) → IsUtf8 text → is_utf8 text ≡ true
utf8_text text utf8 = is_utf8-from_IsUtf8 text utf8
