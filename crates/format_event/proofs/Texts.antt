-- A text is what is UTF-8.
use Rattle.std.proofs.Common.{◌≡◌, List, ℕ, Bool, true, false, Some, None, refl}
use Rattle.std.specs.Str.{IsUtf8, is_utf8}
use Rattle.std.proofs.lemmas.Str.{IsUtf8-from_is_utf8, is_utf8-from_IsUtf8}
use Rattle.sql_value.specs.declared.value.Value.TheVariants.{Text}
use Rattle.format_event.specs.LeafReading.{text_of}

pub text_is : (bytes copy : List ℕ) → IsUtf8 bytes → copy ≡ bytes → text_of bytes ≡ Some (Text copy)
text_is bytes copy utf8 same = rw (is_utf8-from_IsUtf8 bytes utf8, same) refl

none_of : (bytes : List ℕ) (b : Bool) → is_utf8 bytes ≡ b → (IsUtf8 bytes → ⊥) → text_of bytes ≡ None
none_of bytes true is not_utf8 = absurd (not_utf8 (IsUtf8-from_is_utf8 bytes is))
none_of bytes false is not_utf8 = rw is refl

pub no_text : (bytes : List ℕ) → (IsUtf8 bytes → ⊥) → text_of bytes ≡ None
no_text bytes not_utf8 = none_of bytes (is_utf8 bytes) refl not_utf8
