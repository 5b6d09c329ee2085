-- The names of definitions are short texts.
use Rattle.std.proofs.Common.{◌≡◌, ℕ, true, leb, List, [], ◌∷◌, length, arith, IsUtf8}
use Rattle.std.specs.Prelude.{◌&&◌, not}
use Rattle.std.specs.List.{list_all}
use Rattle.std.specs.Str.{IsAscii}
use Rattle.std.proofs.lemmas.Bool.{and_parts, eqb-true}
use Rattle.std.proofs.lemmas.Bool.Decides.{nat_tests}
use Rattle.std.proofs.lemmas.List.{nil_from_length}
use Rattle.std.proofs.lemmas.Str.{IsUtf8-from_ascii, IsUtf8-nil}
use Rattle.std.proofs.lemmas.Str.Ascii.{IsAscii-nil, IsAscii-cons}
use Rattle.sql_value.specs.declared.column.TableKind.{TableKind}
use Rattle.sql_value.specs.declared.column.TableKind.TheVariants.{AppendOnly, Updatable}
use Rattle.spec_model.specs.Create.{is_long}
use Rattle.spec_model.specs.ProperNames.{is_name_byte, is_proper_name, has_its_history}

ascii : (bytes : List ℕ) → list_all is_name_byte bytes ≡ true → IsAscii bytes
ascii [] e = IsAscii-nil
ascii (b ∷ bytes) e =
    let p = and_parts (is_name_byte b) (list_all is_name_byte bytes) e in
    let byte = p.0 in
    IsAscii-cons b bytes (grind (arith, nat_tests)) (ascii bytes p.1)

pub proper_utf8 : (name : List ℕ) → is_proper_name name ≡ true → IsUtf8 name
proper_utf8 name e =
    let p = and_parts (leb 1 (length name) && not (is_long name)) (list_all is_name_byte name) e in
    IsUtf8-from_ascii name (ascii name p.1)

pub history_utf8 : (kind : TableKind) (name : List ℕ) → has_its_history kind name ≡ true → IsUtf8 name
history_utf8 AppendOnly [] e = IsUtf8-nil
history_utf8 AppendOnly (b ∷ bs) e = let none = nil_from_length (b ∷ bs) (eqb-true _ _ e) in absurd (let o : b ∷ bs ≡ [] = none in cc)
history_utf8 Updatable name e = proper_utf8 name e
