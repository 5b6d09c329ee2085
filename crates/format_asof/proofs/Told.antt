-- What lines tell.
use Rattle.std.proofs.Common.{◌≡◌, ◌+◌, ◌∙◌, ℕ, Bool, true, false, List, ◌∷◌, ◌++◌, refl, ap, sym, append_assoc, IsUtf8, Ok, Err, if◌then◌else◌}
use Rattle.std.specs.Str.{is_utf8}
use Rattle.std.proofs.lemmas.Str.{IsUtf8-from_is_utf8, is_utf8-from_IsUtf8}
use Rattle.format_lines.specs.Line.{before_blanks, behind_blanks}
use Rattle.format_asof.specs.Texts.{Texts, told, tells, followed, told_from}

told_if : (number : ℕ) (meant : Texts) (t : Bool) → (t ≡ true → ⊥) → (if t then meant else Err number) ≡ Err number
told_if number meant true bad = absurd (bad refl)
told_if number meant false bad = refl

pub bad_line : (number : ℕ) (line : List ℕ) → (IsUtf8 line → ⊥) → tells number line ≡ Err number
unfolding tells
bad_line number line bad = told_if number _ (is_utf8 line) (λ e. bad (IsUtf8-from_is_utf8 line e))

pub good_line : (number : ℕ) (line : List ℕ) → IsUtf8 line → tells number line ≡ Ok (told (before_blanks (behind_blanks line)))
unfolding tells
good_line number line utf8 = rw (is_utf8-from_IsUtf8 line utf8) refl

followed_assoc : (a b : List (List ℕ)) (c : Texts) → followed (Ok a) (followed (Ok b) c) ≡ followed (Ok (a ++ b)) c
followed_assoc a b (Ok c) = ap Ok (sym (append_assoc a b c))
followed_assoc a b (Err n) = refl

-- a line behind some is read with them
pub line_read : (front found : List (List ℕ)) (number : ℕ) (line : List ℕ) (more : List (List ℕ)) → tells number line ≡ Ok found
    → followed (Ok front) (told_from number (line ∷ more)) ≡ followed (Ok (front ++ found)) (told_from (number + 1) more)
line_read front found number line more e =
    ap (λ s. followed (Ok front) (followed s (told_from (number + 1) more))) e ∙ followed_assoc front found (told_from (number + 1) more)
