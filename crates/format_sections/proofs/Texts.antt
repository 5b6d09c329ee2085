-- What lines are.
use Rattle.std.proofs.Common.{◌≡◌, ◌∙◌, Bool, true, false, ◌&&◌, ℕ, List, length, drop, Option, Some, None, refl, ap, sym, IsUtf8, if◌then◌else◌}
use Rattle.std.specs.Str.{is_utf8}
use Rattle.std.specs.Str.Pattern.{FindsTextPrefix, StripsPrefix}
use Rattle.std.proofs.lemmas.Bool.Decides.{Decides-eqb}
use Rattle.std.proofs.lemmas.Slice.Eq.{starts_is}
use Rattle.std.proofs.lemmas.Str.Pattern.{starts_text}
use Rattle.std.proofs.lemmas.Str.{IsUtf8-from_is_utf8, is_utf8-from_IsUtf8}
use Rattle.format_lines.specs.Line.{before_blanks, behind_blanks}
use Rattle.format_sections.specs.Kind.{Kind, NoText, begins_with, is_apart, kind_of, kind_of_text}

bad_if : (meant : Kind) (t : Bool) → (t ≡ true → ⊥) → (if t then meant else NoText) ≡ NoText
bad_if meant true bad = absurd (bad refl)
bad_if meant false bad = refl

pub bad_line : (line : List ℕ) → (IsUtf8 line → ⊥) → kind_of line ≡ NoText
unfolding kind_of
bad_line line bad = bad_if _ (is_utf8 line) (λ e. bad (IsUtf8-from_is_utf8 line e))

pub good_line : (line : List ℕ) → IsUtf8 line → kind_of line ≡ kind_of_text (before_blanks (behind_blanks line))
unfolding kind_of
good_line line utf8 = rw (is_utf8-from_IsUtf8 line utf8) refl

-- where a line doesn't begin with a head, and where it does
pub no_head : (head line : List ℕ) → FindsTextPrefix head line None → begins_with head line ≡ false
no_head head line none = ap (λ t. t && is_apart (drop (length head) line)) (sym (starts_text false head line none))

pub head_there : (head line rest : List ℕ) → StripsPrefix (FindsTextPrefix head) line rest → (begins_with head line ≡ is_apart rest) × (rest ≡ drop (length head) line)
head_there head line rest p =
    let same : rest ≡ drop (length head) line = p.2 ∙ ap (λ n. drop n line) p.1.0 in
    (ap (λ t. t && is_apart (drop (length head) line)) ((starts_is Decides-eqb line head _ refl).1 _ p.1.1) ∙ ap is_apart (sym same), same)
