-- How many bytes the statements have that are run of some sections.
use Rattle.std.proofs.Common.{◌≡◌, ◌∙◌, ℕ, ◌+◌, ◌≤◌, ◌&&◌, Bool, true, false, cond, nat_eq, List, [], ◌∷◌, drop, map, length, length-append, Option, Some, None, Ok, refl, sym, ap, arith}
use Rattle.std.specs.Prelude.{codes}
use Rattle.std.specs.List.{flat_map, starts_with}
use Rattle.std.specs.Str.{bytes_eq, is_utf8}
use Rattle.std.proofs.lemmas.Bool.Decides.{Decides-eqb}
use Rattle.std.proofs.lemmas.Slice.Eq.{starts_is}
use Rattle.spec_history.specs.Lists.{Text}
use Rattle.format_lines.specs.Line.{before_blanks, behind_blanks, is_skipped}
use Rattle.format_lines.specs.Lines.{lines_of}
use Rattle.format_sections.specs.declared.kind.SectionKind.{SectionKind}
use Rattle.format_sections.specs.declared.kind.SectionKind.TheVariants.{Session, Snapshot}
use Rattle.format_sections.specs.Form.{first_lacking}
use Rattle.format_sections.specs.Kind.{Kind, Skipped, SetupLine, SectionLine, Statement, NoText, begins_with, is_apart, kind_of, kind_of_others, kind_of_text, kinds_of}
use Rattle.format_sections.specs.RunSections.{RunSections, Section, read_run_sections, run_as, run_sections_of, sessions_of, statements_of_sections, texts_of, unless_lacking}
use Rattle.law_digests.specs.Issued.{input_bytes, line_bytes, session_of, sessions_of_sections}
use Rattle.law_digests.proofs.Lines.{before_bytes, behind_bytes, line_bytes_both, lines_bytes}

-- ---- lines

-- so many bytes has what is run of a line: a statement, or of the line of a snapshot the one that keeps the image
abbrev snapshot_bytes : SectionKind → ℕ
snapshot_bytes Session = 0
snapshot_bytes Snapshot = 11

abbrev kind_bytes : Kind → ℕ
kind_bytes (Statement text) = length text + 1
kind_bytes (SectionLine kind name) = snapshot_bytes kind
kind_bytes _ = 0

abbrev kinds_bytes : List Kind → ℕ
kinds_bytes [] = 0
kinds_bytes (line ∷ lines) = kind_bytes line + kinds_bytes lines

short_if : (n : ℕ) (t : Bool) (a b : Kind) → (t ≡ true → kind_bytes a ≤ n) → kind_bytes b ≤ n → kind_bytes (cond t a b) ≤ n
short_if n true a b f g = f refl
short_if n false a b f g = g

both_left : (a b : Bool) → (a && b) ≡ true → a ≡ true
both_left true b e = refl
both_left false b e = e

-- a line that begins with a head has as many bytes at least
begins_long : (head line : List ℕ) → begins_with head line ≡ true → length head ≤ length line
begins_long head line e =
    let whole = (starts_is Decides-eqb line head _ refl).0 (both_left (starts_with nat_eq line head) (is_apart (drop (length head) line)) e) in
    let long = ap length whole ∙ length-append head (drop (length head) line) in
    omega (arith, long)

snapshot_long : (line : List ℕ) → begins_with (codes "-- snapshot") line ≡ true → 11 ≤ length line + 1
snapshot_long line e =
    let eleven : length (codes "-- snapshot") ≡ 11 = refl in
    let long = begins_long (codes "-- snapshot") line e in
    omega (arith, eleven, long)

others_short : (line : List ℕ) → kind_bytes (kind_of_others line) ≤ length line + 1
others_short line =
    short_if (length line + 1) (begins_with (codes "-- session") line) _ _ (λ e. omega arith)
    (short_if (length line + 1) (begins_with (codes "-- snapshot") line) _ _ (snapshot_long line)
    (short_if (length line + 1) (is_skipped line) Skipped (Statement line) (λ e. omega arith) (omega arith)))

text_short : (line : List ℕ) → kind_bytes (kind_of_text line) ≤ length line + 1
text_short line = short_if (length line + 1) (bytes_eq line (codes "-- setup")) SetupLine (kind_of_others line) (λ e. omega arith) (others_short line)

line_short : (line : List ℕ) → kind_bytes (kind_of line) ≤ length line + 1
unfolding kind_of
line_short line =
    let inner = before_blanks (behind_blanks line) in
    let before = before_bytes (behind_blanks line) in
    let behind = behind_bytes line in
    let short = text_short inner in
    short_if (length line + 1) (is_utf8 line) (kind_of_text inner) NoText (λ e. omega (arith, before, behind, short)) (omega arith)

kinds_short : (lines : List (List ℕ)) → kinds_bytes (map kind_of lines) ≤ line_bytes lines
kinds_short [] = omega arith
kinds_short (line ∷ lines) =
    let one = line_short line in
    let rest = kinds_short lines in
    omega (arith, one, rest)

-- ---- sections

-- so many bytes have the statements that snapshots run
abbrev snapshots_bytes : List Section → ℕ
snapshots_bytes [] = 0
snapshots_bytes (s ∷ sessions) = snapshot_bytes s.kind + snapshots_bytes sessions

lines_are : (lines : List Kind) → line_bytes (texts_of lines) + snapshots_bytes (sessions_of lines) ≡ kinds_bytes lines
lines_are [] = refl
lines_are (Skipped ∷ lines) = let rest = lines_are lines in omega (arith, rest)
lines_are (SetupLine ∷ lines) = let rest = lines_are lines in omega (arith, rest)
lines_are (SectionLine kind name ∷ lines) = let rest = lines_are lines in omega (arith, rest)
lines_are (Statement text ∷ lines) = let rest = lines_are lines in omega (arith, rest)
lines_are (NoText ∷ lines) = let rest = lines_are lines in omega (arith, rest)

run_bytes : (kind : SectionKind) (statements : List Text) → line_bytes (run_as kind statements) ≤ line_bytes statements + snapshot_bytes kind
run_bytes Session statements = omega arith
run_bytes Snapshot statements =
    let eleven : line_bytes (codes "SAVE IMAGE" ∷ []) ≡ 11 = refl in
    omega (arith, eleven)

sessions_bytes : (sessions : List Section) → input_bytes (map session_of sessions) ≤ line_bytes (flat_map (λ s. s.statements) sessions) + snapshots_bytes sessions
sessions_bytes [] = omega arith
sessions_bytes (s ∷ sessions) =
    let one = run_bytes s.kind s.statements in
    let rest = sessions_bytes sessions in
    omega (arith, one, rest, line_bytes_both s.statements (flat_map (λ s. s.statements) sessions))

all_bytes : (all_sections : RunSections) → input_bytes (sessions_of_sections all_sections) ≤ line_bytes (statements_of_sections all_sections) + snapshots_bytes all_sections.sessions
all_bytes all_sections =
    let sessions = sessions_bytes all_sections.sessions in
    omega (arith, sessions, line_bytes_both all_sections.setup (flat_map (λ s. s.statements) all_sections.sessions))

-- none lacks its form, and these are the sections
is_read : (lacking : Option ℕ) (meant all_sections : RunSections) → unless_lacking lacking meant ≡ Ok all_sections → (lacking ≡ None) × (meant ≡ all_sections)
is_read None meant all_sections is = (refl, cc)
is_read (Some line) meant all_sections is = absurd (cc)

pub input_within : ((lines : List Kind) → first_lacking [] lines ≡ None → statements_of_sections (run_sections_of lines) ≡ texts_of lines)
    → (bytes : List ℕ) (all_sections : RunSections) → read_run_sections bytes ≡ Ok all_sections → input_bytes (sessions_of_sections all_sections) ≤ length bytes + 1
unfolding read_run_sections
input_within law bytes all_sections is =
    let kinds = kinds_of bytes in
    let read = is_read (first_lacking [] kinds) (run_sections_of kinds) all_sections is in
    let same : line_bytes (statements_of_sections all_sections) ≡ line_bytes (texts_of kinds) =
    ap (λ (s : RunSections). line_bytes (statements_of_sections s)) (sym read.1) ∙ ap line_bytes (law kinds read.0) in
    let snapshots : snapshots_bytes all_sections.sessions ≡ snapshots_bytes (sessions_of kinds) = ap (λ (s : RunSections). snapshots_bytes s.sessions) (sym read.1) in
    omega (arith, same, snapshots, lines_are kinds, all_bytes all_sections, kinds_short (lines_of bytes), lines_bytes bytes)
