-- In transcripts that keep the order of some lines, the statements of each session are those of its lines.
use Rattle.std.proofs.Common.{◌≡◌, ◌≢◌, ℕ, zero, suc, Bool, true, false, List, [], ◌∷◌, map, refl, sym, ap, ap₂, subst, ◌∙◌}
use Rattle.std.specs.Prelude.{◌==◌, if◌then◌else◌}
use Rattle.std.specs.Str.{bytes_eq}
use Rattle.std.proofs.lemmas.Bool.{eqb-true, eq-eqb}
use Rattle.std.proofs.lemmas.Slice.Eq.{bytes_eq-Decides}
use Rattle.spec_history.specs.Agree.{AreStatements}
use Rattle.spec_history.specs.Inputs.{InputLine, InputSession, texts_of_session, sessions_in}
use Rattle.spec_history.specs.Lists.{Text, Each, At}
use Rattle.spec_history.specs.StepOrder.{Row, entries_of, IsStatementOf, IsEnd, EndsOne, RowsInOrder}
use Rattle.spec_history.specs.Transcripts.{Entry, statement, end_of_session, Transcript, statements}

-- of two of these transcripts, the names of their sessions differ
abbrev Differ : List Transcript → Type 0
Differ X = (i j : ℕ) (x y : Transcript) → At X i x → At X j y → i ≢ j → x.session ≢ y.session

at_same : (X : List Transcript) (i : ℕ) (x y : Transcript) → At X i x → At X i y → x ≡ y
at_same [] i x y a b = absurd a
at_same (z ∷ X) zero x y a b = sym a ∙ b
at_same (z ∷ X) (suc i) x y a b = at_same X i x y a b

not_true : (b : Bool) → (b ≡ true → ⊥) → b ≡ false
not_true true h = absurd (h refl)
not_true false h = refl

-- ---- entries (end) have no statement

end_adds : (b : Bool) (e : Entry) (es : List Entry) → IsEnd e → statements es ≡ [] → statements (if b then e ∷ es else es) ≡ []
end_adds true (statement text reply end) es h k = absurd h
end_adds true (end_of_session end) es h k = k
end_adds false e es h k = k

ends_only : (X : List Transcript) (i : ℕ) (rows : List Row) → Each (EndsOne X) rows → statements (entries_of i rows) ≡ []
ends_only X i [] h = refl
ends_only X i (row ∷ rows) h = end_adds (row.0 == i) row.1 (entries_of i rows) h.0.end (ends_only X i rows h.1)

-- ---- a line and its entry

line_adds : (b : Bool) (line : InputLine) (name : Text) (e : Entry) (es : List Entry) (lines : List InputLine) → bytes_eq line.session name ≡ b → IsStatementOf line.text e → statements es ≡ texts_of_session name lines
    → statements (if b then e ∷ es else es) ≡ texts_of_session name (line ∷ lines)
line_adds true line name (statement text reply end) es lines same is k = rw same (ap₂ (λ (t : Text) (ts : List Text). t ∷ ts) is k)
line_adds true line name (end_of_session end) es lines same is k = absurd is
line_adds false line name e es lines same is k = rw same k

pub rows_texts : (X : List Transcript) (lines : List InputLine) (rows : List Row) → Differ X → RowsInOrder X lines rows → (i : ℕ) (x : Transcript) → At X i x → statements (entries_of i rows) ≡ texts_of_session x.session lines
rows_texts X [] rows differ h i x a = ends_only X i rows h
rows_texts X (line ∷ lines) [] differ h i x a = absurd h
rows_texts X (line ∷ lines) (row ∷ rows) differ h i x a = line_adds (row.0 == i) line x.session row.1 (entries_of i rows) lines (same_session (row.0 == i) refl) h.0.statement (rows_texts X lines rows differ h.1 i x a)
  where
    same_session : (b : Bool) → (row.0 == i) ≡ b → bytes_eq line.session x.session ≡ b
    same_session true e = (bytes_eq-Decides line.session x.session).1 (sym h.0.session ∙ ap (λ (t : Transcript). t.session) (at_same X i h.0.transcript x (subst (λ (n : ℕ). At X n h.0.transcript) (eqb-true row.0 i e) h.0.there) a))
    same_session false e = not_true (bytes_eq line.session x.session) (λ f. differ row.0 i h.0.transcript x h.0.there a
        (λ same. let is : (row.0 == i) ≡ true = eq-eqb row.0 i same in cc) (h.0.session ∙ (bytes_eq-Decides line.session x.session).0 f))

-- ---- so the input is that of the lines

abbrev session_of : Text → List Text → InputSession
session_of name texts = record { name = name; texts = texts }

pub input_is : (lines : List InputLine) (input : List InputSession) (X : List Transcript) → AreStatements input X → ((i : ℕ) (x : Transcript) → At X i x → statements x.entries ≡ texts_of_session x.session lines)
    → input ≡ sessions_in lines (map (λ x. x.session) X)
input_is lines [] [] h texts = refl
input_is lines [] (x ∷ X) h texts = absurd h
input_is lines (s ∷ input) [] h texts = absurd h
input_is lines (s ∷ input) (x ∷ X) h texts = ap₂ (λ (z : InputSession) (zs : List InputSession). z ∷ zs)
    (ap₂ session_of (sym h.0.named) (sym h.0.are ∙ texts 0 x refl))
    (input_is lines input X h.1 (λ i y a. texts (suc i) y a))
