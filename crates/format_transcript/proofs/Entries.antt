-- Entries, put together of their parts.
use Rattle.std.proofs.Common.{◌≡◌, ◌∙◌, refl, sym, ap, ℕ, List, [], ◌∷◌, ◌++◌, flat_map, append_assoc, append-nil, Option, None}
use Rattle.std.specs.Prelude.{codes}
use Rattle.sql_types.specs.declared.reply.Reply.{Reply}
use Rattle.spec_history.specs.Transcripts.{EndLine, statement, end_of_session}
use Rattle.format_reply.specs.Shown.{indented, shown_lines}
use Rattle.format_transcript.specs.TranscriptText.{end_line, end_lines, entry_text, end_text}

flat_more : (f : List ℕ → List ℕ) (xs ys : List (List ℕ)) → flat_map f (xs ++ ys) ≡ flat_map f xs ++ flat_map f ys
flat_more f [] ys = refl
flat_more f (x ∷ xs) ys = ap (λ (zs : List ℕ). f x ++ zs) (flat_more f xs ys) ∙ sym (append_assoc (f x) (flat_map f xs) (flat_map f ys))

-- an entry with its end line
pub with_end : (old session text : List ℕ) (r : Reply) (end : Option EndLine) (mid last : List ℕ) → mid ≡ old ++ entry_text session (statement text r None) → last ≡ mid ++ end_text end
    → last ≡ old ++ entry_text session (statement text r end)
with_end old session text r end mid last a b =
    b ∙ ap (λ (z : List ℕ). z ++ end_text end) a ∙ append_assoc old (entry_text session (statement text r None)) (end_text end)
    ∙ ap (λ (z : List ℕ). old ++ z) (append_assoc head (flat_map indented (shown_lines r ++ [])) (end_text end)
    ∙ ap (λ (z : List ℕ). head ++ z) (ap (λ (ls : List (List ℕ)). flat_map indented ls ++ end_text end) (append-nil (shown_lines r)) ∙ sym (flat_more indented (shown_lines r) (end_lines end))))
  where
    head : List ℕ
    head = session ++ codes ": " ++ text ++ 10 ∷ []

-- the entry of a session's end
pub at_end : (old session mid last : List ℕ) (end : EndLine) → mid ≡ old ++ (session ++ codes ": (end)" ++ 10 ∷ []) → last ≡ mid ++ indented (end_line end)
    → last ≡ old ++ entry_text session (end_of_session end)
at_end old session mid last end a b = b ∙ ap (λ (z : List ℕ). z ++ indented (end_line end)) a ∙ append_assoc old (session ++ codes ": (end)" ++ 10 ∷ []) (indented (end_line end))
