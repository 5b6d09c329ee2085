-- The text of a transcript.
use Rattle.std.specs.Prelude.{ℕ, List, [], ◌∷◌, ◌++◌, codes, flat_map, Option, Some, None}
use Rattle.std.specs.Fmt.{decimal}
use Rattle.spec_history.specs.Transcripts.{EndLine, committed_at, ended_after, Entry, statement, end_of_session, Transcript}
use Rattle.format_reply.specs.Shown.{indented, shown_lines}

abbrev pub end_line : EndLine → List ℕ
end_line (committed_at id place) = codes "committed " ++ decimal id ++ codes " at " ++ decimal place
end_line (ended_after id n) = codes "ended " ++ decimal id ++ codes " after " ++ decimal n

abbrev pub end_lines : Option EndLine → List (List ℕ)
end_lines None = []
end_lines (Some end) = end_line end ∷ []

-- the session and its statement, then the lines of the reply as they are shown, then the end line, if there is one
abbrev pub entry_text : List ℕ → Entry → List ℕ
entry_text session (statement text reply end) =
    (session ++ codes ": " ++ text ++ 10 ∷ []) ++ flat_map indented (shown_lines reply ++ end_lines end)
entry_text session (end_of_session end) = (session ++ codes ": (end)" ++ 10 ∷ []) ++ indented (end_line end)

unfoldable pub transcript_text : Transcript → List ℕ
transcript_text x = flat_map (entry_text x.session) x.entries

-- the end line, if there is one
abbrev pub end_text : Option EndLine → List ℕ
end_text end = flat_map indented (end_lines end)
