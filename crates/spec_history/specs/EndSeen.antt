-- The line with which a transaction ends, as transcripts have it.
use Rattle.std.specs.Prelude.{Option, Some, None}
use Rattle.sql_types.specs.declared.end_line.EndLine as types
use Rattle.sql_types.specs.declared.end_line.EndLine.TheVariants.{Committed, Ended}
use Rattle.spec_history.specs.Transcripts.{EndLine, committed_at, ended_after}

abbrev pub end_seen : types.EndLine → EndLine
end_seen (Committed id place) = committed_at id place
end_seen (Ended id after) = ended_after id after

abbrev pub line_seen : Option types.EndLine → Option EndLine
line_seen None = None
line_seen (Some end) = Some (end_seen end)
