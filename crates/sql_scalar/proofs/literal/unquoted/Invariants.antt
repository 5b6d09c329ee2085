use denote.Text.{Utf8}
use denote.Shadow.{shadow}
use Rattle.std.proofs.Common.{◌≡◌, false, [], length, string_bytes}
use Rattle.sql_value.specs.Literal.{unquoted_from}
use Rattle.sql_scalar.proofs.literal.unquoted.Given as goal

abbrev pub invariant-loop-piece : goal.invariant-loop-piece
invariant-loop-piece l = shadow (Utf8 l.rest) × (unquoted_from false (string_bytes l.text) l.rest ≡ unquoted_from false [] l.quoted)

abbrev pub decreases-loop-piece : goal.decreases-loop-piece
decreases-loop-piece l = length l.rest
