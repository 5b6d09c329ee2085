-- The names of the files that a command reads.
use Rattle.std.specs.Prelude.{ℕ, ◌==◌, Option, Some, None, if◌then◌else◌}
use Rattle.cli_words.specs.Commands.{Command, Step, Run, Verify, Extract, Replay, Upgrade, Receipt, Join, Check, AsOf}
use Rattle.cli_words.specs.Line.{Text}

-- the one with this number, from 1, in the order of the words
abbrev pub name_read : Command → ℕ → Option Text
name_read (Step save journal how) number = if number == 1 then journal else None
name_read (Run save journal how) number = if number == 1 then journal else None
name_read (Verify image digests workers covers) number =
    if number == 1 then Some image else if number == 2 then digests else None
name_read (Extract honest suspect digests) number =
    if number == 1 then Some honest else if number == 2 then Some suspect
    else if number == 3 then Some digests else None
name_read (Replay journal save) number = if number == 1 then Some journal else None
name_read (Upgrade image save) number = if number == 1 then Some image else None
name_read (Receipt image digests tx part save) number =
    if number == 1 then Some image else if number == 2 then Some digests else None
name_read (Join image digests save) number =
    if number == 1 then Some image else if number == 2 then Some digests else None
name_read (Check receipt digests) number =
    if number == 1 then Some receipt else if number == 2 then Some digests else None
name_read (AsOf image n digests) number =
    if number == 1 then Some image else if number == 2 then digests else None
name_read _ number = None
