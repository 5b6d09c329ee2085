-- The code and the text of each status.
use Rattle.std.specs.Prelude.{ℕ, List, [], ◌++◌, codes, Some}
use Rattle.std.specs.Fmt.{decimal}
use Rattle.cli_audit.specs.declared.status.Status.{Status}
use Rattle.cli_audit.specs.declared.status.Status.TheVariants.{Done, No, Words, Limit, SourceFault, SinkFault, VaultFault, Missing, Digests, Journal, Form, NotImage, Memory, NoEntry, Receipt, TooFar, NoDigestHeld}

abbrev pub code_of : Status → ℕ
code_of Done = 0
code_of No = 1
code_of Words = 2
code_of Limit = 3
code_of SourceFault = 4
code_of SinkFault = 5
code_of VaultFault = 6
code_of (Missing which) = 7
code_of (Digests index) = 8
code_of (Journal at) = 9
code_of (Form line) = 10
code_of NotImage = 11
code_of Memory = 12
code_of NoEntry = 14
code_of Receipt = 15
code_of (TooFar entries) = 16
code_of NoDigestHeld = 17

abbrev pub text_of : Status → List ℕ
text_of Done = codes ""
text_of No = codes ""
text_of Words = codes "usage error"
text_of Limit = codes "a limit was exceeded"
text_of SourceFault = codes "reading the input failed"
text_of SinkFault = codes "writing the output failed"
text_of VaultFault = codes "a file can't be read or written"
text_of (Missing which) = codes "no such file"
text_of (Digests index) = codes "bad digests"
text_of (Journal at) = codes "bad journal"
text_of (Form line) = codes "bad input"
text_of NotImage = codes "not an image"
text_of Memory = codes "out of memory"
text_of NoEntry = codes "no such entry"
text_of Receipt = codes "bad receipt"
text_of (TooFar entries) = codes "not so many transactions"
text_of NoDigestHeld = codes "no digest is held"

-- the place that a status has, as it stands behind its text
abbrev pub place_of : Status → List ℕ
place_of (Missing which) = codes " (name " ++ decimal which ++ codes ")"
place_of (Digests (Some index)) = codes " (digest " ++ decimal index ++ codes ")"
place_of (Journal (Some at)) =
    codes " (item " ++ decimal at.0 ++ codes ", statement " ++ decimal at.1 ++ codes ")"
place_of (Form line) = codes " (line " ++ decimal line ++ codes ")"
place_of (TooFar entries) = codes " (entries " ++ decimal entries ++ codes ")"
place_of _ = []

-- what is said of a status: its text, and its place where it has one
abbrev pub message_of : Status → List ℕ
message_of status = text_of status ++ place_of status
