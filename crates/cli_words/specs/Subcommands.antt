-- The words that name a command, and what may stand behind each.
use Rattle.std.specs.Prelude.{List, [], ◌∷◌, codes, Option, Some, None, if◌then◌else◌, bytes_eq}
use Rattle.cli_words.specs.declared.subcommand.Subcommand.{Subcommand}
use Rattle.cli_words.specs.declared.subcommand.Subcommand.TheVariants.{Step, Run, Verify, Extract, Replay, Upgrade, Gen, Receipt, Join, Check, AsOf}
use Rattle.cli_words.specs.Line.{Text}

abbrev pub name_of : Subcommand → Text
name_of Step = codes "step"
name_of Run = codes "run"
name_of Verify = codes "verify"
name_of Extract = codes "extract"
name_of Replay = codes "replay"
name_of Upgrade = codes "upgrade"
name_of Gen = codes "gen"
name_of Receipt = codes "receipt"
name_of Join = codes "join"
name_of Check = codes "check"
name_of AsOf = codes "asof"

-- the names of its operands, in their order
abbrev pub operands_of : Subcommand → List Text
operands_of Step = []
operands_of Run = []
operands_of Verify = codes "IMAGE" ∷ codes "DIGESTS" ∷ []
operands_of Extract = codes "HONEST" ∷ codes "SUSPECT" ∷ codes "DIGESTS" ∷ []
operands_of Replay = codes "JOURNAL" ∷ []
operands_of Upgrade = codes "IMAGE" ∷ []
operands_of Gen = codes "COUNT" ∷ []
operands_of Receipt = codes "IMAGE" ∷ codes "DIGESTS" ∷ codes "TX" ∷ []
operands_of Join = codes "IMAGE" ∷ codes "DIGESTS" ∷ []
operands_of Check = codes "RECEIPT" ∷ codes "DIGESTS" ∷ []
operands_of AsOf = codes "IMAGE" ∷ codes "N" ∷ []

-- the names of its options
abbrev pub options_of : Subcommand → List Text
options_of Step = codes "save" ∷ codes "from" ∷ codes "block-size" ∷ codes "clock" ∷ codes "database" ∷ []
options_of Run = codes "save" ∷ codes "from" ∷ codes "block-size" ∷ codes "clock" ∷ codes "database" ∷ []
options_of Verify = codes "workers" ∷ []
options_of Extract = []
options_of Replay = codes "save" ∷ []
options_of Upgrade = codes "save" ∷ []
options_of Gen = []
options_of Receipt = codes "save" ∷ codes "table" ∷ codes "event" ∷ []
options_of Join = codes "save" ∷ []
options_of Check = []
options_of AsOf = codes "digests" ∷ []

-- the one that the word names
unfoldable pub named : Text → Option Subcommand
named word =
    if bytes_eq word (codes "step") then Some Step
    else if bytes_eq word (codes "run") then Some Run
    else if bytes_eq word (codes "verify") then Some Verify
    else if bytes_eq word (codes "extract") then Some Extract
    else if bytes_eq word (codes "replay") then Some Replay
    else if bytes_eq word (codes "upgrade") then Some Upgrade
    else if bytes_eq word (codes "gen") then Some Gen
    else if bytes_eq word (codes "receipt") then Some Receipt
    else if bytes_eq word (codes "join") then Some Join
    else if bytes_eq word (codes "check") then Some Check
    else if bytes_eq word (codes "asof") then Some AsOf
    else None
