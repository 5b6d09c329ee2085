-- What is so of the command that words say.
use Rattle.std.specs.Prelude.{ℕ, Bool, true, false, List, Option, Some, None}
use Rattle.cli_words.specs.Commands.{Command, Settings, Step, Run, Verify, Extract, Replay, Upgrade, Gen, Receipt, Join, Check, AsOf, Help, Version}
use Rattle.cli_words.specs.Help.{help_of, version_line}
use Rattle.cli_words.specs.declared.part.Part.{Part}
use Rattle.cli_words.specs.declared.part.Part.TheVariants as shown
use Rattle.cli_audit.specs.Wanted.{Wanted}
use Rattle.cli_audit.specs.Wanted.TheVariants as wanted

-- what is so of the name that `step` is given, and of its settings, where it goes on from no journal
abbrev pub OfStep : Option Command → (List ℕ → Settings → Type 0) → Type 0
OfStep (Some (Step save None how)) P = P save how
OfStep words P = Unit {0}

-- what is so of the name that `run` is given, and of its settings, where it goes on from no journal
abbrev pub OfRun : Option Command → (List ℕ → Settings → Type 0) → Type 0
OfRun (Some (Run save None how)) P = P save how
OfRun words P = Unit {0}

-- what is so of the name that `step` is given, of that of the journal from which it goes on, and of its settings
abbrev pub OfStepFrom : Option Command → (List ℕ → List ℕ → Settings → Type 0) → Type 0
OfStepFrom (Some (Step save (Some journal) how)) P = P save journal how
OfStepFrom words P = Unit {0}

-- what is so of the name that `run` is given, of that of the journal from which it goes on, and of its settings
abbrev pub OfRunFrom : Option Command → (List ℕ → List ℕ → Settings → Type 0) → Type 0
OfRunFrom (Some (Run save (Some journal) how)) P = P save journal how
OfRunFrom words P = Unit {0}

-- what is so of the names that `verify` is given, that of digests where it is, and of whether it is said what they cover;
-- the number of workers changes nothing that it says
abbrev pub OfVerify : Option Command → (List ℕ → Option (List ℕ) → Bool → Type 0) → Type 0
OfVerify (Some (Verify image digests workers covers)) P = P image digests covers
OfVerify words P = Unit {0}

-- what is so of the names that `replay` is given
abbrev pub OfReplay : Option Command → (List ℕ → List ℕ → Type 0) → Type 0
OfReplay (Some (Replay journal save)) P = P journal save
OfReplay words P = Unit {0}

-- what is so of the names that `upgrade` is given
abbrev pub OfUpgrade : Option Command → (List ℕ → List ℕ → Type 0) → Type 0
OfUpgrade (Some (Upgrade image save)) P = P image save
OfUpgrade words P = Unit {0}

-- what is so of the names that `extract` is given
abbrev pub OfExtract : Option Command → (List ℕ → List ℕ → List ℕ → Type 0) → Type 0
OfExtract (Some (Extract honest suspect digests)) P = P honest suspect digests
OfExtract words P = Unit {0}

-- what is so of the count that `gen` is given
abbrev pub OfGen : Option Command → (ℕ → Type 0) → Type 0
OfGen (Some (Gen count)) P = P count
OfGen words P = Unit {0}

-- what a receipt of a part of a transaction is wanted of
abbrev pub wanted_of : ℕ → Part → Wanted
wanted_of tx shown.Entry = wanted.Entry tx
wanted_of tx (shown.Table id) = wanted.Table tx id
wanted_of tx (shown.Event id number) = wanted.Event tx id number

-- what is so of the names that `receipt` and `join` are given, and of what a receipt is wanted: an image, digests, a
-- part of a transaction or the digests themselves, and the name that the receipt is saved under
abbrev pub OfReceipt : Option Command → (List ℕ → List ℕ → Wanted → List ℕ → Type 0) → Type 0
OfReceipt (Some (Receipt image digests tx part save)) P = P image digests (wanted_of tx part) save
OfReceipt (Some (Join image digests save)) P = P image digests wanted.Chain save
OfReceipt words P = Unit {0}

-- what is so of the names that `check` is given
abbrev pub OfCheck : Option Command → (List ℕ → List ℕ → Type 0) → Type 0
OfCheck (Some (Check receipt digests)) P = P receipt digests
OfCheck words P = Unit {0}

-- what is so of what `asof` is given: the name of an image, how many of its transactions count, and the name of digests
abbrev pub OfAsOf : Option Command → (List ℕ → ℕ → Option (List ℕ) → Type 0) → Type 0
OfAsOf (Some (AsOf image n digests)) P = P image n digests
OfAsOf words P = Unit {0}

-- what is so of the text that is printed: help, or the version
abbrev pub OfTell : Option Command → (List ℕ → Type 0) → Type 0
OfTell (Some (Help which)) P = P (help_of which)
OfTell (Some Version) P = P version_line
OfTell words P = Unit {0}

-- the command reads the input
abbrev pub reads_input : Option Command → Bool
reads_input (Some (Step save journal how)) = true
reads_input (Some (Run save journal how)) = true
reads_input (Some (AsOf image n digests)) = true
reads_input words = false

-- the command puts files
abbrev pub puts_files : Option Command → Bool
puts_files (Some (Step save journal how)) = true
puts_files (Some (Run save journal how)) = true
puts_files (Some (Replay journal save)) = true
puts_files (Some (Upgrade image save)) = true
puts_files (Some (Receipt image digests tx part save)) = true
puts_files (Some (Join image digests save)) = true
puts_files words = false

-- the command may note what digests cover
abbrev pub notes_coverage : Option Command → Bool
notes_coverage (Some (Verify image digests workers covers)) = true
notes_coverage (Some (Extract honest suspect digests)) = true
notes_coverage (Some (AsOf image n digests)) = true
notes_coverage words = false
