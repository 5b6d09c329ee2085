pub mod AgreeAfter
pub mod Alls
pub mod Alterations
pub mod AtTable
pub mod BaseTables
pub mod Beside
pub mod BesideOne
pub mod ByKeys
pub mod ByTest
mod ChangesMade
pub mod Checked
pub mod Definitions
pub mod Filled
mod InsertedKeys
mod KeyPlaces
pub mod LeftAlone
pub mod LeftRows
pub mod LeftScripts
pub mod LeftTables
pub mod LegalRules
pub mod LegalSound
pub mod MappedRows
pub mod NamedPart
pub mod NextChange
pub mod NoClash
pub mod NoEvents
pub mod OtherTransactions
pub mod PlainRefusals
pub mod ChangeSets
mod SameAlone
pub mod SameEnds
pub mod SameKeys
pub mod SameChangeSet
mod SameScripts
pub mod SameTouched
pub mod SoundStatements
pub mod Sounds
pub mod StepByStep
pub mod UndoneScripts
pub mod UndoneTables
pub mod UndoneVersions
pub mod UndoneWhole
pub mod UpdateKeys
pub mod WholeScripts
