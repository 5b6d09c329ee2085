pub mod Levels
mod Terminals
mod Leaves
mod NotEqual
mod Steps
mod ExprSound
mod RowSound
mod TableSound
mod LedgerSound
mod AlterSound
mod StmtSound
mod ExprFalls
mod ExprComplete
mod ParsesTo
mod RowComplete
mod TableComplete
mod LedgerComplete
mod AlterComplete
mod VersionsRead
pub mod StmtComplete
