pub mod AssigningId
pub mod Drew
pub mod LedgerMoves
pub mod LedgerSeen
