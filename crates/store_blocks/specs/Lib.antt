pub mod Closings
pub mod LedgerChain
