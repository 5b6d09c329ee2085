pub mod ChainReading
pub mod Chains
