pub mod ChainExact
