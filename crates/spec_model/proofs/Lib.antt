mod Classed
pub mod Missing
mod Unknown
