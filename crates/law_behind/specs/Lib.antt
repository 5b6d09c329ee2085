pub mod AgreeBehind
pub mod Forgotten
pub mod OrderBehind
pub mod Past
