pub mod Texts
pub mod Workload
