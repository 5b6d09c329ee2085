mod Faults
mod FewRows
mod FirstOfRuns
mod Happenings
mod InForce
mod Lists
mod Places
mod Rooted
mod SaidByRows
mod Sorted
mod TimesOfTables
mod Transactions
mod Verdicts
pub mod LeastParts
