pub mod BegunNames
pub mod GoneFree
pub mod JoinsStand
pub mod NoneWanting
pub mod RanFirst
pub mod Reorders
pub mod SameOpens
pub mod TheEnd
