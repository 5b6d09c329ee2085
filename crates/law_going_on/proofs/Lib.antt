mod Begun
mod Reorders
mod SetupFirst
mod TheEnd
mod Whose
