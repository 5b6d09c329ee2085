mod Wanted
mod Worked
