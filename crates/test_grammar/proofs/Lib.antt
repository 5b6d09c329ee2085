mod Worked
mod Refused
