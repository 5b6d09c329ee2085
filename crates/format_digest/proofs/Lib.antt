mod Readings
mod Texts
mod Values
