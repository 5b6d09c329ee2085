mod Codes
mod Escapes
mod Lines
mod Shown
